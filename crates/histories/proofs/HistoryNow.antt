-- The rows that the changes leave are the state at the last instant.
use Rattle.std.proofs.Common.{◌≡◌, ℕ, ◌<◌, ◌≤◌, Bool, true, false, cond, ◌&&◌, T, [], ◌∷◌, Option, Some, None, refl, sym, ap, ◌∙◌, arith, nat_le, is_some}
use Rattle.std.proofs.lemmas.Bool.Decides.{nat_tests}
use Rattle.std.specs.Option.{option_flatten}
use Rattle.std.specs.FinMap.{is_sorted}
use Rattle.values.specs.declared.key.Key.{Key}
use Rattle.values.specs.Order.{key_cmp, is_key}
use Rattle.values.specs.Log.{Log, State, Row, Changes, changes, add_all, state, last, last_from, row_at}
use Rattle.values.specs.Law.{Rises, IsLog}
use Rattle.values.proofs.OrderTotal.{key_cmp_total, key_cmp-IsAntisymmetric}
use Rattle.values.proofs.LogMaps.{same_map}
use Rattle.values.proofs.LogStates.{state_matches, row_at-set_row, sorted_set_row, Upto-net}
use Rattle.values.proofs.LogLatest as last
use Rattle.values.proofs.LogLatest.{Upto, Upto-more}
use Rattle.values.specs.RowsAfter.{rows_after}
use Rattle.values.specs.Events.{later}
use Rattle.histories.specs.Turn.{last_until, was_there}

-- ---- all changes made in turn

abbrev pub over : Option (Option Row) → Option Row → Option Row
over None row = row
over (Some change) row = change

over_step : (b : Bool) (v : Option Row) (x : Option (Option Row)) (row : Option Row) → over x (cond b v row) ≡ over (last.later x (cond b (Some v) None)) row
over_step true v None row = refl
over_step true v (Some x) row = refl
over_step false v None row = refl
over_step false v (Some x) row = refl

in_time : (b : Bool) (i t : ℕ) → i ≤ t → (b && nat_le i t) ≡ b
in_time true i t h = grind (arith, nat_tests)
in_time false i t h = refl

pub row_after : (m : Changes) (s : State) (t : ℕ) (q : Key) → Upto t m → T (is_sorted key_cmp s) → row_at (rows_after s m) q ≡ over (last.latest m t q) (row_at s q)
row_after [] s t q up h = refl
row_after (c ∷ cs) s t q up h =
    row_after cs _ t q up.1 (sorted_set_row c.0.key c.1 s h) ∙ ap (over (last.latest cs t q)) (row_at-set_row q c.0.key c.1 s h)
    ∙ over_step (is_key q c.0.key) c.1 (last.latest cs t q) (row_at s q)
    ∙ ap (λ b. over (last.later (last.latest cs t q) (cond b (Some c.1) None)) (row_at s q)) (sym (in_time (is_key q c.0.key) c.0.instant t up.0))

sorted_after : (m : Changes) (s : State) → T (is_sorted key_cmp s) → T (is_sorted key_cmp (rows_after s m))
sorted_after [] s h = h
sorted_after (c ∷ cs) s h = sorted_after cs _ (sorted_set_row c.0.key c.1 s h)

none_later : (log : Log) (m : Changes) (n : ℕ) → Rises n log → Upto n m → Upto (last_from n log) (add_all m log)
none_later [] m n r up = up
none_later (u ∷ log) m n r up = none_later log _ u.instant r.1 (Upto-net u.net u.instant m (Upto-more m n u.instant (let lt : n < u.instant = r.0 in omega arith) up))

pub flat : (x : Option (Option Row)) → over x None ≡ option_flatten x
flat None = refl
flat (Some x) = refl

-- what a transaction sees that begins now
pub rows_now : (log : Log) → IsLog log → rows_after [] (changes log) ≡ state log (last log)
rows_now log is_log =
    let matches = state_matches log (last log) is_log in
    same_map key_cmp_total key_cmp-IsAntisymmetric (rows_after [] (changes log)) (state log (last log)) (sorted_after (changes log) [] tt) matches.by_key
    (λ q. row_after (changes log) [] (last log) q (none_later log [] 0 is_log tt) tt ∙ flat (last.latest (changes log) (last log) q) ∙ matches.alike q)

-- ---- what was there

abbrev pub value : Option (ℕ × Option Row) → Option (Option Row)
value None = None
value (Some c) = Some c.1

value_step : (b : Bool) (i : ℕ) (v : Option Row) (x : Option (ℕ × Option Row)) → last.later (value x) (cond b (Some v) None) ≡ value (later x (cond b (Some (i, v)) None))
value_step true i v None = refl
value_step false i v None = refl
value_step b i v (Some d) = refl

pub last_value : (m : Changes) (t : ℕ) (q : Key) → last.latest m t q ≡ value (last_until m t q)
last_value [] t q = refl
last_value (c ∷ cs) t q = ap (λ x. last.later x (cond (is_key q c.0.key && nat_le c.0.instant t) (Some c.1) None)) (last_value cs t q) ∙ value_step (is_key q c.0.key && nat_le c.0.instant t) c.0.instant c.1 (last_until cs t q)

pub there : (x : Option (ℕ × Option Row)) → elim x [ Some c ↦ is_some c.1 | None ↦ false ] ≡ is_some (option_flatten (value x))
there None = refl
there (Some c) = refl

-- a key was there where the state then has it
pub was_there_is : (log : Log) (t : ℕ) (q : Key) → IsLog log → was_there (changes log) t q ≡ is_some (row_at (state log t) q)
was_there_is log t q is_log = there (last_until (changes log) t q) ∙ ap (λ x. is_some (option_flatten x)) (sym (last_value (changes log) t q)) ∙ ap is_some ((state_matches log t is_log).alike q)
