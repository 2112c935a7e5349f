-- The net change of a transaction that is made again.
use Rattle.std.proofs.Common.{◌≡◌, ℕ, ◌<◌, ◌≤◌, ◌+◌, Bool, true, false, cond, ◌&&◌, ◌||◌, [], ◌∷◌, Some, None, refl, ap, ◌∙◌, map, filter, length, arith}
use Rattle.std.specs.Prelude.{is_some, nat_lt, max, Ok, Err, if◌then◌else◌}
use Rattle.std.specs.List.{cons_option, AllByRecursion}
use Rattle.std.specs.Option.{option_map}
use Rattle.std.specs.Map.{keys_of}
use Rattle.std.proofs.lemmas.Bool.Decides.{nat_tests}
use Rattle.values.specs.declared.key.Key.{Key}
use Rattle.values.specs.Order.{is_key}
use Rattle.values.specs.Log.{Changes, Log, Net, State, row_at, last, last_from, add_all, add_net, changes}
use Rattle.values.specs.Law.{Rises}
use Rattle.values.specs.Period.{Periods}
use Rattle.values.specs.Entity.{unit_of}
use Rattle.values.specs.Commits.{log_after, outcome, conflicts_by, by_unit, changed_among, unit_changed_since, latest_of, max_instant}
use Rattle.values.specs.Writes.{net_of}
use Rattle.values.proofs.LogLatest.{Upto, Upto-more}
use Rattle.values.proofs.LogStates.{Upto-net}
use Rattle.restoring.specs.Rebuilt.{rebuilt, clear, untouched, NetIsRebuilt, TransactionIsAdded}
use Rattle.restoring.proofs.RebuiltRows.{cleared_order, filled, none_left}
use Rattle.restoring.proofs.RebuiltKeys.{written_keys}
use Rattle.values.specs.declared.refusal.Refusal.TheVariants.{ClockEnd, Conflict}

-- ---- the net change

again : (now : State) (net : Net) → AllByRecursion (λ c. row_at now c.0 ≡ c.1) net → map (λ k. (k, row_at now k)) (keys_of net) ≡ net
again now [] are = refl
again now (c ∷ net) are = λ i. (c.0, are.0 i) ∷ again now net are.1 i

all_stay : (m : State) (net : Net) → AllByRecursion (λ c. (is_some c.1 || is_some (row_at m c.0)) ≡ true) net → filter (λ c. is_some c.1 || is_some (row_at m c.0)) net ≡ net
all_stay m [] there = refl
all_stay m (c ∷ net) there = λ i. cond (there.0 i) (c ∷ all_stay m net there.1 i) (all_stay m net there.1 i)

pub net_is_rebuilt : NetIsRebuilt
net_is_rebuilt m net h is =
    ap (net_of m (rebuilt m net).rows) (written_keys m net h is)
    ∙ ap (filter (λ c. is_some c.1 || is_some (row_at m c.0)))
    (again (rebuilt m net).rows net (filled net (clear net (untouched m)) (cleared_order net (untouched m) h) is.in_order (none_left net (untouched m) h)))
    ∙ all_stay m net is.there

-- ---- its commit

none_after : (test : Key → Bool) (m : Changes) (s : ℕ) → Upto s m → changed_among test m s ≡ None
none_after test [] s up = refl
none_after test (c ∷ cs) s up =
    (λ i. latest_of (none_after test cs s up.1 i) (if by (test c.0.key) (early c.0.instant up.0) i then Some c.0.instant else None))
  where
    early : (n : ℕ) → n ≤ s → nat_lt s n ≡ false
    early n le = grind (arith, nat_tests)

    by : (b : Bool) {x : Bool} → x ≡ false → (b && x) ≡ false
    by true e = e
    by false e = refl

no_conflict : (periods : Periods) (m : Changes) (s : ℕ) (net : Net) → Upto s m → conflicts_by (unit_changed_since periods m s) net ≡ []
no_conflict periods m s [] up = refl
no_conflict periods m s (c ∷ net) up =
    (λ i. cons_option (option_map (λ instant. (c.0, instant)) (none_after (λ k. is_key c.0 (unit_of periods k)) m s up i)) (conflicts_by (unit_changed_since periods m s) net))
    ∙ no_conflict periods m s net up

upto_last : (log : Log) (n : ℕ) (m : Changes) → Rises n log → Upto n m → Upto (last_from n log) (add_all m log)
upto_last [] n m rises up = up
upto_last (u ∷ log) n m rises up =
    upto_last log u.instant (add_net u.instant m u.net) rises.1
    (Upto-net u.net u.instant m (Upto-more m n u.instant (let lt : n < u.instant = rises.0 in omega arith) up))

ended : (periods : Periods) (m : Changes) (latest : ℕ) (net : Net) (reading : ℕ) → Upto latest m → latest < reading → reading ≤ max_instant → 0 < length net → outcome periods m latest latest net reading ≡ Ok (Some reading)
ended periods m latest [] reading up later within some = absurd (omega arith)
ended periods m latest (c ∷ net) reading up later within some =
    (λ i. elim (no_conflict periods m latest (by_unit periods (c ∷ net)) up i) [
      | first ∷ others ↦ Err (Conflict first.0 first.1)
      | [] ↦ if nat_lt max_instant (max reading (latest + 1)) then Err ClockEnd else Ok (Some (max reading (latest + 1)))
    ])
    ∙ (λ i. if nat_lt max_instant (is i) then Err ClockEnd else Ok (Some (is i)))
    ∙ ap (λ b. if b then Err ClockEnd else Ok (Some reading)) inside
  where
    is : max reading (latest + 1) ≡ reading
    is = grind (arith, nat_tests, later)

    inside : nat_lt max_instant reading ≡ false
    inside = grind (arith, nat_tests, within)

pub transaction_is_added : TransactionIsAdded
transaction_is_added periods log t rises later within some =
    ap (log_after log t.net) (ended periods (changes log) (last log) t.net t.instant (upto_last log 0 [] rises tt) later within some)
