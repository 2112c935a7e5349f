-- The laws of queries as of an instant.
use Rattle.std.proofs.Common.{◌≡◌, ℕ, ◌<◌, ◌≤◌, Bool, true, false, cond, ◌&&◌, List, [], ◌∷◌, ◌++◌, Option, Some, None, refl, sym, ap, subst, ◌∙◌, arith, nat_lt, nat_le, is_none, filter, filter_map, map}
use Rattle.std.proofs.lemmas.Bool.Decides.{nat_tests}
use Rattle.values.specs.declared.query.Form.TheVariants.{Plain, AsOf}
use Rattle.values.specs.declared.key.Key.{Key}
use Rattle.values.specs.Order.{is_key}
use Rattle.values.specs.Log.{Log, State, Row, Changes, add_all, changes, replay, state, upto, last_from}
use Rattle.values.specs.Versions.{Version, next_change, version_of, versions, ends_after, selects, matches, shown_version}
use Rattle.values.specs.Law.{Rises, rows_by, StateIsAsOf, StateIsCurrent, AsOfShowsState, AsOfStays, AsOfIsWidened}
use Rattle.values.specs.declared.query.Keys.{Keys}
use Rattle.values.specs.WiderTable.{IsWidenedTo}
use Rattle.values.proofs.ColumnsWiden.{full_twice}
use Rattle.values.specs.declared.table.Table.{Table}
use Rattle.values.specs.Tables.{full_row}
use Rattle.values.proofs.OrderTotal.{key_cmp_total, key_cmp-IsAntisymmetric}
use Rattle.values.proofs.LogMaps.{same_map}
use Rattle.values.proofs.LogLatest.{Upto, Upto-more}
use Rattle.values.proofs.LogStates.{state_matches, Upto-net}
use Rattle.values.proofs.VersionsShow.{row_at-rows_by, sorted-rows_by}

pub state_is_as_of : StateIsAsOf
state_is_as_of log t is_log =
    let h = state_matches log t is_log in
    same_map key_cmp_total key_cmp-IsAntisymmetric (state log t) (rows_by (changes log) (AsOf t)) h.by_key (sorted-rows_by (changes log) t h.in_order)
    (λ q. sym (h.alike q) ∙ sym (row_at-rows_by (changes log) t q h.in_order))

-- ---- what has not ended

next_upto : (m : Changes) (q : Key) (i t : ℕ) → Upto t m → ends_after (next_change m q i) t ≡ is_none (next_change m q i)
next_upto [] q i t up = refl
next_upto (c ∷ cs) q i t up =
    elim (is_key q c.0.key && nat_lt i c.0.instant) as (λ b. ends_after (cond b (Some c.0.instant) (next_change cs q i)) t ≡ is_none (cond b (Some c.0.instant) (next_change cs q i))) [
      | true ↦ let le : c.0.instant ≤ t = up.0 in grind (arith, nat_tests)
      | false ↦ next_upto cs q i t up.1
    ]

alike_from : (from t : ℕ) (o : Option ℕ) → from ≤ t → ends_after o t ≡ is_none o → selects (AsOf t) from o ≡ selects Plain from o
alike_from from t o le same = ap (λ b. b && ends_after o t) (early from t le) ∙ same
  where
    early : (i t : ℕ) → i ≤ t → nat_le i t ≡ true
    early i t le = grind (arith, nat_tests)

-- where no change is past t, what stands at t is what has not ended
same_selected : (m cs : Changes) (t : ℕ) → Upto t m → Upto t cs
    → filter (λ v. selects (AsOf t) v.from v.to) (filter_map (version_of m) cs) ≡ filter (λ v. selects Plain v.from v.to) (filter_map (version_of m) cs)
same_selected m [] t all up = refl
same_selected m ((p, None) ∷ cs) t all up = same_selected m cs t all up.1
same_selected m ((p, Some row) ∷ cs) t all up =
    λ i. cond (alike_from p.instant t (next_change m p.key p.instant) up.0 (next_upto m p.key p.instant t all) i)
    (record { key = p.key; row = row; from = p.instant; to = next_change m p.key p.instant } ∷ same_selected m cs t all up.1 i) (same_selected m cs t all up.1 i)

pub plain_is_as_of : (m : Changes) (t : ℕ) → Upto t m → rows_by m (AsOf t) ≡ rows_by m Plain
plain_is_as_of m t up = ap (map (λ (v : Version). (v.key, v.row))) (same_selected m m t up up)

-- ---- the transactions up to an instant

decided : {P : Type 0} (i t : ℕ) (b : Bool) → nat_le i t ≡ b → (i ≤ t → b ≡ true → P) → (t < i → b ≡ false → P) → P
decided i t true e early late = early (grind (arith, nat_tests)) refl
decided i t false e early late = late (grind (arith, nat_tests)) refl

Rises-less : (log : Log) (m n : ℕ) → m ≤ n → Rises n log → Rises m log
Rises-less [] m n h r = tt
Rises-less (u ∷ log) m n h r = (let lt : n < u.instant = r.0 in omega arith, r.1)

pub Rises-upto : (log : Log) (n t : ℕ) → Rises n log → Rises n (upto log t)
Rises-upto [] n t r = tt
Rises-upto (u ∷ log) n t r =
    elim (nat_le u.instant t) as (λ b. Rises n (cond b (u ∷ upto log t) (upto log t))) [
      | true ↦ (r.0, Rises-upto log u.instant t r.1)
      | false ↦ Rises-less (upto log t) n u.instant (let lt : n < u.instant = r.0 in omega arith) (Rises-upto log u.instant t r.1)
    ]

all_upto : (log : Log) (m : Changes) (n t : ℕ) → n ≤ t → Rises n log → Upto n m → Upto t (add_all m (upto log t))
all_upto [] m n t le r up = Upto-more m n t le up
all_upto (u ∷ log) m n t le r up =
    decided u.instant t (nat_le u.instant t) refl
    (λ early is. subst (λ b. Upto t (add_all m (cond b (u ∷ upto log t) (upto log t)))) (sym is)
    (all_upto log _ u.instant t early r.1 (Upto-net u.net u.instant m (Upto-more m n u.instant (let lt : n < u.instant = r.0 in omega arith) up))))
    (λ late is. subst (λ b. Upto t (add_all m (cond b (u ∷ upto log t) (upto log t)))) (sym is)
    (all_upto log m n t le (Rises-less log n u.instant (let lt : n < u.instant = r.0 in omega arith) r.1) up))

upto_upto : (log : Log) (t : ℕ) → upto (upto log t) t ≡ upto log t
upto_upto [] t = refl
upto_upto (u ∷ log) t =
    decided u.instant t (nat_le u.instant t) refl
    (λ early is. subst (λ b. upto (cond b (u ∷ upto log t) (upto log t)) t ≡ cond b (u ∷ upto log t) (upto log t)) (sym is)
    (ap (λ b. cond b (u ∷ upto (upto log t) t) (upto (upto log t) t)) is ∙ ap (λ l. u ∷ l) (upto_upto log t)))
    (λ late is. subst (λ b. upto (cond b (u ∷ upto log t) (upto log t)) t ≡ cond b (u ∷ upto log t) (upto log t)) (sym is) (upto_upto log t))

pub state_is_current : StateIsCurrent
state_is_current log t is_log =
    sym (ap (replay []) (upto_upto log t)) ∙ state_is_as_of (upto log t) t (Rises-upto log 0 t is_log) ∙ plain_is_as_of (changes (upto log t)) t (all_upto log [] 0 t (omega arith) is_log tt)

-- ---- what a query shows

abbrev pairs : List Version → State
pairs vs = map (λ v. (v.key, v.row)) vs

module _ (table : Table) where
  abbrev taken : (Key → Bool) → State → List Row
  taken is m = map (λ e. full_row table e.1) (filter (λ e. is e.0) m)

  abbrev rows_of : List Version → List Row
  rows_of vs = map (λ s. s.row) (map (shown_version table) vs)

  taken_row : (b c : Bool) (v : Version) (is : Key → Bool) (xs ys : List Version) → is v.key ≡ b → rows_of xs ≡ taken is (pairs ys)
      → rows_of (cond (b && c) (v ∷ xs) xs) ≡ taken is (pairs (cond c (v ∷ ys) ys))
  taken_row true true v is xs ys e rest = ap (λ l. full_row table v.row ∷ l) rest ∙ sym (ap (λ b. map (λ e. full_row table e.1) (cond b ((v.key, v.row) ∷ filter (λ e. is e.0) (pairs ys)) (filter (λ e. is e.0) (pairs ys)))) e)
  taken_row true false v is xs ys e rest = rest
  taken_row false true v is xs ys e rest = rest ∙ sym (ap (λ b. map (λ e. full_row table e.1) (cond b ((v.key, v.row) ∷ filter (λ e. is e.0) (pairs ys)) (filter (λ e. is e.0) (pairs ys)))) e)
  taken_row false false v is xs ys e rest = rest

  taken_rows : (vs : List Version) (t : ℕ) (is : Key → Bool) → rows_of (filter (λ v. is v.key && selects (AsOf t) v.from v.to) vs) ≡ taken is (pairs (filter (λ v. selects (AsOf t) v.from v.to) vs))
  taken_rows [] t is = refl
  taken_rows (v ∷ vs) t is = taken_row (is v.key) (selects (AsOf t) v.from v.to) v is _ _ refl (taken_rows vs t is)

pub as_of_shows_state : AsOfShowsState
as_of_shows_state log t table keys is_log = taken_rows table (versions (changes log)) t (matches table keys) ∙ ap (λ (s : State). map (λ e. full_row table e.1) (filter (λ e. matches table keys e.0) s)) (sym (state_is_as_of log t is_log))

-- ---- what comes later

upto_none : (later : Log) (n t : ℕ) → t ≤ n → Rises n later → upto later t ≡ []
upto_none [] n t h r = refl
upto_none (u ∷ later) n t h r =
    let lt : n < u.instant = r.0 in
    decided u.instant t (nat_le u.instant t) refl
    (λ early is. absurd (omega arith))
    (λ late is. ap (λ b. cond b (u ∷ upto later t) (upto later t)) is ∙ upto_none later u.instant t (omega arith) r.1)

pub Rises-rest : (log later : Log) (n : ℕ) → Rises n (log ++ later) → Rises (last_from n log) later
Rises-rest [] later n r = r
Rises-rest (u ∷ log) later n r = Rises-rest log later u.instant r.1

pub Rises-front : (log later : Log) (n : ℕ) → Rises n (log ++ later) → Rises n log
Rises-front [] later n r = tt
Rises-front (u ∷ log) later n r = (r.0, Rises-front log later u.instant r.1)

pub upto-append : (log later : Log) (n t : ℕ) → t ≤ last_from n log → Rises n (log ++ later) → upto (log ++ later) t ≡ upto log t
upto-append [] later n t h r = upto_none later n t h r
upto-append (u ∷ log) later n t h r = ap (λ (l : Log). cond (nat_le u.instant t) (u ∷ l) l) (upto-append log later u.instant t h r.1)

pub as_of_stays : AsOfStays
as_of_stays log later t table keys is_log h =
    as_of_shows_state (log ++ later) t table keys is_log
    ∙ ap (λ (l : Log). map (λ e. full_row table e.1) (filter (λ e. matches table keys e.0) (replay [] l))) (upto-append log later 0 t h is_log)
    ∙ sym (as_of_shows_state log t table keys (Rises-front log later 0 is_log))

-- ---- of a table that has got columns

same_keys : (table wider : Table) (keys : Keys) → IsWidenedTo table wider → ◌≡◌ {A = Key → Bool} (λ key. matches wider keys key) (λ key. matches table keys key)
same_keys table wider keys grows = ap (λ ks. λ (key : Key). matches (record table { key = ks }) keys key) grows.key_is

shown_twice : (table wider : Table) (s : State) → IsWidenedTo table wider → map (λ e. full_row wider e.1) s ≡ map (full_row wider) (map (λ e. full_row table e.1) s)
shown_twice table wider [] grows = refl
shown_twice table wider (e ∷ s) grows = λ i. sym (full_twice table wider e.1 grows) i ∷ shown_twice table wider s grows i

pub as_of_is_widened : AsOfIsWidened
as_of_is_widened log later t table wider keys is_log h grows =
    as_of_shows_state (log ++ later) t wider keys is_log
    ∙ ap (λ (l : Log). map (λ e. full_row wider e.1) (filter (λ e. matches wider keys e.0) (replay [] l))) (upto-append log later 0 t h is_log)
    ∙ ap (λ (is : Key → Bool). map (λ e. full_row wider e.1) (filter (λ e. is e.0) (state log t))) (same_keys table wider keys grows)
    ∙ shown_twice table wider (filter (λ e. matches table keys e.0) (state log t)) grows
    ∙ ap (map (full_row wider)) (sym (as_of_shows_state log t table keys (Rises-front log later 0 is_log)))
