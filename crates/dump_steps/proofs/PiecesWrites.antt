-- A row is inserted, whole or in pieces.
use Rattle.std.proofs.Common.{◌≡◌, ℕ, ◌≤◌, Bool, true, false, cond, List, [], ◌∷◌, Option, Some, None, refl, ap, ◌∙◌, arith, length, map, nat_lt}
use Rattle.std.specs.Prelude.{Ok, Err, filter, if◌then◌else◌}
use Rattle.std.proofs.lemmas.Bool.Decides.{nat_tests}
use Rattle.std.specs.List.{AllByRecursion}
use Rattle.std.specs.Ordering.{is_eq, match_ordering}
use Rattle.std.specs.declared.cmp.Ordering.{Ordering}
use Rattle.std.specs.declared.cmp.Ordering.TheVariants.{Less, Equal, Greater}
use Rattle.std.specs.BTreeMap.{insert_entry}
use Rattle.std.specs.BTreeSet.{insert_key}
use Rattle.values.specs.declared.key.Key.{Key}
use Rattle.values.specs.declared.query.Keys.{Keys}
use Rattle.values.specs.declared.query.Set.{Set}
use Rattle.values.specs.declared.refusal.Refusal.TheVariants.{TooManyWrites}
use Rattle.values.specs.declared.table.Table.{Table}
use Rattle.values.specs.Order.{key_cmp, is_key}
use Rattle.values.specs.Log.{Row, State, row_at}
use Rattle.values.specs.Tables.{full_row}
use Rattle.values.specs.Versions.{matches}
use Rattle.values.specs.Writes.{Own, Written, most_written, set_all, update_in, update_rows, write_keys}
use Rattle.periods.proofs.NoOverlapMerge.{itself}
use Rattle.restoring.specs.Rebuilt.{with_row}
use Rattle.restoring.specs.OneKey.{MayWrite, TakesOne}

-- ---- the row of a key that is alone

module _ (k : Key) where
  -- a key without a row is none of the entries'
  missed : (e : Key × Row) (m : State) → row_at (e ∷ m) k ≡ None → (is_key k e.0 ≡ false) × (row_at m k ≡ None)
  missed e m none = by (is_key k e.0) refl none
    where
      by : (b : Bool) → is_key k e.0 ≡ b → ◌≡◌ {A = Option Row} (cond b (Some e.1) (row_at m k)) None → (is_key k e.0 ≡ false) × (row_at m k ≡ None)
      by true is none = cc
      by false is none = (is, none)

  found_none : (m : State) → row_at m k ≡ None → filter (λ e. is_key k e.0) m ≡ []
  found_none [] none = refl
  found_none (e ∷ m) none =
      let parts = missed e m none in
      ap (λ b. cond b (e ∷ filter (λ e. is_key k e.0) m) (filter (λ e. is_key k e.0) m)) parts.0 ∙ found_none m parts.1

  clash : {A : Type 0} (o : Ordering) → o ≡ Equal → is_eq o ≡ false → A
  clash Less e f = cc
  clash Equal e f = cc
  clash Greater e f = cc

  found_one : (m : State) (r : Row) → row_at m k ≡ None → filter (λ e. is_key k e.0) (insert_entry key_cmp m k r) ≡ (k, r) ∷ []
  found_one [] r none = ap (λ b. cond b ((k, r) ∷ []) []) (itself k)
  found_one (e ∷ m) r none = by (key_cmp k e.0) refl (found_one m r parts.1)
    where
      parts : (is_key k e.0 ≡ false) × (row_at m k ≡ None)
      parts = missed e m none

      by : (o : Ordering) → key_cmp k e.0 ≡ o → filter (λ e. is_key k e.0) (insert_entry key_cmp m k r) ≡ (k, r) ∷ []
          → filter (λ e. is_key k e.0) (match_ordering o ((k, r) ∷ e ∷ m) ((e.0, r) ∷ m) (e ∷ insert_entry key_cmp m k r)) ≡ (k, r) ∷ []
      by Less at rest =
          ap (λ b. cond b ((k, r) ∷ filter (λ e. is_key k e.0) (e ∷ m)) (filter (λ e. is_key k e.0) (e ∷ m))) (itself k)
          ∙ ap (λ l. (k, r) ∷ l) (found_none (e ∷ m) none)
      by Equal at rest = clash (key_cmp k e.0) at parts.0
      by Greater at rest =
          ap (λ b. cond b (e ∷ filter (λ e. is_key k e.0) (insert_entry key_cmp m k r)) (filter (λ e. is_key k e.0) (insert_entry key_cmp m k r))) parts.0 ∙ rest

  module _ (f : Row → Row) where
    abbrev change : Key × Row → Key × Row
    change e = if is_key k e.0 then (e.0, f e.1) else e

    changed_none : (m : State) → row_at m k ≡ None → map change m ≡ m
    changed_none [] none = refl
    changed_none (e ∷ m) none =
        let parts = missed e m none in
        λ i. (ap (λ b. cond {A = Key × Row} b (e.0, f e.1) e) parts.0) i ∷ changed_none m parts.1 i

    changed_one : (m : State) (r : Row) → row_at m k ≡ None → map change (insert_entry key_cmp m k r) ≡ insert_entry key_cmp m k (f r)
    changed_one [] r none = ap (λ b. cond {A = Key × Row} b (k, f r) (k, r) ∷ []) (itself k)
    changed_one (e ∷ m) r none = by (key_cmp k e.0) refl (changed_one m r parts.1)
      where
        parts : (is_key k e.0 ≡ false) × (row_at m k ≡ None)
        parts = missed e m none

        by : (o : Ordering) → key_cmp k e.0 ≡ o → map change (insert_entry key_cmp m k r) ≡ insert_entry key_cmp m k (f r)
            → map change (match_ordering o ((k, r) ∷ e ∷ m) ((e.0, r) ∷ m) (e ∷ insert_entry key_cmp m k r)) ≡ match_ordering o ((k, f r) ∷ e ∷ m) ((e.0, f r) ∷ m) (e ∷ insert_entry key_cmp m k (f r))
        by Less at rest = λ i. (ap (λ b. cond {A = Key × Row} b (k, f r) (k, r)) (itself k)) i ∷ changed_none (e ∷ m) none i
        by Equal at rest = clash (key_cmp k e.0) at parts.0
        by Greater at rest = λ i. (ap (λ b. cond {A = Key × Row} b (e.0, f e.1) e) parts.0) i ∷ rest i

  -- a key in front of others is there already
  in_front : (ls : List Key) → insert_key key_cmp (k ∷ ls) k ≡ k ∷ ls
  in_front ls = by (key_cmp k k) (itself k)
    where
      by : (o : Ordering) → is_eq o ≡ true → match_ordering o (k ∷ k ∷ ls) (k ∷ ls) (k ∷ insert_key key_cmp ls k) ≡ k ∷ ls
      by Less e = cc
      by Equal e = refl
      by Greater e = cc

  inserted_twice : (ls : List Key) → insert_key key_cmp (insert_key key_cmp ls k) k ≡ insert_key key_cmp ls k
  inserted_twice [] = in_front []
  inserted_twice (l ∷ ls) = by (key_cmp k l) refl (inserted_twice ls)
    where
      by : (o : Ordering) → key_cmp k l ≡ o → insert_key key_cmp (insert_key key_cmp ls k) k ≡ insert_key key_cmp ls k
          → insert_key key_cmp (match_ordering o (k ∷ l ∷ ls) (l ∷ ls) (l ∷ insert_key key_cmp ls k)) k ≡ match_ordering o (k ∷ l ∷ ls) (l ∷ ls) (l ∷ insert_key key_cmp ls k)
      by Less at rest = in_front (l ∷ ls)
      by Equal at rest = ap (λ o. match_ordering o (k ∷ l ∷ ls) (l ∷ ls) (l ∷ insert_key key_cmp ls k)) at
      by Greater at rest = ap (λ o. match_ordering o (k ∷ l ∷ insert_key key_cmp ls k) (l ∷ insert_key key_cmp ls k) (l ∷ insert_key key_cmp (insert_key key_cmp ls k) k)) at ∙ ap (λ r. l ∷ r) rest

-- ---- an UPDATE of a row that was inserted

met_alike : (p q : Key → Bool) (m : State) → AllByRecursion (λ e. p e.0 ≡ q e.0) m → filter (λ e. p e.0) m ≡ filter (λ e. q e.0) m
met_alike p q [] same = refl
met_alike p q (e ∷ m) same = λ i. cond (same.0 i) (e ∷ met_alike p q m same.1 i) (met_alike p q m same.1 i)

left_alike : (p q : Key → Bool) (f : Row → Row) (m : State) → AllByRecursion (λ e. p e.0 ≡ q e.0) m → map (λ e. if p e.0 then (e.0, f e.1) else e) m ≡ map (λ e. if q e.0 then (e.0, f e.1) else e) m
left_alike p q f [] same = refl
left_alike p q f (e ∷ m) same = λ i. (if same.0 i then (e.0, f e.1) else e) ∷ left_alike p q f m same.1 i

few : (n : ℕ) → n ≤ most_written → nat_lt most_written n ≡ false
few n le = grind (arith, nat_tests)

pub row_is_updated : (table : Table) (keys : Keys) (sets : List Set) (key : Key) (row : Row) (o : Own) → row_at o.rows key ≡ None → TakesOne table keys key (with_row key row o).rows → MayWrite o key
    → update_in table keys sets (with_row key row o) ≡ (Ok 1, with_row key (set_all sets (full_row table row)) o)
row_is_updated table keys sets key row o none one room =
    (λ i. write_keys (map (λ e. e.0) (met i)) (length (map (λ e. e.0) (met i))) (rows i) (with_row key row o))
    ∙ (λ i. if nat_lt most_written (length (written i)) then (Err TooManyWrites, with_row key row o) else (Ok 1, record { rows = insert_entry key_cmp o.rows key (set_all sets (full_row table row)); written = written i }))
    ∙ ap (λ b. let w : Written = if b then (Err TooManyWrites, with_row key row o) else (Ok 1, with_row key (set_all sets (full_row table row)) o) in w) (few (length (insert_key key_cmp o.written key)) room)
  where
    met : filter (λ e. matches table keys e.0) (with_row key row o).rows ≡ (key, row) ∷ []
    met = met_alike (matches table keys) (is_key key) (with_row key row o).rows one ∙ found_one key o.rows row none

    rows : update_rows table keys sets (with_row key row o).rows ≡ insert_entry key_cmp o.rows key (set_all sets (full_row table row))
    rows =
        left_alike (matches table keys) (is_key key) (λ r. set_all sets (full_row table r)) (with_row key row o).rows one
        ∙ changed_one key (λ r. set_all sets (full_row table r)) o.rows row none

    written : insert_key key_cmp (insert_key key_cmp o.written key) key ≡ insert_key key_cmp o.written key
    written = inserted_twice key o.written
