-- What is not among the keys that a statement wrote is as it was.
use Rattle.std.proofs.Common.{◌≡◌, ℕ, Bool, true, false, cond, List, [], ◌∷◌, ◌++◌, Option, Some, None, refl, sym, ap, ◌∙◌, not, map, length, nat_lt}
use Rattle.std.specs.Prelude.{filter, if◌then◌else◌, Ok, Err}
use Rattle.std.specs.List.{list_any}
use Rattle.std.specs.Option.{option_map}
use Rattle.std.specs.Ordering.{match_ordering}
use Rattle.std.specs.declared.cmp.Ordering.{Ordering}
use Rattle.std.specs.declared.cmp.Ordering.TheVariants.{Less, Equal, Greater}
use Rattle.std.specs.BTreeMap.{insert_entry}
use Rattle.std.specs.BTreeSet.{insert_key}
use Rattle.values.specs.declared.period.Period.{Period}
use Rattle.values.specs.declared.period.Span.{Span}
use Rattle.values.specs.declared.key.Key.{Key}
use Rattle.values.specs.declared.table.Table.{Table}
use Rattle.values.specs.declared.query.Keys.{Keys}
use Rattle.values.specs.declared.query.Set.{Set}
use Rattle.values.specs.declared.refusal.Refusal.TheVariants.{DuplicateKey, TooManyWrites, Overlap}
use Rattle.values.specs.Order.{key_cmp, is_key}
use Rattle.values.specs.Log.{State, Row, row_at}
use Rattle.values.specs.Tables.{full_row}
use Rattle.values.specs.Fit.{first_of}
use Rattle.values.specs.Versions.{matches}
use Rattle.values.specs.Writes.{Own, Written, most_written, key_of, set_all, insert_all, insert_rows, update_rows, delete_rows, write_keys, add_keys, duplicate, overlapping, matching_keys, insert_into, update_in, delete_from}
use Rattle.values.specs.Portion.{change_portion, portion_in, portion_keys, taken, not_taken, is_taken, all_left}
use Rattle.values.proofs.OrderTotal.{key_cmp_total, key_cmp-IsAntisymmetric}
use Rattle.values.proofs.LogMaps.{lookup-insert_entry}
use Rattle.periods.proofs.NoOverlapApart.{or_first, or_second, or_none}

-- a key that is not among those that are added, nor among the keys before, is not among all
among_inserted : (q k : Key) (ls : List Key) → list_any (is_key q) (insert_key key_cmp ls k) ≡ false → (is_key q k ≡ false) × (list_any (is_key q) ls ≡ false)
among_inserted q k [] none = (or_first (is_key q k) _ none, refl)
among_inserted q k (l ∷ ls) none = by (key_cmp k l) refl none (among_inserted q k ls)
  where
    by : (o : Ordering) → key_cmp k l ≡ o → list_any (is_key q) (match_ordering o (k ∷ l ∷ ls) (l ∷ ls) (l ∷ insert_key key_cmp ls k)) ≡ false
        → (list_any (is_key q) (insert_key key_cmp ls k) ≡ false → (is_key q k ≡ false) × (list_any (is_key q) ls ≡ false))
        → (is_key q k ≡ false) × (list_any (is_key q) (l ∷ ls) ≡ false)
    by Less at none rest = (or_first (is_key q k) _ none, or_second (is_key q k) _ none)
    by Equal at none rest = (ap (is_key q) (key_cmp-IsAntisymmetric k l at) ∙ or_first (is_key q l) _ none, none)
    by Greater at none rest =
        let others = rest (or_second (is_key q l) _ none) in
        (others.0, or_none _ _ (or_first (is_key q l) _ none) others.1)

among_added : (q : Key) (ks ls : List Key) → list_any (is_key q) (add_keys ks ls) ≡ false → (list_any (is_key q) ks ≡ false) × (list_any (is_key q) ls ≡ false)
among_added q [] ls none = (refl, none)
among_added q (k ∷ ks) ls none =
    let rest = among_added q ks (insert_key key_cmp ls k) none in
    let here = among_inserted q k ls rest.1 in
    (or_none _ _ here.0 rest.0, here.1)

among_append : (q : Key) (xs ys : List Key) → list_any (is_key q) (xs ++ ys) ≡ false → (list_any (is_key q) xs ≡ false) × (list_any (is_key q) ys ≡ false)
among_append q [] ys none = (refl, none)
among_append q (x ∷ xs) ys none =
    let rest = among_append q xs ys (or_second (is_key q x) _ none) in
    (or_none _ _ (or_first (is_key q x) _ none) rest.0, rest.1)

-- ---- rows that a statement leaves alone

insert_rows_else : (table : Table) (rows : List Row) (m : State) (q : Key) → list_any (is_key q) (map (key_of table) rows) ≡ false → row_at (insert_rows table rows m) q ≡ row_at m q
insert_rows_else table [] m q none = refl
insert_rows_else table (row ∷ rows) m q none =
    insert_rows_else table rows (insert_entry key_cmp m (key_of table row) row) q (or_second (is_key q (key_of table row)) _ none)
    ∙ lookup-insert_entry key_cmp_total q (key_of table row) row m
    ∙ ap (λ b. cond b (Some row) (row_at m q)) (or_first (is_key q (key_of table row)) _ none)

insert_all_else : (m es : State) (q : Key) → list_any (is_key q) (map (λ e. e.0) es) ≡ false → row_at (insert_all m es) q ≡ row_at m q
insert_all_else m [] q none = refl
insert_all_else m (e ∷ es) q none =
    insert_all_else (insert_entry key_cmp m e.0 e.1) es q (or_second (is_key q e.0) _ none)
    ∙ lookup-insert_entry key_cmp_total q e.0 e.1 m
    ∙ ap (λ b. cond b (Some e.1) (row_at m q)) (or_first (is_key q e.0) _ none)

-- the rows that a test takes do not have the key
kept_else : (test : (Key × Row) → Bool) (m : State) (q : Key) → list_any (is_key q) (map (λ e. e.0) (filter test m)) ≡ false → row_at (filter (λ e. not (test e)) m) q ≡ row_at m q
kept_else test [] q none = refl
kept_else test (e ∷ m) q none = by (test e) none (kept_else test m q)
  where
    by : (b : Bool) → list_any (is_key q) (map (λ e. e.0) (cond b (e ∷ filter test m) (filter test m))) ≡ false
        → (list_any (is_key q) (map (λ e. e.0) (filter test m)) ≡ false → row_at (filter (λ e. not (test e)) m) q ≡ row_at m q)
        → row_at (cond (not b) (e ∷ filter (λ e. not (test e)) m) (filter (λ e. not (test e)) m)) q ≡ row_at (e ∷ m) q
    by true none rest = rest (or_second (is_key q e.0) _ none) ∙ sym (ap (λ b. cond b (Some e.1) (row_at m q)) (or_first (is_key q e.0) _ none))
    by false none rest = ap (cond (is_key q e.0) (Some e.1)) (rest none)

changed_else : (test : Key → Bool) (change : Row → Row) (m : State) (q : Key) → list_any (is_key q) (map (λ e. e.0) (filter (λ (e : Key × Row). test e.0) m)) ≡ false
    → row_at (map (λ e. if test e.0 then (e.0, change e.1) else e) m) q ≡ row_at m q
changed_else test change [] q none = refl
changed_else test change (e ∷ m) q none = by (test e.0) none (changed_else test change m q)
  where
    by : (b : Bool) → list_any (is_key q) (map (λ e. e.0) (cond b (e ∷ filter (λ (e : Key × Row). test e.0) m) (filter (λ (e : Key × Row). test e.0) m))) ≡ false
        → (list_any (is_key q) (map (λ e. e.0) (filter (λ (e : Key × Row). test e.0) m)) ≡ false → row_at (map (λ e. if test e.0 then (e.0, change e.1) else e) m) q ≡ row_at m q)
        → row_at (cond {A = Key × Row} b (e.0, change e.1) e ∷ map (λ e. if test e.0 then (e.0, change e.1) else e) m) q ≡ row_at (e ∷ m) q
    by true none rest =
        ap (λ b. cond b (Some (change e.1)) (row_at (map (λ e. if test e.0 then (e.0, change e.1) else e) m) q)) (or_first (is_key q e.0) _ none)
        ∙ rest (or_second (is_key q e.0) _ none) ∙ sym (ap (λ b. cond b (Some e.1) (row_at m q)) (or_first (is_key q e.0) _ none))
    by false none rest = ap (cond (is_key q e.0) (Some e.1)) (rest none)

-- ---- statements

-- what a statement leaves is over what it found: the written keys are all there, and other keys are
-- as they were
pub record IsAfter (o w : Own) : Type 0 where
  pub other : (q : Key) → list_any (is_key q) w.written ≡ false → (list_any (is_key q) o.written ≡ false) × (row_at w.rows q ≡ row_at o.rows q)

pub same_after : (o : Own) → IsAfter o o
same_after o = record { other = λ q none. (none, refl) }

-- one after the other
pub after_both : (o v w : Own) → IsAfter o v → IsAfter v w → IsAfter o w
after_both o v w first second = record {
  other = λ q none.
      let late = second.other q none in
      let early = first.other q late.0 in
      (early.0, late.1 ∙ early.1);
}

written_after : (keys : List Key) (count : ℕ) (rows : State) (o : Own) → ((q : Key) → list_any (is_key q) keys ≡ false → row_at rows q ≡ row_at o.rows q) → IsAfter o (write_keys keys count rows o).1
written_after keys count rows o others = by (nat_lt most_written (length (add_keys keys o.written)))
  where
    by : (b : Bool) → IsAfter o (cond {A = Written} b (Err TooManyWrites, o) (Ok count, record { rows = rows; written = add_keys keys o.written })).1
    by true = same_after o
    by false = record { other = λ q none. let both = among_added q keys o.written none in (both.1, others q both.0) }

pub insert_after : (table : Table) (rows : List Row) (o : Own) → IsAfter o (insert_into table rows o).1
insert_after table rows o = by (duplicate table rows o.rows) (overlapping table rows o.rows)
  where
    by : (d v : Option Key) → IsAfter o (elim (first_of (option_map DuplicateKey d) (option_map Overlap v)) as (λ _. Written) [
      | Some refusal ↦ (Err refusal, o)
      | None ↦ write_keys (map (key_of table) rows) (length rows) (insert_rows table rows o.rows) o
    ]).1
    by (Some key) v = same_after o
    by None (Some key) = same_after o
    by None None = written_after (map (key_of table) rows) (length rows) (insert_rows table rows o.rows) o (λ q none. insert_rows_else table rows o.rows q none)

pub update_after : (table : Table) (keys : Keys) (sets : List Set) (o : Own) → IsAfter o (update_in table keys sets o).1
update_after table keys sets o =
    written_after (matching_keys table keys o.rows) _ (update_rows table keys sets o.rows) o (λ q none. changed_else (matches table keys) (λ row. set_all sets (full_row table row)) o.rows q none)

pub delete_after : (table : Table) (keys : Keys) (o : Own) → IsAfter o (delete_from table keys o).1
delete_after table keys o =
    written_after (matching_keys table keys o.rows) _ (delete_rows table keys o.rows) o (λ q none. kept_else (λ e. matches table keys e.0) o.rows q none)

pub portion_after : (table : Table) (keys : Keys) (cut : Span) (sets : Option (List Set)) (o : Own) → IsAfter o (portion_in table keys cut sets o).1
portion_after table keys cut sets o = by table.period
  where
    by : (q : Option Period) → IsAfter o (elim q as (λ _. Written) [ None ↦ (Ok 0, o) | Some p ↦ write_keys (portion_keys table p keys cut sets o.rows) (length (taken table p keys cut o.rows)) (change_portion table p keys cut sets o.rows) o ]).1
    by None = same_after o
    by (Some p) =
        written_after (portion_keys table p keys cut sets o.rows) _ (change_portion table p keys cut sets o.rows) o
        (λ q none. let both = among_append q (map (λ e. e.0) (taken table p keys cut o.rows)) _ none in
        insert_all_else (not_taken table p keys cut o.rows) (all_left table p keys cut sets o.rows) q both.1
        ∙ kept_else (is_taken table p keys cut) o.rows q both.0)
