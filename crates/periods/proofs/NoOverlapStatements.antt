-- Each statement leaves rows of which no two of one entity overlap, where it found such.
use Rattle.std.proofs.Common.{◌≡◌, ℕ, ◌≤◌, Bool, true, false, cond, List, [], ◌∷◌, ◌++◌, Option, Some, None, refl, sym, ap, subst, ◌∙◌, not, map, length, nat_lt}
use Rattle.std.specs.Prelude.{◌==◌, if◌then◌else◌, Ok, Err}
use Rattle.std.specs.List.{list_any}
use Rattle.std.specs.Option.{option_map, ForSome}
use Rattle.std.specs.BTreeMap.{insert_entry}
use Rattle.values.specs.declared.period.Period.{Period}
use Rattle.values.specs.declared.period.Span.{Span}
use Rattle.values.specs.declared.key.Key.{Key}
use Rattle.values.specs.declared.table.Table.{Table}
use Rattle.values.specs.declared.query.Keys.{Keys}
use Rattle.values.specs.declared.query.Set.{Set}
use Rattle.values.specs.declared.refusal.Refusal.TheVariants.{DuplicateKey, TooManyWrites, Overlap}
use Rattle.values.specs.Order.{key_cmp}
use Rattle.values.specs.Log.{State, Row}
use Rattle.values.specs.Versions.{matches}
use Rattle.values.specs.Fit.{first_of}
use Rattle.values.specs.Tables.{full_row}
use Rattle.values.specs.TableRules.{HasPeriod}
use Rattle.values.specs.Each.{Each}
use Rattle.values.specs.Writes.{Own, Written, most_written, key_of, keyed, set_all, insert_rows, update_rows, delete_rows, write_keys, add_keys, duplicate, overlap_from, overlapping, matching_keys, insert_into, update_in, delete_from}
use Rattle.values.specs.Period.{Periods, is_span, span_of}
use Rattle.values.specs.Entity.{clash_by}
use Rattle.values.specs.Clash.{clash}
use Rattle.values.specs.Portion.{change_portion, portion_keys, portion_in, taken}
use Rattle.periods.specs.NoOverlap.{NoOverlap, Tables, IsSettable, SetsKeep, IsKeyed, IsKeyedIn, AreKeyed}
use Rattle.periods.proofs.NoOverlapApart.{IsAlike, or_first, or_second, or_none, none_inserted, apart_inserted, apart_kept, apart_changed}
use Rattle.periods.proofs.NoOverlapColumns.{key_set_all, span_set_all, width_set_all}
use Rattle.periods.proofs.NoOverlapFull.{full, full_keyed_in, span_full}
use Rattle.periods.proofs.NoOverlapPieces.{Keeps, each_inserted, each_kept, the_table, and_first, one_table}
use Rattle.periods.proofs.NoOverlapPortion.{portion_apart, portion_keyed}

-- rows of which no two of one entity overlap, each with its key and a span
pub record IsSound (tables : Tables) (periods : Periods) (m : State) : Type 0 where
  pub apart : NoOverlap periods m
  pub keyed : AreKeyed tables periods m

-- the table is one of these, with its period
pub record IsOneOf (tables : Tables) (periods : Periods) (table : Table) : Type 0 where
  pub found : tables table.number ≡ Some table
  pub period_is : periods table.number ≡ table.period
  pub has : ForSome table.period (HasPeriod table)

-- a row that is wide enough for the period, with a span
pub record IsWideFor (p : Period) (row : Row) : Type 0 where
  pub start_within : p.from ≤ length row
  pub end_within : p.to ≤ length row
  pub proper : is_span (span_of p row) ≡ true

none_pushed : (test : (Key × Row) → Bool) (l : State) (e : Key × Row) → list_any test (l ++ e ∷ []) ≡ false → (list_any test l ≡ false) × (test e ≡ false)
none_pushed test [] e none = (refl, or_first (test e) _ none)
none_pushed test (x ∷ l) e none =
    let rest = none_pushed test l e (or_second (test x) _ none) in
    (or_none _ _ (or_first (test x) _ none) rest.0, rest.1)

none_first : (b : Bool) (k : Key) (o : Option Key) → ◌≡◌ {A = Option Key} (if b then Some k else o) None → (b ≡ false) × (o ≡ None)
none_first true k o e = cc
none_first false k o e = (refl, e)

keeps_is : (table : Table) (p : Period) (sets : Option (List Set)) → SetsKeep table p sets → Keeps table p sets
keeps_is table p None keeps = tt
keeps_is table p (Some sets) keeps = keeps

module _ (tables : Tables) (periods : Periods) (table : Table) (is : IsOneOf tables periods table) where
  -- ---- a write of keys

  written_sound : (keys : List Key) (count : ℕ) (rows : State) (o : Own) → IsSound tables periods rows → IsSound tables periods o.rows → IsSound tables periods (write_keys keys count rows o).1.rows
  written_sound keys count rows o new old = by (nat_lt most_written (length (add_keys keys o.written)))
    where
      by : (b : Bool) → IsSound tables periods (cond {A = Written} b (Err TooManyWrites, o) (Ok count, record { rows = rows; written = add_keys keys o.written })).1.rows
      by true = old
      by false = new

  -- ---- INSERT

  inserted_apart : (rows : List Row) (m l : State) → ((test : (Key × Row) → Bool) → list_any test l ≡ false → list_any test m ≡ false)
      → overlap_from table.period l (map (keyed table) rows) ≡ None → NoOverlap periods m → NoOverlap periods (insert_rows table rows m)
  inserted_apart [] m l among none apart = apart
  inserted_apart (row ∷ rows) m l among none apart =
      let here = none_first (list_any (clash_by table.period (keyed table row)) l) (key_of table row) _ none in
      inserted_apart rows (insert_entry key_cmp m (key_of table row) row) (l ++ keyed table row ∷ [])
      (λ test free. let pushed = none_pushed test l (keyed table row) free in none_inserted test m (key_of table row) row pushed.1 (among test pushed.0))
      here.1
      (apart_inserted periods m (key_of table row) row (among (clash periods (keyed table row)) (ap (λ p. list_any (clash_by p (keyed table row)) l) is.period_is ∙ here.0)) apart)

  inserted_keyed : (rows : List Row) (m : State) → ForSome table.period (λ p. Each (IsWideFor p) rows) → AreKeyed tables periods m → AreKeyed tables periods (insert_rows table rows m)
  inserted_keyed [] m wide keyed_m = keyed_m
  inserted_keyed (row ∷ rows) m wide keyed_m =
      inserted_keyed rows (insert_entry key_cmp m (key_of table row) row) (λ p has. (wide p has).1)
      (each_inserted (IsKeyedIn tables periods) m (key_of table row) row
      (λ t p found at.
      let here = (wide p (sym is.period_is ∙ at)).0 in
      subst (λ t. IsKeyed t p (keyed table row)) (the_table table t (sym is.found ∙ found)) (record { key_is = refl; start_within = here.start_within; end_within = here.end_within; proper = here.proper }))
      keyed_m)

  pub insert_sound : (rows : List Row) (o : Own) → ForSome table.period (λ p. Each (IsWideFor p) rows) → IsSound tables periods o.rows → IsSound tables periods (insert_into table rows o).1.rows
  insert_sound rows o wide sound = by (duplicate table rows o.rows) (overlapping table rows o.rows) refl
    where
      by : (d v : Option Key) → overlapping table rows o.rows ≡ v
          → IsSound tables periods (elim (first_of (option_map DuplicateKey d) (option_map Overlap v)) as (λ _. Written) [
            | Some refusal ↦ (Err refusal, o)
            | None ↦ write_keys (map (key_of table) rows) (length rows) (insert_rows table rows o.rows) o
          ]).1.rows
      by (Some key) v none = sound
      by None (Some key) none = sound
      by None None none =
          written_sound (map (key_of table) rows) (length rows) (insert_rows table rows o.rows) o
          (record {
            apart = inserted_apart rows o.rows o.rows (λ test free. free) none sound.apart;
            keyed = inserted_keyed rows o.rows wide sound.keyed;
          }) sound

  -- ---- UPDATE and DELETE

  module _ (keys : Keys) (same : keys.table ≡ table.number) where
    -- a row that the keys take is the table's
    own_row : (k : Key) → matches table keys k ≡ true → k.table ≡ table.number
    own_row k met = one_table k.table keys.table table.number same (and_first (k.table == keys.table) _ met)

    abbrev updated : List Set → (Key × Row) → (Key × Row)
    updated sets e = if matches table keys e.0 then (e.0, set_all sets (full_row table e.1)) else e

    updated_alike : (sets : List Set) → ForSome table.period (λ p. Each (IsSettable table p) sets) → (e : Key × Row) → IsAlike periods (updated sets e) e
    updated_alike sets settable e = by (matches table keys e.0) refl
      where
        by : (b : Bool) → matches table keys e.0 ≡ b → IsAlike periods (if b then (e.0, set_all sets (full_row table e.1)) else e) e
        by true met = record {
          key = refl;
          span = λ p found.
              let at : table.period ≡ Some p = sym is.period_is ∙ ap periods (sym (own_row e.0 met)) ∙ found in
              span_set_all table p sets (full_row table e.1) (is.has p at) (settable p at) ∙ span_full table p e.1;
        }
        by false met = record { key = refl; span = λ p found. refl }

    updated_keyed : (sets : List Set) (m : State) → ForSome table.period (λ p. Each (IsSettable table p) sets) → AreKeyed tables periods m → AreKeyed tables periods (update_rows table keys sets m)
    updated_keyed sets [] settable keyed_m = tt
    updated_keyed sets (e ∷ m) settable keyed_m = (by (matches table keys e.0) refl, updated_keyed sets m settable keyed_m.1)
      where
        row : Row
        row = full_row table e.1

        set_keyed : (t : Table) (p : Period) → matches table keys e.0 ≡ true → tables e.0.table ≡ Some t → periods e.0.table ≡ Some p → IsKeyed t p (full table e) → IsKeyed t p (e.0, set_all sets row)
        set_keyed t p met found found_p was =
            let own : e.0.table ≡ table.number = own_row e.0 met in
            let at : table.period ≡ Some p = sym is.period_is ∙ ap periods (sym own) ∙ found_p in
            let one : table ≡ t = the_table table t (sym is.found ∙ ap tables (sym own) ∙ found) in
            record {
              key_is = was.key_is ∙ sym (subst (λ t. key_of t (set_all sets row) ≡ key_of t row) one (key_set_all table p sets row (is.has p at) (settable p at)));
              start_within = subst (λ n. p.from ≤ n) (sym (width_set_all sets row)) was.start_within;
              end_within = subst (λ n. p.to ≤ n) (sym (width_set_all sets row)) was.end_within;
              proper = ap is_span (span_set_all table p sets row (is.has p at) (settable p at)) ∙ was.proper;
            }

        by : (b : Bool) → matches table keys e.0 ≡ b → IsKeyedIn tables periods (cond {A = Key × Row} b (e.0, set_all sets row) e)
        by true met = λ t p found found_p. set_keyed t p met found found_p (full_keyed_in table t p e (keyed_m.0 t p found found_p))
        by false met = keyed_m.0

    pub update_sound : (sets : List Set) (o : Own) → ForSome table.period (λ p. Each (IsSettable table p) sets) → IsSound tables periods o.rows → IsSound tables periods (update_in table keys sets o).1.rows
    update_sound sets o settable sound =
        written_sound (matching_keys table keys o.rows) (length (matching_keys table keys o.rows)) (update_rows table keys sets o.rows) o
        (record { apart = apart_changed periods (updated sets) o.rows (updated_alike sets settable) sound.apart; keyed = updated_keyed sets o.rows settable sound.keyed }) sound

    pub delete_sound : (o : Own) → IsSound tables periods o.rows → IsSound tables periods (delete_from table keys o).1.rows
    delete_sound o sound =
        written_sound (matching_keys table keys o.rows) (length (matching_keys table keys o.rows)) (delete_rows table keys o.rows) o
        (record { apart = apart_kept periods (λ e. not (matches table keys e.0)) o.rows sound.apart; keyed = each_kept (IsKeyedIn tables periods) (λ e. not (matches table keys e.0)) o.rows sound.keyed }) sound

    -- ---- portions

    pub portion_sound : (cut : Span) (sets : Option (List Set)) (o : Own) → ForSome table.period (λ p. (is_span cut ≡ true) × SetsKeep table p sets) → IsSound tables periods o.rows → IsSound tables periods (portion_in table keys cut sets o).1.rows
    portion_sound cut sets o fits sound = by table.period refl
      where
        by : (q : Option Period) → table.period ≡ q → IsSound tables periods (elim q as (λ _. Written) [ None ↦ (Ok 0, o) | Some p ↦ write_keys (portion_keys table p keys cut sets o.rows) (length (taken table p keys cut o.rows)) (change_portion table p keys cut sets o.rows) o ]).1.rows
        by None at = sound
        by (Some p) at =
            let good = fits p at in
            written_sound (portion_keys table p keys cut sets o.rows) (length (taken table p keys cut o.rows)) (change_portion table p keys cut sets o.rows) o
            (record {
              apart = portion_apart tables periods table p is.found (is.period_is ∙ at) (is.has p at) cut good.0 sets (keeps_is table p sets good.1) keys o.rows same sound.keyed sound.apart;
              keyed = portion_keyed tables periods table p is.found (is.period_is ∙ at) (is.has p at) cut good.0 sets (keeps_is table p sets good.1) keys o.rows same sound.keyed;
            }) sound
