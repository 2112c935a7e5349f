-- The steps of a row insert it, where it fits its table as it is then and is apart from the rows that are there.
use Rattle.std.proofs.Common.{◌≡◌, ℕ, ◌+◌, ◌-◌, ◌≤◌, ◌<◌, Bool, true, false, ◌||◌, ◌&&◌, List, [], ◌∷◌, ◌++◌, Option, Some, None, refl, sym, ap, subst, ◌∙◌, arith, not, length, take, length-append, append_assoc}
use Rattle.std.specs.Prelude.{Ok, Err, if◌then◌else◌, is_some, slice_set}
use Rattle.std.proofs.lemmas.List.{length-map, length-take-le}
use Rattle.std.specs.List.{list_any, slice_get}
use Rattle.std.specs.Option.{ForSome, option_map, unwrap_or}
use Rattle.values.specs.declared.key.Key.{Key}
use Rattle.values.specs.declared.period.Period.{Period}
use Rattle.values.specs.declared.query.Set.{Set}
use Rattle.values.specs.declared.refusal.Refusal.{Refusal}
use Rattle.values.specs.declared.refusal.Refusal.TheVariants.{DuplicateKey, NoTable, Overlap}
use Rattle.values.specs.declared.table.Column.{Column}
use Rattle.values.specs.declared.table.Table.{Table}
use Rattle.values.specs.declared.value.Value.{Value}
use Rattle.values.specs.declared.value.Value.TheVariants.{Null}
use Rattle.values.specs.Order.{is_key}
use Rattle.values.specs.Each.{Each}
use Rattle.values.specs.Entity.{clash_by, entity_of}
use Rattle.values.specs.Faults.{bad_row}
use Rattle.values.specs.Fit.{comparisons_fault, first_of, fits_value, row_fault, set_fault, update_fault}
use Rattle.values.specs.Log.{Log, Row, State, row_at}
use Rattle.values.specs.Period.{span_of, is_span, overlap}
use Rattle.values.specs.TableRules.{HasPeriod}
use Rattle.values.specs.Tables.{Schema, column_at, is_fixed_column, is_key_column, table_at, value_at}
use Rattle.values.specs.Write.{has_bad_span, rows_refusal, span_refusal}
use Rattle.values.specs.Writes.{Own, Written, insert_into, insert_refusal, key_of, update_in}
use Rattle.periods.proofs.NoOverlapColumns.{each_to}
use Rattle.periods.proofs.NoOverlapFull.{full_is}
use Rattle.periods.proofs.NoOverlapPieces.{each_inserted}
use Rattle.steps.specs.declared.step.Step.TheVariants.{Insert, Update}
use Rattle.steps.specs.Misfit.{misfit}
use Rattle.restoring.specs.Rebuilt.{with_row}
use Rattle.restoring.specs.OneKey.{MayWrite}
use Rattle.restoring.proofs.OneKeyWrites.{one_row_is_inserted}
use Rattle.dump_steps.specs.Dump.{comparisons_of, keys_of, row_steps}
use Rattle.dump_steps.specs.Pieces.{cut_short, is_set_apart, settings, stand_in}
use Rattle.dump_steps.proofs.DumpKeys.{IsOwn, takes_one}
use Rattle.dump_steps.proofs.DumpRows.{AreKeyColumns, IsRowOf, ValuesFit, comparisons_fit, got, got_in_front, is_column, narrow, no_fault_then}
use Rattle.dump_steps.proofs.DumpTurns.{Goes, goes_on, insert_goes, update_goes, with}
use Rattle.dump_steps.proofs.PiecesRows.{AreKeyNumbers, cut_value, cut_values_fit, free_fits, key_kept, length-cut, set_apart, span_kept}
use Rattle.dump_steps.proofs.PiecesWrites.{row_is_updated}

-- the row can be inserted at its key: its table is as wide as it is, and no row clashes with it
pub record MayInsert (now : Schema) (table : Table) (key : Key) (row : Row) (o : Own) : Type 0 where
  pub table_is : table_at now table.number ≡ Some (narrow (length row) table)
  pub row_is : IsRowOf table (key, row)
  pub columns : AreKeyColumns table (length row) table.key
  pub has : ForSome table.period (HasPeriod table)
  pub own : Each (IsOwn table) o.rows
  pub absent : row_at o.rows key ≡ None
  pub free : list_any (clash_by table.period (key, row)) o.rows ≡ false
  pub room : MayWrite o key

module _ (now : Schema) (log : Log) (table : Table) (key : Key) (row : Row) (o : Own) (may : MayInsert now table key row o) where
  abbrev then_table : Table
  then_table = narrow (length row) table

  -- ---- an INSERT of the row, or of one that differs from it in texts alone

  record IsLike (r : Row) : Type 0 where
    key_is : key ≡ key_of table r
    wide : length r ≡ length row
    fits : ValuesFit table r
    span : ForSome table.period (λ p. span_of p r ≡ span_of p row)

  no_bad_span : (r : Row) → IsLike r → (q : Option Period) → table.period ≡ q → has_bad_span q (r ∷ []) ≡ false
  no_bad_span r like None is = refl
  no_bad_span r like (Some p) is =
      (λ i. not (is_span (like.span p is i)) || false) ∙ ap (λ b. not b || false) (may.row_is.proper p is)

  no_clash : (r : Row) → IsLike r → (q : Option Period) → table.period ≡ q → (m : State) → list_any (clash_by q (key, r)) m ≡ list_any (clash_by q (key, row)) m
  no_clash r like q is [] = refl
  no_clash r like None is (e ∷ m) = no_clash r like None is m
  no_clash r like (Some p) is (e ∷ m) =
      λ i. (is_key (entity_of key) (entity_of e.0) && overlap (like.span p is i) (span_of p e.1)) || no_clash r like (Some p) is m i

  fits_now : (r : Row) → IsLike r → misfit now (Insert 1 table.number (r ∷ [])) ≡ None
  fits_now r like =
      ap (λ (o : Option Table). let f : Option Refusal = elim o [ None ↦ Some NoTable | Some t ↦ rows_refusal t (r ∷ []) ] in f) may.table_is
      ∙ ap (λ (o : Option ℕ). first_of (bad_row (first_of o None)) (span_refusal (has_bad_span table.period (r ∷ []))))
      (ap (λ n. row_fault (narrow n table) r) (sym like.wide) ∙ no_fault_then table r (subst (λ n. n ≤ length table.columns) (sym like.wide) may.row_is.within) like.fits)
      ∙ ap (λ b. span_refusal b) (no_bad_span r like table.period refl)

  not_refused : (r : Row) → IsLike r → insert_refusal then_table (r ∷ []) o.rows ≡ None
  not_refused r like =
      (λ i. first_of (option_map DuplicateKey (if is_some (row_at o.rows (sym like.key_is i)) || false then Some (sym like.key_is i) else None))
      (option_map Overlap (if list_any (clash_by table.period (sym like.key_is i, r)) o.rows then Some (sym like.key_is i) else None)))
      ∙ (λ i. first_of (option_map DuplicateKey (if is_some (may.absent i) || false then Some key else None))
      (option_map Overlap (if (no_clash r like table.period refl o.rows ∙ may.free) i then Some key else None)))

  inserted : (r : Row) → IsLike r → Goes (with now log o) (Insert 1 table.number (r ∷ []) ∷ []) (with now log (with_row key r o))
  inserted r like =
      insert_goes now log o (with_row key r o) table.number 1 (r ∷ []) (fits_now r like)
      (ap (λ (found : Option Table). let w : Written = elim found [ None ↦ (Err NoTable, o) | Some t ↦ insert_into t (r ∷ []) o ] in w) may.table_is
      ∙ one_row_is_inserted then_table r o (not_refused r like) (subst (MayWrite o) like.key_is may.room)
      ∙ ap (λ k. (Ok 1, with_row k r o)) (sym like.key_is))

  whole : IsLike row
  whole = record { key_is = may.row_is.key_is; wide = refl; fits = may.row_is.fits; span = λ p is. refl }

  -- ---- a text that is set

  numbers : AreKeyNumbers table table.key
  numbers = each_to (λ n. (1 ≤ n) × ((n ≤ length row) × (is_key_column table n ≡ true))) (λ n. (1 ≤ n) × (is_key_column table n ≡ true)) (λ n is. (is.0, is.1.1)) table.key may.columns

  -- what the row is when texts behind some values are still to be set
  abbrev partly : Row → Row → Row
  partly front rest = front ++ cut_short table (1 + length front) rest

  key_then : (front rest : Row) → row ≡ front ++ rest → key ≡ key_of table (partly front rest)
  key_then front rest is = may.row_is.key_is ∙ ap (key_of table) is ∙ sym (key_kept table front rest numbers)

  wide_then : (front rest : Row) → row ≡ front ++ rest → length (partly front rest) ≡ length row
  wide_then front rest is =
      length-append front (cut_short table (1 + length front) rest) ∙ ap (λ n. length front + n) (length-cut table (1 + length front) rest)
      ∙ sym (length-append front rest) ∙ ap length (sym is)

  its_table : key.table ≡ table.number
  its_table = ap (λ (k : Key). k.table) may.row_is.key_is

  as_long : length key.parts ≡ length table.key
  as_long = ap (λ (k : Key). length k.parts) may.row_is.key_is ∙ length-map table.key (value_at row)

  abbrev set_to : ℕ → Value → List Set
  set_to n v = record { column = n; value = v } ∷ []

  back : (front : Row) → (1 + length front) - 1 ≡ length front
  back front = omega arith

  set_behind : (front cs : Row) (x v : Value) → slice_set (front ++ x ∷ cs) (length front) v ≡ front ++ v ∷ cs
  set_behind [] cs x v = refl
  set_behind (y ∷ front) cs x v = ap (λ l. y ∷ l) (set_behind front cs x v)

  value_behind : (front rest : Row) (v : Value) → value_at (front ++ v ∷ rest) (1 + length front) ≡ v
  value_behind front rest v = ap (λ i. unwrap_or (slice_get (front ++ v ∷ rest) i) Null) (back front) ∙ by front
    where
      by : (front : Row) → unwrap_or (slice_get (front ++ v ∷ rest) (length front)) Null ≡ v
      by [] = refl
      by (y ∷ front) = by front

  comparisons_now : comparisons_fault then_table (comparisons_of table.key key.parts) ≡ None
  comparisons_now =
      ap (λ (k : Key). comparisons_fault then_table (comparisons_of table.key k.parts)) may.row_is.key_is
      ∙ comparisons_fit table row (length row) table.key may.row_is.within may.row_is.fits may.columns

  module _ (front rest : Row) (v : Value) (is : row ≡ front ++ v ∷ rest) (apart : is_set_apart table (1 + length front) v ≡ true) where
    abbrev n : ℕ
    n = 1 + length front

    inside : length front < length row
    inside = let wide : length row ≡ length front + length (v ∷ rest) = ap length is ∙ length-append front (v ∷ rest) in omega arith

    column : (c : Column) × (slice_get table.columns (length front) ≡ Some c)
    column = got table.columns (length front) (omega (arith, inside, may.row_is.within))

    column_then : column_at then_table n ≡ Some column.0
    column_then =
        is_column then_table n column.0 (omega arith)
        (ap (slice_get (take (length row) table.columns)) (back front) ∙ got_in_front (length row) table.columns (length front) inside ∙ column.1)

    value_fits : fits_value false column.0 v ≡ true
    value_fits =
        free_fits table n column.0 v (set_apart table n v apart)
        (ap (fits_value (is_key_column table n) column.0) (sym (ap (λ r. value_at r n) is ∙ value_behind front rest v))
        ∙ may.row_is.fits n column.0 (is_column table n column.0 (omega arith) (ap (slice_get table.columns) (back front) ∙ column.1)))

    set_now : set_fault then_table [] (record { column = n; value = v }) ≡ None
    set_now =
        ap (λ (o : Option Column). let r : Option ℕ = elim o [ None ↦ Some 0 | Some c ↦ if is_fixed_column table n then Some n else if fits_value false c v then None else Some n ] in r) column_then
        ∙ (λ i. if set_apart table n v apart i then Some n else if value_fits i then None else Some n)

    update_now : misfit now (Update 1 (keys_of table key) (set_to n v)) ≡ None
    update_now =
        ap (λ (o : Option Table). let f : Option Refusal = elim o [ None ↦ Some NoTable | Some t ↦ bad_row (update_fault t (keys_of table key) (set_to n v)) ] in f) may.table_is
        ∙ (λ i. bad_row (first_of (first_of (set_now i) None) (comparisons_now i)))

    abbrev early : Row
    early = partly front (v ∷ rest)

    own_then : Each (IsOwn table) (with_row key early o).rows
    own_then = each_inserted (IsOwn table) o.rows key early (λ its. key_then front (v ∷ rest) is) may.own

    wide_enough : length (take (length row) table.columns) ≤ length early
    wide_enough = omega (arith, length-take-le (length row) table.columns may.row_is.within, wide_then front (v ∷ rest) is)

    text_set : Goes (with now log (with_row key early o)) (Update 1 (keys_of table key) (set_to n v) ∷ []) (with now log (with_row key (front ++ v ∷ cut_short table (n + 1) rest) o))
    text_set =
        update_goes now log (with_row key early o) (with_row key (front ++ v ∷ cut_short table (n + 1) rest) o) 1 (keys_of table key) (set_to n v) update_now
        (ap (λ (found : Option Table). let w : Written = elim found [ None ↦ (Err NoTable, with_row key early o) | Some t ↦ update_in t (keys_of table key) (set_to n v) (with_row key early o) ] in w) may.table_is
        ∙ row_is_updated then_table (keys_of table key) (set_to n v) key early o may.absent (takes_one table key its_table as_long (with_row key early o).rows own_then) may.room
        ∙ ap (λ r. (Ok 1, with_row key (slice_set r (n - 1) v) o)) (full_is then_table early wide_enough)
        ∙ ap (λ r. (Ok 1, with_row key r o)) (ap (λ i. slice_set early i v) (back front) ∙ set_behind front (cut_short table (n + 1) rest) (cut_value table n v) v))

  -- ---- all of them

  pushed : (front rest : Row) (v : Value) → front ++ v ∷ rest ≡ (front ++ v ∷ []) ++ rest
  pushed front rest v = sym (append_assoc front (v ∷ []) rest)

  one_longer : (front : Row) (v : Value) → (1 + length front) + 1 ≡ 1 + length (front ++ v ∷ [])
  one_longer front v = omega (arith, length-append front (v ∷ []))

  all_set : (front rest : Row) → row ≡ front ++ rest → Goes (with now log (with_row key (partly front rest) o)) (settings table (keys_of table key) (1 + length front) rest) (with now log (with_row key row o))
  all_set front [] is = λ i. with now log (with_row key (sym is i) o)
  all_set front (v ∷ rest) is =
      by (is_set_apart table n v) refl
      (subst (λ r. Goes (with now log (with_row key r o)) (settings table (keys_of table key) (n + 1) rest) (with now log (with_row key row o))) (append_assoc front (v ∷ []) (cut_short table (n + 1) rest))
      (subst (λ m. Goes (with now log (with_row key ((front ++ v ∷ []) ++ cut_short table m rest) o)) (settings table (keys_of table key) m rest) (with now log (with_row key row o))) (sym (one_longer front v))
      (all_set (front ++ v ∷ []) rest (is ∙ pushed front rest v))))
    where
      n : ℕ
      n = 1 + length front

      by : (b : Bool) → is_set_apart table (1 + length front) v ≡ b
          → Goes (with now log (with_row key (front ++ v ∷ cut_short table ((1 + length front) + 1) rest) o)) (settings table (keys_of table key) ((1 + length front) + 1) rest) (with now log (with_row key row o))
          → Goes (with now log (with_row key (front ++ (if b then stand_in (column_at table (1 + length front)) else v) ∷ cut_short table ((1 + length front) + 1) rest) o))
          ((if b then Update 1 (keys_of table key) (set_to (1 + length front) v) ∷ [] else []) ++ settings table (keys_of table key) ((1 + length front) + 1) rest)
          (with now log (with_row key row o))
      by true apart others =
          goes_on (with now log (with_row key (front ++ stand_in (column_at table (1 + length front)) ∷ cut_short table ((1 + length front) + 1) rest) o))
          (with now log (with_row key (front ++ v ∷ cut_short table ((1 + length front) + 1) rest) o)) (with now log (with_row key row o))
          (Update 1 (keys_of table key) (set_to (1 + length front) v) ∷ []) (settings table (keys_of table key) ((1 + length front) + 1) rest)
          (subst (λ b. Goes (with now log (with_row key (front ++ (if b then stand_in (column_at table (1 + length front)) else v) ∷ cut_short table ((1 + length front) + 1) rest) o))
          (Update 1 (keys_of table key) (set_to (1 + length front) v) ∷ []) (with now log (with_row key (front ++ v ∷ cut_short table ((1 + length front) + 1) rest) o)))
          apart (text_set front rest v is apart))
          others
      by false apart others = others

  cut : IsLike (cut_short table 1 row)
  cut = record {
    key_is = key_then [] row refl;
    wide = length-cut table 1 row;
    fits = cut_values_fit table row may.row_is.fits;
    span = λ p is. span_kept table p row is (may.has p is);
  }

  -- the steps of the row
  pub row_goes : (tables : Schema) (is_long : Table → Row → Bool) → Goes (with now log o) (row_steps tables is_long table key row) (with now log (with_row key row o))
  row_goes tables is_long = by (is_long table row)
    where
      by : (b : Bool) → Goes (with now log o)
          (if b then Insert 1 table.number (cut_short table 1 row ∷ []) ∷ settings table (keys_of table key) 1 row else Insert 1 table.number (row ∷ []) ∷ [])
          (with now log (with_row key row o))
      by true =
          goes_on (with now log o) (with now log (with_row key (cut_short table 1 row) o)) (with now log (with_row key row o))
          (Insert 1 table.number (cut_short table 1 row ∷ []) ∷ []) (settings table (keys_of table key) 1 row) (inserted (cut_short table 1 row) cut) (all_set [] row refl)
      by false = inserted row whole
