-- A table that gets a column stays a good one, at the place of its number.
use Rattle.std.proofs.Common.{◌≡◌, ℕ, ◌+◌, ◌-◌, ◌<◌, List, [], ◌∷◌, ◌++◌, ◌==◌, Bool, true, false, Option, Some, None, IfSome, length, All, refl, sym, subst, ap, ◌∙◌, arith, zero, suc, length-append, if◌then◌else◌, get_or}
use Rattle.std.specs.Prelude.{slice_set}
use Rattle.std.specs.List.{slice_get}
use Rattle.std.specs.Option.{ForSome}
use Rattle.std.proofs.lemmas.Option.{slice_get_read, slice_get_past}
use Rattle.std.proofs.lemmas.Bool.Decides.{nat_tests}
use Rattle.std.proofs.lemmas.List.Elements.{All-head, All-tail, All-cons, All-nil}
use Rattle.values.specs.declared.period.Period.{Period}
use Rattle.values.specs.declared.table.Column.{Column}
use Rattle.values.specs.declared.table.Table.{Table}
use Rattle.values.specs.Tables.{Schema, table_at, widest, column_at}
use Rattle.values.specs.TableRules.{IsColumnOf, HasInstants, HasPeriod, IsTable, AreTables}
use Rattle.values.specs.Columns.{with_column, add_column}

longer : (c : Column) (t : Table) → length (with_column c t).columns ≡ length t.columns + 1
longer c t = length-append t.columns (c ∷ [])

column_stays : (c : Column) (t : Table) (n : ℕ) → IsColumnOf t n → IsColumnOf (with_column c t) n
column_stays c t n was = record { from_1 = was.from_1; within = omega (arith, was.within, longer c t) }

columns_stay : (c : Column) (t : Table) (ns : List ℕ) → All (IsColumnOf t) ns → All (IsColumnOf (with_column c t)) ns
columns_stay c t [] h = All-nil (IsColumnOf (with_column c t))
columns_stay c t (n ∷ ns) h =
    All-cons (IsColumnOf (with_column c t)) n ns (column_stays c t n (All-head (IsColumnOf t) n ns h)) (columns_stay c t ns (All-tail (IsColumnOf t) n ns h))

-- a column within the table is the same in one with a column more
get_stays : (cs : List Column) (c d : Column) (i : ℕ) → i < length cs → slice_get (cs ++ c ∷ []) i ≡ Some d → slice_get cs i ≡ Some d
get_stays [] c d i lt at = absurd (omega arith)
get_stays (x ∷ cs) c d zero lt at = at
get_stays (x ∷ cs) c d (suc i) lt at = get_stays cs c d i (omega arith) at

instants_stay : (c : Column) (t : Table) (n : ℕ) → IsColumnOf t n → ForSome (column_at t n) HasInstants → ForSome (column_at (with_column c t) n) HasInstants
instants_stay c t n own was d at = was d (by (n == 0) at)
  where
    by : (b : Bool) → ◌≡◌ {A = Option Column} (if b then None else slice_get (t.columns ++ c ∷ []) (n - 1)) (Some d)
        → ◌≡◌ {A = Option Column} (if b then None else slice_get t.columns (n - 1)) (Some d)
    by true at = cc
    by false at = get_stays t.columns c d (n - 1) (omega (arith, own.from_1, own.within)) at

period_stays : (c : Column) (t : Table) (p : Period) → HasPeriod t p → HasPeriod (with_column c t) p
period_stays c t p h = record {
  start = column_stays c t p.from h.start;
  end = column_stays c t p.to h.end;
  start_instants = instants_stay c t p.from h.start h.start_instants;
  end_instants = instants_stay c t p.to h.end h.end_instants;
  differ = h.differ;
  entity = h.entity;
  start_last = h.start_last;
  distinct = h.distinct;
}

table_stays : (number : ℕ) (c : Column) (t : Table) → length t.columns < widest → IsTable number t → IsTable number (with_column c t)
table_stays number c t room h = record {
  numbered = h.numbered;
  small = h.small;
  some_columns = omega (arith, longer c t);
  few_columns = omega (arith, longer c t, room);
  few_key_columns = h.few_key_columns;
  own_key_columns = columns_stay c t t.key h.own_key_columns;
  own_period = λ p is. period_stays c t p (h.own_period p is);
}

tables_stay : (n i : ℕ) (ts : List Table) (c : Column) (t : Table) → slice_get ts i ≡ Some t → length t.columns < widest → AreTables n ts → AreTables n (slice_set ts i (with_column c t))
tables_stay n i [] c t at room h = h
tables_stay n zero (x ∷ ts) c t at room h = let is : x ≡ t = cc in (table_stays n c t room (subst (IsTable n) is h.0), h.1)
tables_stay n (suc i) (x ∷ ts) c t at room h = (h.0, tables_stay (n + 1) i ts c t at room h.1)

found : (schema : Schema) (number : ℕ) (t : Table) → table_at schema number ≡ Some t → slice_get schema.tables (number - 1) ≡ Some t
found schema number t at = by (number == 0) at
  where
    by : (b : Bool) → ◌≡◌ {A = Option Table} (if b then None else slice_get schema.tables (number - 1)) (Some t) → slice_get schema.tables (number - 1) ≡ Some t
    by true is = cc
    by false is = is

-- the tables with a column more at a number, by the table there
abbrev pub added_by : Schema → ℕ → Column → Option Table → Schema
added_by schema number c o = elim o [ None ↦ schema | Some t ↦ record { tables = slice_set schema.tables (number - 1) (with_column c t) } ]

-- the tables of a schema that gets a column are tables of one
pub added_are_tables : (schema : Schema) (number : ℕ) (c : Column) → IfSome (table_at schema number) (λ t. length t.columns < widest) → AreTables 1 schema.tables → AreTables 1 (add_column number c schema).tables
added_are_tables schema number c room h = by (table_at schema number) refl room
  where
    by : (o : Option Table) → table_at schema number ≡ o → IfSome o (λ t. length t.columns < widest) → AreTables 1 (added_by schema number c o).tables
    by None at room = h
    by (Some t) at room = tables_stay 1 (number - 1) schema.tables c t (found schema number t at) room h

-- a push to the table at the place makes of the tables what the definition says
pub added_in_place : (ts : List Table) (number : ℕ) (c : Column) (t : Table) (after : List Column) → ¬ (number ≡ 0) → number - 1 < length ts → t ≡ get_or ts (number - 1) t → after ≡ t.columns ++ c ∷ []
    → slice_set ts (number - 1) (record t { columns = after }) ≡ (add_column number c (record { tables = ts })).tables
added_in_place ts number c t after some lt is after_is = by (number == 0) refl (slice_get_read ts (length ts) (number - 1) t refl lt is)
  where
    by : (b : Bool) → (number == 0) ≡ b → slice_get ts (number - 1) ≡ Some t
        → slice_set ts (number - 1) (record t { columns = after }) ≡ (added_by (record { tables = ts }) number c (if b then None else slice_get ts (number - 1))).tables
    by true e at = let never : ⊥ = some (grind (arith, nat_tests)) in absurd never
    by false e at =
        ap (λ columns. slice_set ts (number - 1) (record t { columns = columns })) after_is
        ∙ sym (ap (λ (o : Option Table). (added_by (record { tables = ts }) number c o).tables) at)

-- a schema without a table of the number stays
pub added_nowhere : (ts : List Table) (number : ℕ) (c : Column) → ¬ (number - 1 < length ts) → ts ≡ (add_column number c (record { tables = ts })).tables
added_nowhere ts number c past = by (number == 0) (slice_get_past ts (number - 1) (omega (arith, past)))
  where
    by : (b : Bool) → slice_get ts (number - 1) ≡ None → ts ≡ (added_by (record { tables = ts }) number c (if b then None else slice_get ts (number - 1))).tables
    by true at = refl
    by false at = sym (ap (λ (o : Option Table). (added_by (record { tables = ts }) number c o).tables) at)
