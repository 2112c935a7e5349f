-- Tables keep their readable names where they get columns.
use Rattle.std.proofs.Common.{◌≡◌, ℕ, ◌+◌, ◌-◌, ◌<◌, zero, suc, Bool, true, false, cond, List, [], ◌∷◌, ◌++◌, Option, Some, None, IfSome, refl, sym, ap, subst, ◌∙◌, arith, append-nil, append_assoc, map, is_some, length}
use Rattle.std.specs.Prelude.{◌||◌, ◌&&◌, if◌then◌else◌, is_none, not, nat_lt, slice_set}
use Rattle.std.specs.List.{AllByRecursion, list_any, position_from, slice_get}
use Rattle.std.proofs.lemmas.Bool.{and_parts, or_parts}
use Rattle.std.proofs.lemmas.Bool.Decides.{nat_tests}
use Rattle.std.proofs.lemmas.List.{map-append}
use Rattle.values.specs.declared.refusal.Refusal.{Refusal}
use Rattle.values.specs.declared.refusal.Refusal.TheVariants.{NoSession, NoTable}
use Rattle.values.specs.declared.table.Column.{Column}
use Rattle.values.specs.declared.table.ColumnType.{ColumnType}
use Rattle.values.specs.declared.table.Table.{Table}
use Rattle.values.specs.Columns.{add_column, addition_fault, is_good_type, is_name_of, new_column, with_column}
use Rattle.values.specs.Faults.{bad_row}
use Rattle.values.specs.Names.{column_number, names_period, same_name}
use Rattle.values.specs.TableRules.{AreTables}
use Rattle.values.specs.Tables.{Schema, table_at, widest}
use Rattle.values.proofs.ColumnsTables.{added_are_tables, added_by}
use Rattle.steps.specs.declared.step.Step.{Step}
use Rattle.steps.specs.declared.step.Step.TheVariants.{AddColumn, Begin, Commit, Delete, DeletePortion, Insert, Migrate, Rollback, Select, SplitKey, SplitTime, Update, UpdatePortion}
use Rattle.steps.specs.Idle.{is_idle}
use Rattle.steps.specs.Misfit.{max_session, misfit}
use Rattle.steps.proofs.MisfitKeys.{no_fault}
use Rattle.histories.specs.History.{History, has_open, schema_after}
use Rattle.histories.proofs.HistoryOwn.{schema_step}
use Rattle.dump_reading.specs.Readable.{AreApart, AreReadableNames, AreWithColumns, HaveReadableNames, IsReadableName, IsWithColumns, column_names}
use Rattle.dump_reading.specs.ReadableHistories.{GrownTablesAreReadable, IsReadableHistory, IsReadableSchema, IsReadableStep}
use Rattle.dump_reading.proofs.ReadableTables.{MayBeNull, place_of}

-- ---- what fits a table that gets a column

-- the table is there, and the column can be added to it
record Gets (now : Schema) (number : ℕ) (name : List ℕ) : Type 0 where
  table : Table
  at : table_at now number ≡ Some table
  new : is_name_of table name ≡ false
  room : length table.columns < widest

gets : (now : Schema) (i number : ℕ) (name : List ℕ) (of : ColumnType) → misfit now (AddColumn i number name of) ≡ None → Gets now number name
gets now i number name of fits = by (nat_lt max_session i) (table_at now number) refl fits
  where
    has_room : (n : ℕ) → nat_lt n widest ≡ true → n < widest
    has_room n is = grind (arith, nat_tests)

    parts : (table : Table) (a b c : Bool) → is_name_of table name ≡ a → nat_lt (length table.columns) widest ≡ b → ◌≡◌ {A = Option ℕ} (if a || (not b || not c) then Some 0 else None) None
        → (is_name_of table name ≡ false) × (length table.columns < widest)
    parts table true b c new room is = cc
    parts table false false c new room is = cc
    parts table false true c new room is = (new, has_room (length table.columns) room)

    by : (b : Bool) (o : Option Table) → table_at now number ≡ o
        → ◌≡◌ {A = Option Refusal} (if b then Some NoSession else elim o [ None ↦ Some NoTable | Some table ↦ bad_row (addition_fault name of table) ]) None → Gets now number name
    by true o at is = cc
    by false None at is = cc
    by false (Some table) at is =
        let p = parts table (is_name_of table name) (nat_lt (length table.columns) widest) (is_good_type of) refl refl (no_fault (addition_fault name of table) is) in
        record { table = table; at = at; new = p.0; room = p.1 }

-- ---- names with one more

readable_pushed : (names : List (List ℕ)) (name : List ℕ) → AllByRecursion IsReadableName names → IsReadableName name → AllByRecursion IsReadableName (names ++ name ∷ [])
readable_pushed [] name all one = (one, tt)
readable_pushed (n ∷ names) name all one = (all.0, readable_pushed names name all.1 one)

any_pushed : (test : List ℕ → Bool) (names : List (List ℕ)) (name : List ℕ) → list_any test names ≡ false → test name ≡ false → list_any test (names ++ name ∷ []) ≡ false
any_pushed test [] name none one = ap (λ b. b || false) one
any_pushed test (n ∷ names) name none one =
    let parts = or_parts (test n) (list_any test names) none in ap (λ b. b || list_any test (names ++ name ∷ [])) parts.0 ∙ any_pushed test names name parts.1 one

-- no column has the name
apart_pushed : (cs : List Column) (name : List ℕ) (j : ℕ) → is_some (position_from (λ c. same_name c.name name) j cs) ≡ false → AreApart (map (λ c. c.name) cs) → AreApart (map (λ c. c.name) cs ++ name ∷ [])
apart_pushed [] name j none apart = (refl, tt)
apart_pushed (c ∷ cs) name j none apart =
    let parts = by (same_name c.name name) none in
    (any_pushed (same_name c.name) (map (λ c. c.name) cs) name apart.0 parts.0, apart_pushed cs name (j + 1) parts.1 apart.1)
  where
    by : (t : Bool) → is_some (cond t (Some j) (position_from (λ c. same_name c.name name) (j + 1) cs)) ≡ false → (t ≡ false) × (is_some (position_from (λ c. same_name c.name name) (j + 1) cs) ≡ false)
    by true none = cc
    by false none = (refl, none)

names_pushed : (table : Table) (c : Column) → is_name_of table c.name ≡ false → IsReadableName c.name → AreReadableNames (column_names table) → AreReadableNames (column_names (with_column c table))
names_pushed table c new one names =
    let others : Bool = same_name table.row_start c.name || (same_name table.row_end c.name || names_period table.period c.name) in
    let none = (or_parts (is_some (column_number table c.name)) others new).0 in
    subst AreReadableNames (sym (map-append (λ d. d.name) table.columns (c ∷ [])))
    (readable_pushed (column_names table) c.name names.0 one, apart_pushed table.columns c.name 1 none names.1)

-- ---- tables of which one gets a column

module _ (c : Column) (t : Table) where
  same_names : (ts : List Table) (i : ℕ) → slice_get ts i ≡ Some t → map (λ u. u.name) (slice_set ts i (with_column c t)) ≡ map (λ u. u.name) ts
  same_names [] i at = cc
  same_names (x ∷ ts) zero at = let same : x ≡ t = cc in ap (λ (u : Table). u.name ∷ map (λ u. u.name) ts) (sym same)
  same_names (x ∷ ts) (suc i) at = ap (λ l. x.name ∷ l) (same_names ts i at)

  columns_named : (ts : List Table) (i : ℕ) → slice_get ts i ≡ Some t → is_name_of t c.name ≡ false → IsReadableName c.name
      → AllByRecursion (λ u. AreReadableNames (column_names u)) ts → AllByRecursion (λ u. AreReadableNames (column_names u)) (slice_set ts i (with_column c t))
  columns_named [] i at new one all = cc
  columns_named (x ∷ ts) zero at new one all = let same : x ≡ t = cc in (names_pushed t c new one (subst (λ (u : Table). AreReadableNames (column_names u)) same all.0), all.1)
  columns_named (x ∷ ts) (suc i) at new one all = (all.0, columns_named ts i at new one all.1)

  null_pushed : (more : List Column) → c.not_null ≡ false → MayBeNull more → MayBeNull (more ++ c ∷ [])
  null_pushed [] free all = (free, tt)
  null_pushed (d ∷ more) free all = (all.0, null_pushed more free all.1)

  one_grown : (first : Table) → c.not_null ≡ false → IsWithColumns first t → IsWithColumns first (with_column c t)
  one_grown first free was = record {
    more = was.more ++ c ∷ [];
    may_be_null = null_pushed was.more free was.may_be_null;
    later_is = ap (with_column c) was.later_is ∙ ap (λ (cs : List Column). record first { columns = cs }) (append_assoc first.columns was.more (c ∷ []));
  }

  grown : (firsts ts : List Table) (i : ℕ) → slice_get ts i ≡ Some t → c.not_null ≡ false → AreWithColumns firsts ts → AreWithColumns firsts (slice_set ts i (with_column c t))
  grown [] [] i at free was = cc
  grown [] (x ∷ ts) i at free was = absurd was
  grown (f ∷ firsts) [] i at free was = absurd was
  grown (f ∷ firsts) (x ∷ ts) zero at free was = let same : x ≡ t = cc in (one_grown f free (subst (IsWithColumns f) same was.0), was.1)
  grown (f ∷ firsts) (x ∷ ts) (suc i) at free was = (was.0, grown firsts ts i at free was.1)

-- ---- histories

room_for : (now : Schema) (number : ℕ) (name : List ℕ) → Gets now number name → IfSome (table_at now number) (λ t. length t.columns < widest)
room_for now number name g = subst (λ (o : Option Table). IfSome o (λ t. length t.columns < widest)) (sym g.at) g.room

pub tables_are_good : (first : Schema) (h : History) → AreTables 1 first.tables → AreTables 1 (schema_after first h).tables
tables_are_good first [] good = good
tables_are_good first (step ∷ h) good =
    let now : Schema = schema_after first h in
    let before = tables_are_good first h good in
    schema_step (λ s. AreTables 1 s.tables) now (is_idle (has_open h)) step before
    (λ i number name of fits idle. added_are_tables now number (new_column name of) (room_for now number name (gets now i number name of fits)) before)

-- the tables now, over the first ones
record IsGrown (first now : Schema) : Type 0 where
  good : AreTables 1 now.tables
  over : AreWithColumns first.tables now.tables
  names : HaveReadableNames now.tables

as_it_was : (t : Table) → IsWithColumns t t
as_it_was t = record { more = []; may_be_null = tt; later_is = ap (λ (cs : List Column). record t { columns = cs }) (sym (append-nil t.columns)) }

all_as_they_were : (ts : List Table) → AreWithColumns ts ts
all_as_they_were [] = tt
all_as_they_were (t ∷ ts) = (as_it_was t, all_as_they_were ts)

added_grown : (first now : Schema) (i number : ℕ) (name : List ℕ) (of : ColumnType) → IsReadableName name → misfit now (AddColumn i number name of) ≡ None → IsGrown first now → IsGrown first (add_column number (new_column name of) now)
added_grown first now i number name of one fits was =
    let g = gets now i number name of fits in
    let c = new_column name of in
    let there = (place_of now.tables number g.table g.at).1 in
    let is : add_column number c now ≡ record { tables = slice_set now.tables (number - 1) (with_column c g.table) } = ap (added_by now number c) g.at in
    record {
      good = added_are_tables now number c (room_for now number name g) was.good;
      over = subst (λ (s : Schema). AreWithColumns first.tables s.tables) (sym is) (grown c g.table first.tables now.tables (number - 1) there refl was.over);
      names = subst (λ (s : Schema). HaveReadableNames s.tables) (sym is) (record {
        own = subst AreReadableNames (sym (same_names c g.table now.tables (number - 1) there)) (was.names).own;
        columns = columns_named c g.table now.tables (number - 1) there g.new one (was.names).columns;
      });
    }

history_grown : (first : Schema) (h : History) → IsReadableSchema first → IsReadableHistory h → IsGrown first (schema_after first h)
history_grown first [] start readable = record { good = start.good; over = all_as_they_were first.tables; names = start.names }
history_grown first (step ∷ h) start readable =
    let before = history_grown first h start readable.1 in by step readable.0 before
  where
    by : (step : Step) → IsReadableStep step → IsGrown first (schema_after first h) → IsGrown first (schema_after first (step ∷ h))
    by (AddColumn i number name of) one was = by_test (is_none (misfit (schema_after first h) (AddColumn i number name of)) && is_idle (has_open h)) refl
      where
        fits : (o : Option Refusal) → is_none o ≡ true → o ≡ None
        fits None is = refl
        fits (Some refusal) is = cc

        by_test : (b : Bool) → (is_none (misfit (schema_after first h) (AddColumn i number name of)) && is_idle (has_open h)) ≡ b
            → IsGrown first (if b then add_column number (new_column name of) (schema_after first h) else schema_after first h)
        by_test true is =
            let both = and_parts (is_none (misfit (schema_after first h) (AddColumn i number name of))) (is_idle (has_open h)) is in
            added_grown first (schema_after first h) i number name of one (fits (misfit (schema_after first h) (AddColumn i number name of)) both.0) was
        by_test false is = was
    by (Begin i) one was = was
    by (Insert i number rows) one was = was
    by (Update i keys sets) one was = was
    by (Delete i keys) one was = was
    by (UpdatePortion i keys cut sets) one was = was
    by (DeletePortion i keys cut) one was = was
    by (Select i form keys) one was = was
    by (Commit i reading) one was = was
    by (Rollback i) one was = was
    by (SplitKey key) one was = was
    by (SplitTime key instant) one was = was
    by Migrate one was = was

pub grown_tables_are_readable : GrownTablesAreReadable
grown_tables_are_readable first h start readable =
    let now = history_grown first h start readable in
    record { before = start.good; after = now.good; grown = now.over; names = now.names }
