-- The names of a schema that was read are names of lines.
use Rattle.std.proofs.Common.{◌≡◌, ℕ, ◌+◌, Bool, true, false, List, [], ◌∷◌, ◌++◌, Option, Some, None, Ok, Err, inl, inr, refl, sym, subst, map, length}
use Rattle.std.specs.Prelude.{Result, ◌||◌, filter_map}
use Rattle.std.specs.List.{AllByRecursion, list_any}
use Rattle.values.specs.declared.table.Column.{Column}
use Rattle.values.specs.declared.table.Table.{Table}
use Rattle.values.specs.Each.{Each}
use Rattle.values.specs.Names.{same_name}
use Rattle.values.specs.TableRules.{AreTables}
use Rattle.values.specs.Tables.{Schema}
use Rattle.rows.specs.declared.declaration.ApplicationPeriod.{ApplicationPeriod}
use Rattle.rows.specs.declared.declaration.Declaration.{Declaration}
use Rattle.rows.specs.declared.declaration.Entry.{Entry}
use Rattle.rows.specs.declared.declaration.Entry.TheVariants.{User, Generated, Period, Application, Key}
use Rattle.rows.specs.declared.schema_reading.SchemaFault.{SchemaFault}
use Rattle.rows.specs.declared.schema_reading.SchemaFault.TheVariants.{BadTable}
use Rattle.rows.specs.GoodTable.{AreTablesOf, SameName}
use Rattle.rows.specs.SchemaGrammar.{◌or◌, ApplicationPeriodText, CreateText, EntryText, GeneratedEntry, Listed, Name, SchemaText, SystemPeriodText, UserEntry}
use Rattle.rows.specs.SchemaTable.{next_table, tables_from, user_column}
use Rattle.rows.proofs.SchemaEntries.{columns_same, same_to, users_differ}
use Rattle.rows.proofs.SchemaGood.{exact_tables}
use Rattle.rows.proofs.SchemaPlaces.{Apart, no_two_apart}
use Rattle.rows.proofs.SchemaReads.{texts}
use Rattle.rows.proofs.SchemaTablesMade.{with_next}
use Rattle.dump_reading.specs.Readable.{AreApart, AreReadableNames, IsReadableName, column_names}
use Rattle.dump_reading.specs.ReadableHistories.{ReadSchemasAreReadable}

-- ---- names that are declared

readable : (name bytes rest : List ℕ) → Name name bytes rest → IsReadableName name
readable name bytes rest is = record { bytes = (is.letters).are_letters; named = is.fits }

-- of a user column
abbrev NamesColumn : Entry → Type 0
NamesColumn (User c) = IsReadableName c.name
NamesColumn (Generated g) = Unit {0}
NamesColumn (Period p) = Unit {0}
NamesColumn (Application p) = Unit {0}
NamesColumn (Key clause) = Unit {0}

period_named : (x : Entry) (bytes rest : List ℕ) → (SystemPeriodText or ApplicationPeriodText) x bytes rest → NamesColumn x
period_named x bytes rest (inl is) = subst NamesColumn is.1.1.1.1.1.1.0 tt
period_named x bytes rest (inr is) = subst NamesColumn is.1.1.1.1.1.1.0 tt

column_named : (name : List ℕ) (x : Entry) (bytes rest : List ℕ) → IsReadableName name → (GeneratedEntry name or UserEntry name) x bytes rest → NamesColumn x
column_named name x bytes rest good (inl is) = subst NamesColumn is.1.1.1.1.1.1.1.1.1.1.1.1.1.1.1.0 tt
column_named name x bytes rest good (inr is) = subst NamesColumn is.1.1.1.1.1.1.0 good

entry_named : (x : Entry) (bytes rest : List ℕ) → EntryText x bytes rest → NamesColumn x
entry_named x bytes rest (inl (inl is)) = period_named x _ rest is.1.1.1.1.1.1
entry_named x bytes rest (inl (inr is)) = subst NamesColumn is.1.1.1.1.1.1.1.1.1.1.1.1.1.1.1.0 tt
entry_named x bytes rest (inr is) = column_named is.0 x is.1.0 rest (readable is.0 bytes is.1.0 is.1.1.0) is.1.1.1

entries_named : (xs : List Entry) (bytes rest : List ℕ) → Listed EntryText xs bytes rest → Each NamesColumn xs
entries_named [] bytes rest is = absurd is
entries_named (x ∷ []) bytes rest is = (entry_named x bytes rest is, tt)
entries_named (x ∷ y ∷ xs) bytes rest is = (entry_named x bytes is.0 is.1.1.0, entries_named (y ∷ xs) is.1.0 rest is.1.1.1.1)

record IsNamed (d : Declaration) : Type 0 where
  own : IsReadableName d.name
  columns : Each NamesColumn d.entries

declaration_named : (d : Declaration) (bytes rest : List ℕ) → CreateText d bytes rest → IsNamed d
declaration_named d bytes rest is =
    let name = is.1.1.1.1.1.1 in
    let entries = name.1.1.1 in
    let body = (entries.1.1.0).1.1.1 in
    let made = (entries.1.1.1).1.1.1.0 in
    subst IsNamed made (record {
      own = readable name.0 _ _ name.1.1.0;
      columns = subst (Each NamesColumn) (body.1.1.1).1.1.1.0 (entries_named body.0 _ _ body.1.1.0);
    })

all_named : (ds : List Declaration) (text : List ℕ) → SchemaText ds text → Each IsNamed ds
all_named [] text is = absurd is
all_named (d ∷ []) text is = (declaration_named d text is.0 is.1.0, tt)
all_named (d ∷ e ∷ ds) text is = (declaration_named d text is.0 is.1.1.0, all_named (e ∷ ds) is.1.0 is.1.1.1.1)

-- ---- names that differ

module _ {A : Type 0} (name_of : A → List ℕ) where
  none_same : (name : List ℕ) (xs : List A) → Each (λ y. SameName name (name_of y) → ⊥) xs → list_any (same_name name) (map name_of xs) ≡ false
  none_same name [] differ = refl
  none_same name (x ∷ xs) differ = by (same_name name (name_of x)) refl (none_same name xs differ.1)
    where
      by : (t : Bool) → same_name name (name_of x) ≡ t → list_any (same_name name) (map name_of xs) ≡ false → (t || list_any (same_name name) (map name_of xs)) ≡ false
      by true same rest = absurd (differ.0 (same_to name (name_of x) same))
      by false same rest = rest

  all_apart : (xs : List A) → Apart (λ x y. SameName (name_of x) (name_of y)) xs → AreApart (map name_of xs)
  all_apart [] apart = tt
  all_apart (x ∷ xs) apart = (none_same (name_of x) xs apart.0, all_apart xs apart.1)

-- ---- tables

columns_readable : (o : Option ApplicationPeriod) (xs : List Entry) → Each NamesColumn xs → AllByRecursion IsReadableName (map (λ c. c.name) (filter_map (user_column o) xs))
columns_readable o [] named = tt
columns_readable o (User c ∷ xs) named = (named.0, columns_readable o xs named.1)
columns_readable o (Generated g ∷ xs) named = columns_readable o xs named.1
columns_readable o (Period p ∷ xs) named = columns_readable o xs named.1
columns_readable o (Application p ∷ xs) named = columns_readable o xs named.1
columns_readable o (Key clause ∷ xs) named = columns_readable o xs named.1

same_table_names : (n : ℕ) (ds : List Declaration) (ts : List Table) → AreTablesOf n ds ts → map (λ t. t.name) ts ≡ map (λ d. d.name) ds
same_table_names n [] [] are = refl
same_table_names n [] (t ∷ ts) are = absurd are
same_table_names n (d ∷ ds) [] are = absurd are
same_table_names n (d ∷ ds) (t ∷ ts) are = λ i. (are.0).named i ∷ same_table_names (n + 1) ds ts are.1 i

own_readable : (ds : List Declaration) → Each IsNamed ds → AllByRecursion IsReadableName (map (λ d. d.name) ds)
own_readable [] named = tt
own_readable (d ∷ ds) named = ((named.0).own, own_readable ds named.1)

all_columns : (n : ℕ) (ds : List Declaration) (ts : List Table) → AreTablesOf n ds ts → Each IsNamed ds → AllByRecursion (λ t. AreReadableNames (column_names t)) ts
all_columns n [] [] are named = tt
all_columns n [] (t ∷ ts) are named = absurd are
all_columns n (d ∷ ds) [] are named = absurd are
all_columns n (d ∷ ds) (t ∷ ts) are named =
    let good = (are.0).good in
    let same : filter_map (user_column good.application) d.entries ≡ t.columns = columns_same good.application d.entries t.columns (are.0).columns_are in (
      subst (λ (cs : List Column). AreReadableNames (map (λ c. c.name) cs)) same
          (columns_readable good.application d.entries (named.0).columns, all_apart (λ (c : Column). c.name) (filter_map (user_column good.application) d.entries) (users_differ good.application d.entries good.columns_differ)),
      all_columns (n + 1) ds ts are.1 named.1,
    )

tables_made : (tables : List Table) (ds : List Declaration) (schema : Schema) → tables_from tables ds ≡ Ok schema → AreTables 1 tables → AreTables 1 schema.tables
tables_made tables [] schema is good = subst (λ (s : Schema). AreTables 1 s.tables) (made (record { tables = tables }) schema is) good
  where
    made : (a b : Schema) → ◌≡◌ {A = Result Schema SchemaFault} (Ok a) (Ok b) → a ≡ b
    made a b is = cc
tables_made tables (d ∷ ds) schema is good = by (next_table tables d) refl is (λ t made next. tables_made (tables ++ t ∷ []) ds schema made (with_next tables d t good next))
  where
    by : (o : Option Table) → next_table tables d ≡ o → ◌≡◌ {A = Result Schema SchemaFault} (elim o [ None ↦ Err (BadTable (length tables + 1)) | Some t ↦ tables_from (tables ++ t ∷ []) ds ]) (Ok schema)
        → ((t : Table) → tables_from (tables ++ t ∷ []) ds ≡ Ok schema → Some t ≡ next_table tables d → AreTables 1 schema.tables) → AreTables 1 schema.tables
    by None next is rest = cc
    by (Some t) next is rest = rest t is (sym next)

pub read_schemas_are_readable : ReadSchemasAreReadable
read_schemas_are_readable text schema is =
    let said = (texts text schema).0 is in
    let named = all_named said.declarations text said.spelled in
    record {
      good = tables_made [] said.declarations schema ((exact_tables said.declarations schema).1 (said.good, said.tables)) tt;
      names = record {
        own = subst AreReadableNames (sym (same_table_names 1 said.declarations schema.tables said.tables))
            (own_readable said.declarations named, all_apart (λ (d : Declaration). d.name) said.declarations (no_two_apart (λ d e. SameName d.name e.name) said.declarations (said.good).names_differ));
        columns = all_columns 1 said.declarations schema.tables said.tables named;
      };
    }
