-- Declarations make tables exactly where they are good ones.
use Rattle.std.proofs.Common.{◌≡◌, ℕ, ◌+◌, ◌≤◌, ◌<◌, ◌==◌, ◌&&◌, ◌||◌, ◌↔◌, Bool, true, false, List, [], ◌∷◌, ◌++◌, Option, Some, None, Ok, Err, length, map, refl, sym, subst, ap, ◌∙◌, arith, if◌then◌else◌, nat_lt}
use Rattle.std.specs.Prelude.{Result, not, nat_le, option_and_then}
use Rattle.std.specs.List.{list_any, list_all, filter_map, flat_map}
use Rattle.std.proofs.lemmas.Bool.{and_parts, and_from}
use Rattle.std.proofs.lemmas.Bool.Decides.{nat_tests}
use Rattle.std.proofs.lemmas.List.{length-append, length-map, append_assoc, append-nil}
use Rattle.values.specs.declared.period.Period.{Period}
use Rattle.values.specs.declared.table.Column.{Column}
use Rattle.values.specs.declared.table.Table.{Table}
use Rattle.values.specs.Tables.{Schema}
use Rattle.rows.specs.declared.declaration.Side.TheVariants.{Start, End}
use Rattle.rows.specs.declared.declaration.PeriodNames.{PeriodNames}
use Rattle.rows.specs.declared.declaration.ApplicationPeriod.{ApplicationPeriod}
use Rattle.rows.specs.declared.declaration.KeyClause.{KeyClause}
use Rattle.rows.specs.declared.declaration.Declaration.{Declaration}
use Rattle.rows.specs.declared.schema_reading.SchemaFault.{SchemaFault}
use Rattle.rows.specs.declared.schema_reading.SchemaFault.TheVariants.{BadTable}
use Rattle.values.specs.Names.{same_name}
use Rattle.rows.specs.SchemaTable.{user_column, declared_name, side_name, period_names, application_period, keys_in, is_good_entry, are_distinct, only, key_names, number_in, is_good_application, period_in, is_good_key, is_good_period, is_good_width, are_good_entries, keyed_table, table_of, next_table, tables_from}
use Rattle.values.specs.Each.{Each}
use Rattle.rows.specs.GoodTable.{SameName, TableIsGood, AreNumbersOf, HasPeriodOf, IsTableOf, AreTablesOf, TablesAreGood, IsFirstBad}
use Rattle.rows.proofs.SchemaPlaces.{each-append, each_front, each_back, apart_no_two, no_two_apart, apart_push, apart_front, apart_last}
use Rattle.rows.proofs.SchemaEntries.{le_from, le_to, not_from, not_to, same_to, same_from, any_none, none_any, distinct_differ, differ_distinct, side_stands, side_only, period_stands, period_only, key_stands, key_only, all_known, known_all, numbers_are, numbers_same, users_differ, columns_are, columns_same, user_count, columns_differ, differ_columns, entries_good, good_entries, application_only}
use Rattle.rows.proofs.SchemaKeys.{key_is, is_key}
use Rattle.rows.proofs.SchemaPeriods.{application_good, good_application, period_is, period_same}

-- a step that gives something
then_some : {A B : Type 0} (o : Option A) (k : A → Option B) (y : B) → option_and_then k o ≡ Some y → (x : A) × ((o ≡ Some x) × (k x ≡ Some y))
then_some None k y e = cc
then_some (Some x) k y e = (x, (refl, e))

some_then : {A B : Type 0} (o : Option A) (k : A → Option B) (x : A) (y : Option B) → o ≡ Some x → k x ≡ y → option_and_then k o ≡ y
some_then o k x y e f = ap (option_and_then k) e ∙ f

where_so : {A : Type 0} (t : Bool) (x y : A) → (if t then Some x else None) ≡ Some y → (t ≡ true) × (x ≡ y)
where_so true x y e = (refl, ap (λ o. elim o [ Some z ↦ z | None ↦ x ]) e)
where_so false x y e = cc

where_some : {A : Type 0} (t : Bool) (o : Option A) (y : A) → (if t then o else None) ≡ Some y → (t ≡ true) × (o ≡ Some y)
where_some true o y e = (refl, e)
where_some false o y e = cc

-- the table that a declaration makes
abbrev columns_of : Declaration → Option ApplicationPeriod → List Column
columns_of d o = filter_map (user_column o) d.entries

abbrev made : ℕ → Declaration → List ℕ → List ℕ → Option ApplicationPeriod → List (List ℕ) → Table
made number d start end o names =
    record { number = number; name = d.name; columns = columns_of d o; key = map (number_in (columns_of d o)) names; row_start = start; row_end = end; period = period_in (columns_of d o) o }

abbrev fits : Declaration → Option ApplicationPeriod → List (List ℕ) → Bool
fits d o names =
    is_good_key names (map (number_in (columns_of d o)) names) && is_good_width (columns_of d o) && is_good_application d.entries (columns_of d o) names o && are_good_entries d.entries

pub made_is_good : (number : ℕ) (d : Declaration) (t : Table) → table_of number d ≡ Some t → IsTableOf d number t
unfolding table_of keyed_table
made_is_good number d t e =
    let a = then_some (only (filter_map (side_name Start) d.entries)) _ t e in
    let b = then_some (only (filter_map (side_name End) d.entries)) _ t a.1.1 in
    let c = then_some (only (filter_map period_names d.entries)) _ t b.1.1 in
    let k = then_some (only (flat_map keys_in d.entries)) _ t c.1.1 in
    let o = only (filter_map application_period d.entries) in
    let n = then_some (key_names o k.0) _ t k.1.1 in
    let g = where_some (is_good_period a.0 b.0 c.0) (keyed_table number d a.0 b.0 o n.0) t n.1.1 in
    let f = where_so (fits d o n.0) (made number d a.0 b.0 o n.0) t g.1 in
    subst (IsTableOf d number) f.1 (good a.0 b.0 c.0 k.0 o n.0 a.1.0 b.1.0 c.1.0 k.1.0 refl n.1.0 g.0 f.0)
  where
    good : (start end : List ℕ) (period : PeriodNames) (clause : KeyClause) (o : Option ApplicationPeriod) (names : List (List ℕ)) → only (filter_map (side_name Start) d.entries) ≡ Some start
        → only (filter_map (side_name End) d.entries) ≡ Some end → only (filter_map period_names d.entries) ≡ Some period → only (flat_map keys_in d.entries) ≡ Some clause
        → only (filter_map application_period d.entries) ≡ o → key_names o clause ≡ Some names → is_good_period start end period ≡ true → fits d o names ≡ true
        → IsTableOf d number (made number d start end o names)
    good start end period clause o names is_start is_end is_period is_clause is_application are_names is_between f =
        let columns = columns_of d o in
        let numbers = map (number_in columns) names in
        let p = and_parts (is_good_key names numbers && is_good_width columns && is_good_application d.entries columns names o) (are_good_entries d.entries) f in
        let q = and_parts (is_good_key names numbers && is_good_width columns) (is_good_application d.entries columns names o) p.0 in
        let r = and_parts (is_good_key names numbers) (is_good_width columns) q.0 in
        let ends = and_parts (same_name start period.start) (same_name end period.end) is_between in
        let key = and_parts (nat_le (length names) 4 && are_distinct names) (not (list_any (λ n. n == 0) numbers)) r.0 in
        let parts = and_parts (nat_le (length names) 4) (are_distinct names) key.0 in
        let width = and_parts (nat_le 1 (length columns)) (nat_le (length columns) 16) r.1 in
        let entries = and_parts (list_all is_good_entry d.entries) (are_distinct (filter_map declared_name d.entries)) p.1 in
        let first = side_stands Start d.entries start is_start in
        let last_one = side_stands End d.entries end is_end in
        let giver = key_stands d.entries clause is_clause in
        let application = application_good d.entries names o o is_application q.1 in
        let known = not_from (list_any (λ n. n == 0) numbers) key.1 in
        let is_good : TableIsGood d = record {
          start = first.0;
          end = last_one.0;
          period = period;
          application = o;
          giver = giver.0;
          clause = clause;
          key = names;
          one_start = first.1.1;
          one_end = last_one.1.1;
          one_period = period_stands d.entries period is_period;
          period_from_start = subst (λ n. SameName n period.start) (sym first.1.0) (same_to start period.start ends.0);
          period_to_end = subst (λ n. SameName n period.end) (sym last_one.1.0) (same_to end period.end ends.1);
          few_applications = application.0;
          application_is_good = application.1;
          one_giver = giver.1.1;
          one_key = giver.1.0;
          key_is = key_is o clause names are_names;
          few_in_key = le_from (length names) 4 parts.0;
          key_differs = distinct_differ names parts.1;
          key_of_columns = all_known o d.entries names known;
          some_columns = subst (λ n. 1 ≤ n) (user_count o d.entries) (le_from 1 (length columns) width.0);
          few_columns = subst (λ n. n ≤ 16) (user_count o d.entries) (le_from (length columns) 16 width.1);
          columns_differ = columns_differ d.entries entries.1;
          entries_are_good = entries_good d.entries entries.0;
        } in
        record {
          good = is_good;
          numbered = refl;
          named = refl;
          columns_are = columns_are o d.entries;
          key_is = numbers_are columns names known;
          starts = sym first.1.0;
          ends = sym last_one.1.0;
          period_is = period_is d.entries names o o application.1;
        }

good_fits : (d : Declaration) (g : TableIsGood d) → fits d g.application g.key ≡ true
good_fits d g =
    let o = g.application in
    let columns = columns_of d o in
    let numbers = map (number_in columns) g.key in
    let parts : (nat_le (length g.key) 4 && are_distinct g.key) ≡ true = and_from (nat_le (length g.key) 4) (are_distinct g.key) (le_to (length g.key) 4 g.few_in_key) (differ_distinct g.key g.key_differs) in
    let key : is_good_key g.key numbers ≡ true =
    and_from (nat_le (length g.key) 4 && are_distinct g.key) (not (list_any (λ n. n == 0) numbers)) parts (not_to (list_any (λ n. n == 0) numbers) (known_all o d.entries g.key g.key_of_columns)) in
    let width : is_good_width columns ≡ true =
    and_from (nat_le 1 (length columns)) (nat_le (length columns) 16)
    (le_to 1 (length columns) (subst (λ n. 1 ≤ n) (sym (user_count o d.entries)) g.some_columns))
    (le_to (length columns) 16 (subst (λ n. n ≤ 16) (sym (user_count o d.entries)) g.few_columns)) in
    let application : is_good_application d.entries columns g.key o ≡ true = good_application d.entries g.key o o g.few_applications g.application_is_good in
    let entries : are_good_entries d.entries ≡ true =
    and_from (list_all is_good_entry d.entries) (are_distinct (filter_map declared_name d.entries)) (good_entries d.entries g.entries_are_good) (differ_columns d.entries g.columns_differ) in
    and_from (is_good_key g.key numbers && is_good_width columns && is_good_application d.entries columns g.key o) (are_good_entries d.entries)
    (and_from (is_good_key g.key numbers && is_good_width columns) (is_good_application d.entries columns g.key o) (and_from (is_good_key g.key numbers) (is_good_width columns) key width) application)
    entries

good_period : (d : Declaration) (g : TableIsGood d) → is_good_period g.start.name g.end.name g.period ≡ true
good_period d g =
    and_from (same_name g.start.name g.period.start) (same_name g.end.name g.period.end) (same_from g.start.name g.period.start g.period_from_start) (same_from g.end.name g.period.end g.period_to_end)

keyed_is_made : (number : ℕ) (d : Declaration) (g : TableIsGood d) → keyed_table number d g.start.name g.end.name g.application g.key ≡ Some (made number d g.start.name g.end.name g.application g.key)
unfolding keyed_table
keyed_is_made number d g = ap (λ f. if f then Some (made number d g.start.name g.end.name g.application g.key) else None) (good_fits d g)

good_is_made : (number : ℕ) (d : Declaration) (g : TableIsGood d) → table_of number d ≡ Some (made number d g.start.name g.end.name g.application g.key)
unfolding table_of
good_is_made number d g =
    let t = made number d g.start.name g.end.name g.application g.key in
    some_then (only (filter_map (side_name Start) d.entries)) _ g.start.name (Some t) (side_only Start d.entries g.start g.one_start)
    (some_then (only (filter_map (side_name End) d.entries)) _ g.end.name (Some t) (side_only End d.entries g.end g.one_end)
    (some_then (only (filter_map period_names d.entries)) _ g.period (Some t) (period_only d.entries g.period g.one_period)
    (some_then (only (flat_map keys_in d.entries)) _ g.clause (Some t) (key_only d.entries g.giver g.clause g.one_key g.one_giver)
    (ap (λ o. option_and_then (λ names. if is_good_period g.start.name g.end.name g.period then keyed_table number d g.start.name g.end.name o names else None) (key_names o g.clause)) (application_only d.entries g.application g.few_applications)
    ∙ some_then (key_names g.application g.clause) _ g.key (Some t) (is_key g.application g.clause g.key g.key_is)
    (ap (λ f. if f then keyed_table number d g.start.name g.end.name g.application g.key else None) (good_period d g) ∙ keyed_is_made number d g)))))

-- a table that is the declaration's is the one that is made
table_is_made : (number : ℕ) (d : Declaration) (t : Table) → IsTableOf d number t → table_of number d ≡ Some t
table_is_made number d t is =
    let g = is.good in
    let o = g.application in
    let columns = columns_of d o in
    let same : columns ≡ t.columns = columns_same o d.entries t.columns is.columns_are in
    let apart = users_differ o d.entries g.columns_differ in
    let numbers : map (number_in columns) g.key ≡ t.key = numbers_same columns g.key t.key apart (subst (λ c. AreNumbersOf c g.key t.key) (sym same) is.key_is) in
    let period : period_in columns o ≡ t.period = period_same columns o t.period apart (subst (λ c. HasPeriodOf c o t.period) (sym same) is.period_is) in
    good_is_made number d g
    ∙ ap (λ n. Some (record { number = n; name = d.name; columns = columns; key = map (number_in columns) g.key; row_start = g.start.name; row_end = g.end.name; period = period_in columns o })) (sym is.numbered)
    ∙ ap (λ n. Some (record { number = t.number; name = n; columns = columns; key = map (number_in columns) g.key; row_start = g.start.name; row_end = g.end.name; period = period_in columns o })) (sym is.named)
    ∙ ap (λ k. Some (record { number = t.number; name = t.name; columns = columns; key = k; row_start = g.start.name; row_end = g.end.name; period = period_in columns o })) numbers
    ∙ ap (λ (q : Option Period). Some (record { number = t.number; name = t.name; columns = columns; key = t.key; row_start = g.start.name; row_end = g.end.name; period = q })) period
    ∙ ap (λ c. Some (record { number = t.number; name = t.name; columns = c; key = t.key; row_start = g.start.name; row_end = g.end.name; period = t.period })) same
    ∙ ap (λ n. Some (record { number = t.number; name = t.name; columns = t.columns; key = t.key; row_start = n; row_end = g.end.name; period = t.period })) (sym is.starts)
    ∙ ap (λ n. Some (record { number = t.number; name = t.name; columns = t.columns; key = t.key; row_start = t.row_start; row_end = n; period = t.period })) (sym is.ends)

-- declarations beside one another
abbrev Clash : Declaration → Declaration → Type 0
Clash d e = SameName d.name e.name

-- these tables were made by these declarations
abbrev Made : List Table → List Declaration → Type 0
Made tables ds = map (λ (t : Table). t.name) tables ≡ map (λ (d : Declaration). d.name) ds

made_length : (tables : List Table) (ds : List Declaration) → Made tables ds → length tables ≡ length ds
made_length tables ds m = omega (arith, ap length m, length-map tables (λ (t : Table). t.name), length-map ds (λ (d : Declaration). d.name))

map-append : {A B : Type 0} (f : A → B) (xs ys : List A) → map f (xs ++ ys) ≡ map f xs ++ map f ys
map-append f [] ys = refl
map-append f (x ∷ xs) ys = ap (λ l. f x ∷ l) (map-append f xs ys)

made_push : (tables : List Table) (ds : List Declaration) (t : Table) (d : Declaration) → Made tables ds → t.name ≡ d.name → Made (tables ++ t ∷ []) (ds ++ d ∷ [])
made_push tables ds t d m e =
    map-append (λ (t : Table). t.name) tables (t ∷ []) ∙ ap (λ l. l ++ t.name ∷ []) m ∙ ap (λ n. map (λ (d : Declaration). d.name) ds ++ n ∷ []) e
    ∙ sym (map-append (λ (d : Declaration). d.name) ds (d ∷ []))

abbrev is_taken : List Table → List ℕ → Bool
is_taken tables name = list_any (λ t. same_name t.name name) tables

abbrev is_name_of : List ℕ → List ℕ → Bool
is_name_of name n = same_name n name

any_map : {A B : Type 0} (p : B → Bool) (f : A → B) (xs : List A) → list_any (λ x. p (f x)) xs ≡ list_any p (map f xs)
any_map p f [] = refl
any_map p f (x ∷ xs) = ap (λ t. p (f x) || t) (any_map p f xs)

taken_by : (tables : List Table) (ds : List Declaration) (name : List ℕ) → Made tables ds → is_taken tables name ≡ list_any (λ d. same_name d.name name) ds
taken_by tables ds name m =
    any_map (is_name_of name) (λ (t : Table). t.name) tables ∙ ap (list_any (is_name_of name)) m ∙ sym (any_map (is_name_of name) (λ (d : Declaration). d.name) ds)

below_to : (n : ℕ) → n < 16 → nat_lt n 16 ≡ true
below_to n h = grind (arith, nat_tests)

below_from : (n : ℕ) → nat_lt n 16 ≡ true → n < 16
below_from n e = grind (arith, nat_tests)

-- one more declaration
push_good : (before : List Declaration) (d : Declaration) → TablesAreGood before → length before < 16 → Each (λ e. Clash e d → ⊥) before → TableIsGood d → TablesAreGood (before ++ d ∷ [])
push_good before d g few apart good = record {
  few = omega (arith, few, length-append before (d ∷ []));
  names_differ = apart_no_two Clash (before ++ d ∷ []) (apart_push Clash before d (no_two_apart Clash before g.names_differ) apart);
  tables_are_good = each-append TableIsGood before (d ∷ []) g.tables_are_good (good, tt);
}

pushed_few : (before : List Declaration) (d : Declaration) → TablesAreGood (before ++ d ∷ []) → length before < 16
pushed_few before d g = omega (arith, g.few, length-append before (d ∷ []))

front_good : (before after : List Declaration) → TablesAreGood (before ++ after) → TablesAreGood before
front_good before after g = record {
  few = omega (arith, g.few, length-append before after);
  names_differ = apart_no_two Clash before (apart_front Clash before after (no_two_apart Clash (before ++ after) g.names_differ));
  tables_are_good = each_front TableIsGood before after g.tables_are_good;
}

abbrev next_test : List Table → Declaration → Bool
next_test tables d = nat_lt (length tables) 16 && not (is_taken tables d.name)

module _ (tables : List Table) (before : List Declaration) (m : Made tables before) (g : TablesAreGood before) (d : Declaration) where
  next_good : (t : Table) → next_table tables d ≡ Some t → TablesAreGood (before ++ d ∷ []) × IsTableOf d (length tables + 1) t
  unfolding next_table
  next_good t e = by_test (next_test tables d) refl e
    where
      by_test : (s : Bool) → next_test tables d ≡ s → ◌≡◌ {A = Option Table} (if s then table_of (length tables + 1) d else None) (Some t) → TablesAreGood (before ++ d ∷ []) × IsTableOf d (length tables + 1) t
      by_test false q e = cc
      by_test true q e =
          let p = and_parts (nat_lt (length tables) 16) (not (is_taken tables d.name)) q in
          let good = made_is_good (length tables + 1) d t e in
          let few : length tables < 16 = below_from (length tables) p.0 in
          let free = any_none (λ (e : Declaration). same_name e.name d.name) (λ e. Clash e d) (λ e. same_from e.name d.name) before
          (sym (taken_by tables before d.name m) ∙ not_from (is_taken tables d.name) p.1) in
          (push_good before d g (omega (arith, few, made_length tables before m)) free good.good, good)

  good_next : TablesAreGood (before ++ d ∷ []) → next_table tables d ≡ table_of (length tables + 1) d
  unfolding next_table
  good_next h =
      let few : nat_lt (length tables) 16 ≡ true = below_to (length tables) (omega (arith, pushed_few before d h, made_length tables before m)) in
      let free : is_taken tables d.name ≡ false =
      taken_by tables before d.name m
      ∙ none_any (λ (e : Declaration). same_name e.name d.name) (λ e. Clash e d) (λ e. same_to e.name d.name) before
      (apart_last Clash before d (no_two_apart Clash (before ++ d ∷ []) h.names_differ)) in
      ap (λ s. if s then table_of (length tables + 1) d else None) (and_from (nat_lt (length tables) 16) (not (is_taken tables d.name)) few (not_to (is_taken tables d.name) free))

  good_table : TablesAreGood (before ++ d ∷ []) → (t : Table) × ((next_table tables d ≡ Some t) × (t.name ≡ d.name))
  good_table h =
      let good = (each_back TableIsGood before (d ∷ []) h.tables_are_good).0 in
      (made (length tables + 1) d good.start.name good.end.name good.application good.key, (good_next h ∙ good_is_made (length tables + 1) d good, refl))

-- all of them
abbrev turned : List Table → List Declaration → Option Table → Result Schema SchemaFault
turned tables ds o = elim o [ None ↦ Err (BadTable (length tables + 1)) | Some t ↦ tables_from (tables ++ t ∷ []) ds ]

pushed : (before : List Declaration) (d : Declaration) (ds : List Declaration) → (before ++ d ∷ []) ++ ds ≡ before ++ d ∷ ds
pushed before d ds = append_assoc before (d ∷ []) ds

all_made : (ds : List Declaration) (tables : List Table) (before : List Declaration) → Made tables before → TablesAreGood (before ++ ds) → (schema : Schema) × (tables_from tables ds ≡ Ok schema)
all_made [] tables before m g = (record { tables = tables }, refl)
all_made (d ∷ ds) tables before m g =
    let whole = subst TablesAreGood (sym (pushed before d ds)) g in
    let t = good_table tables before m (front_good before (d ∷ ds) g) d (front_good (before ++ d ∷ []) ds whole) in
    let others = all_made ds (tables ++ t.0 ∷ []) (before ++ d ∷ []) (made_push tables before t.0 d m t.1.1) whole in
    (others.0, ap (turned tables ds) t.1.0 ∙ others.1)

made_good : (ds : List Declaration) (tables : List Table) (before : List Declaration) (schema : Schema) → Made tables before → TablesAreGood before → tables_from tables ds ≡ Ok schema → TablesAreGood (before ++ ds)
made_good [] tables before schema m g e = subst TablesAreGood (sym (append-nil before)) g
made_good (d ∷ ds) tables before schema m g e =
    by_next (next_table tables d) refl e (λ t f more. made_good ds (tables ++ t ∷ []) (before ++ d ∷ []) schema (made_push tables before t d m f.1.named) f.0 more)
  where
    by_next : (o : Option Table) → next_table tables d ≡ o → turned tables ds o ≡ Ok schema
        → ((t : Table) → TablesAreGood (before ++ d ∷ []) × IsTableOf d (length tables + 1) t → tables_from (tables ++ t ∷ []) ds ≡ Ok schema → TablesAreGood ((before ++ d ∷ []) ++ ds))
        → TablesAreGood (before ++ d ∷ ds)
    by_next None at e others = cc
    by_next (Some t) at e others = subst TablesAreGood (pushed before d ds) (others t (next_good tables before m g d t at) e)

-- the tables that they make
pushed_length : (tables : List Table) (t : Table) → length (tables ++ t ∷ []) ≡ length tables + 1
pushed_length tables t = length-append tables (t ∷ [])

record Rest (tables : List Table) (ds : List Declaration) (schema : Schema) : Type 0 where
  rest : List Table
  whole : schema.tables ≡ tables ++ rest
  are : AreTablesOf (length tables + 1) ds rest

tables_are : (ds : List Declaration) (tables : List Table) (before : List Declaration) (schema : Schema) → Made tables before → TablesAreGood before → tables_from tables ds ≡ Ok schema → Rest tables ds schema
tables_are [] tables before schema m g e = record { rest = []; whole = sym (ap tables_in e) ∙ sym (append-nil tables); are = tt }
  where
    tables_in : Result Schema SchemaFault → List Table
    tables_in (Ok s) = s.tables
    tables_in (Err f) = tables
tables_are (d ∷ ds) tables before schema m g e =
    by_next (next_table tables d) refl e (λ t f more. tables_are ds (tables ++ t ∷ []) (before ++ d ∷ []) schema (made_push tables before t d m f.1.named) f.0 more)
  where
    by_next : (o : Option Table) → next_table tables d ≡ o → turned tables ds o ≡ Ok schema
        → ((t : Table) → TablesAreGood (before ++ d ∷ []) × IsTableOf d (length tables + 1) t → tables_from (tables ++ t ∷ []) ds ≡ Ok schema → Rest (tables ++ t ∷ []) ds schema)
        → Rest tables (d ∷ ds) schema
    by_next None at e others = cc
    by_next (Some t) at e others =
        let good = next_good tables before m g d t at in
        let r = others t good e in
        record {
          rest = t ∷ r.rest;
          whole = r.whole ∙ append_assoc tables (t ∷ []) r.rest;
          are = (good.1, subst (λ n. AreTablesOf (n + 1) ds r.rest) (pushed_length tables t) r.are);
        }

are_made : (ds : List Declaration) (rest tables : List Table) (before : List Declaration) → Made tables before → TablesAreGood (before ++ ds) → AreTablesOf (length tables + 1) ds rest
    → tables_from tables ds ≡ Ok (record { tables = tables ++ rest })
are_made [] [] tables before m g e = ap (λ l. Ok (record { tables = l })) (sym (append-nil tables))
are_made [] (t ∷ rest) tables before m g e = absurd e
are_made (d ∷ ds) [] tables before m g e = absurd e
are_made (d ∷ ds) (t ∷ rest) tables before m g (is, e) =
    let whole = subst TablesAreGood (sym (pushed before d ds)) g in
    let next : next_table tables d ≡ Some t =
    good_next tables before m (front_good before (d ∷ ds) g) d (front_good (before ++ d ∷ []) ds whole) ∙ table_is_made (length tables + 1) d t is in
    ap (turned tables ds) next
    ∙ are_made ds rest (tables ++ t ∷ []) (before ++ d ∷ []) (made_push tables before t d m is.named) whole (subst (λ k. AreTablesOf (k + 1) ds rest) (sym (pushed_length tables t)) e)
    ∙ ap (λ l. Ok (record { tables = l })) (append_assoc tables (t ∷ []) rest)

-- the first that makes none
bad_number : (k n : ℕ) → ◌≡◌ {A = Result Schema SchemaFault} (Err (BadTable k)) (Err (BadTable n)) → k ≡ n
bad_number k n e = ap number e
  where
    number : Result Schema SchemaFault → ℕ
    number (Err (BadTable j)) = j
    number _ = k

first_bad : (ds : List Declaration) (tables : List Table) (before : List Declaration) (n : ℕ) → Made tables before → TablesAreGood before → tables_from tables ds ≡ Err (BadTable n) → IsFirstBad (before ++ ds) n
first_bad [] tables before n m g e = cc
first_bad (d ∷ ds) tables before n m g e =
    by_next (next_table tables d) refl e (λ t f more. first_bad ds (tables ++ t ∷ []) (before ++ d ∷ []) n (made_push tables before t d m f.1.named) f.0 more)
  where
    by_next : (o : Option Table) → next_table tables d ≡ o → turned tables ds o ≡ Err (BadTable n)
        → ((t : Table) → TablesAreGood (before ++ d ∷ []) × IsTableOf d (length tables + 1) t → tables_from (tables ++ t ∷ []) ds ≡ Err (BadTable n) → IsFirstBad ((before ++ d ∷ []) ++ ds) n)
        → IsFirstBad (before ++ d ∷ ds) n
    by_next None at e others = record {
      before = before;
      bad = d;
      after = ds;
      place = refl;
      number = sym (bad_number (length tables + 1) n e) ∙ ap (λ k. k + 1) (made_length tables before m);
      good_before = g;
      bad_here = λ h. let t = good_table tables before m g d h in some_is_none (sym t.1.0 ∙ at);
    }
      where
        some_is_none : {t : Table} → Some t ≡ None → ⊥
        some_is_none e = cc
    by_next (Some t) at e others = subst (λ l. IsFirstBad l n) (pushed before d ds) (others t (next_good tables before m g d t at) e)

bad_first : (after : List Declaration) (d : Declaration) (ds : List Declaration) (tables : List Table) (before : List Declaration) → Made tables before → TablesAreGood (before ++ ds)
    → (TablesAreGood ((before ++ ds) ++ d ∷ []) → ⊥) → tables_from tables (ds ++ d ∷ after) ≡ Err (BadTable (length (before ++ ds) + 1))
bad_first after d [] tables before m g bad = by_next (next_table tables d) refl
  where
    by_next : (o : Option Table) → next_table tables d ≡ o → turned tables after o ≡ Err (BadTable (length (before ++ []) + 1))
    by_next None at = ap (λ k. Err (BadTable (k + 1))) (made_length tables before m ∙ ap length (sym (append-nil before)))
    by_next (Some t) at =
        let good = next_good tables before m (subst TablesAreGood (append-nil before) g) d t at in
        absurd (bad (subst (λ l. TablesAreGood (l ++ d ∷ [])) (sym (append-nil before)) good.0))
bad_first after d (e ∷ ds) tables before m g bad =
    let whole = subst TablesAreGood (sym (pushed before e ds)) g in
    let t = good_table tables before m (front_good before (e ∷ ds) g) e (front_good (before ++ e ∷ []) ds whole) in
    let others = bad_first after d ds (tables ++ t.0 ∷ []) (before ++ e ∷ []) (made_push tables before t.0 e m t.1.1) whole (λ h. bad (subst (λ l. TablesAreGood (l ++ d ∷ [])) (pushed before e ds) h)) in
    ap (turned tables (ds ++ d ∷ after)) t.1.0 ∙ others ∙ ap (λ l. Err (BadTable (length l + 1))) (pushed before e ds)

none_good : TablesAreGood []
none_good = record { few = omega arith; names_differ = apart_no_two Clash [] tt; tables_are_good = tt }

pub good_tables : (ds : List Declaration) → ((schema : Schema) × (tables_from [] ds ≡ Ok schema)) ↔ TablesAreGood ds
good_tables ds = (λ s. made_good ds [] [] s.0 refl none_good s.1, λ g. all_made ds [] [] refl g)

pub exact_tables : (ds : List Declaration) (schema : Schema) → (tables_from [] ds ≡ Ok schema) ↔ (TablesAreGood ds × AreTablesOf 1 ds schema.tables)
exact_tables ds schema = (there, λ e. are_made ds schema.tables [] [] refl e.0 e.1)
  where
    there : tables_from [] ds ≡ Ok schema → TablesAreGood ds × AreTablesOf 1 ds schema.tables
    there e = let r = tables_are ds [] [] schema refl none_good e in (made_good ds [] [] schema refl none_good e, subst (AreTablesOf 1 ds) (sym r.whole) r.are)

pub bad_tables : (ds : List Declaration) (n : ℕ) → (tables_from [] ds ≡ Err (BadTable n)) ↔ IsFirstBad ds n
bad_tables ds n = (first_bad ds [] [] n refl none_good, back)
  where
    back : IsFirstBad ds n → tables_from [] ds ≡ Err (BadTable n)
    back f =
        ap (tables_from []) f.place ∙ bad_first f.after f.bad f.before [] [] refl f.good_before f.bad_here ∙ ap (λ k. Err (BadTable k)) (sym f.number)
