-- Periods of application time: their columns, and their numbers in the table.
use Rattle.std.proofs.Common.{◌≡◌, ℕ, ◌&&◌, ◌||◌, inl, inr, Bool, true, false, List, [], ◌∷◌, ◌++◌, Option, Some, None, refl, sym, ap, ◌∙◌, subst}
use Rattle.std.specs.Prelude.{not}
use Rattle.std.specs.List.{list_any, filter_map}
use Rattle.std.specs.Option.{ForSome}
use Rattle.std.proofs.lemmas.Bool.{and_parts, and_from}
use Rattle.values.specs.declared.table.ColumnType.{ColumnType}
use Rattle.values.specs.declared.table.ColumnType.TheVariants.{Int, Text, Varchar, Boolean}
use Rattle.values.specs.declared.table.Column.{Column}
use Rattle.values.specs.declared.period.Period.{Period as TablePeriod}
use Rattle.values.specs.Names.{same_name}
use Rattle.rows.specs.declared.declaration.UserColumn.{UserColumn}
use Rattle.rows.specs.declared.declaration.ApplicationPeriod.{ApplicationPeriod}
use Rattle.rows.specs.declared.declaration.Entry.{Entry}
use Rattle.rows.specs.declared.declaration.Entry.TheVariants.{User, Generated, Period, Application, Key}
use Rattle.rows.specs.SchemaTable.{user_column, application_period, is_application, only, number_in, is_int, has_int_column, is_good_application, period_in}
use Rattle.rows.specs.GoodTable.{SameName, HasApplication, HasIntColumn, ApplicationIsGood, IsNumberOf, HasPeriodOf}
use Rattle.rows.proofs.SchemaPlaces.{Apart}
use Rattle.rows.proofs.SchemaEntries.{not_from, not_to, same_to, same_from, any_none, none_any, either_so, application_one, application_none, none_application, known_all, numbers_are, number_same, OneName}

-- columns of whole numbers
int_to : (of : ColumnType) → is_int of ≡ true → of ≡ Int
int_to Int e = refl
int_to Text e = cc
int_to (Varchar n) e = cc
int_to Boolean e = cc

module _ (o : Option ApplicationPeriod) (name : List ℕ) where
  abbrev has_int : List Entry → Bool
  has_int entries = has_int_column (filter_map (user_column o) entries) name

  behind : (x : Entry) (entries : List Entry) → HasIntColumn entries name → HasIntColumn (x ∷ entries) name
  behind x entries (c, ((before, (after, place)), is)) = (c, ((x ∷ before, (after, ap (λ l. x ∷ l) place)), is))

  int_stands : (entries : List Entry) → has_int entries ≡ true → HasIntColumn entries name
  int_stands [] e = cc
  int_stands (User c ∷ entries) e = elim (either_so (same_name c.name name && is_int c.of) (has_int entries) e) [
    | inl here ↦
        let parts = and_parts (same_name c.name name) (is_int c.of) here in
        (c, (([], (entries, refl)), (same_to c.name name parts.0, int_to c.of parts.1)))
    | inr there ↦ behind (User c) entries (int_stands entries there)
  ]
  int_stands (Generated g ∷ entries) e = behind (Generated g) entries (int_stands entries e)
  int_stands (Period p ∷ entries) e = behind (Period p) entries (int_stands entries e)
  int_stands (Application p ∷ entries) e = behind (Application p) entries (int_stands entries e)
  int_stands (Key clause ∷ entries) e = behind (Key clause) entries (int_stands entries e)

  int_found : (c : UserColumn) (after : List Entry) → SameName c.name name → c.of ≡ Int → (before : List Entry) → has_int (before ++ User c ∷ after) ≡ true
  int_found c after same int [] = ap (λ t. t || has_int after) (and_from (same_name c.name name) (is_int c.of) (same_from c.name name same) (ap is_int int))
  int_found c after same int (User d ∷ before) = one (same_name d.name name && is_int d.of) (int_found c after same int before)
    where
      one : (t : Bool) → has_int (before ++ User c ∷ after) ≡ true → (t || has_int (before ++ User c ∷ after)) ≡ true
      one true e = refl
      one false e = e
  int_found c after same int (Generated g ∷ before) = int_found c after same int before
  int_found c after same int (Period p ∷ before) = int_found c after same int before
  int_found c after same int (Application p ∷ before) = int_found c after same int before
  int_found c after same int (Key clause ∷ before) = int_found c after same int before

  stands_int : (entries : List Entry) → HasIntColumn entries name → has_int entries ≡ true
  stands_int entries (c, ((before, (after, place)), (same, int))) = ap has_int place ∙ int_found c after same int before

  -- the number of such a column
  int_number : (entries : List Entry) → HasIntColumn entries name → IsNumberOf (filter_map (user_column o) entries) name (number_in (filter_map (user_column o) entries) name)
  int_number entries (c, (stands, (same, int))) =
      (numbers_are (filter_map (user_column o) entries) (name ∷ []) (known_all o entries (name ∷ []) ((c, (stands, same)), tt))).0

-- the period of good entries
some_same : {A : Type 0} (x y : A) → Some x ≡ Some y → x ≡ y
some_same x y e = ap (λ o. elim o [ Some z ↦ z | None ↦ x ]) e

module _ (entries : List Entry) (key : List (List ℕ)) (q : Option ApplicationPeriod) where
  abbrev user_columns : List Column
  user_columns = filter_map (user_column q) entries

  pub application_good : (o : Option ApplicationPeriod) → only (filter_map application_period entries) ≡ o → is_good_application entries user_columns key o ≡ true
      → HasApplication entries o × ForSome o (ApplicationIsGood entries key)
  application_good None is e = (application_none entries (not_from (list_any is_application entries) e), λ p none. let never : ◌≡◌ {A = Option ApplicationPeriod} None (Some p) = none in absurd (cc))
  application_good (Some p) is e =
      let a = and_parts (has_int_column user_columns p.columns.start && has_int_column user_columns p.columns.end) (not (list_any (same_name p.columns.end) key)) e in
      let b = and_parts (has_int_column user_columns p.columns.start) (has_int_column user_columns p.columns.end) a.0 in
      let good : ApplicationIsGood entries key p = record {
        from_int = int_stands q p.columns.start entries b.0;
        to_int = int_stands q p.columns.end entries b.1;
        end_outside = any_none (same_name p.columns.end) (SameName p.columns.end) (same_from p.columns.end) key (not_from (list_any (same_name p.columns.end) key) a.1);
      } in
      (application_one entries p is, λ r same. subst (ApplicationIsGood entries key) (some_same p r same) good)

  pub good_application : (o : Option ApplicationPeriod) → HasApplication entries o → ForSome o (ApplicationIsGood entries key) → is_good_application entries user_columns key o ≡ true
  good_application None has good = not_to (list_any is_application entries) (none_application entries has)
  good_application (Some p) has good =
      let g = good p refl in
      and_from (has_int_column user_columns p.columns.start && has_int_column user_columns p.columns.end) (not (list_any (same_name p.columns.end) key))
      (and_from (has_int_column user_columns p.columns.start) (has_int_column user_columns p.columns.end) (stands_int q p.columns.start entries g.from_int) (stands_int q p.columns.end entries g.to_int))
      (not_to (list_any (same_name p.columns.end) key) (none_any (same_name p.columns.end) (SameName p.columns.end) (same_to p.columns.end) key g.end_outside))

-- the table's period
pub period_is : (entries : List Entry) (key : List (List ℕ)) (q o : Option ApplicationPeriod) → ForSome o (ApplicationIsGood entries key)
    → HasPeriodOf (filter_map (user_column q) entries) o (period_in (filter_map (user_column q) entries) o)
period_is entries key q None good = tt
period_is entries key q (Some p) good =
    let g = good p refl in record { named = refl; starts = int_number q p.columns.start entries g.from_int; ends = int_number q p.columns.end entries g.to_int }

pub period_same : (columns : List Column) (o : Option ApplicationPeriod) (t : Option TablePeriod) → Apart OneName columns → HasPeriodOf columns o t → period_in columns o ≡ t
period_same columns None None a is = refl
period_same columns None (Some t) a is = absurd is
period_same columns (Some p) None a is = absurd is
period_same columns (Some p) (Some t) a is =
    ap (λ n. Some (record { name = n; from = number_in columns p.columns.start; to = number_in columns p.columns.end })) (sym is.named)
    ∙ ap (λ n. Some (record { name = t.name; from = n; to = number_in columns p.columns.end })) (number_same columns p.columns.start t.from a is.starts)
    ∙ ap (λ n. Some (record { name = t.name; from = t.from; to = n })) (number_same columns p.columns.end t.to a is.ends)
