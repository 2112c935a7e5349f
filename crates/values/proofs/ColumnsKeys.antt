-- A column that is added leaves the keys of the schema.
use Rattle.std.proofs.Common.{◌≡◌, ℕ, zero, suc, ◌-◌, Bool, true, false, List, [], ◌∷◌, ◌++◌, Option, Some, None, length, refl, sym, ap, subst, ◌∙◌, arith}
use Rattle.std.specs.Prelude.{◌==◌, if◌then◌else◌, slice_set}
use Rattle.std.specs.List.{slice_get}
use Rattle.std.proofs.lemmas.Bool.Decides.{nat_tests}
use Rattle.values.specs.declared.value.Value.{Value}
use Rattle.values.specs.declared.table.Column.{Column}
use Rattle.values.specs.declared.table.Table.{Table}
use Rattle.values.specs.declared.key.Key.{Key}
use Rattle.values.specs.Tables.{Schema, table_at, column_at}
use Rattle.values.specs.Fit.{fits_value, part_fault, parts_fault, first_of}
use Rattle.values.specs.KeyReading.{IsKeyOf}
use Rattle.values.specs.Events.{IsKeyOfAny, IsKeyIn}
use Rattle.values.specs.Columns.{with_column, add_column}
use Rattle.values.proofs.ColumnsTables.{added_by}

-- a column that the table had it has
got_more : {A : Type 0} (xs : List A) (y x : A) (i : ℕ) → slice_get xs i ≡ Some x → slice_get (xs ++ y ∷ []) i ≡ Some x
got_more [] y x i is = cc
got_more (a ∷ xs) y x zero is = is
got_more (a ∷ xs) y x (suc i) is = got_more xs y x i is

column_stays : (c : Column) (t : Table) (n : ℕ) (x : Column) → column_at t n ≡ Some x → column_at (with_column c t) n ≡ Some x
column_stays c t n x is = by (n == 0) is
  where
    by : (b : Bool) → ◌≡◌ {A = Option Column} (if b then None else slice_get t.columns (n - 1)) (Some x) → ◌≡◌ {A = Option Column} (if b then None else slice_get (t.columns ++ c ∷ []) (n - 1)) (Some x)
    by true is = cc
    by false is = got_more t.columns c x (n - 1) is

part_stays : (c : Column) (t : Table) (n : ℕ) (v : Value) → part_fault t n v ≡ None → part_fault (with_column c t) n v ≡ None
part_stays c t n v is = by (column_at t n) refl is
  where
    by : (o : Option Column) → column_at t n ≡ o → ◌≡◌ {A = Option ℕ} (elim o [ None ↦ Some 0 | Some x ↦ if fits_value true x v then None else Some n ]) None → part_fault (with_column c t) n v ≡ None
    by None at is = cc
    by (Some x) at is = ap (λ (o : Option Column). let r : Option ℕ = elim o [ None ↦ Some 0 | Some x ↦ if fits_value true x v then None else Some n ] in r) (column_stays c t n x at) ∙ is

parts_stay : (c : Column) (t : Table) (ns : List ℕ) (vs : List Value) → parts_fault t ns vs ≡ None → parts_fault (with_column c t) ns vs ≡ None
parts_stay c t [] vs is = refl
parts_stay c t (n ∷ ns) [] is = refl
parts_stay c t (n ∷ ns) (v ∷ vs) is = by (part_fault t n v) refl is (parts_stay c t ns vs)
  where
    by : (o : Option ℕ) → part_fault t n v ≡ o → ◌≡◌ {A = Option ℕ} (first_of o (parts_fault t ns vs)) None
        → (parts_fault t ns vs ≡ None → parts_fault (with_column c t) ns vs ≡ None) → parts_fault (with_column c t) (n ∷ ns) (v ∷ vs) ≡ None
    by None at is more = ap (λ (o : Option ℕ). let r : Option ℕ = first_of o (parts_fault (with_column c t) ns vs) in r) (part_stays c t n v at) ∙ more is
    by (Some k) at is more = cc

-- a key of a table stays one of it
pub key_of_more : (c : Column) (t : Table) (k : Key) → IsKeyOf t k → IsKeyOf (with_column c t) k
key_of_more c t k h = record { own = h.own; fits = by (length t.key == length k.parts) h.fits; held = h.held }
  where
    by : (b : Bool) → ◌≡◌ {A = Option ℕ} (if b then parts_fault t t.key k.parts else Some 0) None → ◌≡◌ {A = Option ℕ} (if b then parts_fault (with_column c t) t.key k.parts else Some 0) None
    by true is = parts_stay c t t.key k.parts is
    by false is = cc

-- ---- of a schema

set_same : {A : Type 0} (xs : List A) (i : ℕ) (y x : A) → slice_get xs i ≡ Some x → slice_get (slice_set xs i y) i ≡ Some y
set_same [] i y x is = cc
set_same (a ∷ xs) zero y x is = refl
set_same (a ∷ xs) (suc i) y x is = set_same xs i y x is

set_other : {A : Type 0} (xs : List A) (i j : ℕ) (y : A) → (i == j) ≡ false → slice_get (slice_set xs i y) j ≡ slice_get xs j
set_other [] i j y other = refl
set_other (a ∷ xs) zero zero y other = cc
set_other (a ∷ xs) zero (suc j) y other = refl
set_other (a ∷ xs) (suc i) zero y other = refl
set_other (a ∷ xs) (suc i) (suc j) y other = set_other xs i j y (grind (arith, nat_tests))

pub key_in_more : (schema : Schema) (number : ℕ) (c : Column) (k : Key) → IsKeyIn schema k → IsKeyIn (add_column number c schema) k
key_in_more schema number c k h = by (table_at schema number) refl
  where
    found : (t : Table) → table_at schema number ≡ Some t → slice_get schema.tables (number - 1) ≡ Some t
    found t at = at_by (number == 0) at
      where
        at_by : (b : Bool) → ◌≡◌ {A = Option Table} (if b then None else slice_get schema.tables (number - 1)) (Some t) → slice_get schema.tables (number - 1) ≡ Some t
        at_by true is = cc
        at_by false is = is

    there : (b d : Bool) (t : Table) (now : Option Table) → (k.table == 0) ≡ b → (number - 1 == k.table - 1) ≡ d → table_at schema number ≡ Some t → ◌≡◌ {A = Option Table} (if b then None else slice_get schema.tables (k.table - 1)) now
        → IsKeyOfAny now k → IsKeyOfAny (if b then None else slice_get (slice_set schema.tables (number - 1) (with_column c t)) (k.table - 1)) k
    there true d t None zero_is same at is h = h
    there true d t (Some x) zero_is same at is h = cc
    there false true t now zero_is same at is h =
        let places : number - 1 ≡ k.table - 1 = grind (arith, nat_tests) in
        let was : now ≡ Some t = sym is ∙ ap (slice_get schema.tables) (sym places) ∙ found t at in
        subst (λ o. IsKeyOfAny o k) (sym (set_same schema.tables (number - 1) (with_column c t) t (found t at)) ∙ ap (slice_get (slice_set schema.tables (number - 1) (with_column c t))) places)
        (key_of_more c t k (subst (λ o. IsKeyOfAny o k) was h))
    there false false t now zero_is same at is h =
        subst (λ o. IsKeyOfAny o k) (sym (set_other schema.tables (number - 1) (k.table - 1) (with_column c t) same ∙ is)) h

    by : (o : Option Table) → table_at schema number ≡ o → IsKeyIn (added_by schema number c o) k
    by None at = h
    by (Some t) at = there (k.table == 0) (number - 1 == k.table - 1) t (table_at schema k.table) refl refl at refl h
