-- Tables of which each has as many of its columns as a list of widths says.
use Rattle.std.proofs.Common.{◌≡◌, ℕ, ◌-◌, ◌≤◌, ◌<◌, zero, suc, Bool, true, false, List, [], ◌∷◌, ◌++◌, Option, Some, None, refl, sym, ap, subst, ◌∙◌, arith, length, take}
use Rattle.std.specs.Prelude.{◌==◌, if◌then◌else◌, slice_set}
use Rattle.std.proofs.lemmas.Bool.Decides.{nat_tests}
use Rattle.std.proofs.lemmas.Option.{slice_get_within}
use Rattle.std.proofs.Math.Seq.{take-length}
use Rattle.std.proofs.Math.ListN.{length-set}
use Rattle.std.specs.List.{slice_get}
use Rattle.std.specs.Option.{unwrap_or}
use Rattle.values.specs.declared.table.Column.{Column}
use Rattle.values.specs.declared.table.Table.{Table}
use Rattle.values.specs.Columns.{with_column, add_column}
use Rattle.values.specs.Tables.{Schema, table_at}
use Rattle.values.proofs.ColumnsTables.{added_by}
use Rattle.dump_steps.specs.Widths.{Widths, width_at}
use Rattle.dump_steps.proofs.DumpRows.{narrow}

abbrev pub place : Widths → ℕ → ℕ
place w i = unwrap_or (slice_get w i) 0

abbrev pub narrowed : List Table → Widths → List Table
narrowed [] w = []
narrowed (t ∷ ts) [] = t ∷ ts
narrowed (t ∷ ts) (n ∷ w) = narrow n t ∷ narrowed ts w

abbrev pub tables_at : List Table → Widths → Schema
tables_at ts w = record { tables = narrowed ts w }

-- ---- a table by its number

pub record IsTableAt (ts : List Table) (number : ℕ) (t : Table) : Type 0 where
  pub from_1 : 1 ≤ number
  pub found : slice_get ts (number - 1) ≡ Some t

pub table_is : (now : Schema) (number : ℕ) (t : Table) → table_at now number ≡ Some t → IsTableAt now.tables number t
table_is now number t at = by (number == 0) refl at
  where
    by : (b : Bool) → (number == 0) ≡ b → ◌≡◌ {A = Option Table} (if b then None else slice_get now.tables (number - 1)) (Some t) → IsTableAt now.tables number t
    by true e at = cc
    by false e at = record { from_1 = grind (arith, nat_tests); found = at }

pub is_table : (now : Schema) (number : ℕ) (t : Table) → IsTableAt now.tables number t → table_at now number ≡ Some t
is_table now number t is = ap (λ b. if b then None else slice_get now.tables (number - 1)) (some number is.from_1) ∙ is.found
  where
    some : (n : ℕ) → 1 ≤ n → (n == 0) ≡ false
    some n le = grind (arith, nat_tests)

got_narrowed : (ts : List Table) (w : Widths) (i : ℕ) (t : Table) → length w ≡ length ts → slice_get ts i ≡ Some t → slice_get (narrowed ts w) i ≡ Some (narrow (place w i) t)
got_narrowed [] w i t long at = cc
got_narrowed (x ∷ ts) [] i t long at = absurd (omega arith)
got_narrowed (x ∷ ts) (n ∷ w) zero t long at = ap (λ (o : Option Table). let r : Option Table = elim o [ None ↦ None | Some t ↦ Some (narrow n t) ] in r) at
got_narrowed (x ∷ ts) (n ∷ w) (suc i) t long at = got_narrowed ts w i t (omega arith) at

pub table_then : (ts : List Table) (w : Widths) (number : ℕ) (t : Table) → length w ≡ length ts → IsTableAt ts number t → table_at (tables_at ts w) number ≡ Some (narrow (width_at w number) t)
table_then ts w number t long is = is_table (tables_at ts w) number (narrow (width_at w number) t) (record { from_1 = is.from_1; found = got_narrowed ts w (number - 1) t long is.found })

-- ---- a column more

taken_more : {A : Type 0} (k : ℕ) (xs : List A) (x : A) → slice_get xs k ≡ Some x → take k xs ++ x ∷ [] ≡ take (suc k) xs
taken_more k [] x at = cc
taken_more zero (y ∷ xs) x at = ap (λ y. y ∷ []) (let same : x ≡ y = cc in same)
taken_more (suc k) (y ∷ xs) x at = ap (λ l. y ∷ l) (taken_more k xs x at)

pub narrow_more : (k : ℕ) (t : Table) (c : Column) → slice_get t.columns k ≡ Some c → with_column c (narrow k t) ≡ narrow (suc k) t
narrow_more k t c at = ap (λ columns. record t { columns = columns }) (taken_more k t.columns c at)

set_narrowed : (ts : List Table) (w : Widths) (i m : ℕ) (t : Table) → length w ≡ length ts → slice_get ts i ≡ Some t → slice_set (narrowed ts w) i (narrow m t) ≡ narrowed ts (slice_set w i m)
set_narrowed [] w i m t long at = cc
set_narrowed (x ∷ ts) [] i m t long at = absurd (omega arith)
set_narrowed (x ∷ ts) (n ∷ w) zero m t long at = ap (λ t. narrow m t ∷ narrowed ts w) (let same : t ≡ x = cc in same)
set_narrowed (x ∷ ts) (n ∷ w) (suc i) m t long at = ap (λ l. narrow n x ∷ l) (set_narrowed ts w i m t (omega arith) at)

pub column_added : (ts : List Table) (w : Widths) (number : ℕ) (t : Table) (c : Column) → length w ≡ length ts → IsTableAt ts number t → slice_get t.columns (width_at w number) ≡ Some c
    → add_column number c (tables_at ts w) ≡ tables_at ts (slice_set w (number - 1) (suc (width_at w number)))
column_added ts w number t c long is at =
    ap (added_by (tables_at ts w) number c) (table_then ts w number t long is)
    ∙ (λ i. record { tables = slice_set (narrowed ts w) (number - 1) (narrow_more (width_at w number) t c at i) })
    ∙ (λ i. record { tables = set_narrowed ts w (number - 1) (suc (width_at w number)) t long is.found i })

-- ---- widths

pub set_here : (w : Widths) (i m : ℕ) → i < length w → place (slice_set w i m) i ≡ m
set_here [] i m lt = absurd (omega arith)
set_here (n ∷ w) zero m lt = refl
set_here (n ∷ w) (suc i) m lt = set_here w i m (omega arith)

pub set_else : (w : Widths) (i j m : ℕ) → (i == j) ≡ false → place (slice_set w i m) j ≡ place w j
set_else [] i j m other = refl
set_else (n ∷ w) zero zero m other = cc
set_else (n ∷ w) zero (suc j) m other = refl
set_else (n ∷ w) (suc i) zero m other = refl
set_else (n ∷ w) (suc i) (suc j) m other = set_else w i j m (grind (arith, nat_tests))

pub set_twice : (w : Widths) (i m n : ℕ) → slice_set (slice_set w i m) i n ≡ slice_set w i n
set_twice [] i m n = refl
set_twice (x ∷ w) zero m n = refl
set_twice (x ∷ w) (suc i) m n = ap (λ l. x ∷ l) (set_twice w i m n)

pub set_same : (w : Widths) (i : ℕ) → slice_set w i (place w i) ≡ w
set_same [] i = refl
set_same (x ∷ w) zero = refl
set_same (x ∷ w) (suc i) = ap (λ l. x ∷ l) (set_same w i)

-- each is at least that of the first widths, and at most that of the tables
pub record AreBetween (first : Widths) (ts : List Table) (w : Widths) : Type 0 where
  pub long : length w ≡ length ts
  pub above : (i : ℕ) → place first i ≤ place w i
  pub within : (i : ℕ) (t : Table) → slice_get ts i ≡ Some t → place w i ≤ length t.columns

pub set_between : (first : Widths) (ts : List Table) (w : Widths) (i m : ℕ) (t : Table) → slice_get ts i ≡ Some t → place w i ≤ m → m ≤ length t.columns → AreBetween first ts w → AreBetween first ts (slice_set w i m)
set_between first ts w i m t at more less between = record {
  long = length-set w i m ∙ between.long;
  above = λ j. by_above j (i == j) refl;
  within = λ j u found. by_within j u found (i == j) refl;
}
  where
    inside : i < length w
    inside = let lt : i < length ts = slice_get_within ts i t at in omega (arith, between.long)

    here : (j : ℕ) → (i == j) ≡ true → place (slice_set w i m) j ≡ m
    here j e = let same : i ≡ j = grind (arith, nat_tests) in ap (place (slice_set w i m)) (sym same) ∙ set_here w i m inside

    by_above : (j : ℕ) (b : Bool) → (i == j) ≡ b → place first j ≤ place (slice_set w i m) j
    by_above j true e =
        let same : i ≡ j = grind (arith, nat_tests) in
        let low : place first i ≤ place w i = between.above i in
        let lower : place first j ≤ place w i = subst (λ j. place first j ≤ place w i) same low in
        omega (arith, here j e, lower, more)
    by_above j false e = subst (λ n. place first j ≤ n) (sym (set_else w i j m e)) (between.above j)

    by_within : (j : ℕ) (u : Table) → slice_get ts j ≡ Some u → (b : Bool) → (i == j) ≡ b → place (slice_set w i m) j ≤ length u.columns
    by_within j u found true e =
        let same : i ≡ j = grind (arith, nat_tests) in
        let one : t ≡ u = let both : ◌≡◌ {A = Option Table} (Some t) (Some u) = sym at ∙ ap (slice_get ts) same ∙ found in cc in
        subst (λ n. n ≤ length u.columns) (sym (here j e)) (subst (λ (t : Table). m ≤ length t.columns) one less)
    by_within j u found false e = subst (λ n. n ≤ length u.columns) (sym (set_else w i j m e)) (between.within j u found)

-- ---- all columns

narrow_all : (t : Table) → narrow (length t.columns) t ≡ t
narrow_all t = ap (λ columns. record t { columns = columns }) (take-length t.columns)

pub narrowed_all : (ts : List Table) (w : Widths) → length w ≡ length ts → ((i : ℕ) (t : Table) → slice_get ts i ≡ Some t → place w i ≡ length t.columns) → narrowed ts w ≡ ts
narrowed_all [] w long are = refl
narrowed_all (t ∷ ts) [] long are = refl
narrowed_all (t ∷ ts) (n ∷ w) long are =
    λ i. (ap (λ n. narrow n t) (are 0 t refl) ∙ narrow_all t) i ∷ narrowed_all ts w (omega arith) (λ j u at. are (suc j) u at) i
