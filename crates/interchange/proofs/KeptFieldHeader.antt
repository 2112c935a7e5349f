-- What is kept of a header names the columns that the header names.
use Rattle.std.proofs.Common.{◌≡◌, ◌≤◌, ◌<◌, ◌+◌, ◌==◌, ◌&&◌, ◌||◌, ℕ, zero, suc, Bool, true, false, not, List, [], ◌∷◌, Some, refl, sym, ap, ◌∙◌, inl, inr, arith, length, map, take, max, eqb}
use Rattle.std.specs.Prelude.{nat_le, unwrap_or, cond, nat_eq}
use Rattle.std.specs.List.{fold, list_any, position_from, AllByRecursion, IsDistinct}
use Rattle.std.specs.Char.{to_ascii_lowercase}
use Rattle.std.proofs.Math.Bool.{and-false}
use Rattle.std.proofs.Math.Nat.{le-max_left, le-max_right}
use Rattle.std.proofs.lemmas.Bool.{eqb-true, leb-true}
use Rattle.std.proofs.lemmas.Bool.Decides.{nat_tests}
use Rattle.std.proofs.lemmas.List.{length-take-le, take-map, take_all}
use Rattle.std.proofs.lemmas.Map.Steps.{length-le_from_distinct_below}
use Rattle.values.specs.declared.table.Column.{Column}
use Rattle.values.specs.declared.table.Table.{Table}
use Rattle.values.specs.Fit.{longest_text}
use Rattle.values.specs.Names.{column_number, same_name}
use Rattle.values.specs.Tables.{widest}
use Rattle.statement.specs.Meaning.{is_column_list}
use Rattle.interchange.specs.KeptField.{kept_field, kept_fields, longest_field, most_fields}
use Rattle.interchange.specs.Load.{Record, column_list}
use Rattle.interchange.proofs.KeptFieldBytes.{AreAlike, kept_alike}

-- ---- names

-- no name of these is longer
abbrev AreWithin : ℕ → List Column → Type 0
AreWithin longest [] = Unit {0}
AreWithin longest (column ∷ columns) = (length column.name ≤ longest) × AreWithin longest columns

abbrev longer : ℕ → Column → ℕ
longer most column = max most (length column.name)

within_by : (most : ℕ) (columns : List Column) → (most ≤ fold longer most columns) × AreWithin (fold longer most columns) columns
within_by most [] = (omega arith, tt)
within_by most (column ∷ columns) =
    let rest = within_by (longer most column) columns in (
      omega (arith, rest.0, le-max_left most (length column.name)),
      (omega (arith, rest.0, le-max_right most (length column.name)), rest.1),
    )

pub texts_within : (table : Table) → longest_text ≤ longest_field table
texts_within table = (within_by longest_text table.columns).0

names_within : (table : Table) → AreWithin (longest_field table) table.columns
names_within table = (within_by longest_text table.columns).1

-- two names of other lengths are not the same
pub other_length : (name bytes : List ℕ) → (length name ≡ length bytes → ⊥) → same_name name bytes ≡ false
other_length [] [] other = absurd (other refl)
other_length [] (b ∷ bytes) other = refl
other_length (a ∷ name) [] other = refl
other_length (a ∷ name) (b ∷ bytes) other =
    ap (λ t. nat_eq (to_ascii_lowercase a) (to_ascii_lowercase b) && t) (other_length name bytes (λ same. other (omega (arith, same))))
    ∙ and-false (nat_eq (to_ascii_lowercase a) (to_ascii_lowercase b))

name_alike : (longest : ℕ) (name x y : List ℕ) → length name ≤ longest → AreAlike longest x y → same_name name x ≡ same_name name y
name_alike longest name x y short (inl same) = ap (same_name name) same
name_alike longest name x y short (inr (long, too)) = other_length name x (λ same. omega (arith, same)) ∙ sym (other_length name y (λ same. omega (arith, same)))

number_alike : (longest n : ℕ) (columns : List Column) (x y : List ℕ) → AreWithin longest columns → AreAlike longest x y
    → position_from (λ c. same_name c.name x) n columns ≡ position_from (λ c. same_name c.name y) n columns
number_alike longest n [] x y within alike = refl
number_alike longest n (column ∷ columns) x y (short, within) alike =
    ap (λ t. cond t (Some n) (position_from (λ c. same_name c.name x) (n + 1) columns)) (name_alike longest column.name x y short alike)
    ∙ ap (λ r. cond (same_name column.name y) (Some n) r) (number_alike longest (n + 1) columns x y within alike)

same_columns : (table : Table) (fields : Record) → column_list table (map (kept_field (longest_field table)) fields) ≡ column_list table fields
same_columns table [] = refl
same_columns table (field ∷ fields) =
    ap (λ n. unwrap_or n 0 ∷ column_list table (map (kept_field (longest_field table)) fields))
    (number_alike (longest_field table) 1 table.columns (kept_field (longest_field table) field) field (names_within table) (kept_alike (longest_field table) field))
    ∙ ap (λ l. unwrap_or (column_number table field) 0 ∷ l) (same_columns table fields)

first_columns : (table : Table) (fields : Record) → column_list table (kept_fields table fields) ≡ take most_fields (column_list table fields)
first_columns table fields =
    sym (take-map (λ name. unwrap_or (column_number table name) 0) most_fields (map (kept_field (longest_field table)) fields))
    ∙ ap (take most_fields) (same_columns table fields)

-- ---- a column list has no more columns than a table

abbrev AreBelow : ℕ → List ℕ → Type 0
AreBelow most [] = Unit {0}
AreBelow most (n ∷ ns) = (n < most) × AreBelow most ns

number_below : (test : Column → Bool) (n : ℕ) (columns : List Column) → 1 ≤ n → unwrap_or (position_from test n columns) 0 < n + length columns
number_below test n [] some = omega arith
number_below test n (column ∷ columns) some = by (test column) (number_below test (n + 1) columns (omega arith))
  where
    by : (t : Bool) → unwrap_or (position_from test (n + 1) columns) 0 < n + 1 + length columns
        → unwrap_or (cond t (Some n) (position_from test (n + 1) columns)) 0 < n + length (column ∷ columns)
    by true later = omega arith
    by false later = omega arith

list_below : (table : Table) (header : Record) → AreBelow (1 + length table.columns) (column_list table header)
list_below table [] = tt
list_below table (name ∷ header) = (number_below (λ c. same_name c.name name) 1 table.columns (omega arith), list_below table header)

-- what is_column_list says of the first
list_parts : (a b c : Bool) → ((not a && not b) && c) ≡ true → (a ≡ false) × (b ≡ false) × (c ≡ true)
list_parts true b c e = cc e
list_parts false true c e = cc e
list_parts false false c e = (refl, refl, e)

or_parts : (a b : Bool) → (a || b) ≡ false → (a ≡ false) × (b ≡ false)
or_parts true b e = cc e
or_parts false b e = (refl, e)

turned : (n m : ℕ) → (m == n) ≡ false → eqb n m ≡ false
turned n m e = grind (arith, nat_tests)

none_of : (n : ℕ) (ns : List ℕ) → list_any (λ m. m == n) ns ≡ false → AllByRecursion (λ m. eqb n m ≡ false) ns
none_of n [] e = tt
none_of n (m ∷ ns) e = let parts = or_parts (m == n) (list_any (λ o. o == n) ns) e in (turned n m parts.0, none_of n ns parts.1)

distinct_of : (ns : List ℕ) → is_column_list ns ≡ true → IsDistinct eqb ns
unfolding IsDistinct
distinct_of [] e = tt
distinct_of (n ∷ ns) e = let parts = list_parts (n == 0) (list_any (λ m. m == n) ns) (is_column_list ns) e in (none_of n ns parts.1, distinct_of ns parts.2)

above_0 : (ns : List ℕ) → is_column_list ns ≡ true → AllByRecursion (λ m. eqb 0 m ≡ false) ns
above_0 [] e = tt
above_0 (n ∷ ns) e = let parts = list_parts (n == 0) (list_any (λ m. m == n) ns) (is_column_list ns) e in (turned 0 n parts.0, above_0 ns parts.2)

below_of : (most : ℕ) (ns : List ℕ) → AreBelow most ns → (q : ℕ) → list_any (eqb q) ns ≡ true → q < most
below_of most [] below q found = cc found
below_of most (n ∷ ns) (first, below) q found = by (eqb q n) refl found (below_of most ns below q)
  where
    by : (t : Bool) → eqb q n ≡ t → (t || list_any (eqb q) ns) ≡ true → (list_any (eqb q) ns ≡ true → q < most) → q < most
    by true e found later = omega (arith, eqb-true q n e)
    by false e found later = later found

-- with 0, which is none of them, they are numbers below one more than there are columns
few_of : (width : ℕ) (ns : List ℕ) → AreBelow (1 + width) ns → is_column_list ns ≡ true → length ns ≤ width
unfolding IsDistinct
few_of width ns below list =
    let many = length-le_from_distinct_below (0 ∷ ns) (1 + width) (above_0 ns list, distinct_of ns list) (below_of (1 + width) (0 ∷ ns) (omega arith, below)) in
    omega (arith, many)

-- a column list is kept whole
whole_list : (table : Table) (header : Record) → length table.columns ≤ widest → is_column_list (column_list table header) ≡ true
    → take most_fields (column_list table header) ≡ column_list table header
whole_list table header few list =
    take_all most_fields (column_list table header) (omega (arith, few_of (length table.columns) (column_list table header) (list_below table header) list))

below_first : (most n : ℕ) (ns : List ℕ) → AreBelow most ns → AreBelow most (take n ns)
below_first most zero ns below = tt
below_first most (suc n) [] below = tt
below_first most (suc n) (m ∷ ns) (first, below) = (first, below_first most n ns below)

-- so is what is kept of a header, where that is one
pub kept_list : (table : Table) (header : Record) → length table.columns ≤ widest → is_column_list (column_list table (kept_fields table header)) ≡ true
    → column_list table (kept_fields table header) ≡ column_list table header
kept_list table header few list =
    let first = first_columns table header in
    let columns : List ℕ = column_list table header in
    let short : length (take most_fields columns) ≤ length table.columns = few_of (length table.columns) (take most_fields columns) (below_first (1 + length table.columns) most_fields columns (list_below table header)) (ap is_column_list (sym first) ∙ list) in
    first ∙ take_all most_fields columns (by columns short (nat_le (length columns) most_fields) refl)
  where
    by : (ns : List ℕ) → length (take most_fields ns) ≤ length table.columns → (t : Bool) → nat_le (length ns) most_fields ≡ t → length ns ≤ most_fields
    by ns short true e = leb-true (length ns) most_fields e
    by ns short false e =
        let many : most_fields ≤ length ns = grind (arith, nat_tests) in
        absurd (omega (arith, length-take-le most_fields ns many))

pub no_list : (table : Table) (header : Record) → length table.columns ≤ widest → is_column_list (column_list table (kept_fields table header)) ≡ false
    → is_column_list (column_list table header) ≡ false
no_list table header few none = by (is_column_list (column_list table header)) refl
  where
    by : (t : Bool) → is_column_list (column_list table header) ≡ t → t ≡ false
    by false e = refl
    by true e = sym (sym none ∙ ap is_column_list (first_columns table header ∙ whole_list table header few e) ∙ e)

-- a column list is that of a row of the table
pub list_few : (table : Table) (header : Record) → length table.columns ≤ widest → is_column_list (column_list table header) ≡ true → length (column_list table header) ≤ widest
list_few table header few list = omega (arith, few_of (length table.columns) (column_list table header) (list_below table header) list)
