-- Tables with the first of their columns: their names, and what stands at a number.
use Rattle.std.proofs.Common.{◌≡◌, ℕ, ◌+◌, ◌-◌, ◌<◌, ◌≤◌, zero, suc, max, Bool, true, false, cond, List, [], ◌∷◌, ◌++◌, Option, Some, None, refl, sym, ap, ap₂, subst, ◌∙◌, arith, append-nil, take, drop, take_at, drop_at, length, map, find, option_map, unwrap_or}
use Rattle.std.specs.Prelude.{◌==◌, ◌||◌, if◌then◌else◌, slice_set}
use Rattle.std.specs.Cmp.Lexicographic.{bytes_decides}
use Rattle.std.specs.List.{AllByRecursion, list_any, position_from, slice_get}
use Rattle.std.specs.Str.{str_to_ascii_lowercase as lower}
use Rattle.std.proofs.lemmas.Bool.{or_parts}
use Rattle.std.proofs.lemmas.Bool.Decides.{nat_tests}
use Rattle.values.specs.declared.table.Column.{Column}
use Rattle.values.specs.declared.table.Table.{Table}
use Rattle.values.specs.Columns.{add_column, with_column}
use Rattle.values.specs.Names.{column_number, same_name}
use Rattle.values.specs.TableRules.{AreTables, IsTable}
use Rattle.values.specs.Tables.{Schema, column_at, table_at}
use Rattle.values.proofs.ColumnsTables.{added_by}
use Rattle.statement.specs.Condition.{column_of, table_of}
use Rattle.dump_steps.specs.Widths.{Widths}
use Rattle.dumping.specs.DumpText.{column_name}
use Rattle.dump_reading.specs.Readable.{AreApart, AreReadableNames, AreWithColumns, HaveReadableNames, IsReadableName, IsWithColumns, column_names}

-- ---- names

same_self : (name : List ℕ) → same_name name name ≡ true
same_self name = (bytes_decides (lower name) (lower name)).1 refl

module _ {A : Type 0} (name_of : A → List ℕ) where
  -- a name that is none of those before it
  apart_from : (name : List ℕ) (xs : List A) (i : ℕ) (x : A) → list_any (same_name name) (map name_of xs) ≡ false → slice_get xs i ≡ Some x → same_name name (name_of x) ≡ false
  apart_from name [] i x none at = cc
  apart_from name (y ∷ xs) zero x none at =
      let is : y ≡ x = cc in ap (λ (z : A). same_name name (name_of z)) (sym is) ∙ (or_parts (same_name name (name_of y)) (list_any (same_name name) (map name_of xs)) none).0
  apart_from name (y ∷ xs) (suc i) x none at = apart_from name xs i x (or_parts (same_name name (name_of y)) (list_any (same_name name) (map name_of xs)) none).1 at

  readable_at : (xs : List A) (i : ℕ) (x : A) → AllByRecursion IsReadableName (map name_of xs) → slice_get xs i ≡ Some x → IsReadableName (name_of x)
  readable_at [] i x all at = cc
  readable_at (y ∷ xs) zero x all at = let is : y ≡ x = cc in subst (λ (z : A). IsReadableName (name_of z)) is all.0
  readable_at (y ∷ xs) (suc i) x all at = readable_at xs i x all.1 at

  none_in_front : (name : List ℕ) (k : ℕ) (xs : List A) → list_any (same_name name) (map name_of xs) ≡ false → list_any (same_name name) (map name_of (take k xs)) ≡ false
  none_in_front name zero xs none = refl
  none_in_front name (suc k) [] none = refl
  none_in_front name (suc k) (y ∷ xs) none =
      let parts = or_parts (same_name name (name_of y)) (list_any (same_name name) (map name_of xs)) none in
      ap (λ b. b || list_any (same_name name) (map name_of (take k xs))) parts.0 ∙ none_in_front name k xs parts.1

  apart_in_front : (k : ℕ) (xs : List A) → AreApart (map name_of xs) → AreApart (map name_of (take k xs))
  apart_in_front zero xs apart = tt
  apart_in_front (suc k) [] apart = tt
  apart_in_front (suc k) (y ∷ xs) apart = (none_in_front (name_of y) k xs apart.0, apart_in_front k xs apart.1)

-- ---- places

pub place_of : {A : Type 0} (xs : List A) (number : ℕ) (x : A) → ◌≡◌ {A = Option A} (if number == 0 then None else slice_get xs (number - 1)) (Some x)
    → ((number == 0) ≡ false) × (slice_get xs (number - 1) ≡ Some x)
place_of {A} xs number x at = by (number == 0) at
  where
    by : (b : Bool) → ◌≡◌ {A = Option A} (if b then None else slice_get xs (number - 1)) (Some x) → (b ≡ false) × (slice_get xs (number - 1) ≡ Some x)
    by true at = cc
    by false at = (refl, at)

pub at_place : {A : Type 0} (xs : List A) (number : ℕ) (x : A) → (number == 0) ≡ false → slice_get xs (number - 1) ≡ Some x
    → ◌≡◌ {A = Option A} (if number == 0 then None else slice_get xs (number - 1)) (Some x)
at_place {A} xs number x some at = ap (λ (b : Bool). let o : Option A = if b then None else slice_get xs (number - 1) in o) some ∙ at

pub not_zero : (n : ℕ) → 1 ≤ n → (n == 0) ≡ false
not_zero n some = grind (arith, nat_tests)

pub from_one : (n : ℕ) → (n == 0) ≡ false → 1 ≤ n
from_one n some = grind (arith, nat_tests)

pub got_in_front : {A : Type 0} (k i : ℕ) (xs : List A) (x : A) → slice_get (take k xs) i ≡ Some x → slice_get xs i ≡ Some x
got_in_front zero i xs x at = cc
got_in_front (suc k) i [] x at = cc
got_in_front (suc k) zero (y ∷ xs) x at = at
got_in_front (suc k) (suc i) (y ∷ xs) x at = got_in_front k i xs x at

-- what is written at a place
pub got_same : {A : Type 0} (xs : List A) (i : ℕ) (x y : A) → slice_get xs i ≡ Some x → slice_get (slice_set xs i y) i ≡ Some y
got_same [] i x y at = cc
got_same (z ∷ xs) zero x y at = refl
got_same (z ∷ xs) (suc i) x y at = got_same xs i x y at

pub set_same : {A : Type 0} (xs : List A) (i : ℕ) (x : A) → slice_get xs i ≡ Some x → slice_set xs i x ≡ xs
set_same [] i x at = cc
set_same (z ∷ xs) zero x at = let same : z ≡ x = cc in ap (λ y. y ∷ xs) (sym same)
set_same (z ∷ xs) (suc i) x at = ap (λ l. z ∷ l) (set_same xs i x at)

-- ---- columns

placed : (cs : List Column) (i j : ℕ) (c : Column) → slice_get cs i ≡ Some c → AreApart (map (λ d. d.name) cs) → position_from (λ d. same_name d.name c.name) j cs ≡ Some (j + i)
placed [] i j c at apart = cc
placed (d ∷ cs) zero j c at apart =
    let is : d ≡ c = cc in
    ap (λ (b : Bool). cond b (Some j) (position_from (λ d. same_name d.name c.name) (j + 1) cs)) (ap (λ (x : Column). same_name x.name c.name) is ∙ same_self c.name)
    ∙ ap Some (let e : j ≡ j + 0 = omega arith in e)
placed (d ∷ cs) (suc i) j c at apart =
    ap (λ (b : Bool). cond b (Some j) (position_from (λ d. same_name d.name c.name) (j + 1) cs)) (apart_from (λ x. x.name) d.name cs i c apart.0 at)
    ∙ placed cs i (j + 1) c at apart.1
    ∙ ap Some (let e : (j + 1) + i ≡ j + suc i = omega arith in e)

pub column_found : (now : Schema) (number : ℕ) (t : Table) (n : ℕ) (c : Column) → table_at now number ≡ Some t → AreApart (column_names t) → column_at t n ≡ Some c → column_of now number c.name ≡ n
unfolding column_of
column_found now number t n c found apart at =
    let there = place_of t.columns n c at in
    let some = from_one n there.0 in
    ap (λ (o : Option Table). elim o as (λ _. ℕ) [ None ↦ 0 | Some t ↦ unwrap_or (column_number t c.name) 0 ]) found
    ∙ ap (λ (o : Option ℕ). unwrap_or o 0) (placed t.columns (n - 1) 1 c there.1 apart)
    ∙ (let e : 1 + (n - 1) ≡ n = omega arith in e)

-- ---- a table with the first of its columns

abbrev pub cut : ℕ → Table → Table
cut k t = record t { columns = take k t.columns }

pub cut_apart : (k : ℕ) (t : Table) → AreApart (column_names t) → AreApart (column_names (cut k t))
cut_apart k t apart = apart_in_front (λ c. c.name) k t.columns apart

pub cut_column : (k : ℕ) (t : Table) (n : ℕ) (c : Column) → column_at (cut k t) n ≡ Some c → column_at t n ≡ Some c
cut_column k t n c at =
    let there = place_of (take k t.columns) n c at in at_place t.columns n c there.0 (got_in_front k (n - 1) t.columns c there.1)

pub named_by : (t : Table) (n : ℕ) (c : Column) → column_at t n ≡ Some c → column_name t n ≡ c.name
named_by t n c at = ap (λ (o : Option Column). elim o as (λ _. List ℕ) [ None ↦ [] | Some c ↦ c.name ]) at

pub column_readable : (t : Table) (n : ℕ) (c : Column) → AllByRecursion IsReadableName (column_names t) → column_at t n ≡ Some c → IsReadableName c.name
column_readable t n c all at = readable_at (λ c. c.name) t.columns (n - 1) c all (place_of t.columns n c at).1

-- ---- tables with the first of their columns

abbrev pub narrowed : Widths → List Table → List Table
narrowed [] ts = []
narrowed (k ∷ w) [] = []
narrowed (k ∷ w) (t ∷ ts) = cut k t ∷ narrowed w ts

abbrev pub width : Widths → ℕ → ℕ
width w i = unwrap_or (slice_get w i) 0

-- the first tables are the last ones with the first of their columns
first_cut : (t u : Table) → IsWithColumns t u → t ≡ cut (length t.columns) u
first_cut t u grown =
    sym (ap (λ cs. record t { columns = cs }) (take_at t.columns grown.more (length t.columns) refl)) ∙ ap (cut (length t.columns)) (sym grown.later_is)

pub first_narrowed : (ts us : List Table) → AreWithColumns ts us → ts ≡ narrowed (map (λ t. length t.columns) ts) us
first_narrowed [] [] grown = refl
first_narrowed [] (u ∷ us) grown = absurd grown
first_narrowed (t ∷ ts) [] grown = absurd grown
first_narrowed (t ∷ ts) (u ∷ us) grown = ap₂ (λ (x : Table) (xs : List Table). x ∷ xs) (first_cut t u grown.0) (first_narrowed ts us grown.1)

-- ---- a table by its name

abbrev number_of : Option Table → ℕ
number_of o = unwrap_or (option_map (λ t. t.number) o) 0

abbrev is_named : List ℕ → Table → Bool
is_named name t = same_name t.name name

found_in : (w : Widths) (ts : List Table) (i : ℕ) (t u : Table) → slice_get (narrowed w ts) i ≡ Some u → slice_get ts i ≡ Some t → AreApart (map (λ t. t.name) ts)
    → number_of (find (is_named t.name) (narrowed w ts)) ≡ t.number
found_in [] ts i t u now at apart = cc
found_in (k ∷ w) [] i t u now at apart = cc
found_in (k ∷ w) (x ∷ ts) zero t u now at apart =
    let same : x ≡ t = cc in
    ap (λ (b : Bool). number_of (cond b (Some (cut k x)) (find (is_named t.name) (narrowed w ts)))) (ap (λ (y : Table). same_name y.name t.name) same ∙ same_self t.name)
    ∙ ap (λ (y : Table). y.number) same
found_in (k ∷ w) (x ∷ ts) (suc i) t u now at apart =
    ap (λ (b : Bool). number_of (cond b (Some (cut k x)) (find (is_named t.name) (narrowed w ts)))) (apart_from (λ t. t.name) x.name ts i t apart.0 at)
    ∙ found_in w ts i t u now at apart.1

pub table_found : (w : Widths) (ts : List Table) (i : ℕ) (t u : Table) → slice_get (narrowed w ts) i ≡ Some u → slice_get ts i ≡ Some t → AreApart (map (λ t. t.name) ts)
    → table_of (record { tables = narrowed w ts }) t.name ≡ t.number
table_found w ts i t u now at apart = found_in w ts i t u now at apart

-- a column more changes no name
found_kept : (ts : List Table) (i : ℕ) (t : Table) (c : Column) (name : List ℕ) → slice_get ts i ≡ Some t
    → number_of (find (is_named name) (slice_set ts i (with_column c t))) ≡ number_of (find (is_named name) ts)
found_kept [] i t c name at = cc
found_kept (x ∷ ts) zero t c name at =
    let same : x ≡ t = cc in
    by (same_name t.name name) ∙ ap (λ (y : Table). number_of (cond (same_name y.name name) (Some y) (find (is_named name) ts))) (sym same)
  where
    by : (b : Bool) → number_of (cond b (Some (with_column c t)) (find (is_named name) ts)) ≡ number_of (cond b (Some t) (find (is_named name) ts))
    by true = refl
    by false = refl
found_kept (x ∷ ts) (suc i) t c name at = by (same_name x.name name) (found_kept ts i t c name at)
  where
    by : (b : Bool) → number_of (find (is_named name) (slice_set ts i (with_column c t))) ≡ number_of (find (is_named name) ts)
        → number_of (cond b (Some x) (find (is_named name) (slice_set ts i (with_column c t)))) ≡ number_of (cond b (Some x) (find (is_named name) ts))
    by true same = refl
    by false same = same

pub named_kept : (now : Schema) (number : ℕ) (c : Column) (name : List ℕ) → table_of (add_column number c now) name ≡ table_of now name
named_kept now number c name = by (table_at now number) refl
  where
    by : (o : Option Table) → table_at now number ≡ o → table_of (added_by now number c o) name ≡ table_of now name
    by None is = refl
    by (Some t) is = found_kept now.tables (number - 1) t c name (place_of now.tables number t is).1

-- ---- widths that grow

pub taken_more : {A : Type 0} (from to : ℕ) (xs : List A) → take from xs ++ drop from (take to xs) ≡ take (max from to) xs
taken_more zero to xs = let e : to ≡ max 0 to = omega arith in ap (λ n. take n xs) e
taken_more (suc from) zero xs = append-nil (take (suc from) xs) ∙ (let e : suc from ≡ max (suc from) 0 = omega arith in ap (λ n. take n xs) e)
taken_more (suc from) (suc to) [] = let e : suc (max from to) ≡ max (suc from) (suc to) = omega arith in ap (λ n. take n []) e
taken_more (suc from) (suc to) (x ∷ xs) =
    let e : suc (max from to) ≡ max (suc from) (suc to) = omega arith in
    ap (λ l. x ∷ l) (taken_more from to xs) ∙ ap (λ n. take n (x ∷ xs)) e

pub narrowed_more : (w : Widths) (ts : List Table) (i : ℕ) (t : Table) (to : ℕ) → slice_get ts i ≡ Some t
    → slice_set (narrowed w ts) i (record t { columns = take (width w i) t.columns ++ drop (width w i) (take to t.columns) }) ≡ narrowed (slice_set w i (max (width w i) to)) ts
narrowed_more [] ts i t to at = refl
narrowed_more (k ∷ w) [] i t to at = cc
narrowed_more (k ∷ w) (x ∷ ts) zero t to at =
    let same : t ≡ x = cc in
    ap₂ (λ (cs : List Column) (y : Table). record y { columns = cs } ∷ narrowed w ts) (taken_more k to t.columns ∙ ap (λ (y : Table). take (max k to) y.columns) same) same
narrowed_more (k ∷ w) (x ∷ ts) (suc i) t to at = ap (λ l. cut k x ∷ l) (narrowed_more w ts i t to at)

-- another width stays
pub other_width : (w : Widths) (i j k : ℕ) → i < j → width (slice_set w i k) j ≡ width w j
other_width [] i j k less = refl
other_width (v ∷ w) i zero k less = absurd (omega (arith, less))
other_width (v ∷ w) zero (suc j) k less = refl
other_width (v ∷ w) (suc i) (suc j) k less = other_width w i j k (omega (arith, less))

-- ---- columns that are added may be NULL

abbrev pub MayBeNull : List Column → Type 0
MayBeNull cs = AllByRecursion (λ c. c.not_null ≡ false) cs

-- each table has a column at least, and those behind them may be NULL; there is one width for each
abbrev pub AreFree : Widths → List Table → Type 0
AreFree [] [] = Unit {0}
AreFree [] (t ∷ ts) = ⊥
AreFree (k ∷ w) [] = ⊥
AreFree (k ∷ w) (t ∷ ts) = ((1 ≤ k) × MayBeNull (drop k t.columns)) × AreFree w ts

rest_free : (n : ℕ) (cs : List Column) → MayBeNull cs → MayBeNull (drop n cs)
rest_free zero cs free = free
rest_free (suc n) [] free = tt
rest_free (suc n) (c ∷ cs) free = rest_free n cs free.1

front_free : (n : ℕ) (cs : List Column) → MayBeNull cs → MayBeNull (take n cs)
front_free zero cs free = tt
front_free (suc n) [] free = tt
front_free (suc n) (c ∷ cs) free = (free.0, front_free n cs free.1)

pub part_free : (from to : ℕ) (cs : List Column) → MayBeNull (drop from cs) → MayBeNull (drop from (take to cs))
part_free zero to cs free = front_free to cs free
part_free (suc from) zero cs free = tt
part_free (suc from) (suc to) [] free = tt
part_free (suc from) (suc to) (c ∷ cs) free = part_free from to cs free

later_free : (m n : ℕ) (cs : List Column) → m ≤ n → MayBeNull (drop m cs) → MayBeNull (drop n cs)
later_free zero n cs le free = rest_free n cs free
later_free (suc m) zero cs le free = absurd (omega (arith, le))
later_free (suc m) (suc n) [] le free = tt
later_free (suc m) (suc n) (c ∷ cs) le free = later_free m n cs (omega (arith, le)) free

pub first_free : (n : ℕ) (ts us : List Table) → AreTables n ts → AreWithColumns ts us → AreFree (map (λ t. length t.columns) ts) us
first_free n [] [] are grown = tt
first_free n [] (u ∷ us) are grown = absurd grown
first_free n (t ∷ ts) [] are grown = absurd grown
first_free n (t ∷ ts) (u ∷ us) are grown = (
  ((are.0).some_columns, subst MayBeNull (behind ∙ ap (λ (x : Table). drop (length t.columns) x.columns) (sym (grown.0).later_is)) (grown.0).may_be_null),
  first_free (n + 1) ts us are.1 grown.1,
)
  where
    behind : (grown.0).more ≡ drop (length t.columns) (t.columns ++ (grown.0).more)
    behind = sym (drop_at t.columns (grown.0).more (length t.columns) refl)

module _ (t : Table) where
  pub free_at : (w : Widths) (ts : List Table) (i : ℕ) → AreFree w ts → slice_get ts i ≡ Some t → (1 ≤ width w i) × MayBeNull (drop (width w i) t.columns)
  free_at [] [] i free at = cc
  free_at [] (x ∷ ts) i free at = absurd free
  free_at (k ∷ w) [] i free at = absurd free
  free_at (k ∷ w) (x ∷ ts) zero free at = let same : x ≡ t = cc in subst (λ (y : Table). (1 ≤ k) × MayBeNull (drop k y.columns)) same free.0
  free_at (k ∷ w) (x ∷ ts) (suc i) free at = free_at w ts i free.1 at

  pub narrowed_there : (w : Widths) (ts : List Table) (i : ℕ) → AreFree w ts → slice_get ts i ≡ Some t → slice_get (narrowed w ts) i ≡ Some (cut (width w i) t)
  narrowed_there [] [] i free at = cc
  narrowed_there [] (x ∷ ts) i free at = absurd free
  narrowed_there (k ∷ w) [] i free at = absurd free
  narrowed_there (k ∷ w) (x ∷ ts) zero free at = let same : x ≡ t = cc in ap (λ (y : Table). Some (cut k y)) same
  narrowed_there (k ∷ w) (x ∷ ts) (suc i) free at = narrowed_there w ts i free.1 at

pub free_more : (w : Widths) (ts : List Table) (i to : ℕ) → AreFree w ts → AreFree (slice_set w i (max (width w i) to)) ts
free_more [] ts i to free = free
free_more (k ∷ w) [] i to free = absurd free
free_more (k ∷ w) (x ∷ ts) zero to free = let some : 1 ≤ k = free.0.0 in ((omega (arith, some), later_free k (max k to) x.columns (omega arith) free.0.1), free.1)
free_more (k ∷ w) (x ∷ ts) (suc i) to free = (free.0, free_more w ts i to free.1)

-- where no table is, there is no width either
pub free_beyond : (w : Widths) (ts : List Table) (i k : ℕ) → AreFree w ts → slice_get ts i ≡ None → slice_set w i k ≡ w
free_beyond [] ts i k free none = refl
free_beyond (j ∷ w) [] i k free none = absurd free
free_beyond (j ∷ w) (t ∷ ts) zero k free none = cc
free_beyond (j ∷ w) (t ∷ ts) (suc i) k free none = ap (λ l. j ∷ l) (free_beyond w ts i k free.1 none)

-- such columns with readable names
abbrev pub CanBeAdded : List Column → Type 0
CanBeAdded cs = AllByRecursion (λ c. IsReadableName c.name × (c.not_null ≡ false)) cs

pub can_add : (cs : List Column) → AllByRecursion IsReadableName (map (λ c. c.name) cs) → MayBeNull cs → CanBeAdded cs
can_add [] names free = tt
can_add (c ∷ cs) names free = ((names.0, free.0), can_add cs names.1 free.1)

pub names_behind : (from to : ℕ) (cs : List Column) → AllByRecursion IsReadableName (map (λ c. c.name) cs) → AllByRecursion IsReadableName (map (λ c. c.name) (drop from (take to cs)))
names_behind zero zero cs names = tt
names_behind zero (suc to) [] names = tt
names_behind zero (suc to) (c ∷ cs) names = (names.0, names_behind zero to cs names.1)
names_behind (suc from) zero cs names = tt
names_behind (suc from) (suc to) [] names = tt
names_behind (suc from) (suc to) (c ∷ cs) names = names_behind from to cs names.1

-- ---- tables of a schema by their numbers

-- a table that stands at its number, and can be named
pub record IsReadableTable (number : ℕ) (table : Table) : Type 0 where
  pub good : IsTable number table
  pub own : IsReadableName table.name
  pub names : AreReadableNames (column_names table)

pub good_at : (n : ℕ) (ts : List Table) (i : ℕ) (t : Table) → AreTables n ts → slice_get ts i ≡ Some t → IsTable (n + i) t
good_at n [] i t are at = cc
good_at n (x ∷ ts) zero t are at =
    let same : x ≡ t = cc in let e : n ≡ n + 0 = omega arith in subst (λ m. IsTable m t) e (subst (IsTable n) same are.0)
good_at n (x ∷ ts) (suc i) t are at =
    let e : (n + 1) + i ≡ n + suc i = omega arith in subst (λ m. IsTable m t) e (good_at (n + 1) ts i t are.1 at)

columns_at : (ts : List Table) (i : ℕ) (t : Table) → AllByRecursion (λ t. AreReadableNames (column_names t)) ts → slice_get ts i ≡ Some t → AreReadableNames (column_names t)
columns_at [] i t all at = cc
columns_at (x ∷ ts) zero t all at = let same : x ≡ t = cc in subst (λ (y : Table). AreReadableNames (column_names y)) same all.0
columns_at (x ∷ ts) (suc i) t all at = columns_at ts i t all.1 at

pub readable_table : (tables : Schema) (number : ℕ) (t : Table) → AreTables 1 tables.tables → HaveReadableNames tables.tables → table_at tables number ≡ Some t → IsReadableTable number t
readable_table tables number t are names at =
    let there = place_of tables.tables number t at in
    let some = from_one number there.0 in
    let e : 1 + (number - 1) ≡ number = omega arith in
    record {
      good = subst (λ m. IsTable m t) e (good_at 1 tables.tables (number - 1) t are there.1);
      own = readable_at (λ t. t.name) tables.tables (number - 1) t names.own.0 there.1;
      names = columns_at tables.tables (number - 1) t names.columns there.1;
    }
