-- What new values of some columns leave of a row.
use Rattle.std.proofs.Common.{◌≡◌, ◌≢◌, ℕ, ◌≤◌, ◌-◌, List, [], ◌∷◌, ◌++◌, refl, sym, ap, subst, ◌∙◌, arith, map, length, set, All}
use Rattle.std.proofs.lemmas.List.Elements.{All-head, All-tail}
use Rattle.std.specs.Prelude.{slice_set}
use Rattle.std.proofs.lemmas.Option.{unwrap_or-slice_get}
use Rattle.std.proofs.lemmas.List.{get_or-set_same, get_or-set_other}
use Rattle.std.proofs.Math.ListN.{length-set}
use Rattle.values.specs.declared.period.Period.{Period}
use Rattle.values.specs.declared.period.Span.{Span}
use Rattle.values.specs.declared.value.Value.{Value}
use Rattle.values.specs.declared.value.Value.TheVariants.{Int, Null}
use Rattle.values.specs.declared.table.Table.{Table}
use Rattle.values.specs.declared.query.Set.{Set}
use Rattle.values.specs.Log.{Row}
use Rattle.values.specs.Tables.{value_at, but_last}
use Rattle.values.specs.TableRules.{IsOutside, HasPeriod}
use Rattle.values.specs.Each.{Each}
use Rattle.values.specs.Writes.{key_of, set_all}
use Rattle.values.specs.Period.{span_of, with_span, int_of}
use Rattle.values.specs.Entity.{entity_of}
use Rattle.periods.specs.NoOverlap.{IsSettable}

apart_places : (i j : ℕ) → 1 ≤ i → 1 ≤ j → i ≢ j → i - 1 ≢ j - 1
apart_places i j a b d = omega arith

pub value_set_other : (row : Row) (i j : ℕ) (v : Value) → 1 ≤ i → 1 ≤ j → j ≢ i → value_at (slice_set row (i - 1) v) j ≡ value_at row j
value_set_other row i j v a b d =
    unwrap_or-slice_get (set row (i - 1) v) (j - 1) Null ∙ get_or-set_other row (i - 1) (j - 1) v Null (apart_places j i b a d) ∙ sym (unwrap_or-slice_get row (j - 1) Null)

pub value_set_same : (row : Row) (i : ℕ) (v : Value) → 1 ≤ i → i ≤ length row → value_at (slice_set row (i - 1) v) i ≡ v
value_set_same row i v a b =
    unwrap_or-slice_get (set row (i - 1) v) (i - 1) Null ∙ get_or-set_same row (i - 1) v Null (omega arith)

-- ---- the columns of the period

pub width_with_span : (p : Period) (s : Span) (row : Row) → length (with_span p s row) ≡ length row
width_with_span p s row = length-set (set row (p.from - 1) (Int s.from)) (p.to - 1) (Int s.to) ∙ length-set row (p.from - 1) (Int s.from)

pub value_with_span : (p : Period) (s : Span) (row : Row) (column : ℕ) → 1 ≤ p.from → 1 ≤ p.to → IsOutside p column → value_at (with_span p s row) column ≡ value_at row column
value_with_span p s row column a b out =
    value_set_other (slice_set row (p.from - 1) (Int s.from)) p.to column (Int s.to) b out.from_1 out.no_end
    ∙ value_set_other row p.from column (Int s.from) a out.from_1 out.no_start

pub start_with_span : (table : Table) (p : Period) (s : Span) (row : Row) → HasPeriod table p → p.from ≤ length row → value_at (with_span p s row) p.from ≡ Int s.from
start_with_span table p s row has start_in =
    value_set_other (slice_set row (p.from - 1) (Int s.from)) p.to p.from (Int s.to) has.end.from_1 has.start.from_1 has.differ
    ∙ value_set_same row p.from (Int s.from) has.start.from_1 start_in

pub span_with_span : (table : Table) (p : Period) (s : Span) (row : Row) → HasPeriod table p → p.from ≤ length row → p.to ≤ length row → span_of p (with_span p s row) ≡ s
span_with_span table p s row has start_in end_in = λ i. record { from = start i; to = end i }
  where
    wide : length (slice_set row (p.from - 1) (Int s.from)) ≡ length row
    wide = length-set row (p.from - 1) (Int s.from)

    start : int_of (value_at (with_span p s row) p.from) ≡ s.from
    start = ap int_of (start_with_span table p s row has start_in)

    end : int_of (value_at (with_span p s row) p.to) ≡ s.to
    end = ap int_of (value_set_same (slice_set row (p.from - 1) (Int s.from)) p.to (Int s.to) has.end.from_1 (subst (λ n. p.to ≤ n) (sym wide) end_in))

-- ---- the entity

pub but_last_map : {A B : Type 0} (f : A → B) (xs : List A) → but_last (map f xs) ≡ map f (but_last xs)
but_last_map f [] = refl
but_last_map f (x ∷ []) = refl
but_last_map f (x ∷ y ∷ ys) = ap (λ l. f x ∷ l) (but_last_map f (y ∷ ys))

pub same_values : (f g : ℕ → Value) (columns : List ℕ) → Each (λ c. f c ≡ g c) columns → map f columns ≡ map g columns
same_values f g [] same = refl
same_values f g (c ∷ columns) same = λ i. same.0 i ∷ same_values f g columns same.1 i

-- rows with the same values in the entity's columns are of one entity
pub same_entity : (table : Table) (row other : Row) → Each (λ c. value_at row c ≡ value_at other c) (but_last table.key) → entity_of (key_of table row) ≡ entity_of (key_of table other)
same_entity table row other same =
    λ i. record { table = table.number; parts = (but_last_map (value_at row) table.key ∙ same_values (value_at row) (value_at other) (but_last table.key) same ∙ sym (but_last_map (value_at other) table.key)) i }

pub each_to : {A : Type 0} (P Q : A → Type 0) → ((x : A) → P x → Q x) → (xs : List A) → Each P xs → Each Q xs
each_to P Q h [] e = tt
each_to P Q h (x ∷ xs) e = (h x e.0, each_to P Q h xs e.1)

-- what holds of all holds of each
each_of : {A : Type 0} (P : A → Type 0) (xs : List A) → All P xs → Each P xs
each_of P [] all = tt
each_of P (x ∷ xs) all = (All-head P x xs all, each_of P xs (All-tail P x xs all))

each_push : {A : Type 0} (P : A → Type 0) (xs : List A) (x : A) → Each P xs → P x → Each P (xs ++ x ∷ [])
each_push P [] x e is = (is, tt)
each_push P (y ∷ xs) x e is = (e.0, each_push P xs x e.1 is)

key_from_1 : (table : Table) (p : Period) → HasPeriod table p → Each (λ c. 1 ≤ c) table.key
key_from_1 table p has =
    subst (Each (λ c. 1 ≤ c)) (sym has.start_last)
    (each_push (λ c. 1 ≤ c) (but_last table.key) p.from (each_to (IsOutside p) (λ c. 1 ≤ c) (λ c out. out.from_1) (but_last table.key) (each_of (IsOutside p) (but_last table.key) has.entity)) has.start.from_1)

pub entity_with_span : (table : Table) (p : Period) (s : Span) (row : Row) → HasPeriod table p → entity_of (key_of table (with_span p s row)) ≡ entity_of (key_of table row)
entity_with_span table p s row has =
    same_entity table (with_span p s row) row (each_to (IsOutside p) (λ c. value_at (with_span p s row) c ≡ value_at row c) (λ c out. value_with_span p s row c has.start.from_1 has.end.from_1 out) (but_last table.key) (each_of (IsOutside p) (but_last table.key) has.entity))

-- ---- new values

pub width_set_all : (sets : List Set) (row : Row) → length (set_all sets row) ≡ length row
width_set_all [] row = refl
width_set_all (s ∷ sets) row = width_set_all sets (slice_set row (s.column - 1) s.value) ∙ length-set row (s.column - 1) s.value

-- a column that is not set keeps its value
pub value_set_all : (sets : List Set) (row : Row) (column : ℕ) → 1 ≤ column → Each (λ s. (1 ≤ s.column) × (s.column ≢ column)) sets → value_at (set_all sets row) column ≡ value_at row column
value_set_all [] row column a others = refl
value_set_all (s ∷ sets) row column a others =
    value_set_all sets (slice_set row (s.column - 1) s.value) column a others.1
    ∙ value_set_other row s.column column s.value others.0.0 a (λ e. others.0.1 (sym e))

each_at : {A : Type 0} (P : A → Type 0) (Q : A → ℕ → Type 0) (columns : List ℕ) (xs : List A) → ((x : A) → P x → Each (Q x) columns) → Each P xs → Each (λ c. Each (λ x. Q x c) xs) columns
each_at P Q [] xs h e = tt
each_at P Q (c ∷ columns) xs h e = (
  each_to P (λ x. Q x c) (λ x p. (h x p).0) xs e,
  each_at P Q columns xs (λ x p. (h x p).1) e,
)

each_both : {A : Type 0} (P Q : A → Type 0) (xs : List A) → Each P xs → Each Q xs → Each (λ x. P x × Q x) xs
each_both P Q [] e f = tt
each_both P Q (x ∷ xs) e f = ((e.0, f.0), each_both P Q xs e.1 f.1)

-- the key of a row whose settable columns are set
pub key_set_all : (table : Table) (p : Period) (sets : List Set) (row : Row) → HasPeriod table p → Each (IsSettable table p) sets → key_of table (set_all sets row) ≡ key_of table row
key_set_all table p sets row has settable =
    λ i. record { table = table.number; parts = same_values (value_at (set_all sets row)) (value_at row) table.key kept i }
  where
    Q : Set → ℕ → Type 0
    Q s c = (1 ≤ s.column) × (s.column ≢ c)

    spread : (columns : List ℕ) (s : Set) → 1 ≤ s.column → Each (λ column. s.column ≢ column) columns → Each (λ c. (1 ≤ s.column) × (s.column ≢ c)) columns
    spread [] s a e = tt
    spread (c ∷ columns) s a e = ((a, e.0), spread columns s a e.1)

    kept : Each (λ c. value_at (set_all sets row) c ≡ value_at row c) table.key
    kept = each_to (λ c. (1 ≤ c) × Each (λ s. (1 ≤ s.column) × (s.column ≢ c)) sets) (λ c. value_at (set_all sets row) c ≡ value_at row c)
        (λ c h. value_set_all sets row c h.0 h.1) table.key
        (each_both (λ c. 1 ≤ c) (λ c. Each (λ s. (1 ≤ s.column) × (s.column ≢ c)) sets) table.key (key_from_1 table p has)
        (each_at (IsSettable table p) (λ s c. (1 ≤ s.column) × (s.column ≢ c)) table.key sets (λ s is. spread table.key s is.outside.from_1 is.no_key) settable))

-- and its span
pub span_set_all : (table : Table) (p : Period) (sets : List Set) (row : Row) → HasPeriod table p → Each (IsSettable table p) sets → span_of p (set_all sets row) ≡ span_of p row
span_set_all table p sets row has settable =
    λ i. record {
      from = int_of (value_set_all sets row p.from has.start.from_1 (each_to (IsSettable table p) (λ s. (1 ≤ s.column) × (s.column ≢ p.from)) (λ s is. (is.outside.from_1, is.outside.no_start)) sets settable) i);
      to = int_of (value_set_all sets row p.to has.end.from_1 (each_to (IsSettable table p) (λ s. (1 ≤ s.column) × (s.column ≢ p.to)) (λ s is. (is.outside.from_1, is.outside.no_end)) sets settable) i);
    }
