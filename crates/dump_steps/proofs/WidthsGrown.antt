-- Tables that got columns, one after another.
use Rattle.std.proofs.Common.{◌≡◌, ℕ, ◌-◌, ◌≤◌, ◌<◌, zero, suc, Bool, true, false, List, [], ◌∷◌, ◌++◌, Option, Some, None, refl, sym, ap, subst, ◌∙◌, arith, length, map, length-append, nat_lt}
use Rattle.std.specs.Prelude.{if◌then◌else◌, slice_set}
use Rattle.std.proofs.lemmas.Bool.Decides.{nat_tests}
use Rattle.std.proofs.lemmas.List.{take-append-le}
use Rattle.std.proofs.lemmas.Option.{slice_get_within}
use Rattle.std.proofs.Math.Seq.{take-length, take-append_seam}
use Rattle.std.specs.List.{slice_get}
use Rattle.values.specs.declared.table.Column.{Column}
use Rattle.values.specs.declared.table.ColumnType.{ColumnType}
use Rattle.values.specs.declared.table.Table.{Table}
use Rattle.values.specs.declared.refusal.Refusal.{Refusal}
use Rattle.values.specs.declared.refusal.Refusal.TheVariants.{NoSession, NoTable}
use Rattle.values.specs.Columns.{addition_fault, new_column, with_column, add_column}
use Rattle.values.specs.Faults.{bad_row}
use Rattle.values.specs.Tables.{Schema, table_at}
use Rattle.values.proofs.ColumnsTables.{added_by}
use Rattle.steps.specs.declared.step.Step.TheVariants.{AddColumn}
use Rattle.steps.specs.Misfit.{max_session, misfit}
use Rattle.steps.proofs.MisfitKeys.{no_fault}
use Rattle.dump_steps.proofs.DumpRows.{narrow}
use Rattle.dump_steps.proofs.WidthsTables.{narrowed, table_is}

-- the column could be added to the table as it is
pub record IsAddition (t : Table) (c : Column) : Type 0 where
  pub new : c ≡ new_column c.name c.of
  pub fits : addition_fault c.name c.of t ≡ None

-- each column behind those of the first table was added to those in front of it
pub record HasGrown (first now : Table) : Type 0 where
  pub same : narrow (length first.columns) now ≡ first
  pub wider : length first.columns ≤ length now.columns
  pub added : (k : ℕ) (c : Column) → length first.columns ≤ k → slice_get now.columns k ≡ Some c → IsAddition (narrow k now) c

as_it_was : (t : Table) → HasGrown t t
as_it_was t = record {
  same = ap (λ columns. record t { columns = columns }) (take-length t.columns);
  wider = omega arith;
  added = λ k c behind at. let inside : k < length t.columns = slice_get_within t.columns k c at in absurd (omega arith);
}

-- a column of one more is one of those before, or the last
got_pushed : {A : Type 0} (xs : List A) (y x : A) (i : ℕ) → slice_get (xs ++ y ∷ []) i ≡ Some x → i < length xs → slice_get xs i ≡ Some x
got_pushed [] y x i at lt = absurd (omega arith)
got_pushed (a ∷ xs) y x zero at lt = at
got_pushed (a ∷ xs) y x (suc i) at lt = got_pushed xs y x i at (omega arith)

got_last : {A : Type 0} (xs : List A) (y x : A) → slice_get (xs ++ y ∷ []) (length xs) ≡ Some x → y ≡ x
got_last [] y x at = cc
got_last (a ∷ xs) y x at = got_last xs y x at

pub grown_more : (first now : Table) (c : Column) → IsAddition now c → HasGrown first now → HasGrown first (with_column c now)
grown_more first now c addition has = record {
  same = front (length first.columns) has.wider ∙ has.same;
  wider = omega (arith, has.wider, length-append now.columns (c ∷ []));
  added = λ k d behind at. by k d behind at (nat_lt k (length now.columns)) refl;
}
  where
    front : (k : ℕ) → k ≤ length now.columns → narrow k (with_column c now) ≡ narrow k now
    front k le = ap (λ columns. record now { columns = columns }) (take-append-le k now.columns (c ∷ []) le)

    below : (a b : ℕ) → nat_lt a b ≡ true → a < b
    below a b e = grind (arith, nat_tests)

    not_below : (a b : ℕ) → nat_lt a b ≡ false → b ≤ a
    not_below a b e = grind (arith, nat_tests)

    by : (k : ℕ) (d : Column) → length first.columns ≤ k → slice_get (now.columns ++ c ∷ []) k ≡ Some d → (b : Bool) → nat_lt k (length now.columns) ≡ b → IsAddition (narrow k (with_column c now)) d
    by k d behind at true e =
        let lt : k < length now.columns = below k (length now.columns) e in
        subst (λ t. IsAddition t d) (sym (front k (omega arith))) (has.added k d behind (got_pushed now.columns c d k at lt))
    by k d behind at false e =
        let ge : length now.columns ≤ k = not_below k (length now.columns) e in
        let lt : k < length (now.columns ++ c ∷ []) = slice_get_within (now.columns ++ c ∷ []) k d at in
        let is : k ≡ length now.columns = omega (arith, length-append now.columns (c ∷ [])) in
        let one : c ≡ d = got_last now.columns c d (ap (slice_get (now.columns ++ c ∷ [])) (sym is) ∙ at) in
        subst (λ t. IsAddition t d) (sym (ap (λ k. narrow k (with_column c now)) is ∙ whole)) (subst (IsAddition now) one addition)
      where
        whole : narrow (length now.columns) (with_column c now) ≡ now
        whole = ap (λ columns. record now { columns = columns }) (take-append_seam now.columns (c ∷ []))

-- ---- all tables

abbrev pub AllGrown : List Table → List Table → Type 0
AllGrown [] [] = Unit {0}
AllGrown [] (u ∷ us) = ⊥
AllGrown (t ∷ ts) [] = ⊥
AllGrown (t ∷ ts) (u ∷ us) = HasGrown t u × AllGrown ts us

pub all_as_they_were : (ts : List Table) → AllGrown ts ts
all_as_they_were [] = tt
all_as_they_were (t ∷ ts) = (as_it_was t, all_as_they_were ts)

set_grown : (ts us : List Table) (i : ℕ) (u : Table) (c : Column) → slice_get us i ≡ Some u → IsAddition u c → AllGrown ts us → AllGrown ts (slice_set us i (with_column c u))
set_grown [] [] i u c at addition grown = cc
set_grown [] (x ∷ us) i u c at addition grown = absurd grown
set_grown (t ∷ ts) [] i u c at addition grown = absurd grown
set_grown (t ∷ ts) (x ∷ us) zero u c at addition grown =
    let same : x ≡ u = cc in (grown_more t u c addition (subst (HasGrown t) same grown.0), grown.1)
set_grown (t ∷ ts) (x ∷ us) (suc i) u c at addition grown = (grown.0, set_grown ts us i u c at addition grown.1)

-- a column that fits is one more of its table
pub column_grown : (ts : List Table) (now : Schema) (i number : ℕ) (name : List ℕ) (of : ColumnType) → misfit now (AddColumn i number name of) ≡ None → AllGrown ts now.tables
    → AllGrown ts (add_column number (new_column name of) now).tables
column_grown ts now i number name of fits grown = by (nat_lt max_session i) (table_at now number) refl fits
  where
    by : (b : Bool) (o : Option Table) → table_at now number ≡ o
        → ◌≡◌ {A = Option Refusal} (if b then Some NoSession else elim o [ None ↦ Some NoTable | Some table ↦ bad_row (addition_fault name of table) ]) None
        → AllGrown ts (added_by now number (new_column name of) o).tables
    by true o at fits = cc
    by false None at fits = cc
    by false (Some u) at fits =
        set_grown ts now.tables (number - 1) u (new_column name of) (table_is now number u at).found
        (record { new = refl; fits = no_fault (addition_fault name of u) fits }) grown

pub record IsGrownOf (ts : List Table) (i : ℕ) (u : Table) : Type 0 where
  pub was : Table
  pub found : slice_get ts i ≡ Some was
  pub grown : HasGrown was u

pub grown_at : (ts us : List Table) (i : ℕ) (u : Table) → slice_get us i ≡ Some u → AllGrown ts us → IsGrownOf ts i u
grown_at [] [] i u at grown = cc
grown_at [] (x ∷ us) i u at grown = absurd grown
grown_at (t ∷ ts) [] i u at grown = absurd grown
grown_at (t ∷ ts) (x ∷ us) zero u at grown = let same : x ≡ u = cc in record { was = t; found = refl; grown = subst (HasGrown t) same grown.0 }
grown_at (t ∷ ts) (x ∷ us) (suc i) u at grown = let rest = grown_at ts us i u at grown.1 in record { was = rest.was; found = rest.found; grown = rest.grown }

pub as_many : (ts us : List Table) → AllGrown ts us → length ts ≡ length us
as_many [] [] grown = refl
as_many [] (u ∷ us) grown = absurd grown
as_many (t ∷ ts) [] grown = absurd grown
as_many (t ∷ ts) (u ∷ us) grown = ap suc (as_many ts us grown.1)

-- with their first columns they are the first tables
pub first_narrowed : (ts us : List Table) → AllGrown ts us → narrowed us (map (λ t. length t.columns) ts) ≡ ts
first_narrowed [] [] grown = refl
first_narrowed [] (u ∷ us) grown = absurd grown
first_narrowed (t ∷ ts) [] grown = absurd grown
first_narrowed (t ∷ ts) (u ∷ us) grown = λ i. grown.0.same i ∷ first_narrowed ts us grown.1 i
