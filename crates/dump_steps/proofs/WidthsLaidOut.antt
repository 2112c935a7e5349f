-- The tables of a history: those that came first, with columns that were added in turn.
use Rattle.std.proofs.Common.{◌≡◌, ℕ, ◌+◌, ◌-◌, ◌≤◌, zero, suc, List, [], ◌∷◌, ◌++◌, Option, Some, sym, ap, subst, ◌∙◌, arith, length, All}
use Rattle.std.proofs.lemmas.List.Elements.{All-head, All-tail}
use Rattle.std.proofs.lemmas.List.{length-map}
use Rattle.std.proofs.lemmas.Option.{slice_get-map}
use Rattle.std.specs.List.{slice_get}
use Rattle.std.specs.Option.{option_map, unwrap_or}
use Rattle.values.specs.declared.period.Period.{Period}
use Rattle.values.specs.declared.table.Column.{Column}
use Rattle.values.specs.declared.table.Table.{Table}
use Rattle.values.specs.TableRules.{AreTables, HasPeriod, IsColumnOf, IsDistinct, IsOutside, IsTable}
use Rattle.values.specs.Tables.{Schema, but_last, column_at}
use Rattle.steps.specs.Idle.{is_idle}
use Rattle.histories.specs.History.{History, has_open, schema_after}
use Rattle.histories.proofs.HistoryOwn.{schema_step}
use Rattle.dump_steps.specs.Widths.{widths_of}
use Rattle.dump_steps.proofs.DumpKeys.{AreIn, all_in}
use Rattle.dump_steps.proofs.DumpOwnWrites.{AllLaidOut}
use Rattle.dump_steps.proofs.DumpRows.{AreKeyColumns, column_is, got_in_front, is_column, narrow}
use Rattle.dump_steps.proofs.WidthsGrown.{AllGrown, HasGrown, all_as_they_were, as_many, column_grown, grown_at}
use Rattle.dump_steps.proofs.WidthsTables.{AreBetween, place}

pub all_grown : (first : Schema) (h : History) → AllGrown first.tables (schema_after first h).tables
all_grown first [] = all_as_they_were first.tables
all_grown first (step ∷ h) =
    schema_step (λ s. AllGrown first.tables s.tables) (schema_after first h) (is_idle (has_open h)) step (all_grown first h)
    (λ i number name of fits idle. column_grown first.tables (schema_after first h) i number name of fits (all_grown first h))

at_place : (ts : List Table) (n i : ℕ) (t : Table) → AreTables n ts → slice_get ts i ≡ Some t → IsTable (n + i) t
at_place [] n i t good at = cc
at_place (x ∷ ts) n zero t good at = let same : x ≡ t = cc in subst (λ m. IsTable m t) (let none : n ≡ n + 0 = omega arith in none) (subst (IsTable n) same good.0)
at_place (x ∷ ts) n (suc i) t good at = subst (λ m. IsTable m t) (let next : (n + 1) + i ≡ n + suc i = omega arith in next) (at_place ts (n + 1) i t good.1 at)

pub first_width : (first : Schema) (i : ℕ) (t : Table) → slice_get first.tables i ≡ Some t → place (widths_of first) i ≡ length t.columns
first_width first i t at =
    ap (λ (o : Option ℕ). unwrap_or o 0) (slice_get-map (λ (t : Table). length t.columns) first.tables i ∙ ap (λ (o : Option Table). let r : Option ℕ = option_map (λ t. length t.columns) o in r) at)

-- ---- a table that has grown

key_columns : (was now : Table) (ns : List ℕ) → All (IsColumnOf was) ns → AreIn now ns → AreKeyColumns now (length was.columns) ns
key_columns was now [] all in_key = tt
key_columns was now (n ∷ ns) all in_key =
    let head = All-head (IsColumnOf was) n ns all in
    ((head.from_1, (head.within, in_key.0)), key_columns was now ns (All-tail (IsColumnOf was) n ns all) in_key.1)

module _ (was now : Table) (grown : HasGrown was now) where
  column_was : (n : ℕ) (c : Column) → n ≤ length was.columns → column_at now n ≡ Some c → column_at was n ≡ Some c
  column_was n c within at =
      let is = column_is now n c at in
      ap (λ (t : Table). column_at t n) (sym grown.same)
      ∙ is_column (narrow (length was.columns) now) n c is.from_1 (got_in_front (length was.columns) now.columns (n - 1) (omega (arith, is.from_1)) ∙ is.found)

  column_still : (n : ℕ) → IsColumnOf was n → IsColumnOf now n
  column_still n is = record { from_1 = is.from_1; within = let le : n ≤ length was.columns = is.within in omega (arith, grown.wider) }

  period_still : (p : Period) → HasPeriod was p → HasPeriod now p
  period_still p has =
      let key : was.key ≡ now.key = ap (λ (t : Table). t.key) (sym grown.same) in
      record {
        start = column_still p.from has.start;
        end = column_still p.to has.end;
        start_instants = λ c at. has.start_instants c (column_was p.from c has.start.within at);
        end_instants = λ c at. has.end_instants c (column_was p.to c has.end.within at);
        differ = has.differ;
        entity = subst (λ key. All (IsOutside p) (but_last key)) key has.entity;
        start_last = subst (λ key. key ≡ but_last key ++ p.from ∷ []) key has.start_last;
        distinct = subst IsDistinct key has.distinct;
      }

pub tables_laid_out : (first : Schema) (h : History) → AreTables 1 first.tables → AllLaidOut (widths_of first) (schema_after first h).tables
tables_laid_out first h good i t at =
    let is = grown_at first.tables (schema_after first h).tables i t at (all_grown first h) in
    let was : Table = is.was in
    let grown : HasGrown was t = is.grown in
    let table = at_place first.tables 1 i was good is.found in
    let width : place (widths_of first) i ≡ length was.columns = first_width first i was is.found in
    let number : was.number ≡ 1 + i = table.numbered in
    record {
      numbered = ap (λ (t : Table). t.number) grown.same ∙ (let one : was.number ≡ suc i = omega arith in one);
      columns =
          subst (λ k. AreKeyColumns t k t.key) (sym width)
          (subst (λ key. AreKeyColumns t (length was.columns) key) (ap (λ (t : Table). t.key) (sym grown.same))
          (key_columns was t was.key table.own_key_columns (subst (AreIn t) (ap (λ (t : Table). t.key) grown.same) (all_in t t.key (λ n has. has)))));
      wider = subst (λ n. n ≤ length t.columns) (sym width) grown.wider;
      has = λ p is_p. period_still was t grown p (table.own_period p (ap (λ (t : Table). t.period) (sym grown.same) ∙ is_p));
      added = λ k c le found. grown.added k c (subst (λ n. n ≤ k) width le) found;
    }

pub first_between : (first : Schema) (h : History) → AreTables 1 first.tables → AreBetween (widths_of first) (schema_after first h).tables (widths_of first)
first_between first h good = record {
  long = length-map first.tables (λ (t : Table). length t.columns) ∙ as_many first.tables (schema_after first h).tables (all_grown first h);
  above = λ i. let le : place (widths_of first) i ≤ place (widths_of first) i = omega arith in le;
  within = λ i t at. (tables_laid_out first h good i t at).wider;
}
