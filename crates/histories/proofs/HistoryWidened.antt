-- What a query as of an instant showed it shows later with NULL in the columns that were added.
use Rattle.std.proofs.Common.{◌≡◌, ℕ, zero, suc, ◌-◌, ◌≤◌, Bool, true, false, List, [], ◌∷◌, ◌++◌, Option, Some, None, refl, sym, ap, subst, ◌∙◌, arith, map}
use Rattle.std.specs.Prelude.{◌==◌, ◌&&◌, if◌then◌else◌, nat_lt}
use Rattle.std.specs.List.{slice_get}
use Rattle.values.specs.declared.table.Column.{Column}
use Rattle.values.specs.declared.table.Table.{Table}
use Rattle.values.specs.declared.query.Form.TheVariants.{AsOf}
use Rattle.values.specs.declared.query.Keys.{Keys}
use Rattle.values.specs.declared.query.Comparison.{Comparison}
use Rattle.values.specs.declared.refusal.Refusal.TheVariants.{NoTable, NoSession}
use Rattle.values.specs.Tables.{Schema, table_at, column_at, is_key_column, full_row}
use Rattle.values.specs.WiderTable.{IsWidenedTo}
use Rattle.values.specs.Faults.{bad_row}
use Rattle.values.specs.Fit.{can_compare, comparison_fault, comparisons_fault, first_of}
use Rattle.values.specs.Log.{Log, changes, upto}
use Rattle.values.specs.Law.{IsLog, shown_rows}
use Rattle.values.proofs.LawAsOf.{as_of_shows_state, as_of_is_widened}
use Rattle.steps.specs.declared.step.Listing.{Listing}
use Rattle.steps.specs.declared.step.Listing.TheVariants.{Rows}
use Rattle.steps.specs.declared.step.Reply.{Reply}
use Rattle.steps.specs.declared.step.Reply.TheVariants.{Refused, Shown as Shows}
use Rattle.steps.specs.Misfit.{max_session}
use Rattle.histories.specs.History.{schema_after, log, snap, listing}
use Rattle.histories.specs.Law.{PastIsWidened, PastIsAnsweredWidened, widened_listing}
use Rattle.histories.proofs.HistoryGrowth.{log_rises, later_steps_add}
use Rattle.histories.proofs.HistoryPast.{snap_below, shown_at, within}
use Rattle.histories.proofs.HistoryTables.{tables_only_grow}

-- ---- the rows

-- up to an instant a snapshot at or after it is all that was committed
whole_at : (log : Log) (s t : ℕ) (table : Table) (keys : Keys) → IsLog log → t ≤ s → shown_rows (changes (upto log s)) table (AsOf t) keys ≡ shown_rows (changes log) table (AsOf t) keys
whole_at log s t table keys rises below = shown_at log s t table keys rises below ∙ sym (as_of_shows_state log t table keys rises)

pub past_is_widened : (first : Schema) → PastIsWidened first
past_is_widened first h later i j t table wider keys at_first later_on grows =
    let more = later_steps_add first h later in
    ap Rows
    (whole_at (log first (later ++ h)) (snap first (later ++ h) j) t wider keys (log_rises first (later ++ h)) later_on
    ∙ ap (λ (l : Log). shown_rows (changes l) wider (AsOf t) keys) more.1
    ∙ as_of_is_widened (log first h) more.0 t table wider keys (subst IsLog more.1 (log_rises first (later ++ h))) (omega (arith, at_first, snap_below first h i)) grows
    ∙ ap (map (full_row wider)) (sym (whole_at (log first h) (snap first h i) t table keys (log_rises first h) at_first)))

-- ---- what fitted fits

got_in_front : {A : Type 0} (xs ys : List A) (x : A) (i : ℕ) → slice_get xs i ≡ Some x → slice_get (xs ++ ys) i ≡ Some x
got_in_front [] ys x i is = cc
got_in_front (a ∷ xs) ys x zero is = is
got_in_front (a ∷ xs) ys x (suc i) is = got_in_front xs ys x i is

column_stays : (table wider : Table) (n : ℕ) (c : Column) → IsWidenedTo table wider → column_at table n ≡ Some c → column_at wider n ≡ Some c
column_stays table wider n c grows is = ap (λ columns. column_at (record table { columns = columns }) n) grows.columns_are ∙ by (n == 0) is
  where
    by : (b : Bool) → ◌≡◌ {A = Option Column} (if b then None else slice_get table.columns (n - 1)) (Some c) → ◌≡◌ {A = Option Column} (if b then None else slice_get (table.columns ++ grows.more) (n - 1)) (Some c)
    by true is = cc
    by false is = got_in_front table.columns grows.more c (n - 1) is

comparison_stays : (table wider : Table) (c : Comparison) → IsWidenedTo table wider → comparison_fault table c ≡ None → comparison_fault wider c ≡ None
comparison_stays table wider c grows is = by (column_at table c.column) refl is
  where
    by : (o : Option Column) → column_at table c.column ≡ o
        → ◌≡◌ {A = Option ℕ} (elim o [ None ↦ Some 0 | Some x ↦ if is_key_column table c.column && can_compare x.of c.value then None else Some c.column ]) None
        → comparison_fault wider c ≡ None
    by None at is = cc
    by (Some x) at is =
        ap (λ (o : Option Column). let r : Option ℕ = elim o [ None ↦ Some 0 | Some x ↦ if is_key_column wider c.column && can_compare x.of c.value then None else Some c.column ] in r) (column_stays table wider c.column x grows at)
        ∙ ap (λ key. if is_key_column (record table { key = key }) c.column && can_compare x.of c.value then None else Some c.column) grows.key_is ∙ is

comparisons_stay : (table wider : Table) (cs : List Comparison) → IsWidenedTo table wider → comparisons_fault table cs ≡ None → comparisons_fault wider cs ≡ None
comparisons_stay table wider [] grows is = refl
comparisons_stay table wider (c ∷ cs) grows is = by (comparison_fault table c) refl is (comparisons_stay table wider cs grows)
  where
    by : (o : Option ℕ) → comparison_fault table c ≡ o → ◌≡◌ {A = Option ℕ} (first_of o (comparisons_fault table cs)) None
        → (comparisons_fault table cs ≡ None → comparisons_fault wider cs ≡ None) → comparisons_fault wider (c ∷ cs) ≡ None
    by None at is rest =
        ap (λ (o : Option ℕ). let r : Option ℕ = first_of o (comparisons_fault wider cs) in r) (comparison_stays table wider c grows at) ∙ rest is
    by (Some n) at is rest = cc

-- ---- the replies

abbrev Told : Option Table → Keys → (Table → Listing) → Listing → Type 0
Told o keys f shown = (table : Table) × ((o ≡ Some table) × ((comparisons_fault table keys.comparisons ≡ None) × (f table ≡ shown)))

abbrev select_in : Option Table → Keys → Bool → (Table → Listing) → Reply
select_in o keys beyond f = elim (if beyond then Some NoSession else elim o [ None ↦ Some NoTable | Some table ↦ bad_row (comparisons_fault table keys.comparisons) ]) [
  | Some refusal ↦ Refused refusal
  | None ↦ elim o [ None ↦ Refused NoTable | Some table ↦ Shows (f table) ]
]

told : (o : Option Table) (keys : Keys) (beyond : Bool) (f : Table → Listing) (shown : Listing) → select_in o keys beyond f ≡ Shows shown → Told o keys f shown
told None keys true f shown is = cc
told (Some table) keys true f shown is = cc
told None keys false f shown is = cc
told (Some table) keys false f shown is = by (comparisons_fault table keys.comparisons) refl is
  where
    by : (n : Option ℕ) → comparisons_fault table keys.comparisons ≡ n → ◌≡◌ {A = Reply} (elim (bad_row n) [ Some refusal ↦ Refused refusal | None ↦ Shows (f table) ]) (Shows shown) → Told (Some table) keys f shown
    by None fits is = let same : f table ≡ shown = cc in (table, (refl, (fits, same)))
    by (Some n) fits is = cc

answered : (o : Option Table) (keys : Keys) (beyond : Bool) (f : Table → Listing) (wider : Table) → o ≡ Some wider → beyond ≡ false → comparisons_fault wider keys.comparisons ≡ None → select_in o keys beyond f ≡ Shows (f wider)
answered o keys beyond f wider at here fits =
    (λ k. select_in (at k) keys (here k) f)
    ∙ ap (λ n. let r : Reply = elim (bad_row n) [ Some refusal ↦ Refused refusal | None ↦ Shows (f wider) ] in r) fits

pub answered_widened : (first : Schema) → PastIsAnsweredWidened first
answered_widened first h later i j t keys shown j_small at_first later_on is =
    let was = told (table_at (schema_after first h) keys.table) keys (nat_lt max_session i) (λ table. listing first h i (AsOf t) table keys) shown is in
    let grown = tables_only_grow first h later keys.table was.0 was.1.0 in (
      grown.0,
      (
        grown.1.0,
        answered (table_at (schema_after first (later ++ h)) keys.table) keys (nat_lt max_session j) (λ table. listing first (later ++ h) j (AsOf t) table keys) grown.0 grown.1.0 (within j j_small)
            (comparisons_stay was.0 grown.0 keys.comparisons grown.1.1 was.1.1.0)
            ∙ ap Shows (past_is_widened first h later i j t was.0 grown.0 keys at_first later_on grown.1.1 ∙ ap (widened_listing grown.0) was.1.1.1),
      ),
    )
