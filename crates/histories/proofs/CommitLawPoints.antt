-- What a COMMIT makes of the points of what is committed.
use Rattle.std.proofs.Common.{◌≡◌, ℤ, Bool, true, false, cond, [], ◌∷◌, Option, Some, None, refl, sym, ap, subst, ◌∙◌}
use Rattle.std.specs.Prelude.{◌&&◌, filter, option_and_then}
use Rattle.std.specs.Option.{option_map}
use Rattle.std.specs.FinMap.Entries.{find-where_key}
use Rattle.values.specs.declared.key.Key.{Key}
use Rattle.values.specs.declared.period.Period.{Period}
use Rattle.values.specs.declared.table.Table.{Table}
use Rattle.values.specs.Entity.{entity_of, unit_of}
use Rattle.values.specs.Log.{Row, State, last, row_at}
use Rattle.values.specs.Order.{is_key, key_cmp}
use Rattle.values.specs.Period.{Periods, periods_of, span_of}
use Rattle.values.specs.Times.{is_time_of}
use Rattle.values.specs.Tables.{Schema, full_row, table_at}
use Rattle.values.proofs.LogMaps.{lookup-find, same_map}
use Rattle.values.proofs.LogStates.{state_matches}
use Rattle.values.proofs.OrderTotal.{key_cmp-IsAntisymmetric, key_cmp_total}
use Rattle.steps.specs.declared.step.Step.TheVariants.{Commit}
use Rattle.periods.specs.Point.{is_row_then, outside, point, row_then}
use Rattle.periods.proofs.NoOverlapApart.{one_key}
use Rattle.histories.specs.CommitLaw.{TouchedPointsAreSeen, Touches, UntouchedPointsStay, committed}
use Rattle.histories.specs.History.{History, log, mine, schema_after}
use Rattle.histories.proofs.CommitLawRows.{touched_rows_are_seen, untouched_rows_stay}
use Rattle.histories.proofs.ConflictOrder.{own_ordered}
use Rattle.histories.proofs.HistoryGrowth.{log_rises}
use Rattle.histories.proofs.HistorySorted.{Sorted, sorted_filtered}
use Rattle.histories.proofs.HistoryTables.{periods_stay}

-- ---- the rows of one entity

abbrev is_of : Key → Key → Bool
is_of entity k = is_key entity (entity_of k)

abbrev rows_of : Key → State → State
rows_of entity m = filter (λ e. is_of entity e.0) m

row_of : (entity : Key) (m : State) (q : Key) → row_at (rows_of entity m) q ≡ cond (is_of entity q) (row_at m q) None
row_of entity m q =
    lookup-find key_cmp q (rows_of entity m)
    ∙ find-where_key key_cmp (is_of entity) q (λ x e. ap (is_of entity) (sym (key_cmp-IsAntisymmetric q x e))) m
    ∙ ap (λ (r : Option Row). cond (is_of entity q) r None) (sym (lookup-find key_cmp q m))

then_of : (p : Period) (entity : Key) (time : ℤ) (m : State) → row_then p entity time (rows_of entity m) ≡ row_then p entity time m
then_of p entity time [] = refl
then_of p entity time (e ∷ m) = by (is_of entity e.0) refl (then_of p entity time m)
  where
    by : (b : Bool) → is_of entity e.0 ≡ b → row_then p entity time (rows_of entity m) ≡ row_then p entity time m
        → row_then p entity time (cond b (e ∷ rows_of entity m) (rows_of entity m)) ≡ row_then p entity time (e ∷ m)
    by true is rest = ap (λ (r : Option (Key × Row)). cond (is_row_then p entity time e) (Some e) r) rest
    by false is rest = rest ∙ sym (ap (λ b. cond (b && is_time_of (span_of p e.1) time) (Some e) (row_then p entity time m)) is)

-- rows that have the same at each key of the entity have the same points of it
same_points : (table : Table) (p : Period) (entity : Key) (time : ℤ) (m n : State) → Sorted m → Sorted n → ((k : Key) → entity_of k ≡ entity → row_at m k ≡ row_at n k) → point table p m entity time ≡ point table p n entity time
same_points table p entity time m n sorted_m sorted_n same =
    ap (option_map (λ e. outside p (full_row table e.1)))
    (sym (then_of p entity time m) ∙ ap (row_then p entity time) one ∙ then_of p entity time n)
  where
    at : (k : Key) → cond (is_of entity k) (row_at m k) None ≡ cond (is_of entity k) (row_at n k) None
    at k = by (is_of entity k) refl
      where
        by : (b : Bool) → is_of entity k ≡ b → cond b (row_at m k) None ≡ cond b (row_at n k) None
        by true is = same k (sym (one_key entity (entity_of k) is))
        by false is = refl

    one : rows_of entity m ≡ rows_of entity n
    one =
        same_map key_cmp_total key_cmp-IsAntisymmetric (rows_of entity m) (rows_of entity n)
        (sorted_filtered (λ e. is_of entity e.0) m sorted_m) (sorted_filtered (λ e. is_of entity e.0) n sorted_n)
        (λ k. row_of entity m k ∙ at k ∙ sym (row_of entity n k))

-- ---- of what is committed

committed_sorted : (first : Schema) (h : History) → Sorted (committed first h)
committed_sorted first h = (state_matches (log first h) (last (log first h)) (log_rises first h)).by_key

-- in a table with a period the unit of a key is its entity
entity_is : (first : Schema) (h : History) (table : Table) (p : Period) (entity k : Key) → table_at (schema_after first h) entity.table ≡ Some table → table.period ≡ Some p → entity_of k ≡ entity → entity ≡ unit_of (periods_of first) k
entity_is first h table p entity k found is own = sym own ∙ sym (ap (λ (q : Option Period). elim q as (λ _. Key) [ None ↦ k | Some _ ↦ entity_of k ]) has)
  where
    has : periods_of first k.table ≡ Some p
    has =
        ap (periods_of first) (ap (λ (l : Key). l.table) own)
        ∙ ap (λ (ps : Periods). ps entity.table) (sym (periods_stay first h))
        ∙ ap (option_and_then (λ t. t.period)) found ∙ is

pub touched_points_are_seen : (first : Schema) → TouchedPointsAreSeen first
touched_points_are_seen first h i reading t committed_at table p entity time found is touches =
    same_points table p entity time (committed first (Commit i reading ∷ h)) (mine first h i) (committed_sorted first (Commit i reading ∷ h)) (own_ordered first h i).rows
    (λ k own. touched_rows_are_seen first h i reading t committed_at k (subst (Touches first h i) (entity_is first h table p entity k found is own) touches))

pub untouched_points_stay : (first : Schema) → UntouchedPointsStay first
untouched_points_stay first h i reading t committed_at table p entity time found is not_touched =
    same_points table p entity time (committed first (Commit i reading ∷ h)) (committed first h) (committed_sorted first (Commit i reading ∷ h)) (committed_sorted first h)
    (λ k own. untouched_rows_stay first h i reading t committed_at k (λ touches. not_touched (subst (Touches first h i) (sym (entity_is first h table p entity k found is own)) touches)))
