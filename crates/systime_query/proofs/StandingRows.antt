-- The events that stand at an instant show the rows that a query as of it does.
use Rattle.std.proofs.Common.{◌≡◌, ℕ, ◌<◌, ◌≤◌, Bool, true, false, cond, ◌&&◌, ◌||◌, not, List, [], ◌∷◌, Option, Some, None, refl, sym, ap, subst, ◌∙◌, arith, map, filter, filter_map, nat_le, nat_lt, is_some, All}
use Rattle.std.proofs.lemmas.Bool.Decides.{nat_tests}
use Rattle.std.proofs.lemmas.List.Elements.{recursion_from_All}
use Rattle.std.specs.List.{AllByRecursion, slice_get, cons_option, list_any}
use Rattle.std.specs.List.Sorted.{IsStrictlySortedBy}
use Rattle.std.specs.Option.{option_map}
use Rattle.std.specs.declared.cmp.Ordering.TheVariants.{Less}
use Rattle.values.specs.Event.{Event}
use Rattle.values.specs.declared.table.Table.{Table}
use Rattle.values.specs.declared.query.Form.TheVariants.{Plain, AsOf}
use Rattle.values.specs.declared.query.Keys.{Keys}
use Rattle.values.specs.declared.query.Shown.{Shown}
use Rattle.values.specs.Law.{shown_rows}
use Rattle.values.specs.Log.{Changes, Row}
use Rattle.values.specs.Tables.{Schema, table_at, full_row}
use Rattle.values.specs.Versions.{ends_after}
use Rattle.values.specs.Events.{is_bytes, event_cmp}
use Rattle.keyrange.specs.declared.range.KeyRange.{KeyRange}
use Rattle.keyrange.specs.Range.{is_key_in}
use Rattle.eventlist.specs.Overtaking.{overtakes}
use Rattle.eventlist.specs.Listing.{stands_at, standing}
use Rattle.eventlist.specs.Overtaking.{is_overtaken}
use Rattle.eventlist.proofs.PlaceOrder.{sorted_head, sorted_tail, same_bytes, is_lower}
use Rattle.eventlist.proofs.OvertakingNext.{not_earlier, stands_is}
use Rattle.staging.specs.tsbtree.View.{TreeState, events}
use Rattle.searchrange.specs.SearchRange.{range_of_table, Covers, IsWithin}
use Rattle.staging.specs.Staged.{AreInSearch}
use Rattle.staging.specs.View.{Holds}
use Rattle.staging.proofs.StagedCalls.{stand_in_search}
use Rattle.searchrange.specs.Search.{is_taken, row_taken}
use Rattle.systime_query.specs.Selection.{WhenShown, next_of, shown_of, selected_by}
use Rattle.systime_query.proofs.SelectionShown.{now_shown}
use Rattle.systime_query.proofs.SelectionVersions.{none_out, view_selected}

-- ---- an event, and those behind it

later_ones : (t : ℕ) (e : Event) (es ds : List Event) → AllByRecursion (λ d. event_cmp e d ≡ Less) ds → filter (stands_at (e ∷ es) t) ds ≡ filter (stands_at es t) ds
unfolding stands_at
later_ones t e es [] h = refl
later_ones t e es (d ∷ ds) h =
    λ i. cond (nat_le d.at t && (is_some d.row && not (not_earlier e d t h.0 i || list_any (overtakes d t) es))) (d ∷ later_ones t e es ds h.1 i) (later_ones t e es ds h.1 i)

-- the next event shows when a version ends
pub ends : (t : ℕ) (e : Event) (es : List Event) → AllByRecursion (λ d. event_cmp e d ≡ Less) es → not (is_overtaken e t (slice_get es 0)) ≡ ends_after (next_of e es) t
unfolding overtakes
ends t e [] h = refl
ends t e (d ∷ ds) h = by (is_bytes e.key d.key) refl
  where
    before : e.key ≡ d.key → nat_lt e.at d.at ≡ true
    before same = let lt : e.at < d.at = (is_lower e d h.0).same same in grind (arith, nat_tests)

    turned : (n : ℕ) → not (nat_le n t) ≡ nat_lt t n
    turned n = grind (arith, nat_tests)

    by : (b : Bool) → is_bytes e.key d.key ≡ b → not (is_bytes e.key d.key && (nat_lt e.at d.at && nat_le d.at t)) ≡ ends_after (cond (is_bytes e.key d.key) (Some d.at) None) t
    by false is = (λ i. not (is i && (nat_lt e.at d.at && nat_le d.at t))) ∙ sym (ap (λ b. ends_after (cond b (Some d.at) None) t) is)
    by true is =
        (λ i. not (is i && (before (same_bytes e.key d.key is) i && nat_le d.at t)))
        ∙ turned d.at
        ∙ sym (ap (λ b. ends_after (cond b (Some d.at) None) t) is)

mapped : (o : Option Shown) (ss : List Shown) → map (λ s. s.row) (cons_option o ss) ≡ cons_option (option_map (λ s. s.row) o) (map (λ s. s.row) ss)
mapped None ss = refl
mapped (Some s) ss = refl

module _ (table : Table) (keys : Keys) (t : ℕ) where
  abbrev sel : List Event → List Shown
  sel es = selected_by table (AsOf t) keys es

  first_row : (e : Event) (es : List Event) → IsStrictlySortedBy event_cmp (e ∷ es) → option_map (λ s. s.row) (shown_of table (AsOf t) keys e (next_of e es)) ≡ cond (stands_at (e ∷ es) t e) (row_taken table keys e) None
  first_row e es sorted =
      by e.row
      ∙ ap (λ b. cond (nat_le e.at t && (is_some e.row && b)) (row_taken table keys e) None) (sym (ends t e es (sorted_head event_cmp e es sorted)))
      ∙ ap (λ b. cond b (row_taken table keys e) None) (sym (stands_is (e ∷ es) 0 e t sorted refl))
    where
      by : (row : Option Row) → option_map (λ (s : Shown). s.row) (elim row [
        | None ↦ None
        | Some row ↦ cond ((nat_le e.at t && ends_after (next_of e es) t) && is_taken table keys e.key) (Some (record { row = full_row table row; from = e.at; to = next_of e es })) None
      ]) ≡ cond (nat_le e.at t && (is_some row && ends_after (next_of e es) t)) (cond (is_taken table keys e.key) (option_map (full_row table) row) None) None
      by None = nothing (nat_le e.at t) (is_taken table keys e.key)
        where
          nothing : (a k : Bool) → ◌≡◌ {A = Option Row} None (cond (a && false) (cond k None None) None)
          nothing true k = refl
          nothing false k = refl
      by (Some row) = some (nat_le e.at t) (ends_after (next_of e es) t) (is_taken table keys e.key)
        where
          some : (a x k : Bool) → option_map (λ (s : Shown). s.row) (cond ((a && x) && k) (Some (record { row = full_row table row; from = e.at; to = next_of e es })) None) ≡ cond (a && (true && x)) (cond k (Some (full_row table row)) None) None
          some true true true = refl
          some true true false = refl
          some true false k = refl
          some false x k = refl

  pub kept : (e : Event) (fs : List Event) (b : Bool) → filter_map (row_taken table keys) (cond b (e ∷ fs) fs) ≡ cons_option (cond b (row_taken table keys e) None) (filter_map (row_taken table keys) fs)
  kept e fs true = refl
  kept e fs false = refl

  -- the rows of what a query as of the instant selects are those of the events that stand
  pub selected_stand : (es : List Event) → IsStrictlySortedBy event_cmp es → map (λ s. s.row) (sel es) ≡ filter_map (row_taken table keys) (filter (stands_at es t) es)
  selected_stand [] sorted = refl
  selected_stand (e ∷ es) sorted =
      mapped (shown_of table (AsOf t) keys e (next_of e es)) (sel es)
      ∙ (λ i. cons_option (first_row e es sorted i) (selected_stand es (sorted_tail event_cmp e es sorted) i))
      ∙ sym (kept e (filter (stands_at es t) es) (stands_at (e ∷ es) t e))
      ∙ ap (λ fs. filter_map (row_taken table keys) (cond (stands_at (e ∷ es) t e) (e ∷ fs) fs)) (sym (later_ones t e es es (sorted_head event_cmp e es sorted)))

  -- events that the query does not take show nothing
  pub narrowed : (p : List ℕ → Bool) → (es ds : List Event) → AllByRecursion (λ e. p e.key ≡ false → is_taken table keys e.key ≡ false) ds
      → filter_map (row_taken table keys) (filter (λ e. p e.key && stands_at es t e) ds) ≡ filter_map (row_taken table keys) (filter (stands_at es t) ds)
  narrowed p es [] out = refl
  narrowed p es (e ∷ ds) out =
      kept e (filter (λ e. p e.key && stands_at es t e) ds) (p e.key && stands_at es t e)
      ∙ (λ i. cons_option (one (p e.key) (stands_at es t e) refl i) (narrowed p es ds out.1 i))
      ∙ sym (kept e (filter (stands_at es t) ds) (stands_at es t e))
    where
      one : (b s : Bool) → p e.key ≡ b → cond (b && s) (row_taken table keys e) None ≡ cond s (row_taken table keys e) None
      one true s is = refl
      one false true is = sym (ap (λ k. cond k (option_map (full_row table) e.row) None) (out.0 is))
      one false false is = refl

-- ---- what a view shows at an instant

module _ (view : TreeState) (table : Table) (keys : Keys) (rows : List Row) (found : List Event) where
  -- the rows are those of the events that a call listed of a search range
  pub record AreOfStanding (range : KeyRange) (t : ℕ) : Type 0 where
    pub sorted : IsStrictlySortedBy event_cmp (events view)
    pub rows_are : AreInSearch table range found → rows ≡ filter_map (row_taken table keys) found
    pub stand : found ≡ standing (events view) (is_key_in range) t
    pub covers : Covers table keys range
    pub within : IsWithin range (range_of_table table.number)

  -- they are of the table
  inside : (range : KeyRange) (t : ℕ) (schema : Schema) (m : Changes) → AreOfStanding range t → Holds schema view m → table_at schema table.number ≡ Some table → AreInSearch table range found
  inside range t schema m h held is_table = subst (AreInSearch table range) (sym h.stand) (stand_in_search schema table range view t m h.within is_table held)

  selected : (range : KeyRange) (t : ℕ) → AreOfStanding range t → AreInSearch table range found → AllByRecursion (λ e. is_key_in range e.key ≡ false → is_taken table keys e.key ≡ false) (events view) → rows ≡ map (λ s. s.row) (selected_by table (AsOf t) keys (events view))
  selected range t h own out =
      h.rows_are own ∙ ap (filter_map (row_taken table keys)) h.stand
      ∙ narrowed table keys t (is_key_in range) (events view) (events view) out
      ∙ sym (selected_stand table keys t (events view) h.sorted)

  pub shown_at : (range : KeyRange) (t : ℕ) → AreOfStanding range t → WhenShown view table keys (λ m. rows ≡ shown_rows m table (AsOf t) keys)
  shown_at range t h = λ schema m held is_table same.
      selected range t h (inside range t schema m h held is_table) (none_out view table keys range h.covers schema m held is_table) ∙ ap (map (λ s. s.row)) (view_selected view table keys (AsOf t) schema m held is_table same)

  pub shown_now : (range : KeyRange) (last : ℕ) → AreOfStanding range last → All (λ e. e.at ≤ last) (events view) → WhenShown view table keys (λ m. rows ≡ shown_rows m table Plain keys)
  shown_now range last h upto = λ schema m held is_table same.
      selected range last h (inside range last schema m h held is_table) (none_out view table keys range h.covers schema m held is_table)
      ∙ ap (map (λ s. s.row)) (now_shown table last keys (events view) (recursion_from_All (λ (e : Event). e.at ≤ last) (events view) upto) ∙ view_selected view table keys Plain schema m held is_table same)
