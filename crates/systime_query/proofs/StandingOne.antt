-- Of one key the row at an instant is what a query as of it shows.
use Rattle.std.proofs.Common.{◌≡◌, ℕ, ◌<◌, ◌≤◌, Bool, true, false, cond, ◌&&◌, ◌||◌, not, List, [], ◌∷◌, Option, Some, None, refl, sym, ap, subst, ◌∙◌, arith, map, filter, filter_map, nat_le, nat_lt, is_some, All}
use Rattle.std.specs.Prelude.{option_and_then}
use Rattle.std.proofs.lemmas.Bool.Decides.{nat_tests}
use Rattle.std.proofs.lemmas.List.Elements.{All-head, All-tail, recursion_from_All}
use Rattle.std.specs.List.{AllByRecursion, cons_option, list_any}
use Rattle.std.specs.List.Sorted.{IsStrictlySortedBy}
use Rattle.std.specs.Map.{keys_of}
use Rattle.std.specs.Option.{option_map}
use Rattle.std.specs.declared.cmp.Ordering.TheVariants.{Less}
use Rattle.values.specs.Event.{Event}
use Rattle.values.specs.declared.key.Key.{Key}
use Rattle.values.specs.declared.key.Point.{Point}
use Rattle.values.specs.declared.table.Table.{Table}
use Rattle.values.specs.declared.query.Form.TheVariants.{Plain, AsOf}
use Rattle.values.specs.declared.query.Keys.{Keys}
use Rattle.values.specs.Law.{shown_rows}
use Rattle.values.specs.Log.{Changes, Row}
use Rattle.values.specs.Tables.{Schema, table_at, full_row}
use Rattle.values.specs.KeyEncoding.{bytes_of_key}
use Rattle.values.specs.Events.{is_bytes, event_cmp, events_of, IsKeyIn, AreChangesIn, later, event_until, row_until}
use Rattle.values.proofs.EventKeys.{same_key}
use Rattle.eventlist.specs.Overtaking.{overtakes}
use Rattle.eventlist.specs.Listing.{stands_at}
use Rattle.eventlist.proofs.PlaceOrder.{sorted_head, sorted_tail, same_bytes, is_lower}
use Rattle.eventlist.proofs.OvertakingNext.{not_earlier}
use Rattle.staging.specs.tsbtree.View.{TreeState, events}
use Rattle.searchrange.specs.OnlyKey.{IsOnly}
use Rattle.searchrange.specs.Search.{is_taken, row_taken}
use Rattle.staging.specs.View.{Holds}
use Rattle.staging.proofs.StagedOne.{is_one}
use Rattle.staging.proofs.ViewBridge.{key_in}
use Rattle.systime_query.specs.Selection.{WhenShown, selected_by}
use Rattle.systime_query.proofs.SelectionShown.{now_shown}
use Rattle.systime_query.proofs.SelectionVersions.{taken_is, view_selected}
use Rattle.systime_query.proofs.StandingRows.{kept, selected_stand, narrowed}

-- ---- of a key's events in order the last one until an instant stands at it

module _ (k : List ℕ) (t : ℕ) where
  abbrev of_key : List Event → List Event → List Event
  of_key es ds = filter (λ e. is_bytes k e.key && stands_at es t e) ds

  later_ones : (e : Event) (es ds : List Event) → AllByRecursion (λ d. event_cmp e d ≡ Less) ds → of_key (e ∷ es) ds ≡ of_key es ds
  unfolding stands_at
  later_ones e es [] h = refl
  later_ones e es (d ∷ ds) h =
      λ i. cond (is_bytes k d.key && (nat_le d.at t && (is_some d.row && not (not_earlier e d t h.0 i || list_any (overtakes d t) es)))) (d ∷ later_ones e es ds h.1 i) (later_ones e es ds h.1 i)

  overtaken : (e : Event) (ds : List Event) → k ≡ e.key → AllByRecursion (λ d. event_cmp e d ≡ Less) ds → list_any (overtakes e t) ds ≡ is_some (event_until ds k t)
  unfolding overtakes
  overtaken e [] own h = refl
  overtaken e (d ∷ ds) own h =
      (λ i. one (is_bytes e.key d.key) refl i || overtaken e ds own h.1 i)
      ∙ ap (λ key. (is_bytes key d.key && nat_le d.at t) || is_some (event_until ds k t)) (sym own)
      ∙ either (is_bytes k d.key && nat_le d.at t) (event_until ds k t)
    where
      one : (b : Bool) → is_bytes e.key d.key ≡ b → (is_bytes e.key d.key && (nat_lt e.at d.at && nat_le d.at t)) ≡ (is_bytes e.key d.key && nat_le d.at t)
      one false is = (λ i. is i && (nat_lt e.at d.at && nat_le d.at t)) ∙ sym (ap (λ b. b && nat_le d.at t) is)
      one true is = ap (λ b. is_bytes e.key d.key && (b && nat_le d.at t)) before
        where
          before : nat_lt e.at d.at ≡ true
          before = let lt : e.at < d.at = (is_lower e d h.0).same (same_bytes e.key d.key is) in grind (arith, nat_tests)

      either : (b : Bool) (o : Option Event) → (b || is_some o) ≡ is_some (later o (cond b (Some d) None))
      either true None = refl
      either true (Some x) = refl
      either false None = refl
      either false (Some x) = refl

  own_stands : (e : Event) (es : List Event) → k ≡ e.key → AllByRecursion (λ d. event_cmp e d ≡ Less) es → stands_at (e ∷ es) t e ≡ (nat_le e.at t && (is_some e.row && not (is_some (event_until es k t))))
  unfolding stands_at overtakes
  own_stands e es own h =
      λ i. nat_le e.at t && (is_some e.row && not (itself (is_bytes e.key e.key) e.at i || overtaken e es own h i))
    where
      itself : (b : Bool) (n : ℕ) → (b && (nat_lt n n && nat_le n t)) ≡ false
      itself false n = refl
      itself true n = ap (λ b. b && nat_le n t) (none n)
        where
          none : (n : ℕ) → nat_lt n n ≡ false
          none n = grind (arith, nat_tests)

  -- ---- so its row is what is shown

  module _ (table : Table) (keys : Keys) where
    abbrev Taken : List Event → Type 0
    Taken es = AllByRecursion (λ e. is_taken table keys e.key ≡ is_bytes k e.key) es

    abbrev shown : Option Row → List Row
    shown row = cons_option (option_map (full_row table) row) []

    one_row : (es : List Event) → IsStrictlySortedBy event_cmp es → Taken es → filter_map (row_taken table keys) (of_key es es) ≡ shown (row_until es k t)
    one_row [] sorted h = refl
    one_row (e ∷ es) sorted h =
        kept table keys t e (of_key (e ∷ es) es) (is_bytes k e.key && stands_at (e ∷ es) t e)
        ∙ ap (λ ds. cons_option (cond (is_bytes k e.key && stands_at (e ∷ es) t e) (row_taken table keys e) None) (filter_map (row_taken table keys) ds)) (later_ones e es es above)
        ∙ by (is_bytes k e.key) refl (one_row es (sorted_tail event_cmp e es sorted) h.1)
      where
        above : AllByRecursion (λ d. event_cmp e d ≡ Less) es
        above = sorted_head event_cmp e es sorted

        rest : List Row
        rest = filter_map (row_taken table keys) (of_key es es)

        none_later : (o : Option Event) → o ≡ later o None
        none_later None = refl
        none_later (Some x) = refl

        last : (a : Bool) (o : Option Event) (row : Option Row) → e.row ≡ row → rest ≡ shown (option_and_then (λ e. e.row) o)
            → cons_option (cond (a && (is_some row && not (is_some o))) (option_map (full_row table) row) None) rest ≡ shown (option_and_then (λ e. e.row) (later o (cond a (Some e) None)))
        last false None row is r = r
        last false (Some x) row is r = r
        last true (Some x) None is r = r
        last true (Some x) (Some w) is r = r
        last true None None is r = r ∙ sym (ap shown is)
        last true None (Some w) is r = ap (λ l. full_row table w ∷ l) r ∙ sym (ap shown is)

        by : (b : Bool) → is_bytes k e.key ≡ b → rest ≡ shown (row_until es k t)
            → cons_option (cond (is_bytes k e.key && stands_at (e ∷ es) t e) (row_taken table keys e) None) rest
            ≡ shown (option_and_then (λ e. e.row) (later (event_until es k t) (cond (is_bytes k e.key && nat_le e.at t) (Some e) None)))
        by false is r =
            ap (λ b. cons_option (cond (b && stands_at (e ∷ es) t e) (row_taken table keys e) None) rest) is
            ∙ r
            ∙ ap (λ o. shown (option_and_then (λ e. e.row) o)) (none_later (event_until es k t))
            ∙ sym (ap (λ b. shown (option_and_then (λ e. e.row) (later (event_until es k t) (cond (b && nat_le e.at t) (Some e) None)))) is)
        by true is r =
            (λ i. cons_option (cond (is i && own_stands e es (same_bytes k e.key is) above i) (cond ((h.0 ∙ is) i) (option_map (full_row table) e.row) None) None) rest)
            ∙ last (nat_le e.at t) (event_until es k t) e.row refl r
            ∙ sym (ap (λ b. shown (option_and_then (λ e. e.row) (later (event_until es k t) (cond (b && nat_le e.at t) (Some e) None)))) is)

    pub other_keys : (es : List Event) → Taken es → AllByRecursion (λ e. is_bytes k e.key ≡ false → is_taken table keys e.key ≡ false) es
    other_keys [] h = tt
    other_keys (e ∷ es) h = (λ is. h.0 ∙ is, other_keys es h.1)

    pub selected_one : (es : List Event) → IsStrictlySortedBy event_cmp es → Taken es → shown (row_until es k t) ≡ map (λ s. s.row) (selected_by table (AsOf t) keys es)
    selected_one es sorted h =
        sym (one_row es sorted h)
        ∙ narrowed table keys t (is_bytes k) es es (other_keys es h)
        ∙ sym (selected_stand table keys t es sorted)

-- ---- the events that a search of one key takes are those of that key

module _ (schema : Schema) (table : Table) (keys : Keys) (key : Key) (only : IsOnly table keys key) (is_table : table_at schema table.number ≡ Some table) (of_table : keys.table ≡ table.number) where
  taken_one : (k : Key) → IsKeyIn schema k → is_taken table keys (bytes_of_key k) ≡ is_bytes (bytes_of_key key) (bytes_of_key k)
  taken_one k h =
      taken_is schema table Plain keys is_table of_table k h ∙ is_one schema table keys key only is_table of_table k h
      ∙ sym (same_key schema key k (key_in schema table key is_table only.own) h)

  pub each_one : (m : Changes) → AreChangesIn schema m → AllByRecursion (λ e. is_taken table keys e.key ≡ is_bytes (bytes_of_key key) e.key) (events_of m)
  each_one [] h = tt
  each_one (c ∷ cs) h =
      (taken_one c.0.key (All-head (λ (p : Point). IsKeyIn schema p.key) c.0 (keys_of cs) h), each_one cs (All-tail (λ (p : Point). IsKeyIn schema p.key) c.0 (keys_of cs) h))

-- ---- what a view shows of one key

module _ (view : TreeState) (table : Table) (keys : Keys) (key : Key) (rows : List Row) (only : IsOnly table keys key) (sorted : IsStrictlySortedBy event_cmp (events view)) where
  abbrev IsRow : ℕ → Type 0
  IsRow t = rows ≡ cons_option (option_map (full_row table) (row_until (events view) (bytes_of_key key) t)) []

  selected : (t : ℕ) → IsRow t → (schema : Schema) (m : Changes) → Holds schema view m → table_at schema table.number ≡ Some table → keys.table ≡ table.number → rows ≡ map (λ s. s.row) (selected_by table (AsOf t) keys (events view))
  selected t is schema m held is_table same =
      is
      ∙ selected_one (bytes_of_key key) t table keys (events view) sorted
      (subst (AllByRecursion (λ e. is_taken table keys e.key ≡ is_bytes (bytes_of_key key) e.key)) (sym held.events_are) (each_one schema table keys key only is_table same m held.keys))

  pub one_at : (t : ℕ) → IsRow t → WhenShown view table keys (λ m. rows ≡ shown_rows m table (AsOf t) keys)
  one_at t is = λ schema m held is_table same.
      selected t is schema m held is_table same ∙ ap (map (λ s. s.row)) (view_selected view table keys (AsOf t) schema m held is_table same)

  pub one_now : (last : ℕ) → IsRow last → All (λ e. e.at ≤ last) (events view) → WhenShown view table keys (λ m. rows ≡ shown_rows m table Plain keys)
  one_now last is upto = λ schema m held is_table same.
      selected last is schema m held is_table same
      ∙ ap (map (λ s. s.row)) (now_shown table last keys (events view) (recursion_from_All (λ (e : Event). e.at ≤ last) (events view) upto) ∙ view_selected view table keys Plain schema m held is_table same)
