-- What is shown of the events in a window is what the query selects.
use Rattle.std.proofs.Common.{◌≡◌, ℕ, ◌≤◌, ◌<◌, Bool, true, false, cond, ◌&&◌, List, [], ◌∷◌, Option, Some, refl, sym, ap, subst, ◌∙◌, arith, nat_le, nat_lt, filter, All}
use Rattle.std.proofs.lemmas.Bool.Decides.{nat_tests}
use Rattle.std.proofs.lemmas.Bool.{and_parts}
use Rattle.std.proofs.lemmas.List.Elements.{All-from_recursion, recursion_from_All}
use Rattle.std.proofs.lemmas.List.Kept.{IsStrictlySortedBy-filter}
use Rattle.std.specs.List.{AllByRecursion, cons_option}
use Rattle.std.specs.List.Sorted.{IsStrictlySortedBy}
use Rattle.std.specs.Ordering.{is_eq, ordering_reverse}
use Rattle.std.specs.declared.cmp.Ordering.{Ordering}
use Rattle.std.specs.declared.cmp.Ordering.TheVariants.{Less, Equal, Greater}
use Rattle.values.specs.Event.{Event}
use Rattle.values.specs.declared.table.Table.{Table}
use Rattle.values.specs.declared.query.Form.{Form}
use Rattle.values.specs.declared.query.Form.TheVariants.{Plain, AsOf, FromTo, Between}
use Rattle.values.specs.declared.query.Keys.{Keys}
use Rattle.values.specs.declared.query.Shown.{Shown}
use Rattle.values.specs.Log.{Changes}
use Rattle.values.specs.Tables.{Schema, table_at}
use Rattle.values.specs.Versions.{selects, ends_after, answer}
use Rattle.values.specs.Events.{event_cmp, events_of, is_bytes, later}
use Rattle.values.specs.KeyEncoding.{bytes_of_key}
use Rattle.values.specs.Order.{key_cmp}
use Rattle.values.proofs.OrderTotal.{key_cmp_total}
use Rattle.values.specs.declared.key.Key.{Key}
use Rattle.searchrange.specs.OnlyKey.{IsOnly}
use Rattle.datanode.proofs.CutMembers.{filter_twice}
use Rattle.eventlist.specs.Listing.{is_in_window}
use Rattle.eventlist.proofs.PlaceOrder.{sorted_head, sorted_tail}
use Rattle.keyrange.specs.declared.range.KeyRange.{KeyRange}
use Rattle.keyrange.specs.Range.{is_key_in}
use Rattle.searchrange.specs.SearchRange.{range_of_table, Covers, IsWithin}
use Rattle.searchrange.specs.Search.{IsInSearch, is_taken}
use Rattle.staging.specs.Staged.{AreInSearch}
use Rattle.staging.specs.View.{Holds}
use Rattle.staging.proofs.ViewNarrowed.{in_search}
use Rattle.datanode.specs.NextChange.{event_after}
use Rattle.staging.specs.tsbtree.View.{TreeState, events}
use Rattle.systime_query.specs.Selection.{WhenShown, next_of, shown_of}
use Rattle.systime_query.specs.Window.{IsWindow, shown_in}
use Rattle.systime_query.proofs.StandingOne.{each_one, other_keys}
use Rattle.systime_query.proofs.SelectionShown.{not_taken, none_selected, next_kept, now_shown}
use Rattle.systime_query.proofs.SelectionVersions.{none_out, view_selected}
use Rattle.systime_query.proofs.WindowVersions.{all_kept, selected_in}

module _ (table : Table) (form : Form) (keys : Keys) (es : List Event) (z : ℕ) (p : List ℕ → Bool) where
  -- events that the query does not take show nothing
  kept_shown : (ds : List Event) → IsStrictlySortedBy event_cmp ds → AllByRecursion (λ e. p e.key ≡ false → is_taken table keys e.key ≡ false) ds → shown_in es z table form keys ds ≡ shown_in es z table form keys (filter (λ e. p e.key) ds)
  kept_shown [] sorted out = refl
  kept_shown (e ∷ ds) sorted out = by (p e.key) refl (kept_shown ds (sorted_tail event_cmp e ds sorted) out.1)
    where
      by : (b : Bool) → p e.key ≡ b → shown_in es z table form keys ds ≡ shown_in es z table form keys (filter (λ e. p e.key) ds)
          → cons_option (shown_of table form keys e (later (next_of e ds) (event_after es z e.key))) (shown_in es z table form keys ds) ≡ shown_in es z table form keys (cond b (e ∷ filter (λ e. p e.key) ds) (filter (λ e. p e.key) ds))
      by true is more =
          λ i. cons_option (shown_of table form keys e (later (next_kept p e ds is (sorted_head event_cmp e ds sorted) (sorted_tail event_cmp e ds sorted) i) (event_after es z e.key))) (more i)
      by false is more = ap (λ o. cons_option o (shown_in es z table form keys ds)) (not_taken table form keys e (later (next_of e ds) (event_after es z e.key)) (out.0 is)) ∙ more

-- the one key that a search takes is in each range that has all that it takes
pub key_inside : (table : Table) (keys : Keys) (key : Key) (range : KeyRange) → IsOnly table keys key → Covers table keys range → is_key_in range (bytes_of_key key) ≡ true
key_inside table keys key range only covers = covers key only.own (only.takes key only.own ∙ level (key_cmp key key) (key_cmp_total.antisymm key key))
  where
    level : (o : Ordering) → o ≡ ordering_reverse o → is_eq o ≡ true
    level Less e = cc
    level Equal e = refl
    level Greater e = cc

module _ (view : TreeState) (table : Table) (keys : Keys) where
  -- of the view's events the query takes none whose key fails a test
  abbrev pub TakesOnly : (List ℕ → Bool) → Type 0
  TakesOnly p =
      (schema : Schema) (m : Changes) → Holds schema view m → table_at schema table.number ≡ Some table → keys.table ≡ table.number
      → AllByRecursion (λ e. p e.key ≡ false → is_taken table keys e.key ≡ false) (events view)

  pub only_in_range : (range : KeyRange) → Covers table keys range → TakesOnly (is_key_in range)
  only_in_range range covers schema m held is_table same = none_out view table keys range covers schema m held is_table

  pub only_of_key : (key : Key) → IsOnly table keys key → TakesOnly (is_bytes (bytes_of_key key))
  only_of_key key only schema m held is_table same =
      other_keys (bytes_of_key key) 0 table keys (events view)
      (subst (AllByRecursion (λ e. is_taken table keys e.key ≡ is_bytes (bytes_of_key key) e.key)) (sym held.events_are) (each_one schema table keys key only is_table same m held.keys))

  -- the events of a window are of the table
  window_in_search : (p : List ℕ → Bool) (a z : ℕ) (range : KeyRange) → ((k : List ℕ) → p k ≡ true → is_key_in range k ≡ true) → IsWithin range (range_of_table table.number) → (schema : Schema) (m : Changes) → Holds schema view m → table_at schema table.number ≡ Some table
      → AreInSearch table range (filter (λ e. is_in_window (events view) a z e && p e.key) (events view))
  window_in_search p a z range inside within schema m held is_table =
      subst (λ es. AreInSearch table range (filter (λ e. is_in_window es a z e && p e.key) es)) (sym held.events_are)
      (All-from_recursion (λ e. IsInSearch table range e.key) (filter (λ e. is_in_window (events_of m) a z e && p e.key) (events_of m))
      (in_search schema table range within is_table (λ e. is_in_window (events_of m) a z e && p e.key) (λ e h. inside e.key (and_parts (is_in_window (events_of m) a z e) (p e.key) h).1) m held.keys))

  pub within_is : (p : List ℕ → Bool) (form : Form) (a z : ℕ) (range : KeyRange) (found : List Event) (shown : List Shown) → TakesOnly p → ((k : List ℕ) → p k ≡ true → is_key_in range k ≡ true) → a ≤ z → IsWindow form a z → IsWithin range (range_of_table table.number) → IsStrictlySortedBy event_cmp (events view)
      → found ≡ filter (λ e. is_in_window (events view) a z e && p e.key) (events view) → (AreInSearch table range found → shown ≡ shown_in (events view) z table form keys found) → WhenShown view table keys (λ m. shown ≡ answer m table form keys)
  within_is p form a z range found shown out inside le window within sorted are is = λ schema m held is_table same.
      let in_window : List Event = filter (is_in_window (events view) a z) (events view) in
      is (subst (AreInSearch table range) (sym are) (window_in_search p a z range inside within schema m held is_table))
      ∙ ap (shown_in (events view) z table form keys) (are ∙ sym (filter_twice (is_in_window (events view) a z) (λ e. p e.key) (events view)))
      ∙ sym (kept_shown table form keys (events view) z p in_window (IsStrictlySortedBy-filter event_cmp (is_in_window (events view) a z) (events view) sorted)
      (all_kept (λ e. p e.key ≡ false → is_taken table keys e.key ≡ false) (is_in_window (events view) a z) (events view) (out schema m held is_table same)))
      ∙ sym (selected_in a z le table form keys window (events view) sorted)
      ∙ view_selected view table keys form schema m held is_table same

  pub current_is : (last : ℕ) (shown : List Shown) → All (λ e. e.at ≤ last) (events view) → WhenShown view table keys (λ m. shown ≡ answer m table (AsOf last) keys) → WhenShown view table keys (λ m. shown ≡ answer m table Plain keys)
  current_is last shown upto h = λ schema m held is_table same.
      h schema m held is_table same ∙ sym (view_selected view table keys (AsOf last) schema m held is_table same)
      ∙ now_shown table last keys (events view) (recursion_from_All (λ (e : Event). e.at ≤ last) (events view) upto)
      ∙ view_selected view table keys Plain schema m held is_table same

  pub nothing_is : (form : Form) (shown : List Shown) → shown ≡ [] → ((from : ℕ) (to : Option ℕ) → selects form from to ≡ false) → WhenShown view table keys (λ m. shown ≡ answer m table form keys)
  nothing_is form shown none h = λ schema m held is_table same.
      none ∙ sym (none_selected table form keys h (events view)) ∙ view_selected view table keys form schema m held is_table same

-- ---- forms that select nothing

pub empty_from : (a b : ℕ) → b ≤ a → (from : ℕ) (to : Option ℕ) → selects (FromTo a b) from to ≡ false
empty_from a b le from to = ap (λ c. (c && nat_lt from b) && ends_after to a) none
  where
    none : nat_lt a b ≡ false
    none = grind (arith, nat_tests)

pub empty_between : (a b : ℕ) → b < a → (from : ℕ) (to : Option ℕ) → selects (Between a b) from to ≡ false
empty_between a b lt from to = ap (λ c. (c && nat_le from b) && ends_after to a) none
  where
    none : nat_le a b ≡ false
    none = grind (arith, nat_tests)
