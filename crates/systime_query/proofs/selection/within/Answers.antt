use Rattle.std.proofs.Common.{◌≡◌, ◌&&◌, ◌∙◌, true, ap, filter, subst}
use Rattle.keyrange.specs.Range.{is_key_in}
use Rattle.eventlist.specs.Listing.{is_in_window}
use Rattle.eventlist.proofs.PlaceOrder.{same_bytes}
use Rattle.searchrange.specs.SearchRange.{range_of_table, Covers, IsWithin}
use Rattle.staging.specs.Staged.{AreInSearch}
use Rattle.staging.specs.tsbtree.View.{events}
use Rattle.staging.proofs.NetEvents.{weaker}
use Rattle.values.specs.Events.{is_bytes}
use Rattle.values.specs.KeyEncoding.{bytes_of_key}
use Rattle.systime_query.specs.Window.{shown_in}
use Rattle.systime_query.proofs.SelectionAnswered.{within_is, key_inside, only_in_range, only_of_key}
use Rattle.systime_query.proofs.selection.within.Goals as goal
use Rattle.systime_query.proofs.selection.within.Goals.{in-Some+in_ok-found-in-Some, in-None+in_ok-found-in-None}

pub key_events-requires-clause-inside : goal.key_events-requires-clause-inside
key_events-requires-clause-inside g c =
    key_inside c.args.search.now.table c.args.search.now.keys c.in-Some.key.now c.in_ok-range.range c.in-Some.ensures.only c.in_ok-range.ensures.covers

pub returns-clause-ok : goal.returns-clause-ok
returns-clause-ok g c = elim c.match-key.branch [
  | in-Some+in_ok-found-in-Some w ↦
      weaker c.shown_in.result
      (λ v is. within_is c.args.view.now c.args.search.now.table c.args.search.now.keys (is_bytes (bytes_of_key w.in-Some.key.now)) c.args.form c.args.first c.args.last c.args.search.now.range c.match-key.found.items v.items
      (only_of_key c.args.view.now c.args.search.now.table c.args.search.now.keys w.in-Some.key.now w.in-Some.ensures.only)
      (λ k same. subst (λ b. is_key_in c.args.search.now.range b ≡ true) (same_bytes (bytes_of_key w.in-Some.key.now) k same)
      (key_inside c.args.search.now.table c.args.search.now.keys w.in-Some.key.now c.args.search.now.range w.in-Some.ensures.only (subst (Covers c.args.search.now.table c.args.search.now.keys) c.in_ok-range.ensures.range c.in_ok-range.ensures.covers)))
      c.requires.order c.requires.window (subst (λ r. IsWithin r (range_of_table c.args.search.now.table.number)) c.in_ok-range.ensures.range c.in_ok-range.ensures.within) w.in_ok-found-in-Some.ensures.ordered
      (ap (λ f. f.items) w.found-is ∙ w.in_ok-found-in-Some.ensures.ok)
      (subst (λ es. AreInSearch c.args.search.now.table c.args.search.now.range es → v.items ≡ shown_in (events c.args.view.now) c.args.last c.args.search.now.table c.args.form c.args.search.now.keys es) c.deref.ensures.value is))
      c.shown_in.ensures.ok
  | in-None+in_ok-found-in-None w ↦
      weaker c.shown_in.result
      (λ v is. within_is c.args.view.now c.args.search.now.table c.args.search.now.keys (is_key_in c.args.search.now.range) c.args.form c.args.first c.args.last c.args.search.now.range c.match-key.found.items v.items
      (only_in_range c.args.view.now c.args.search.now.table c.args.search.now.keys c.args.search.now.range (subst (Covers c.args.search.now.table c.args.search.now.keys) c.in_ok-range.ensures.range c.in_ok-range.ensures.covers))
      (λ k inside. inside)
      c.requires.order c.requires.window (subst (λ r. IsWithin r (range_of_table c.args.search.now.table.number)) c.in_ok-range.ensures.range c.in_ok-range.ensures.within) w.in_ok-found-in-None.ensures.ordered
      (ap (λ f. f.items) w.found-is ∙ w.in_ok-found-in-None.ensures.ok ∙ ap (λ r. filter (λ e. is_in_window (events c.args.view.now) c.args.first c.args.last e && is_key_in r e.key) (events c.args.view.now)) c.in_ok-range.ensures.range)
      (subst (λ es. AreInSearch c.args.search.now.table c.args.search.now.range es → v.items ≡ shown_in (events c.args.view.now) c.args.last c.args.search.now.table c.args.form c.args.search.now.keys es) c.deref.ensures.value is))
      c.shown_in.ensures.ok
]
