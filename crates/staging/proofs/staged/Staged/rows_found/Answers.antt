use Rattle.std.proofs.Common.{rules, ◌≡◌, [], ap, filter, filter_map, subst, sym, ◌∙◌}
use Rattle.std.proofs.lemmas.Result.{IfOk-weaker}
use Rattle.std.specs.List.Sorted.{IsStrictlySortedBy}
use Rattle.std.specs.Map.{keys_of}
use Rattle.values.specs.Log.{Net, apply_net}
use Rattle.values.specs.RowsAfter.{rows_after}
use Rattle.values.specs.Order.{key_cmp}
use Rattle.values.specs.Versions.{matches}
use Rattle.keyrange.specs.Range.{is_key_in}
use Rattle.eventlist.specs.Listing.{standing}
use Rattle.searchrange.specs.SearchRange.{range_of_table, Covers, IsWithin}
use Rattle.searchrange.specs.Search.{entry_taken}
use Rattle.tsbtree.specs.View.{events}
use Rattle.staging.specs.Own.{WhenRead, rows_seen}
use Rattle.staging.specs.Staged.{row_alone, AreInSearch}
use Rattle.staging.proofs.StagedOne.{one_of_view}
use Rattle.staging.proofs.StagedCalls.{rows_of_view, stand_in_search, taken_of_view, taken_ordered}
use Rattle.staging.proofs.staged.Staged.rows_found.Goals as goal

pub returns-in-Some-clause-ok : goal.returns-in-Some-clause-ok
returns-in-Some-clause-ok c =
    let s = c.args.search.now in
    let w = c.args.self.now in
    IfOk-weaker c.row_alone.result (λ found. found.items ≡ row_alone (events c.args.view.now) c.last-last.result w c.in-Some.key.now)
    (λ found. WhenRead s.table c.args.view.now w (λ schema m. found.items ≡ filter (λ e. matches s.table s.keys e.0) (rows_seen m w)))
    (λ found is. λ schema m reads.
    is ∙ one_of_view schema s.table s.keys c.args.view.now c.last-last.result m w c.in-Some.key.now reads c.key.ensures.own (search rules) c.last-last.ensures.ordered c.last-last.ensures.upto c.row_alone.ensures.ordered) c.row_alone.ensures.ok

pub returns-clause-ok : goal.returns-clause-ok
returns-clause-ok c = λ schema m reads.
    let s = c.args.search.now in
    let stand : c.deref.result.now ≡ standing (events c.args.view.now) (is_key_in s.range) c.last-last.result =
    c.deref.ensures.value ∙ c.in_ok-standing.ensures.ok ∙ ap (λ r. standing (events c.args.view.now) (is_key_in r) c.last-last.result) c.in_ok-range.ensures.range in
    let within : IsWithin s.range (range_of_table s.table.number) = subst (λ r. IsWithin r (range_of_table s.table.number)) c.in_ok-range.ensures.range c.in_ok-range.ensures.within in
    let covers : Covers s.table s.keys s.range = subst (Covers s.table s.keys) c.in_ok-range.ensures.range c.in_ok-range.ensures.covers in
    let inside : AreInSearch s.table s.range c.deref.result.now = subst (AreInSearch s.table s.range) (sym stand) (stand_in_search schema s.table s.range c.args.view.now c.last-last.result m within reads.is_table reads.held) in
    let taken : c.in_ok-found.found.items ≡ filter (λ e. matches s.table s.keys e.0) (rows_after [] m) =
    c.in_ok-found.ensures.ok inside
    ∙ ap (filter_map (entry_taken s.table s.keys)) stand
    ∙ taken_of_view schema s.table s.keys s.range c.args.view.now c.last-last.result m c.args.self.now reads c.key.ensures.own covers c.last-last.ensures.ordered c.last-last.ensures.upto in
    c.in_ok-with_writes.ensures.put (taken_ordered s.table s.keys m c.in_ok-found.found.items taken)
    ∙ (λ i. apply_net c.in_ok-found.found.items (filter (λ w. matches (c.table.ensures.table i) (c.keys.ensures i) w.0) (c.self.view_is i)))
    ∙ rows_of_view s.table s.keys m c.args.self.now c.in_ok-found.found.items taken
    (subst (λ (w : Net). IsStrictlySortedBy key_cmp (keys_of w)) c.self.view_is c.in_ok-with_writes.ensures.ordered)
