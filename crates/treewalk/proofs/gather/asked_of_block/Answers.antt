use Rattle.std.proofs.Common.{◌≡◌, sym, ap, subst, ◌∙◌}
use Rattle.std.specs.Prelude.{◌&&◌, nat_le}
use Rattle.std.specs.List.Sorted.{IsStrictlySortedBy}
use Rattle.std.proofs.lemmas.List.Kept.{IsStrictlySortedBy-filter}
use Rattle.std.proofs.lemmas.Result.{IfOk-weaker}
use Rattle.values.specs.Events.{event_cmp}
use Rattle.keyrange.specs.Range.{is_key_in}
use Rattle.eventlist.specs.Listing.{standing}
use Rattle.treewalk.specs.declared.gather.Query.{Query}
use Rattle.treewalk.specs.Gather.{asked}
use Rattle.treewalk.proofs.LeafStanding.{standing_early}
use Rattle.treewalk.proofs.gather.asked_of_block.Goals as goal

pub standing-requires : goal.standing-requires
standing-requires g c =
    subst (IsStrictlySortedBy event_cmp) (sym (c.deref.ensures.value ∙ c.in_ok-events-in-At.ensures.ok))
    (IsStrictlySortedBy-filter event_cmp (λ e. is_key_in c.args.range.now e.key && (nat_le 0 e.at && nat_le e.at c.in-At.instant)) c.args.block.now.node.events c.bytes-bytes.ensures.block.held.node.ordered)

pub returns-in_ok-events-in-At-clause-ok : goal.returns-in_ok-events-in-At-clause-ok
returns-in_ok-events-in-At-clause-ok g c =
    IfOk-weaker c.standing.result (λ v. v.items ≡ standing c.deref.result.now (is_key_in c.args.range.now) c.in-At.instant) (λ v. v.items ≡ asked c.args.query c.args.range.now c.args.block.now.node.events)
    (λ v are. are ∙ ap (λ es. standing es (is_key_in c.args.range.now) c.in-At.instant) (c.deref.ensures.value ∙ c.in_ok-events-in-At.ensures.ok) ∙ standing_early c.args.block.now.node.events c.args.range.now c.in-At.instant ∙ ap (λ (q : Query). asked q c.args.range.now c.args.block.now.node.events) (sym c.in-At.is))
    c.standing.ensures.ok
