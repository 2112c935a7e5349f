use Rattle.std.proofs.Common.{filter, sym, ap, ◌∙◌, nat_lt}
use Rattle.values.specs.Event.{Event}
use Rattle.keyrange.specs.Range.{is_key_in}
use Rattle.treenodes.specs.declared.node.Child.{Child}
use Rattle.treewalk.specs.Leaf.{node_in}
use Rattle.treewalk.specs.RangeChange.{latest_among, event_since_in}
use Rattle.treewalk.proofs.RangeChangeShown.{of_range_latest}
use Rattle.treewalk.proofs.range_change.change_in_leaf.Goals as goal

pub returns-in-Data-clause-ok : goal.returns-in-Data-clause-ok
returns-in-Data-clause-ok c =
    c.latest_above.ensures
    ∙ ap (latest_among (λ e. nat_lt c.args.start e.at)) (c.of_range.ensures.are ∙ ap (filter (λ (e : Event). is_key_in c.args.range.now e.key)) c.events.ensures.are)
    ∙ of_range_latest c.args.range.now c.args.start c.in-Data.node.events
    ∙ ap (λ (n : Child). event_since_in (node_in n).events c.args.start c.args.range.now) (sym c.in-Data.is)
