use Rattle.std.proofs.Common.{◌≡◌, ◌∙◌, subst, rules, option_copied}
use Rattle.keyrange.specs.Rect.{IsArea}
use Rattle.eventlist.specs.Place.{last_event}
use Rattle.datanode.specs.Node.{Node}
use Rattle.datanode.proofs.NodeLast.{last_event_is, latest_of_map}
use Rattle.datanode.proofs.node.DataNode.latest.Goals as goal

pub returns-clause-of_map : goal.returns-clause-of_map
returns-clause-of_map c m is in_range =
    let last : option_copied c.last_event.result ≡ last_event c.args.self.now.events c.args.key.now = search rules in
    last ∙ last_event_is c.args.self.now.events c.args.key.now ∙ latest_of_map c.args.self.now.rect c.args.self.now.events m c.args.key.now (subst (λ (n : Node). IsArea n.rect) c.self.view_is c.self.invariant.area) is.ordered is.events_are in_range
