use Rattle.std.proofs.Common.{ap, ◌∙◌, subst}
use Rattle.keyrange.specs.Rect.{IsArea}
use Rattle.datanode.specs.Cut.{cut}
use Rattle.datanode.specs.Node.{Node}
use Rattle.datanode.proofs.CutParts.{map_of_cut, whole_of_cut, part_of_map}
use Rattle.datanode.proofs.node.DataNode.part.Goals as goal

pub node_of-requires-clause-map : goal.node_of-requires-clause-map
node_of-requires-clause-map c = map_of_cut c.args.rect c.self.inside.events.items c.in_ok-events.events.items c.self.invariant.ordered (c.in_ok-events.ensures.ok ∙ ap (cut c.args.rect) c.deref.ensures.value)

pub node_of-requires-clause-whole : goal.node_of-requires-clause-whole
node_of-requires-clause-whole c =
    whole_of_cut c.args.rect c.self.inside.events.items c.in_ok-events.events.items (subst IsArea c.rect.view_is c.rect.invariant) (c.in_ok-events.ensures.ok ∙ ap (cut c.args.rect) c.deref.ensures.value)

pub returns-clause-of_map : goal.returns-clause-of_map
returns-clause-of_map c =
    part_of_map c.args.self.now c.args.rect c.node_of.result (subst IsArea c.rect.view_is c.rect.invariant) c.requires
    (c.node_of.ensures ∙ ap (λ l. record { rect = c.args.rect; events = l }) (c.in_ok-events.ensures.ok ∙ ap (cut c.args.rect) c.deref.ensures.value ∙ ap (λ (n : Node). cut c.args.rect n.events) c.self.view_is))
