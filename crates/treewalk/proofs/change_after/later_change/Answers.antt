use Rattle.std.proofs.Common.{refl, sym, ◌∙◌}
use Rattle.values.specs.Events.{event_until}
use Rattle.treewalk.specs.Leaf.{node_in}
use Rattle.treewalk.proofs.ChangeAfterShown.{known_leaf, last_leaf, at_last}
use Rattle.treewalk.proofs.change_after.later_change.Goals as goal

pub returns-then-is_known_in : goal.returns-then-is_known_in
returns-then-is_known_in c m holds =
    at_last m holds.ordered c.args.key.now c.args.after (node_in c.leaf-current.result.now)
    (known_leaf m holds.ordered c.args.key.now c.args.after 999999999999999999 (node_in c.leaf-current.result.now) c.leaf-current.ensures.point (c.leaf-current.ensures.cut m holds)
    (event_until (node_in c.leaf-current.result.now).events c.args.key.now c.args.after) refl (sym c.is_known_in.ensures ∙ c.if-is_known_in.true))
    c.next_change_in.result c.next_change_in.ensures
    (last_leaf (node_in c.leaf-current.result.now).rect c.args.key.now c.leaf-current.ensures.area c.leaf-current.ensures.point)
