use Rattle.std.proofs.Common.{ap, ◌∙◌}
use Rattle.std.specs.List.{flat_map}
use Rattle.std.proofs.lemmas.List.{take_all}
use Rattle.treenodes.specs.Node.{TreeNode}
use Rattle.treewalk.proofs.LevelChildren.{index_there, index_is, children_in, children_more, children_are}
use Rattle.treewalk.proofs.LevelSteps.{level_down}
use Rattle.treewalk.proofs.level.level_below.Goals as goal

pub at-requires : goal.at-requires
at-requires c = index_there c.args.nodes.now c.args.numbers.now c.loop-number.number-index c.requires.indexes c.loop-number-test.true

pub index-requires : goal.index-requires
index-requires c = index_is c.args.nodes.now c.args.numbers.now c.loop-number.number-index c.at.result.now c.requires.indexes c.loop-number-test.true c.at.ensures

pub loop-number-preserved : goal.loop-number-preserved
loop-number-preserved c =
    children_more c.args.nodes.now c.args.rect.now c.args.numbers.now c.loop-number.next.items c.add_meeting.new.numbers.items c.loop-number.number-index c.at.result.now c.index.result.now c.loop-number-test.true c.at.ensures
    (ap (λ (n : TreeNode). n.content) c.index.ensures) c.loop-number.invariant c.in_ok-add_meeting.ensures.ok

pub returns-clause-ok : goal.returns-clause-ok
returns-clause-ok c level below above =
    level_down c.args.nodes.now c.requires.tree c.args.rect.now level c.args.numbers.now c.sort_numbers.new.numbers.items (below c.requires.tree.root.root c.requires.tree.root.first) above c.sort_numbers.ensures.ordered
    (children_are c.args.nodes.now c.requires.tree c.args.rect.now c.time-time.ensures.area c.args.numbers.now c.loop-number.next.items c.sort_numbers.new.numbers.items
    (c.loop-number.invariant ∙ ap (flat_map (children_in c.args.nodes.now c.args.rect.now)) (take_all c.loop-number.number-index c.args.numbers.now c.loop-number-test.false)) c.sort_numbers.ensures.same)
