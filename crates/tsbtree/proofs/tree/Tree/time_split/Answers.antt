use Rattle.std.proofs.Common.{sym, subst, ◌∙◌, ap}
use Rattle.treegrowth.specs.Leaves.{halves_upto}
use Rattle.treenodes.specs.Sound.{IsSound}
use Rattle.tsbtree.specs.View.{TreeState}
use Rattle.tsbtree.proofs.TreeSplit.{split_done}
use Rattle.tsbtree.proofs.tree.Tree.time_split.Goals as goal

pub returns-clause-split : goal.returns-clause-split
returns-clause-split c =
    split_done c.args.self.now c.nodes.result.now c.last-last.result (c.nodes.ensures.are ∙ ap (λ (s : TreeState). s.nodes) c.self.view_is) (c.last-last.ensures.last ∙ ap (λ (s : TreeState). s.latest) c.self.view_is)
    (subst (IsSound c.nodes.result.now) (sym c.last-last.ensures.last) c.nodes.ensures.sound) c.last-last.ensures.in_range c.args.key.now (λ t r. halves_upto t r c.args.instant) c.in_ok-nodes.nodes c.in_ok-nodes.ensures.split
    c.put.new.self c.put.result c.put.ensures
