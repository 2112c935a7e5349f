use Rattle.std.proofs.Common.{subst}
use Rattle.treenodes.specs.Sound.{IsSound}
use Rattle.tsbtree.specs.View.{TreeState}
use Rattle.tsbtree.proofs.ViewLeaf.{none_after}
use Rattle.tsbtree.proofs.view.View.last.Goals as goal

pub returns-clause-upto : goal.returns-clause-upto
returns-clause-upto c =
    none_after c.args.self.now c.self.inside.last (subst (λ (s : TreeState). IsSound s.nodes c.self.inside.last) c.self.view_is c.self.invariant.sound)
