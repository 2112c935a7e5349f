use Rattle.std.proofs.Common.{ℕ, List, Option, subst}
use Rattle.std.specs.Prelude.{MatchOption}
use Rattle.datanode.specs.Node.{Node}
use Rattle.treenodes.specs.Node.{TreeNode}
use Rattle.tsbtree.specs.Packing.{IsHistorical, IsHistoricalAt}
use Rattle.tsbtree.proofs.view.View.historical.Goals as goal

pub returns-in-None : goal.returns-in-None
returns-in-None c =
    subst (λ (l : List TreeNode). (n : Node) → IsHistorical l c.args.rect.now n → ⊥) c.nodes.ensures.are
    (subst (λ (o : Option ℕ). MatchOption o ((n : Node) → IsHistorical c.nodes.result.now c.args.rect.now n → ⊥) (λ number. IsHistoricalAt c.nodes.result.now c.args.rect.now number)) c.in-None.is c.number_of.ensures)
