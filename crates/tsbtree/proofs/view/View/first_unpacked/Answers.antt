use Rattle.std.proofs.Common.{List, Option, Bor, subst, option_copied}
use Rattle.std.specs.Prelude.{MatchOption}
use Rattle.treenodes.specs.Node.{TreeNode}
use Rattle.treenodes.specs.Backlog.{IsWaiting, IsFirstWaiting}
use Rattle.tsbtree.proofs.PackingFound.{has_block, first_data}
use Rattle.tsbtree.proofs.view.View.first_unpacked.Goals as goal

pub returns-in-None-clause-first : goal.returns-in-None-clause-first
returns-in-None-clause-first c =
    subst (λ (l : List TreeNode). (p : TreeNode) → IsWaiting l (option_copied c.args.after) p → ⊥) c.nodes.ensures.are
    (subst (λ (o : Option (Bor TreeNode)). MatchOption o ((p : TreeNode) → IsWaiting c.nodes.result.now (option_copied c.args.after) p → ⊥) (λ s. IsFirstWaiting c.nodes.result.now (option_copied c.args.after) s.now)) c.in-None.is c.first_unpacked.ensures)

pub returns-in-Some-clause-block : goal.returns-in-Some-clause-block
returns-in-Some-clause-block c =
    let nodes = c.nodes.result.now in
    let first = subst (λ (o : Option (Bor TreeNode)). MatchOption o ((p : TreeNode) → IsWaiting nodes (option_copied c.args.after) p → ⊥) (λ s. IsFirstWaiting nodes (option_copied c.args.after) s.now)) c.in-Some.is c.first_unpacked.ensures in
    has_block nodes _ c.nodes.ensures.sound c.data_node.result.now (option_copied c.args.after) (first_data nodes c.nodes.ensures.sound.kept.tree (option_copied c.args.after) c.in-Some.slot.now c.data_node.result.now first c.data_node.ensures)
