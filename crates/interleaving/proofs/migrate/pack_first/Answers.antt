use Rattle.std.proofs.Common.{None, subst, ◌∙◌}
use Rattle.std.specs.Prelude.{MatchOption}
use Rattle.treenodes.specs.Node.{TreeNode, data_node}
use Rattle.treenodes.specs.Backlog.{IsWaiting, IsFirstWaiting}
use Rattle.tsbtree.specs.View.{TreeState}
use Rattle.interleaving.proofs.MigrateFirst.{none_found}
use Rattle.interleaving.proofs.migrate.pack_first.Goals as goal

pub returns-in_default-clause-packed : goal.returns-in_default-clause-packed
returns-in_default-clause-packed c =
    none_found c.args.engine.now c.in_ok-job.field-0 c.in_default.not-Some
    (subst (λ (t : TreeState). MatchOption c.in_ok-job.field-0 ((p : TreeNode) → IsWaiting t.nodes None p → ⊥) (λ n. IsFirstWaiting t.nodes None (data_node n))) (c.current.ensures.is ∙ c.tree.ensures.is) c.in_ok-job.ensures.ok)
