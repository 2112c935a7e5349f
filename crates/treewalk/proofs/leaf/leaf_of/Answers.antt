use Rattle.std.proofs.Common.{sym, ap, ◌∙◌}
use Rattle.std.proofs.lemmas.Option.{slice_get_within}
use Rattle.treenodes.specs.Node.{TreeNode, events_of}
use Rattle.std.specs.Prelude.{[], Option, Some, None}
use Rattle.treewalk.proofs.leaf.leaf_of.Goals as goal

pub at-requires : goal.at-requires
at-requires c = slice_get_within c.args.nodes.now c.args.number c.requires.node c.requires.there

pub returns-clause-events : goal.returns-clause-events
returns-clause-events c =
    sym (ap (λ (o : Option TreeNode). elim o [ None ↦ [] | Some n ↦ events_of n.content ]) c.at.ensures ∙ ap (λ (n : TreeNode). events_of n.content) c.child.ensures)

pub returns-clause-start : goal.returns-clause-start
returns-clause-start c =
    sym (ap (λ (o : Option TreeNode). elim o [ None ↦ 0 | Some n ↦ n.rect.time.from ]) c.at.ensures ∙ ap (λ (n : TreeNode). n.rect.time.from) c.child.ensures)
