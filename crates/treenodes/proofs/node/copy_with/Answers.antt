use Rattle.std.proofs.Common.{ℕ, ap, ◌∙◌}
use Rattle.datanode.specs.Node.{Node}
use Rattle.treenodes.specs.declared.node.Child.TheVariants.{Data}
use Rattle.treenodes.specs.Node.{seen}
use Rattle.treenodes.specs.Event.{with_put}
use Rattle.treenodes.proofs.node.copy_with.Goals as goal

pub returns-clause-ok : goal.returns-clause-ok
returns-clause-ok c = λ (level : ℕ). c.in_ok-put.ensures.ok level ∙ ap (λ (n : Node). with_put (seen level (Data n)) c.args.event) c.in_ok-copy.ensures.ok
