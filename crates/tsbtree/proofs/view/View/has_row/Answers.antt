use Rattle.std.proofs.Common.{List, ap, ◌∙◌}
use Rattle.std.specs.Prelude.{is_some}
use Rattle.values.specs.Events.{row_until}
use Rattle.treenodes.specs.Node.{TreeNode}
use Rattle.treenodes.specs.Map.{changes}
use Rattle.tsbtree.specs.View.{TreeState}
use Rattle.tsbtree.proofs.ViewLeaf.{no_row, leaf_of_state, row_of_leaf}
use Rattle.tsbtree.proofs.view.View.has_row.Goals as goal

pub returns-then-instant-eq0-clause-ok : goal.returns-then-instant-eq0-clause-ok
returns-then-instant-eq0-clause-ok c =
    ap is_some (no_row c.args.self.now c.nodes-nodes.result.now c.nodes-nodes.ensures.are c.nodes-nodes.ensures.sound c.args.key.now c.args.instant c.if-instant-eq0.true)

pub returns-clause-ok : goal.returns-clause-ok
returns-clause-ok c =
    let nodes = c.nodes-nodes.result.now in
    let state : TreeState = record { nodes = nodes; latest = c.args.self.now.latest } in
    c.in_ok-is_there.ensures.ok
    ∙ ap is_some (row_of_leaf state c.args.key.now c.args.instant c.child.result.now (leaf_of_state state c.nodes-nodes.ensures.sound c.args.key.now c.args.instant c.leaf_at-number.result.0 c.at.result.now c.child.result.now c.leaf_at-number.ensures.leaf c.at.ensures c.child.ensures)
    ∙ ap (λ (l : List TreeNode). row_until (changes l) c.args.key.now c.args.instant) c.nodes-nodes.ensures.are)
