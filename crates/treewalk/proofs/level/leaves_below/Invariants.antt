use Rattle.std.proofs.Common.{◌≤◌}
use Rattle.treenodes.specs.Node.{TreeNode, IsAt}
use Rattle.treewalk.specs.Level.{AreMeeting}
use Rattle.treewalk.proofs.level.leaves_below.Given as goal

abbrev pub invariant-loop-level : goal.invariant-loop-level
invariant-loop-level l = record {
  upto : (root : TreeNode) → IsAt l.nodes 0 root → l.level ≤ root.level;
  meeting : AreMeeting l.nodes l.level l.rect l.numbers.items;
}

abbrev pub decreases-loop-level : goal.decreases-loop-level
decreases-loop-level l = l.level
