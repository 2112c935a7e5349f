-- What a migrate step makes of the tree.
use Rattle.std.specs.Prelude.{MatchOption}
use Rattle.std.proofs.Common.{◌≡◌, Option, Some, None, refl, inr}
use Rattle.datanode.specs.Node.{Node}
use Rattle.treenodes.specs.Node.{TreeNode, data_node}
use Rattle.treenodes.specs.Backlog.{IsWaiting, IsFirstWaiting}
use Rattle.tsbtree.specs.View.{TreeState}
use Rattle.interleaving.specs.MigrateStep.{WasPacked}

pub none_packed : (old : TreeState) → ((p : TreeNode) → IsWaiting old.nodes None p → ⊥) → WasPacked old old
none_packed old none = inr (record { none = none; same = refl })

-- where no job was found
pub none_found : (old : TreeState) (o : Option Node) → ((n : Node) → o ≡ Some n → ⊥) → MatchOption o ((p : TreeNode) → IsWaiting old.nodes None p → ⊥) (λ n. IsFirstWaiting old.nodes None (data_node n)) → WasPacked old old
none_found old None other h = none_packed old h
none_found old (Some n) other h = absurd (other n refl)
