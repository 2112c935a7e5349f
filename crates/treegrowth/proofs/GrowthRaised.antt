-- Below a new root: what stands where, and which nodes are within capacity.
use Rattle.std.proofs.Common.{◌≡◌, ℕ, ◌<◌, ◌≤◌, List, [], ◌∷◌, ◌++◌, length, set, sym, ap, subst, ◌∙◌, arith}
use Rattle.std.specs.Prelude.{IfOk, slice_get}
use Rattle.std.specs.declared.result.Result.{Result}
use Rattle.std.specs.declared.result.Result.TheVariants.{Ok, Err}
use Rattle.keyrange.specs.Rect.{Area}
use Rattle.datanode.specs.Node.{capacity}
use Rattle.treenodes.specs.Node.{Content, Events, References, TreeNode, IsAt, IsIndexNode, count_of}
use Rattle.treenodes.specs.Tree.{IsTree, HasContent}
use Rattle.treenodes.specs.Lookup.{IsParent}
use Rattle.treenodes.specs.Root.{root_over}
use Rattle.treenodes.specs.Sound.{AreWithinCapacity}
use Rattle.treenodes.specs.Split.{Halved}
use Rattle.treenodes.proofs.NodeNumbers.{one_at}
use Rattle.treegrowth.specs.Growth.{AreOthersSmall, IsIndexSplit, IsOverfull}
use Rattle.treegrowth.specs.Leaves.{HaveSameLeaves}
use Rattle.treegrowth.specs.Places.{DoLeavesStay, DoOtherLeavesStay}
use Rattle.treegrowth.proofs.GrowthHalved.{others_small, all_small, above_count}
use Rattle.treegrowth.proofs.LeavesKept.{Raised, Top, Old, Rest, stands_raised, top_there, root_there, rest_there, raised_leaves, same_leaves, leaves_stay}

-- three facts of one value give a fourth
pub from_three : {T E : Type 0} (r : Result T E) (P Q R S : T → Type 0) → ((x : T) → P x → Q x → R x → S x) → IfOk r P → IfOk r Q → IfOk r R → IfOk r S
from_three (Ok x) P Q R S f p q r = f x p q r
from_three (Err e) P Q R S f p q r = tt

-- a split below a parent that has room leaves all nodes within capacity
pub all_within : (before after : List TreeNode) (parent number : ℕ) (first second : TreeNode) → Halved before after parent number first second → IsTree before → (h : IsParent before parent number) → AreOthersSmall before number → count_of first.content ≤ capacity → count_of second.content ≤ capacity → count_of h.node.content ≤ 63 → AreWithinCapacity after
all_within before after parent number first second halved tree h small lower upper room =
    all_small before after parent number first second halved (others_small before after parent number first second halved small lower upper) (above_count before after parent number first second halved tree h 63 room)

module _ (nodes result : List TreeNode) (number : ℕ) (numbered : number ≡ length nodes) (root : TreeNode) (at : IsAt nodes 0 root) (is : result ≡ set nodes 0 (root_over root (length nodes)) ++ root ∷ []) where
  abbrev top : TreeNode
  top = root_over root (length nodes)

  high : 0 < top.level
  high = omega arith

  pub at_top : IsAt result 0 top
  at_top = subst (λ s. IsAt s 0 top) (sym is) (top_there nodes root top at high)

  pub at_root : IsAt result number root
  at_root = subst (λ i. IsAt result i root) (sym numbered) (subst (λ s. IsAt s (length nodes) root) (sym is) (root_there nodes root top at high))

  pub parent_at : IsParent result 0 (length nodes) → IsParent result 0 number
  parent_at h = subst (IsParent result 0) (sym numbered) h

  pub others_raised : AreOthersSmall nodes 0 → AreOthersSmall result number
  others_raised small i n other there = by (stands_raised nodes root top at high i n (subst (λ s. IsAt s i n) is there))
    where
      by : Raised nodes root top at high i n → count_of n.content ≤ capacity
      by (Top same one) = subst (λ (n : TreeNode). count_of n.content ≤ capacity) (sym one) (omega arith)
      by (Old same one) = absurd (other (same ∙ sym numbered))
      by (Rest not_root old) = small i n not_root old

  pub leaves_raised : HaveSameLeaves nodes result
  leaves_raised = subst (HaveSameLeaves nodes) (sym is) (raised_leaves nodes root top at high)

  pub rest_stays : DoOtherLeavesStay 0 nodes result
  rest_stays i n other there bottom = subst (λ s. IsAt s i n) (sym is) (rest_there nodes root top at high i n other there)

  -- no data node is the root
  pub all_stay : 0 < root.level → DoLeavesStay nodes result
  all_stay above i n there bottom =
      rest_stays i n (λ same. let one = ap (λ (q : TreeNode). q.level) (one_at nodes 0 n root (ap (slice_get nodes) (sym same) ∙ there) at) in omega (arith, one, bottom, above)) there bottom

  -- the new root has one reference
  pub room_above : (h : IsParent result 0 number) → count_of h.node.content ≤ 63
  room_above h = subst (λ (n : TreeNode). count_of n.content ≤ 63) (one_at result 0 top h.node at_top h.there) (omega arith)

  pub overfull_raised : IsOverfull nodes 0 → IsOverfull result number
  overfull_raised h = record {
    grown = record { node = h.grown.node; there = subst (IsAt result number) (one_at nodes 0 root h.grown.node at h.grown.there) at_root; is_index = h.grown.is_index; grown = h.grown.grown };
    over = h.over;
  }

-- ---- an index node that is split

-- one with references stands above data nodes
pub index_high : (nodes : List TreeNode) (level : ℕ) (rect : Area) (content : Content) → IsIndexNode content → capacity < count_of content → HasContent nodes level rect content → 0 < level
index_high nodes level rect (Events es) is over has = absurd is
index_high nodes level rect (References []) is over has = absurd (omega arith)
index_high nodes level rect (References (r ∷ rs)) is over has = let up = (has.below 0 r (omega arith)).below in omega (arith, up)

module _ (before after : List TreeNode) (parent number : ℕ) (tree : IsTree before) (h : IsParent before parent number) (split : IsIndexSplit before after parent number) where
  pub index_within : AreOthersSmall before number → count_of h.node.content ≤ 63 → AreWithinCapacity after
  index_within small room = all_within before after parent number split.first split.second split.halved tree h small split.first_small split.second_small room

  pub index_others : AreOthersSmall before number → AreOthersSmall after parent
  index_others small = others_small before after parent number split.first split.second split.halved small split.first_small split.second_small

  index_up : (over : IsOverfull before number) → 0 < over.grown.node.level
  index_up over = index_high before over.grown.node.level over.grown.node.rect over.grown.node.content over.grown.is_index over.over (tree.contents number over.grown.node over.grown.there)

  pub index_leaves : IsOverfull before number → HaveSameLeaves before after
  index_leaves over = same_leaves before after parent number split.first split.second split.halved tree h over.grown.node over.grown.there (index_up over) split.first_level split.second_level

  pub index_stay : IsOverfull before number → DoLeavesStay before after
  index_stay over = leaves_stay before after parent number split.first split.second split.halved tree h over.grown.node over.grown.there (index_up over) split.first_level split.second_level
