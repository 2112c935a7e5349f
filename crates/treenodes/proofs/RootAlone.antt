-- One data node of the whole rectangle is a tree.
use Rattle.std.proofs.Common.{◌≡◌, ℕ, zero, suc, ◌≤◌, List, [], ◌∷◌, refl, sym, ap, subst, ◌∙◌, arith}
use Rattle.values.specs.Events.{event_cmp}
use Rattle.eventlist.proofs.PlaceOrder.{sorted_none}
use Rattle.keyrange.specs.Rect.{IsArea}
use Rattle.datanode.specs.Node.{capacity}
use Rattle.treenodes.specs.Node.{TreeNode, IsAt, count_of}
use Rattle.treenodes.specs.Tree.{IsTree, HasContent}
use Rattle.treenodes.specs.Root.{empty_leaf}
use Rattle.treenodes.specs.Map.{HoldsMap, IsCut, EndsBy, changes}
use Rattle.treenodes.specs.Sound.{IsSound, AreWithinCapacity}

one : (i : ℕ) (n : TreeNode) → IsAt (empty_leaf ∷ []) i n → (i ≡ 0) × (empty_leaf ≡ n)
one zero n h = (refl, cc)
one (suc i) n h = absurd (cc)

pub one_tree : IsTree (empty_leaf ∷ [])
one_tree = record {
  root = record { root = empty_leaf; first = refl; covers = refl };
  areas = λ i n h. subst (λ (n : TreeNode). IsArea n.rect) (one i n h).1 refl;
  contents = λ i n h. subst (λ (n : TreeNode). HasContent (empty_leaf ∷ []) n.level n.rect n.content) (one i n h).1 refl;
  levels = λ i n h. subst (λ (n : TreeNode). n.level ≤ 0) (one i n h).1 (omega arith);
  height = omega arith;
  apart = λ i j n p h k level meet. (one i n h).0 ∙ sym (one j p k).0;
}

pub one_holds : HoldsMap (empty_leaf ∷ []) []
one_holds = record {
  ordered = sorted_none event_cmp;
  instants = λ k d lt. absurd (omega arith);
  cuts = λ i n h. subst (λ (n : TreeNode). IsCut [] n.rect n.content) (one i n h).1 refl;
  ended = λ i n h. subst (λ (n : TreeNode). EndsBy 0 n.content n.rect.time.to) (one i n h).1 tt;
}

one_small : AreWithinCapacity (empty_leaf ∷ [])
one_small i n h = subst (λ (n : TreeNode). count_of n.content ≤ capacity) (one i n h).1 (omega arith)

pub one_sound : (nodes : List TreeNode) → nodes ≡ empty_leaf ∷ [] → IsSound nodes 0
one_sound nodes is = subst (λ s. IsSound s 0) (sym is) (record { kept = record { tree = one_tree; holds = one_holds; small = one_small }; last_is = refl })

pub none_yet : (nodes : List TreeNode) → nodes ≡ empty_leaf ∷ [] → changes nodes ≡ []
none_yet nodes is = ap changes is
