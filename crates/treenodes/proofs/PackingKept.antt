-- A tree holds what it held where a node's block takes its place.
use Rattle.std.proofs.Common.{◌≡◌, ℕ, ◌≤◌, List, [], ◌∷◌, set, zero, suc, refl, sym, ap, subst, ◌∙◌, inl, inr}
use Rattle.values.specs.Event.{Event}
use Rattle.blocks.specs.PackedNode.{Packed}
use Rattle.datanode.specs.Node.{capacity}
use Rattle.treenodes.specs.Node.{TreeNode, IsAt, data_node, packed_node, count_of, events_of}
use Rattle.treenodes.specs.Tree.{IsTree}
use Rattle.treenodes.specs.Map.{HoldsMap, IsCut, EndsBy, changes, latest, put_all}
use Rattle.treenodes.specs.Sound.{IsSound, IsTreeOf, AreWithinCapacity}
use Rattle.treenodes.proofs.NodeNumbers.{at_set}
use Rattle.treenodes.proofs.TreeFrames.{still_tree}

changes_set : (nodes : List TreeNode) (i : ℕ) (old new : TreeNode) → IsAt nodes i old → events_of new.content ≡ events_of old.content → changes (set nodes i new) ≡ changes nodes
changes_set [] i old new at e = absurd (cc)
changes_set (n ∷ ns) zero old new at e =
    let is : n ≡ old = cc in
    ap (λ es. put_all es (changes ns)) (e ∙ ap (λ (x : TreeNode). events_of x.content) (sym is))
changes_set (n ∷ ns) (suc i) old new at e = ap (put_all (events_of n.content)) (changes_set ns i old new at e)

module _ (nodes : List TreeNode) (number : ℕ) (block : Packed) (at : IsAt nodes number (data_node block.node)) where
  abbrev after : List TreeNode
  after = set nodes number (packed_node block)

  pub packed_tree : IsTree nodes → IsTree after
  packed_tree tree = still_tree nodes number (data_node block.node) (packed_node block) at refl refl (λ ns. refl) tree

  pub packed_holds : (m : List Event) → HoldsMap nodes m → HoldsMap after m
  packed_holds m h = record {
    ordered = h.ordered;
    instants = h.instants;
    cuts = λ j p here. elim (at_set nodes number (packed_node block) j p here) [
      | inl q ↦ subst (λ (p : TreeNode). IsCut m p.rect p.content) (sym q.1) (h.cuts number (data_node block.node) at)
      | inr q ↦ h.cuts j p q.1
    ];
    ended = λ j p here. elim (at_set nodes number (packed_node block) j p here) [
      | inl q ↦ subst (λ (p : TreeNode). EndsBy (latest m) p.content p.rect.time.to) (sym q.1) (h.ended number (data_node block.node) at)
      | inr q ↦ h.ended j p q.1
    ];
  }

  pub packed_changes : changes after ≡ changes nodes
  packed_changes = changes_set nodes number (data_node block.node) (packed_node block) at refl

  packed_small : AreWithinCapacity nodes → AreWithinCapacity after
  packed_small small j p here = elim (at_set nodes number (packed_node block) j p here) [
    | inl q ↦ subst (λ (p : TreeNode). count_of p.content ≤ capacity) (sym q.1) (small number (data_node block.node) at)
    | inr q ↦ small j p q.1
  ]

  pub packed_sound : (last : ℕ) → IsSound nodes last → IsSound after last
  packed_sound last s = record {
    kept = subst (IsTreeOf after) (sym packed_changes) (record { tree = packed_tree s.kept.tree; holds = packed_holds (changes nodes) s.kept.holds; small = packed_small s.kept.small });
    last_is = s.last_is ∙ ap latest (sym packed_changes);
  }
