-- An event is put into a data node that has room for it: no node is split.
use Rattle.std.proofs.Common.{◌≡◌, ℕ, ◌+◌, ◌<◌, ◌≤◌, List, [], ◌∷◌, length, set, true, refl, sym, subst, inl, inr, arith}
use Rattle.std.specs.Prelude.{IfOk, All}
use Rattle.std.specs.declared.result.Result.{Result}
use Rattle.std.specs.declared.result.Result.TheVariants.{Ok, Err}
use Rattle.std.proofs.lemmas.List.Elements.{All-head}
use Rattle.values.specs.Event.{Event}
use Rattle.values.specs.Events.{put_event}
use Rattle.keyrange.specs.Rect.{has_point}
use Rattle.datanode.specs.Cut.{in_cut}
use Rattle.datanode.specs.Node.{capacity}
use Rattle.indexnode.specs.declared.reference.Reference.{Reference}
use Rattle.indexnode.specs.Node.{at_point}
use Rattle.treenodes.specs.Node.{Content, Events, References, TreeNode, IsAt, IsDataNode, count_of, events_of}
use Rattle.treenodes.specs.Tree.{RefersTo, HasContent, IsTree}
use Rattle.treenodes.specs.Map.{HoldsMap}
use Rattle.treenodes.specs.Lookup.{IsLeafAt}
use Rattle.treenodes.specs.Event.{with_put}
use Rattle.treenodes.specs.Sound.{AreWithinCapacity, IsTreeOf}
use Rattle.treenodes.proofs.NodeNumbers.{at_set}
use Rattle.treegrowth.specs.Places.{SplitsOverfull}
use Rattle.treegrowth.proofs.CommitTaken.{length_put, counted}
use Rattle.treegrowth.proofs.PlacesKept.{one_put}
use Rattle.treegrowth.proofs.PointOneKey.{filter_at_most}

-- ---- a node of level 0 that has a point is a data node

module _ (nodes : List TreeNode) (tree : IsTree nodes) (key : List ℕ) (instant number : ℕ) (n : TreeNode) (there : IsAt nodes number n) (bottom : n.level ≡ 0) (holds : has_point n.rect key instant ≡ true) where
  is_data : (content : Content) → HasContent nodes n.level n.rect content → IsDataNode content
  is_data (Events es) has = tt
  is_data (References rs) has = absurd (none_below rs (has.tiled.once key instant holds) has.below)
    where
      none_below : (rs : List (Reference ℕ)) → length (at_point key instant rs) ≡ 1 → All (RefersTo nodes n.level) rs → ⊥
      none_below [] one below = absurd (omega (arith, one))
      none_below (r ∷ rs) one below =
          let refers = All-head (RefersTo nodes n.level) r rs below in
          let up : n.level ≡ refers.node.level + 1 = refers.below in
          absurd (omega (arith, up, bottom))

  pub leaf_here : IsLeafAt nodes key instant number
  leaf_here = record { leaf = record { node = n; there = there; bottom = bottom; is_data = is_data n.content (tree.contents number n there) }; holds = holds }

-- ---- the event is put

module _ (nodes : List TreeNode) (m : List Event) (kept : IsTreeOf nodes m) (e : Event) (number : ℕ) (leaf : IsLeafAt nodes e.key e.at number) (room : (n : TreeNode) → IsAt nodes number n → count_of n.content < capacity) where
  abbrev old : TreeNode
  old = leaf.leaf.node

  abbrev pub grown : List TreeNode
  grown = set nodes number (with_put old e)

  small : AreWithinCapacity grown
  small i n at = elim (at_set nodes number (with_put old e) i n at) [
    | inl q ↦ subst (λ (p : TreeNode). count_of p.content ≤ capacity) (sym q.1) (
        let less = room old leaf.leaf.there in
        let same = counted old.content leaf.leaf.is_data in
        let more = length_put e (events_of old.content) in
        let fewer = filter_at_most (in_cut old.rect (put_event e (events_of old.content))) (put_event e (events_of old.content)) in
        omega (arith, less, same, more, fewer)
        )
    | inr q ↦ kept.small i n q.1
  ]

  pub grown_kept : {E : Type 0} (r : Result (List TreeNode) E) (m' : List Event) → IfOk r IsTree → IfOk r (λ s. HoldsMap s m') → IfOk r (λ s. s ≡ grown) → IfOk r (λ s. IsTreeOf s m')
  grown_kept (Ok s) m' tree holds is = record { tree = tree; holds = holds; small = subst AreWithinCapacity (sym is) small }
  grown_kept (Err x) m' tree holds is = tt

  pub none_splits : (rest : List Event) (s : List TreeNode) → s ≡ grown → SplitsOverfull (e ∷ rest) rest nodes s
  none_splits rest s is = subst (SplitsOverfull (e ∷ rest) rest nodes) (sym is) (one_put nodes number old leaf.leaf.there leaf.leaf.is_data leaf.leaf.bottom e leaf.holds rest grown (record { others = λ i n other at low. at; small = λ h. refl }))
