-- A leaf that has all of a rectangle is asked alone.
use Rattle.std.proofs.Common.{◌≡◌, ℕ, List, [], ◌∷◌, Some, refl, sym, ap, subst, ◌∙◌}
use Rattle.std.specs.Prelude.{slice_get}
use Rattle.std.proofs.lemmas.List.{append-nil}
use Rattle.values.specs.Event.{Event}
use Rattle.keyrange.specs.declared.range.KeyRange.{KeyRange}
use Rattle.keyrange.specs.Rect.{Area, IsArea}
use Rattle.indexnode.specs.declared.node.IndexNode.{IndexNode}
use Rattle.treenodes.specs.declared.node.Child.{Child}
use Rattle.treenodes.specs.declared.node.Child.TheVariants.{Index}
use Rattle.treenodes.specs.Node.{TreeNode, IsDataNode, events_of, seen}
use Rattle.treenodes.specs.Tree.{IsTree}
use Rattle.treenodes.proofs.LookupSteps.{is_data, bottom_of}
use Rattle.treenodes.proofs.NodeNumbers.{one_at}
use Rattle.treewalk.specs.Leaf.{node_in}
use Rattle.treewalk.specs.Level.{AreMeeting, IsAround}
use Rattle.treewalk.specs.Gather.{asked, leaf_query, events_at, start_at, AreGatheredIn}
use Rattle.treewalk.specs.declared.gather.Query.{Query}
use Rattle.treewalk.proofs.GatherLeaves.{events_are, start_is}
use Rattle.treewalk.proofs.LevelSteps.{from_around}

module _ (nodes : List TreeNode) (tree : IsTree nodes) (area : Area) (is_area : IsArea area) (number : ℕ) (around : IsAround nodes area number) (n : TreeNode) (shown : Child)
    (at : slice_get nodes number ≡ Some n) (is : n ≡ seen n.level shown) (other : (x : IndexNode ℕ) → shown ≡ Index x → ⊥) where
  data_here : IsDataNode n.content
  data_here = subst (λ (p : TreeNode). IsDataNode p.content) (sym is) (is_data shown other)

  bottom : around.node.level ≡ 0
  bottom = ap (λ (p : TreeNode). p.level) (one_at nodes number around.node n around.there at) ∙ bottom_of nodes n.level n.rect n.content data_here (tree.contents number n at)

  alone : AreMeeting nodes 0 area (number ∷ [])
  alone = subst (λ l. AreMeeting nodes l area (number ∷ [])) bottom (from_around nodes tree area is_area number around (number ∷ []) refl)

  shown_start : (node_in shown).rect.time.from ≡ start_at nodes number
  shown_start = sym (start_is nodes tree number n at ∙ ap (λ (p : TreeNode). p.rect.time.from) is)

  shown_events : (node_in shown).events ≡ events_at nodes number
  shown_events = sym (events_are nodes tree number n at ∙ ap (λ (p : TreeNode). events_of p.content) is)

  pub alone_asked : (query : Query) (range : KeyRange) (es : List Event) → es ≡ asked (leaf_query query (node_in shown).rect.time.from) range (node_in shown).events → AreGatheredIn query range nodes area es
  alone_asked query range es are = (
    number ∷ [],
    alone,
    are ∙ ap (λ t. asked (leaf_query query t) range (node_in shown).events) shown_start ∙ ap (asked (leaf_query query (start_at nodes number)) range) shown_events
        ∙ sym (append-nil (asked (leaf_query query (start_at nodes number)) range (events_at nodes number))),
  )
