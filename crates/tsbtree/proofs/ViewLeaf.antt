-- What a view shows: nothing before the first instant, and the data node at a point.
use Rattle.std.proofs.Common.{◌≡◌, ℕ, zero, suc, ◌<◌, ◌≤◌, Bool, true, false, List, [], ◌∷◌, length, get_or, Some, None, refl, sym, ap, subst, ◌∙◌, arith, nat_le, if◌then◌else◌}
use Rattle.std.specs.Prelude.{◌&&◌, All, option_and_then}
use Rattle.values.specs.Event.{Event}
use Rattle.values.specs.Events.{is_bytes, later, event_until, row_until}
use Rattle.keyrange.specs.Rect.{has_point}
use Rattle.treenodes.specs.declared.node.Child.{Child}
use Rattle.treenodes.specs.Node.{TreeNode, IsAt, IsDataNode, content_of, rect_of, seen}
use Rattle.treenodes.specs.Map.{AreInstants, IsCut, changes, latest}
use Rattle.treenodes.specs.Lookup.{IsLeafAt}
use Rattle.treenodes.specs.Sound.{IsSound}
use Rattle.treenodes.proofs.LookupNodes.{point_in}
use Rattle.treenodes.proofs.NodeNumbers.{one_at}
use Rattle.treewalk.proofs.GatherLeaves.{cut_of}
use Rattle.datanode.proofs.LawLast.{shown_by_cut}
use Rattle.treewalk.specs.Leaf.{node_in}
use Rattle.tsbtree.specs.View.{TreeState, events}
use Rattle.tsbtree.specs.Leaf.{IsLeafOf}

-- no event is after the latest
upto_latest : (m : List Event) (k : ℕ) (d : Event) → k < length m → (get_or m k d).at ≤ latest m
upto_latest [] k d lt = absurd (omega arith)
upto_latest (e ∷ es) zero d lt = omega arith
upto_latest (e ∷ es) (suc k) d lt = omega (arith, upto_latest es k d (omega arith))

pub none_after : (c : TreeState) (last : ℕ) → IsSound c.nodes last → All (λ e. e.at ≤ last) (events c)
none_after c last sound k d lt = subst (λ t. (get_or (events c) k d).at ≤ t) (sym sound.last_is) (upto_latest (events c) k d lt)

not_yet : (b : Bool) (e : Event) → 1 ≤ e.at → (if b && nat_le e.at 0 then Some e else None) ≡ None
not_yet true e first = grind arith
not_yet false e first = refl

none_until : (m : List Event) (key : List ℕ) → AreInstants m → event_until m key 0 ≡ None
none_until [] key are = refl
none_until (e ∷ es) key are =
    ap (λ o. later o (if is_bytes key e.key && nat_le e.at 0 then Some e else None)) (none_until es key (λ k d lt. are (suc k) d (omega arith)))
    ∙ not_yet (is_bytes key e.key) e (are 0 e (omega arith)).0

-- at instant 0 there is no row
pub no_row : (c : TreeState) (nodes : List TreeNode) → nodes ≡ c.nodes → IsSound nodes c.latest → (key : List ℕ) (instant : ℕ) → instant ≡ 0 → None ≡ row_until (events c) key instant
no_row c nodes are sound key instant zeroth =
    sym (ap (row_until (events c) key) zeroth ∙ ap (option_and_then (λ e. e.row)) (none_until (events c) key (subst (λ ns. AreInstants (changes ns)) are sound.kept.holds.instants)))

pub leaf_of_state : (c : TreeState) → IsSound c.nodes c.latest → (key : List ℕ) (instant number : ℕ) (n : TreeNode) (child : Child) → IsLeafAt c.nodes key instant number → IsAt c.nodes number n → n ≡ seen n.level child → IsLeafOf c key instant child
leaf_of_state c sound key instant number n child leaf at is = record {
  number = number;
  there = at ∙ ap Some (is ∙ ap (λ l. seen l child) level);
  is_data = is_data;
  holds = subst (λ (q : TreeNode). has_point q.rect key instant ≡ true) is (point_in c.nodes key instant number n leaf at);
  cut = record {
    ordered = sound.kept.holds.ordered;
    events_are = cut_of (events c) (rect_of child) (content_of child) is_data (subst (λ (q : TreeNode). IsCut (events c) q.rect q.content) is (sound.kept.holds.cuts number n at));
  };
}
  where
    one : leaf.leaf.node ≡ n
    one = one_at c.nodes number leaf.leaf.node n leaf.leaf.there at

    level : n.level ≡ 0
    level = sym (ap (λ (q : TreeNode). q.level) one) ∙ leaf.leaf.bottom

    is_data : IsDataNode (content_of child)
    is_data = subst (λ (q : TreeNode). IsDataNode q.content) is (subst (λ (q : TreeNode). IsDataNode q.content) one leaf.leaf.is_data)

-- what the leaf shows is the map's
pub row_of_leaf : (c : TreeState) (key : List ℕ) (instant : ℕ) (child : Child) → IsLeafOf c key instant child → row_until (node_in child).events key instant ≡ row_until (events c) key instant
row_of_leaf c key instant child leaf = ap (λ es. row_until es key instant) leaf.cut.events_are ∙ shown_by_cut (rect_of child) (events c) key instant leaf.cut.ordered leaf.holds
