-- The map that a tree holds is what its data nodes' events give.
use Rattle.std.proofs.Common.{◌≡◌, ℕ, zero, suc, ◌≤◌, true, List, [], ◌∷◌, Some, refl, sym, subst, inl, inr}
use Rattle.std.specs.Prelude.{slice_get}
use Rattle.std.specs.declared.cmp.Ordering.TheVariants.{Equal}
use Rattle.values.specs.Event.{Event}
use Rattle.values.specs.Events.{event_cmp}
use Rattle.eventlist.proofs.PlaceOrder.{sorted_none}
use Rattle.keyrange.specs.Rect.{Area, has_point}
use Rattle.datanode.specs.Cut.{IsMap, in_cut, cut}
use Rattle.datanode.proofs.CutMembers.{In, In-filter, In-from_filter}
use Rattle.datanode.proofs.CutOrder.{one_event, In_place}
use Rattle.datanode.proofs.CutLaws.{in_cut_decides}
use Rattle.datanode.proofs.NodePut.{point_of, event_equal}
use Rattle.treenodes.specs.Node.{Content, Events, References, TreeNode, IsDataNode, events_of}
use Rattle.treenodes.specs.Tree.{IsTree}
use Rattle.treenodes.specs.Map.{HoldsMap, IsCut, changes}
use Rattle.treenodes.proofs.LookupFound.{leaf_of}
use Rattle.treenodes.proofs.MapMembers.{same_members, sorted_all, In-from_all, In-all}

-- what a rectangle holds of the map whose point it has
pub held : (r : Area) (m : List Event) (x : Event) → In x m → has_point r x.key x.at ≡ true → In x (cut r m)
held r m x i h = let p = point_of r x h in In-filter (in_cut r m) m x i ((in_cut_decides r m x).1 (p.keys, inl (p.start, p.end)))

sorted_changes : (nodes : List TreeNode) → IsMap (changes nodes)
sorted_changes [] = sorted_none event_cmp
sorted_changes (n ∷ ns) = sorted_all (events_of n.content) (changes ns) (sorted_changes ns)

module _ (P : Event → Type 0) (tie : (d e : Event) → P d → P e → event_cmp d e ≡ Equal → d ≡ e) where
  changes_are : (nodes : List TreeNode) → ((i : ℕ) (n : TreeNode) → slice_get nodes i ≡ Some n → (x : Event) → In x (events_of n.content) → P x) → (x : Event) → In x (changes nodes) → P x
  changes_are [] all x i = absurd i
  changes_are (n ∷ ns) all x i = elim (In-from_all (events_of n.content) (changes ns) x i) [
    | inl j ↦ all 0 n refl x j
    | inr j ↦ changes_are ns (λ k p at. all (suc k) p at) x j
  ]

  in_changes : (nodes : List TreeNode) → ((i : ℕ) (n : TreeNode) → slice_get nodes i ≡ Some n → (x : Event) → In x (events_of n.content) → P x) → (i : ℕ) (n : TreeNode) → slice_get nodes i ≡ Some n → (x : Event) → In x (events_of n.content) → In x (changes nodes)
  in_changes [] all i n at x j = absurd (cc)
  in_changes (p ∷ ps) all zero n at x j =
      In-all P tie (events_of p.content) (changes ps) (all 0 p refl) (changes_are ps (λ k q is. all (suc k) q is)) x (inl (subst (λ (q : TreeNode). In x (events_of q.content)) (sym same) j))
    where
      same : p ≡ n
      same = cc
  in_changes (p ∷ ps) all (suc i) n at x j =
      In-all P tie (events_of p.content) (changes ps) (all 0 p refl) (changes_are ps (λ k q is. all (suc k) q is)) x (inr (in_changes ps (λ k q is. all (suc k) q is) i n at x j))

-- of a tree that holds a map the data nodes' events are the map's
of_map : (m : List Event) (rect : Area) (content : Content) → IsCut m rect content → (x : Event) → In x (events_of content) → In x m
of_map m rect (Events es) is x i = (In-from_filter (in_cut rect m) m x (subst (In x) is i)).0
of_map m rect (References rs) is x i = absurd i

events_are : (m : List Event) (rect : Area) (content : Content) → IsDataNode content → IsCut m rect content → events_of content ≡ cut rect m
events_are m rect (Events es) has is = is
events_are m rect (References rs) has is = absurd has

-- the map of a tree is read off it
pub changes_is : (nodes : List TreeNode) (m : List Event) → IsTree nodes → HoldsMap nodes m → changes nodes ≡ m
changes_is nodes m tree holds = same_members (changes nodes) m (sorted_changes nodes) holds.ordered
    (λ x i. changes_are P tie nodes all x i)
    (λ x i. found x i)
  where
    P : Event → Type 0
    P x = In x m

    tie : (d e : Event) → P d → P e → event_cmp d e ≡ Equal → d ≡ e
    tie d e i j h = let q = event_equal d e h in one_event m holds.ordered d e q.0 q.1 i j

    all : (i : ℕ) (n : TreeNode) → slice_get nodes i ≡ Some n → (x : Event) → In x (events_of n.content) → P x
    all i n at x j = of_map m n.rect n.content (holds.cuts i n at) x j

    first : (x : Event) → In x m → 1 ≤ x.at
    first x i = let r = In_place x x m i in subst (λ (y : Event). 1 ≤ y.at) r.2 (holds.instants r.0 x r.1).0

    found : (x : Event) → In x m → In x (changes nodes)
    found x i =
        let leaf = leaf_of nodes tree x.key x.at (first x i) in
        let node = leaf.1.leaf.node in
        let are : events_of node.content ≡ cut node.rect m = events_are m node.rect node.content leaf.1.leaf.is_data (holds.cuts leaf.0 node leaf.1.leaf.there) in
        in_changes P tie nodes all leaf.0 node leaf.1.leaf.there x (subst (In x) (sym are) (held node.rect m x i leaf.1.holds))
