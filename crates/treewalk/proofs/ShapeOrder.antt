-- The nodes of a tree in order: no two tie.
use Rattle.std.proofs.Common.{◌≡◌, ℕ, suc, ◌+◌, ◌<◌, List, [], ◌∷◌, ◌++◌, length, get_or, take, map, cond, Bool, true, false, Some, refl, sym, ap, subst, ◌∙◌, arith}
use Rattle.std.specs.Prelude.{slice_get}
use Rattle.std.specs.List.{IsDistinct, dedup, dedup_from}
use Rattle.std.specs.List.Sorted.{IsStrictlySortedBy, IsSorted, IsSortedBy, IsPermutation}
use denote.Param.Members.{Mut}
use Rattle.std.specs.Borrow.{Bor}
use Rattle.std.specs.Fn.{Called, ComparesAs}
use Rattle.std.proofs.lemmas.Fn.{always_returns_same}
use Rattle.std.proofs.lemmas.List.MinMax.{ranks_by}
use Rattle.std.specs.Cmp.{IsStrictWeakOrder, IsTotalOrder, on_total, back_total, then_total, nat_cmp_total}
use Rattle.std.specs.Cmp.Lexicographic.{nat_list_cmp_total}
use Rattle.std.specs.FinMap.{nat_cmp-IsAntisymmetric}
use Rattle.std.specs.Ordering.{nat_cmp, ordering_then, ordering_reverse, eq_by_cmp, is_eq, is_lt}
use Rattle.std.specs.declared.cmp.Ordering.{Ordering}
use Rattle.std.specs.declared.cmp.Ordering.TheVariants.{Less, Equal, Greater}
use Rattle.std.proofs.lemmas.Bool.{and_from, false_from_ne_true, leb-true}
use Rattle.std.proofs.lemmas.List.{take_more, map-append}
use Rattle.std.proofs.lemmas.List.Kept.{IsStrictlySortedBy-dedup}
use Rattle.std.proofs.lemmas.Map.Keys.{IsDistinct-IsPermutation, IsDistinct-head, IsDistinct-tail}
use Rattle.std.proofs.lemmas.Option.{slice_get-get_or, get_or_from_slice_get, slice_get_within}
use Rattle.values.specs.Events.{bytes_cmp}
use Rattle.values.specs.Commits.{max_instant}
use Rattle.keyrange.specs.Rect.{has_point, IsArea, Common}
use Rattle.keyrange.proofs.RectInside.{first_key_in, first_instant_in, facts_of}
use Rattle.eventlist.proofs.PlaceOrder.{bytes_exact}
use Rattle.datanode.proofs.CutMembers.{In}
use Rattle.datanode.proofs.CutOrder.{In_place, all_of}
use Rattle.treenodes.specs.Node.{TreeNode, IsAt}
use Rattle.treenodes.specs.Tree.{IsTree, AreApart}
use Rattle.treewalk.specs.declared.shape.NodeShape.{NodeShape}
use Rattle.treewalk.specs.Shape.{node_shape, shape_cmp, IsShapeOf}
use Rattle.treewalk.proofs.ListingMembers.{In-from_map}

pub shape_total : IsTotalOrder shape_cmp
shape_total =
    then_total (back_total (on_total (λ (s : NodeShape). s.level) nat_cmp_total))
    (then_total (on_total (λ (s : NodeShape). s.rect.time.from) nat_cmp_total) (on_total (λ (s : NodeShape). s.rect.keys.lo) nat_list_cmp_total))

abbrev pub tie : NodeShape → NodeShape → Bool
tie = eq_by_cmp shape_cmp

-- ---- a sorted list without ties

reversed : (o : Ordering) → is_eq (ordering_reverse o) ≡ is_eq o
reversed Less = refl
reversed Equal = refl
reversed Greater = refl

tie_back : (s t : NodeShape) → tie s t ≡ tie t s
tie_back s t = ap is_eq (shape_total.antisymm s t) ∙ reversed (shape_cmp t s)

kept_all : (s : NodeShape) (ss : List NodeShape) → IsDistinct tie (s ∷ ss) → dedup_from tie s ss ≡ s ∷ ss
kept_all s [] h = refl
kept_all s (t ∷ ts) h =
    let apart : tie t s ≡ false = tie_back t s ∙ (IsDistinct-head tie s (t ∷ ts) h).0 in
    (λ i. cond (apart i) (dedup_from tie s ts) (s ∷ dedup_from tie t ts)) ∙ ap (λ l. s ∷ l) (kept_all t ts (IsDistinct-tail tie s (t ∷ ts) h))

dedup_all : (ss : List NodeShape) → IsDistinct tie ss → dedup tie ss ≡ ss
dedup_all [] h = refl
dedup_all (s ∷ ss) h = kept_all s ss h

strictly : (ss : List NodeShape) → IsSorted shape_cmp ss → IsDistinct tie ss → IsStrictlySortedBy shape_cmp ss
strictly ss sorted distinct = subst (IsStrictlySortedBy shape_cmp) (dedup_all ss distinct) (IsStrictlySortedBy-dedup shape_total (λ x y. refl) ss sorted)

-- ---- nodes that are apart do not tie

pub record Tied (s t : NodeShape) : Type 0 where
  pub level : s.level ≡ t.level
  pub from : s.rect.time.from ≡ t.rect.time.from
  pub lo : s.rect.keys.lo ≡ t.rect.keys.lo

tied_of : (o : Ordering) → is_eq o ≡ true → o ≡ Equal
tied_of Less h = cc
tied_of Equal h = refl
tied_of Greater h = cc

then_parts : (o p : Ordering) → ordering_then o p ≡ Equal → (o ≡ Equal) × (p ≡ Equal)
then_parts Less p h = cc
then_parts Equal p h = (refl, h)
then_parts Greater p h = cc

tied : (s t : NodeShape) → tie s t ≡ true → Tied s t
tied s t h =
    let all = then_parts (nat_cmp t.level s.level) _ (tied_of (shape_cmp s t) h) in
    let rest = then_parts (nat_cmp s.rect.time.from t.rect.time.from) (bytes_cmp s.rect.keys.lo t.rect.keys.lo) all.1 in
    record { level = sym (nat_cmp-IsAntisymmetric t.level s.level all.0); from = nat_cmp-IsAntisymmetric s.rect.time.from t.rect.time.from rest.0; lo = bytes_exact s.rect.keys.lo t.rect.keys.lo rest.1 }

-- they have their first point in common
first_common : (n p : TreeNode) → IsArea n.rect → IsArea p.rect → Tied (node_shape n) (node_shape p) → Common n.rect p.rect
first_common n p n_area p_area h = record {
  key = p.rect.keys.lo;
  instant = p.rect.time.from;
  is_first = leb-true 1 p.rect.time.from (facts_of p.rect p_area).from_first;
  is_last = leb-true p.rect.time.from max_instant (facts_of p.rect p_area).to_last;
  in_first = subst (λ k. has_point n.rect k p.rect.time.from ≡ true) h.lo
      (subst (λ t. has_point n.rect n.rect.keys.lo t ≡ true) h.from (and_from _ _ (first_key_in n.rect n_area) (first_instant_in n.rect n_area)));
  in_second = and_from _ _ (first_key_in p.rect p_area) (first_instant_in p.rect p_area);
}

abbrev AreAreas : List TreeNode → Type 0
AreAreas nodes = (i : ℕ) (n : TreeNode) → IsAt nodes i n → IsArea n.rect

distinct : (nodes : List TreeNode) → AreAreas nodes → AreApart nodes → IsDistinct tie (map node_shape nodes)
unfolding IsDistinct
distinct [] areas apart = tt
distinct (n ∷ ns) areas apart = (
  all_of (λ y. tie (node_shape n) y ≡ false) (map node_shape ns) (λ y i. other y (In-from_map node_shape ns y i)),
  distinct ns (λ i q at. areas (suc i) q at) (λ i j q p at_i at_j level common. pred i j (apart (suc i) (suc j) q p at_i at_j level common)),
)
  where
    pred : (i j : ℕ) → suc i ≡ suc j → i ≡ j
    pred i j e = omega arith

    never : (j : ℕ) → 0 ≡ suc j → ⊥
    never j e = omega arith

    other : (y : NodeShape) → (q : TreeNode) × In q ns × (node_shape q ≡ y) → tie (node_shape n) y ≡ false
    other y (q, i, is) = subst (λ z. tie (node_shape n) z ≡ false) is (false_from_ne_true (tie (node_shape n) (node_shape q)) (λ h.
        (let place = In_place q q ns i in
        let at : slice_get ns place.0 ≡ Some q = slice_get-get_or ns place.0 q place.1 ∙ ap Some place.2 in
        let t = tied (node_shape n) (node_shape q) h in
        never place.0 (apart 0 (suc place.0) n q refl at t.level (first_common n q (areas 0 n refl) (areas (suc place.0) q at) t)))))

-- ---- the shape

pub shape_is : (nodes : List TreeNode) (shape : List NodeShape) → IsTree nodes → IsPermutation (map node_shape nodes) shape → IsSorted shape_cmp shape → IsShapeOf nodes shape
shape_is nodes shape tree same sorted = record {
  ordered = strictly shape sorted (IsDistinct-IsPermutation tie tie_back (map node_shape nodes) shape same (distinct nodes tree.areas tree.apart));
  whole = same;
}

pub shapes_more : (nodes : List TreeNode) (i : ℕ) (n : TreeNode) (s : NodeShape) (old new : List NodeShape) → IsAt nodes i n → s ≡ node_shape n → old ≡ map node_shape (take i nodes) → new ≡ old ++ s ∷ [] → new ≡ map node_shape (take (i + 1) nodes)
shapes_more nodes i n s old new at is before more =
    let lt : i < length nodes = slice_get_within nodes i n at in
    let here : get_or nodes i n ≡ n = get_or_from_slice_get nodes i n n at in
    more ∙ (λ j. before j ++ is j ∷ []) ∙ sym (map-append node_shape (take i nodes) (n ∷ [])) ∙ ap (map node_shape) (sym (take_more nodes i n lt ∙ ap (λ x. take i nodes ++ x ∷ []) here))

-- what a sort by a closure says, where each call answers by the order
pub sorted_by : {F : Type 0} {g : Mut F (Bor NodeShape × (Bor NodeShape × Unit {0})) Ordering} {f : F} (ss : List NodeShape)
    → ((lt : NodeShape → NodeShape → Bool) → IsStrictWeakOrder lt → ComparesAs g lt f → IsSortedBy lt ss)
    → ((a : Bor NodeShape × (Bor NodeShape × Unit {0})) (r : Ordering) (f' : F) → Called g f a r f' → (r ≡ shape_cmp a.0.now a.1.0.now) × (f' ≡ f)) → IsSorted shape_cmp ss
sorted_by {g = g} {f = f} ss up h = up (λ x y. is_lt (shape_cmp x y)) (ranks_by shape_total (λ s. s))
    (always_returns_same g (λ a r. is_lt r ≡ is_lt (shape_cmp a.0.now a.1.0.now)) f (λ a r f' k. (ap is_lt (h a r f' k).0, (h a r f' k).1)))
