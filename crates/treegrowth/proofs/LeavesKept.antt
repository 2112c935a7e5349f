-- The rectangles of data nodes after splits, and below a new root.
use Rattle.std.proofs.Common.{◌≡◌, ◌≢◌, ℕ, ◌+◌, ◌<◌, List, [], ◌∷◌, ◌++◌, length, set, length-set, sym, ap, subst, ◌∙◌, ◌⊎◌, inl, inr, arith}
use Rattle.std.specs.Prelude.{slice_get}
use Rattle.keyrange.specs.Rect.{Area, Common}
use Rattle.keyrange.proofs.RectInside.{inside_itself, inner_is_common}
use Rattle.treenodes.specs.Node.{TreeNode, IsAt}
use Rattle.treenodes.specs.Tree.{IsTree}
use Rattle.treenodes.specs.Lookup.{IsParent}
use Rattle.treenodes.specs.Split.{Halved}
use Rattle.treenodes.proofs.NodeNumbers.{one_at, same_or_not, at_set, at_push, set_other, set_same, push_old, push_new}
use Rattle.treenodes.proofs.ReplacementParents.{refers, below_there}
use Rattle.treenodes.proofs.ReplacementKept.{one_above}
use Rattle.treegrowth.specs.Leaves.{IsLeafRect, HaveSameLeaves, IsLeafSplit}
use Rattle.treegrowth.specs.Places.{DoLeavesStay, DoOtherLeavesStay}
use Rattle.treegrowth.proofs.GrowthHalved.{Stands, Lower, Upper, Above, Other, stands, longer}

rect_at : (nodes : List TreeNode) (i : ℕ) (n : TreeNode) (area : Area) → IsAt nodes i n → n.level ≡ 0 → n.rect ≡ area → IsLeafRect nodes area
rect_at nodes i n area there bottom has = record { number = i; node = n; there = there; bottom = bottom; has = has }

level_of : (p q : TreeNode) → p ≡ q → p.level ≡ q.level
level_of p q is = ap (λ (n : TreeNode). n.level) is

module _ (before after : List TreeNode) (parent number : ℕ) (first second : TreeNode) (halved : Halved before after parent number first second) (tree : IsTree before) (h : IsParent before parent number) where
  -- no data node is a parent
  parent_high : 0 < h.node.level
  parent_high =
      let r = refers before tree parent number h in
      let up : h.node.level ≡ r.node.level + 1 = one_above before tree parent number h h.node r.node h.there (below_there before tree parent number h) in
      omega (arith, up)

  above_high : 0 < halved.above.level
  above_high = let same = (longer before after parent number first second halved tree h).level in omega (arith, same, parent_high)

  not_parent : (i : ℕ) (n : TreeNode) → IsAt before i n → n.level ≡ 0 → i ≢ parent
  not_parent i n there bottom same =
      let one : n.level ≡ h.node.level = level_of n h.node (one_at before parent n h.node (ap (slice_get before) (sym same) ∙ there) h.there) in
      omega (arith, one, bottom, parent_high)

  -- no data node but the split one changes
  pub others_stay : DoOtherLeavesStay number before after
  others_stay i q other there bottom = halved.others i q other (not_parent i q there bottom) there

  -- where index nodes are split, the data nodes stay
  module _ (n : TreeNode) (at : IsAt before number n) (high : 0 < n.level) (first_high : 0 < first.level) (second_high : 0 < second.level) where
    pub leaves_stay : DoLeavesStay before after
    leaves_stay i q there bottom = others_stay i q (λ same. let one = level_of q n (one_at before number q n (ap (slice_get before) (sym same) ∙ there) at) in omega (arith, one, bottom, high)) there bottom

    pub same_leaves : HaveSameLeaves before after
    same_leaves area = (back, forth)
      where
        back : IsLeafRect after area → IsLeafRect before area
        back leaf = by (stands before after parent number first second halved leaf.number leaf.node leaf.there)
          where
            by : Stands before after parent number first second halved leaf.number leaf.node → IsLeafRect before area
            by (Lower same is) = absurd (let one = level_of leaf.node first is in omega (arith, one, leaf.bottom, first_high))
            by (Upper same is) = absurd (let one = level_of leaf.node second is in omega (arith, one, leaf.bottom, second_high))
            by (Above same is) = absurd (let one = level_of leaf.node halved.above is in omega (arith, one, leaf.bottom, above_high))
            by (Other not_number differs there) = rect_at before leaf.number leaf.node area there leaf.bottom leaf.has

        forth : IsLeafRect before area → IsLeafRect after area
        forth leaf = rect_at after leaf.number leaf.node area (leaves_stay leaf.number leaf.node leaf.there leaf.bottom) leaf.bottom leaf.has

  -- where a data node is split, its halves take its place
  module _ (n : TreeNode) (at : IsAt before number n) (bottom : n.level ≡ 0) (areas : Area × Area) (first_bottom : first.level ≡ 0) (second_bottom : second.level ≡ 0) (first_is : first.rect ≡ areas.0) (second_is : second.rect ≡ areas.1) where
    pub leaf_split : IsLeafSplit before after n.rect areas
    leaf_split area = (back, forth)
      where
        back : IsLeafRect after area → (IsLeafRect before area × (area ≢ n.rect)) ⊎ ((area ≡ areas.0) ⊎ (area ≡ areas.1))
        back leaf = by (stands before after parent number first second halved leaf.number leaf.node leaf.there)
          where
            rect_of : (q : TreeNode) → leaf.node ≡ q → area ≡ q.rect
            rect_of q is = sym leaf.has ∙ ap (λ (n : TreeNode). n.rect) is

            by : Stands before after parent number first second halved leaf.number leaf.node → (IsLeafRect before area × (area ≢ n.rect)) ⊎ ((area ≡ areas.0) ⊎ (area ≡ areas.1))
            by (Lower same is) = inr (inl (rect_of first is ∙ first_is))
            by (Upper same is) = inr (inr (rect_of second is ∙ second_is))
            by (Above same is) = absurd (let one = level_of leaf.node halved.above is in omega (arith, one, leaf.bottom, above_high))
            by (Other not_number differs there) = inl (rect_at before leaf.number leaf.node area there leaf.bottom leaf.has, λ same. not_number (apart there (leaf.has ∙ same)))
              where
                apart : IsAt before leaf.number leaf.node → leaf.node.rect ≡ n.rect → leaf.number ≡ number
                apart there same = tree.apart leaf.number number leaf.node n there at (leaf.bottom ∙ sym bottom)
                    (subst (Common leaf.node.rect) same (inner_is_common leaf.node.rect leaf.node.rect leaf.node.rect (tree.areas leaf.number leaf.node there) (inside_itself leaf.node.rect) (inside_itself leaf.node.rect)))

        forth : (IsLeafRect before area × (area ≢ n.rect)) ⊎ ((area ≡ areas.0) ⊎ (area ≡ areas.1)) → IsLeafRect after area
        forth (inl (leaf, differs)) = rect_at after leaf.number leaf.node area
            (halved.others leaf.number leaf.node (λ same. differs (sym leaf.has ∙ ap (λ (n : TreeNode). n.rect) (one_at before number leaf.node n (ap (slice_get before) (sym same) ∙ leaf.there) at)))
            (not_parent leaf.number leaf.node leaf.there leaf.bottom) leaf.there)
            leaf.bottom leaf.has
        forth (inr (inl is)) = rect_at after number first area halved.first_there first_bottom (first_is ∙ sym is)
        forth (inr (inr is)) = rect_at after (length before) second area halved.second_there second_bottom (second_is ∙ sym is)

pub same_then : (a b c : List TreeNode) → HaveSameLeaves a b → HaveSameLeaves b c → HaveSameLeaves a c
same_then a b c one two area = (λ leaf. (one area).0 ((two area).0 leaf), λ leaf. (two area).1 ((one area).1 leaf))

pub split_then : (a b c : List TreeNode) (split : Area) (areas : Area × Area) → IsLeafSplit a b split areas → HaveSameLeaves b c → IsLeafSplit a c split areas
split_then a b c split areas one two area = (λ leaf. (one area).0 ((two area).0 leaf), λ h. (two area).1 ((one area).1 h))

pub then_split : (a b c : List TreeNode) (split : Area) (areas : Area × Area) → HaveSameLeaves a b → IsLeafSplit b c split areas → IsLeafSplit a c split areas
then_split a b c split areas one two area = (λ leaf. back ((two area).0 leaf), λ h. (two area).1 (forth h))
  where
    back : (IsLeafRect b area × (area ≢ split)) ⊎ ((area ≡ areas.0) ⊎ (area ≡ areas.1)) → (IsLeafRect a area × (area ≢ split)) ⊎ ((area ≡ areas.0) ⊎ (area ≡ areas.1))
    back (inl (leaf, differs)) = inl ((one area).0 leaf, differs)
    back (inr h) = inr h

    forth : (IsLeafRect a area × (area ≢ split)) ⊎ ((area ≡ areas.0) ⊎ (area ≡ areas.1)) → (IsLeafRect b area × (area ≢ split)) ⊎ ((area ≡ areas.0) ⊎ (area ≡ areas.1))
    forth (inl (leaf, differs)) = inl ((one area).1 leaf, differs)
    forth (inr h) = inr h

-- ---- below a new root

module _ (nodes : List TreeNode) (root top : TreeNode) (at : IsAt nodes 0 root) (high : 0 < top.level) where
  abbrev pub raised : List TreeNode
  raised = set nodes 0 top ++ root ∷ []

  pub data Raised (i : ℕ) (n : TreeNode) : Type 0 where
    Top : i ≡ 0 → n ≡ top → Raised i n
    Old : i ≡ length nodes → n ≡ root → Raised i n
    Rest : i ≢ 0 → IsAt nodes i n → Raised i n

  pub stands_raised : (i : ℕ) (n : TreeNode) → IsAt raised i n → Raised i n
  stands_raised i n there = elim (at_push (set nodes 0 top) root i n there) [
    | inl e ↦ Old (e.0 ∙ length-set nodes 0 top) e.1
    | inr h ↦ elim (at_set nodes 0 top i n h) [ inl e ↦ Top e.0 e.1 | inr e ↦ Rest e.0 e.1 ]
  ]

  pub top_there : IsAt raised 0 top
  top_there = push_old (set nodes 0 top) root 0 top (set_same nodes 0 top root at)

  pub root_there : IsAt raised (length nodes) root
  root_there = subst (λ i. IsAt raised i root) (length-set nodes 0 top) (push_new (set nodes 0 top) root)

  pub rest_there : (i : ℕ) (n : TreeNode) → i ≢ 0 → IsAt nodes i n → IsAt raised i n
  rest_there i n other there = push_old (set nodes 0 top) root i n (set_other nodes 0 top i n other there)

  pub raised_leaves : HaveSameLeaves nodes raised
  raised_leaves area = (back, forth)
    where
      back : IsLeafRect raised area → IsLeafRect nodes area
      back leaf = by (stands_raised leaf.number leaf.node leaf.there)
        where
          by : Raised leaf.number leaf.node → IsLeafRect nodes area
          by (Top same is) = absurd (let one = level_of leaf.node top is in omega (arith, one, leaf.bottom, high))
          by (Old same is) = rect_at nodes 0 root area at (level_of root leaf.node (sym is) ∙ leaf.bottom) (ap (λ (n : TreeNode). n.rect) (sym is) ∙ leaf.has)
          by (Rest other there) = rect_at nodes leaf.number leaf.node area there leaf.bottom leaf.has

      forth : IsLeafRect nodes area → IsLeafRect raised area
      forth leaf = by (same_or_not leaf.number 0)
        where
          by : (leaf.number ≡ 0) ⊎ (leaf.number ≢ 0) → IsLeafRect raised area
          by (inl same) =
              let is : leaf.node ≡ root = one_at nodes 0 leaf.node root (ap (slice_get nodes) (sym same) ∙ leaf.there) at in
              rect_at raised (length nodes) root area root_there (level_of root leaf.node (sym is) ∙ leaf.bottom) (ap (λ (n : TreeNode). n.rect) (sym is) ∙ leaf.has)
          by (inr other) = rect_at raised leaf.number leaf.node area (rest_there leaf.number leaf.node other leaf.there) leaf.bottom leaf.has
