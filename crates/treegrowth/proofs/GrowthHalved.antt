-- What a split leaves: which nodes are within capacity, and the parent that has one reference more.
use Rattle.std.proofs.Common.{◌≡◌, ◌≢◌, ℕ, zero, suc, ◌+◌, ◌-◌, ◌<◌, ◌≤◌, List, [], ◌∷◌, length, get_or, Some, None, refl, sym, ap, subst, ◌∙◌, ◌⊎◌, inl, inr, arith}
use Rattle.std.specs.Prelude.{slice_get}
use Rattle.std.proofs.lemmas.Bool.{cases_lt}
use Rattle.std.proofs.lemmas.List.{get_or_default}
use Rattle.std.proofs.lemmas.Option.{slice_get_within}
use Rattle.datanode.specs.Node.{capacity}
use Rattle.treenodes.specs.Node.{Content, Events, References, TreeNode, IsAt, IsIndexNode, count_of, references_of}
use Rattle.treenodes.specs.Tree.{IsTree}
use Rattle.treenodes.specs.Lookup.{IsParent}
use Rattle.treenodes.specs.Sound.{AreWithinCapacity}
use Rattle.treenodes.specs.Split.{Halved, IsLonger}
use Rattle.treenodes.proofs.NodeNumbers.{one_at, same_or_not}
use Rattle.treenodes.proofs.ReplacementParents.{refers, below_there, is_index}
use Rattle.treenodes.proofs.ReplacementKept.{parent_kept, one_above}
use Rattle.treegrowth.specs.Growth.{AreOthersSmall, IsGrownIndex, IsWayDown}
use Rattle.treegrowth.proofs.GrowthParents.{parent_is_current, earlier_differs, shorter}

pub positive : (n : ℕ) → (n ≡ 0 → ⊥) → 0 < n
positive zero none = absurd (none refl)
positive (suc n) none = omega arith

pub some_at : {X : Type 0} (xs : List X) (i : ℕ) → i < length xs → (x : X) × (slice_get xs i ≡ Some x)
some_at [] i lt = absurd (omega arith)
some_at (x ∷ xs) zero lt = (x, refl)
some_at (x ∷ xs) (suc i) lt = some_at xs i (omega arith)

counted : (c : Content) → IsIndexNode c → count_of c ≡ length (references_of c)
counted (Events es) h = absurd h
counted (References rs) h = refl

module _ (before after : List TreeNode) (parent number : ℕ) (first second : TreeNode) (halved : Halved before after parent number first second) where
  -- a node after the split is a half, the parent, or as it was
  pub data Stands (i : ℕ) (n : TreeNode) : Type 0 where
    Lower : i ≡ number → n ≡ first → Stands i n
    Upper : i ≡ length before → n ≡ second → Stands i n
    Above : i ≡ parent → n ≡ halved.above → Stands i n
    Other : i ≢ number → i ≢ parent → IsAt before i n → Stands i n

  pub stands : (i : ℕ) (n : TreeNode) → IsAt after i n → Stands i n
  stands i n at = by (same_or_not i number) (same_or_not i parent) (cases_lt i (length before))
    where
      here : (j : ℕ) (m : TreeNode) → IsAt after j m → i ≡ j → n ≡ m
      here j m there same = one_at after j n m (ap (slice_get after) (sym same) ∙ at) there

      by : (i ≡ number) ⊎ (i ≢ number) → (i ≡ parent) ⊎ (i ≢ parent) → (i < length before) ⊎ (length before ≤ i) → Stands i n
      by (inl same) q r = Lower same (here number first halved.first_there same)
      by (inr not_number) (inl same) r = Above same (here parent halved.above halved.above_there same)
      by (inr not_number) (inr not_parent) (inl lt) =
          let old = some_at before i lt in
          Other not_number not_parent (subst (IsAt before i) (one_at after i old.0 n (halved.others i old.0 not_number not_parent old.1) at) old.1)
      by (inr not_number) (inr not_parent) (inr ge) =
          let lt = slice_get_within after i n at in
          let last : i ≡ length before = omega (arith, lt, ge, halved.long) in
          Upper last (here (length before) second halved.second_there last)

  pub others_small : AreOthersSmall before number → count_of first.content ≤ capacity → count_of second.content ≤ capacity → AreOthersSmall after parent
  others_small small lower upper i n not_parent at = by (stands i n at)
    where
      by : Stands i n → count_of n.content ≤ capacity
      by (Lower same is) = subst (λ (n : TreeNode). count_of n.content ≤ capacity) (sym is) lower
      by (Upper same is) = subst (λ (n : TreeNode). count_of n.content ≤ capacity) (sym is) upper
      by (Above same is) = absurd (not_parent same)
      by (Other not_number differs there) = small i n not_number there

  pub all_small : AreOthersSmall after parent → count_of halved.above.content ≤ capacity → AreWithinCapacity after
  all_small small few i n at = by (same_or_not i parent)
    where
      by : (i ≡ parent) ⊎ (i ≢ parent) → count_of n.content ≤ capacity
      by (inl same) = subst (λ (n : TreeNode). count_of n.content ≤ capacity) (one_at after parent halved.above n halved.above_there (ap (slice_get after) (sym same) ∙ at)) few
      by (inr other) = small i n other at

  module _ (tree : IsTree before) (h : IsParent before parent number) where
    pub longer : IsLonger h.node halved.above
    longer = halved.as_before h.node h.there

    -- the parent is not the node below it
    pub parent_differs : parent ≢ number
    parent_differs same =
        let r = refers before tree parent number h in
        let there = below_there before tree parent number h in
        let up : h.node.level ≡ r.node.level + 1 = one_above before tree parent number h h.node r.node h.there there in
        let one : h.node.level ≡ r.node.level = ap (λ (n : TreeNode). n.level) (one_at before number h.node r.node (ap (slice_get before) (sym same) ∙ h.there) there) in
        omega (arith, up, one)

    one_more : count_of halved.above.content ≡ count_of h.node.content + 1
    one_more = counted halved.above.content longer.index ∙ longer.more ∙ ap (λ n. n + 1) (sym (counted h.node.content (is_index before tree parent number h h.node h.there)))

    pub above_count : (k : ℕ) → count_of h.node.content ≤ k → count_of halved.above.content ≤ k + 1
    above_count k le = omega (arith, le, one_more)

    pub grown_parent : AreOthersSmall before number → (n : TreeNode) → IsAt before number n → n.rect.time.to ≡ None → IsGrownIndex after parent
    grown_parent small n at current = record {
      node = halved.above;
      there = halved.above_there;
      is_index = longer.index;
      grown = record {
        current = ap (λ a. a.time.to) longer.rect ∙ parent_is_current before tree parent number h n at current;
        count = above_count capacity (small parent h.node parent_differs h.there);
      };
    }

-- ---- along a way

module _ (before after : List TreeNode) (way : List ℕ) (depth : ℕ) (tree : IsTree before) (down : IsWayDown before way depth) (some : 0 < depth) where
  pub parent_on_way : (d : ℕ) → IsParent before (get_or way (depth - 1) d) (get_or way depth d)
  parent_on_way d = let is : depth - 1 + 1 ≡ depth = omega arith in subst (λ i. IsParent before (get_or way (depth - 1) d) (get_or way i d)) is (down.leads (depth - 1) d (omega arith))

  -- the way above a split node stays one
  pub way_kept : (d : ℕ) (first second : TreeNode) → Halved before after (get_or way (depth - 1) d) (get_or way depth d) first second → IsWayDown after way (depth - 1)
  way_kept d first second halved = record { within = (let lt = down.within in omega arith); from_root = down.from_root; leads = leads }
    where
      leads : (k e : ℕ) → k < depth - 1 → IsParent after (get_or way k e) (get_or way (k + 1) e)
      leads k e lt = parent_kept before after (get_or way (depth - 1) d) (get_or way depth d) first second halved (get_or way k e) (get_or way (k + 1) e)
          (λ same. earlier_differs before tree way depth down k e (omega arith) (same ∙ get_or_default way depth d e down.within))
          (λ same. earlier_differs before tree way (depth - 1) (shorter before tree way depth down some) k e lt (same ∙ get_or_default way (depth - 1) d e (shorter before tree way depth down some).within))
          (down.leads k e (omega arith))
