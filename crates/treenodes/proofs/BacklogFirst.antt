-- The first of what is to be packed.
use Rattle.std.proofs.Common.{◌≡◌, ℕ, ◌-◌, ◌<◌, ◌≤◌, Bool, true, false, List, length, Option, Some, None, refl, sym, ap, subst, ◌∙◌, inl, inr, arith}
use Rattle.std.specs.Prelude.{slice_index, IsTrue}
use Rattle.std.specs.List.Sorted.{IsPartitionPoint}
use Rattle.std.specs.Cmp.{tied_itself, ranks}
use Rattle.std.specs.Ordering.{MatchOrdering, nat_cmp, ordering_then, ordering_reverse, is_lt}
use Rattle.std.specs.declared.cmp.Ordering.{Ordering}
use Rattle.std.specs.declared.cmp.Ordering.TheVariants.{Less, Equal, Greater}
use Rattle.std.proofs.lemmas.Bool.{cases_lt}
use Rattle.std.proofs.lemmas.List.{get_or_default}
use Rattle.std.proofs.lemmas.Option.{slice_get_within}
use Rattle.keyrange.specs.Rect.{Area}
use Rattle.treenodes.specs.Node.{TreeNode, IsAt}
use Rattle.treenodes.specs.Backlog.{start_cmp, turn_cmp, comes_after, IsUnpackedAt, IsBacklog, IsBehind, AreBehind, IsWaiting, IsFirstWaitingAt}
use Rattle.treenodes.proofs.NodeNumbers.{one_at}
use Rattle.treenodes.proofs.BacklogOrder.{start_total, is_less, later_is}

-- two turns by their starts
starts_by : (o p : Ordering) → is_lt (ordering_then o p) ≡ true → is_lt (ordering_reverse o) ≡ false
starts_by Less p h = refl
starts_by Equal p h = refl
starts_by Greater p h = absurd (cc)

-- who does not come after, starts no earlier
not_earlier : (r s : Area) (i j : ℕ) → is_lt (turn_cmp (r, i) (s, j)) ≡ true → is_lt (start_cmp s r) ≡ false
not_earlier r s i j h = ap is_lt (start_total.antisymm s r) ∙ starts_by (start_cmp r s) (nat_cmp i j) h

module _ (nodes : List TreeNode) (numbers : List ℕ) (b : IsBacklog nodes numbers) where
  -- a rectangle with the number after the last comes before all that start after it, and before no other
  within : (n : TreeNode) (i : ℕ) → IsAt nodes i n → i < length nodes
  within n i at = slice_get_within nodes i n at

  nat_after : (i j : ℕ) → i < j → is_lt (nat_cmp j i) ≡ false
  nat_after i j lt = by (nat_cmp j i) (ranks j i)
    where
      by : (o : Ordering) → MatchOrdering o (j < i) (j ≡ i) (i < j) → is_lt o ≡ false
      by Less h = absurd (omega (arith, lt, h))
      by Equal h = refl
      by Greater h = refl

  starts : (r : Area) (n : TreeNode) (i : ℕ) → IsAt nodes i n → comes_after nodes r (length nodes) i ≡ true → IsTrue (is_lt (start_cmp r n.rect))
  starts r n i at h = by (start_cmp r n.rect) (sym (later_is nodes r (length nodes) i n at) ∙ h)
    where
      by : (o : Ordering) → is_lt (ordering_then o (nat_cmp (length nodes) i)) ≡ true → is_lt o ≡ true
      by Less k = refl
      by Equal k = (let never : ◌≡◌ {A = Bool} false true = sym (nat_after i (length nodes) (within n i at)) ∙ k in absurd (cc))
      by Greater k = k

  comes : (r : Area) (n : TreeNode) (i : ℕ) → IsAt nodes i n → IsTrue (is_lt (start_cmp r n.rect)) → comes_after nodes r (length nodes) i ≡ true
  comes r n i at h = later_is nodes r (length nodes) i n at ∙ ap (λ o. is_lt (ordering_then o (nat_cmp (length nodes) i))) (is_less (start_cmp r n.rect) h)

  pub behind_all : (after : Option Area) (place : ℕ) → after ≡ None → place ≡ length numbers → AreBehind nodes numbers after place
  behind_all after place none is = record {
    bound = omega (arith, is);
    below = λ k n lt at. subst (λ o. IsBehind o n.rect) (sym none) tt;
    others = λ k n le lt at h. omega (arith, is, le, lt);
  }

  pub behind_one : (after : Option Area) (r : Area) (place next : ℕ) → after ≡ Some r → next ≡ length nodes → place ≤ length numbers
      → IsPartitionPoint (λ i. comes_after nodes r next i ≡ true) (λ i. comes_after nodes r next i ≡ false) numbers place → AreBehind nodes numbers after place
  behind_one after r place next some is le given = record {
    bound = le;
    below = λ k n lt at. subst (λ o. IsBehind o n.rect) (sym some) (starts r n (slice_index numbers k) at (part.0 k 0 (omega arith) lt));
    others = λ k n from lt at h. let never : ◌≡◌ {A = Bool} false true = sym (part.1 k 0 from lt) ∙ comes r n (slice_index numbers k) at (subst (λ o. IsBehind o n.rect) some h) in cc;
  }
    where
      part : IsPartitionPoint (λ i. comes_after nodes r (length nodes) i ≡ true) (λ i. comes_after nodes r (length nodes) i ≡ false) numbers place
      part = subst (λ x. IsPartitionPoint (λ i. comes_after nodes r x i ≡ true) (λ i. comes_after nodes r x i ≡ false) numbers place) is given

  module _ (after : Option Area) (place : ℕ) (asks : AreBehind nodes numbers after place) where
    listed : (p : TreeNode) → IsWaiting nodes after p → (k : ℕ) × (k < place) × IsAt nodes (slice_index numbers k) p
    listed p w =
        let c = b.whole w.number (record { node = p; there = w.there; unpacked = w.unpacked }) in
        let here : slice_index numbers c.0 ≡ w.number = get_or_default numbers c.0 0 w.number c.1 ∙ c.2 in
        let at : IsAt nodes (slice_index numbers c.0) p = subst (λ i. IsAt nodes i p) (sym here) w.there in
        elim (cases_lt c.0 place) [
          | inl lt ↦ (c.0, lt, at)
          | inr le ↦ absurd (asks.others c.0 p le c.1 at w.behind)
        ]

    pub nobody : place ≡ 0 → (p : TreeNode) → IsWaiting nodes after p → ⊥
    nobody none p w = let l = listed p w in omega (arith, none, l.1)

    pub somebody : (place ≡ 0 → ⊥) → (number : ℕ) → number ≡ slice_index numbers (place - 1) → IsFirstWaitingAt nodes after number
    somebody some number is = record { node = last.node; there = subst (λ i. IsAt nodes i last.node) (sym is) last.there; first = record { waiting = waits; first = first } }
      where
        inside : place - 1 < length numbers
        inside = elim (cases_lt 0 place) [ inl lt ↦ omega (arith, lt, asks.bound) | inr le ↦ absurd (some (omega (arith, le))) ]

        positive : 0 < place
        positive = elim (cases_lt 0 place) [ inl lt ↦ lt | inr le ↦ absurd (some (omega (arith, le))) ]

        last : IsUnpackedAt nodes (slice_index numbers (place - 1))
        last = b.each (place - 1) 0 inside

        waits : IsWaiting nodes after last.node
        waits = record { number = slice_index numbers (place - 1); there = last.there; unpacked = last.unpacked; behind = asks.below (place - 1) last.node (omega (arith, positive)) last.there }

        same_start : (n p : TreeNode) → p ≡ n → is_lt (start_cmp p.rect n.rect) ≡ false
        same_start n p e = subst (λ (x : TreeNode). is_lt (start_cmp x.rect n.rect) ≡ false) (sym e) (ap is_lt (tied_itself start_total n.rect))

        first : (p : TreeNode) → IsWaiting nodes after p → is_lt (start_cmp p.rect last.node.rect) ≡ false
        first p w =
            let l = listed p w in
            elim (cases_lt l.0 (place - 1)) [
              | inl lt ↦ not_earlier last.node.rect p.rect (slice_index numbers (place - 1)) (slice_index numbers l.0)
                  (sym (later_is nodes last.node.rect (slice_index numbers (place - 1)) (slice_index numbers l.0) p l.2) ∙ b.falling l.0 (place - 1) last.node lt inside last.there)
              | inr le ↦ (let here : l.0 ≡ place - 1 = omega (arith, le, l.1) in same_start last.node p (one_at nodes (slice_index numbers (place - 1)) p last.node (subst (λ k. IsAt nodes (slice_index numbers k) p) here l.2) last.there))
            ]
