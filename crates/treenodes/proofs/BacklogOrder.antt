-- The order in which nodes are packed.
use Rattle.std.proofs.Common.{◌≡◌, ◌≢◌, ℕ, ◌<◌, Bool, true, false, List, length, get_or, Option, Some, None, refl, sym, ap, subst, ◌∙◌, inl, inr, arith}
use Rattle.std.specs.Prelude.{slice_index, All}
use Rattle.std.specs.List.Sorted.{IsPartitionedBy}
use Rattle.std.specs.Cmp.{IsTotalOrder, on_total, then_total, nat_cmp_total, tied_itself}
use Rattle.std.specs.Cmp.Lexicographic.{nat_list_cmp_total}
use Rattle.std.specs.FinMap.{nat_cmp-IsAntisymmetric}
use Rattle.std.specs.Ordering.{nat_cmp, ordering_then, ordering_reverse, is_lt}
use Rattle.std.specs.declared.cmp.Ordering.{Ordering}
use Rattle.std.specs.declared.cmp.Ordering.TheVariants.{Less, Equal, Greater}
use Rattle.std.proofs.lemmas.Bool.{cases_lt}
use Rattle.std.proofs.lemmas.List.{get_or_default}
use Rattle.keyrange.specs.Rect.{Area}
use Rattle.treenodes.specs.Node.{TreeNode, IsAt}
use Rattle.treenodes.specs.Backlog.{start_cmp, turn_cmp, comes_after, IsUnpackedAt, AreFalling}

pub start_total : IsTotalOrder start_cmp
start_total = then_total (on_total (λ (r : Area). r.time.from) nat_cmp_total) (on_total (λ (r : Area). r.keys.lo) nat_list_cmp_total)

pub turn_total : IsTotalOrder turn_cmp
turn_total = then_total (on_total (λ (t : Area × ℕ). t.0) start_total) (on_total (λ (t : Area × ℕ). t.1) nat_cmp_total)

pub is_less : (o : Ordering) → is_lt o ≡ true → o ≡ Less
is_less Less h = refl
is_less Equal h = absurd (cc)
is_less Greater h = absurd (cc)

then_equal : (o p : Ordering) → ordering_then o p ≡ Equal → p ≡ Equal
then_equal Less p h = absurd (cc)
then_equal Equal p h = h
then_equal Greater p h = absurd (cc)

-- of two with different numbers one comes after the other
pub other_way : (r s : Area) (i j : ℕ) → i ≢ j → is_lt (turn_cmp (r, i) (s, j)) ≡ false → is_lt (turn_cmp (s, j) (r, i)) ≡ true
other_way r s i j apart h = ap is_lt (turn_total.antisymm (s, j) (r, i)) ∙ by (turn_cmp (r, i) (s, j)) refl h
  where
    by : (o : Ordering) → turn_cmp (r, i) (s, j) ≡ o → is_lt o ≡ false → is_lt (ordering_reverse o) ≡ true
    by Less is h = absurd (cc)
    by Equal is h = absurd (apart (nat_cmp-IsAntisymmetric i j (then_equal (start_cmp r s) (nat_cmp i j) is)))
    by Greater is h = refl

module _ (nodes : List TreeNode) where
  pub later_is : (r : Area) (o i : ℕ) (n : TreeNode) → IsAt nodes i n → comes_after nodes r o i ≡ is_lt (turn_cmp (r, o) (n.rect, i))
  later_is r o i n at = ap (λ (x : Option TreeNode). elim x [ None ↦ false | Some n ↦ is_lt (turn_cmp (r, o) (n.rect, i)) ]) at

  pub never_itself : (i : ℕ) (n : TreeNode) → IsAt nodes i n → comes_after nodes n.rect i i ≡ true → ⊥
  never_itself i n at h =
      let never : ◌≡◌ {A = Bool} false true = sym (ap is_lt (tied_itself turn_total (n.rect, i))) ∙ sym (later_is n.rect i i n at) ∙ h in
      cc

  pub chained : (r : Area) (o j i : ℕ) (p n : TreeNode) → IsAt nodes j p → IsAt nodes i n → comes_after nodes r o j ≡ true → comes_after nodes p.rect j i ≡ true → comes_after nodes r o i ≡ true
  chained r o j i p n at_j at_i h k =
      later_is r o i n at_i
      ∙ ap is_lt (turn_total.trans (r, o) (p.rect, j) (n.rect, i) (is_less _ (sym (later_is r o j p at_j) ∙ h)) (is_less _ (sym (later_is p.rect j i n at_i) ∙ k)))

  module _ (numbers : List ℕ) (each : All (IsUnpackedAt nodes) numbers) (falling : AreFalling nodes numbers) where
    pub at_place : (k : ℕ) → k < length numbers → IsUnpackedAt nodes (slice_index numbers k)
    at_place k lt = each k 0 lt

    -- those that come after one stand first
    pub parts : (r : Area) (o : ℕ) → IsPartitionedBy (comes_after nodes r o) numbers
    parts r o i j d le lt h = elim (cases_lt i j) [
      | inl less ↦ (
          let lower = at_place j lt in
          let upper = at_place i (omega (arith, less, lt)) in
          subst (λ x. comes_after nodes r o x ≡ true) (get_or_default numbers i 0 d (omega (arith, less, lt)))
          (chained r o (slice_index numbers j) (slice_index numbers i) lower.node upper.node lower.there upper.there (subst (λ x. comes_after nodes r o x ≡ true) (get_or_default numbers j d 0 lt) h) (falling i j lower.node less lt lower.there)))
      | inr more ↦ (let same : j ≡ i = omega (arith, more, le) in subst (λ x. comes_after nodes r o (get_or numbers x d) ≡ true) same h)
    ]
