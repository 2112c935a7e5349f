-- Unpacked data nodes of a tree start apart.
use Rattle.std.proofs.Common.{◌≡◌, ℕ, ◌+◌, ◌<◌, true, List, [], ◌∷◌, ◌++◌, length, get_or, None, refl, sym, ap, subst, ◌∙◌, inl, inr, arith}
use Rattle.std.specs.Prelude.{◌&&◌, is_some, is_none}
use Rattle.std.specs.List.Sorted.{IsStrictlySortedBy}
use Rattle.std.specs.FinMap.{nat_cmp-IsAntisymmetric, slice_cmp-IsAntisymmetric}
use Rattle.std.specs.Ordering.{nat_cmp, ordering_then}
use Rattle.std.specs.declared.cmp.Ordering.{Ordering}
use Rattle.std.specs.declared.cmp.Ordering.TheVariants.{Less, Equal, Greater}
use Rattle.std.proofs.lemmas.Bool.{and_from, and_parts, cases_lt, leb-true}
use Rattle.std.proofs.lemmas.List.{get_or_append_left, get_or_push, length_push}
use Rattle.std.proofs.lemmas.Map.Keys.{Less-from_sorted, sorted_from_all_adjacent}
use Rattle.values.specs.Commits.{max_instant}
use Rattle.values.specs.Events.{bytes_cmp}
use Rattle.keyrange.specs.Rect.{Area, Common, IsArea}
use Rattle.keyrange.specs.Range.{is_key_in, is_time_in}
use Rattle.keyrange.proofs.RectInside.{facts_of, first_instant_in, first_key_in}
use Rattle.sessions.specs.treenodes.Node.{Content, Events, References, TreeNode, IsAt}
use Rattle.sessions.specs.treenodes.Tree.{HasContent, IsTree}
use Rattle.sessions.specs.treenodes.Backlog.{IsWaiting, is_data, start_cmp}
use Rattle.sessions.proofs.treenodes.BacklogOrder.{start_total}
use Rattle.sessions.proofs.treenodes.NodeNumbers.{one_at}

both_equal : (o p : Ordering) → ordering_then o p ≡ Equal → (o ≡ Equal) × (p ≡ Equal)
both_equal Less p h = absurd (cc)
both_equal Equal p h = (refl, h)
both_equal Greater p h = absurd (cc)

-- rectangles that start at one point have it in common
same_start : (r s : Area) → IsArea r → IsArea s → start_cmp r s ≡ Equal → Common r s
same_start r s area_r area_s h = record {
  key = r.keys.lo;
  instant = r.time.from;
  is_first = leb-true 1 r.time.from (facts_of r area_r).from_first;
  is_last = leb-true r.time.from max_instant (facts_of r area_r).to_last;
  in_first = and_from _ _ (first_key_in r area_r) (first_instant_in r area_r);
  in_second = and_from _ _
      (subst (λ k. is_key_in s.keys k ≡ true) (sym keys) (first_key_in s area_s))
      (subst (λ t. is_time_in s.time t ≡ true) (sym times) (first_instant_in s area_s));
}
  where
    equal : (nat_cmp r.time.from s.time.from ≡ Equal) × (bytes_cmp r.keys.lo s.keys.lo ≡ Equal)
    equal = both_equal (nat_cmp r.time.from s.time.from) (bytes_cmp r.keys.lo s.keys.lo) h

    times : r.time.from ≡ s.time.from
    times = nat_cmp-IsAntisymmetric r.time.from s.time.from equal.0

    keys : r.keys.lo ≡ s.keys.lo
    keys = slice_cmp-IsAntisymmetric nat_cmp-IsAntisymmetric r.keys.lo s.keys.lo equal.1

module _ (nodes : List TreeNode) (tree : IsTree nodes) where
  at_bottom : (level : ℕ) (rect : Area) (content : Content) → is_data content ≡ true → HasContent nodes level rect content → level ≡ 0
  at_bottom level rect (Events es) data_is h = h
  at_bottom level rect (References rs) data_is h = absurd (cc)

  bottom : (p : TreeNode) → IsWaiting nodes None p → p.level ≡ 0
  bottom p w = at_bottom p.level p.rect p.content (and_parts (is_data p.content) (is_some p.rect.time.to && is_none p.packed) w.unpacked).0 (tree.contents w.number p w.there)

  -- two that start at one point are one
  pub starts_apart : (p n : TreeNode) → IsWaiting nodes None p → IsWaiting nodes None n → start_cmp p.rect n.rect ≡ Equal → p.rect ≡ n.rect
  starts_apart p n w v h =
      let common : Common p.rect n.rect = same_start p.rect n.rect (tree.areas w.number p w.there) (tree.areas v.number n v.there) h in
      let same : w.number ≡ v.number = tree.apart w.number v.number p n w.there v.there (bottom p w ∙ sym (bottom n v)) common in
      ap (λ (x : TreeNode). x.rect) (one_at nodes v.number p n (subst (λ i. IsAt nodes i p) same w.there) v.there)

-- ---- rising

pub sorted_none : IsStrictlySortedBy start_cmp []
unfolding IsStrictlySortedBy
sorted_none = tt

pub sorted_one : (r : Area) → IsStrictlySortedBy start_cmp (r ∷ [])
sorted_one r = sorted_from_all_adjacent start_total (r ∷ []) r (λ k lt. absurd (omega arith))

pub sorted_more : (before : List Area) (r s : Area) → IsStrictlySortedBy start_cmp (before ++ r ∷ []) → start_cmp r s ≡ Less → IsStrictlySortedBy start_cmp ((before ++ r ∷ []) ++ s ∷ [])
sorted_more before r s sorted less = sorted_from_all_adjacent start_total ((before ++ r ∷ []) ++ s ∷ []) s adjacent
  where
    old : List Area
    old = before ++ r ∷ []

    count : length old ≡ length before + 1
    count = length_push before r

    adjacent : (k : ℕ) → k + 1 < length (old ++ s ∷ []) → start_cmp (get_or (old ++ s ∷ []) k s) (get_or (old ++ s ∷ []) (k + 1) s) ≡ Less
    adjacent k lt = elim (cases_lt (k + 1) (length old)) [
      | inl within ↦ (
          let here = get_or_append_left old (s ∷ []) s k (omega (arith, within)) in
          let next = get_or_append_left old (s ∷ []) s (k + 1) within in
          ap (λ x. start_cmp x (get_or (old ++ s ∷ []) (k + 1) s)) here ∙ ap (start_cmp (get_or old k s)) next ∙ Less-from_sorted start_cmp old k (k + 1) s sorted (omega arith) within)
      | inr past ↦ (
          let more = length_push old s in
          let place : k ≡ length before = omega (arith, past, lt, more, count) in
          let end : k + 1 ≡ length old = omega (arith, place, count) in
          let here = get_or_append_left old (s ∷ []) s k (omega (arith, end)) in
          let last = get_or_push before r s k (sym place) in
          let next = get_or_push old s s (k + 1) (sym end) in
          ap (λ x. start_cmp x (get_or (old ++ s ∷ []) (k + 1) s)) (here ∙ last) ∙ ap (start_cmp r) next ∙ less)
    ]
