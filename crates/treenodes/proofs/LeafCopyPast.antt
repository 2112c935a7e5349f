-- A node that no event has come to since is what it was.
use Rattle.std.proofs.Common.{◌≡◌, ℕ, ◌<◌, ◌≤◌, Bool, true, false, cond, Option, Some, None, List, [], ◌∷◌, length, refl, sym, ap, subst, ◌∙◌, arith, inl, inr}
use Rattle.std.specs.List.{filter}
use Rattle.std.specs.Prelude.{nat_le, IsTrue}
use Rattle.std.proofs.lemmas.Bool.{ltb-true, leb-true, le-leb, and_parts}
use Rattle.std.proofs.lemmas.Bool.Decides.{Decides-and, Decides-like, same_from_decides}
use Rattle.values.specs.Event.{Event}
use Rattle.values.specs.Commits.{max_instant}
use Rattle.keyrange.specs.Rect.{Area, IsArea, has_point, is_instant_end}
use Rattle.keyrange.specs.Range.{is_before_end, is_early, is_key_in}
use Rattle.datanode.specs.Cut.{in_cut, cut}
use Rattle.datanode.proofs.CutMembers.{In-filter, In-from_filter, filter_alike, filter_twice}
use Rattle.datanode.proofs.CutLaws.{IsInCut, IsOvertaken, in_cut_decides, itself}
use Rattle.datanode.specs.Node.{Node}
use Rattle.treenodes.specs.Node.{TreeNode, IsAt, data_node}
use Rattle.treenodes.specs.Map.{HoldsMap}
use Rattle.treenodes.specs.LeafCopy.{NumberedNode, IsCopyIn, IsCopyOfPast, IsLike, until}

module _ (r : Area) (t : ℕ) (began : r.time.from ≤ t) (m : List Event) where
  abbrev early : Event → Bool
  early e = nat_le e.at t

  -- what has overtaken an event by the start has done so by the instant
  was_overtaken : (e : Event) → IsOvertaken m e r.time.from → IsOvertaken (until t m) e r.time.from
  was_overtaken e (d, i, o) = (d, In-filter early m d i (le-leb d.at t (let a : d.at ≤ r.time.from = o.until in omega (arith, began))), o)

  still_overtaken : (e : Event) → IsOvertaken (until t m) e r.time.from → IsOvertaken m e r.time.from
  still_overtaken e (d, i, o) = (d, (In-from_filter early m d i).0, o)

  kept_to : (e : Event) → (early e ≡ true) × IsInCut r (until t m) e → IsInCut r m e × (early e ≡ true)
  kept_to e h = ((h.1.0, elim h.1.1 [ inl w ↦ inl w | inr c ↦ inr (c.0, (c.1.0, λ o. c.1.1 (was_overtaken e o))) ]), h.0)

  kept_from : (e : Event) → IsInCut r m e × (early e ≡ true) → (early e ≡ true) × IsInCut r (until t m) e
  kept_from e h = (h.1, (h.0.0, elim h.0.1 [ inl w ↦ inl w | inr c ↦ inr (c.0, (c.1.0, λ o. c.1.1 (still_overtaken e o))) ]))

  -- the cut of what was there at an instant is what of the cut was there
  pub cut_until : cut r (until t m) ≡ until t (cut r m)
  cut_until =
      filter_twice early (in_cut r (until t m)) m
      ∙ filter_alike _ _ m (λ e i. same_from_decides _ _
      (Decides-like _ (kept_to e) (kept_from e) (Decides-and _ _ (itself (early e)) (in_cut_decides r (until t m) e)))
      (Decides-and _ _ (in_cut_decides r m e) (itself (early e))))
      ∙ sym (filter_twice (in_cut r m) early m)

-- ---- what a filter keeps all of

module _ {X : Type 0} (p : X → Bool) where
  shorter : (xs : List X) → length (filter p xs) ≤ length xs
  shorter [] = omega arith
  shorter (x ∷ xs) = elim (p x) as (λ b. length (cond b (x ∷ filter p xs) (filter p xs)) ≤ length (x ∷ xs)) [
    | true ↦ omega (arith, shorter xs)
    | false ↦ omega (arith, shorter xs)
  ]

  whole : (xs : List X) → length (filter p xs) ≡ length xs → filter p xs ≡ xs
  whole [] = λ e. refl
  whole (x ∷ xs) = elim (p x) as (λ b. length (cond b (x ∷ filter p xs) (filter p xs)) ≡ length (x ∷ xs) → cond b (x ∷ filter p xs) (filter p xs) ≡ x ∷ xs) [
    | true ↦ λ e. ap (λ l. x ∷ l) (whole xs (omega (arith, e)))
    | false ↦ λ e. absurd (let less = shorter xs in omega (arith, e, less))
  ]

-- ---- a node with as many events has the same ones

pub same_node : (nodes : List TreeNode) (m : List Event) (t : ℕ) (c : NumberedNode) → HoldsMap nodes m → IsCopyOfPast m t c → IsLike nodes t c → IsCopyIn nodes c
same_node nodes m t c holds past like =
    subst (λ (n : Node). IsAt nodes c.number (data_node n)) (λ i. record { rect = like.rect i; events = same i }) like.there
  where
    was : c.node.events ≡ until t like.node.events
    was =
        past.held.cuts c.number (data_node c.node) past.copied
        ∙ ap (λ r. cut r (until t m)) (sym like.rect)
        ∙ cut_until like.node.rect t like.began m
        ∙ ap (until t) (sym (holds.cuts c.number (data_node like.node) like.there))

    same : like.node.events ≡ c.node.events
    same = sym (was ∙ whole (λ e. nat_le e.at t) like.node.events (ap length (sym was) ∙ sym like.count))

-- ---- the node of a key at the last instant has not ended

abbrev pub IsCurrent : TreeNode → Type 0
IsCurrent n = n.rect.time.to ≡ None

pub is_current : (r : Area) (key : List ℕ) → IsArea r → IsTrue (has_point r key max_instant) → r.time.to ≡ None
is_current r key area has = by r.time.to (and_parts (nat_le r.time.from max_instant) _ (and_parts (is_key_in r.keys key) _ has).1).1 ends
  where
    ends : is_instant_end r.time.to ≡ true
    ends = (and_parts (is_early r.time.from r.time.to) _ (and_parts (nat_le r.time.from max_instant) _ (and_parts (nat_le 1 r.time.from) _ (and_parts (is_before_end r.keys.lo r.keys.hi) _ area).1).1).1).1

    by : (to : Option ℕ) → is_early max_instant to ≡ true → is_instant_end to ≡ true → to ≡ None
    by None early end = refl
    by (Some to) early end = absurd (let above : max_instant < to = ltb-true max_instant to early in let within : to ≤ max_instant = leb-true to max_instant end in omega arith)
