-- Rectangles that lie in one another, and halves.
use Rattle.std.proofs.Common.{◌≡◌, ℕ, Bool, true, false, not, List, sym, ap, ◌∙◌, inl, inr, arith}
use Rattle.std.specs.Prelude.{◌&&◌, nat_le, nat_lt}
use Rattle.std.proofs.lemmas.Bool.{le-leb, leb-true, and_parts, and_from}
use Rattle.values.specs.Commits.{max_instant}
use Rattle.keyrange.specs.Range.{is_before_end, is_below, is_early, is_key_in, is_time_in}
use Rattle.keyrange.specs.Rect.{Area, IsArea, IsInside, has_point, Common}
use Rattle.keyrange.specs.Cut.{AreHalves, PartsKeys, PartsTime}
use Rattle.keyrange.proofs.RangeOrder.{not_itself}

-- ---- the first point of a rectangle

pub record AreaFacts (r : Area) : Type 0 where
  pub has_key : is_before_end r.keys.lo r.keys.hi ≡ true
  pub from_first : nat_le 1 r.time.from ≡ true
  pub to_last : nat_le r.time.from max_instant ≡ true
  pub has_instant : is_early r.time.from r.time.to ≡ true

pub facts_of : (r : Area) → IsArea r → AreaFacts r
facts_of r h =
    let rest = (and_parts (is_before_end r.keys.lo r.keys.hi) _ h).1 in
    let more = (and_parts (nat_le 1 r.time.from) _ rest).1 in
    let last = (and_parts (nat_le r.time.from max_instant) _ more).1 in
    record {
      has_key = (and_parts _ _ h).0;
      from_first = (and_parts _ _ rest).0;
      to_last = (and_parts _ _ more).0;
      has_instant = (and_parts (is_early r.time.from r.time.to) _ last).0;
    }

pub first_key_in : (r : Area) → IsArea r → is_key_in r.keys r.keys.lo ≡ true
first_key_in r h = and_from _ _ (ap not (not_itself r.keys.lo)) (facts_of r h).has_key

pub first_instant_in : (r : Area) → IsArea r → is_time_in r.time r.time.from ≡ true
first_instant_in r h = and_from _ _ (le-leb r.time.from r.time.from (omega arith)) (facts_of r h).has_instant

-- ---- rectangles that lie in one another

pub inside_itself : (r : Area) → IsInside r r
inside_itself r key instant h = h

pub inside_outer : (a b c : Area) → IsInside a b → IsInside b c → IsInside a c
inside_outer a b c h k key instant is = k key instant (h key instant is)

pub inner_is_common : (r a b : Area) → IsArea r → IsInside r a → IsInside r b → Common a b
inner_is_common r a b area in_a in_b =
    let has : has_point r r.keys.lo r.time.from ≡ true = and_from _ _ (first_key_in r area) (first_instant_in r area) in
    record {
      key = r.keys.lo;
      instant = r.time.from;
      is_first = leb-true 1 r.time.from (facts_of r area).from_first;
      is_last = leb-true r.time.from max_instant (facts_of r area).to_last;
      in_first = in_a r.keys.lo r.time.from has;
      in_second = in_b r.keys.lo r.time.from has;
    }

pub common_to_outer : (a b c : Area) → IsInside a b → Common a c → Common b c
common_to_outer a b c h k = record {
  key = k.key;
  instant = k.instant;
  is_first = k.is_first;
  is_last = k.is_last;
  in_first = h k.key k.instant k.in_first;
  in_second = k.in_second;
}

pub common_either_way : (a b : Area) → Common a b → Common b a
common_either_way a b k = record {
  key = k.key;
  instant = k.instant;
  is_first = k.is_first;
  is_last = k.is_last;
  in_first = k.in_second;
  in_second = k.in_first;
}

-- ---- halves

module _ (r first second : Area) (cut : List ℕ) (parts : PartsKeys r first second cut) where
  pub below_inside : IsInside first r
  below_inside key instant h = (and_parts _ _ (sym (parts.below key instant) ∙ h)).0

  pub above_inside : IsInside second r
  above_inside key instant h = (and_parts _ _ (sym (parts.above key instant) ∙ h)).0

module _ (r first second : Area) (cut : ℕ) (parts : PartsTime r first second cut) where
  pub past_inside : IsInside first r
  past_inside key instant h = (and_parts _ _ (sym (parts.before key instant) ∙ h)).0

  pub now_inside : IsInside second r
  now_inside key instant h = (and_parts _ _ (sym (parts.after key instant) ∙ h)).0

pub halves_inside : (r first second : Area) → AreHalves r first second → IsInside first r × IsInside second r
halves_inside r first second (inl h) = (below_inside r first second h.0 h.1, above_inside r first second h.0 h.1)
halves_inside r first second (inr h) = (past_inside r first second h.0 h.1, now_inside r first second h.0 h.1)

either : (a t : Bool) → (a && t) ≡ true → (a && not t) ≡ true → ⊥
either true true e f = cc
either true false e f = cc
either false t e f = cc

pub halves_apart : (r first second : Area) → AreHalves r first second → Common first second → ⊥
halves_apart r first second (inl h) k =
    either (has_point r k.key k.instant) (is_below k.key h.0) (sym (h.1.below k.key k.instant) ∙ k.in_first) (sym (h.1.above k.key k.instant) ∙ k.in_second)
halves_apart r first second (inr h) k =
    either (has_point r k.key k.instant) (nat_lt k.instant h.0) (sym (h.1.before k.key k.instant) ∙ k.in_first) (sym (h.1.after k.key k.instant) ∙ k.in_second)
