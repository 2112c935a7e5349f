-- What the halves of a rectangle hold.
use Rattle.std.proofs.Common.{◌≡◌, ℕ, ◌<◌, ◌≤◌, Bool, true, false, ◌&&◌, ◌||◌, not, List, ◌++◌, Option, Some, None, refl, sym, ap, subst, ◌∙◌, ◌⊎◌, inl, inr, arith, cond}
use Rattle.std.specs.Prelude.{nat_le, nat_lt}
use Rattle.std.specs.List.{filter}
use Rattle.std.specs.Bool.{Decides}
use Rattle.std.proofs.lemmas.Bool.{ltb-true, lt-ltb, and_parts, and_from}
use Rattle.std.proofs.lemmas.Bool.Decides.{Decides-or}
use Rattle.std.proofs.lemmas.List.Kept.{IsStrictlySortedBy-filter}
use Rattle.values.specs.Event.{Event}
use Rattle.values.specs.Events.{event_cmp}
use Rattle.keyrange.specs.Rect.{Area, IsArea}
use Rattle.keyrange.specs.Range.{is_below, is_early, is_key_in}
use Rattle.keyrange.specs.Cut.{is_key_inside, is_time_inside, PartsKeys}
use Rattle.keyrange.proofs.CutHalves.{parts_keys, parts_time}
use Rattle.datanode.specs.Cut.{lies_in, is_carried, in_cut, cut}
use Rattle.datanode.specs.Law.{HoldOnce, KeyHalves, TimeHalves, CutOfCut, OwnOfCut, HalvesByKey, HalvesByTime}
use Rattle.datanode.proofs.CutMembers.{filter_alike, filter_twice, some_is}
use Rattle.keyrange.proofs.RectInside.{facts_of, first_instant_in}
use Rattle.datanode.proofs.CutLaws.{IsInCut, IsCarried, Inside, inside_of, Decides-leb, carried_decides, ends_earlier, cut-cut, filter_is_cut, own_cut}
use Rattle.datanode.proofs.CutOrder.{parted}

pub cut_of_cut : CutOfCut
cut_of_cut r s m area h = cut-cut r s (inside_of s r area h) m

pub own_of_cut : OwnOfCut
own_of_cut = own_cut

-- ---- once

mine : (x r b : Bool) → x ≡ (r && b) → x ≡ (r && x)
mine x true b e = refl
mine x false b e = e

others : (x y r b : Bool) → x ≡ (r && b) → y ≡ (r && not b) → y ≡ (r && not x)
others x y true b e f = f ∙ ap not (sym e)
others x y false b e f = f

-- where a test parts the points of the whole
pub held_once : (r a b : Area) (m : List Event) (p : Event → Bool) → ((e : Event) → lies_in a e ≡ (lies_in r e && p e)) → ((e : Event) → lies_in b e ≡ (lies_in r e && not (p e))) → HoldOnce r a b m
held_once r a b m p first second = record {
  in_first =
      own_cut a m ∙ filter_alike (lies_in a) (λ e. lies_in r e && lies_in a e) m (λ e i. mine (lies_in a e) (lies_in r e) (p e) (first e))
      ∙ sym (filter_twice (lies_in r) (lies_in a) m) ∙ ap (filter (lies_in a)) (sym (own_cut r m));
  in_second =
      own_cut b m ∙ filter_alike (lies_in b) (λ e. lies_in r e && not (lies_in a e)) m (λ e i. others (lies_in a e) (lies_in b e) (lies_in r e) (p e) (first e) (second e))
      ∙ sym (filter_twice (lies_in r) (λ e. not (lies_in a e)) m) ∙ ap (filter (λ e. not (lies_in a e))) (sym (own_cut r m));
}

-- ---- at a key

abbrev pub below_of : Area → List ℕ → Area
below_of r k = record { keys = record { lo = r.keys.lo; hi = Some k }; time = r.time }

abbrev pub above_of : Area → List ℕ → Area
above_of r k = record { keys = record { lo = k; hi = r.keys.hi }; time = r.time }

module _ (r : Area) (k : List ℕ) (area : IsArea r) (inside : is_key_inside r k ≡ true) where
  parts : PartsKeys r (below_of r k) (above_of r k) k
  parts = parts_keys r k inside

  key_in_below : (x : List ℕ) → is_key_in (below_of r k).keys x ≡ true → is_key_in r.keys x ≡ true
  key_in_below x is = (and_parts _ _ (and_parts _ _ (sym (parts.below x r.time.from) ∙ and_from _ _ is (first_instant_in r area))).0).0

  key_in_above : (x : List ℕ) → is_key_in (above_of r k).keys x ≡ true → is_key_in r.keys x ≡ true
  key_in_above x is = (and_parts _ _ (and_parts _ _ (sym (parts.above x r.time.from) ∙ and_from _ _ is (first_instant_in r area))).0).0

  pub below_inside : Inside (below_of r k) r
  below_inside = record { keys = key_in_below; start = omega arith; ends = λ t h. h; first = (facts_of r area).has_instant }

  pub above_inside : Inside (above_of r k) r
  above_inside = record { keys = key_in_above; start = omega arith; ends = λ t h. h; first = (facts_of r area).has_instant }

  module _ (m : List Event) where
    below_decides : (e : Event) → IsInCut r m e → Decides (is_below e.key k) (IsInCut (below_of r k) m e)
    below_decides e h = (
      λ is. (and_from (not (is_below e.key r.keys.lo)) _ (and_parts _ _ h.0).0 is, h.1),
      λ g. (and_parts (not (is_below e.key r.keys.lo)) _ g.0).1,
    )

    above_decides : (e : Event) → IsInCut r m e → Decides (not (is_below e.key k)) (IsInCut (above_of r k) m e)
    above_decides e h = (
      λ is. (and_from _ _ is (and_parts (not (is_below e.key r.keys.lo)) _ h.0).1, h.1),
      λ g. (and_parts _ _ g.0).0,
    )

    is_lower : cut (below_of r k) m ≡ filter (λ e. is_below e.key k) (cut r m)
    is_lower = sym (filter_is_cut r (below_of r k) below_inside m (λ e. is_below e.key k) below_decides)

    is_upper : cut (above_of r k) m ≡ filter (λ e. not (is_below e.key k)) (cut r m)
    is_upper = sym (filter_is_cut r (above_of r k) above_inside m (λ e. not (is_below e.key k)) above_decides)

    key_halves : KeyHalves r (below_of r k) (above_of r k) k m
    key_halves = record {
      once = held_once r (below_of r k) (above_of r k) m (λ e. is_below e.key k) (λ e. parts.below e.key e.at) (λ e. parts.above e.key e.at);
      lower = is_lower;
      upper = is_upper;
      joined = λ map. (λ i. is_lower i ++ is_upper i) ∙ parted k (cut r m) (IsStrictlySortedBy-filter event_cmp (in_cut r m) m map);
    }

-- what holds of two halves where the cut is inside holds of the pair that is made
of_pair : (c : Bool) (x y a b : Area) (P : Area → Area → Type 0) → (c ≡ true → P x y)
    → cond {A = Option (Area × Area)} c (Some (x, y)) None ≡ Some (a, b) → P a b
of_pair true x y a b P holds is =
    let pair = some_is (x, y) (a, b) is in
    let first : x ≡ a = ap (λ p. p.0) pair in
    let second : y ≡ b = ap (λ p. p.1) pair in
    subst (λ z. P a z) second (subst (λ z. P z y) first (holds refl))
of_pair false x y a b P holds is = cc

pub halves_at_key : HalvesByKey
halves_at_key r a b k m area e =
    of_pair (is_key_inside r k) (below_of r k) (above_of r k) a b (λ x y. KeyHalves r x y k m)
    (λ inside. key_halves r k area inside m) e

-- ---- at an instant

abbrev pub past_of : Area → ℕ → Area
past_of r t = record { keys = r.keys; time = record { from = r.time.from; to = Some t } }

abbrev pub now_of : Area → ℕ → Area
now_of r t = record { keys = r.keys; time = record { from = t; to = r.time.to } }

module _ (r : Area) (t : ℕ) (area : IsArea r) (inside : is_time_inside r t ≡ true) where
  starts : r.time.from < t
  starts = ltb-true r.time.from t (and_parts _ _ inside).0

  ends : is_early t r.time.to ≡ true
  ends = (and_parts (is_early t r.time.to) _ (and_parts (nat_lt r.time.from t) _ inside).1).0

  pub past_inside : Inside (past_of r t) r
  past_inside = record {
    keys = λ k h. h;
    start = omega arith;
    ends = λ u h. ends_earlier r.time.to u t (let a : u < t = ltb-true u t h in omega arith) ends;
    first = (facts_of r area).has_instant;
  }

  pub now_inside : Inside (now_of r t) r
  now_inside = record { keys = λ k h. h; start = (let a : r.time.from < t = starts in omega arith); ends = λ u h. h; first = ends }

  module _ (m : List Event) where
    past_decides : (e : Event) → IsInCut r m e → Decides (nat_lt e.at t) (IsInCut (past_of r t) m e)
    past_decides e h = (
      λ early. (h.0, elim h.1 [ inl w ↦ inl (w.0, early) | inr c ↦ inr c ]),
      λ g. elim g.1 [ inl w ↦ w.1 | inr c ↦ (let a : e.at < r.time.from = c.0 in let b : r.time.from < t = starts in lt-ltb e.at t (omega arith)) ],
    )

    now_to : (e : Event) → IsInCut r m e → (t ≤ e.at) ⊎ IsCarried m t e → IsInCut (now_of r t) m e
    now_to e h (inl late) = (h.0, elim h.1 [ inl w ↦ inl (late, w.1) | inr c ↦ absurd (let a : e.at < r.time.from = c.0 in let b : r.time.from < t = starts in omega arith) ])
    now_to e h (inr c) = (h.0, inr c)

    now_decides : (e : Event) → IsInCut r m e → Decides (nat_le t e.at || is_carried m t e) (IsInCut (now_of r t) m e)
    now_decides e h =
        let d = Decides-or _ _ (Decides-leb t e.at) (carried_decides m t e) in
        (λ is. now_to e h (d.0 is), λ g. d.1 (elim g.1 [ inl w ↦ inl w.0 | inr c ↦ inr c ]))

    time_halves : TimeHalves r (past_of r t) (now_of r t) t m
    time_halves = record {
      once = held_once r (past_of r t) (now_of r t) m (λ e. nat_lt e.at t) (λ e. (parts_time r t inside).before e.key e.at) (λ e. (parts_time r t inside).after e.key e.at);
      is_past = sym (filter_is_cut r (past_of r t) past_inside m (λ e. nat_lt e.at t) past_decides);
      is_now = sym (filter_is_cut r (now_of r t) now_inside m (λ e. nat_le t e.at || is_carried m t e) now_decides);
    }

pub halves_at_instant : HalvesByTime
halves_at_instant r a b t m area e =
    of_pair (is_time_inside r t) (past_of r t) (now_of r t) a b (λ x y. TimeHalves r x y t m)
    (λ inside. time_halves r t area inside m) e
