-- A cut of a cut is the cut of the inner rectangle.
use Rattle.std.proofs.Common.{◌≡◌, ℕ, ◌<◌, ◌≤◌, Bool, true, List, refl, sym, ap, ◌∙◌, ◌⊎◌, inl, inr, arith, Option, Some, None}
use Rattle.std.specs.Prelude.{is_some, nat_le}
use Rattle.std.specs.List.{filter, list_any}
use Rattle.std.specs.Bool.{Decides}
use Rattle.std.proofs.lemmas.Bool.{ltb-true, leb-true, lt-ltb, le-leb, cases_lt, and_parts, and_from}
use Rattle.std.proofs.lemmas.Bool.Decides.{Decides-and, Decides-or, Decides-not, Decides-like, Decides-ltb, same_from_decides}
use Rattle.values.specs.Event.{Event}
use Rattle.keyrange.specs.Rect.{Area, IsArea, IsInside}
use Rattle.keyrange.specs.Range.{is_early, is_key_in, is_time_in}
use Rattle.eventlist.specs.Overtaking.{overtakes}
use Rattle.eventlist.proofs.OvertakingNext.{Overtakes, overtakes_is, is_overtakes}
use Rattle.datanode.specs.Cut.{lies_in, is_carried, in_cut, cut}
use Rattle.datanode.specs.Law.{own}
use Rattle.datanode.proofs.CutMembers.{In, filter_alike, filter_twice, In-filter, In-from_filter, any_In}
use Rattle.keyrange.proofs.RectInside.{first_key_in, first_instant_in}

abbrev pub IsOvertaken : List Event → Event → ℕ → Type 0
IsOvertaken m e t = (d : Event) × In d m × Overtakes e t d

abbrev pub IsCarried : List Event → ℕ → Event → Type 0
IsCarried m t e = (e.at < t) × ((is_some e.row ≡ true) × (IsOvertaken m e t → ⊥))

abbrev pub IsTimeIn : Area → ℕ → Type 0
IsTimeIn r t = (r.time.from ≤ t) × (is_early t r.time.to ≡ true)

abbrev pub IsInCut : Area → List Event → Event → Type 0
IsInCut r m e = (is_key_in r.keys e.key ≡ true) × (IsTimeIn r e.at ⊎ IsCarried m r.time.from e)

pub Decides-leb : (a b : ℕ) → Decides (nat_le a b) (a ≤ b)
Decides-leb a b = (leb-true a b, le-leb a b)

pub itself : (b : Bool) → Decides b (b ≡ true)
itself b = (λ h. h, λ h. h)

pub overtaken_decides : (m : List Event) (e : Event) (t : ℕ) → Decides (list_any (overtakes e t) m) (IsOvertaken m e t)
overtaken_decides m e t = Decides-like _ (λ x. (x.0, x.1, overtakes_is e t x.0 x.2)) (λ x. (x.0, x.1, is_overtakes e t x.0 x.2)) (any_In (overtakes e t) m)

pub carried_decides : (m : List Event) (t : ℕ) (e : Event) → Decides (is_carried m t e) (IsCarried m t e)
unfolding is_carried
carried_decides m t e = Decides-and _ _ (Decides-ltb e.at t) (Decides-and _ _ (itself _) (Decides-not _ (overtaken_decides m e t)))

pub time_decides : (r : Area) (t : ℕ) → Decides (is_time_in r.time t) (IsTimeIn r t)
time_decides r t = Decides-and _ _ (Decides-leb r.time.from t) (itself _)

pub in_cut_decides : (r : Area) (m : List Event) (e : Event) → Decides (in_cut r m e) (IsInCut r m e)
unfolding in_cut
in_cut_decides r m e = Decides-and _ _ (itself _) (Decides-or _ _ (time_decides r e.at) (carried_decides m r.time.from e))

pub ends_earlier : (to : Option ℕ) (t u : ℕ) → t ≤ u → is_early u to ≡ true → is_early t to ≡ true
ends_earlier None t u h e = refl
ends_earlier (Some to) t u h e = let below : u < to = ltb-true u to e in lt-ltb t to (omega arith)

-- the inner rectangle lies in the outer one, which has not ended where the inner one begins
pub record Inside (s r : Area) : Type 0 where
  pub keys : (k : List ℕ) → is_key_in s.keys k ≡ true → is_key_in r.keys k ≡ true
  pub start : r.time.from ≤ s.time.from
  pub ends : (t : ℕ) → is_early t s.time.to ≡ true → is_early t r.time.to ≡ true
  pub first : is_early s.time.from r.time.to ≡ true

-- what it comes to that each point of the one is a point of the other
pub inside_of : (s r : Area) → IsArea s → IsInside s r → Inside s r
inside_of s r area h = record {
  keys = λ k is. (and_parts _ _ (h k s.time.from (and_from _ _ is (first_instant_in s area)))).0;
  start = leb-true r.time.from s.time.from (and_parts _ _ start).0;
  ends = λ t is. elim (cases_lt t s.time.from) [
    | inl early ↦ ends_earlier r.time.to t s.time.from (omega arith) (and_parts (nat_le r.time.from s.time.from) _ start).1
    | inr late ↦ (and_parts (nat_le r.time.from t) _ (and_parts (is_key_in r.keys s.keys.lo) _ (h s.keys.lo t (and_from _ _ (first_key_in s area) (and_from _ _ (le-leb s.time.from t late) is)))).1).1
  ];
  first = (and_parts (nat_le r.time.from s.time.from) _ start).1;
}
  where
    start : is_time_in r.time s.time.from ≡ true
    start = (and_parts (is_key_in r.keys s.keys.lo) _ (h s.keys.lo s.time.from (and_from _ _ (first_key_in s area) (first_instant_in s area)))).1

module _ (r s : Area) (inside : Inside s r) (m : List Event) where
  later_kept : (e : Event) → IsInCut r m e → (d : Event) → In d m → Overtakes e s.time.from d → IsInCut r m d
  later_kept e h d i o = (
    ap (is_key_in r.keys) (sym o.of_key) ∙ h.0,
    elim (cases_lt d.at r.time.from) [
      | inl early ↦ elim h.1 [
        | inl w ↦ absurd (let a : e.at < d.at = o.after in let b : r.time.from ≤ e.at = w.0 in omega arith)
        | inr c ↦ absurd (c.1.1 (d, i, record { of_key = o.of_key; after = o.after; until = omega arith }))
      ]
      | inr late ↦ inl (late, ends_earlier r.time.to d.at s.time.from o.until inside.first)
    ],
  )

  pub stays_overtaken : (e : Event) → IsInCut r m e → IsOvertaken m e s.time.from → IsOvertaken (cut r m) e s.time.from
  stays_overtaken e h (d, i, o) = (d, In-filter (in_cut r m) m d i ((in_cut_decides r m d).1 (later_kept e h d i o)), o)

  cut_law_to : (e : Event) → IsInCut r m e × IsInCut s (cut r m) e → IsInCut s m e
  cut_law_to e h = (h.1.0, elim h.1.1 [ inl w ↦ inl w | inr c ↦ inr (c.0, (c.1.0, λ o. c.1.1 (stays_overtaken e h.0 o))) ])

  pub was_overtaken : (e : Event) → IsOvertaken (cut r m) e s.time.from → IsOvertaken m e s.time.from
  was_overtaken e (d, i, o) = (d, (In-from_filter (in_cut r m) m d i).0, o)

  pub earlier_overtaken : (e : Event) → IsOvertaken m e r.time.from → IsOvertaken m e s.time.from
  earlier_overtaken e (d, i, o) = let a : d.at ≤ r.time.from = o.until in let b : r.time.from ≤ s.time.from = inside.start in (d, i, record { of_key = o.of_key; after = o.after; until = omega arith })

  pub in_outer : (e : Event) → IsInCut s m e → IsInCut r m e
  in_outer e h = elim h.1 [
    | inl w ↦ (let a : r.time.from ≤ s.time.from = inside.start in let b : s.time.from ≤ e.at = w.0 in
        (inside.keys e.key h.0, inl (omega arith, inside.ends e.at w.1)))
    | inr c ↦ (
      inside.keys e.key h.0,
      elim (cases_lt e.at r.time.from) [
        | inl early ↦ inr (early, (c.1.0, λ o. c.1.1 (earlier_overtaken e o)))
        | inr late ↦ inl (late, ends_earlier r.time.to e.at s.time.from (let a : e.at < s.time.from = c.0 in omega arith) inside.first)
      ],
    )
  ]

  cut_law_from : (e : Event) → IsInCut s m e → IsInCut r m e × IsInCut s (cut r m) e
  cut_law_from e h = (in_outer e h, (h.0, elim h.1 [ inl w ↦ inl w | inr c ↦ inr (c.0, (c.1.0, λ o. c.1.1 (was_overtaken e o))) ]))

  -- no order is asked of m
  pub cut-cut : cut s (cut r m) ≡ cut s m
  cut-cut = filter_twice (in_cut r m) (in_cut s (cut r m)) m ∙ filter_alike _ _ m (λ e i. same_from_decides _ _
      (Decides-like _ (cut_law_to e) (cut_law_from e) (Decides-and _ _ (in_cut_decides r m e) (in_cut_decides s (cut r m) e)))
      (in_cut_decides s m e))

  -- what passes a test in the outer cut is the inner cut, where the test agrees with it there
  pub filter_is_cut : (p : Event → Bool) → ((e : Event) → IsInCut r m e → Decides (p e) (IsInCut s m e)) → filter p (cut r m) ≡ cut s m
  filter_is_cut p h = filter_twice (in_cut r m) p m ∙ filter_alike _ _ m (λ e i. same_from_decides _ _
      (Decides-like _ (λ x. (h e x.0).0 x.1) (λ x. (in_outer e x, (h e (in_outer e x)).1 x)) (Decides-and _ _ (in_cut_decides r m e) (itself (p e))))
      (in_cut_decides s m e))

-- what a cut holds that is not is_carried is the map's part of its rectangle
pub own_cut : (r : Area) (m : List Event) → own r (cut r m) ≡ own r m
own_cut r m = filter_twice (in_cut r m) (lies_in r) m ∙ filter_alike _ (lies_in r) m (λ e i. same_from_decides _ _
    (Decides-like _ (λ h. h.1) (λ h. ((h.0, inl h.1), h)) (Decides-and _ _ (in_cut_decides r m e) (Decides-and _ _ (itself _) (time_decides r e.at))))
    (Decides-and _ _ (itself _) (time_decides r e.at)))
