-- When a key changes next, as a node at the key shows it.
use Rattle.std.proofs.Common.{◌≡◌, ℕ, ◌-◌, ◌+◌, ◌<◌, ◌≤◌, Bool, true, false, List, [], ◌∷◌, Option, Some, None, refl, sym, ap, subst, ◌∙◌, inl, inr, arith, if◌then◌else◌, nat_lt}
use Rattle.std.specs.Prelude.{◌&&◌, nat_le, is_some}
use Rattle.std.proofs.lemmas.Bool.{and_parts, and_from, cases_lt, ltb-true, leb-true, lt-ltb, false≢true}
use Rattle.std.proofs.lemmas.List.Kept.{IsStrictlySortedBy-filter}
use Rattle.values.specs.Event.{Event}
use Rattle.values.specs.Commits.{max_instant}
use Rattle.values.specs.Events.{is_bytes, event_cmp, event_until}
use Rattle.keyrange.specs.Rect.{Area, IsArea, is_instant_end, has_point}
use Rattle.keyrange.specs.Range.{is_before_end, is_early, is_key_in}
use Rattle.eventlist.proofs.PlaceOrder.{same_bytes, is_own, is_lower, sorted_tail}
use Rattle.datanode.specs.Cut.{IsMap, in_cut, cut}
use Rattle.datanode.specs.Node.{Node}
use Rattle.datanode.proofs.CutMembers.{In, In-filter, In-from_filter, some_is}
use Rattle.datanode.proofs.CutOrder.{head_below}
use Rattle.datanode.proofs.CutLaws.{in_cut_decides, time_decides, ends_earlier}
use Rattle.datanode.proofs.LawLast.{IsLastSuch, found_such, until_such}
use Rattle.datanode.specs.NextChange.{event_after}

-- ---- in a list

-- the key's first event above the instant
pub record IsFirst (es : List Event) (key : List ℕ) (after : ℕ) (e : Event) : Type 0 where
  pub there : In e es
  pub same : key ≡ e.key
  pub above : after < e.at
  pub first : (x : Event) → In x es → key ≡ x.key → after < x.at → e.at ≤ x.at

module _ (key : List ℕ) (after : ℕ) where
  abbrev such : Event → Bool
  such e = is_bytes key e.key && nat_lt after e.at

  is_such : (e : Event) → such e ≡ true → (key ≡ e.key) × (after < e.at)
  is_such e h = let p = and_parts (is_bytes key e.key) _ h in (same_bytes key e.key p.0, ltb-true after e.at p.1)

  such_is : (e : Event) → key ≡ e.key → after < e.at → such e ≡ true
  such_is e same above = and_from _ _ (subst (λ k. is_bytes key k ≡ true) same (is_own key)) (lt-ltb after e.at above)

  pub first_is : (es : List Event) (e : Event) → IsMap es → IsFirst es key after e → event_after es after key ≡ Some e.at
  first_is [] e map f = absurd f.there
  first_is (d ∷ ds) e map f = by (such d) refl f.there (λ i. first_is ds e (sorted_tail event_cmp d ds map) (record { there = i; same = f.same; above = f.above; first = λ x j. f.first x (inr j) }))
    where
      by : (b : Bool) → such d ≡ b → In e (d ∷ ds) → (In e ds → event_after ds after key ≡ Some e.at) → (if b then Some d.at else event_after ds after key) ≡ Some e.at
      by true is (inl q) rest = ap (λ (z : Event). Some z.at) q
      by true is (inr i) rest =
          let s = is_such d is in
          let lower : d.at < e.at = (is_lower d e (head_below d ds map e i)).same (sym s.0 ∙ f.same) in
          let le : e.at ≤ d.at = f.first d (inl refl) s.0 s.1 in
          absurd (omega arith)
      by false is (inl q) rest = absurd (false≢true (sym is ∙ ap such q ∙ such_is e f.same f.above))
      by false is (inr i) rest = rest i

  pub first_found : (es : List Event) (t : ℕ) → IsMap es → event_after es after key ≡ Some t → (e : Event) × (IsFirst es key after e × (e.at ≡ t))
  first_found [] t map h = cc
  first_found (d ∷ ds) t map h = by (such d) refl h (first_found ds t (sorted_tail event_cmp d ds map))
    where
      by : (b : Bool) → such d ≡ b → (if b then Some d.at else event_after ds after key) ≡ Some t
          → (event_after ds after key ≡ Some t → (e : Event) × (IsFirst ds key after e × (e.at ≡ t))) → (e : Event) × (IsFirst (d ∷ ds) key after e × (e.at ≡ t))
      by true is h rest = let s = is_such d is in (
        d,
        (
          record {
            there = inl refl;
            same = s.0;
            above = s.1;
            first = λ x i same above. elim i [
              | inl q ↦ (let eq : d.at ≡ x.at = ap (λ (z : Event). z.at) q in omega arith)
              | inr j ↦ (let lower : d.at < x.at = (is_lower d x (head_below d ds map x j)).same (sym s.0 ∙ same) in omega arith)
            ];
          },
          some_is d.at t h,
        ),
      )
      by false is h rest = let r = rest h in (
        r.0,
        (
          record {
            there = inr r.1.0.there;
            same = r.1.0.same;
            above = r.1.0.above;
            first = λ x i same above. elim i [
              | inl q ↦ absurd (false≢true (sym is ∙ ap such q ∙ such_is x same above))
              | inr j ↦ r.1.0.first x j same above
            ];
          },
          r.1.1,
        ),
      )

  pub none_is : (es : List Event) → ((x : Event) → In x es → key ≡ x.key → after < x.at → ⊥) → event_after es after key ≡ None
  none_is [] h = refl
  none_is (d ∷ ds) h = by (such d) refl (none_is ds (λ x i. h x (inr i)))
    where
      by : (b : Bool) → such d ≡ b → event_after ds after key ≡ None → (if b then Some d.at else event_after ds after key) ≡ None
      by true is rest = let s = is_such d is in absurd (h d (inl refl) s.0 s.1)
      by false is rest = rest

  pub none_found : (es : List Event) → event_after es after key ≡ None → (x : Event) → In x es → key ≡ x.key → after < x.at → ⊥
  none_found [] h x i same above = i
  none_found (d ∷ ds) h x i same above = by (such d) refl h i (λ k j. none_found ds k x j same above)
    where
      by : (b : Bool) → such d ≡ b → (if b then Some d.at else event_after ds after key) ≡ None → In x (d ∷ ds) → (event_after ds after key ≡ None → In x ds → ⊥) → ⊥
      by true is h i rest = cc
      by false is h (inl q) rest = false≢true (sym is ∙ ap such q ∙ such_is x same above)
      by false is h (inr j) rest = rest h j

-- each event of the key above the instant is at the other one or after it
abbrev pub AreFrom : List Event → List ℕ → ℕ → ℕ → Type 0
AreFrom m key after start = (x : Event) → In x m → key ≡ x.key → after < x.at → start ≤ x.at

-- so it is the first above what comes before that
pub moved : (m : List Event) (key : List ℕ) (after end : ℕ) → IsMap m → after < end → AreFrom m key after end → event_after m (end - 1) key ≡ event_after m after key
moved m key after end map lt from = by (event_after m (end - 1) key) refl
  where
    still : (x : Event) → In x m → key ≡ x.key → after < x.at → end - 1 < x.at
    still x i same above = let le : end ≤ x.at = from x i same above in omega arith

    by : (o : Option ℕ) → event_after m (end - 1) key ≡ o → o ≡ event_after m after key
    by None is = sym (none_is key after m (λ x i same above. none_found key (end - 1) m is x i same (still x i same above)))
    by (Some t) is =
        let f = first_found key (end - 1) m t map is in
        sym (first_is key after m f.0 map (record {
          there = f.1.0.there;
          same = f.1.0.same;
          above = (let above : end - 1 < f.0.at = f.1.0.above in omega arith);
          first = λ x i same above. f.1.0.first x i same (still x i same above);
        }) ∙ ap Some f.1.1)

-- ---- in a cut

-- an event of the key that the cut holds from the instant or before it: nothing happened from the instant until the start
pub known : (r : Area) (m : List Event) (key : List ℕ) (after : ℕ) (e : Event) → IsMap m → event_until (cut r m) key after ≡ Some e → AreFrom m key after r.time.from
known r m key after e map is x i same above = elim (cases_lt x.at r.time.from) [
  | inl early ↦ elim ((in_cut_decides r m e).0 in_map.1).1 [
    | inl w ↦ absurd (let from : r.time.from ≤ e.at = w.0 in let le : e.at ≤ after = until in omega arith)
    | inr c ↦ absurd (let le : e.at ≤ after = until in c.1.1 (x, i, record { of_key = sym of_key ∙ same; after = omega arith; until = omega arith }))
  ]
  | inr late ↦ late
]
  where
    of_cut : IsLastSuch (λ x. is_bytes key x.key && nat_le x.at after) (cut r m) e
    of_cut = found_such (λ x. is_bytes key x.key && nat_le x.at after) (cut r m) e (IsStrictlySortedBy-filter event_cmp (in_cut r m) m map) (sym (until_such (cut r m) key after) ∙ is)

    in_map : In e m × (in_cut r m e ≡ true)
    in_map = In-from_filter (in_cut r m) m e of_cut.there

    parts : (is_bytes key e.key ≡ true) × (nat_le e.at after ≡ true)
    parts = and_parts (is_bytes key e.key) _ of_cut.passes

    of_key : key ≡ e.key
    of_key = same_bytes key e.key parts.0

    until : e.at ≤ after
    until = leb-true e.at after parts.1

module _ (r : Area) (m : List Event) (map : IsMap m) (key : List ℕ) (after : ℕ) (in_range : is_key_in r.keys key ≡ true) (from : AreFrom m key after r.time.from) where
  -- what comes above the instant and before the end is in the cut
  own_in : (x : Event) → In x m → key ≡ x.key → after < x.at → is_early x.at r.time.to ≡ true → In x (cut r m)
  own_in x i same above early =
      In-filter (in_cut r m) m x i ((in_cut_decides r m x).1 (subst (λ k. is_key_in r.keys k ≡ true) same in_range, inl (from x i same above, early)))

  pub found_in : (t : ℕ) → event_after (cut r m) after key ≡ Some t → event_after m after key ≡ Some t
  found_in t is = first_is key after m e map (record {
    there = in_map.0;
    same = f.1.0.same;
    above = f.1.0.above;
    first = λ x i same above. elim (cases_lt x.at e.at) [ inl lt ↦ absurd (not_before x i same above lt) | inr le ↦ le ];
  }) ∙ ap Some f.1.1
    where
      f : (e : Event) × (IsFirst (cut r m) key after e × (e.at ≡ t))
      f = first_found key after (cut r m) t (IsStrictlySortedBy-filter event_cmp (in_cut r m) m map) is

      e : Event
      e = f.0

      in_map : In e m × (in_cut r m e ≡ true)
      in_map = In-from_filter (in_cut r m) m e f.1.0.there

      not_before : (x : Event) → In x m → key ≡ x.key → after < x.at → x.at < e.at → ⊥
      not_before x i same above lt = elim ((in_cut_decides r m e).0 in_map.1).1 [
        | inl w ↦ (let le : e.at ≤ x.at = f.1.0.first x (own_in x i same above (ends_earlier r.time.to x.at e.at (omega arith) w.1)) same above in omega arith)
        | inr c ↦ (let early : e.at < r.time.from = c.0 in let late : r.time.from ≤ x.at = from x i same above in omega arith)
      ]

  none_in : event_after (cut r m) after key ≡ None → (x : Event) → In x m → key ≡ x.key → after < x.at → is_early x.at r.time.to ≡ true → ⊥
  none_in is x i same above early = none_found key after (cut r m) is x (own_in x i same above early) same above

  pub none_last : event_after (cut r m) after key ≡ None → r.time.to ≡ None → event_after m after key ≡ None
  none_last is last = none_is key after m (λ x i same above. none_in is x i same above (ap (is_early x.at) last))

  pub none_until : (end : ℕ) → event_after (cut r m) after key ≡ None → r.time.to ≡ Some end → AreFrom m key after end
  none_until end is ends x i same above = elim (cases_lt x.at end) [
    | inl lt ↦ absurd (none_in is x i same above (ap (is_early x.at) ends ∙ lt-ltb x.at end lt))
    | inr le ↦ le
  ]

-- ---- as the code goes

-- a leaf of the key, before whose start no event of the key comes above the instant
pub record Tells (m : List Event) (key : List ℕ) (after : ℕ) (n : Node) : Type 0 where
  pub events_are : n.events ≡ cut n.rect m
  pub in_range : is_key_in n.rect.keys key ≡ true
  pub from : AreFrom m key after n.rect.time.from

-- the leaf at the next instant
pub next_leaf : (m : List Event) (key : List ℕ) (after : ℕ) (n : Node) → has_point n.rect key (after + 1) ≡ true → n.events ≡ cut n.rect m → Tells m key after n
next_leaf m key after n point are = record {
  events_are = are;
  in_range = (and_parts _ _ point).0;
  from = λ x i same above. (let time = (time_decides n.rect (after + 1)).0 (and_parts (is_key_in n.rect.keys key) _ point).1 in let le : n.rect.time.from ≤ after + 1 = time.0 in omega arith);
}

-- a leaf that holds an event of the key from the instant or before it
pub known_leaf : (m : List Event) → IsMap m → (key : List ℕ) (after instant : ℕ) (n : Node) → has_point n.rect key instant ≡ true → n.events ≡ cut n.rect m → (o : Option Event) → o ≡ event_until n.events key after → is_some o ≡ true → Tells m key after n
known_leaf m map key after instant n point are (Some e) is some = record {
  events_are = are;
  in_range = (and_parts _ _ point).0;
  from = known n.rect m key after e map (sym (is ∙ ap (λ es. event_until es key after) are));
}
known_leaf m map key after instant n point are None is some = cc

-- a node's end is above its points
pub ends_above : (r : Area) (key : List ℕ) (instant end : ℕ) → has_point r key instant ≡ true → r.time.to ≡ Some end → instant < end
ends_above r key instant end point ends = ltb-true instant end (sym (ap (is_early instant) ends) ∙ ((time_decides r instant).0 (and_parts (is_key_in r.keys key) _ point).1).1)

-- none that has points of the greatest instant ends
pub last_leaf : (r : Area) (key : List ℕ) → IsArea r → has_point r key max_instant ≡ true → r.time.to ≡ None
last_leaf r key area point = by r.time.to refl
  where
    by : (to : Option ℕ) → r.time.to ≡ to → to ≡ None
    by None is = refl
    by (Some end) is =
        let lt = ends_above r key max_instant end point is in
        let within = and_parts (is_early r.time.from r.time.to) _ (and_parts (nat_le r.time.from max_instant) _ (and_parts (nat_le 1 r.time.from) _ (and_parts (is_before_end r.keys.lo r.keys.hi) _ area).1).1).1 in
        let le = leb-true end max_instant (sym (ap is_instant_end is) ∙ within.1) in
        absurd (omega (arith, lt, le))

module _ (m : List Event) (map : IsMap m) (key : List ℕ) (after : ℕ) (n : Node) (tells : Tells m key after n) (o : Option ℕ) (is : o ≡ event_after n.events after key) where
  in_leaf : o ≡ event_after (cut n.rect m) after key
  in_leaf = is ∙ ap (λ es. event_after es after key) tells.events_are

  pub here : is_some o ≡ true → o ≡ event_after m after key
  here = by o refl
    where
      by : (x : Option ℕ) → o ≡ x → is_some x ≡ true → x ≡ event_after m after key
      by None at some = cc
      by (Some t) at some = sym (found_in n.rect m map key after tells.in_range tells.from t (sym in_leaf ∙ at))

  none_there : is_some o ≡ false → event_after (cut n.rect m) after key ≡ None
  none_there = by o refl
    where
      by : (x : Option ℕ) → o ≡ x → is_some x ≡ false → event_after (cut n.rect m) after key ≡ None
      by None at none = sym in_leaf ∙ at
      by (Some t) at none = cc

  pub nowhere : is_some o ≡ false → n.rect.time.to ≡ None → None ≡ event_after m after key
  nowhere none last = sym (none_last n.rect m map key after tells.in_range tells.from (none_there none) last)

  -- the last leaf of a key tells all
  pub at_last : n.rect.time.to ≡ None → o ≡ event_after m after key
  at_last last = by o refl
    where
      by : (x : Option ℕ) → o ≡ x → x ≡ event_after m after key
      by None at = nowhere (ap is_some at) last
      by (Some t) at = sym at ∙ here (ap is_some at)

  pub later_on : (end : ℕ) → is_some o ≡ false → n.rect.time.to ≡ Some end → after < end → event_after m (end - 1) key ≡ event_after m after key
  later_on end none ends lt = moved m key after end map lt (none_until n.rect m map key after tells.in_range tells.from end (none_there none) ends)

-- above the last instant there is none
pub none_late : (m : List Event) (key : List ℕ) (after last : ℕ) → ((x : Event) → In x m → x.at ≤ last) → last ≤ after → None ≡ event_after m after key
none_late m key after last upto le = sym (none_is key after m (λ x i same above. (let until : x.at ≤ last = upto x i in omega arith)))
