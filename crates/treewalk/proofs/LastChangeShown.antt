-- When a key was last changed, as a node at the key shows it.
use Rattle.std.proofs.Common.{◌≡◌, ℕ, ◌-◌, ◌<◌, ◌≤◌, Bool, true, false, List, [], ◌∷◌, Option, Some, None, refl, sym, ap, subst, ◌∙◌, inl, inr, arith, if◌then◌else◌, nat_lt}
use Rattle.std.specs.Prelude.{◌&&◌}
use Rattle.std.proofs.lemmas.Bool.{and_parts, and_from, cases_lt, ltb-true, lt-ltb}
use Rattle.std.proofs.lemmas.Bool.Decides.{nat_tests}
use Rattle.std.proofs.lemmas.List.Kept.{IsStrictlySortedBy-filter}
use Rattle.values.specs.Event.{Event}
use Rattle.values.specs.Events.{is_bytes, event_cmp, later, event_since}
use Rattle.keyrange.specs.Rect.{Area, has_point}
use Rattle.keyrange.specs.Range.{is_key_in}
use Rattle.eventlist.specs.Place.{last_event, since}
use Rattle.eventlist.proofs.PlaceFound.{since_last as since_last_event}
use Rattle.eventlist.proofs.PlaceOrder.{same_bytes, is_own, is_lower}
use Rattle.datanode.specs.Cut.{IsMap, in_cut, cut}
use Rattle.datanode.specs.Node.{Node}
use Rattle.treenodes.specs.Map.{AreInstants}
use Rattle.datanode.proofs.CutMembers.{In, In-filter, In-from_filter}
use Rattle.datanode.proofs.CutOrder.{In_place}
use Rattle.datanode.proofs.CutLaws.{IsTimeIn, in_cut_decides, time_decides, ends_earlier}
use Rattle.datanode.proofs.LawLast.{last_such, IsLastSuch, is_last_such, none_such, found_such, none_passes, later_is_above}

last_is : (es : List Event) (key : List ℕ) → last_event es key ≡ last_such (λ e. is_bytes key e.key) es
last_is [] key = refl
last_is (e ∷ es) key = ap (λ o. later o (if is_bytes key e.key then Some e else None)) (last_is es key)

abbrev instant_of : Option Event → Option ℕ
instant_of None = None
instant_of (Some e) = Some e.at

since_is : (es : List Event) (start : ℕ) (key : List ℕ) → event_since es start key ≡ instant_of (last_such (λ e. is_bytes key e.key && nat_lt start e.at) es)
since_is [] start key = refl
since_is (e ∷ es) start key = ap (λ o. later o (if is_bytes key e.key && nat_lt start e.at then Some e.at else None)) (since_is es start key) ∙ by (last_such (λ e. is_bytes key e.key && nat_lt start e.at) es) (is_bytes key e.key && nat_lt start e.at)
  where
    by : (o : Option Event) (b : Bool) → later (instant_of o) (if b then Some e.at else None) ≡ instant_of (later o (if b then Some e else None))
    by None true = refl
    by None false = refl
    by (Some d) b = refl

-- no event of the key comes after the instant
abbrev pub AreUntil : List Event → List ℕ → ℕ → Type 0
AreUntil m key instant = (e : Event) → In e m → key ≡ e.key → e.at ≤ instant

-- none above it
pub none_since : (m : List Event) (key : List ℕ) (instant start : ℕ) → AreUntil m key instant → instant ≤ start → None ≡ event_since m start key
none_since m key instant start until le = sym (since_is m start key ∙ ap instant_of (none_such (λ e. is_bytes key e.key && nat_lt start e.at) m (λ x i passes.
    (let p = and_parts (is_bytes key x.key) _ passes in
    let upto = until x i (same_bytes key x.key p.0) in
    let above : start < x.at = ltb-true start x.at p.1 in
    omega arith))))

module _ (r : Area) (m : List Event) (map : IsMap m) (key : List ℕ) (instant : ℕ) (until : AreUntil m key instant) (point : has_point r key instant ≡ true) where
  time : IsTimeIn r instant
  time = (time_decides r instant).0 (and_parts (is_key_in r.keys key) _ point).1

  -- an event of the key from the node's start on is in the node
  late_in : (e : Event) → In e m → key ≡ e.key → r.time.from ≤ e.at → In e (cut r m)
  late_in e i same late =
      In-filter (in_cut r m) m e i ((in_cut_decides r m e).1 (subst (λ k. is_key_in r.keys k ≡ true) same (and_parts _ _ point).0, inl (late, ends_earlier r.time.to e.at instant (until e i same) time.1)))

  -- a node without one was begun after the last
  pub none_in : None ≡ last_event (cut r m) key → AreUntil m key (r.time.from - 1)
  none_in none e i same = elim (cases_lt e.at r.time.from) [
    | inl early ↦ omega arith
    | inr late ↦ absurd (none_passes (λ x. is_bytes key x.key) (cut r m) e (late_in e i same late) (subst (λ k. is_bytes key k ≡ true) same (is_own key)) (sym (none ∙ last_is (cut r m) key)))
  ]

  -- the last one in a node is the map's
  module _ (e : Event) (last : Some e ≡ last_event (cut r m) key) where
    of_cut : IsLastSuch (λ x. is_bytes key x.key) (cut r m) e
    of_cut = found_such (λ x. is_bytes key x.key) (cut r m) e (IsStrictlySortedBy-filter event_cmp (in_cut r m) m map) (sym (last ∙ last_is (cut r m) key))

    in_map : In e m × (in_cut r m e ≡ true)
    in_map = In-from_filter (in_cut r m) m e of_cut.there

    of_key : key ≡ e.key
    of_key = same_bytes key e.key of_cut.passes

    none_later : (x : Event) → In x m → key ≡ x.key → e.at < x.at → ⊥
    none_later x i same lt = elim (cases_lt x.at r.time.from) [
      | inl early ↦ elim ((in_cut_decides r m e).0 in_map.1).1 [
        | inl w ↦ absurd (let from : r.time.from ≤ e.at = w.0 in omega arith)
        | inr c ↦ c.1.1 (x, i, record { of_key = sym of_key ∙ same; after = lt; until = omega arith })
      ]
      | inr late ↦ of_cut.top x (late_in x i same late) (subst (λ k. is_bytes key k ≡ true) same (is_own key)) (later_is_above e x (sym of_key ∙ same) lt)
    ]

    pub since_last : (start : ℕ) → (if nat_lt start e.at then Some e.at else None) ≡ event_since m start key
    since_last start = by (nat_lt start e.at) refl
      where
        not_above : (i j : ℕ) → nat_lt i j ≡ false → j ≤ i
        not_above i j h = grind (arith, nat_tests)

        by : (b : Bool) → nat_lt start e.at ≡ b → (if b then Some e.at else None) ≡ event_since m start key
        by true above = sym (since_is m start key ∙ ap instant_of (is_last_such (λ x. is_bytes key x.key && nat_lt start x.at) m e map (record {
          there = in_map.0;
          passes = and_from _ _ of_cut.passes above;
          top = λ x i passes less. (let same = same_bytes key x.key (and_parts (is_bytes key x.key) _ passes).0 in none_later x i same ((is_lower e x less).same (sym of_key ∙ same)));
        })))
        by false above = sym (since_is m start key ∙ ap instant_of (none_such (λ x. is_bytes key x.key && nat_lt start x.at) m (λ x i passes.
            (let p = and_parts (is_bytes key x.key) _ passes in
            let lt : start < x.at = ltb-true start x.at p.1 in
            let le : e.at ≤ start = not_above start e.at above in
            none_later x i (same_bytes key x.key p.0) (omega arith)))))

-- ---- as the code goes

module _ (m : List Event) (map : IsMap m) (instants : AreInstants m) (key : List ℕ) (instant : ℕ) (n : Node) (point : has_point n.rect key instant ≡ true) (are : n.events ≡ cut n.rect m) (until : AreUntil m key instant) where
  last_since : (o : Option ℕ) → o ≡ event_since n.events 0 key → o ≡ since 0 (last_event (cut n.rect m) key)
  last_since o is = is ∙ ap (λ es. event_since es 0 key) are ∙ sym (since_last_event (cut n.rect m) 0 key (IsStrictlySortedBy-filter event_cmp (in_cut n.rect m) m map))

  positive : (e : Event) → Some e ≡ last_event (cut n.rect m) key → 1 ≤ e.at
  positive e last =
      let place = In_place e e m (in_map n.rect m map key instant until point e last).0 in
      subst (λ (x : Event). 1 ≤ x.at) place.2 (instants place.0 e place.1).0

  pub changed : (start t : ℕ) (o : Option ℕ) → o ≡ event_since n.events 0 key → o ≡ Some t → (if nat_lt start t then Some t else None) ≡ event_since m start key
  changed start t o is some = by (last_event (cut n.rect m) key) refl
    where
      by : (l : Option Event) → last_event (cut n.rect m) key ≡ l → (if nat_lt start t then Some t else None) ≡ event_since m start key
      by None none = (let never : ◌≡◌ {A = Option ℕ} (Some t) None = sym some ∙ last_since o is ∙ ap (since 0) none in absurd (cc))
      by (Some e) last =
          let one = positive e (sym last) in
          let at : ◌≡◌ {A = Option ℕ} (Some t) (Some e.at) = sym some ∙ last_since o is ∙ ap (since 0) last ∙ ap (λ b. if b then Some e.at else None) (lt-ltb 0 e.at one) in
          let same : t ≡ e.at = cc in
          ap (λ a. if nat_lt start a then Some a else None) same ∙ since_last n.rect m map key instant until point e (sym last) start

  pub earlier : (o : Option ℕ) → o ≡ event_since n.events 0 key → o ≡ None → AreUntil m key (n.rect.time.from - 1)
  earlier o is none = by (last_event (cut n.rect m) key) refl
    where
      by : (l : Option Event) → last_event (cut n.rect m) key ≡ l → AreUntil m key (n.rect.time.from - 1)
      by None last = none_in n.rect m map key instant until point (sym last)
      by (Some e) last =
          let one = positive e (sym last) in
          let never : ◌≡◌ {A = Option ℕ} None (Some e.at) = sym none ∙ last_since o is ∙ ap (since 0) last ∙ ap (λ b. if b then Some e.at else None) (lt-ltb 0 e.at one) in
          absurd (cc)
