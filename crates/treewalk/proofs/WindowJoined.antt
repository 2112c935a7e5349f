-- The events of one key, leaf after leaf in the order of time.
use Rattle.std.proofs.Common.{◌≡◌, ℕ, ◌-◌, ◌+◌, ◌<◌, ◌≤◌, Bool, true, false, cond, ◌&&◌, ◌||◌, List, [], ◌∷◌, ◌++◌, Option, Some, None, refl, sym, ap, subst, ◌∙◌, ◌⊎◌, inl, inr, arith, filter, nat_le, nat_lt, max}
use Rattle.std.specs.Bool.{Decides}
use Rattle.std.specs.declared.cmp.Ordering.TheVariants.{Less}
use Rattle.std.proofs.lemmas.Bool.{and_parts, leb-true, ltb-true, le-leb, lt-ltb, cases_lt}
use Rattle.std.proofs.lemmas.Bool.Decides.{nat_tests, Decides-and, Decides-like, Decides-ltb, same_from_decides}
use Rattle.values.specs.Event.{Event}
use Rattle.values.specs.Events.{is_bytes, event_cmp}
use Rattle.keyrange.specs.declared.range.KeyRange.{KeyRange}
use Rattle.keyrange.specs.Range.{is_early, is_key_in}
use Rattle.keyrange.specs.Rect.{Area, has_point}
use Rattle.eventlist.specs.Listing.{is_in_window, is_of_key, stands_at, standing}
use Rattle.eventlist.proofs.PlaceOrder.{same_bytes, is_lower, sorted_tail}
use Rattle.datanode.specs.Cut.{IsMap, in_cut, cut}
use Rattle.datanode.proofs.CutMembers.{In, filter_alike, filter_twice, none_kept}
use Rattle.datanode.proofs.CutOrder.{head_below}
use Rattle.datanode.proofs.CutLaws.{IsCarried, IsInCut, IsTimeIn, Decides-leb, itself, in_cut_decides, time_decides}
use Rattle.treewalk.proofs.ListingStanding.{Stands, stands_decides, to_cut, from_cut}

-- what passes one test and then what passes another, where none of the first is behind one of the second
joined : (p q : Event → Bool) → ((x : Event) → p x ≡ true → q x ≡ true → ⊥) → ((x y : Event) → event_cmp x y ≡ Less → q x ≡ true → p y ≡ true → ⊥)
    → (m : List Event) → IsMap m → filter p m ++ filter q m ≡ filter (λ e. p e || q e) m
joined p q apart order [] map = refl
joined p q apart order (e ∷ es) map = by (p e) refl (q e) refl (joined p q apart order es (sorted_tail event_cmp e es map))
  where
    none : q e ≡ true → filter p es ≡ []
    none is = none_kept p es (λ y i. fails y i (p y) refl)
      where
        fails : (y : Event) → In y es → (b : Bool) → p y ≡ b → b ≡ false
        fails y i false h = refl
        fails y i true h = absurd (order e y (head_below e es map y i) is h)

    by : (b : Bool) → p e ≡ b → (c : Bool) → q e ≡ c → filter p es ++ filter q es ≡ filter (λ e. p e || q e) es
        → cond b (e ∷ filter p es) (filter p es) ++ cond c (e ∷ filter q es) (filter q es) ≡ cond (b || c) (e ∷ filter (λ e. p e || q e) es) (filter (λ e. p e || q e) es)
    by true is true also rest = absurd (apart e is also)
    by true is false also rest = ap (λ l. e ∷ l) rest
    by false is true also rest = ap (λ l. l ++ (e ∷ filter q es)) (none also) ∙ ap (λ l. e ∷ l) (sym (ap (λ l. l ++ filter q es) (none also)) ∙ rest)
    by false is false also rest = rest

-- the events of the key in the window, up to an instant
abbrev pub is_so_far : List Event → List ℕ → ℕ → ℕ → ℕ → Event → Bool
is_so_far m key first last until e = (stands_at m first e || (nat_lt first e.at && (nat_le e.at until && nat_le e.at last))) && is_bytes key e.key

module _ (m : List Event) (key : List ℕ) (first last : ℕ) where
  -- those above an instant, up to another
  abbrev is_more : ℕ → ℕ → Event → Bool
  is_more u v e = is_bytes key e.key && (nat_lt u e.at && (nat_le e.at v && nat_le e.at last))

  pub at_first : filter (λ e. stands_at m first e && is_bytes key e.key) m ≡ filter (is_so_far m key first last first) m
  at_first = filter_alike _ _ m (λ e i. ap (λ b. b && is_bytes key e.key) (by e.at (stands_at m first e)))
    where
      none : (t : ℕ) → (nat_lt first t && (nat_le t first && nat_le t last)) ≡ false
      none t = elim (cases_lt first t) [
        | inl lt ↦ (let no : nat_le t first ≡ false = grind (arith, nat_tests) in ap (λ b. nat_lt first t && (b && nat_le t last)) no ∙ after (nat_lt first t) (nat_le t last))
        | inr le ↦ (let no : nat_lt first t ≡ false = grind (arith, nat_tests) in ap (λ b. b && (nat_le t first && nat_le t last)) no)
      ]
        where
          after : (b c : Bool) → (b && (false && c)) ≡ false
          after true c = refl
          after false c = refl

      nothing : (s : Bool) → s ≡ (s || false)
      nothing true = refl
      nothing false = refl

      by : (t : ℕ) (s : Bool) → s ≡ (s || (nat_lt first t && (nat_le t first && nat_le t last)))
      by t s = nothing s ∙ sym (ap (λ b. s || b) (none t))

  pub at_last : (until : ℕ) → last ≤ until → filter (is_so_far m key first last until) m ≡ filter (λ e. is_in_window m first last e && is_bytes key e.key) m
  at_last until le = filter_alike _ _ m (λ e i. ap (λ b. (stands_at m first e || (nat_lt first e.at && b)) && is_bytes key e.key) (by e.at (nat_le e.at last) refl))
    where
      by : (t : ℕ) (b : Bool) → nat_le t last ≡ b → (nat_le t until && b) ≡ b
      by t true is = ap (λ b. b && true) (let l : t ≤ last = leb-true t last is in le-leb t until (omega arith))
      by t false is = none (nat_le t until)
        where
          none : (b : Bool) → (b && false) ≡ false
          none true = refl
          none false = refl

  module _ (map : IsMap m) (u v : ℕ) (start : first ≤ u) (on : u ≤ v) where
    upto : (e : Event) → is_so_far m key first last u e ≡ true → (e.at ≤ u) × (key ≡ e.key)
    upto e h = (by (stands_at m first e) refl parts.0, same_bytes key e.key parts.1)
      where
        parts : ((stands_at m first e || (nat_lt first e.at && (nat_le e.at u && nat_le e.at last))) ≡ true) × (is_bytes key e.key ≡ true)
        parts = and_parts _ _ h

        by : (s : Bool) → stands_at m first e ≡ s → (s || (nat_lt first e.at && (nat_le e.at u && nat_le e.at last))) ≡ true → e.at ≤ u
        by true is w = let le : e.at ≤ first = ((stands_decides m first e).0 is).until in omega arith
        by false is w = leb-true e.at u (and_parts (nat_le e.at u) _ (and_parts (nat_lt first e.at) _ w).1).0

    above : (e : Event) → is_more u v e ≡ true → (u < e.at) × (key ≡ e.key)
    above e h = let parts = and_parts (is_bytes key e.key) _ h in (ltb-true u e.at (and_parts (nat_lt u e.at) _ parts.1).0, same_bytes key e.key parts.0)

    further : (e : Event) → (is_so_far m key first last u e || is_more u v e) ≡ is_so_far m key first last v e
    further e = by (stands_at m first e) (is_bytes key e.key) (nat_le e.at last) (cases_lt u e.at)
      where
        late : (s b l y : Bool) → (((s || (true && (false && l))) && b) || (b && (true && (y && l)))) ≡ ((s || (true && (y && l))) && b)
        late true true l y = refl
        late true false l y = refl
        late false true true true = refl
        late false true true false = refl
        late false true false true = refl
        late false true false false = refl
        late false false true true = refl
        late false false true false = refl
        late false false false true = refl
        late false false false false = refl

        early : (s b l f y : Bool) → (((s || (f && (true && l))) && b) || (b && (false && (y && l)))) ≡ ((s || (f && (true && l))) && b)
        early true true l f y = refl
        early true false l f y = refl
        early false true true true y = refl
        early false true true false y = refl
        early false true false true y = refl
        early false true false false y = refl
        early false false true true y = refl
        early false false true false y = refl
        early false false false true y = refl
        early false false false false y = refl

        by : (s b l : Bool) → (u < e.at) ⊎ (e.at ≤ u) → (((s || (nat_lt first e.at && (nat_le e.at u && l))) && b) || (b && (nat_lt u e.at && (nat_le e.at v && l)))) ≡ ((s || (nat_lt first e.at && (nat_le e.at v && l))) && b)
        by s b l (inl lt) =
            let f : nat_lt first e.at ≡ true = lt-ltb first e.at (omega arith) in
            let x : nat_le e.at u ≡ false = grind (arith, nat_tests) in
            let w : nat_lt u e.at ≡ true = lt-ltb u e.at lt in
            (λ i. ((s || (f i && (x i && l))) && b) || (b && (w i && (nat_le e.at v && l))))
            ∙ late s b l (nat_le e.at v)
            ∙ sym (ap (λ f. (s || (f && (nat_le e.at v && l))) && b) f)
        by s b l (inr le) =
            let x : nat_le e.at u ≡ true = le-leb e.at u le in
            let y : nat_le e.at v ≡ true = le-leb e.at v (omega arith) in
            let w : nat_lt u e.at ≡ false = grind (arith, nat_tests) in
            (λ i. ((s || (nat_lt first e.at && (x i && l))) && b) || (b && (w i && (nat_le e.at v && l))))
            ∙ early s b l (nat_lt first e.at) (nat_le e.at v)
            ∙ sym (ap (λ y. (s || (nat_lt first e.at && (y && l))) && b) y)

    next_joined : filter (is_so_far m key first last u) m ++ filter (is_more u v) m ≡ filter (is_so_far m key first last v) m
    next_joined =
        joined (is_so_far m key first last u) (is_more u v)
        (λ x p q. (let a : x.at ≤ u = (upto x p).0 in let b : u < x.at = (above x q).0 in omega arith))
        (λ x y less q p. (
        let a = upto y p in
        let b = above x q in
        let c : x.at < y.at = (is_lower x y less).same (sym b.1 ∙ a.1) in
        let d : y.at ≤ u = a.0 in
        let g : u < x.at = b.0 in
        omega arith))
        m map
        ∙ filter_alike _ _ m (λ e i. further e)

  -- what a leaf at the next instant adds, which ends where the next bound says
  module _ (map : IsMap m) (u v : ℕ) (start : first ≤ u) (on : u ≤ v) (r : Area) (point : has_point r key (u + 1) ≡ true)
      (ends : (t : ℕ) → t ≤ last → Decides (is_early t r.time.to) (t ≤ v)) where
    in_leaf : filter (is_of_key key u last) (cut r m) ≡ filter (is_more u v) m
    in_leaf = filter_twice (in_cut r m) (is_of_key key u last) m ∙ filter_alike _ _ m (λ e i. same_from_decides _ _
        (Decides-like _ (into e) (from e) (Decides-and _ _ (in_cut_decides r m e) (Decides-and _ _ (itself (is_bytes key e.key)) (Decides-and _ _ (Decides-ltb u e.at) (Decides-leb e.at last)))))
        (Decides-and _ _ (itself (is_bytes key e.key)) (Decides-and _ _ (Decides-ltb u e.at) (Decides-and _ _ (Decides-leb e.at v) (Decides-leb e.at last)))))
      where
        time : IsTimeIn r (u + 1)
        time = (time_decides r (u + 1)).0 (and_parts (is_key_in r.keys key) _ point).1

        Own : Event → Type 0
        Own e = (is_bytes key e.key ≡ true) × ((u < e.at) × (e.at ≤ last))

        More : Event → Type 0
        More e = (is_bytes key e.key ≡ true) × ((u < e.at) × ((e.at ≤ v) × (e.at ≤ last)))

        into : (e : Event) → IsInCut r m e × Own e → More e
        into e h = (h.1.0, (h.1.1.0, (by h.0.1, h.1.1.1)))
          where
            by : IsTimeIn r e.at ⊎ IsCarried m r.time.from e → e.at ≤ v
            by (inl w) = (ends e.at h.1.1.1).0 w.1
            by (inr c) = absurd (let a : e.at < r.time.from = c.0 in let b : r.time.from ≤ u + 1 = time.0 in let d : u < e.at = h.1.1.0 in omega arith)

        from : (e : Event) → More e → IsInCut r m e × Own e
        from e h = (
          (
            subst (λ k. is_key_in r.keys k ≡ true) (same_bytes key e.key h.0) (and_parts (is_key_in r.keys key) _ point).0,
            inl (let a : r.time.from ≤ u + 1 = time.0 in let b : u < e.at = h.1.0 in omega arith, (ends e.at h.1.1.1).1 h.1.1.0),
          ),
          (h.0, (h.1.0, h.1.1.1)),
        )

    pub leaf_added : (found added es : List Event) → added ≡ found ++ filter (is_of_key key u last) es → found ≡ filter (is_so_far m key first last u) m → es ≡ cut r m → added ≡ filter (is_so_far m key first last v) m
    leaf_added found added es is so_far are =
        is
        ∙ (λ i. so_far i ++ filter (is_of_key key u last) (are i))
        ∙ ap (λ l. filter (is_so_far m key first last u) m ++ l) in_leaf
        ∙ next_joined map u v start on

-- where a leaf ends, as a bound
pub ends_before : (to : Option ℕ) (end : ℕ) → to ≡ Some end → 1 ≤ end → (t : ℕ) → Decides (is_early t to) (t ≤ end - 1)
ends_before to end is some t = subst (λ o. Decides (is_early t o) (t ≤ end - 1)) (sym is) (Decides-like _ (λ (h : t < end). omega arith) (λ (h : t ≤ end - 1). omega arith) (Decides-ltb t end))

pub never_ends : (to : Option ℕ) (last : ℕ) → to ≡ None → (t : ℕ) → t ≤ last → Decides (is_early t to) (t ≤ last)
never_ends to last is t le = subst (λ o. Decides (is_early t o) (t ≤ last)) (sym is) (λ h. le, λ h. refl)

-- ---- the row that holds at the first instant

module _ (m : List Event) (instants : (e : Event) → In e m → 1 ≤ e.at) (key : List ℕ) (range : KeyRange) (inside : is_key_in range key ≡ true) (r : Area) (t : ℕ) (point : has_point r key (max t 1) ≡ true) where
  abbrev Own : Event → Type 0
  Own e = Stands m t e × (is_bytes key e.key ≡ true)

  time : 1 ≤ t → IsTimeIn r t
  time some = subst (IsTimeIn r) (omega arith) ((time_decides r (max t 1)).0 (and_parts (is_key_in r.keys key) _ point).1)

  -- an event that stands at the instant or before it
  some : (e : Event) → In e m → e.at ≤ t → 1 ≤ t
  some e i le = let a = instants e i in omega arith

  pub one_standing : filter (λ e. is_bytes key e.key) (standing (cut r m) (is_key_in range) t) ≡ filter (λ e. stands_at m t e && is_bytes key e.key) m
  one_standing =
      filter_twice (λ e. is_key_in range e.key && stands_at (cut r m) t e) (λ e. is_bytes key e.key) (cut r m)
      ∙ filter_twice (in_cut r m) (λ e. (is_key_in range e.key && stands_at (cut r m) t e) && is_bytes key e.key) m
      ∙ filter_alike _ _ m (λ e i. same_from_decides _ _
      (Decides-like _ (into e i) (from e i) (Decides-and _ _ (in_cut_decides r m e) (Decides-and _ _ (Decides-and _ _ (itself (is_key_in range e.key)) (stands_decides (cut r m) t e)) (itself (is_bytes key e.key)))))
      (Decides-and _ _ (stands_decides m t e) (itself (is_bytes key e.key))))
    where
      into : (e : Event) → In e m → IsInCut r m e × (((is_key_in range e.key ≡ true) × Stands (cut r m) t e) × (is_bytes key e.key ≡ true)) → Own e
      into e i h = (from_cut r m t (time (some e i h.1.0.1.until)) e h.0 h.1.0.1, h.1.1)

      from : (e : Event) → In e m → Own e → IsInCut r m e × (((is_key_in range e.key ≡ true) × Stands (cut r m) t e) × (is_bytes key e.key ≡ true))
      from e i h =
          let same : key ≡ e.key = same_bytes key e.key h.1 in
          let in_leaf = subst (λ k. is_key_in r.keys k ≡ true) same (and_parts (is_key_in r.keys key) _ point).0 in
          let c = to_cut r m t (time (some e i h.0.until)) e in_leaf h.0 in
          (c.0, ((subst (λ k. is_key_in range k ≡ true) same inside, c.1), h.1))

-- ---- the events of a block

-- those of the key among those of a range that has it
pub of_range_of_key : (es : List Event) (key : List ℕ) (range : KeyRange) → is_key_in range key ≡ true → (after last : ℕ)
    → filter (λ e. is_bytes key e.key) (filter (λ e. is_key_in range e.key && (nat_le (after + 1) e.at && nat_le e.at last)) es) ≡ filter (is_of_key key after last) es
of_range_of_key es key range inside after last =
    filter_twice (λ e. is_key_in range e.key && (nat_le (after + 1) e.at && nat_le e.at last)) (λ e. is_bytes key e.key) es
    ∙ filter_alike _ _ es (λ e i. same_from_decides _ _
    (Decides-like _ (λ h. (h.1, (let a : after + 1 ≤ e.at = h.0.1.0 in omega arith, h.0.1.1)))
    (λ (h : (is_bytes key e.key ≡ true) × ((after < e.at) × (e.at ≤ last))).
    ((subst (λ k. is_key_in range k ≡ true) (same_bytes key e.key h.0) inside, (let a : after < e.at = h.1.0 in omega arith, h.1.1)), h.0))
    (Decides-and _ _ (Decides-and _ _ (itself (is_key_in range e.key)) (Decides-and _ _ (Decides-leb (after + 1) e.at) (Decides-leb e.at last))) (itself (is_bytes key e.key))))
    (Decides-and _ _ (itself (is_bytes key e.key)) (Decides-and _ _ (Decides-ltb after e.at) (Decides-leb e.at last))))
