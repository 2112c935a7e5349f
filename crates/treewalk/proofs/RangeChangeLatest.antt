-- The latest instant of the events that pass a test: it is that of one of them, and none is later.
use Rattle.std.proofs.Common.{◌≡◌, ℕ, ◌<◌, ◌≤◌, Bool, true, false, List, [], ◌∷◌, ◌++◌, ◌+◌, length, get_or, take, Option, Some, None, refl, sym, ap, subst, ◌∙◌, inl, inr, arith, max, if◌then◌else◌}
use Rattle.std.specs.List.{flat_map}
use Rattle.std.proofs.lemmas.Bool.{cases_lt, false≢true}
use Rattle.std.proofs.lemmas.Grind.{flat_map-append}
use Rattle.std.proofs.lemmas.List.{append-nil, take_more}
use Rattle.values.specs.Event.{Event}
use Rattle.datanode.proofs.CutMembers.{In}
use Rattle.values.specs.Commits.{latest_of}
use Rattle.treewalk.specs.RangeChange.{latest_among}

-- ---- lists one behind the other

either_first : (a b : Option ℕ) → latest_of a b ≡ latest_of b a
either_first None None = refl
either_first None (Some b) = refl
either_first (Some a) None = refl
either_first (Some a) (Some b) = ap Some (omega arith)

in_any_order : (a b c : Option ℕ) → latest_of (latest_of a b) c ≡ latest_of (latest_of a c) b
in_any_order None b c = either_first b c
in_any_order (Some a) None None = refl
in_any_order (Some a) None (Some c) = refl
in_any_order (Some a) (Some b) None = refl
in_any_order (Some a) (Some b) (Some c) = ap Some (omega arith)

module _ (p : Event → Bool) where
  abbrev own : Event → Option ℕ
  own e = if p e then Some e.at else None

  pub latest_joined : (xs ys : List Event) → latest_among p (xs ++ ys) ≡ latest_of (latest_among p xs) (latest_among p ys)
  latest_joined [] ys = refl
  latest_joined (x ∷ xs) ys = ap (λ o. latest_of o (own x)) (latest_joined xs ys) ∙ in_any_order (latest_among p xs) (latest_among p ys) (own x)

  -- one more of a list
  pub latest_more : (es : List Event) (i : ℕ) (x : Event) (old new : Option ℕ) → i < length es → x ≡ get_or es i x → old ≡ latest_among p (take i es) → new ≡ latest_of old (own x) → new ≡ latest_among p (take (i + 1) es)
  latest_more es i x old new lt is before now =
      now
      ∙ ap (λ o. latest_of o (own x)) before
      ∙ sym (latest_joined (take i es) (x ∷ []))
      ∙ ap (latest_among p) (sym (take_more es i x lt ∙ ap (λ z. take i es ++ z ∷ []) (sym is)))

  -- the events of one node more
  pub latest_of_more : (f : ℕ → List Event) (numbers : List ℕ) (i : ℕ) (old found new : Option ℕ) → i < length numbers
      → old ≡ latest_among p (flat_map f (take i numbers)) → found ≡ latest_among p (f (get_or numbers i 0)) → new ≡ latest_of old found → new ≡ latest_among p (flat_map f (take (i + 1) numbers))
  latest_of_more f numbers i old found new lt before one now =
      now
      ∙ (λ j. latest_of (before j) (one j))
      ∙ sym (latest_joined (flat_map f (take i numbers)) (f (get_or numbers i 0)))
      ∙ ap (latest_among p)
      (sym (flat_map-append f (take i numbers) (get_or numbers i 0 ∷ []) ∙ ap (λ l. flat_map f (take i numbers) ++ l) (append-nil (f (get_or numbers i 0))))
      ∙ ap (flat_map f) (sym (take_more numbers i 0 lt)))

-- ---- by members

pub record IsLatest (p : Event → Bool) (es : List Event) (t : ℕ) : Type 0 where
  pub event : Event
  pub there : In event es
  pub passes : p event ≡ true
  pub is : event.at ≡ t
  pub last : (x : Event) → In x es → p x ≡ true → x.at ≤ t

abbrev IsLatestOf : (Event → Bool) → List Event → Option ℕ → Type 0
IsLatestOf p es None = (x : Event) → In x es → p x ≡ true → ⊥
IsLatestOf p es (Some t) = IsLatest p es t

module _ (p : Event → Bool) where
  never : (e x : Event) → p e ≡ false → e ≡ x → p x ≡ true → ⊥
  never e x fails same passes = false≢true (sym fails ∙ ap p same ∙ passes)

  step : (e : Event) (es : List Event) (o : Option ℕ) (b : Bool) → p e ≡ b → IsLatestOf p es o → IsLatestOf p (e ∷ es) (latest_of o (if b then Some e.at else None))
  step e es None true h none = record {
    event = e;
    there = inl refl;
    passes = h;
    is = refl;
    last = λ x i k. elim i [ inl q ↦ subst (λ (z : Event). z.at ≤ e.at) q (omega arith) | inr j ↦ absurd (none x j k) ];
  }
  step e es None false h none = λ x i k. elim i [ inl q ↦ never e x h q k | inr j ↦ none x j k ]
  step e es (Some t) false h l = record {
    event = l.event;
    there = inr l.there;
    passes = l.passes;
    is = l.is;
    last = λ x i k. elim i [ inl q ↦ absurd (never e x h q k) | inr j ↦ l.last x j k ];
  }
  step e es (Some t) true h l = elim (cases_lt t e.at) [
    | inl lt ↦ record {
      event = e;
      there = inl refl;
      passes = h;
      is = omega (arith, lt);
      last = λ x i k. elim i [
        | inl q ↦ subst (λ (z : Event). z.at ≤ max t e.at) q (omega arith)
        | inr j ↦ (let le = l.last x j k in omega (arith, le))
      ];
    }
    | inr ge ↦ record {
      event = l.event;
      there = inr l.there;
      passes = l.passes;
      is = omega (arith, ge, l.is);
      last = λ x i k. elim i [
        | inl q ↦ subst (λ (z : Event). z.at ≤ max t e.at) q (omega arith)
        | inr j ↦ (let le = l.last x j k in omega (arith, le))
      ];
    }
  ]

  latest_is : (es : List Event) → IsLatestOf p es (latest_among p es)
  latest_is [] = λ x i k. i
  latest_is (e ∷ es) = step e es (latest_among p es) (p e) refl (latest_is es)

-- lists of which the same events pass have the same latest instant
pub same_latest : (p q : Event → Bool) (es m : List Event)
    → ((x : Event) → In x es → p x ≡ true → In x m × (q x ≡ true)) → ((x : Event) → In x m → q x ≡ true → In x es × (p x ≡ true)) → latest_among p es ≡ latest_among q m
same_latest p q es m out back = by (latest_among p es) (latest_among q m) (latest_is p es) (latest_is q m)
  where
    by : (o i : Option ℕ) → IsLatestOf p es o → IsLatestOf q m i → o ≡ i
    by None None none nor = refl
    by None (Some u) none l = (let b = back l.event l.there l.passes in absurd (none l.event b.0 b.1))
    by (Some t) None k nor = (let b = out k.event k.there k.passes in absurd (nor k.event b.0 b.1))
    by (Some t) (Some u) k l =
        let here = out k.event k.there k.passes in
        let there = back l.event l.there l.passes in
        let le = l.last k.event here.0 here.1 in
        let ge = k.last l.event there.0 there.1 in
        ap Some (omega (arith, le, ge, k.is, l.is))

-- where none passes there is none
pub none_latest : (q : Event → Bool) (m : List Event) → ((x : Event) → In x m → q x ≡ true → ⊥) → None ≡ latest_among q m
none_latest q m none = same_latest q q [] m (λ x i k. absurd i) (λ x i k. absurd (none x i k))
