-- Events of one key: at most two stay at the last instant, and it is after the node's start.
use Rattle.std.proofs.Common.{◌≡◌, ℕ, suc, ◌<◌, ◌≤◌, Bool, true, false, ◌||◌, cond, List, [], ◌∷◌, length, refl, sym, subst, ◌∙◌, ◌⊎◌, inl, inr, arith}
use Rattle.std.specs.Prelude.{nat_le}
use Rattle.std.specs.List.{AllByRecursion, filter}
use Rattle.std.specs.declared.cmp.Ordering.TheVariants.{Less}
use Rattle.std.proofs.lemmas.Bool.{leb-true, cases_lt}
use Rattle.values.specs.Event.{Event}
use Rattle.keyrange.specs.Rect.{Area}
use Rattle.eventlist.proofs.PlaceOrder.{is_lower, sorted_head, sorted_tail}
use Rattle.eventlist.proofs.OvertakingNext.{never}
use Rattle.values.specs.Events.{event_cmp}
use Rattle.datanode.specs.Cut.{IsMap, is_carried, in_cut, cut}
use Rattle.datanode.specs.Node.{IsNode}
use Rattle.datanode.proofs.CutMembers.{In, In-from_filter}
use Rattle.datanode.proofs.CutLaws.{IsTimeIn, IsCarried, carried_decides, in_cut_decides}
use Rattle.treegrowth.specs.Point.{staying}

-- a filter keeps no more than there is
pub filter_at_most : {X : Type 0} (p : X → Bool) (xs : List X) → length (filter p xs) ≤ length xs
filter_at_most p [] = omega arith
filter_at_most p (x ∷ xs) = by (p x) (filter_at_most p xs)
  where
    by : (b : Bool) → length (filter p xs) ≤ length xs → length (cond b (x ∷ filter p xs) (filter p xs)) ≤ suc (length xs)
    by true rest = omega arith
    by false rest = omega arith

abbrev pub IsOf : List ℕ → Event → Type 0
IsOf key e = e.key ≡ key

abbrev pub IsUpTo : ℕ → ℕ → Event → Type 0
IsUpTo last instant e = (e.at ≤ last) ⊎ (e.at ≡ instant)

-- of two events of a key, the earlier one is not after the last instant
before_other : (last instant : ℕ) (b c : Event) → b.at < c.at → IsUpTo last instant b → IsUpTo last instant c → last < instant → b.at ≤ last
before_other last instant b c lt (inl le) h later = le
before_other last instant b c lt (inr e) (inl le) later = omega arith
before_other last instant b c lt (inr e) (inr f) later = absurd (omega arith)

module _ (es : List Event) (key : List ℕ) (last instant : ℕ) (later : last < instant) where
  abbrev stays : Event → Bool
  stays e = nat_le last e.at || is_carried es last e

  in_turn : (a b : Event) → event_cmp a b ≡ Less → IsOf key a → IsOf key b → a.at < b.at
  in_turn a b less k l = (is_lower a b less).same (k ∙ sym l)

  -- an event that two others follow does not stay
  gone : (a b c : Event) → event_cmp a b ≡ Less → event_cmp b c ≡ Less → IsOf key a → IsOf key b → IsOf key c → IsUpTo last instant b → IsUpTo last instant c → In b es → stays a ≡ false
  gone a b c ab bc key_a key_b key_c upto_b upto_c among =
      let one : a.at < b.at = in_turn a b ab key_a key_b in
      let two : b.at < c.at = in_turn b c bc key_b key_c in
      let within : b.at ≤ last = before_other last instant b c two upto_b upto_c later in
      never (stays a) (either one within)
    where
      either : a.at < b.at → b.at ≤ last → stays a ≡ true → ⊥
      either one within h = by (nat_le last a.at) refl h
        where
          by : (t : Bool) → nat_le last a.at ≡ t → (t || is_carried es last a) ≡ true → ⊥
          by true is h = let le : last ≤ a.at = leb-true last a.at is in omega arith
          by false is h = ((carried_decides es last a).0 h).1.1 (b, among, record { of_key = key_a ∙ sym key_b; after = one; until = within })

  few : (s : List Event) → IsMap s → AllByRecursion (IsOf key) s → AllByRecursion (IsUpTo last instant) s → ((x : Event) → In x s → In x es) → length (filter stays s) ≤ 2
  few [] map keys upto within = omega arith
  few (a ∷ []) map keys upto within = let most = filter_at_most stays (a ∷ []) in omega arith
  few (a ∷ b ∷ []) map keys upto within = let most = filter_at_most stays (a ∷ b ∷ []) in omega arith
  few (a ∷ b ∷ c ∷ s) map keys upto within =
      let rest = few (b ∷ c ∷ s) (sorted_tail event_cmp a (b ∷ c ∷ s) map) keys.1 upto.1 (λ x i. within x (inr i)) in
      let ab : event_cmp a b ≡ Less = (sorted_head event_cmp a (b ∷ c ∷ s) map).0 in
      let bc : event_cmp b c ≡ Less = (sorted_head event_cmp b (c ∷ s) (sorted_tail event_cmp a (b ∷ c ∷ s) map)).0 in
      let no = gone a b c ab bc keys.0 keys.1.0 keys.1.1.0 upto.1.0 upto.1.1.0 (within b (inr (inl refl))) in
      subst (λ t. length (cond t (a ∷ filter stays (b ∷ c ∷ s)) (filter stays (b ∷ c ∷ s))) ≤ 2) (sym no) rest

  -- at least two follow the first: the second is after the start, and not after the last instant
  starts_before : (rect : Area) (a b c : Event) (s : List Event) → es ≡ a ∷ b ∷ c ∷ s → es ≡ cut rect es → IsMap es → AllByRecursion (IsOf key) es → AllByRecursion (IsUpTo last instant) es → rect.time.from < last
  starts_before rect a b c s are whole map keys upto =
      let one : a.at < b.at = in_turn a b (sorted_head event_cmp a (b ∷ c ∷ s) map').0 keys'.0 keys'.1.0 in
      let two : b.at < c.at = in_turn b c (sorted_head event_cmp b (c ∷ s) (sorted_tail event_cmp a (b ∷ c ∷ s) map')).0 keys'.1.0 keys'.1.1.0 in
      let within : b.at ≤ last = before_other last instant b c two upto'.1.0 upto'.1.1.0 later in
      by one within (((in_cut_decides rect es a).0 first).1)
    where
      map' : IsMap (a ∷ b ∷ c ∷ s)
      map' = subst IsMap are map

      keys' : AllByRecursion (IsOf key) (a ∷ b ∷ c ∷ s)
      keys' = subst (AllByRecursion (IsOf key)) are keys

      upto' : AllByRecursion (IsUpTo last instant) (a ∷ b ∷ c ∷ s)
      upto' = subst (AllByRecursion (IsUpTo last instant)) are upto

      among : (x : Event) → In x (a ∷ b ∷ c ∷ s) → In x es
      among x h = subst (In x) (sym are) h

      first : in_cut rect es a ≡ true
      first = (In-from_filter (in_cut rect es) es a (subst (In a) whole (among a (inl refl)))).1

      by : a.at < b.at → b.at ≤ last → IsTimeIn rect a.at ⊎ IsCarried es rect.time.from a → rect.time.from < last
      by one within (inl h) = let le : rect.time.from ≤ a.at = h.0 in omega arith
      by one within (inr h) = elim (cases_lt rect.time.from b.at) [
        | inl lt ↦ omega arith
        | inr le ↦ absurd (h.1.1 (b, among b (inr (inl refl)), record { of_key = keys'.0 ∙ sym keys'.1.0; after = one; until = le }))
      ]

  pub at_most_two : IsMap es → AllByRecursion (IsOf key) es → AllByRecursion (IsUpTo last instant) es → length (staying es last) ≤ 2
  at_most_two map keys upto = few es map keys upto (λ x i. i)

  pub begins_before : (rect : Area) → IsNode rect es → 3 ≤ length es → AllByRecursion (IsOf key) es → AllByRecursion (IsUpTo last instant) es → rect.time.from < last
  begins_before rect node many keys upto = by es refl many
    where
      by : (s : List Event) → es ≡ s → 3 ≤ length s → rect.time.from < last
      by [] is lt = absurd (omega arith)
      by (a ∷ []) is lt = absurd (omega arith)
      by (a ∷ b ∷ []) is lt = absurd (omega arith)
      by (a ∷ b ∷ c ∷ s) is lt = starts_before rect a b c s is node.whole node.ordered keys upto
