-- Of events in order the next one shows whether an event's row stands.
use Rattle.std.proofs.Common.{◌≡◌, ℕ, ◌+◌, ◌<◌, ◌≤◌, Bool, true, false, ◌&&◌, ◌||◌, List, [], ◌∷◌, Option, Some, refl, sym, ap, subst, ◌∙◌, arith, zero, suc, nat_le, nat_lt, not, is_some}
use Rattle.std.proofs.lemmas.Bool.{and_from, and_parts}
use Rattle.std.specs.declared.cmp.Ordering.TheVariants.{Less}
use Rattle.std.specs.List.{AllByRecursion, slice_get, list_any}
use Rattle.std.specs.List.Sorted.{IsStrictlySortedBy}
use Rattle.std.proofs.lemmas.Bool.Decides.{nat_tests}
use Rattle.values.specs.Event.{Event}
use Rattle.values.specs.Events.{bytes_cmp, is_bytes, event_cmp}
use Rattle.eventlist.specs.Overtaking.{overtakes, is_overtaken}
use Rattle.eventlist.specs.Listing.{stands_at}
use Rattle.eventlist.proofs.PlaceOrder.{same_bytes, is_own, is_lower, bytes_total, bytes_tie, sorted_head, sorted_tail}

pub never : (b : Bool) → (b ≡ true → ⊥) → b ≡ false
never true h = absurd (h refl)
never false h = refl

-- what it is to overtake
pub record Overtakes (e : Event) (t : ℕ) (d : Event) : Type 0 where
  pub of_key : e.key ≡ d.key
  pub after : e.at < d.at
  pub until : d.at ≤ t

pub overtakes_is : (e : Event) (t : ℕ) (d : Event) → overtakes e t d ≡ true → Overtakes e t d
unfolding overtakes
overtakes_is e t d h = record {
  of_key = same_bytes e.key d.key (and_parts _ _ h).0;
  after = below e.at d.at ((and_parts _ _ (and_parts (is_bytes e.key d.key) _ h).1).0);
  until = at_most d.at t ((and_parts (nat_lt e.at d.at) _ (and_parts (is_bytes e.key d.key) _ h).1).1);
}
  where
    below : (i j : ℕ) → nat_lt i j ≡ true → i < j
    below i j e = grind (arith, nat_tests)

    at_most : (i j : ℕ) → nat_le i j ≡ true → i ≤ j
    at_most i j e = grind (arith, nat_tests)

pub is_overtakes : (e : Event) (t : ℕ) (d : Event) → Overtakes e t d → overtakes e t d ≡ true
unfolding overtakes
is_overtakes e t d h =
    and_from (is_bytes e.key d.key) _ (subst (λ k. is_bytes e.key k ≡ true) h.of_key (is_own e.key)) (and_from (nat_lt e.at d.at) _ (below e.at d.at h.after) (at_most d.at t h.until))
  where
    below : (i j : ℕ) → i < j → nat_lt i j ≡ true
    below i j h = grind (arith, nat_tests)

    at_most : (i j : ℕ) → i ≤ j → nat_le i j ≡ true
    at_most i j h = grind (arith, nat_tests)

-- an event that is before both of two is overtaken by the lesser where it is by the greater
overtaken_first : (x y d : Event) (t : ℕ) → event_cmp x y ≡ Less → event_cmp y d ≡ Less → overtakes x t d ≡ true → overtakes x t y ≡ true
overtaken_first x y d t p q h =
    let over = overtakes_is x t d h in
    let lower = is_lower x y p in
    let upper = is_lower y d q in
    let same : x.key ≡ y.key = between x.key y.key d.key over.of_key lower.other upper.other in
    let one : x.at < y.at = lower.same same in
    let two : y.at < d.at = upper.same (sym same ∙ over.of_key) in
    let last : d.at ≤ t = over.until in
    is_overtakes x t y (record { of_key = same; after = one; until = omega arith })
  where
    -- a key between equal keys is the same
    between : (a b c : List ℕ) → a ≡ c → ((a ≡ b → ⊥) → bytes_cmp a b ≡ Less) → ((b ≡ c → ⊥) → bytes_cmp b c ≡ Less) → a ≡ b
    between a b c same low high = by (is_bytes a b) refl
      where
        by : (t : Bool) → is_bytes a b ≡ t → a ≡ b
        by true is = same_bytes a b is
        by false is =
            let other : a ≡ b → ⊥ = λ e. (let own : is_bytes a b ≡ true = subst (λ k. is_bytes a k ≡ true) e (is_own a) in let clash : ◌≡◌ {A = Bool} true false = sym own ∙ is in cc) in
            let up = low other in
            let down : bytes_cmp b a ≡ Less = subst (λ k. bytes_cmp b k ≡ Less) (sym same) (high (λ e. other (same ∙ sym e))) in
            let loop : bytes_cmp a a ≡ Less = bytes_total.trans a b a up down in
            let tie = bytes_tie a in cc

overtaken_by_first : (x : Event) (ys : List Event) (t : ℕ) → AllByRecursion (λ y. event_cmp x y ≡ Less) ys → IsStrictlySortedBy event_cmp ys → list_any (overtakes x t) ys ≡ is_overtaken x t (slice_get ys 0)
overtaken_by_first x [] t above sorted = refl
overtaken_by_first x (y ∷ ys) t above sorted = by (overtakes x t y) refl
  where
    none : (ds : List Event) → AllByRecursion (λ d. event_cmp y d ≡ Less) ds → overtakes x t y ≡ false → list_any (overtakes x t) ds ≡ false
    none [] h is = refl
    none (d ∷ ds) h is =
        ap (λ b. b || list_any (overtakes x t) ds) (never (overtakes x t d) (λ over. (let clash : ◌≡◌ {A = Bool} true false = sym (overtaken_first x y d t above.0 h.0 over) ∙ is in cc)))
        ∙ none ds h.1 is

    by : (b : Bool) → overtakes x t y ≡ b → (overtakes x t y || list_any (overtakes x t) ys) ≡ overtakes x t y
    by true is = ap (λ b. b || list_any (overtakes x t) ys) is ∙ sym is
    by false is = ap (λ b. b || list_any (overtakes x t) ys) is ∙ none ys (sorted_head event_cmp y ys sorted) is ∙ sym is

pub not_earlier : (x e : Event) (t : ℕ) → event_cmp x e ≡ Less → overtakes e t x ≡ false
not_earlier x e t h =
    never (overtakes e t x)
    (λ is. (let over = overtakes_is e t x is in let one : x.at < e.at = (is_lower x e h).same (sym over.of_key) in let two : e.at < x.at = over.after in omega arith))

pub not_itself : (e : Event) (t : ℕ) → overtakes e t e ≡ false
not_itself e t = never (overtakes e t e) (λ is. (let over : e.at < e.at = (overtakes_is e t e is).after in omega arith))

overtaken_next : (es : List Event) (i : ℕ) (e : Event) (t : ℕ) → IsStrictlySortedBy event_cmp es → slice_get es i ≡ Some e → list_any (overtakes e t) es ≡ is_overtaken e t (slice_get es (suc i))
overtaken_next [] i e t sorted at = cc
overtaken_next (x ∷ xs) zero e t sorted at =
    let same : x ≡ e = cc in
    subst (λ e. list_any (overtakes e t) (x ∷ xs) ≡ is_overtaken e t (slice_get xs 0)) same
    (ap (λ b. b || list_any (overtakes x t) xs) (not_itself x t) ∙ overtaken_by_first x xs t (sorted_head event_cmp x xs sorted) (sorted_tail event_cmp x xs sorted))
overtaken_next (x ∷ xs) (suc i) e t sorted at =
    ap (λ b. b || list_any (overtakes e t) xs) (not_earlier x e t (below xs i e (sorted_head event_cmp x xs sorted) at)) ∙ overtaken_next xs i e t (sorted_tail event_cmp x xs sorted) at
  where
    below : (ys : List Event) (i : ℕ) (e : Event) → AllByRecursion (λ y. event_cmp x y ≡ Less) ys → slice_get ys i ≡ Some e → event_cmp x e ≡ Less
    below [] i e h at = cc
    below (y ∷ ys) zero e h at = let same : y ≡ e = cc in subst (λ e. event_cmp x e ≡ Less) same h.0
    below (y ∷ ys) (suc i) e h at = below ys i e h.1 at

-- e's row stands at the instant, as the next event shows
abbrev pub stands_before : Event → ℕ → Option Event → Bool
stands_before e t next = nat_le e.at t && (is_some e.row && not (is_overtaken e t next))

-- the next event shows whether an event's row stands
pub stands_is : (es : List Event) (i : ℕ) (e : Event) (t : ℕ) → IsStrictlySortedBy event_cmp es → slice_get es i ≡ Some e → stands_at es t e ≡ stands_before e t (slice_get es (i + 1))
unfolding stands_at
stands_is es i e t sorted at =
    let next : suc i ≡ i + 1 = omega arith in
    ap (λ b. nat_le e.at t && (is_some e.row && not b)) (overtaken_next es i e t sorted at ∙ ap (λ n. is_overtaken e t (slice_get es n)) next)
