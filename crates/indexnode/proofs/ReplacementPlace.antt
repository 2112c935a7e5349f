-- Tiling is kept where references that tile a rectangle take the place of the one that has it.
use Rattle.std.proofs.Common.{◌≡◌, ℕ, zero, suc, ◌+◌, ◌<◌, List, [], ◌∷◌, ◌++◌, Bool, true, false, length, take, drop, get_or, cond, Option, Some, None, refl, sym, ap, subst, ◌∙◌, arith}
use Rattle.std.specs.Prelude.{IsTrue, IsSome, is_some, is_none}
use Rattle.std.specs.List.{filter, All, splice}
use Rattle.std.proofs.lemmas.List.{append_assoc, length-append, take-append-drop, drop_more}
use Rattle.std.proofs.lemmas.List.Elements.{All-append, All-nil, All-cons, All-head, All-tail, All-weaker, filter-append}
use Rattle.keyrange.specs.Rect.{Area, has_point, IsInside}
use Rattle.indexnode.specs.declared.reference.Reference.{Reference}
use Rattle.indexnode.specs.Node.{at_point, Tiles}
use Rattle.indexnode.specs.Split.{is_current, AreCurrentIn}
use Rattle.indexnode.specs.Choice.{HasNoCurrent}
use Rattle.indexnode.specs.Replacement.{HasRect, Replaced, IsFirstPlace}
use Rattle.indexnode.proofs.SplitCurrent.{all_taken}

historical_one : (b : Bool) → b ≡ false → b ≡ true → ⊥
historical_one b e f = cc

module _ {C : Type 0} where
  pub has_rect : (area : Area) (references : List (Reference C)) (place : ℕ) → IsFirstPlace area references place → HasRect area references
  has_rect area [] place first = absurd (omega (arith, first.bound))
  has_rect area (r ∷ rest) place first = (place, get_or (r ∷ rest) place r, first.bound, default_alike (r ∷ rest) place _ r first.bound, first.has r)
    where
      default_alike : (xs : List (Reference C)) (i : ℕ) (d e : Reference C) → i < length xs → get_or xs i d ≡ get_or xs i e
      default_alike [] i d e lt = absurd (omega arith)
      default_alike (x ∷ xs) zero d e lt = refl
      default_alike (x ∷ xs) (suc i) d e lt = default_alike xs i d e (omega arith)

  pub lacks_rect : (area : Area) (references : List (Reference C)) → All (λ r. r.rect ≡ area → ⊥) references → HasRect area references → ⊥
  lacks_rect area references none some = none some.0 some.1 some.2 (ap (λ (r : Reference C). r.rect) some.3 ∙ some.4)

  pub in_its_place : (area : Area) (given before after : List (Reference C)) (place : ℕ) → IsFirstPlace area before place → after ≡ splice before place (place + 1) given → Replaced area given before after
  in_its_place area given [] after place first e = absurd (omega (arith, first.bound))
  in_its_place area given (r ∷ rest) after place first e = record {
    front = take place (r ∷ rest);
    reference = get_or (r ∷ rest) place r;
    back = drop (place + 1) (r ∷ rest);
    has = first.has r;
    first = first.first;
    was = sym (take-append-drop place (r ∷ rest)) ∙ ap (λ l. take place (r ∷ rest) ++ l) (drop_more (r ∷ rest) place r first.bound);
    is = e ∙ sym (append_assoc (take place (r ∷ rest)) given (drop (place + 1) (r ∷ rest)));
  }

  none_of : (xs : List (Reference C)) → All (λ _. ⊥) xs → length xs ≡ 0
  none_of [] all = refl
  none_of (x ∷ xs) all = absurd (all 0 x (omega arith))

  -- at a point of the rectangle the given ones hold it once, elsewhere not at all: as the one before
  as_before : (b : Bool) (n : ℕ) (x : Reference C) (ys : List (Reference C)) → (b ≡ true → n ≡ 1) → (b ≡ false → n ≡ 0) → length (cond b (x ∷ ys) ys) ≡ n + length ys
  as_before true n x ys one none = omega (arith, one refl)
  as_before false n x ys one none = omega (arith, none refl)

  pub fronts : (P : Reference C → Type 0) (xs ys : List (Reference C)) → All P (xs ++ ys) → All P xs
  fronts P [] ys all = All-nil P
  fronts P (x ∷ xs) ys all = All-cons P x xs (All-head P x (xs ++ ys) all) (fronts P xs ys (All-tail P x (xs ++ ys) all))

  pub backs : (P : Reference C → Type 0) (xs : List (Reference C)) (y : Reference C) (ys : List (Reference C)) → All P (xs ++ y ∷ ys) → All P ys
  backs P [] y ys all = All-tail P y ys all
  backs P (x ∷ xs) y ys all = backs P xs y ys (All-tail P x (xs ++ y ∷ ys) all)

  mids : (P : Reference C → Type 0) (xs : List (Reference C)) (y : Reference C) (ys : List (Reference C)) → All P (xs ++ y ∷ ys) → P y
  mids P [] y ys all = All-head P y ys all
  mids P (x ∷ xs) y ys all = mids P xs y ys (All-tail P x (xs ++ y ∷ ys) all)

  module _ (area rect : Area) (given before after : List (Reference C)) (tiles : Tiles rect given) (inside : All (λ r. IsInside r.rect rect) given) (replaced : Replaced rect given before after) where
    held : (key : List ℕ) (instant : ℕ) → has_point rect key instant ≡ false → length (at_point key instant given) ≡ 0
    held key instant out = none_of (at_point key instant given)
        (all_taken (λ r. IsInside r.rect rect) (λ r. IsInside r.rect rect) (λ _. ⊥) (λ r. has_point r.rect key instant) given (at_point key instant given) refl
        (λ r lies _ has. let there : has_point rect key instant ≡ true = lies key instant has in cc) inside inside)

    counted : (key : List ℕ) (instant : ℕ) → length (at_point key instant after) ≡ length (at_point key instant before)
    counted key instant =
        let p : Reference C → Bool = λ r. has_point r.rect key instant in
        let front = replaced.front in
        let back = replaced.back in
        let one : has_point replaced.reference.rect key instant ≡ has_point rect key instant = ap (λ a. has_point a key instant) replaced.has in
        let was : length (filter p before) ≡ length (filter p front) + length (filter p (replaced.reference ∷ back)) =
        ap (λ l. length (filter p l)) replaced.was ∙ ap length (filter-append p front (replaced.reference ∷ back)) ∙ length-append (filter p front) (filter p (replaced.reference ∷ back)) in
        let is : length (filter p after) ≡ length (filter p front) + length (filter p given) + length (filter p back) =
        ap (λ l. length (filter p l)) replaced.is ∙ ap length (filter-append p (front ++ given) back) ∙ length-append (filter p (front ++ given)) (filter p back)
        ∙ ap (λ n. n + length (filter p back)) (ap length (filter-append p front given) ∙ length-append (filter p front) (filter p given)) in
        let same : length (filter p (replaced.reference ∷ back)) ≡ length (filter p given) + length (filter p back) =
        as_before (p replaced.reference) (length (filter p given)) replaced.reference (filter p back) (λ e. tiles.once key instant (sym one ∙ e)) (λ e. held key instant (sym one ∙ e)) in
        omega arith

    pub tiling_kept : Tiles area before → Tiles area after
    tiling_kept tiled = record { once = λ key instant h. counted key instant ∙ tiled.once key instant h }

    -- the given ones lie where the one before lay, if it was current
    given_in : AreCurrentIn area before → (IsSome rect.time.to → HasNoCurrent given) → AreCurrentIn area given
    given_in olds historical = by rect.time.to refl
      where
        by : (to : Option ℕ) → rect.time.to ≡ to → AreCurrentIn area given
        by (Some end) e =
            All-weaker (λ r. is_current r ≡ false) (λ r. IsTrue (is_current r) → IsInside r.rect area) (λ r no yes. absurd (historical_one (is_current r) no yes)) given (historical (ap is_some e))
        by None e =
            let lies : IsInside replaced.reference.rect area = mids (λ r. IsTrue (is_current r) → IsInside r.rect area) replaced.front replaced.reference replaced.back (subst (All (λ r. IsTrue (is_current r) → IsInside r.rect area)) replaced.was olds) (ap (λ (a : Area). is_none a.time.to) replaced.has ∙ ap is_none e) in
            let whole : IsInside rect area = subst (λ a. IsInside a area) replaced.has lies in
            All-weaker (λ r. IsInside r.rect rect) (λ r. IsTrue (is_current r) → IsInside r.rect area) (λ r lies_r _ key instant h. whole key instant (lies_r key instant h)) given inside

    pub currents_kept : AreCurrentIn area before → (IsSome rect.time.to → HasNoCurrent given) → AreCurrentIn area after
    currents_kept olds historical =
        let P : Reference C → Type 0 = λ r. IsTrue (is_current r) → IsInside r.rect area in
        let all : All P (replaced.front ++ replaced.reference ∷ replaced.back) = subst (All P) replaced.was olds in
        subst (All P) (sym replaced.is) (All-append P (replaced.front ++ given) replaced.back (All-append P replaced.front given (fronts P replaced.front _ all) (given_in olds historical)) (backs P replaced.front replaced.reference replaced.back all))
