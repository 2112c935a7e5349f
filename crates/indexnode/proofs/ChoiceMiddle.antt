-- The middle one of several lower keys lies strictly inside a rectangle that is tiled, and both halves have fewer references.
use Rattle.std.proofs.Common.{◌≡◌, ℕ, ◌<◌, ◌≤◌, ◌⊎◌, inl, inr, List, [], ◌∷◌, zero, suc, Bool, true, false, length, max, map, cond, get_or, Option, Some, None, refl, sym, ap, ◌∙◌, arith}
use Rattle.std.specs.Prelude.{IsTrue, ◌&&◌, not, nat_le}
use Rattle.std.specs.Ordering.{is_lt}
use Rattle.std.specs.Cmp.Lexicographic.{nat_list_cmp_total}
use Rattle.std.specs.List.{filter, All}
use Rattle.std.specs.List.Sorted.{IsPermutation}
use Rattle.std.proofs.lemmas.Bool.Decides.{nat_tests}
use Rattle.std.proofs.lemmas.List.Elements.{All-nil, All-cons, All-head, All-tail, All-map, All-weaker, All-from_get_or}
use Rattle.std.proofs.lemmas.List.{length-map}
use Rattle.std.proofs.lemmas.List.Sums.{length-filter}
use Rattle.std.proofs.lemmas.List.Sorted.{All-permutation, IsPermutation-sym, sum_by-IsPermutation, sorted_far, ranks_by, length_permutation}
use Rattle.values.specs.Events.{bytes_cmp}
use Rattle.keyrange.specs.Rect.{Area, has_point, is_area}
use Rattle.keyrange.specs.Range.{is_below, is_before_end}
use Rattle.keyrange.specs.Cut.{is_key_inside}
use Rattle.keyrange.proofs.RectMeeting.{both, first, second}
use Rattle.keyrange.proofs.RangeOrder.{not_itself, above}
use Rattle.indexnode.specs.declared.reference.Reference.{Reference}
use Rattle.indexnode.specs.Node.{at_point, Tiles}
use Rattle.indexnode.specs.Split.{is_current, reaches_below, reaches_up, IsUncrossed, AreCurrentIn}
use Rattle.indexnode.specs.Choice.{current_keys, current_count, AreOrdered, AreSmaller}
use Rattle.indexnode.proofs.SplitCurrent.{all_taken, one_false}
use Rattle.indexnode.proofs.SplitTiling.{negated, denied}
use Rattle.indexnode.proofs.ChoiceCrossing.{endless, passing}

-- ---- counting what passes

counted_true : {X : Type 0} (q : Bool) (x : X) (key : List ℕ) (test : List ℕ → Bool) (keys : List (List ℕ)) (xs : List X) → test key ≡ q → length (filter test keys) ≡ length xs → length (filter test (key ∷ keys)) ≡ length (cond q (x ∷ xs) xs)
counted_true true x key test keys xs e h = ap (λ b. length (cond b (key ∷ filter test keys) (filter test keys))) e ∙ ap suc h
counted_true false x key test keys xs e h = ap (λ b. length (cond b (key ∷ filter test keys) (filter test keys))) e ∙ h

counted_one : {X : Type 0} (c q : Bool) (x : X) (key : List ℕ) (test : List ℕ → Bool) (keys : List (List ℕ)) (xs : List X) → test key ≡ q → length (filter test keys) ≡ length xs
    → length (filter test (cond c (key ∷ keys) keys)) ≡ length (cond (c && q) (x ∷ xs) xs)
counted_one true q x key test keys xs e h = counted_true q x key test keys xs e h
counted_one false q x key test keys xs e h = h

map_cond : {X Y : Type 0} (f : X → Y) (c : Bool) (x : X) (xs : List X) → map f (cond c (x ∷ xs) xs) ≡ cond c (f x ∷ map f xs) (map f xs)
map_cond f true x xs = refl
map_cond f false x xs = refl

counted : {X : Type 0} (c : X → Bool) (f : X → List ℕ) (test : List ℕ → Bool) (xs : List X)
    → length (filter test (map f (filter c xs))) ≡ length (filter (λ x. c x && test (f x)) xs)
counted c f test [] = refl
counted c f test (x ∷ xs) =
    ap (λ keys. length (filter test keys)) (map_cond f (c x) x (filter c xs))
    ∙ counted_one (c x) (test (f x)) x (f x) test (map f (filter c xs)) (filter (λ y. c y && test (f y)) xs) refl (counted c f test xs)

same_count : (test : List ℕ → Bool) (xs ys : List (List ℕ)) → IsPermutation xs ys → length (filter test ys) ≡ length (filter test xs)
same_count test xs ys same = length-filter test ys ∙ sum_by-IsPermutation (λ k. cond (test k) 1 0) xs ys same ∙ sym (length-filter test xs)

fewer_one : {X : Type 0} (a b : Bool) (x : X) (xs ys : List X) → (a ≡ true → b ≡ true) → length xs ≤ length ys → length (cond a (x ∷ xs) xs) ≤ length (cond b (x ∷ ys) ys)
fewer_one true true x xs ys e h = omega arith
fewer_one true false x xs ys e h = let no : false ≡ true = e refl in cc
fewer_one false true x xs ys e h = omega arith
fewer_one false false x xs ys e h = h

pub fewer : {X : Type 0} (p q : X → Bool) (xs : List X) → All (λ x. p x ≡ true → q x ≡ true) xs → length (filter p xs) ≤ length (filter q xs)
fewer p q [] h = omega arith
fewer p q (x ∷ xs) h = fewer_one (p x) (q x) x (filter p xs) (filter q xs) (All-head (λ y. p y ≡ true → q y ≡ true) x xs h) (fewer p q xs (All-tail (λ y. p y ≡ true → q y ≡ true) x xs h))

-- an element counts
counts : {X : Type 0} (p : X → Bool) (xs : List X) (i : ℕ) (d : X) → i < length xs → p (get_or xs i d) ≡ true → 1 ≤ length (filter p xs)
counts p [] i d lt e = absurd (omega arith)
counts p (x ∷ xs) zero d lt e = omega (arith, ap (λ b. length (cond b (x ∷ filter p xs) (filter p xs))) e)
counts p (x ∷ xs) (suc i) d lt e = by (p x) (counts p xs i d (omega arith) e)
  where
    by : (b : Bool) → 1 ≤ length (filter p xs) → 1 ≤ length (cond b (x ∷ filter p xs) (filter p xs))
    by true h = omega arith
    by false h = h

-- the first and a later one count twice
count_both : {X : Type 0} (p : X → Bool) (xs : List X) (i : ℕ) (d : X) → 0 < i → i < length xs → p (get_or xs 0 d) ≡ true → p (get_or xs i d) ≡ true → 2 ≤ length (filter p xs)
count_both p [] i d lt up e h = absurd (omega arith)
count_both p (x ∷ xs) zero d lt up e h = absurd (omega arith)
count_both p (x ∷ xs) (suc i) d lt up e h = omega (arith, ap (λ b. length (cond b (x ∷ filter p xs) (filter p xs))) e, counts p xs i d (omega arith) h)

at_most_all : {X : Type 0} (b : Bool) (x : X) (xs ys : List X) → length ys ≤ length xs → length (cond b (x ∷ ys) ys) ≤ length (x ∷ xs)
at_most_all true x xs ys le = omega arith
at_most_all false x xs ys le = omega arith

filtered_le : {X : Type 0} (p : X → Bool) (xs : List X) → length (filter p xs) ≤ length xs
filtered_le p [] = omega arith
filtered_le p (x ∷ xs) = at_most_all (p x) x xs (filter p xs) (filtered_le p xs)

less_by_one : {X : Type 0} (b : Bool) (x : X) (xs ys : List X) → b ≡ false → length ys ≤ length xs → length (cond b (x ∷ ys) ys) < length (x ∷ xs)
less_by_one true x xs ys e le = cc
less_by_one false x xs ys e le = omega arith

still_less : {X : Type 0} (b : Bool) (x : X) (xs ys : List X) → length ys < length xs → length (cond b (x ∷ ys) ys) < length (x ∷ xs)
still_less true x xs ys lt = omega arith
still_less false x xs ys lt = omega arith

-- all pass, or fewer than all
pub all_or_fewer : {X : Type 0} (p : X → Bool) (xs : List X) → All (λ x. p x ≡ true) xs ⊎ (length (filter p xs) < length xs)
all_or_fewer p [] = inl (All-nil (λ x. p x ≡ true))
all_or_fewer {X} p (x ∷ xs) = by (p x) refl (all_or_fewer p xs)
  where
    by : (b : Bool) → p x ≡ b → All (λ y. p y ≡ true) xs ⊎ (length (filter p xs) < length xs) → All (λ y. p y ≡ true) (x ∷ xs) ⊎ (length (filter p (x ∷ xs)) < length (x ∷ xs))
    by b e (inr lt) = inr (still_less (p x) x xs (filter p xs) lt)
    by true e (inl all) = inl (All-cons (λ y. p y ≡ true) x xs e all)
    by false e (inl all) = inr (less_by_one (p x) x xs (filter p xs) e (filtered_le p xs))

-- ---- lower keys

of_made : {X Y : Type 0} (P : Y → Type 0) (f : X → Y) (xs : List X) → All P (map f xs) → All (λ x. P (f x)) xs
of_made P f [] h = All-nil (λ x. P (f x))
of_made P f (x ∷ xs) h = All-cons (λ y. P (f y)) x xs (All-head P (f x) (map f xs) h) (of_made P f xs (All-tail P (f x) (map f xs) h))

end_from : (lo a : List ℕ) (end : Option (List ℕ)) → is_below lo a ≡ false → is_before_end lo end ≡ true → is_before_end a end ≡ true
end_from lo a None e h = refl
end_from lo a (Some end) e h = above lo a end e h

module _ {C : Type 0} where
  record Latest (references : List (Reference C)) : Type 0 where
    instant : ℕ
    upto : All (λ r. nat_le r.rect.time.from instant ≡ true) references

  latest : (references : List (Reference C)) → Latest references
  latest [] = record { instant = 0; upto = All-nil (λ r. nat_le r.rect.time.from 0 ≡ true) }
  latest (r ∷ rest) =
      let l = latest rest in
      let n = max r.rect.time.from l.instant in
      record {
        instant = n;
        upto = All-cons (λ s. nat_le s.rect.time.from n ≡ true) r rest (up r.rect.time.from n (omega arith)) (All-weaker (λ s. nat_le s.rect.time.from l.instant ≡ true) (λ s. nat_le s.rect.time.from n ≡ true) (λ s e. more s.rect.time.from l.instant n e (omega arith)) rest l.upto);
      }
    where
      up : (x y : ℕ) → x ≤ y → nat_le x y ≡ true
      up x y le = grind (arith, nat_tests)

      more : (x y z : ℕ) → nat_le x y ≡ true → y ≤ z → nat_le x z ≡ true
      more x y z e le = grind (arith, nat_tests)

  pub counted_in_order : (references : List (Reference C)) (ordered : List (List ℕ)) → AreOrdered references ordered → length ordered ≡ current_count references
  counted_in_order references ordered are = length_permutation (current_keys references) ordered are.same_keys ∙ length-map (filter is_current references) (λ r. r.rect.keys.lo)

  module _ (area : Area) (references : List (Reference C)) (ordered : List (List ℕ)) (tiled : Tiles area references) (inside : AreCurrentIn area references)
      (areas : All (λ r. IsTrue (is_area r.rect.keys r.rect.time)) references) (are : AreOrdered references ordered) where
    -- what holds of the lower key of each current reference holds of each in order
    of_each : (P : List ℕ → Type 0) → All (λ r. IsTrue (is_current r) → P r.rect.keys.lo) references → All P ordered
    of_each P each =
        let Q : Reference C → Type 0 = λ r. IsTrue (is_current r) → P r.rect.keys.lo in
        All-permutation P (current_keys references) ordered are.same_keys
        (All-map P (λ r. r.rect.keys.lo) (filter is_current references)
        (all_taken Q Q (λ r. P r.rect.keys.lo) is_current references (filter is_current references) refl (λ r holds _ current. holds current) each each))

    to_each : (P : List ℕ → Type 0) → All P ordered → All (λ r. IsTrue (is_current r) → P r.rect.keys.lo) references
    to_each P each =
        passing is_current (λ r. P r.rect.keys.lo) references
        (of_made P (λ r. r.rect.keys.lo) (filter is_current references) (All-permutation P ordered (current_keys references) (IsPermutation-sym (current_keys references) ordered are.same_keys) each))

    -- the lower key of a current reference is a point of the rectangle at its start and later
    lies : (instant : ℕ) → All (λ r. nat_le r.rect.time.from instant ≡ true) references → All (λ key. has_point area key instant ≡ true) ordered
    lies instant upto = of_each (λ key. has_point area key instant ≡ true) (λ k d lt current.
        inside k d lt current _ instant
        (both _ _ (both _ _ (negated _ (not_itself (get_or references k d).rect.keys.lo)) (first _ _ (areas k d lt))) (both _ _ (upto k d lt) (endless (get_or references k d).rect.time.to instant current))))

    least_first : (i : ℕ) (d : List ℕ) → i < length ordered → is_below (get_or ordered i d) (get_or ordered 0 d) ≡ false
    least_first i d lt = sorted_far (λ x y. is_lt (bytes_cmp x y)) (ranks_by nat_list_cmp_total (λ x. x)) ordered are.in_order 0 i d (omega arith) lt

    -- of several the middle one is above the first
    above_first : (i : ℕ) (d : List ℕ) → 0 < i → i < length ordered → is_below (get_or ordered 0 d) (get_or ordered i d) ≡ true
    above_first i d up lt = by (is_below (get_or ordered 0 d) (get_or ordered i d)) refl
      where
        by : (t : Bool) → is_below (get_or ordered 0 d) (get_or ordered i d) ≡ t → is_below (get_or ordered 0 d) (get_or ordered i d) ≡ true
        by true e = e
        by false e =
            let a = get_or ordered 0 d in
            let l = latest references in
            let test : List ℕ → Bool = λ key. not (is_below a key) in
            let twice : 2 ≤ length (filter test ordered) = count_both test ordered i d up lt (negated _ (not_itself a)) (negated _ e) in
            let lows : All (λ r. IsTrue (is_current r) → is_below r.rect.keys.lo a ≡ false) references = to_each (λ key. is_below key a ≡ false) (All-from_get_or (λ key. is_below key a ≡ false) ordered d (λ k lt_k. least_first k d lt_k)) in
            let few : length (filter (λ r. is_current r && test r.rect.keys.lo) references) ≤ length (at_point a l.instant references) =
            fewer (λ r. is_current r && test r.rect.keys.lo) (λ r. has_point r.rect a l.instant) references (λ k e lt_k passes.
            let r = get_or references k e in
            let current : is_current r ≡ true = first _ _ passes in
            both _ _ (both _ _ (second (is_current r) _ passes) (end_from r.rect.keys.lo a r.rect.keys.hi (lows k e lt_k current) (first _ _ (areas k e lt_k)))) (both _ _ (l.upto k e lt_k) (endless r.rect.time.to l.instant current))) in
            let once : length (at_point a l.instant references) ≡ 1 = tiled.once a l.instant (lies l.instant l.upto 0 d (omega arith)) in
            let equal : length (filter test ordered) ≡ length (filter (λ r. is_current r && test r.rect.keys.lo) references) = same_count test (current_keys references) ordered are.same_keys ∙ counted is_current (λ r. r.rect.keys.lo) test references in
            absurd (omega arith)

    -- the middle one of several lies strictly inside
    pub strictly_inside : (i : ℕ) (d : List ℕ) → 0 < i → i < length ordered → is_key_inside area (get_or ordered i d) ≡ true
    strictly_inside i d up lt =
        let l = latest references in
        let points = lies l.instant l.upto in
        let low : is_below (get_or ordered 0 d) area.keys.lo ≡ false = denied _ (first _ _ (first _ _ (points 0 d (omega arith)))) in
        let high : is_before_end (get_or ordered i d) area.keys.hi ≡ true = second (not (is_below (get_or ordered i d) area.keys.lo)) _ (first _ _ (points i d lt)) in
        both _ _ (above (get_or ordered 0 d) area.keys.lo (get_or ordered i d) low (above_first i d up lt)) high

    -- some reference does not reach below it
    fewer_below : (i : ℕ) (d : List ℕ) → i < length ordered → length (filter (λ r. reaches_below (get_or ordered i d) r.rect) references) < length references
    fewer_below i d lt = by (all_or_fewer (λ r. reaches_below (get_or ordered i d) r.rect) references)
      where
        by : All (λ r. reaches_below (get_or ordered i d) r.rect ≡ true) references ⊎ (length (filter (λ r. reaches_below (get_or ordered i d) r.rect) references) < length references) → length (filter (λ r. reaches_below (get_or ordered i d) r.rect) references) < length references
        by (inr less) = less
        by (inl all) =
            let key = get_or ordered i d in
            let P : List ℕ → Type 0 = λ k. is_below k key ≡ true in
            let each : All P ordered = of_each P (λ k e lt_k _. all k e lt_k) in
            let itself : is_below key key ≡ true = each i d lt in
            let no_one : is_below key key ≡ false = not_itself key in
            absurd (let no : true ≡ false = sym itself ∙ no_one in cc)

    -- some reference does not reach up to it
    fewer_up : (i : ℕ) (d : List ℕ) → 0 < i → i < length ordered → IsUncrossed (get_or ordered i d) references → length (filter (λ r. reaches_up (get_or ordered i d) r.rect) references) < length references
    fewer_up i d up lt uncrossed = by (all_or_fewer (λ r. reaches_up (get_or ordered i d) r.rect) references)
      where
        by : All (λ r. reaches_up (get_or ordered i d) r.rect ≡ true) references ⊎ (length (filter (λ r. reaches_up (get_or ordered i d) r.rect) references) < length references) → length (filter (λ r. reaches_up (get_or ordered i d) r.rect) references) < length references
        by (inr less) = less
        by (inl all) =
            let key = get_or ordered i d in
            let P : List ℕ → Type 0 = λ k. is_below k key ≡ false in
            let each : All P ordered = of_each P (λ k e lt_k current. one_false _ _ (uncrossed k e lt_k current) (all k e lt_k)) in
            let not_above : is_below (get_or ordered 0 d) key ≡ false = each 0 d (omega arith) in
            let is_above : is_below (get_or ordered 0 d) key ≡ true = above_first i d up lt in
            absurd (let no : true ≡ false = sym is_above ∙ not_above in cc)

    pub smaller : (i : ℕ) (d : List ℕ) → 0 < i → i < length ordered → IsUncrossed (get_or ordered i d) references → AreSmaller (get_or ordered i d) references
    smaller i d up lt uncrossed = record { below = fewer_below i d lt; above = fewer_up i d up lt uncrossed }
