-- The changes of one instant after another.
use Rattle.std.proofs.Common.{◌≡◌, ℕ, ◌+◌, ◌<◌, ◌==◌, Bool, true, false, cond, T, List, [], ◌∷◌, ◌++◌, Option, None, refl, sym, subst, ap, ◌∙◌, arith, length, length-append, append-nil, suc, take, drop, get_or, filter}
use Rattle.std.specs.Prelude.{Result, IsErrAnd}
use Rattle.std.specs.Io.KnownBytes.{Appends}
use Rattle.std.specs.List.{AllByRecursion, flat_map, prefix_len, range_with_len, slice_get}
use Rattle.std.specs.Ordering.{is_lt, nat_cmp}
use Rattle.std.specs.declared.cmp.Ordering.TheVariants.{Less}
use Rattle.std.proofs.Math.Seq.{take-append_seam, drop-append_seam}
use Rattle.std.proofs.lemmas.Bool.Decides.{nat_tests}
use Rattle.std.proofs.lemmas.Map.Keys.{sorted_head, sorted_tail}
use Rattle.values.specs.Event.{Event}
use Rattle.values.specs.Tables.{Schema}
use Rattle.values.proofs.OrderTotal.{below}
use Rattle.statement.specs.Writer.{AppendsPrefix, Prints}
use Rattle.statement.proofs.WriterPrefixes.{Left, left_taken, left_front}
use Rattle.dump_steps.specs.Widths.{Widths}
use Rattle.dumping.specs.History.{AreRuns, instant_text, instants_text, places_at, widths_behind}
use Rattle.dumping.specs.Order.{instant_at}
use Rattle.dumping.specs.Transaction.{all_widened}
use Rattle.dumping.proofs.DumpTextPieces.{failed}

-- ---- the first that pass a test

abbrev pub Pass : {X : Type 0} → (X → Bool) → Bool → List X → Type 0
Pass p b xs = AllByRecursion (λ x. p x ≡ b) xs

pub filtered : {X : Type 0} (p : X → Bool) (xs : List X) → Pass p true (filter p xs)
filtered p [] = tt
filtered p (x ∷ xs) = by (p x) refl (filtered p xs)
  where
    by : (b : Bool) → p x ≡ b → Pass p true (filter p xs) → Pass p true (cond b (x ∷ filter p xs) (filter p xs))
    by true e rest = (e, rest)
    by false e rest = rest

appended : {X : Type 0} (p : X → Bool) (b : Bool) (xs ys : List X) → Pass p b xs → Pass p b ys → Pass p b (xs ++ ys)
appended p b [] ys h g = g
appended p b (x ∷ xs) ys h g = (h.0, appended p b xs ys h.1 g)

none_first : {X : Type 0} (p : X → Bool) (ys : List X) → Pass p false ys → prefix_len p ys ≡ 0
none_first p [] h = refl
none_first p (y ∷ ys) h = ap (λ b. cond b (1 + prefix_len p ys) 0) h.0

all_first : {X : Type 0} (p : X → Bool) (xs ys : List X) → Pass p true xs → Pass p false ys → prefix_len p (xs ++ ys) ≡ length xs
all_first p [] ys h g = none_first p ys g
all_first p (x ∷ xs) ys h g = ap (λ b. cond b (1 + prefix_len p (xs ++ ys)) 0) h.0 ∙ ap (λ n. 1 + n) (all_first p xs ys h.1 g) ∙ one_more (length xs)
  where
    one_more : (n : ℕ) → 1 + n ≡ suc n
    one_more n = omega arith

-- ---- places of one instant, and those of later ones

apart : (i j a : ℕ) → nat_cmp i j ≡ Less → (a == j) ≡ true → (a == i) ≡ false
apart i j a less is = let lt : i < j = below i j (subst (λ o. T (is_lt o)) (sym less) tt) in grind (arith, nat_tests)

module _ (es : List Event) where
  abbrev is_at : ℕ → ℕ → Bool
  is_at i place = instant_at es place == i

  others_fail : (i j : ℕ) (places : List ℕ) → nat_cmp i j ≡ Less → Pass (is_at j) true places → Pass (is_at i) false places
  others_fail i j [] less h = tt
  others_fail i j (place ∷ places) less h = (apart i j (instant_at es place) less h.0, others_fail i j places less h.1)

  later_fail : (i : ℕ) (is : List ℕ) → AllByRecursion (λ j. nat_cmp i j ≡ Less) is → Pass (is_at i) false (flat_map (places_at es) is)
  later_fail i [] h = tt
  later_fail i (j ∷ is) h =
      appended (is_at i) false (places_at es j) (flat_map (places_at es) is)
      (others_fail i j (places_at es j) h.0 (filtered (is_at j) (range_with_len 0 (length es)))) (later_fail i is h.1)

  first_passes : (i : ℕ) (places others : List ℕ) → 0 < length places → Pass (is_at i) true places → (get_or (places ++ others) 0 0 ≡ get_or places 0 0) × (instant_at es (get_or places 0 0) ≡ i)
  first_passes i [] others some h = absurd (omega arith)
  first_passes i (place ∷ places) others some h = (refl, same (instant_at es place) h.0)
    where
      same : (a : ℕ) → (a == i) ≡ true → a ≡ i
      same a e = grind (arith, nat_tests)

  -- what is left of a history begins with all places of its first instant
  pub record IsFirstRun (i : ℕ) (is rest : List ℕ) : Type 0 where
    pub instant : instant_at es (get_or rest 0 0) ≡ i
    pub many : prefix_len (is_at i) rest ≡ length (places_at es i)
    pub first : take (length (places_at es i)) rest ≡ places_at es i
    pub others : AreRuns es is (drop (length (places_at es i)) rest)

  first_run : (i : ℕ) (is rest : List ℕ) → AreRuns es (i ∷ is) rest → IsFirstRun i is rest
  first_run i is rest h =
      let begun = first_passes i (places_at es i) (flat_map (places_at es) is) h.some.0 (filtered (is_at i) (range_with_len 0 (length es))) in
      record {
        instant = ap (λ (l : List ℕ). instant_at es (get_or l 0 0)) h.places_are ∙ ap (instant_at es) begun.0 ∙ begun.1;
        many = ap (prefix_len (is_at i)) h.places_are
            ∙ all_first (is_at i) (places_at es i) (flat_map (places_at es) is) (filtered (is_at i) (range_with_len 0 (length es))) (later_fail i is (sorted_head nat_cmp i is h.rising));
        first = ap (take (length (places_at es i))) h.places_are ∙ take-append_seam (places_at es i) (flat_map (places_at es) is);
        others = record {
          rising = sorted_tail nat_cmp i is h.rising;
          some = h.some.1;
          places_are = ap (drop (length (places_at es i))) h.places_are ∙ drop-append_seam (places_at es i) (flat_map (places_at es) is);
        };
      }

-- ---- what was written, and what the widths are, where some places are left

module _ (tables : Schema) (es : List Event) (instants : List ℕ) where
  pub record HasCome (a b : Option (List ℕ)) (old w : Widths) (rest : List ℕ) : Type 0 where
    pub left_instants : List ℕ
    pub runs : AreRuns es left_instants rest
    pub left : Left a b (instants_text tables es old instants) (instants_text tables es w left_instants)
    pub widths : widths_behind tables es w left_instants ≡ widths_behind tables es old instants

  -- the first run of what is left
  record IsRun (i : ℕ) (is : List ℕ) (at : ℕ) (some others : List ℕ) : Type 0 where
    at_is : at ≡ i
    some_are : some ≡ places_at es i
    runs : AreRuns es is others

  run_of : (i : ℕ) (is rest : List ℕ) (at n : ℕ) (some others : List ℕ) → AreRuns es (i ∷ is) rest → at ≡ instant_at es (get_or rest 0 0) → n ≡ prefix_len (is_at es at) rest → some ≡ take n rest → others ≡ drop n rest
      → IsRun i is at some others
  run_of i is rest at n some others h is_at_first is_many are_some are_others =
      let run = first_run es i is rest h in
      let same : at ≡ i = is_at_first ∙ run.instant in
      let many : n ≡ length (places_at es i) = is_many ∙ ap (λ (j : ℕ). prefix_len (is_at es j) rest) same ∙ run.many in
      record {
        at_is = same;
        some_are = are_some ∙ ap (λ (k : ℕ). take k rest) many ∙ run.first;
        runs = subst (AreRuns es is) (sym (are_others ∙ ap (λ (k : ℕ). drop k rest) many)) run.others;
      }

  pub instant_taken : (a b c : Option (List ℕ)) (old w v : Widths) (rest : List ℕ) (at n : ℕ) (some others : List ℕ) → HasCome a b old w rest → 0 < length rest
      → at ≡ instant_at es (get_or rest 0 0) → n ≡ prefix_len (is_at es at) rest → some ≡ take n rest → others ≡ drop n rest
      → Appends b c (instant_text tables es w at some) → v ≡ all_widened tables es w some → HasCome a c old v others
  instant_taken a b c old w v rest at n some others h any is_at_first is_many are_some are_others p is_wider = by h.left_instants h.runs h.left h.widths
    where
      by : (is : List ℕ) → AreRuns es is rest → Left a b (instants_text tables es old instants) (instants_text tables es w is) → widths_behind tables es w is ≡ widths_behind tables es old instants → HasCome a c old v others
      by [] runs left widths = absurd (let none : 0 < length {A = ℕ} [] = subst (λ (l : List ℕ). 0 < length l) runs.places_are any in omega arith)
      by (i ∷ is) runs left widths =
          let run = run_of i is rest at n some others runs is_at_first is_many are_some are_others in
          let wider : v ≡ all_widened tables es w (places_at es i) = is_wider ∙ ap (all_widened tables es w) run.some_are in
          let q : Appends b c (instant_text tables es w i (places_at es i)) = subst (Appends b c) (λ k. instant_text tables es w (run.at_is k) (run.some_are k)) p in
          record {
            left_instants = is;
            runs = run.runs;
            left = subst (λ (u : Widths). Left a c (instants_text tables es old instants) (instants_text tables es u is)) (sym wider)
                (left_taken a b c (instants_text tables es old instants) (instant_text tables es w i (places_at es i)) (instants_text tables es (all_widened tables es w (places_at es i)) is) left q);
            widths = ap (λ (u : Widths). widths_behind tables es u is) wider ∙ widths;
          }

  pub instant_stopped : {E : Type 0} (P : E → Type 0) (a b c : Option (List ℕ)) (r : Result (Unit {0}) E) (old w : Widths) (rest : List ℕ) (at n : ℕ) (some others : List ℕ) → IsErrAnd r P → HasCome a b old w rest → 0 < length rest
      → at ≡ instant_at es (get_or rest 0 0) → n ≡ prefix_len (is_at es at) rest → some ≡ take n rest → others ≡ drop n rest
      → AppendsPrefix b c (instant_text tables es w at some) → Prints a c r (instants_text tables es old instants)
  instant_stopped P a b c r old w rest at n some others e h any is_at_first is_many are_some are_others f = failed P a c r (instants_text tables es old instants) e (by h.left_instants h.runs h.left)
    where
      by : (is : List ℕ) → AreRuns es is rest → Left a b (instants_text tables es old instants) (instants_text tables es w is) → AppendsPrefix a c (instants_text tables es old instants)
      by [] runs left = absurd (let none : 0 < length {A = ℕ} [] = subst (λ (l : List ℕ). 0 < length l) runs.places_are any in omega arith)
      by (i ∷ is) runs left =
          let run = run_of i is rest at n some others runs is_at_first is_many are_some are_others in
          left_front a b c (instants_text tables es old instants) (instant_text tables es w i (places_at es i)) (instants_text tables es (all_widened tables es w (places_at es i)) is) left
          (subst (AppendsPrefix b c) (λ k. instant_text tables es w (run.at_is k) (run.some_are k)) f)

  -- none is left
  pub all_instants : (a b : Option (List ℕ)) (old w : Widths) (rest : List ℕ) → HasCome a b old w rest → slice_get rest 0 ≡ None → Appends a b (instants_text tables es old instants) × (w ≡ widths_behind tables es old instants)
  all_instants a b old w rest h none = by h.left_instants h.runs h.left h.widths
    where
      nothing : (places : List ℕ) → slice_get places 0 ≡ None → 0 < length places → ⊥
      nothing [] e lt = omega arith
      nothing (place ∷ places) e lt = cc

      some_place : (places others : List ℕ) → 0 < length places → 0 < length (places ++ others)
      some_place places others lt = rw length-append (omega arith)

      by : (is : List ℕ) → AreRuns es is rest → Left a b (instants_text tables es old instants) (instants_text tables es w is) → widths_behind tables es w is ≡ widths_behind tables es old instants
          → Appends a b (instants_text tables es old instants) × (w ≡ widths_behind tables es old instants)
      by [] runs left widths = (subst (Appends a b) (sym (left.is ∙ append-nil left.out)) left.wrote, widths)
      by (i ∷ is) runs left widths =
          absurd (nothing rest none (subst (λ (l : List ℕ). 0 < length l) (sym runs.places_are) (some_place (places_at es i) (flat_map (places_at es) is) runs.some.0)))
