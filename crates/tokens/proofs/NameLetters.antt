-- A name is a reserved word where it is one of those of its first letter.
use Rattle.std.proofs.Common.{◌≡◌, ◌<◌, ◌≤◌, ◌+◌, ◌-◌, ℕ, List, [], ◌∷◌, Bool, true, false, length, get_or, refl, sym, ◌∙◌, ap, arith, zero, suc, subst}
use Rattle.std.specs.Prelude.{◌==◌, ◌&&◌, ◌||◌, flat_map}
use Rattle.std.specs.List.{list_any, list_all}
use Rattle.std.specs.Char.{to_ascii_lowercase}
use Rattle.std.specs.Cmp.Lexicographic.{bytes_decides}
use Rattle.std.specs.Str.{str_to_ascii_lowercase as lower}
use Rattle.std.proofs.lemmas.List.Folds.{list_any-append}
use Rattle.std.proofs.lemmas.Bool.{and_parts}
use Rattle.std.proofs.lemmas.Bool.Decides.{nat_tests}
use Rattle.values.specs.Names.{same_name}
use Rattle.tokens.specs.Name.{any_at, reserved_words, is_reserved}

either : {a b c d : Bool} → a ≡ b → c ≡ d → (a || c) ≡ (b || d)
either is other = cc

or_none : (a : Bool) → (a || false) ≡ a
or_none true = refl
or_none false = refl

-- a word begins with a letter, in any case
abbrev pub begins : ℕ → List ℕ → Bool
begins letter [] = false
begins letter (b ∷ bs) = to_ascii_lowercase b == letter

same_head : (w b : ℕ) (ws bs : List ℕ) → w ∷ ws ≡ b ∷ bs → w ≡ b
same_head w b ws bs e = cc

not_here : (letter v w : ℕ) → (v == letter) ≡ true → (letter == w) ≡ false → v ≡ w → false ≡ true
not_here letter v w is other same = grind (arith, nat_tests)

apart : (letter b : ℕ) (bs : List ℕ) (w : ℕ) (word : List ℕ) (t : Bool) → same_name (w ∷ word) (b ∷ bs) ≡ t → begins letter (w ∷ word) ≡ true
    → (letter == to_ascii_lowercase b) ≡ false → t ≡ false
apart letter b bs w word true same is other =
    sym (not_here letter (to_ascii_lowercase w) (to_ascii_lowercase b) is other
    (same_head (to_ascii_lowercase w) (to_ascii_lowercase b) (lower word) (lower bs)
    ((bytes_decides (lower (w ∷ word)) (lower (b ∷ bs))).0 same)))
apart letter b bs w word false same is other = refl

-- words that begin with another letter than a name are not the same
other_word : (letter b : ℕ) (bs word : List ℕ) → begins letter word ≡ true → (letter == to_ascii_lowercase b) ≡ false → same_name word (b ∷ bs) ≡ false
other_word letter b bs [] is other = cc
other_word letter b bs (w ∷ word) is other = apart letter b bs w word (same_name (w ∷ word) (b ∷ bs)) refl is other

different : (m n : ℕ) → m < n → (m == n) ≡ false
different m n less = grind (arith, nat_tests)

different_back : (m n : ℕ) → n < m → (m == n) ≡ false
different_back m n less = grind (arith, nat_tests)

module _ {L W : Type 0} (words : L → List W) (text : W → List ℕ) where
  -- those of each letter from one on
  abbrev pub are_in_order : ℕ → List L → Bool
  are_in_order n [] = true
  are_in_order n (l ∷ ls) = list_all (λ w. begins n (text w)) (words l) && are_in_order (n + 1) ls

  module _ (b : ℕ) (bs : List ℕ) where
    abbrev is : W → Bool
    is w = same_name (text w) (b ∷ bs)

    others : (n : ℕ) (ws : List W) → list_all (λ w. begins n (text w)) ws ≡ true → (n == to_ascii_lowercase b) ≡ false → list_any is ws ≡ false
    others n [] are other = refl
    others n (w ∷ ws) are other =
        let here = and_parts (begins n (text w)) (list_all (λ v. begins n (text v)) ws) are in
        either (other_word n b bs (text w) here.0 other) (others n ws here.1 other)

    pub later : (n : ℕ) (ls : List L) → are_in_order n ls ≡ true → to_ascii_lowercase b < n → list_any is (flat_map words ls) ≡ false
    later n [] are before = refl
    later n (l ∷ ls) are before =
        let here = and_parts (list_all (λ w. begins n (text w)) (words l)) (are_in_order (n + 1) ls) are in
        list_any-append is (words l) (flat_map words ls)
        ∙ either (others n (words l) here.0 (different_back n (to_ascii_lowercase b) before)) (later (n + 1) ls here.1 (omega arith))

    beyond : (n : ℕ) (ls : List L) → are_in_order n ls ≡ true → n + length ls ≤ to_ascii_lowercase b → list_any is (flat_map words ls) ≡ false
    beyond n [] are above = refl
    beyond n (l ∷ ls) are above =
        let here = and_parts (list_all (λ w. begins n (text w)) (words l)) (are_in_order (n + 1) ls) are in
        list_any-append is (words l) (flat_map words ls)
        ∙ either (others n (words l) here.0 (different n (to_ascii_lowercase b) (omega arith))) (beyond (n + 1) ls here.1 (omega arith))

    pub at_letter : (n : ℕ) (ls : List L) (i : ℕ) → are_in_order n ls ≡ true → to_ascii_lowercase b ≡ n + i → any_at is words ls i ≡ list_any is (flat_map words ls)
    at_letter n [] i are at = refl
    at_letter n (l ∷ ls) zero are at =
        let here = and_parts (list_all (λ w. begins n (text w)) (words l)) (are_in_order (n + 1) ls) are in
        sym (list_any-append is (words l) (flat_map words ls) ∙ either refl (later (n + 1) ls here.1 (omega arith)) ∙ or_none (list_any is (words l)))
    at_letter n (l ∷ ls) (suc i) are at =
        let here = and_parts (list_all (λ w. begins n (text w)) (words l)) (are_in_order (n + 1) ls) are in
        sym (list_any-append is (words l) (flat_map words ls)
        ∙ either (others n (words l) here.0 (different n (to_ascii_lowercase b) (omega arith))) (sym (at_letter (n + 1) ls i here.1 (omega arith))))

-- a name that is there is looked for among the words of its first letter alone
module _ {L W : Type 0} (ls : List L) (words : L → List W) (text : W → List ℕ) (are : are_in_order words text 97 ls ≡ true) where
  pub below_letters : (name : List ℕ) → 1 ≤ length name → (letter : ℕ) → letter ≡ to_ascii_lowercase (get_or name 0 0) → letter < 97
      → list_any (λ w. same_name (text w) name) (flat_map words ls) ≡ false
  below_letters [] some letter same below = absurd (omega arith)
  below_letters (b ∷ bs) some letter same below = later words text b bs 97 ls are (subst (λ n. n < 97) same below)

  pub looked_up : (name : List ℕ) → 1 ≤ length name → (letter : ℕ) → letter ≡ to_ascii_lowercase (get_or name 0 0) → 97 ≤ letter
      → (place : ℕ) → place ≡ letter - 97
      → any_at (λ w. same_name (text w) name) words ls place ≡ list_any (λ w. same_name (text w) name) (flat_map words ls)
  looked_up [] some letter same from place behind = absurd (omega arith)
  looked_up (b ∷ bs) some letter same from place behind =
      let at : letter ≡ to_ascii_lowercase b = same in
      at_letter words text b bs 97 ls place are (omega arith)

-- what is looked up
pub at_place : {L W : Type 0} (test : W → Bool) (items : L → List W) (ls : List L) (place : ℕ) (item : L) → place < length ls → item ≡ get_or ls place item
    → list_any test (items item) ≡ any_at test items ls place
at_place test items [] place item within is = absurd (omega arith)
at_place test items (l ∷ ls) zero item within is = ap (λ x. list_any test (items x)) is
at_place test items (l ∷ ls) (suc place) item within is = at_place test items ls place item (omega arith) is

pub past_places : {L W : Type 0} (test : W → Bool) (items : L → List W) (ls : List L) (place : ℕ) → length ls ≤ place → false ≡ any_at test items ls place
past_places test items [] place past = refl
past_places test items (l ∷ ls) zero past = absurd (omega arith)
past_places test items (l ∷ ls) (suc place) past = past_places test items ls place (omega arith)

pub none_is_reserved : (name : List ℕ) → length name < 1 → false ≡ is_reserved name
unfolding is_reserved reserved_words
none_is_reserved [] none = refl
none_is_reserved (b ∷ bs) none = absurd (omega arith)
