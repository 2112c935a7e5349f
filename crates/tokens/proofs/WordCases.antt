-- Words in any case: two that one is written as are the same, and no word is written as nothing.
use Rattle.std.proofs.Common.{◌≡◌, ◌<◌, ℕ, Bool, true, false, List, [], ◌∷◌, length, refl, sym, ◌∙◌, arith}
use Rattle.std.specs.Prelude.{Result, Err, ◌==◌}
use Rattle.std.specs.Cmp.Lexicographic.{bytes_decides}
use Rattle.std.specs.Str.{str_to_ascii_lowercase as lower}
use Rattle.std.proofs.lemmas.Bool.Decides.{nat_tests}
use Rattle.values.specs.Names.{same_name}

-- nothing is read
pub record Refused {A : Type 0} (r : Result A (List ℕ)) : Type 0 where
  pub at : List ℕ
  pub is : r ≡ Err at

pub same_number : (n : ℕ) → (n == n) ≡ true
same_number n = grind (arith, nat_tests)

pub some_written : (word written : List ℕ) → 0 < length word → same_name word written ≡ true → 0 < length written
some_written [] written some same = absurd (omega arith)
some_written (w ∷ word) [] some same = cc
some_written (w ∷ word) (b ∷ written) some same = omega arith

pub none_same : (word : List ℕ) → 0 < length word → same_name word [] ≡ false
none_same [] some = absurd (omega arith)
none_same (w ∷ word) some = refl

pub same_length : (m n : ℕ) → (m == n) ≡ true → m ≡ n
same_length m n is = grind (arith, nat_tests)

-- two words that one is written as are the same word
words_agree : (v w written : List ℕ) → same_name v written ≡ true → same_name w written ≡ true → same_name v w ≡ true
words_agree v w written one two =
    (bytes_decides (lower v) (lower w)).1 ((bytes_decides (lower v) (lower written)).0 one ∙ sym ((bytes_decides (lower w) (lower written)).0 two))

pub not_same : (v w written : List ℕ) (t : Bool) → same_name v written ≡ t → same_name v w ≡ false → same_name w written ≡ true → t ≡ false
not_same v w written true is apart same = let e = words_agree v w written is same in cc
not_same v w written false is apart same = refl
