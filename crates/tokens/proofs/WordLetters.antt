-- Letters that are the same but for their case are both of names, or neither is.
use Rattle.std.proofs.Common.{◌≡◌, ℕ, ◌+◌, Bool, true, false, cond, List, [], ◌∷◌, ◌&&◌, take, refl, ap, ◌∙◌, arith}
use Rattle.std.specs.Char.{eq_ignore_ascii_case}
use Rattle.std.specs.List.{prefix_len}
use Rattle.std.proofs.lemmas.Bool.Decides.{nat_tests}
use Rattle.values.specs.Names.{same_name}
use Rattle.tokens.specs.Token.{prefix_while}
use Rattle.tokens.specs.Word.{is_name_byte}
use Rattle.tokens.proofs.RunRead.{one_more}

pub same_kind : (w b : ℕ) → eq_ignore_ascii_case w b ≡ true → is_name_byte w ≡ true → is_name_byte b ≡ true
same_kind w b same is = grind (arith, nat_tests)

other_letter : (w b : ℕ) (t : Bool) → eq_ignore_ascii_case w b ≡ t → is_name_byte w ≡ false → is_name_byte b ≡ true → t ≡ false
other_letter w b true same none is = grind (arith, nat_tests)
other_letter w b false same none is = refl

-- no name has a byte that is not of names
pub not_of_names : (w : ℕ) (word bytes : List ℕ) → is_name_byte w ≡ false → same_name (w ∷ word) (prefix_while is_name_byte bytes) ≡ false
not_of_names w word [] none = refl
not_of_names w word (b ∷ bytes) none = by_test (is_name_byte b) refl
  where
    by_test : (t : Bool) → is_name_byte b ≡ t → same_name (w ∷ word) (take (cond t (1 + prefix_len is_name_byte bytes) 0) (b ∷ bytes)) ≡ false
    by_test true is =
        ap (λ (n : ℕ). same_name (w ∷ word) (take n (b ∷ bytes))) (one_more (prefix_len is_name_byte bytes))
        ∙ ap (λ t. t && same_name word (prefix_while is_name_byte bytes)) (other_letter w b (eq_ignore_ascii_case w b) refl none is)
    by_test false is = refl
