-- The bytes of names are text.
use Rattle.std.proofs.Common.{◌≡◌, ℕ, ◌+◌, ◌<◌, List, [], ◌∷◌, Bool, true, false, take, refl, arith, suc, cond}
use Rattle.std.proofs.lemmas.Bool.Decides.{nat_tests}
use Rattle.std.proofs.lemmas.Str.{IsUtf8-from_ascii}
use Rattle.std.proofs.lemmas.Str.Ascii.{IsAscii-nil, IsAscii-cons}
use Rattle.std.specs.Str.{IsUtf8, IsAscii}
use Rattle.tokens.specs.Token.{prefix_while}
use Rattle.tokens.specs.Word.{is_name_byte, word_length}

small : (b : ℕ) → is_name_byte b ≡ true → b < 128
small b e = grind (arith, nat_tests)

one_more : (n : ℕ) → 1 + n ≡ suc n
one_more n = omega arith

ascii_step : (b : ℕ) (bs : List ℕ) (t : Bool) → is_name_byte b ≡ t → IsAscii (prefix_while is_name_byte bs)
    → IsAscii (take (cond t (1 + word_length bs) 0) (b ∷ bs))
ascii_step b bs true is h = rw (one_more (word_length bs)) (IsAscii-cons b (prefix_while is_name_byte bs) (small b is) h)
ascii_step b bs false is h = IsAscii-nil

ascii : (bs : List ℕ) → IsAscii (prefix_while is_name_byte bs)
ascii [] = IsAscii-nil
ascii (b ∷ bs) = ascii_step b bs (is_name_byte b) refl (ascii bs)

pub front_is_text : (bs : List ℕ) → IsUtf8 (prefix_while is_name_byte bs)
front_is_text bs = IsUtf8-from_ascii (prefix_while is_name_byte bs) (ascii bs)
