-- The tokens of a schema, and what is between them.
use Rattle.std.specs.Prelude.{ℕ, List, [], ◌∷◌, ◌+◌, ◌*◌, ◌-◌, ◌==◌, ◌||◌, ◌&&◌, Bool, true, false, Ok, Err, not, min, if◌then◌else◌}
use Rattle.std.specs.Char.{is_ascii_digit}
use Rattle.std.specs.List.{prefix_len}
use Rattle.tokens.specs.Token as tokens
use Rattle.tokens.specs.Token.{After, Read, prefix_while, skip_while}
use Rattle.tokens.specs.Word as words
use Rattle.tokens.specs.Name as names

-- space, tab, line feed, carriage return
abbrev pub is_separator : ℕ → Bool
is_separator b = (b == 32) || (b == 9) || (b == 10) || (b == 13)

-- a hyphen comes first
abbrev pub begins_with_hyphen : List ℕ → Bool
begins_with_hyphen [] = false
begins_with_hyphen (b ∷ bs) = b == 45

-- the bytes from the next token on; two hyphens begin a comment, which the line's end ends
abbrev pub token_from : Bool → List ℕ → List ℕ
token_from in_comment [] = []
token_from true (b ∷ bs) = token_from (not (b == 10)) bs
token_from false (b ∷ bs) =
    if is_separator b then token_from false bs
    else if (b == 45) && begins_with_hyphen bs then token_from true bs
    else b ∷ bs

abbrev pub next : List ℕ → List ℕ
next bytes = token_from false bytes

abbrev pub symbol_at : ℕ → List ℕ → After
symbol_at symbol bytes = tokens.symbol_at next symbol bytes

-- the word comes next
abbrev pub is_word_at : List ℕ → List ℕ → Bool
is_word_at word bytes = words.is_word_at next word bytes

abbrev pub after_word : List ℕ → List ℕ
after_word bytes = words.after_word next bytes

abbrev pub word_at : List ℕ → List ℕ → After
word_at word bytes = words.word_at next word bytes

abbrev pub name_at : List ℕ → Read (List ℕ)
name_at bytes = names.name_at next bytes

-- n and then digits, as a number; 65,535 for all that are greater
abbrev pub number_from : ℕ → List ℕ → ℕ
number_from n [] = n
number_from n (b ∷ bs) = number_from (min (10 * n + (b - 48)) 65535) bs

unfoldable pub digits_at : List ℕ → Read ℕ
digits_at bytes =
    let at = next bytes in
    if prefix_len is_ascii_digit at == 0 then Err at
    else Ok (number_from 0 (prefix_while is_ascii_digit at), skip_while is_ascii_digit at)
