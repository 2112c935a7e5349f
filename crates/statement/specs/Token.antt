-- The tokens of a line, and what is between them.
use Rattle.std.specs.Prelude.{ℕ, List, [], ◌∷◌, ◌==◌, ◌||◌, Bool, Ok, Err}
use Rattle.tokens.specs.Token as tokens
use Rattle.tokens.specs.Token.{After, Read, skip_while}
use Rattle.tokens.specs.Word as words
use Rattle.tokens.specs.Name as names

abbrev pub is_blank : ℕ → Bool
is_blank b = (b == 32) || (b == 9)

-- from the next token on
abbrev pub next : List ℕ → List ℕ
next bytes = skip_while is_blank bytes

abbrev pub symbol_at : ℕ → List ℕ → After
symbol_at symbol bytes = tokens.symbol_at next symbol bytes

abbrev pub word_at : List ℕ → List ℕ → After
word_at word bytes = words.word_at next word bytes

abbrev pub name_at : List ℕ → Read (List ℕ)
name_at bytes = names.name_at next bytes

-- the end of the line
unfoldable pub end_at : List ℕ → After
end_at bytes = elim (next bytes) [ [] ↦ Ok [] | b ∷ bs ↦ Err (b ∷ bs) ]

-- after a semicolon, where one comes next
abbrev pub after_semicolon : List ℕ → List ℕ
after_semicolon bytes = elim (symbol_at 59 bytes) [ Ok rest ↦ rest | Err at ↦ bytes ]

-- after a word, where it comes next
abbrev pub after_optional_word : List ℕ → List ℕ → List ℕ
after_optional_word word bytes = elim (word_at word bytes) [ Ok rest ↦ rest | Err at ↦ bytes ]
