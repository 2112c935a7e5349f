-- Words of the grammars, which are read in any case.
use Rattle.std.specs.Prelude.{ℕ, List, ◌==◌, ◌||◌, Bool, Ok, Err, if◌then◌else◌}
use Rattle.std.specs.List.{prefix_len}
use Rattle.std.specs.Char.{is_ascii_alphanumeric}
use Rattle.values.specs.Names.{same_name}
use Rattle.tokens.specs.Token.{After, prefix_while, skip_while}

abbrev pub is_name_byte : ℕ → Bool
is_name_byte b = is_ascii_alphanumeric b || (b == 95)

-- the number of bytes that the word or name at the start has
abbrev pub word_length : List ℕ → ℕ
word_length bytes = prefix_len is_name_byte bytes

module _ (next : List ℕ → List ℕ) where
  -- the word comes next
  unfoldable pub is_word_at : List ℕ → List ℕ → Bool
  is_word_at word bytes = same_name word (prefix_while is_name_byte (next bytes))

  unfoldable pub after_word : List ℕ → List ℕ
  after_word bytes = skip_while is_name_byte (next bytes)

  unfoldable pub word_at : List ℕ → List ℕ → After
  word_at word bytes = if is_word_at word bytes then Ok (after_word bytes) else Err (next bytes)
