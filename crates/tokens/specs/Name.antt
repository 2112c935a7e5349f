-- Names, and the words that are none.
use Rattle.std.specs.Prelude.{ℕ, List, [], ◌∷◌, ◌&&◌, Bool, false, Ok, Err, not, nat_le, length, codes, zero, suc, if◌then◌else◌}
use Rattle.std.specs.Char.{is_ascii_digit}
use Rattle.std.specs.List.{list_any}
use Rattle.values.specs.Names.{same_name}
use Rattle.tokens.specs.Token.{Read, prefix_while, skip_while}
use Rattle.tokens.specs.Word.{is_name_byte}

-- the words of the grammars of schemas and of lines, and some kept for later, which no name is, in
-- order
unfoldable pub reserved_words : List (List ℕ)
reserved_words =
    codes "ADD" ∷ codes "ALTER" ∷ codes "ALWAYS" ∷ codes "AND" ∷ codes "AS" ∷ codes "AT" ∷
    codes "BEGIN" ∷ codes "BETWEEN" ∷ codes "BIGINT" ∷ codes "BOOLEAN" ∷ codes "CLOCK" ∷
    codes "COLUMN" ∷ codes "COMMIT" ∷ codes "CREATE" ∷ codes "DELETE" ∷ codes "END" ∷
    codes "FALSE" ∷ codes "FOR" ∷ codes "FROM" ∷ codes "GENERATED" ∷ codes "INSERT" ∷ codes "INT" ∷
    codes "INTEGER" ∷ codes "INTO" ∷ codes "KEY" ∷ codes "MIGRATE" ∷ codes "NOT" ∷ codes "NULL" ∷
    codes "OF" ∷ codes "OVERLAPS" ∷ codes "PERIOD" ∷ codes "PORTION" ∷ codes "PRIMARY" ∷
    codes "ROLLBACK" ∷ codes "ROW" ∷ codes "SELECT" ∷ codes "SET" ∷ codes "SPLIT" ∷ codes "START" ∷
    codes "SYSTEM" ∷ codes "SYSTEM_TIME" ∷ codes "TABLE" ∷ codes "TEXT" ∷ codes "TIME" ∷
    codes "TIMESTAMP" ∷ codes "TO" ∷ codes "TRANSACTION" ∷ codes "TRUE" ∷ codes "UPDATE" ∷
    codes "VALUES" ∷ codes "VARCHAR" ∷ codes "VERSIONING" ∷ codes "WHERE" ∷ codes "WITH" ∷
    codes "WITHOUT" ∷ codes "WORK" ∷ []

unfoldable pub is_reserved : List ℕ → Bool
is_reserved name = list_any (λ word. same_name word name) reserved_words

-- one of the lists, by its place, has an item that passes
abbrev pub any_at : {L W : Type 0} → (W → Bool) → (L → List W) → List L → ℕ → Bool
any_at test items [] place = false
any_at test items (l ∷ ls) zero = list_any test (items l)
any_at test items (l ∷ ls) (suc place) = any_at test items ls place

-- the bytes that a name may have
abbrev pub longest_name : ℕ
longest_name = 64

-- letters, digits and underscores, as many as come, are a name: the first is no digit, they are not
-- too many, and they are no word of the grammars
unfoldable pub is_name : List ℕ → Bool
is_name [] = false
is_name (b ∷ bs) =
    not (is_ascii_digit b) && nat_le (length (b ∷ bs)) longest_name && not (is_reserved (b ∷ bs))

module _ (next : List ℕ → List ℕ) where
  unfoldable pub name_at : List ℕ → Read (List ℕ)
  name_at bytes =
      let at = next bytes in
      let name = prefix_while is_name_byte at in
      if is_name name then Ok (name, skip_while is_name_byte at) else Err at
