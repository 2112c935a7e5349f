-- The bytes of a key, whose order is the order of keys.
use Rattle.std.specs.Prelude.{ℕ, ◌+◌, ◌-◌, ◌≤◌, List, [], ◌∷◌, ◌==◌, ℤ, pos, negsuc, length, if◌then◌else◌, All}
use Rattle.std.specs.Int.{w64, to_be_bytes}
use Rattle.std.specs.List.{flat_map}
use Rattle.values.specs.declared.value.Value.{Value}
use Rattle.values.specs.declared.value.Value.TheVariants.{Int, Text, Bool as Truth, Null}
use Rattle.values.specs.declared.key.Key.{Key}
use Rattle.values.specs.Fit.{longest_key_text}
use Rattle.values.specs.TableRules.{most_key_columns}

-- the place of a whole number among those of 64 bits, from 0: the number plus 2^63
abbrev pub ordinal_of : ℤ → ℕ
ordinal_of (pos n) = n + 9223372036854775808
ordinal_of (negsuc n) = 9223372036854775807 - n

-- the bytes with 255 after each 0, and then two zeros
abbrev pub text_bytes : List ℕ → List ℕ
text_bytes [] = 0 ∷ 0 ∷ []
text_bytes (b ∷ bs) = if b == 0 then 0 ∷ 255 ∷ text_bytes bs else b ∷ text_bytes bs

-- NULL has none, and is in no key
abbrev pub part_bytes : Value → List ℕ
part_bytes (Int n) = to_be_bytes w64 (ordinal_of n)
part_bytes (Text t) = text_bytes t
part_bytes (Truth t) = (if t then 1 else 0) ∷ []
part_bytes Null = []

-- the table's number, and then each value
abbrev pub bytes_of_key : Key → List ℕ
bytes_of_key k = k.table ∷ flat_map part_bytes k.parts

-- the bytes that those of a key may be: its table, and four texts of 200 bytes that are all 0
abbrev pub longest_key : ℕ
longest_key = 1609

-- a value that is no text of over 200 bytes
abbrev pub IsShort : Value → Type 0
IsShort (Text t) = length t ≤ longest_key_text
IsShort _ = Unit {0}

-- a key of at most four columns, with texts of at most 200 bytes
pub record IsShortKey (key : Key) : Type 0 where
  pub few_parts : length key.parts ≤ most_key_columns
  pub short_parts : All IsShort key.parts
