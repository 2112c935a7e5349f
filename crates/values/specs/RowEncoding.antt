-- The bytes of a row: the number of its values, and then each value behind its tag.
use Rattle.std.specs.Prelude.{◌≡◌, ℕ, ◌≤◌, List, [], ◌∷◌, ◌++◌, Bool, true, ◌&&◌, nat_le, length, take, All, IsUtf8, if◌then◌else◌}
use Rattle.std.specs.Int.{w16, w64, to_be_bytes, cast_unsigned}
use Rattle.std.specs.Int.RustNames.{FitsSigned}
use Rattle.std.specs.List.{flat_map, list_all}
use Rattle.values.specs.declared.value.Value.{Value}
use Rattle.values.specs.declared.value.Value.TheVariants.{Int, Text, Bool as Truth, Null}
use Rattle.values.specs.Fit.{longest_text, fits_text}
use Rattle.values.specs.Log.{Row}
use Rattle.values.specs.Tables.{widest}

abbrev pub value_bytes : Value → List ℕ
value_bytes Null = 0 ∷ []
value_bytes (Int n) = 1 ∷ to_be_bytes w64 (cast_unsigned w64 n)
value_bytes (Text t) = 2 ∷ (to_be_bytes w16 (length t) ++ t)
value_bytes (Truth t) = (if t then 4 else 3) ∷ []

abbrev pub bytes_of_row : Row → List ℕ
bytes_of_row row = length row ∷ flat_map value_bytes row

-- a value that is no text that is too long or has two lines
abbrev pub is_stored : Value → Bool
is_stored (Text t) = fits_text longest_text t
is_stored _ = true

abbrev pub IsStored : Value → Type 0
IsStored value = is_stored value ≡ true

abbrev pub is_width : ℕ → Bool
is_width n = nat_le 1 n && nat_le n widest

-- a row of 1 to 16 such values
abbrev pub is_stored_row : Row → Bool
is_stored_row row = is_width (length row) && list_all is_stored row

pub record IsStoredRow (row : Row) : Type 0 where
  pub some : 1 ≤ length row
  pub few : length row ≤ widest
  pub stored : All IsStored row

-- a whole number of 64 bits and a text of characters, as each that a program holds
abbrev pub IsHeld : Value → Type 0
IsHeld (Int n) = FitsSigned w64 n
IsHeld (Text t) = IsUtf8 t
IsHeld _ = Unit {0}

-- the row is in the first n bytes
pub record StandsIn (bytes : List ℕ) (n : ℕ) (row : Row) : Type 0 where
  pub is_stored : IsStoredRow row
  pub is_held : All IsHeld row
  pub bytes_are : take n bytes ≡ bytes_of_row row
  pub within : n ≤ length bytes

-- no row is at the start
abbrev pub NoRowAt : List ℕ → Type 0
NoRowAt bytes =
    (row : Row) (rest : List ℕ) → IsStoredRow row → All IsHeld row
    → bytes ≡ bytes_of_row row ++ rest → ⊥
