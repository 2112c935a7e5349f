-- A line as far as it was read.
use Rattle.std.specs.Prelude.{ℕ, ◌+◌, ◌≤◌, List, [], ◌∷◌, ◌++◌, ◌==◌, Bool, true, false, Option, Some, None, if◌then◌else◌, length, nat_lt, not}

-- the bytes that a line may have before its line feed
abbrev pub longest_line : ℕ
longest_line = 8192

-- its bytes, or none where it is too long
abbrev pub Partial : Type 0
Partial = Option (List ℕ)

abbrev pub partial : Bool → List ℕ → Partial
partial is_too_long bytes = if is_too_long then None else Some bytes

-- with one more byte, which is not a line feed
abbrev pub add : Partial → ℕ → Partial
add None byte = None
add (Some bytes) byte =
    if nat_lt (length bytes) longest_line then Some (bytes ++ byte ∷ []) else None

abbrev pub add_all : Partial → List ℕ → Partial
add_all line [] = line
add_all line (byte ∷ bytes) = add_all (add line byte) bytes

-- with its line feed
abbrev pub ended : Partial → Partial
ended None = None
ended (Some bytes) = Some (bytes ++ 10 ∷ [])

abbrev pub has_byte : Partial → Bool
has_byte None = true
has_byte (Some []) = false
has_byte (Some (b ∷ bytes)) = true

abbrev pub is_no_feed : ℕ → Bool
is_no_feed byte = not (byte == 10)

-- it has not ended
abbrev pub Fits : Partial → Type 0
Fits None = Unit {0}
Fits (Some bytes) = length bytes ≤ longest_line

-- there is room for the longest line and its line feed
pub record HasRoom (capacity : ℕ) (bytes : List ℕ) : Type 0 where
  pub room : longest_line + 1 ≤ capacity
  pub fits : length bytes ≤ longest_line + 1
