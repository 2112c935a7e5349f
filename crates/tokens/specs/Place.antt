-- Tokens in their places.
use Rattle.std.specs.Prelude.{◌≡◌, ℕ, List, [], ◌++◌, ◌⊎◌, true, false, length}
use Rattle.tokens.specs.Run.{AllBytes, Ends}
use Rattle.tokens.specs.Word.{is_name_byte}

-- at the byte something begins, or the bytes end
pub record TokenAt (Begins : List ℕ → Type 0) (bytes : List ℕ) (byte : ℕ) : Type 0 where
  pub before : List ℕ
  pub from : List ℕ
  pub place : bytes ≡ before ++ from
  pub counted : byte ≡ length before
  pub begins : Begins from

-- a token by its first byte and the others, before the rest: letters, digits and underscores, as
-- many as come, or one other byte
abbrev pub IsToken : ℕ → List ℕ → List ℕ → Type 0
IsToken first others rest =
    ((is_name_byte first ≡ true) × (AllBytes is_name_byte others × Ends is_name_byte rest))
    ⊎ ((is_name_byte first ≡ false) × (others ≡ []))
