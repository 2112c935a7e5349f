-- What reading from the left amounts to, in the words of the grammar.
use Rattle.std.specs.Prelude.{◌≡◌, ℕ, ◌<◌, ◌^◌, List, [], ◌∷◌, ◌++◌, ◌⊎◌, Result, Ok, Err, pos, negsuc, length, IsUtf8}
use Rattle.values.specs.declared.value.Value.{Value}
use Rattle.values.specs.declared.value.Value.TheVariants.{Int, Text, Bool as Truth, Null}
use Rattle.values.specs.Log.{Row}
use Rattle.values.specs.Tables.{Schema}
use Rattle.values.specs.declared.refusal.Refusal.{Refusal}
use Rattle.values.specs.declared.refusal.Refusal.TheVariants.{Syntax}
use Rattle.statement.specs.declared.line.Line.{Line}
use Rattle.statement.specs.declared.line.Line.TheVariants.{Nothing}
use Rattle.statement.specs.declared.line.Written.{Written}
use Rattle.tokens.specs.Place.{TokenAt}
use Rattle.tokens.specs.Run.{Ends}
use Rattle.statement.specs.Token.{is_blank}
use Rattle.statement.specs.Line.{before_feed, body_of, meaning_of}
use Rattle.statement.specs.Literal.{row_at}
use Rattle.statement.specs.Print.{values_text}
use Rattle.statement.specs.Grammar.{IsNothing}

-- lines of a grammar, by what each is written as; and a reader of the bytes of a line's tokens, at a
-- reading of the clock
abbrev pub Lines : Type 1
Lines = Written → List ℕ → Type 0

abbrev pub Reader : Type 0
Reader = ℕ → List ℕ → Result Line Refusal

module _ (schema : Schema) (Is : Lines) (says : Reader) where
  -- every line of the grammar is read, as what it says
  abbrev pub LinesAreRead : Type 0
  LinesAreRead =
      (reading : ℕ) (bytes : List ℕ) (written : Written) → Is written bytes
      → says reading bytes ≡ meaning_of schema reading written

  -- blank lines and comments are read, and no line of the grammar is one
  abbrev pub NothingIsRead : Type 0
  NothingIsRead =
      (reading : ℕ) (bytes : List ℕ) → IsNothing bytes
      → (says reading bytes ≡ Ok Nothing) × ((written : Written) → Is written bytes → ⊥)

  -- the bytes are no line of the grammar, and are refused for their syntax
  abbrev pub IsRefused : ℕ → List ℕ → Type 0
  IsRefused reading bytes =
      (byte : ℕ) × ((says reading bytes ≡ Err (Syntax byte)) × ((written : Written)
      → Is written bytes → ⊥))

  -- whatever is read is nothing or a line of the grammar, and all else is refused with a byte
  abbrev pub OnlyLinesAreRead : Type 0
  OnlyLinesAreRead =
      (reading : ℕ) (bytes : List ℕ)
      → IsNothing bytes
      ⊎ (((written : Written) × Is written bytes) ⊎ IsRefused reading bytes)

-- no line of the grammar says two things
abbrev pub LinesSayOneThing : Lines → Type 0
LinesSayOneThing Is =
    (bytes : List ℕ) (written other : Written) → Is written bytes → Is other bytes → written ≡ other

-- a fault of syntax is reported where a token begins, or at the line's end
abbrev pub FaultsAreAtTokens : Reader → Type 0
FaultsAreAtTokens says =
    (reading : ℕ) (bytes : List ℕ) (byte : ℕ) → says reading bytes ≡ Err (Syntax byte)
    → TokenAt (Ends is_blank) bytes byte

-- the bytes do not end with this one
abbrev pub EndsOtherwise : ℕ → List ℕ → Type 0
EndsOtherwise byte bytes = (front : List ℕ) → bytes ≡ front ++ byte ∷ [] → ⊥

-- a line feed ends a line, with a carriage return or without one, and neither is among its tokens;
-- a return without a feed is
pub record LineEndsAreNoTokens : Type 0 where
  pub returned : (body : List ℕ) → body_of (body ++ 13 ∷ 10 ∷ []) ≡ body
  pub counted : (body : List ℕ) → before_feed (body ++ 13 ∷ 10 ∷ []) ≡ body ++ 13 ∷ []
  pub fed : (body : List ℕ) → EndsOtherwise 13 body → body_of (body ++ 10 ∷ []) ≡ body
  pub open_ended : (body : List ℕ) → EndsOtherwise 10 body → body_of body ≡ body

-- a number of 64 bits, or any other value whose texts are UTF-8
abbrev pub IsPlain : Value → Type 0
IsPlain (Int (pos n)) = n < 2 ^ 63
IsPlain (Int (negsuc n)) = n < 2 ^ 63
IsPlain (Text text) = IsUtf8 text
IsPlain (Truth t) = Unit {0}
IsPlain Null = Unit {0}

abbrev pub ArePlain : List Value → Type 0
ArePlain [] = Unit {0}
ArePlain (v ∷ vs) = IsPlain v × ArePlain vs

-- the values of a row as they are printed are read as that row, whatever follows
abbrev pub PrintedRowsAreRead : Type 0
PrintedRowsAreRead =
    (row : Row) (rest : List ℕ) → 0 < length row → ArePlain row
    → row_at (values_text row ++ rest) ≡ Ok (row, rest)
