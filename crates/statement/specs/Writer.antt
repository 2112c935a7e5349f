-- What a writer took of a text.
use Rattle.std.specs.Prelude.{◌≡◌, ℕ, List, ◌++◌, Option, Result, Ok, Err}
use Rattle.std.specs.Io.KnownBytes.{Appends}

-- a writer took the first bytes of a text
pub record AppendsPrefix (old new : Option (List ℕ)) (text : List ℕ) : Type 0 where
  pub out : List ℕ
  pub left : List ℕ
  pub wrote : Appends old new out
  pub front : text ≡ out ++ left

-- a writer took all of a text, or failed in its midst
abbrev pub Prints : {E : Type 0} → Option (List ℕ) → Option (List ℕ) → Result (Unit {0}) E → List ℕ
    → Type 0
Prints old new (Ok done) text = Appends old new text
Prints old new (Err fault) text = AppendsPrefix old new text
