-- The lines of a text.
use Rattle.std.specs.Prelude.{◌≡◌, ℕ, List, [], ◌∷◌, ◌++◌, ◌==◌, Some, if◌then◌else◌}
use Rattle.lines.specs.Partial.{Partial, add, ended, has_byte}

-- the lines of a text that goes on with this line: each with its line feed, and a last one without where it has a byte
abbrev pub lines_from : Partial → List ℕ → List Partial
lines_from line [] = if has_byte line then line ∷ [] else []
lines_from line (b ∷ bytes) =
    if b == 10 then ended line ∷ lines_from (Some []) bytes else lines_from (add line b) bytes

abbrev pub lines_of : List ℕ → List Partial
lines_of text = lines_from (Some []) text

-- whatever follows, these bytes end these lines of a text, and begin the next one as this
abbrev pub EndsLines : Partial → List ℕ → List Partial → Partial → Type 0
EndsLines line bytes done next =
    (rest : List ℕ) → lines_from line (bytes ++ rest) ≡ done ++ lines_from next rest
