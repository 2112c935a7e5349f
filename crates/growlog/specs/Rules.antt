-- What is true of a log and its length, and what the step that adds an entry tells.
use Rattle.std.specs.Prelude.{ℕ, ◌≡◌, ◌==◌, true, List, [], ◌∷◌, ◌++◌, length, MatchBool, ◌<◌, slice_get}
use Rattle.logbook.specs.Pages.{Cell, Step, View, Book, Named}

-- the first word is the length of the log; of the two words that a book has, the second stays 0
abbrev pub IsKept : {E : Type 0} → List Cell → List E → Type 0
IsKept cells log = cells ≡ (length log, true) ∷ (0, true) ∷ []

abbrev pub head_of : Book → Named
head_of b = record { tracked = true; key = 0; book = b }

-- the entry was added to all that had been seen; or the log was longer
abbrev pub Adds : {E : Type 0} → Step E → View E ℕ → ℕ → View E ℕ → Type 0
Adds s v found w = MatchBool (found == s.old) (w.0 ≡ v.0 ++ s.ask ∷ []) (length w.0 ≡ found)

-- where both prefixes have an entry, it is the same one
abbrev pub Agree : {E : Type 0} → List E → List E → Type 0
Agree xs ys = (n : ℕ) → n < length xs → n < length ys → slice_get xs n ≡ slice_get ys n
