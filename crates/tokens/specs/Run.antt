-- Runs of bytes that pass a test, as the grammars speak of them: relations that know nothing of
-- reading.
use Rattle.std.specs.Prelude.{◌≡◌, ℕ, List, [], ◌∷◌, ◌++◌, Bool, true, false}

-- each byte passes the test
abbrev pub AllBytes : (ℕ → Bool) → List ℕ → Type 0
AllBytes p [] = Unit {0}
AllBytes p (b ∷ bytes) = (p b ≡ true) × AllBytes p bytes

-- no byte that passes the test comes next
abbrev pub Ends : (ℕ → Bool) → List ℕ → Type 0
Ends p [] = Unit {0}
Ends p (b ∷ bytes) = p b ≡ false

-- a run of bytes that pass the test, as many as come
pub record Run (p : ℕ → Bool) (run bytes rest : List ℕ) : Type 0 where
  pub all : AllBytes p run
  pub ends : Ends p rest
  pub spelled : bytes ≡ run ++ rest
