-- Reading from the left: a value and the bytes after it, or the bytes from the first unexpected
-- token on.
use Rattle.std.specs.Prelude.{◌≡◌, ℕ, List, [], ◌∷◌, ◌==◌, Bool, Option, Some, None, Result, Ok, Err, take, drop, if◌then◌else◌}
use Rattle.std.specs.List.{prefix_len}
use Rattle.std.specs.Borrow.{Bor}
use Rattle.tokens.specs.declared.token.Stop.{Stop}
use Rattle.tokens.specs.declared.token.Stop.TheVariants.{At, Memory}

infixl 10 ◌>>=◌
abbrev pub ◌>>=◌ : {A B E : Type 0} → Result A E → (A → Result B E) → Result B E
(Ok x) >>= f = f x
(Err e) >>= f = Err e

-- the bytes after a token
abbrev pub After : Type 0
After = Result (List ℕ) (List ℕ)

-- a value and the bytes after it
abbrev pub Read : Type 0 → Type 0
Read A = Result (A × List ℕ) (List ℕ)

-- what a function returned is what reading gives
abbrev pub Leaves : Result (Bor (List ℕ)) (Bor (List ℕ)) → After → Type 0
Leaves (Ok rest) read = read ≡ Ok rest.now
Leaves (Err at) read = read ≡ Err at.now

abbrev pub Gives : {A : Type 0} → Result (A × Bor (List ℕ)) (Bor (List ℕ)) → Read A → Type 0
Gives (Ok x) read = read ≡ Ok (x.0, x.1.now)
Gives (Err at) read = read ≡ Err at.now

-- the same of bytes
abbrev pub GivesBytes : Result (Bor (List ℕ) × Bor (List ℕ)) (Bor (List ℕ)) → Read (List ℕ) → Type 0
GivesBytes (Ok x) read = read ≡ Ok (x.0.now, x.1.now)
GivesBytes (Err at) read = read ≡ Err at.now

-- the same of what may be missing
abbrev pub Finds : {A : Type 0} → Option (A × Bor (List ℕ)) → Option (A × List ℕ) → Type 0
Finds None read = read ≡ None
Finds (Some x) read = read ≡ Some (x.0, x.1.now)

-- the same, unless memory ran out
abbrev pub Stops : {A : Type 0} → Stop → Result A (List ℕ) → Type 0
Stops (At at) read = read ≡ Err at.now
Stops Memory read = Unit {0}

abbrev pub Makes : {A : Type 0} → Result (A × Bor (List ℕ)) Stop → Read A → Type 0
Makes (Ok x) read = read ≡ Ok (x.0, x.1.now)
Makes (Err stop) read = Stops stop read

-- the bytes that pass a test, as many as come at the start
abbrev pub prefix_while : (ℕ → Bool) → List ℕ → List ℕ
prefix_while p bytes = take (prefix_len p bytes) bytes

-- the bytes after them
abbrev pub skip_while : (ℕ → Bool) → List ℕ → List ℕ
skip_while p bytes = drop (prefix_len p bytes) bytes

-- what a grammar has between tokens is given by the bytes from the next token on
module _ (next : List ℕ → List ℕ) where
  unfoldable pub symbol_at : ℕ → List ℕ → After
  symbol_at symbol bytes = elim (next bytes) [
    | [] ↦ Err []
    | b ∷ bs ↦ if b == symbol then Ok bs else Err (b ∷ bs)
  ]
