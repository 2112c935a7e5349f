-- Lists of items with separators between them.
use Rattle.std.specs.Prelude.{◌≡◌, ℕ, List, [], ◌∷◌, ◌++◌, Result, Ok, Err, Vec}
use Rattle.std.specs.Borrow.{Bor}
use Rattle.tokens.specs.declared.token.Stop.{Stop}
use Rattle.tokens.specs.Token.{After, Read, ◌>>=◌, Stops}
use Rattle.statement.specs.Token.{symbol_at}

-- what a function returned is the list that reading gives, unless memory ran out
abbrev pub MakesList : {A Z : Type 0} → Result (Vec A Z × Bor (List ℕ)) Stop → Read (List A)
    → Type 0
MakesList (Ok x) read = read ≡ Ok (x.0.items, x.1.now)
MakesList (Err stop) read = Stops stop read

-- after each separator one more item, which go after those before; there are no more of them
-- than bytes
abbrev pub more_at : {A : Type 0} → (List ℕ → After) → (List ℕ → Read A) → List ℕ → List A → List ℕ
    → Read (List A)
more_at separator item [] front bytes = Ok (front, bytes)
more_at separator item (_ ∷ turns) front bytes = elim (separator bytes) [
  | Err at ↦ Ok (front, bytes)
  | Ok rest ↦ elim (item rest) [
    | Err at ↦ Err at
    | Ok x ↦ more_at separator item turns (front ++ x.0 ∷ []) x.1
  ]
]

-- one item or more, with a separator between any two
abbrev pub list_at : {A : Type 0} → (List ℕ → After) → (List ℕ → Read A) → List ℕ → Read (List A)
list_at separator item bytes = do
  first ← item bytes
  more_at separator item first.1 (first.0 ∷ []) first.1

-- the same in parentheses
abbrev pub enclosed_at : {A : Type 0} → (List ℕ → After) → (List ℕ → Read A) → List ℕ
    → Read (List A)
enclosed_at separator item bytes = do
  inside ← symbol_at 40 bytes
  items ← list_at separator item inside
  rest ← symbol_at 41 items.1
  Ok (items.0, rest)
