-- The turns of a loop that reads a list.
use Rattle.std.proofs.Common.{◌≡◌, ℕ, ◌+◌, ◌<◌, ◌≤◌, List, [], ◌∷◌, ◌++◌, length, drop, Ok, Err, ap, ◌∙◌}
use Rattle.std.proofs.lemmas.List.{at_drop_more, at_drop_all}
use Rattle.tokens.specs.Token.{After, Read}
use Rattle.statement.specs.List.{more_at}

module _ {A : Type 0} (separator : List ℕ → After) (item : List ℕ → Read A) (turns : List ℕ) (i : ℕ) (front : List A) (bytes : List ℕ) where
  abbrev on_item : List ℕ → Read A → Read (List A)
  on_item after r = elim r [ Err at ↦ Err at | Ok x ↦ more_at separator item (drop (i + 1) turns) (front ++ x.0 ∷ []) x.1 ]

  abbrev on_separator : After → Read (List A)
  on_separator s = elim s [ Err at ↦ Ok (front, bytes) | Ok rest ↦ on_item rest (item rest) ]

  turn : i < length turns → more_at separator item (drop i turns) front bytes ≡ on_separator (separator bytes)
  turn below = at_drop_more (λ ys. more_at separator item ys front bytes) turns i 0 below

  pub more_next : (rest : List ℕ) (x : A) (after : List ℕ) → i < length turns → separator bytes ≡ Ok rest → item rest ≡ Ok (x, after)
      → more_at separator item (drop i turns) front bytes ≡ more_at separator item (drop (i + 1) turns) (front ++ x ∷ []) after
  more_next rest x after below s r = turn below ∙ ap on_separator s ∙ ap (on_item rest) r

  pub more_stops : (rest at : List ℕ) → i < length turns → separator bytes ≡ Ok rest → item rest ≡ Err at → more_at separator item (drop i turns) front bytes ≡ Err at
  more_stops rest at below s r = turn below ∙ ap on_separator s ∙ ap (on_item rest) r

  pub more_ends : (at : List ℕ) → i < length turns → separator bytes ≡ Err at → more_at separator item (drop i turns) front bytes ≡ Ok (front, bytes)
  more_ends at below s = turn below ∙ ap on_separator s

  pub more_none : length turns ≤ i → more_at separator item (drop i turns) front bytes ≡ Ok (front, bytes)
  more_none beyond = at_drop_all (λ ys. more_at separator item ys front bytes) turns i beyond
