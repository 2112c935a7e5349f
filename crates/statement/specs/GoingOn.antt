-- What a line cannot go on with, and what it can.
use Rattle.std.specs.Prelude.{◌≡◌, ℕ, List, ◌∷◌, ◌++◌, false, Err, length}
use Rattle.values.specs.declared.refusal.Refusal.TheVariants.{Syntax}
use Rattle.tokens.specs.Place.{IsToken}
use Rattle.statement.specs.declared.line.Written.{Written}
use Rattle.statement.specs.Token.{is_blank}
use Rattle.statement.specs.GrammarLaw.{Lines, Reader}

-- a token by its first byte and the others, before the rest; the first is no blank, no minus and no
-- quote
pub record Plain (first : ℕ) (others rest : List ℕ) : Type 0 where
  pub no_blank : is_blank first ≡ false
  pub no_minus : first ≡ 45 → ⊥
  pub no_quote : first ≡ 39 → ⊥
  pub token : IsToken first others rest

module _ (Is : Lines) (says : Reader) where
  -- where a fault of syntax is reported at such a token, no bytes after the token make a line of the
  -- grammar of it and the bytes before it
  abbrev pub FaultsAreFinal : Type 0
  FaultsAreFinal =
      (reading : ℕ) (before : List ℕ) (first : ℕ) (others rest : List ℕ) → Plain first others rest
      → says reading (before ++ first ∷ (others ++ rest)) ≡ Err (Syntax (length before))
      → (other : List ℕ) (written : Written) → Plain first others other
      → Is written (before ++ first ∷ (others ++ other)) → ⊥

  -- the bytes before a fault of syntax can go on to a line of the grammar
  abbrev pub PrefixesGoOn : Type 0
  PrefixesGoOn =
      (reading : ℕ) (before rest : List ℕ)
      → says reading (before ++ rest) ≡ Err (Syntax (length before))
      → (more : List ℕ) × ((written : Written) × Is written (before ++ more))
