-- Where reading stops, a token begins or the line ends.
use Rattle.std.proofs.Common.{◌≡◌, ℕ, List, ◌++◌, Ok, Err, subst}
use Rattle.tokens.specs.Token.{Read}
use Rattle.tokens.specs.Run.{Ends}
use Rattle.statement.specs.Token.{is_blank}

pub record EndsWith (bytes rest : List ℕ) : Type 0 where
  pub front : List ℕ
  pub place : bytes ≡ front ++ rest

-- the bytes end with these, where a token begins or the line ends
pub record Refusal (bytes at : List ℕ) : Type 0 where
  pub ended : EndsWith bytes at
  pub begins : Ends is_blank at

abbrev ReadStops : {A : Type 0} → List ℕ → Read A → Type 0
ReadStops bytes (Ok x) = EndsWith bytes x.1
ReadStops bytes (Err at) = Refusal bytes at

pub record Stops {A : Type 0} (bytes : List ℕ) (r : Read A) : Type 0 where
  pub it : ReadStops bytes r

pub stopped_at : {A : Type 0} {bytes at : List ℕ} {r : Read A} → Stops bytes r → r ≡ Err at → Refusal bytes at
stopped_at {A} {bytes} {at} {r} s is = let Q : Read A → Type 0 = λ r. ReadStops bytes r in subst Q is s.it
