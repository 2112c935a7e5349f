-- What is of the grammar is read: operators and instants; and what closes a statement.
use Rattle.std.proofs.Common.{◌≡◌, ◌<◌, ℕ, List, [], ◌∷◌, length, Ok, inl, inr, refl, ap, ◌∙◌}
use Rattle.std.specs.Prelude.{◌==◌, if◌then◌else◌}
use Rattle.values.specs.Commits.{max_instant}
use Rattle.values.specs.declared.query.Operator.{Operator}
use Rattle.values.specs.declared.query.Operator.TheVariants.{Equal, Below, AtMost, Above, AtLeast}
use Rattle.tokens.specs.Run.{Ends}
use Rattle.statement.specs.Token.{next, symbol_at, word_at}
use Rattle.statement.specs.Condition.{or_equal, operator_of, operator_at}
use Rattle.statement.specs.Statement.{instant_at}
use Rattle.statement.specs.Grammar.{◌∣◌, Empty, Blanks, Symbol, IsOperator, IsInstant}
use Rattle.tokens.proofs.WordCases.{Refused}
use Rattle.statement.proofs.TokenGaps.{next_is}
use Rattle.statement.proofs.TokenWhole.{next_symbol, symbol_refused, symbol_refused_at_end, word_refused, word_refused_at_end}
use Rattle.statement.proofs.LiteralWhole.{digits_whole}

strict_whole : (strict loose : Operator) (rest : List ℕ) → Ends (λ b. b == 61) rest → or_equal strict loose rest ≡ (strict, rest)
strict_whole strict loose [] ends = refl
strict_whole strict loose (b ∷ rest) ends = ap (λ t. if t then (loose, rest) else (strict, b ∷ rest)) ends

pub operator_whole : (operator : Operator) (bytes rest : List ℕ) → IsOperator operator bytes rest → operator_at bytes ≡ Ok (operator, rest)
unfolding operator_at
operator_whole Equal bytes rest is = ap operator_of (next_symbol 61 refl bytes rest is)
operator_whole Below bytes rest is =
    ap operator_of (next_symbol 60 refl bytes rest (is.0, (is.1.0, is.1.1.0))) ∙ ap (λ (x : Operator × List ℕ). Ok x) (strict_whole Below AtMost rest is.1.1.1)
operator_whole AtMost bytes rest is = ap operator_of (next_symbol 60 refl bytes (61 ∷ rest) (is.0, (is.1.0, is.1.1)))
operator_whole Above bytes rest is =
    ap operator_of (next_symbol 62 refl bytes rest (is.0, (is.1.0, is.1.1.0))) ∙ ap (λ (x : Operator × List ℕ). Ok x) (strict_whole Above AtLeast rest is.1.1.1)
operator_whole AtLeast bytes rest is = ap operator_of (next_symbol 62 refl bytes (61 ∷ rest) (is.0, (is.1.0, is.1.1)))

pub instant_whole : (n : ℕ) (bytes rest : List ℕ) → IsInstant n bytes rest → instant_at bytes ≡ Ok (n, rest)
unfolding instant_at
instant_whole n bytes rest is = digits_whole max_instant n bytes rest is

-- nothing follows that a statement could go on with
pub record Closing (rest : List ℕ) : Type 0 where
  pub word : (word : List ℕ) → 0 < length word → Refused (word_at word rest)
  pub comma : Refused (symbol_at 44 rest)

-- the end of a line closes its statement
closing_at_end : (rest : List ℕ) → next rest ≡ [] → Closing rest
closing_at_end rest here = record { word = λ word some. word_refused_at_end word some rest here; comma = symbol_refused_at_end 44 rest here }

pub closing_before : (bytes between : List ℕ) → (Empty ∣ Symbol 59) bytes between → Blanks between [] → Closing bytes
closing_before bytes between (inl is) blanks = closing_at_end bytes (ap next is ∙ next_is blanks tt)
closing_before bytes between (inr is) blanks =
    let here = next_symbol 59 refl bytes between is in
    record { word = λ word some. word_refused word some 59 between bytes here refl; comma = symbol_refused 44 59 between bytes here refl }
