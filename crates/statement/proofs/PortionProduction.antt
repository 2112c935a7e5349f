-- FOR PORTION OF as a production.
use Rattle.std.proofs.Common.{ℕ, List, Some, None, refl}
use Rattle.std.specs.Prelude.{Option, codes}
use Rattle.values.specs.Tables.{Schema}
use Rattle.statement.specs.declared.portion.Portion.{Portion}
use Rattle.statement.specs.Token.{word_at}
use Rattle.statement.specs.Portion.{bounds_at, is_period, period_name_at, named_portion_at, portion_at}
use Rattle.statement.specs.Grammar.{Piece, ◌⋯◌, Word, Bounds, IsPeriod, IsPortion}
use Rattle.tokens.proofs.WordCases.{Refused}
use Rattle.tokens.proofs.TokenProduction.{Production, Any, alike, maybe, Maybe, closing}
use Rattle.tokens.proofs.TokenProductionParts.{skip, part, final, alone}
use Rattle.statement.proofs.TokenProduction.{gaps, word, number, named}

bounds : Production gaps Bounds Any bounds_at
unfolding bounds_at
bounds =
    alone (skip (word (codes "FROM") refl)
    (part (λ span. span.from) number (λ from.
    skip (word (codes "TO") refl)
    (final (λ span. span.to) (λ to. record { from = from; to = to }) (λ to. (tt, refl)) (λ to. refl) (λ span k. λ i. record { from = k.1 i; to = span.to }) number))))

module _ (schema : Schema) (table : ℕ) where
  period_name : Production gaps (IsPeriod schema table) Any (period_name_at schema table)
  unfolding period_name_at
  period_name = named (is_period schema table)

  abbrev AfterFor : Portion → Piece
  AfterFor p = Word (codes "PORTION") ⋯ Word (codes "OF") ⋯ IsPeriod schema table p.of_period ⋯ Bounds p.span

  named_portion : Production gaps AfterFor Any (named_portion_at schema table)
  unfolding named_portion_at
  named_portion =
      alone (skip (word (codes "PORTION") refl)
      (skip (word (codes "OF") refl)
      (part (λ p. p.of_period) period_name (λ of_period.
      final (λ p. p.span) (λ span. record { of_period = of_period; span = span }) (λ span. (tt, refl)) (λ span. refl) (λ p k. λ i. record { of_period = k.1 i; span = p.span }) bounds))))

  pub portion : Production gaps (IsPortion schema table) (λ rest. Refused (word_at (codes "FOR") rest)) (portion_at schema table)
  unfolding portion_at
  portion = alike to from (closing (λ rest c. (c, tt)) (maybe (word (codes "FOR") refl) named_portion))
    where
      to : (p : Option Portion) (bytes rest : List ℕ) → Maybe (Word (codes "FOR")) AfterFor p bytes rest → IsPortion schema table p bytes rest
      to None bytes rest is = is
      to (Some p) bytes rest is = is

      from : (p : Option Portion) (bytes rest : List ℕ) → IsPortion schema table p bytes rest → Maybe (Word (codes "FOR")) AfterFor p bytes rest
      from None bytes rest is = is
      from (Some p) bytes rest is = is
