use Rattle.std.proofs.Common.{refl, sym, ◌∙◌}
use Rattle.tokens.specs.declared.name.TheConstants.{RESERVED_WORDS}
use Rattle.tokens.specs.Name.{reserved_words, is_reserved}
use Rattle.tokens.proofs.NameLetters.{none_is_reserved, below_letters, looked_up}
use Rattle.tokens.proofs.name.is_reserved.Goals as goal

pub returns-in_default : goal.returns-in_default
returns-in_default c = none_is_reserved c.args.name.now c.in_default.len_below

pub returns-then-letter-lt97 : goal.returns-then-letter-lt97
unfolding reserved_words is_reserved
returns-then-letter-lt97 c =
    sym (below_letters RESERVED_WORDS.now (λ l. l.now) (λ w. w.now) refl c.args.name.now c.in-len1-up.len_at_least
    c.to_ascii_lowercase-letter.result c.to_ascii_lowercase-letter.ensures.value c.if-letter-lt97.true)

pub returns : goal.returns
unfolding reserved_words is_reserved
returns c =
    c.is_one_at.ensures ∙ looked_up RESERVED_WORDS.now (λ l. l.now) (λ w. w.now) refl c.args.name.now c.in-len1-up.len_at_least
    c.to_ascii_lowercase-letter.result c.to_ascii_lowercase-letter.ensures.value c.if-letter-lt97.false c.from.result c.from.ensures
