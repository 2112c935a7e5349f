use Rattle.std.proofs.Common.{◌∙◌}
use Rattle.values.specs.Names.{same_name}
use Rattle.tokens.proofs.NameLetters.{at_place, past_places}
use Rattle.tokens.proofs.name.is_one_at.Goals as goal

pub returns-in-Some : goal.returns-in-Some
returns-in-Some c =
    c.is_one_of.ensures ∙ at_place (λ w. same_name w.now c.args.name.now) (λ l. l.now) c.args.words.now c.args.place c.in-Some.words.now
    c.in-Some.ensures.lookup.3.0 c.in-Some.ensures.lookup.1

pub returns-in-None : goal.returns-in-None
returns-in-None c = past_places (λ w. same_name w.now c.args.name.now) (λ l. l.now) c.args.words.now c.args.place c.in-None.ensures.lookup.3
