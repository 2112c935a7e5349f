use Rattle.std.proofs.Common.{◌≡◌, Some, None, sym, ap, ◌∙◌, option_copied}
use Rattle.values.specs.Period.{periods_of}
use Rattle.validation.specs.Conflict.{conflict_of}
use Rattle.validation.proofs.ConflictUnits.{none_behind}
use Rattle.validation.proofs.conflict.conflict_behind.Goals as goal

pub returns-in-Some-clause-ok : goal.returns-in-Some-clause-ok
returns-in-Some-clause-ok c = λ m held own unchanged.
    let periods = periods_of c.args.schema.now in
    let before = c.in-Some.before.now in
    let at : option_copied c.args.before ≡ Some before = ap option_copied c.in-Some.is in
    let none : conflict_of periods m c.args.start before ≡ None = unchanged before at in
    let here = none_behind periods m c.args.start before c.key.result.now none (sym c.is_one_entity.ensures ∙ c.if-is_one_entity.true) in
    here ∙ ap (conflict_of periods m c.args.start) c.key.ensures
