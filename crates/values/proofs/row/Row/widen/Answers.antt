use Rattle.std.proofs.Common.{◌≡◌, ◌++◌, [], ◌∷◌, sym, subst, rules}
use Rattle.values.specs.declared.value.Value.TheVariants.{Null}
use Rattle.values.specs.RowEncoding.{IsStoredRow}
use Rattle.values.proofs.RowWidened.{widened_more, widened_all, widened_stored}
use Rattle.values.proofs.row.Row.widen.Goals as goal

pub loop-preserved : goal.loop-preserved
loop-preserved c =
    let more : c.push.new.self.items ≡ c.loop.values.items ++ Null ∷ [] = search rules in
    widened_more c.args.self c.loop.values.items c.push.new.self.items c.args.width c.loop.counter c.loop-test.true more c.loop.invariant

pub invariant_of-result : goal.invariant_of-result
invariant_of-result c =
    let whole = widened_all c.args.self c.loop.values.items c.args.width c.loop.counter c.loop-test.false c.loop.invariant in
    subst IsStoredRow (sym whole) (widened_stored c.args.self c.args.width c.requires (subst IsStoredRow c.self.view_is c.self.invariant))

pub returns-clause-ok : goal.returns-clause-ok
returns-clause-ok c = widened_all c.args.self c.loop.values.items c.args.width c.loop.counter c.loop-test.false c.loop.invariant
