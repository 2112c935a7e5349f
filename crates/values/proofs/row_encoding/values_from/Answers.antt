use Rattle.std.proofs.Common.{◌≡◌, ◌<◌, ◌-◌, ◌+◌, ◌++◌, ◌∷◌, [], sym, ap, ◌∙◌, arith, rules}
use Rattle.values.specs.RowReading.{after, values_from}
use Rattle.values.proofs.RowReadingParsed.{values_none, values_more}
use Rattle.values.proofs.row_encoding.values_from.Goals as goal

pub returns-in-None : goal.returns-in-None
returns-in-None c =
    let below : c.loop.counter < c.args.n = omega arith in
    sym c.loop.invariant ∙ values_none c.args.n c.loop.counter c.loop.values.items c.loop.rest.now below (search rules)

pub loop-preserved : goal.loop-preserved
loop-preserved c =
    let below : c.loop.counter < c.args.n = omega arith in
    let pushed : c.push.new.self.items ≡ c.loop.values.items ++ c.in-Some.value ∷ [] = search rules in
    ap (λ xs. after xs (values_from (c.args.n - (c.loop.counter + 1)) c.in-Some.others.now)) pushed
    ∙ sym (values_more c.args.n c.loop.counter c.loop.values.items c.in-Some.value c.loop.rest.now c.in-Some.others.now below (search rules))
    ∙ c.loop.invariant
