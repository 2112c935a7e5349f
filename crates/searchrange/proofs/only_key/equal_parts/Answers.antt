use Rattle.std.proofs.Common.{rules, ◌≡◌, ◌∷◌, ◌++◌, [], ◌<◌, ◌∙◌, length, sym}
use Rattle.searchrange.proofs.OnlyKeyTaken.{none_here, one_here}
use Rattle.searchrange.proofs.only_key.equal_parts.Goals as goal

pub returns-in-None : goal.returns-in-None
returns-in-None c =
    let within : c.loop-place.place < length c.args.table.now.key = search rules in
    sym c.loop-place.invariant
    ∙ none_here c.args.table.now c.args.comparisons.now c.loop-place.place c.args.table.now.key within c.in-None.ensures c.loop-place.parts.items

pub loop-place-preserved : goal.loop-place-preserved
loop-place-preserved c =
    let within : c.loop-place.place < length c.args.table.now.key = search rules in
    let pushed : c.push.new.self.items ≡ c.loop-place.parts.items ++ c.in-Some.value.now ∷ [] = search rules in
    one_here c.args.table.now c.args.comparisons.now c.loop-place.place c.args.table.now.key within c.in-Some.value.now c.loop-place.parts.items c.push.new.self.items c.in-Some.ensures pushed
    ∙ c.loop-place.invariant
