use Rattle.std.proofs.Common.{rules, ◌≡◌, ◌<◌, ◌≤◌, length, take, get_or, subst, All}
use Rattle.std.proofs.lemmas.List.Elements.{All-more}
use Rattle.std.proofs.lemmas.List.{take_all}
use Rattle.values.specs.RowEncoding.{IsHeld}
use Rattle.values.proofs.value.read_values.Goals as goal

pub loop-value-preserved : goal.loop-value-preserved
loop-value-preserved c =
    let item = c.value-item.result in
    let within : c.loop-value.value-index < length c.args.values.now = search rules in
    let is : item ≡ get_or c.args.values.now c.loop-value.value-index item = search rules in
    let read : IsHeld item = search rules in
    All-more IsHeld c.args.values.now c.loop-value.value-index item within c.loop-value.invariant (subst IsHeld is read)

pub returns : goal.returns
returns c =
    let past : length c.args.values.now ≤ c.loop-value.value-index = search rules in
    let all : take c.loop-value.value-index c.args.values.now ≡ c.args.values.now = take_all c.loop-value.value-index c.args.values.now past in
    subst (All IsHeld) all c.loop-value.invariant
