use Rattle.std.proofs.Common.{rules, ◌≡◌, ◌<◌, ◌≤◌, length, take, get_or, subst, All}
use Rattle.std.proofs.lemmas.List.Elements.{All-more}
use Rattle.std.proofs.lemmas.List.{take_all}
use Rattle.values.specs.declared.query.Comparison.{Comparison}
use Rattle.values.specs.KeyEncodingLaw.{IsStorable}
use Rattle.searchrange.proofs.narrowing.read_values.Goals as goal

pub loop-comparison-preserved : goal.loop-comparison-preserved
loop-comparison-preserved c =
    let item = c.comparison-item.result in
    let within : c.loop-comparison.comparison-index < length c.args.comparisons.now = search rules in
    let is : item ≡ get_or c.args.comparisons.now c.loop-comparison.comparison-index item = search rules in
    let read : IsStorable item.value = search rules in
    All-more (λ (c : Comparison). IsStorable c.value) c.args.comparisons.now c.loop-comparison.comparison-index item within c.loop-comparison.invariant
    (subst (λ (c : Comparison). IsStorable c.value) is read)

pub returns : goal.returns
returns c =
    let past : length c.args.comparisons.now ≤ c.loop-comparison.comparison-index = search rules in
    let all : take c.loop-comparison.comparison-index c.args.comparisons.now ≡ c.args.comparisons.now = take_all c.loop-comparison.comparison-index c.args.comparisons.now past in
    subst (All (λ (c : Comparison). IsStorable c.value)) all c.loop-comparison.invariant
