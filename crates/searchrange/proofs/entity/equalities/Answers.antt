use Rattle.std.proofs.Common.{rules, ◌≡◌, ◌∷◌, ◌++◌, [], ◌<◌, ◌≤◌, ◌+◌, suc, length, get_or, take, ap, sym, ◌∙◌, arith}
use Rattle.values.specs.declared.query.Operator.TheVariants.{Equal as Equals}
use Rattle.periods.specs.EntityKeys.{equalities}
use Rattle.searchrange.proofs.EntityEqualities.{one_more, no_more}
use Rattle.searchrange.proofs.entity.equalities.Goals as goal

pub returns-in_default : goal.returns-in_default
returns-in_default c =
    let past : length c.args.values.now ≤ c.loop-i.i = search rules in
    c.loop-i.invariant ∙ no_more c.args.columns.now c.args.values.now c.loop-i.i past

pub loop-i-preserved : goal.loop-i-preserved
loop-i-preserved c =
    let i = c.loop-i.i in
    let n = get_or c.args.columns.now i 0 in
    let v = c.in-Some.value.now in
    let pushed : c.push.new.self.items ≡ c.loop-i.comparisons.items ++ record { column = n; operator = Equals; value = v } ∷ [] = search rules in
    let in_columns : i < length c.args.columns.now = search rules in
    let in_values : i < length c.args.values.now = search rules in
    let value_is : v ≡ get_or c.args.values.now i v = search rules in
    let column_is : n ≡ get_or c.args.columns.now i n = search rules in
    let on : i + 1 ≡ suc i = omega arith in
    pushed
    ∙ ap (λ l. l ++ record { column = n; operator = Equals; value = v } ∷ []) c.loop-i.invariant
    ∙ sym (ap (λ k. equalities (take k c.args.columns.now) c.args.values.now) on ∙ one_more c.args.columns.now c.args.values.now i n v in_columns in_values column_is value_is)
