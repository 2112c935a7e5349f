use Rattle.std.proofs.Common.{◌≡◌, true, rules, ap, subst, ◌∙◌}
use Rattle.std.specs.List.{list_all}
use Rattle.values.specs.Versions.{holds}
use Rattle.staging.specs.Bound.{is_first_below}
use Rattle.staging.proofs.BoundKept.{past_of_value}
use Rattle.staging.proofs.bound.is_past.Goals as goal

pub returns : goal.returns
returns c = λ is.
    past_of_value c.args.table.now c.args.keys.now c.args.key.now (search rules)
    (λ k all. subst (λ parts. is_first_below k.parts parts ≡ true) c.items-2.ensures (c.is_above.ensures is k (ap (list_all (holds c.args.table.now k)) c.items.ensures ∙ all)))
