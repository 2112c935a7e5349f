use Rattle.std.proofs.Common.{◌≡◌, List, Option, ◌∙◌, ap, subst}
use Rattle.std.specs.BTreeMap.{IsFromIterResult}
use Rattle.std.specs.Iterator.Runs.{EveryRun, ItemsAre, Trigger, WholeRun}
use Rattle.std.specs.Vec.Iter.{into_iter_items, into_iter_steps}
use Rattle.values.specs.Order.{key_cmp}
use Rattle.staging.proofs.StagedBuilt.{built_is}
use Rattle.staging.proofs.NetEvents.{weaker}
use Rattle.staging.proofs.staged.map_of.Goals as goal

-- what holds of the items of a whole run holds of the list that is gone through
of_run : {S A : Type 0} (steps : S → Option A → S → Type 0) (s : S) (rest : S → List A) (xs : List A) (P : List A → Type 0) → EveryRun steps (λ p. ItemsAre p (rest p.from)) → rest s ≡ xs → WholeRun steps s (λ p. P p.items) → P xs
unfolding Trigger
of_run steps s rest xs P every is run = subst P ((every run.0 tt).4 run.2 ∙ ap rest run.1 ∙ is) run.3

pub returns : goal.returns
returns c =
    weaker c.collect.result (λ m h. (
    let gives = of_run into_iter_steps c.into_iter.result into_iter_items c.args.changes.items (λ xs. IsFromIterResult key_cmp xs m) c.into_iter.ensures.runs c.into_iter.ensures.rest (h tt) in
    built_is c.args.changes.items m.entries gives.0 gives.1
    )) c.collect.ensures.runs
