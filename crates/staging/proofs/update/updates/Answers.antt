use Rattle.std.proofs.Common.{◌≤◌, length, ap, sym, subst, ◌∙◌}
use Rattle.values.specs.Tables.{widened}
use Rattle.staging.proofs.StagedWide.{as_wide, sets_in}
use Rattle.staging.proofs.UpdateStored.{sets_stored, sets_within}
use Rattle.staging.proofs.update.updates.Goals as goal

pub set_all-requires-clause-stored : goal.set_all-requires-clause-stored
set_all-requires-clause-stored c = sets_stored c.args.table.now c.args.sets.now c.requires.fit

pub set_all-requires-clause-within : goal.set_all-requires-clause-within
set_all-requires-clause-within c =
    let width = length c.args.table.now.columns in
    let wide : width ≤ length c.in_ok-row.row =
    subst (λ row. width ≤ length row) (sym (c.in_ok-row.ensures.ok ∙ ap (λ n. widened n c.in-Some.row) (ap length c.items-width.ensures))) (as_wide width c.in-Some.row) in
    sets_in width (length c.in_ok-row.row) c.args.sets.now wide (sets_within c.args.table.now c.args.sets.now c.requires.fit)
