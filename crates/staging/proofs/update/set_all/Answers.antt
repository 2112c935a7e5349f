use Rattle.std.proofs.Common.{◌≡◌, ap, sym, subst, ◌∙◌}
use Rattle.std.proofs.lemmas.List.{drop_all}
use Rattle.values.specs.Writes.{set_all}
use Rattle.values.specs.RowEncoding.{IsStoredRow}
use Rattle.staging.proofs.UpdateStored.{set_row_stored}
use Rattle.staging.proofs.update.set_all.Goals as goal

pub unreachable-requires : goal.unreachable-requires
unreachable-requires c =
    let all : c.loop-set.values.items ≡ set_all c.args.sets.now c.args.row =
    ap (λ sets. set_all sets c.loop-set.values.items) (sym (drop_all c.loop-set.set-index c.args.sets.now c.loop-set-test.false)) ∙ c.loop-set.invariant.0 in
    let never = c.in-None.ensures.stored (subst IsStoredRow (sym all) (set_row_stored c.args.sets.now c.args.row c.requires.stored (subst IsStoredRow c.into_values-values.ensures.are c.into_values-values.ensures.stored))) in
    cc
