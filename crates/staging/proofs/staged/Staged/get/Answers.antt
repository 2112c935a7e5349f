use Rattle.std.proofs.Common.{◌∙◌, ap, subst, All, length}
use Rattle.std.specs.Option.{option_map}
use Rattle.values.specs.RowEncoding.{IsHeld}
use Rattle.values.specs.Tables.{widened, full_row}
use Rattle.values.proofs.KeyLengths.{fitting_keys_are_short}
use Rattle.staging.proofs.StagedCalls.{row_of_view}
use Rattle.staging.proofs.staged.Staged.get.Goals as goal

pub row_found-requires : goal.row_found-requires
row_found-requires c = fitting_keys_are_short c.args.table.now c.args.key.now c.requires.table.few_key_columns c.requires.fits

pub returns-clause-ok : goal.returns-clause-ok
returns-clause-ok c = λ schema m reads.
    c.in_ok-widen.ensures.ok
    ∙ ap (λ n. option_map (widened n) c.in_ok-found.found) (ap length c.items-2.ensures)
    ∙ ap (option_map (full_row c.args.table.now)) (
    c.in_ok-found.ensures.ok
    ∙ row_of_view schema c.args.table.now c.args.view.now c.last.result m c.args.self.now c.args.key.now reads
    (record { own = c.requires.own; fits = c.requires.fits; held = subst (All IsHeld) c.items.ensures c.read_values.ensures })
    c.last.ensures.ordered c.last.ensures.upto c.in_ok-found.ensures.ordered)
