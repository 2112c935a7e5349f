use Rattle.std.proofs.Common.{refl}
use Rattle.std.specs.Prelude.{codes, decimal}
use Rattle.statement.specs.Print.{line}
use Rattle.statement.proofs.PrintEnds.{both_printed, both_stopped}
use Rattle.statement.proofs.print.print_winner.Goals as goal

pub returns-in_err-print_values : goal.returns-in_err-print_values
returns-in_err-print_values g c =
    both_stopped _ _ _ _ c.items.result.now c.args.key.now.parts (codes " at ") (line (decimal c.args.instant)) c.items.ensures
    c.from_residual.ensures.1 (c.in_err-print_values.ensures (codes " at ") refl)

pub returns : goal.returns
returns g c =
    both_printed _ _ _ _ c.items.result.now c.args.key.now.parts (codes " at ") _ c.items.ensures
    (c.in_ok-print_values.ensures (codes " at ") refl) c.print_number_line.ensures
