use Rattle.std.proofs.Common.{refl, ◌++◌}
use Rattle.std.specs.Prelude.{codes, decimal}
use Rattle.statement.specs.Print.{line, end_text}
use Rattle.statement.proofs.PrintEnds.{both_printed, both_stopped}
use Rattle.statement.proofs.print.put_shown.Goals as goal

pub returns-in_err-print_values : goal.returns-in_err-print_values
returns-in_err-print_values g c =
    both_stopped _ _ _ _ c.values.result.now c.args.shown.now.row (codes " from ") (decimal c.args.shown.now.from ++ (codes " to " ++ line (end_text c.args.shown.now.to))) c.values.ensures
    c.from_residual.ensures.1 (c.in_err-print_values.ensures (codes " from ") refl)

pub returns : goal.returns
returns g c =
    both_printed _ _ _ _ c.values.result.now c.args.shown.now.row (codes " from ") _ c.values.ensures
    (c.in_ok-print_values.ensures (codes " from ") refl) c.print_ends.ensures
