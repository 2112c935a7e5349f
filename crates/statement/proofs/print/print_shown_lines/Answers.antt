use Rattle.statement.specs.Print.{shown_line}
use Rattle.statement.proofs.WriterPrefixes.{each_taken, each_stopped}
use Rattle.statement.proofs.print.print_shown_lines.Goals as goal

pub returns-in_err-print_shown : goal.returns-in_err-print_shown
returns-in_err-print_shown g c = each_stopped _ _ _ _ _ shown_line c.args.shown.now c.loop-one.one-index c.one-item.result c.from_residual.ensures.1 c.loop-one-test.true c.one-item.is c.loop-one.invariant c.in_err-print_shown.ensures

pub loop-one-preserved : goal.loop-one-preserved
loop-one-preserved g c = each_taken _ _ _ shown_line c.args.shown.now c.loop-one.one-index c.one-item.result c.loop-one-test.true c.one-item.is c.loop-one.invariant c.in_ok-print_shown.ensures
