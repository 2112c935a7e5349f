use Rattle.statement.specs.Print.{next_text}
use Rattle.statement.proofs.WriterPrefixes.{each_taken, each_stopped}
use Rattle.statement.proofs.print.print_next_values.Goals as goal

pub returns-in_err-print_next : goal.returns-in_err-print_next
returns-in_err-print_next g c = each_stopped _ _ _ _ _ next_text c.args.values.now c.loop-value.value-index c.value-item.result c.from_residual.ensures.1 c.loop-value-test.true c.value-item.is c.loop-value.invariant c.in_err-print_next.ensures

pub loop-value-preserved : goal.loop-value-preserved
loop-value-preserved g c = each_taken _ _ _ next_text c.args.values.now c.loop-value.value-index c.value-item.result c.loop-value-test.true c.value-item.is c.loop-value.invariant c.in_ok-print_next.ensures
