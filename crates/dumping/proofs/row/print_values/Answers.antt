use Rattle.dumping.proofs.RowLoops.{value_taken, value_stopped, values_begun, values_done}
use Rattle.dumping.proofs.row.print_values.Goals as goal

pub loop-i-init : goal.loop-i-init
loop-i-init g c = values_begun c.args.is_short c.args.table.now c.args.values.now _

pub returns-in_err-print_next : goal.returns-in_err-print_next
returns-in_err-print_next g c =
    value_stopped c.args.is_short c.args.table.now c.args.values.now _ _ _ _ _ _ c.loop-i.label.now c.loop-i.i c.index-values-i.result
    c.from_residual.ensures.1 c.loop-i-test.true c.index-values-i.is c.loop-i.invariant c.in_err-print_next.ensures

pub loop-i-preserved : goal.loop-i-preserved
loop-i-preserved g c =
    value_taken c.args.is_short c.args.table.now c.args.values.now _ _ _ _ c.loop-i.label.now c.loop-i.i c.index-values-i.result
    c.loop-i-test.true c.index-values-i.is c.loop-i.invariant c.in_ok-print_next.ensures

pub returns : goal.returns
returns g c = values_done c.args.is_short c.args.table.now c.args.values.now _ _ _ _ _ c.loop-i.label.now c.loop-i.i c.loop-i-test.false c.loop-i.invariant c.write_all.ensures
