use Rattle.dumping.proofs.RowLoops.{setting_taken, setting_stopped}
use Rattle.dumping.proofs.row.print_settings.Goals as goal

pub returns-in_err-print_setting : goal.returns-in_err-print_setting
returns-in_err-print_setting g c =
    setting_stopped c.args.table.now c.args.key.now c.args.values.now _ _ _ _ _ _ c.loop-i.i c.index-values-i.result
    c.from_residual.ensures.1 c.loop-i-test.true c.index-values-i.is c.loop-i.invariant c.in_err-print_setting.ensures

pub loop-i-preserved : goal.loop-i-preserved
loop-i-preserved g c =
    setting_taken c.args.table.now c.args.key.now c.args.values.now _ _ _ _ c.loop-i.i c.index-values-i.result
    c.loop-i-test.true c.index-values-i.is c.loop-i.invariant c.in_ok-print_setting.ensures
