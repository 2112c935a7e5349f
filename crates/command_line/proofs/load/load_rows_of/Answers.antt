use Rattle.command_line.proofs.LoadParts.{IsLoadedInto, late_err, led_ok, unloaded_early}
use Rattle.command_line.proofs.load.load_rows_of.Goals as goal

pub returns-in-Err-clause-err : goal.returns-in-Err-clause-err
returns-in-Err-clause-err g c = unloaded_early c.in-Err.fault c.args.system.now c.args.loaded.number c.args.loaded.rows.items _ c.in-Err.ensures.err

pub returns-clause-ok : goal.returns-clause-ok
returns-clause-ok g c =
    let so : IsLoadedInto c.args.system.now c.load_into.new.system c.args.loaded.number c.args.loaded.rows.items c.count_of-count.result c.load_instant.result = record {
      leads = c.in-Ok.ensures.ok;
      count_is = c.count_of-count.ensures;
      some = c.load_instant.ensures.some;
      none = c.load_instant.ensures.none;
    } in
    led_ok c.report.result _ _ _ _ _ _ so _ _ c.report.ensures.ok

pub returns-clause-err : goal.returns-clause-err
returns-clause-err g c =
    let so : IsLoadedInto c.args.system.now c.load_into.new.system c.args.loaded.number c.args.loaded.rows.items c.count_of-count.result c.load_instant.result = record {
      leads = c.in-Ok.ensures.ok;
      count_is = c.count_of-count.ensures;
      some = c.load_instant.ensures.some;
      none = c.load_instant.ensures.none;
    } in
    late_err c.report.result _ _ _ _ _ _ so _ _ c.report.ensures.err
