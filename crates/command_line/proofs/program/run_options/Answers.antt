use Rattle.command_line.proofs.DumpedTaken.{completes}
use Rattle.command_line.proofs.program.run_options.Goals as goal

pub returns-in-Ok-clause-done : goal.returns-in-Ok-clause-done
returns-in-Ok-clause-done g c =
    let laws = c.histories_can_be_read.ensures in
    completes (record {
      schemas = laws.schemas;
      of_sample = laws.sample;
      loaded = laws.loaded;
      replayed = laws.replayed;
      scripts = laws.scripts;
      runs = laws.runs;
    }) c.dumps_are_replayed.ensures.histories c.run_over.result _ _ _ _ _ _ c.in-Ok.ensures.ok c.run_over.ensures.done
