use Rattle.std.proofs.Common.{ap, option_map}
use Rattle.std.proofs.KnownBytes.{Keeps-refl}
use Rattle.command_line.proofs.ProgramRun.{has_run_file, has_run_input}
use Rattle.command_line.proofs.program.run_script_of.Goals as goal

pub returns-in-Ok-clause-done : goal.returns-in-Ok-clause-done
returns-in-Ok-clause-done g c = has_run_file c.run_script_in.result c.finish.result _ _ c.args.system _ _ _ _ _ _ (ap (option_map (λ text. text.now)) c.in-Some.is) (Keeps-refl _) c.finish.ensures c.run_script_in.ensures.done

pub returns-in-None-clause-done : goal.returns-in-None-clause-done
returns-in-None-clause-done g c = has_run_input c.run_script_in-in-None.result c.finish-in-None.result _ c.args.system _ _ _ _ (ap (option_map (λ text. text.now)) c.in-None.is) c.finish-in-None.ensures c.run_script_in-in-None.ensures.done
