use Rattle.std.proofs.Common.{option_map}
use Rattle.command_line.proofs.ProgramEnding.{halts_early, halts_loaded, ran_loaded}
use Rattle.command_line.proofs.program.run_loaded.Goals as goal

pub returns-in-Ok-clause-done : goal.returns-in-Ok-clause-done
returns-in-Ok-clause-done g c = ran_loaded c.run_on.result (option_map (λ text. text.now) c.args.text) (option_map (λ text. text.now) c.args.file) c.args.number c.args.system c.load.new.system
    (g.I.Read.remaining c.args.reader.now) (g.I.Read.remaining c.run_on.new.reader) (g.O.Write.contents c.args.out.now) (g.O.Write.contents c.load.new.out) (g.O.Write.contents c.run_on.new.out)
    c.in-Ok.ensures.ok c.run_on.ensures.done

pub returns-in-Ok-clause-halts : goal.returns-in-Ok-clause-halts
returns-in-Ok-clause-halts g c = halts_loaded c.run_on.result (option_map (λ text. text.now) c.args.text) (option_map (λ text. text.now) c.args.file) c.args.number c.args.system c.load.new.system
    (g.I.Read.remaining c.args.reader.now) (g.I.Read.remaining c.run_on.new.reader) (g.O.Write.contents c.args.out.now) (g.O.Write.contents c.load.new.out) (g.O.Write.contents c.run_on.new.out)
    c.in-Ok.ensures.ok c.run_on.ensures.halts

pub returns-in-Err-clause-halts : goal.returns-in-Err-clause-halts
returns-in-Err-clause-halts g c = halts_early c.in-Err.fault (option_map (λ text. text.now) c.args.text) (option_map (λ text. text.now) c.args.file) c.args.number c.args.system _ _ _ c.in-Err.ensures.err
