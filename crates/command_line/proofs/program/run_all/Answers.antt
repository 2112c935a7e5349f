use Rattle.command_line.specs.Options.{asked_of}
use Rattle.command_line.proofs.ProgramEnding.{halts_all, halts_first, ran_all}
use Rattle.command_line.proofs.program.run_all.Goals as goal

pub run_mode-requires-clause-known : goal.run_mode-requires-clause-known
run_mode-requires-clause-known g c = λ κs h. (c.args.schema, c.in-Ok.ensures.ok.later, c.in-Ok.ensures.ok.stands, c.requires.export)

pub returns-in-Ok-clause-done : goal.returns-in-Ok-clause-done
returns-in-Ok-clause-done g c = ran_all c.run_mode.result (asked_of c.args.options).mode (asked_of c.args.options).after (asked_of c.args.options).load c.args.number c.args.schema c.in-Ok.system
    (g.I.Read.remaining c.args.reader.now) (g.I.Read.remaining c.run_mode.new.reader) (g.O.Write.contents c.args.out.now) (g.O.Write.contents c.run_mode.new.out)
    c.in-Ok.ensures.ok c.run_mode.ensures.done

pub returns-in-Ok-clause-halts : goal.returns-in-Ok-clause-halts
returns-in-Ok-clause-halts g c = halts_all c.run_mode.result (asked_of c.args.options).mode (asked_of c.args.options).after (asked_of c.args.options).load c.args.number c.args.schema c.in-Ok.system
    (g.I.Read.remaining c.args.reader.now) (g.I.Read.remaining c.run_mode.new.reader) (g.O.Write.contents c.args.out.now) (g.O.Write.contents c.run_mode.new.out)
    c.in-Ok.ensures.ok c.run_mode.ensures.halts

pub returns-in-Err-clause-halts : goal.returns-in-Err-clause-halts
returns-in-Err-clause-halts g c = halts_first c.in-Err.fault (asked_of c.args.options).mode (asked_of c.args.options).after (asked_of c.args.options).load c.args.number c.args.schema _ _ c.in-Err.ensures.err
