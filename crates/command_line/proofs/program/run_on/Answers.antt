use Rattle.std.proofs.Common.{option_map}
use Rattle.command_line.proofs.DumpedParts.{left_as_it_stands}
use Rattle.command_line.proofs.ProgramEnding.{ran_on, halts_late}
use Rattle.command_line.proofs.program.run_on.Goals as goal

pub returns-in-Ok-export_table-clause-done : goal.returns-in-Ok-export_table-clause-done
returns-in-Ok-export_table-clause-done g c = ran_on (option_map (λ text. text.now) c.args.file) c.args.number c.args.system c.in-Ok.system
    (g.I.Read.remaining c.args.reader.now) (g.I.Read.remaining c.run_script_of.new.reader) (g.O.Write.contents c.args.out.now) (g.O.Write.contents c.run_script_of.new.out) (g.O.Write.contents c.export_table.new.out)
    c.in-Ok.ensures.done c.left_by.result
    (left_as_it_stands c.in-Ok.system c.export_table.new.system.schema c.export_table.new.system.engine c.left_by.result
    c.in-Ok-export_table.ensures.tables c.export_table.ensures.tree c.left_by.ensures.tables c.left_by.ensures.tree c.left_by.ensures.holds)
    c.in-Ok-export_table.ensures.ok

pub returns-in-Err-export_table-clause-halts : goal.returns-in-Err-export_table-clause-halts
returns-in-Err-export_table-clause-halts g c = halts_late (option_map (λ text. text.now) c.args.file) c.args.number c.args.system c.in-Ok.system
    (g.I.Read.remaining c.args.reader.now) (g.I.Read.remaining c.run_script_of.new.reader) (g.O.Write.contents c.args.out.now) (g.O.Write.contents c.run_script_of.new.out) (g.O.Write.contents c.export_table.new.out)
    c.in-Ok.ensures.done c.in-Err-export_table.fault c.in-Err-export_table.ensures.err
