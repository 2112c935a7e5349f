use Rattle.statement.specs.Line.{line_says}
use Rattle.scripts.specs.First.{history_of}
use Rattle.scripts.specs.Transcript.{IsRunAfter}
use Rattle.scripts.proofs.ScriptLeading.{at_first, never_first}
use Rattle.scripts.proofs.script.run_script_after.Goals as goal

pub returns-in-Ok-clause-done : goal.returns-in-Ok-clause-done
returns-in-Ok-clause-done g c = at_first c.run_script_in.result
    (λ schema h x. IsRunAfter schema line_says h x (g.I.Read.remaining c.args.reader.now) (g.I.Read.remaining c.run_script_in.new.reader) (g.W.Write.contents c.args.writer.now) (g.W.Write.contents c.run_script_in.new.writer))
    c.in-Ok.system c.args.schema (history_of c.args.first.items) c.in-Ok.ensures.stands c.run_script_in.ensures.done

pub returns-in-Ok-clause-read : goal.returns-in-Ok-clause-read
returns-in-Ok-clause-read g c = λ e. c.run_script_in.ensures.read e c.args.schema (history_of c.args.first.items) c.in-Ok.ensures.stands

pub returns-in-Ok-clause-write : goal.returns-in-Ok-clause-write
returns-in-Ok-clause-write g c = λ e. c.run_script_in.ensures.write e c.args.schema (history_of c.args.first.items) c.in-Ok.ensures.stands

pub returns-in-Ok-clause-first : goal.returns-in-Ok-clause-first
returns-in-Ok-clause-first g c = λ refusal e. absurd (never_first c.run_script_in.result refusal c.run_script_in.ensures.first e)
