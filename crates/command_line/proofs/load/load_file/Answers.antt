use Rattle.std.proofs.Common.{subst, Some}
use Rattle.values.specs.Tables.{Schema}
use Rattle.histories.specs.History.{History}
use Rattle.interleaving.specs.SystemState.{Stands}
use Rattle.command_line.specs.Load.{HasNoRows, IsLed, Unloaded}
use Rattle.command_line.proofs.LoadParts.{of_text_err, of_text_ok, unloaded_none}
use Rattle.command_line.proofs.load.load_file.Goals as goal

pub returns-in-Ok-clause-ok : goal.returns-in-Ok-clause-ok
returns-in-Ok-clause-ok g c = of_text_ok c.load_rows_of.result _ c.args.system.now.schema c.args.text.now c.in-Ok.loaded.number c.in-Ok.loaded.rows.items
    (λ text. (first : Schema) (before : History) → Stands first c.args.system.now before → IsLed first (Some text) before c.load_rows_of.new.system (g.O.Write.contents c.args.out.now) (g.O.Write.contents c.load_rows_of.new.out))
    c.schema.ensures c.in-Ok.ensures.ok c.load_rows_of.ensures.ok

pub returns-in-Ok-clause-err : goal.returns-in-Ok-clause-err
returns-in-Ok-clause-err g c = of_text_err c.load_rows_of.result _ c.args.system.now.schema c.args.text.now c.in-Ok.loaded.number c.in-Ok.loaded.rows.items
    (λ fault text. (first : Schema) (before : History) → Stands first c.args.system.now before → Unloaded fault first (Some text) before (g.O.Write.contents c.args.out.now) (g.O.Write.contents c.load_rows_of.new.out))
    c.schema.ensures c.in-Ok.ensures.ok c.load_rows_of.ensures.err

pub returns-in-Err-clause-err : goal.returns-in-Err-clause-err
returns-in-Err-clause-err g c = unloaded_none c.in-Err.fault c.args.system.now c.args.text.now _ (subst (λ schema. HasNoRows c.in-Err.fault schema c.args.text.now) c.schema.ensures c.in-Err.ensures.err)
