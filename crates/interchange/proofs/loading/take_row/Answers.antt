use Rattle.csv.specs.Records.{fields_of}
use Rattle.interchange.proofs.InsertionCome.{on_ok}
use Rattle.interchange.proofs.LoadingReads.{row_refused, row_taken}
use Rattle.interchange.proofs.loading.take_row.Goals as goal

pub returns-in-Ok-clause-ok : goal.returns-in-Ok-clause-ok
returns-in-Ok-clause-ok c = on_ok c.take.result c.take.ensures.ok (λ come whole records same has.
    row_taken c.args.table.now c.args.columns.now (fields_of c.args.fields.now) whole records c.in-Ok.row c.args.rows.now c.take.new.self c.in-Ok.ensures same come has)

pub returns-in-Err-clause-err : goal.returns-in-Err-clause-err
returns-in-Err-clause-err c = λ whole records same has.
    row_refused c.args.table.now c.args.columns.now (fields_of c.args.fields.now) whole records c.in-Err.why c.args.rows.now c.in-Err.ensures same has
