use Rattle.std.proofs.Common.{[], ◌∷◌, ◌++◌, ◌∙◌, List, ap, subst, sym}
use Rattle.csv.specs.Records.{fields_of}
use Rattle.interchange.specs.Load.{Record}
use Rattle.interchange.specs.Loading.{HasRows}
use Rattle.interchange.proofs.LoadingReads.{header_refused, header_taken}
use Rattle.interchange.proofs.loading.Loading.take_header.Goals as goal

pub returns-in-Ok-clause-ok : goal.returns-in-Ok-clause-ok
returns-in-Ok-clause-ok c = λ s fields records at has.
    let taken = rw c.requires.first at has in
    subst (λ (l : List Record). HasRows c.args.table.now c.in-Ok.columns.items (l ++ fields ∷ []) c.args.self.now.rows) (sym taken.0)
    (header_taken c.args.table.now c.in-Ok.columns.items (fields_of c.fields.result.now) fields c.args.self.now.rows c.requires.good.few_columns (ap fields_of c.fields.ensures ∙ at.fields_are)
    c.in-Ok.ensures.ok c.in-Ok.ensures.list taken.1)

pub returns-in-Err-clause-err : goal.returns-in-Err-clause-err
returns-in-Err-clause-err c = λ s fields records at has.
    let taken = rw c.requires.first at has in
    header_refused c.args.table.now (fields_of c.fields.result.now) fields records c.in-Err.why c.requires.good.few_columns (ap fields_of c.fields.ensures ∙ at.fields_are) taken.0 c.in-Err.ensures.err
