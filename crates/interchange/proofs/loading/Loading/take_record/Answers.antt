use Rattle.std.proofs.Common.{◌∙◌, List, ℕ, ap, subst, sym}
use Rattle.csv.specs.Records.{fields_of}
use Rattle.interchange.specs.Loading.{HasRows}
use Rattle.interchange.proofs.InsertionCome.{on_err}
use Rattle.interchange.proofs.loading.Loading.take_record.Goals as goal

pub returns-in-Some-clause-err : goal.returns-in-Some-clause-err
returns-in-Some-clause-err c = on_err c.take_row.result c.take_row.ensures.err (λ why refused s fields records at has.
    let taken = rw c.in-Some.is at has in
    refused fields records (ap fields_of c.fields.ensures ∙ at.fields_are)
    (subst (λ (columns : List ℕ). HasRows c.args.table.now columns records c.args.self.now.rows) (sym c.as_slice.ensures.value) taken))
