use Rattle.std.proofs.Common.{◌∷◌, [], ◌++◌, ◌∙◌, sym}
use Rattle.interchange.proofs.InsertionCome.{on_ok, on_err}
use Rattle.interchange.proofs.LoadingReads.{all_last, all_within, refused_last}
use Rattle.interchange.proofs.loading.Loading.close.Goals as goal

pub returns-in-Ok-true-clause-ok : goal.returns-in-Ok-true-clause-ok
returns-in-Ok-true-clause-ok c = on_ok c.take_record.result c.take_record.ensures.ok (λ ok text read.
    let closed = c.in-Ok-true.ensures c.args.table.now read.state_is read.fields read.field read.at in
    all_last c.args.table.now text c.take_record.new.self read.state_is read.fields read.field read.records read.goes_on (sym closed.ended_is ∙ c.in-Ok-true.field-0-test)
    (ok read.state_is (read.fields ++ read.field ∷ []) read.records (closed.last c.in-Ok-true.field-0-test) read.taken))

pub returns-in-Ok-true-clause-err : goal.returns-in-Ok-true-clause-err
returns-in-Ok-true-clause-err c = on_err c.take_record.result c.take_record.ensures.err (λ why refused text read.
    let closed = c.in-Ok-true.ensures c.args.table.now read.state_is read.fields read.field read.at in
    refused_last c.args.table.now text why read.state_is read.fields read.field read.records read.goes_on (sym closed.ended_is ∙ c.in-Ok-true.field-0-test)
    (refused read.state_is (read.fields ++ read.field ∷ []) read.records (closed.last c.in-Ok-true.field-0-test) read.taken))

pub returns-in-Ok-false-clause-ok : goal.returns-in-Ok-false-clause-ok
returns-in-Ok-false-clause-ok c = λ text read.
    let closed = c.in-Ok-false.ensures c.args.table.now read.state_is read.fields read.field read.at in
    all_within c.args.table.now text _ read.state_is read.fields read.field read.records read.goes_on (sym closed.ended_is ∙ c.in-Ok-false.field-0-test) read.taken
