use Rattle.interchange.proofs.loading.Loading.end_record.Goals as goal

pub returns-in-Ok-clause-record : goal.returns-in-Ok-clause-record
returns-in-Ok-clause-record c = λ s fields at. c.clear.ensures c.args.table.now s fields (c.in-Ok.ensures.record s fields at)
