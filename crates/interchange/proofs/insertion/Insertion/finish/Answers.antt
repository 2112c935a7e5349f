use Rattle.interchange.proofs.InsertionCome.{ends_few, ends_many, ends_overlap}
use Rattle.interchange.proofs.insertion.Insertion.finish.Goals as goal

pub returns-in-Some-into_first : goal.returns-in-Some-into_first
returns-in-Some-into_first c = λ table rows come.
    ends_overlap table rows c.args.self c.into_first.result c.in-Some-into_first.key c.if-has_bad_span.false c.in_default.is c.in-Some-into_first.is c.into_first.ensures come

pub returns-then-len-gt-MOST_ROWS : goal.returns-then-len-gt-MOST_ROWS
returns-then-len-gt-MOST_ROWS c = λ table rows come.
    ends_many table rows c.args.self c.into_first.result c.len.result c.if-has_bad_span.false c.in_default.is c.in_default-into_first.is c.into_first.ensures c.len.ensures c.if-len-gt-MOST_ROWS.true come

pub returns : goal.returns
returns c = λ table rows come.
    ends_few table rows c.args.self c.into_first.result c.len.result c.if-has_bad_span.false c.in_default.is c.in_default-into_first.is c.into_first.ensures c.len.ensures c.if-len-gt-MOST_ROWS.false come
