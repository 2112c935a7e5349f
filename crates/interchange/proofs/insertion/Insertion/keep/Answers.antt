use Rattle.interchange.proofs.InsertionCome.{no_more}
use Rattle.interchange.proofs.insertion.Insertion.keep.Goals as goal

pub returns-then-len-gt-MOST_ROWS-clause-kept : goal.returns-then-len-gt-MOST_ROWS-clause-kept
returns-then-len-gt-MOST_ROWS-clause-kept c = λ table keys has few. absurd (no_more c.len.result keys (c.len.ensures table keys has) c.if-len-gt-MOST_ROWS.true few)
