use Rattle.statement.proofs.WriterPrefixes.{left_more}
use Rattle.statement.proofs.writer.write_all.Goals as goal

pub loop-rest-preserved : goal.loop-rest-preserved
loop-rest-preserved g c = rw c.split_at.ensures.back (left_more _ _ _ _ _ _ c.loop-rest.invariant c.in-Ok.ensures.bytes)
