use Rattle.lines.proofs.LineBufferFeed.{none_found, found_at}
use Rattle.lines.proofs.line_buffer.line_length.Goals as goal

pub returns-in-Some-clause-length : goal.returns-in-Some-clause-length
returns-in-Some-clause-length c = found_at c.args.bytes.now c.in-Some.place c.in-Some.ensures.0 c.in-Some.ensures.1

pub returns-in-None-clause-length : goal.returns-in-None-clause-length
returns-in-None-clause-length c = none_found c.args.bytes.now c.in-None.ensures
