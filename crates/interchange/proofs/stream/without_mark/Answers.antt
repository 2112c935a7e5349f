use Rattle.std.proofs.Common.{◌∙◌, sym}
use Rattle.interchange.proofs.StreamReads.{mark_taken, no_mark, no_room}
use Rattle.interchange.proofs.stream.without_mark.Goals as goal

pub returns-then-bytes-lt-MARK : goal.returns-then-bytes-lt-MARK
returns-then-bytes-lt-MARK c = no_room c.args.bytes.now c.if-bytes-lt-MARK.true

pub returns-then-is_mark : goal.returns-then-is_mark
returns-then-is_mark c = c.split_at.ensures.back ∙ mark_taken c.args.bytes.now c.if-bytes-lt-MARK.false (sym c.is_mark.ensures ∙ c.if-is_mark.true)

pub returns : goal.returns
returns c = no_mark c.args.bytes.now (sym c.is_mark.ensures ∙ c.if-is_mark.false)
