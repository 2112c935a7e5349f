use Rattle.std.proofs.Common.{get_or}
use Rattle.std.proofs.lemmas.List.{get_or_default}
use Rattle.statement.specs.Print.{quoted_byte}
use Rattle.statement.proofs.WriterPrefixes.{each_taken, each_stopped}
use Rattle.statement.proofs.print.print_bytes.Goals as goal

pub returns-in_err-print_byte : goal.returns-in_err-print_byte
returns-in_err-print_byte g c = each_stopped _ _ _ _ _ quoted_byte c.args.text.now c.loop-byte.byte-index (get_or c.args.text.now c.loop-byte.byte-index 0) c.from_residual.ensures.1 c.loop-byte-test.true (get_or_default c.args.text.now c.loop-byte.byte-index 0 _ c.loop-byte-test.true) c.loop-byte.invariant c.in_err-print_byte.ensures

pub loop-byte-preserved : goal.loop-byte-preserved
loop-byte-preserved g c = each_taken _ _ _ quoted_byte c.args.text.now c.loop-byte.byte-index (get_or c.args.text.now c.loop-byte.byte-index 0) c.loop-byte-test.true (get_or_default c.args.text.now c.loop-byte.byte-index 0 _ c.loop-byte-test.true) c.loop-byte.invariant c.in_ok-print_byte.ensures
