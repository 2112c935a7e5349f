use Rattle.std.proofs.Common.{◌≡◌, ◌+◌, drop}
use Rattle.tokens.specs.Word.{word_length}
use Rattle.tokens.proofs.word.word_length.Given as goal

abbrev pub invariant-loop-i : goal.invariant-loop-i
invariant-loop-i l = l.i + word_length (drop l.i l.bytes) ≡ word_length l.bytes
