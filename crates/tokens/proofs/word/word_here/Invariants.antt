use Rattle.std.proofs.Common.{◌≡◌, drop}
use Rattle.values.specs.Names.{same_name}
use Rattle.tokens.specs.Token.{prefix_while, skip_while}
use Rattle.tokens.specs.Word.{is_name_byte}
use Rattle.tokens.proofs.word.word_here.Given as goal

abbrev pub invariant-loop-letter : goal.invariant-loop-letter
invariant-loop-letter l =
    (same_name (drop l.letter-index l.word) (prefix_while is_name_byte l.rest) ≡ same_name l.word (prefix_while is_name_byte l.at))
    × (skip_while is_name_byte l.rest ≡ skip_while is_name_byte l.at)
