use Rattle.std.proofs.Common.{◌≡◌, drop}
use Rattle.tokens.specs.Digit.{capped_from}
use Rattle.tokens.proofs.digit.capped_number.Given as goal

abbrev pub invariant-loop-digit : goal.invariant-loop-digit
invariant-loop-digit l = capped_from l.n (drop l.digit-index l.digits) ≡ capped_from 0 l.digits
