use Rattle.std.proofs.Common.{arith}
use Rattle.std.proofs.lemmas.Bool.Decides.{nat_tests}
use Rattle.statement.proofs.LiteralDigits.{too_great}
use Rattle.statement.proofs.literal.value_within.Goals as goal

pub returns-then-more-most : goal.returns-then-more-most
returns-then-more-most c =
    let over = too_great c.args.most c.loop-digit.value c.loop-digit.digit-index c.args.digits.now c.loop-digit.invariant.digits c.loop-digit-test.true c.loop-digit.invariant.value c.if-more-most.true in
    grind (arith, nat_tests)
