use Rattle.std.proofs.Common.{◌≡◌, length, false}
use Rattle.rows.specs.SchemaToken.{token_from}
use Rattle.rows.proofs.schema_token.GapsSeparators.next.Given as goal

abbrev pub invariant-loop-rest : goal.invariant-loop-rest
invariant-loop-rest l = token_from l.in_comment l.rest ≡ token_from false l.bytes

abbrev pub decreases-loop-rest : goal.decreases-loop-rest
decreases-loop-rest l = length l.rest
