use Rattle.std.proofs.Common.{◌≡◌, drop}
use Rattle.rows.specs.SchemaToken.{number_from}
use Rattle.rows.proofs.schema_token.number_of.Given as goal

abbrev pub invariant-loop-digit : goal.invariant-loop-digit
invariant-loop-digit l = number_from l.n (drop l.digit-index l.digits) ≡ number_from 0 l.digits
