use Rattle.std.proofs.Common.{rules, ◌≡◌}
use Rattle.values.specs.Equality.{schema_eq}
use Rattle.values.proofs.SchemaEqual.{schema_decides}
use Rattle.values.proofs.schema.SchemaPartialEq.eq.Goals as goal

pub returns-clause-same : goal.returns-clause-same
returns-clause-same c =
    let is : c.eq.result ≡ schema_eq c.args.self.now c.args.other.now = search rules in
    let same = schema_decides c.args.self.now c.args.other.now in
    search (is, same, rules)
