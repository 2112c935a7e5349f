use Rattle.std.proofs.Common.{◌≡◌, ◌∷◌, ◌++◌, [], ap, sym, ◌∙◌, rules}
use Rattle.rows.specs.SchemaTable.{ends_with_name}
use Rattle.rows.proofs.SchemaKeys.{ends_with-push}
use Rattle.rows.proofs.schema_table.ends_with_name.Goals as goal

pub returns-in-Some : goal.returns-in-Some
returns-in-Some c =
    let whole : c.args.names.now ≡ c.in-Some._entity.now ++ c.in-Some.last.now ∷ [] = search rules in
    c.is_same.ensures ∙ sym (ap (ends_with_name c.args.name.now) whole ∙ ends_with-push c.args.name.now c.in-Some._entity.now c.in-Some.last.now)
