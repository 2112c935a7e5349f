use Rattle.std.proofs.Common.{◌≡◌, ◌∷◌, ◌++◌, [], ap, sym, ◌∙◌, rules}
use Rattle.values.specs.Tables.{but_last}
use Rattle.values.proofs.TablesButLast.{but_last-push}
use Rattle.rows.proofs.schema_table.but_last.Goals as goal

pub returns-in-Some : goal.returns-in-Some
returns-in-Some c =
    let whole : c.args.names.now ≡ c.in-Some.entity.now ++ c.in-Some._last.now ∷ [] = search rules in
    sym (ap but_last whole ∙ but_last-push c.in-Some.entity.now c.in-Some._last.now)
