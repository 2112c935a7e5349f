use Rattle.std.proofs.Common.{◌≡◌, ◌<◌, ◌∙◌, true, ap, rules, arith, length}
use Rattle.std.specs.Prelude.{unwrap_or}
use Rattle.std.specs.Result.{is_ok}
use Rattle.csv.specs.Records.{fields_of}
use Rattle.values.specs.Names.{column_number}
use Rattle.interchange.proofs.LoadFields.{one_more}
use Rattle.interchange.proofs.load.column_list.Goals as goal

pub loop-i-preserved : goal.loop-i-preserved
loop-i-preserved c =
    let good : is_ok c.push.result ≡ true = search rules in
    let items = rw good at c.push.ensures.items in
    let less : c.loop-i.i < length (fields_of c.args.header.now) = omega (arith, c.loop-i-test.true, c.len-i-end.ensures) in
    let number = c.unwrap_or.ensures ∙ ap (λ n. unwrap_or n 0) (c.column.ensures ∙ ap (column_number c.args.table.now) c.field_at.ensures) in
    rw items (one_more (λ name. unwrap_or (column_number c.args.table.now name) 0) (fields_of c.args.header.now) c.loop-i.i c.loop-i.columns.items c.unwrap_or.result less number ∙ c.loop-i.invariant)
