use Rattle.std.proofs.Common.{All, arith, subst, sym}
use Rattle.std.proofs.lemmas.Grind.{common_steps}
use Rattle.std.proofs.lemmas.List.Elements.{All-push}
use Rattle.values.specs.KeyReading.{IsKeyOf}
use Rattle.staging.proofs.StagedAnswered.{own_of_row}
use Rattle.staging.proofs.insert.keys_of.Goals as goal

pub loop-row-preserved : goal.loop-row-preserved
loop-row-preserved c = record {
  are = grind (arith, common_steps);
  own =
      subst (All (IsKeyOf c.args.table.now)) (sym c.in_ok-push.ensures.items)
      (All-push (IsKeyOf c.args.table.now) c.loop-row.keys.items c.in_ok-key.field-0 c.loop-row.invariant.own
      (own_of_row c.args.table.now c.args.rows.now c.loop-row.row-index c.row-item.result c.in_ok-key.field-0 c.requires.table c.requires.fit c.loop-row-test.true c.row-item.is c.in_ok-key.ensures.ok c.in_ok-key.ensures.held));
}
