use Rattle.std.proofs.Common.{arith}
use Rattle.std.proofs.lemmas.Grind.{common_steps}
use Rattle.std.proofs.lemmas.List.Elements.{All-rest}
use Rattle.values.specs.KeyEncoding.{IsShortKey}
use Rattle.staging.proofs.staged.net_of.Goals as goal

pub loop-key-preserved-in_ok-push : goal.loop-key-preserved-in_ok-push
loop-key-preserved-in_ok-push c = record {
  to_come = grind (arith, common_steps);
  short = All-rest (λ w. IsShortKey w.0) (c.in-Some.key.now, c.in-Some.row.now) c.next.new.self c.loop-key.key-iterator c.in-Some.ensures.steps c.loop-key.invariant.short;
}

pub loop-key-preserved : goal.loop-key-preserved
loop-key-preserved c = record {
  to_come = grind (arith, common_steps);
  short = All-rest (λ w. IsShortKey w.0) (c.in-Some.key.now, c.in-Some.row.now) c.next.new.self c.loop-key.key-iterator c.in-Some.ensures.steps c.loop-key.invariant.short;
}
