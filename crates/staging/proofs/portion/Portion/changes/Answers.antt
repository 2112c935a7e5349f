use Rattle.std.proofs.Common.{rules, ◌≡◌, None, [], ◌∷◌, ◌++◌, arith}
use Rattle.std.proofs.lemmas.Grind.{common_steps}
use Rattle.std.specs.Option.{option_map}
use Rattle.staging.specs.Staged.{deletions}
use Rattle.staging.proofs.PortionStarts.{keeps_key, keeps_more}
use Rattle.staging.proofs.PortionDone.{left_more}
use Rattle.staging.proofs.portion.Portion.changes.Goals as goal

pub loop-key-preserved : goal.loop-key-preserved
loop-key-preserved c =
    let table = c.args.self.now.table.now in
    let e = c.loop-key-item.result in
    let old = c.loop-key.changes.items in
    let new = c.push.new.self.items in
    let is : c.push.new.self.items ≡ c.loop-key.changes.items ++ (c.loop-key-item.result.0, None) ∷ [] = search rules in
    record {
      are = grind (arith, common_steps);
      keys = keeps_more table c.args.taken.now c.loop-key.key-index e old new c.loop-key-test.true c.loop-key-item.is (keeps_key table e.0 None old new is) c.loop-key.invariant.keys;
    }

pub loop-key-2-preserved : goal.loop-key-2-preserved
loop-key-2-preserved c =
    let s = c.args.self.now in
    let e = c.loop-key-2-item.result in
    let old = c.loop-key-2.changes.items in
    let new = c.push_pieces.new.changes.items in
    record {
      are = left_more s.period.now s.span (option_map (λ s. s.now) s.sets) c.args.taken.now c.loop-key-2.key-index e (deletions c.args.taken.now) old new c.loop-key-2-test.true c.loop-key-2-item.is c.loop-key-2.invariant.are c.in_ok-push_pieces.ensures.ok;
      keys = keeps_more s.table.now c.args.taken.now c.loop-key-2.key-index e old new c.loop-key-2-test.true c.loop-key-2-item.is c.in_ok-push_pieces.ensures.keys c.loop-key-2.invariant.keys;
    }
