use Rattle.std.proofs.Common.{ℕ, arith, None, replicate, ap, ◌∙◌}
use Rattle.interleaving.proofs.SystemKeeps.{new_system, new_stands}
use Rattle.interleaving.proofs.system.System.new.Goals as goal

pub invariant_of-result : goal.invariant_of-result
invariant_of-result c = new_system c.args.schema c.in_ok-engine.engine c.loop.sessions.items c.in_ok-engine.ensures.ok (c.loop.invariant ∙ ap (λ (n : ℕ). replicate n None) {x = c.loop.counter} {y = 65} (let most = c.loop.auto.counter-end in let all = c.loop-test.false in omega arith))

pub returns-clause-empty : goal.returns-clause-empty
returns-clause-empty c = new_stands c.args.schema c.in_ok-engine.engine c.loop.sessions.items c.in_ok-engine.ensures.ok (c.loop.invariant ∙ ap (λ (n : ℕ). replicate n None) {x = c.loop.counter} {y = 65} (let most = c.loop.auto.counter-end in let all = c.loop-test.false in omega arith))
