use Rattle.std.proofs.Common.{◌∙◌}
use Rattle.searchrange.proofs.PrefixBytes.{shorter, found}
use Rattle.searchrange.proofs.prefix.next_prefix.Goals as goal

pub returns-then-byte : goal.returns-then-byte
returns-then-byte c =
    found c.loop-front.front.now c.in_ok-next.next.items c.push.new.self.items c.in-len1-up.len_at_least c.if-byte.true c.in_ok-next.ensures.ok c.in_ok-push.ensures.ok
    ∙ c.loop-front.invariant

pub loop-front-preserved : goal.loop-front-preserved
loop-front-preserved c = shorter c.loop-front.front.now c.in-len1-up.len_at_least c.if-byte.false ∙ c.loop-front.invariant
