use Rattle.std.proofs.Common.{ap}
use Rattle.interleaving.specs.SystemState.{world}
use Rattle.interleaving.proofs.SystemKeeps.{rolled, place_is}
use Rattle.interleaving.proofs.system.System.rollback.Goals as goal

pub returns-clause-answered : goal.returns-clause-answered
returns-clause-answered c =
    rolled c.self.inside.schema c.self.inside.engine c.self.inside.sessions.items (world c.args.self.now) c.args.session (ap world c.self.view_is) c.index.result.now
    (place_is c.self.inside.schema c.self.inside.engine c.self.inside.sessions.items c.args.session c.index.result.now c.self.invariant c.requires c.index.ensures) c.if-is_none.ensures
