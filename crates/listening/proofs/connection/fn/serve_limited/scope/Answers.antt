use denote.Param.Send.{IsSend, IsSync, sendable}
use Rattle.std.proofs.Common.{rules}
use Rattle.std.proofs.Crossing.{crosses}
use Rattle.sessions.proofs.StoreCrossing.{store_sync}
use Rattle.listening.proofs.PileCrossing.{pile_send}
use Rattle.listening.proofs.connection.fn.serve_limited.scope.Goals as goal

pub spawn-requires-send-F : goal.spawn-requires-send-F
spawn-requires-send-F g c κs = λ within.
    let named : IsSend g.row.J = search (rules, c.requires) parts 8 in
    let handle : IsSync g.row.R = search (rules, c.requires) parts 8 in
    let gate : IsSync g.row.G = search (rules, c.requires) parts 8 in
    search (store_sync, pile_send, sendable, crosses) depth 60 fits 20000
