use denote.Param.Send.{IsSend, IsSync, param_send, sendable}
use Rattle.std.proofs.Common.{rules}
use Rattle.std.proofs.Crossing.{crosses}
use Rattle.sessions.proofs.StoreCrossing.{store_sync}
use Rattle.listening.proofs.PileCrossing.{pile_send}
use Rattle.listening.proofs.ServiceCrossing.{desk_send, service_sync}
use Rattle.listening.proofs.connection.fn.serve_to_end.scope.Goals as goal

pub spawn-requires-send-F : goal.spawn-requires-send-F
spawn-requires-send-F g c κs = λ within.
    let named : IsSend g.row.J = search (rules, c.requires) parts 8 in
    let handle : IsSync g.row.R = search (rules, c.requires) parts 8 in
    let gate : IsSync g.row.G = search (rules, c.requires) parts 8 in
    search (store_sync, pile_send, sendable, crosses) depth 60 fits 20000

pub spawn-accepting-requires-send-F : goal.spawn-accepting-requires-send-F
spawn-accepting-requires-send-F g c κs = λ within.
    let named : IsSend g.row.J = search (rules, c.requires) parts 8 in
    let handle : IsSync g.row.R = search (rules, c.requires) parts 8 in
    let gate : IsSync g.row.G = search (rules, c.requires) parts 8 in
    search (desk_send, service_sync, sendable, crosses) depth 60 fits 20000

pub await_end-requires-send-J : goal.await_end-requires-send-J
await_end-requires-send-J g c κs within = let named : IsSend g.row.J = search (rules, c.requires) parts 8 in param_send 0 _ named

pub stop-requires-send-J : goal.stop-requires-send-J
stop-requires-send-J g c κs within = let named : IsSend g.row.J = search (rules, c.requires) parts 8 in param_send 0 _ named

pub look_on-requires-send-J : goal.look_on-requires-send-J
look_on-requires-send-J g c κs within = let named : IsSend g.row.J = search (rules, c.requires) parts 8 in param_send 0 _ named
