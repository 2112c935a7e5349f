use denote.Param.Send.{IsSend, IsSync, sendable}
use Rattle.std.proofs.Common.{rules}
use Rattle.std.proofs.Crossing.{crosses}
use Rattle.sessions.proofs.StoreCrossing.{receipt_send, receipt_field_send, store_sync}
use Rattle.sessions_tests.proofs.few_tests.fn.run_two.scope.Goals as goal

pub spawn-handle-requires-send-F : goal.spawn-handle-requires-send-F
spawn-handle-requires-send-F g c κs = λ within.
    let named : IsSend g.row.J = search (rules, c.requires) parts 8 in
    let handle : IsSync g.row.R = search (rules, c.requires) parts 8 in
    search (store_sync, receipt_send, receipt_field_send, sendable, crosses) depth 60 fits 20000
