use denote.RattleType.{RattleType}
use denote.Param.Send.{IsSend, IsSync, sendable}
use Rattle.std.proofs.Common.{rules}
use Rattle.std.proofs.Crossing.{crosses}
use Rattle.growlog.specs.declared.log.StoreName.{Ghosts}
use Rattle.sessions.proofs.StoreCrossing.{receipt_send, receipt_field_send, store_sync}
use Rattle.sessions_tests.specs.contracts.replay_tests.Tray as Tray
use Rattle.sessions_tests.proofs.replay_tests.fn.serve_eight.scope.Goals as goal

-- a tray may be handed to threads
module _ (K : RattleType) (g : Ghosts K.Denot) (named : IsSend K) where
  tray_send : IsSend (Tray.the_row K g)
  tray_send = search (receipt_send, receipt_field_send, sendable, crosses) depth 60 fits 20000

pub spawn-handle-requires-send-F : goal.spawn-handle-requires-send-F
spawn-handle-requires-send-F g c κs = λ within.
    let named : IsSend g.row.J = search (rules, c.requires) parts 8 in
    let handle : IsSync g.row.R = search (rules, c.requires) parts 8 in
    search (store_sync, tray_send, receipt_send, receipt_field_send, sendable, crosses) depth 60 fits 20000
