use denote.Param.Send.{sendable}
use Rattle.std.proofs.Crossing.{crosses}
use Rattle.sessions.proofs.StoreCrossing.{store_sync}
use Rattle.listening.proofs.PileCrossing.{pile_send}
use Rattle.listening.proofs.accepting.serve_one.Goals as goal

pub spawn-served-requires-send-F : goal.spawn-served-requires-send-F
spawn-served-requires-send-F g c κs = λ within.
    let named = c.type_bounds.send-J in
    let handle = c.type_bounds.sync-R in
    let gate = c.type_bounds.sync-G in
    search (store_sync, pile_send, sendable, crosses) depth 60 fits 20000
