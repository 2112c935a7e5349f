use denote.Param.Send.{IsSync, sendable}
use Rattle.std.proofs.Common.{rules}
use Rattle.std.proofs.Crossing.{crosses}
use Rattle.sessions.proofs.StoreCrossing.{session_send}
use Rattle.sessions_tests.proofs.thread_tests.fn.count_in_threads.scope.Goals as goal

-- the session is moved
pub spawn-reader-requires-send-F : goal.spawn-reader-requires-send-F
spawn-reader-requires-send-F g c κs = λ within.
    let handle : IsSync g.row.R = search (rules, c.requires) parts 8 in
    search (session_send, sendable, crosses) depth 60 fits 20000
