use Rattle.values.specs.Tables.{Schema}
use Rattle.histories.specs.History.{History}
use Rattle.interleaving.specs.SystemState.{Stands}
use Rattle.lines.specs.Partial.{Fits}
use Rattle.scripts.proofs.ReplayGoing.{Going}
use Rattle.scripts.proofs.replay.replay_script.Given as goal

abbrev pub invariant-loop-turn : goal.invariant-loop-turn
invariant-loop-turn g l = record {
  going : (schema : Schema) (h : History) → Stands schema l.fn.system h → Going (g.I.Read.remaining l.fn.reader) (g.I.Read.remaining l.reader) l.replay schema h;
  room : Fits l.replay.script.line;
}
