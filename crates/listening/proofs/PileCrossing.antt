-- A pile may be handed to threads.
use denote.RattleType.{RattleType}
use denote.Param.Send.{IsSend, sendable}
use Rattle.std.proofs.Crossing.{crosses}
use Rattle.growlog.specs.declared.log.StoreName.{Ghosts}
use Rattle.sessions.proofs.StoreCrossing.{receipt_send}
use Rattle.listening.specs.contracts.pile.Pile as Pile

module _ (K : RattleType) (g : Ghosts K.Denot) (named : IsSend K) where
  pub pile_send : IsSend (Pile.the_row K g)
  pile_send = search (receipt_send, sendable, crosses) depth 60 fits 20000
