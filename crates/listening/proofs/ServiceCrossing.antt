-- What connections share may be shared by threads, and the desk at which they are taken may be handed to one.
use denote.RattleType.{RattleType}
use denote.Ref.{NamedLft}
use denote.Param.Send.{IsSend, IsSync, sendable}
use Rattle.std.proofs.Crossing.{crosses}
use Rattle.growlog.specs.declared.log.StoreName.{Ghosts}
use Rattle.sessions.proofs.StoreCrossing.{store_sync}
use Rattle.listening.specs.contracts.desk.Desk as Desk
use Rattle.listening.specs.contracts.service.Service as Service
use Rattle.listening.proofs.PileCrossing.{pile_send}

pub desk_send : IsSend Desk.the_row
desk_send = search (sendable, crosses) depth 60 fits 20000

module _ (a : NamedLft) (K R G : RattleType) (g : Ghosts K.Denot) (named : IsSend K) (handle : IsSync R) (gate : IsSync G) where
  pub service_sync : IsSync (Service.the_row a K R G g)
  service_sync = search (store_sync, pile_send, sendable, crosses) depth 60 fits 20000
