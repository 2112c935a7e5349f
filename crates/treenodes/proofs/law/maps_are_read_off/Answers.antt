use Rattle.treenodes.proofs.MapRead.{changes_is}
use Rattle.treenodes.proofs.law.maps_are_read_off.Goals as goal

pub returns : goal.returns
returns c = changes_is
