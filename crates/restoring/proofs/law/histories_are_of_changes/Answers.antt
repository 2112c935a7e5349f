use Rattle.restoring.proofs.OfHistoriesNets as nets
use Rattle.restoring.proofs.OfHistoriesOver as over
use Rattle.restoring.proofs.RoomNets as room
use Rattle.restoring.proofs.law.histories_are_of_changes.Goals as goal

pub returns-clause-nets : goal.returns-clause-nets
returns-clause-nets c = nets.logs_have_nets

pub returns-clause-changes : goal.returns-clause-changes
returns-clause-changes c = nets.histories_are_of_changes

pub returns-clause-over : goal.returns-clause-over
returns-clause-over c = over.logs_are_over

pub returns-clause-room : goal.returns-clause-room
returns-clause-room c = room.few_nets_have_room
