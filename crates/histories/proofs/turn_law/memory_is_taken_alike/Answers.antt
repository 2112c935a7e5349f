use Rattle.histories.proofs.Memory as memory
use Rattle.histories.proofs.turn_law.memory_is_taken_alike.Goals as goal

pub returns : goal.returns
returns c = memory.memory_is_taken_alike
