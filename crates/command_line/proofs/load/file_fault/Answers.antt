use Rattle.std.proofs.Common.{inl, refl}
use Rattle.command_line.proofs.load.file_fault.Goals as goal

pub returns-in-OutOfMemory : goal.returns-in-OutOfMemory
returns-in-OutOfMemory c = λ table. inl refl
