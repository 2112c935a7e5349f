-- Faults by their kinds.
use Rattle.std.proofs.Common.{◌≡◌, true, refl}
use Rattle.command_line.specs.declared.options.WordsFault.{WordsFault}
use Rattle.command_line.specs.declared.fault.Fault.{Fault}
use Rattle.command_line.specs.declared.fault.Fault.TheVariants.{Words, SchemaSyntax, BadTable, SchemaMemory, NoExport, After, AfterOpen, Load, Read, Write, Socket, NotClosed, Memory}
use Rattle.command_line.specs.Fault.{is_of_words}

pub of_words : (fault : Fault) → is_of_words fault ≡ true → (f : WordsFault) × (fault ≡ Words f)
of_words (Words f) e = (f, refl)
of_words (SchemaSyntax at) e = cc
of_words (BadTable n) e = cc
of_words SchemaMemory e = cc
of_words NoExport e = cc
of_words (After n refusal) e = cc
of_words AfterOpen e = cc
of_words (Load refusal) e = cc
of_words Read e = cc
of_words Write e = cc
of_words Socket e = cc
of_words NotClosed e = cc
of_words Memory e = cc
