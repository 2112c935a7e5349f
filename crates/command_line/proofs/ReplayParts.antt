-- What a script leaves that is replayed, as the program's.
use Rattle.std.proofs.Common.{◌≡◌, ℕ, List, [], Option, Some, sym, subst}
use Rattle.clap.specs.Words.{Text}
use Rattle.values.specs.Tables.{Schema}
use Rattle.interleaving.specs.SystemState.{SystemState}
use Rattle.statement.specs.Line.{line_says}
use Rattle.scripts.specs.declared.replay.ReplayFault.{ReplayFault}
use Rattle.scripts.specs.declared.replay.ReplayFault.TheVariants as replay
use Rattle.scripts.specs.Replay.{IsReplayed, IsUnreplayed}
use Rattle.command_line.specs.declared.fault.Fault.{Fault}
use Rattle.command_line.specs.Fault.{of_replay}
use Rattle.command_line.specs.Replay.{IsAfter, IsNotReplayed}

pub after_file : (schema : Schema) (file : Text) (s : SystemState) (unread left : Option (List ℕ)) → IsReplayed schema line_says [] s unread left → IsAfter schema (Some file) s
after_file schema file s unread left so = record { later = so.later; replayed = (so.text, so.replays); stands = so.stands }

as_fault : (fault : ReplayFault) (schema : Schema) (unread left : Option (List ℕ)) → IsUnreplayed fault schema line_says [] unread left → IsNotReplayed (of_replay fault) schema
as_fault (replay.Refused line refusal) schema unread left at = (at.out, at.text, at.refuses)
as_fault replay.Open schema unread left so = (so.text, so.leaves)
as_fault replay.Read schema unread left so = tt
as_fault replay.Memory schema unread left so = tt

pub not_replayed : (fault : ReplayFault) (told : Fault) (schema : Schema) (unread left : Option (List ℕ)) → told ≡ of_replay fault → IsUnreplayed fault schema line_says [] unread left → IsNotReplayed told schema
not_replayed fault told schema unread left is so = subst (λ f. IsNotReplayed f schema) (sym is) (as_fault fault schema unread left so)
