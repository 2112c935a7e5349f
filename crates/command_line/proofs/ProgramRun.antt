-- What a run of a script leaves, as the program's.
use Rattle.std.proofs.Common.{◌≡◌, ℕ, List, Option, Some, None, refl, sym, subst}
use Rattle.std.specs.Prelude.{Result, Ok, Err, IfOk}
use Rattle.std.specs.Io.KnownBytes.{Keeps}
use Rattle.clap.specs.Words.{Text}
use Rattle.values.specs.Tables.{Schema}
use Rattle.histories.specs.History.{History}
use Rattle.interleaving.specs.SystemState.{SystemState, Stands}
use Rattle.statement.specs.Line.{line_says}
use Rattle.scripts.specs.declared.script.RunFault.{RunFault}
use Rattle.scripts.specs.Transcript.{IsRunAfter}
use Rattle.command_line.specs.declared.fault.Fault.{Fault}
use Rattle.command_line.specs.Fault.{outcome_of}
use Rattle.command_line.specs.Program.{ComesFrom, HasRun}

-- what holds at the end of a run holds of its outcome's
at_end : {S : Type 0} (ran : Result S RunFault) (r : Result S Fault) (P : S → Type 0) → r ≡ outcome_of ran → IfOk ran P → IfOk r P
at_end (Ok s) r P is f = subst (λ r. IfOk r P) (sym is) f
at_end (Err e) r P is f = subst (λ r. IfOk r P) (sym is) tt

has_run : (ran : Result SystemState RunFault) (r : Result SystemState Fault) (file : Option Text) (system : SystemState) (from to unread left old new : Option (List ℕ)) → ComesFrom file unread left from to → r ≡ outcome_of ran
    → IfOk ran (λ s. (first : Schema) (h : History) → Stands first system h → IsRunAfter first line_says h s from to old new)
    → IfOk r (λ s. (first : Schema) (h : History) → Stands first system h → HasRun file first h s unread left old new)
has_run ran r file system from to unread left old new comes is f = at_end ran r (λ s. (first : Schema) (h : History) → Stands first system h → HasRun file first h s unread left old new) is (by ran f)
  where
    by : (x : Result SystemState RunFault) → IfOk x (λ s. (first : Schema) (h : History) → Stands first system h → IsRunAfter first line_says h s from to old new)
        → IfOk x (λ s. (first : Schema) (h : History) → Stands first system h → HasRun file first h s unread left old new)
    by (Ok s) g = λ first h at. record { from = from; to = to; source = comes; run = g first h at; end = _; end_is = refl }
    by (Err e) g = tt

-- a file is read, and standard input is not
pub has_run_file : (ran : Result SystemState RunFault) (r : Result SystemState Fault) (file : Option Text) (path : Text) (system : SystemState) (from to unread left old new : Option (List ℕ)) → file ≡ Some path → Keeps unread left → r ≡ outcome_of ran
    → IfOk ran (λ s. (first : Schema) (h : History) → Stands first system h → IsRunAfter first line_says h s from to old new)
    → IfOk r (λ s. (first : Schema) (h : History) → Stands first system h → HasRun file first h s unread left old new)
has_run_file ran r file path system from to unread left old new some kept is f =
    has_run ran r file system from to unread left old new (subst (λ x. ComesFrom x unread left from to) (sym some) kept) is f

pub has_run_input : (ran : Result SystemState RunFault) (r : Result SystemState Fault) (file : Option Text) (system : SystemState) (unread left old new : Option (List ℕ)) → file ≡ None → r ≡ outcome_of ran
    → IfOk ran (λ s. (first : Schema) (h : History) → Stands first system h → IsRunAfter first line_says h s unread left old new)
    → IfOk r (λ s. (first : Schema) (h : History) → Stands first system h → HasRun file first h s unread left old new)
has_run_input ran r file system unread left old new none is f =
    has_run ran r file system unread left unread left old new (subst (λ x. ComesFrom x unread left unread left) (sym none) (refl, refl)) is f
