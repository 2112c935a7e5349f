-- What the program's parts leave, one after another.
use Rattle.std.proofs.Common.{◌≡◌, ℕ, List, Option, Some, None, true, false, refl, sym, subst, inl, inr}
use Rattle.std.specs.Prelude.{Result, Ok, Err, IfErr, IfOk}
use Rattle.std.proofs.KnownBytes.{Keeps-refl}
use Rattle.clap.specs.Words.{Text}
use Rattle.values.specs.Tables.{Schema}
use Rattle.steps.specs.Idle.{is_idle}
use Rattle.histories.specs.History.{History, has_open}
use Rattle.interleaving.specs.SystemState.{SystemState, Stands}
use Rattle.command_line.specs.declared.dumped.Left.{Left}
use Rattle.command_line.specs.declared.options.Options.{Options}
use Rattle.command_line.specs.declared.options.WordsFault.{WordsFault}
use Rattle.command_line.specs.declared.fault.Fault.{Fault}
use Rattle.command_line.specs.declared.fault.Fault.TheVariants.{Words, SchemaSyntax, BadTable, SchemaMemory, NoExport, After, AfterOpen, Load, Read, Write, Socket, NotClosed, Memory}
use Rattle.command_line.specs.Fault.{is_of_words}
use Rattle.command_line.specs.Options.{AskedMode, Gives, Refuses, asked_of}
use Rattle.command_line.specs.Dumped.{HasLeft, IsLeftBy}
use Rattle.command_line.specs.Export.{HasExported, Unexported}
use Rattle.command_line.specs.Load.{IsLed, Unloaded}
use Rattle.command_line.specs.Replay.{HasReplayed, IsAfter, IsNotAfter}
use Rattle.command_line.specs.Program.{HaltsAfter, HaltsAt, HaltsMode, HaltsOn, HasRun, HasRunAll, HasRunLoaded, HasRunMode, HasRunOn, IsFaulty, IsRefused, IsStuck, IsUnanswered}
use Rattle.command_line.proofs.FaultKinds.{of_words}

-- ---- the script, then the export

module _ (script : Option Text) (number : Option ℕ) (system s : SystemState) (unread left old mid new : Option (List ℕ)) (ran : (first : Schema) (h : History) → Stands first system h → HasRun script first h s unread left old mid) where
  pub ran_on : (leaves : Left) → ((first : Schema) (h : History) → Stands first s h → IsLeftBy first h leaves)
      → ((first : Schema) (h : History) → Stands first s h → HasExported first number h mid new)
      → (first : Schema) (h : History) → Stands first system h → HasLeft first leaves (λ end. HasRunOn script number first h end unread left old new)
  ran_on leaves left_by exported first h at =
      let x = ran first h at in
      let stands = subst (Stands first s) (sym x.end_is) x.run.stands in
      record {
        end = x.end;
        came_to = record {
          s = s;
          between = mid;
          ran = x;
          end_is = refl;
          exported = exported first x.end stands;
        };
        left_by = left_by first x.end stands;
      }

  pub halts_late : (fault : Fault) → ((first : Schema) (h : History) → Stands first s h → Unexported fault first number h mid new)
      → (first : Schema) (h : History) → Stands first system h → HaltsOn fault script number first h unread left old new
  halts_late fault unexported first h at =
      let x = ran first h at in
      inr (record {
        s = s;
        between = mid;
        ran = x;
        unexported = unexported first x.end (subst (Stands first s) (sym x.end_is) x.run.stands);
      })

-- ---- the load before them

pub ran_loaded : (r : Result Left Fault) (load script : Option Text) (number : Option ℕ) (system s : SystemState) (unread left old mid new : Option (List ℕ))
    → ((first : Schema) (before : History) → Stands first system before → IsLed first load before s old mid)
    → IfOk r (λ leaves. (first : Schema) (h : History) → Stands first s h → HasLeft first leaves (λ end. HasRunOn script number first h end unread left mid new))
    → IfOk r (λ leaves. (first : Schema) (before : History) → Stands first system before → HasLeft first leaves (λ end. HasRunLoaded load script number first before end unread left old new))
ran_loaded (Err e) load script number system s unread left old mid new led ran = tt
ran_loaded (Ok u) load script number system s unread left old mid new led ran = λ first before at.
    let x = led first before at in
    let y = ran first x.later x.stands in
    record {
      end = y.end;
      came_to = record { later = x.later; between = mid; loaded = x.loaded; rest = y.came_to };
      left_by = y.left_by;
    }

pub halts_loaded : {A : Type 0} (r : Result A Fault) (load script : Option Text) (number : Option ℕ) (system s : SystemState) (unread left old mid new : Option (List ℕ))
    → ((first : Schema) (before : History) → Stands first system before → IsLed first load before s old mid)
    → IfErr r (λ fault. (first : Schema) (h : History) → Stands first s h → HaltsOn fault script number first h unread left mid new)
    → IfErr r (λ fault. (first : Schema) (before : History) → Stands first system before → HaltsAfter fault load script number first before unread left old new)
halts_loaded (Ok u) load script number system s unread left old mid new led halts = tt
halts_loaded (Err fault) load script number system s unread left old mid new led halts = λ first before at.
    let x = led first before at in
    inr (record { later = x.later; between = mid; loaded = x.loaded; rest = halts first x.later x.stands })

pub halts_early : (fault : Fault) (load script : Option Text) (number : Option ℕ) (system : SystemState) (unread old new : Option (List ℕ))
    → ((first : Schema) (before : History) → Stands first system before → Unloaded fault first load before old new)
    → (first : Schema) (before : History) → Stands first system before → HaltsAfter fault load script number first before unread unread old new
halts_early fault load script number system unread old new unloaded first before at =
    inl (record { read = Keeps-refl unread; unloaded = unloaded first before at })

-- ---- the replay before all else

idle_after : (schema : Schema) (after : Option Text) (before : History) → HasReplayed schema after before → is_idle (has_open before) ≡ true
idle_after schema None before none = subst (λ h. is_idle (has_open h) ≡ true) (sym none) refl
idle_after schema (Some file) before so = so.1.idle

pub ran_all : (r : Result Left Fault) (mode : AskedMode) (after load : Option Text) (number : Option ℕ) (schema : Schema) (s : SystemState) (unread left old new : Option (List ℕ))
    → IsAfter schema after s
    → IfOk r (λ leaves. (first : Schema) (before : History) → Stands first s before → is_idle (has_open before) ≡ true
    → HasLeft first leaves (λ end. HasRunMode mode load number first before end unread left old new))
    → IfOk r (λ leaves. HasLeft schema leaves (λ end. HasRunAll mode after load number schema end unread left old new))
ran_all (Err e) mode after load number schema s unread left old new so ran = tt
ran_all (Ok u) mode after load number schema s unread left old new so ran =
    let x = ran schema so.later so.stands (idle_after schema after so.later so.replayed) in
    record {
      end = x.end;
      came_to = record { before = so.later; replayed = so.replayed; rest = x.came_to };
      left_by = x.left_by;
    }

pub halts_all : {A : Type 0} (r : Result A Fault) (mode : AskedMode) (after load : Option Text) (number : Option ℕ) (schema : Schema) (s : SystemState) (unread left old new : Option (List ℕ))
    → IsAfter schema after s
    → IfErr r (λ fault. (first : Schema) (before : History) → Stands first s before → is_idle (has_open before) ≡ true → HaltsMode fault mode load number first before unread left old new)
    → IfErr r (λ fault. HaltsAt fault mode after load number schema unread left old new)
halts_all (Ok u) mode after load number schema s unread left old new so halts = tt
halts_all (Err fault) mode after load number schema s unread left old new so halts =
    inr (record { before = so.later; replayed = so.replayed; rest = halts schema so.later so.stands (idle_after schema after so.later so.replayed) })

pub halts_first : (fault : Fault) (mode : AskedMode) (after load : Option Text) (number : Option ℕ) (schema : Schema) (unread old : Option (List ℕ)) → IsNotAfter fault schema after
    → HaltsAt fault mode after load number schema unread unread old old
halts_first fault mode after load number schema unread old none =
    inl (none, record { read = Keeps-refl unread; wrote = Keeps-refl old })

-- ---- the words, where they are taken

pub taken_faulty : (r : Result (Unit {0}) Fault) (words : List Text) (options : Options) (unread left old new : Option (List ℕ)) → Gives words options → IfErr r (λ fault. IsStuck fault (asked_of options) unread left old new)
    → IfErr r (λ fault. is_of_words fault ≡ false → IsFaulty words unread left old new)
taken_faulty (Ok u) words options unread left old new gives stuck = tt
taken_faulty (Err fault) words options unread left old new gives stuck = λ _. inr (inr (record {
  asked = asked_of options;
  ask_for = gives;
  fault = fault;
  stuck = stuck;
}))

-- ---- and where they are not

pub refused_words : (r : Result (Unit {0}) Fault) (words : List Text) (fault : WordsFault) (unread old new : Option (List ℕ)) → Refuses words fault
    → IfErr r (λ stop. (words : List Text) → Refuses words fault → IsUnanswered stop words old new)
    → IfErr r (λ stop. is_of_words stop ≡ true → IsRefused words unread unread old new)
refused_words (Ok u) words fault unread old new refuses stops = tt
refused_words (Err stop) words fault unread old new refuses stops = λ e.
    let (f, is) = of_words stop e in
    let x = subst (λ s. IsUnanswered s words old new) is (stops words refuses) in
    record { refused = x.0; idle = record { read = Keeps-refl unread; wrote = x.1 } }

unanswered : (stop : Fault) (words : List Text) (unread old new : Option (List ℕ)) → is_of_words stop ≡ false → IsUnanswered stop words old new → IsFaulty words unread unread old new
unanswered (Words f) words unread old new e x = cc e
unanswered (SchemaSyntax n) words unread old new e x = absurd x
unanswered (BadTable n) words unread old new e x = absurd x
unanswered SchemaMemory words unread old new e x = absurd x
unanswered NoExport words unread old new e x = absurd x
unanswered (After n refusal) words unread old new e x = absurd x
unanswered AfterOpen words unread old new e x = absurd x
unanswered (Load refusal) words unread old new e x = absurd x
unanswered Read words unread old new e x = absurd x
unanswered Socket words unread old new e x = absurd x
unanswered NotClosed words unread old new e x = absurd x
unanswered Write words unread old new e x = inr (inl (Keeps-refl unread, x))
unanswered Memory words unread old new e x = inl (record { read = Keeps-refl unread; wrote = x })

pub refused_faulty : (r : Result (Unit {0}) Fault) (words : List Text) (fault : WordsFault) (unread old new : Option (List ℕ)) → Refuses words fault
    → IfErr r (λ stop. (words : List Text) → Refuses words fault → IsUnanswered stop words old new)
    → IfErr r (λ stop. is_of_words stop ≡ false → IsFaulty words unread unread old new)
refused_faulty (Ok u) words fault unread old new refuses stops = tt
refused_faulty (Err stop) words fault unread old new refuses stops = λ e. unanswered stop words unread old new e (stops words refuses)
