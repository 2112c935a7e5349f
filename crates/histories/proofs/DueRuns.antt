-- The replies of a run are those that are due.
use Rattle.std.proofs.Common.{◌≡◌, ◌≢◌, Bool, true, false, ◌&&◌, not, List, [], ◌∷◌, ◌++◌, refl, sym, ap, subst, ◌∙◌, append_assoc, append-nil}
use Rattle.std.specs.Prelude.{if◌then◌else◌}
use Rattle.std.specs.List.{list_all}
use Rattle.values.specs.Tables.{Schema}
use Rattle.values.specs.declared.refusal.Refusal.{Refusal}
use Rattle.values.specs.declared.refusal.Refusal.TheVariants.{Memory, Syntax, NoTable, BadRow, NoTransaction, InTransaction, DuplicateKey, Conflict, ClockEnd, TooManyWrites, NoSession, LineTooLong, JournalFull, Overlap, BadPeriod, TransactionsOpen}
use Rattle.steps.specs.declared.step.Step.{Step}
use Rattle.steps.specs.declared.step.Reply.{Reply}
use Rattle.steps.specs.declared.step.Reply.TheVariants.{Begun, Inserted, Updated, Deleted, Shown, Committed, RolledBack, Altered, Done, Refused}
use Rattle.histories.specs.History.{History, reply, replies}
use Rattle.histories.specs.World.{World}
use Rattle.histories.specs.Stands.{Stands}
use Rattle.steps.specs.Reply.{is_out_of_memory}
use Rattle.histories.specs.Memory.{takes_no_memory_after}
use Rattle.histories.specs.WorldMemory.{takes_no_memory}
use Rattle.histories.specs.Due.{AllAnswered, due, is_out_where_taken, OutWhereTaken}
use Rattle.histories.proofs.Memory.{memory_is_taken_alike}

-- a run so far: what the system stands for, what is due of the rest, and that memory ran out where it was taken
pub record Ran (schema : Schema) (steps : List Step) (w : World) (done : List Reply) (rest : List Step) : Type 0 where
  pub history : History
  pub stands : Stands schema w history
  pub to_come : (given : List Reply) → due schema [] steps (done ++ given) ≡ done ++ due schema history rest given
  pub taken : (given : List Reply) → is_out_where_taken schema [] steps (done ++ given) ≡ is_out_where_taken schema history rest given

pub ran_none : (schema : Schema) (steps rest : List Step) (w : World) (done : List Reply) → Stands schema w [] → done ≡ [] → rest ≡ steps → Ran schema steps w done rest
ran_none schema steps rest w done stands none all =
    subst (λ d. Ran schema steps w d rest) (sym none) (subst (λ r. Ran schema steps w [] r) (sym all) (record { history = []; stands = stands; to_come = λ given. refl; taken = λ given. refl }))

pub is_memory_so : (refusal : Refusal) → is_out_of_memory (Refused refusal) ≡ true → refusal ≡ Memory
is_memory_so Memory e = refl
is_memory_so (Syntax n) e = cc
is_memory_so NoTable e = cc
is_memory_so (BadRow n) e = cc
is_memory_so NoTransaction e = cc
is_memory_so InTransaction e = cc
is_memory_so (DuplicateKey k) e = cc
is_memory_so (Conflict k i) e = cc
is_memory_so ClockEnd e = cc
is_memory_so TooManyWrites e = cc
is_memory_so NoSession e = cc
is_memory_so LineTooLong e = cc
is_memory_so JournalFull e = cc
is_memory_so (Overlap k) e = cc
is_memory_so BadPeriod e = cc
is_memory_so TransactionsOpen e = cc

pub is_out_so : (r : Reply) → is_out_of_memory r ≡ true → r ≡ Refused Memory
is_out_so (Refused refusal) e = ap Refused (is_memory_so refusal e)
is_out_so (Begun i) e = cc
is_out_so (Inserted n) e = cc
is_out_so (Updated n) e = cc
is_out_so (Deleted n) e = cc
is_out_so (Shown l) e = cc
is_out_so (Committed i) e = cc
is_out_so RolledBack e = cc
is_out_so Altered e = cc
is_out_so Done e = cc

other : (r : Reply) → is_out_of_memory r ≡ false → r ≢ Refused Memory
other r e is = cc (sym e ∙ ap is_out_of_memory is)

takes_some : (w : World) (schema : Schema) (h : History) (step : Step) (r : Reply) → Stands schema w h → (takes_no_memory w step ≡ true → is_out_of_memory r ≡ false) → is_out_of_memory r ≡ true
    → not (takes_no_memory_after schema h step) ≡ true
takes_some w schema h step r stands answers out = by (takes_no_memory w step) refl
  where
    alike : takes_no_memory w step ≡ takes_no_memory_after schema h step
    alike = memory_is_taken_alike schema w h step stands

    by : (b : Bool) → takes_no_memory w step ≡ b → not (takes_no_memory_after schema h step) ≡ true
    by true takes = cc (sym (answers takes) ∙ out)
    by false takes = ap not (sym alike ∙ takes)

-- what a step promised: an answer and what it left, nothing where memory ran out, and no such answer where it takes none
pub record Promised (w now : World) (step : Step) (r : Reply) : Type 0 where
  pub answers : (first : Schema) (h : History) → Stands first w h → r ≢ Refused Memory → (r ≡ reply first h step) × Stands first now (step ∷ h)
  pub out : (first : Schema) (h : History) → Stands first w h → r ≡ Refused Memory → Stands first now h
  pub taken : takes_no_memory w step ≡ true → is_out_of_memory r ≡ false

abbrev due_by : Schema → History → Step → List Step → Reply → List Reply → List Reply → Bool → List Reply
due_by schema h step rest r done given b = done ++ (if b then r ∷ due schema h rest given else reply schema h step ∷ due schema (step ∷ h) rest given)

abbrev taken_by : Schema → History → Step → List Step → List Reply → Bool → Bool
taken_by schema h step rest given b = if b then not (takes_no_memory_after schema h step) && is_out_where_taken schema h rest given else is_out_where_taken schema (step ∷ h) rest given

ran_step : (schema : Schema) (steps : List Step) (w now : World) (done : List Reply) (step : Step) (rest : List Step) (r : Reply) → Ran schema steps w done (step ∷ rest)
    → Promised w now step r → Ran schema steps now (done ++ r ∷ []) rest
ran_step schema steps w now done step rest r ran promised = by (is_out_of_memory r) refl
  where
    moved : (given : List Reply) → due schema [] steps ((done ++ r ∷ []) ++ given) ≡ done ++ due schema ran.history (step ∷ rest) (r ∷ given)
    moved given = ap (due schema [] steps) (append_assoc done (r ∷ []) given) ∙ ran.to_come (r ∷ given)

    taken_so : (given : List Reply) → is_out_where_taken schema [] steps ((done ++ r ∷ []) ++ given) ≡ is_out_where_taken schema ran.history (step ∷ rest) (r ∷ given)
    taken_so given = ap (is_out_where_taken schema [] steps) (append_assoc done (r ∷ []) given) ∙ ran.taken (r ∷ given)

    by : (b : Bool) → is_out_of_memory r ≡ b → Ran schema steps now (done ++ r ∷ []) rest
    by true e = record {
      history = ran.history;
      stands = promised.out schema ran.history ran.stands (is_out_so r e);
      to_come = λ given. moved given ∙ ap (due_by schema ran.history step rest r done given) e ∙ sym (append_assoc done (r ∷ []) (due schema ran.history rest given));
      taken = λ given. taken_so given ∙ ap (taken_by schema ran.history step rest given) e ∙ ap (λ b. b && is_out_where_taken schema ran.history rest given) (takes_some w schema ran.history step r ran.stands promised.taken e);
    }
    by false e =
        let did = promised.answers schema ran.history ran.stands (other r e) in
        record {
          history = step ∷ ran.history;
          stands = did.1;
          to_come = λ given. moved given
              ∙ ap (due_by schema ran.history step rest r done given) e
              ∙ ap (λ x. done ++ x ∷ due schema (step ∷ ran.history) rest given) (sym did.0)
              ∙ sym (append_assoc done (r ∷ []) (due schema (step ∷ ran.history) rest given));
          taken = λ given. taken_so given ∙ ap (taken_by schema ran.history step rest given) e;
        }

-- one more step
pub ran_more : (schema : Schema) (steps : List Step) (w now : World) (done more : List Reply) (step : Step) (all rest : List Step) (r : Reply) → all ≡ step ∷ rest → more ≡ done ++ r ∷ [] → Ran schema steps w done all
    → Promised w now step r → Ran schema steps now more rest
ran_more schema steps w now done more step all rest r is is_more ran promised =
    subst (λ d. Ran schema steps now d rest) (sym is_more) (ran_step schema steps w now done step rest r (subst (λ l. Ran schema steps w done l) is ran) promised)

-- at the end
pub ran_all : (schema : Schema) (steps : List Step) (w : World) (done : List Reply) (rest : List Step) → rest ≡ [] → Ran schema steps w done rest → done ≡ due schema [] steps done
ran_all schema steps w done rest none ran =
    sym (ap (due schema [] steps) (sym (append-nil done)) ∙ ran.to_come [] ∙ ap (λ l. done ++ due schema ran.history l []) none ∙ append-nil done)

both_so : (a b : Bool) → (not a && b) ≡ true → (a ≡ false) × (b ≡ true)
both_so true b e = cc
both_so false b e = (refl, e)

pub due_all : (schema : Schema) (h : History) (steps : List Step) (given : List Reply) → AllAnswered given → due schema h steps given ≡ replies schema h steps
due_all schema h [] given all = refl
due_all schema h (step ∷ steps) [] all = refl
due_all schema h (step ∷ steps) (r ∷ given) all =
    let parts = both_so (is_out_of_memory r) (list_all (λ r. not (is_out_of_memory r)) given) all in
    ap (λ b. if b then r ∷ due schema h steps given else reply schema h step ∷ due schema (step ∷ h) steps given) parts.0 ∙ ap (λ l. reply schema h step ∷ l) (due_all schema (step ∷ h) steps given parts.1)

pub ran_answered : (schema : Schema) (steps : List Step) (w : World) (done : List Reply) (rest : List Step) → rest ≡ [] → Ran schema steps w done rest → AllAnswered done → done ≡ replies schema [] steps
ran_answered schema steps w done rest none ran all = ran_all schema steps w done rest none ran ∙ due_all schema [] steps done all

pub ran_taken : (schema : Schema) (steps : List Step) (w : World) (done : List Reply) (rest : List Step) → rest ≡ [] → Ran schema steps w done rest → OutWhereTaken schema steps done
ran_taken schema steps w done rest none ran =
    ap (is_out_where_taken schema [] steps) (sym (append-nil done)) ∙ ran.taken [] ∙ ap (λ l. is_out_where_taken schema ran.history l []) none
