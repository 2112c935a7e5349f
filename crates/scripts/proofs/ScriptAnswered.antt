-- A line of a script was answered.
use Rattle.std.proofs.Common.{◌≡◌, ◌≢◌, ℕ, List, [], ◌∷◌, Bool, true, false, Option, Some, None, sym, ap, subst, ◌∙◌, append-nil, refl}
use Rattle.std.specs.Prelude.{Result, Ok, Err, OnOk, OnErr, ◌||◌, not, if◌then◌else◌}
use Rattle.std.specs.Io.KnownBytes.{Appends, Keeps}
use Rattle.std.proofs.KnownBytes.{Appends-kept}
use Rattle.values.specs.Tables.{Schema}
use Rattle.values.specs.declared.refusal.Refusal.{Refusal}
use Rattle.values.specs.declared.refusal.Refusal.TheVariants.{Syntax, NoTable, BadRow, NoTransaction, InTransaction, DuplicateKey, Conflict, ClockEnd, TooManyWrites, Memory, NoSession, LineTooLong, JournalFull, Overlap, BadPeriod, TransactionsOpen}
use Rattle.steps.specs.declared.step.Step.{Step}
use Rattle.steps.specs.declared.step.Reply.{Reply}
use Rattle.steps.specs.declared.step.Reply.TheVariants.{Refused}
use Rattle.steps.specs.Misfit.{misfit}
use Rattle.histories.specs.History.{History, reply}
use Rattle.steps.specs.Reply.{is_out_of_memory}
use Rattle.histories.specs.Memory.{takes_no_memory_after}
use Rattle.histories.specs.WorldMemory.{takes_no_memory}
use Rattle.interleaving.specs.StepLeaves.{leaves_all}
use Rattle.interleaving.specs.SystemState.{world, Stands}
use Rattle.histories.proofs.Memory.{memory_is_taken_alike}
use Rattle.histories.proofs.TurnReplies.{not_out}
use Rattle.histories.proofs.DueRuns.{is_memory_so, is_out_so}
use Rattle.statement.specs.declared.line.Line.{Line}
use Rattle.statement.specs.declared.line.Line.TheVariants.{Step as Asks}
use Rattle.statement.specs.Line.{line_says}
use Rattle.statement.specs.Memory.{UnlessMemory}
use Rattle.statement.specs.Writer.{Prints, AppendsPrefix}
use Rattle.statement.specs.Print.{reply_text, refusal_text}
use Rattle.lines.specs.Partial.{Partial}
use Rattle.scripts.specs.Transcript.{Progress, read_at, said, answered, left_by, reading_takes, can_run_out, is_risky, line_reply, line_leaves}
use Rattle.scripts.specs.declared.script.Script.{Script}
use Rattle.scripts.specs.Script.{said_by, IsRead, IsAt, SameRun, Answered, Broken}

pub prints_ok : {E P : Type 0} (a b : Option (List ℕ)) (r : Result (Unit {0}) E) (text : List ℕ) → Prints a b r text → (Appends a b text → P) → OnOk r P
prints_ok a b (Ok done) text p f = f p
prints_ok a b (Err fault) text p f = tt

pub prints_err : {E P : Type 0} (a b : Option (List ℕ)) (r : Result (Unit {0}) E) (text : List ℕ) → Prints a b r text → (AppendsPrefix a b text → P) → OnErr r P
prints_err a b (Ok done) text p f = tt
prints_err a b (Err fault) text p f = f p

-- a refusal but for memory is the one that was due
pub other : (refusal : Refusal) → is_out_of_memory (Refused refusal) ≡ false → refusal ≢ Memory
other refusal e is = cc (sym e ∙ ap (λ (refusal : Refusal). is_out_of_memory (Refused refusal)) is)

pub unless : (r : Refusal) (due : Result Line Refusal) → r ≢ Memory → UnlessMemory (Err r) due → due ≡ Err r
unless Memory due other e = absurd (other refl)
unless (Syntax n) due other e = e
unless NoTable due other e = e
unless (BadRow n) due other e = e
unless NoTransaction due other e = e
unless InTransaction due other e = e
unless (DuplicateKey k) due other e = e
unless (Conflict k i) due other e = e
unless ClockEnd due other e = e
unless TooManyWrites due other e = e
unless NoSession due other e = e
unless LineTooLong due other e = e
unless JournalFull due other e = e
unless (Overlap k) due other e = e
unless BadPeriod due other e = e
unless TransactionsOpen due other e = e

-- what was read at a run's place
pub said_is : (s : Script) (schema : Schema) (p : Progress) → IsAt s schema p → said_by s ≡ said schema line_says p s.line
said_is s schema p at = λ i. read_at line_says (at.stands.schema_is i) (at.reading_is i) s.line

-- ---- a line at which memory ran out

out_reply : (schema : Schema) (p : Progress) (line : Partial) → is_risky schema line_says p line ≡ true → refusal_text Memory ≡ line_reply schema line_says true p line
out_reply schema p line risky = ap (λ b. if b then refusal_text Memory else answered schema p (said schema line_says p line)) (sym risky)

out_leaves : (schema : Schema) (p : Progress) (line : Partial) → is_risky schema line_says p line ≡ true → p ≡ line_leaves schema line_says true p line
out_leaves schema p line risky = ap (λ b. if b then p else left_by schema p (said schema line_says p line)) (sym risky)

out_answered : (a b : Option (List ℕ)) (s' : Script) (schema : Schema) (p : Progress) (line : Partial) → is_risky schema line_says p line ≡ true → Appends a b (refusal_text Memory) → IsAt s' schema p → Answered a b s' schema p line
out_answered a b s' schema p line risky wrote at = record {
  mark = true;
  wrote = subst (Appends a b) (out_reply schema p line risky) wrote;
  left = subst (IsAt s' schema) (out_leaves schema p line risky) at;
}

out_broken : (a b : Option (List ℕ)) (schema : Schema) (p : Progress) (line : Partial) → is_risky schema line_says p line ≡ true → AppendsPrefix a b (refusal_text Memory) → Broken a b schema p line
out_broken a b schema p line risky wrote = record { mark = true; wrote = subst (AppendsPrefix a b) (out_reply schema p line risky) wrote }

or_left : (x y : Bool) → x ≡ true → (x || y) ≡ true
or_left true y e = refl
or_left false y e = cc

or_right : (x y : Bool) → y ≡ true → (x || y) ≡ true
or_right true y e = refl
or_right false y e = e

-- memory ran out while the line was read
pub read_risky : (s : Script) (schema : Schema) (p : Progress) → IsAt s schema p → IsRead (Err Memory) s → is_risky schema line_says p s.line ≡ true
read_risky s schema p at is = or_left _ _ (is.memory refl)

-- ---- a line that was answered

pub answered_as : (a b : Option (List ℕ)) (s' : Script) (schema : Schema) (p : Progress) (line : Partial) (r : Result Line Refusal) → said schema line_says p line ≡ r
    → Appends a b (answered schema p r) → IsAt s' schema (left_by schema p r) → Answered a b s' schema p line
answered_as a b s' schema p line r e wrote left = record {
  mark = false;
  wrote = subst (λ x. Appends a b (answered schema p x)) (sym e) wrote;
  left = subst (λ x. IsAt s' schema (left_by schema p x)) (sym e) left;
}

pub broken_as : (a b : Option (List ℕ)) (schema : Schema) (p : Progress) (line : Partial) (r : Result Line Refusal) → said schema line_says p line ≡ r → AppendsPrefix a b (answered schema p r) → Broken a b schema p line
broken_as a b schema p line r e wrote = record { mark = false; wrote = subst (λ x. AppendsPrefix a b (answered schema p x)) (sym e) wrote }

-- ---- a step

-- a step that is said by a line fits the tables
pub asked_fits : (s : Script) (step : Step)
    → ((schema : Schema) (reading : ℕ) (line : List ℕ) (step : Step) → line_says schema reading line ≡ Ok (Asks step) → misfit schema step ≡ None)
    → said_by s ≡ Ok (Asks step) → misfit s.system.schema step ≡ None
asked_fits s step fits e = by s.line e
  where
    by : (line : Partial) → read_at line_says s.system.schema s.reading line ≡ Ok (Asks step) → misfit s.system.schema step ≡ None
    by None e = cc e
    by (Some bytes) e = fits s.system.schema s.reading bytes step e

-- what a step answered and left
pub record Stepped (s s' : Script) (step : Step) (r : Reply) : Type 0 where
  pub answers : (schema : Schema) (h : History) → Stands schema s.system h → r ≢ Refused Memory → (r ≡ reply schema h step) × Stands schema s'.system (step ∷ h)
  pub refused : leaves_all r ≡ true → s'.system ≡ s.system
  pub no_memory : takes_no_memory (world s.system) step ≡ true → is_out_of_memory r ≡ false
  pub reading_stays : s'.reading ≡ s.reading

-- the step takes memory where it ran out
pub step_risky : (s s' : Script) (schema : Schema) (p : Progress) (step : Step) (r : Reply) → Stepped s s' step r → IsAt s schema p → said_by s ≡ Ok (Asks step) → is_out_of_memory r ≡ true → is_risky schema line_says p s.line ≡ true
step_risky s s' schema p step r so at e out =
    ap (can_run_out schema p s.line) (sym (said_is s schema p at) ∙ e) ∙ or_right (reading_takes s.line) _ (ap not (sym alike ∙ taken (takes_no_memory (world s.system) step) refl))
  where
    alike : takes_no_memory (world s.system) step ≡ takes_no_memory_after schema p.history step
    alike = memory_is_taken_alike schema (world s.system) p.history step at.stands

    taken : (b : Bool) → takes_no_memory (world s.system) step ≡ b → b ≡ false
    taken true is = cc (sym (so.no_memory is) ∙ out)
    taken false is = refl

pub step_answered : (a b : Option (List ℕ)) (s s' : Script) (schema : Schema) (p : Progress) (step : Step) (r : Reply) → Stepped s s' step r → IsAt s schema p → said_by s ≡ Ok (Asks step)
    → Appends a b (reply_text r) → Answered a b s' schema p s.line
step_answered a b s s' schema p step r so at e wrote = by (is_out_of_memory r) refl
  where
    by : (out : Bool) → is_out_of_memory r ≡ out → Answered a b s' schema p s.line
    by true is =
        let out = is_out_so r is in
        out_answered a b s' schema p s.line (step_risky s s' schema p step r so at e is) (subst (λ r. Appends a b (reply_text r)) out wrote)
        (record { stands = subst (λ x. Stands schema x p.history) (sym (so.refused (ap leaves_all out))) at.stands; reading_is = so.reading_stays ∙ at.reading_is })
    by false is =
        let did = so.answers schema p.history at.stands (not_out r is) in
        answered_as a b s' schema p s.line (Ok (Asks step)) (sym (said_is s schema p at) ∙ e)
        (subst (λ r. Appends a b (reply_text r)) did.0 wrote)
        (record { stands = did.1; reading_is = so.reading_stays ∙ at.reading_is })

pub step_broken : (a b : Option (List ℕ)) (s s' : Script) (schema : Schema) (p : Progress) (step : Step) (r : Reply) → Stepped s s' step r → IsAt s schema p → said_by s ≡ Ok (Asks step)
    → AppendsPrefix a b (reply_text r) → Broken a b schema p s.line
step_broken a b s s' schema p step r so at e wrote = by (is_out_of_memory r) refl
  where
    by : (out : Bool) → is_out_of_memory r ≡ out → Broken a b schema p s.line
    by true is = out_broken a b schema p s.line (step_risky s s' schema p step r so at e is) (subst (λ r. AppendsPrefix a b (reply_text r)) (is_out_so r is) wrote)
    by false is =
        broken_as a b schema p s.line (Ok (Asks step)) (sym (said_is s schema p at) ∙ e)
        (subst (λ r. AppendsPrefix a b (reply_text r)) (so.answers schema p.history at.stands (not_out r is)).0 wrote)

-- ---- a refusal

pub refused_broken : (a b : Option (List ℕ)) (s : Script) (schema : Schema) (p : Progress) (refusal : Refusal) → IsAt s schema p → IsRead (Err refusal) s
    → AppendsPrefix a b (refusal_text refusal) → Broken a b schema p s.line
refused_broken a b s schema p refusal at is wrote = by (is_out_of_memory (Refused refusal)) refl
  where
    by : (out : Bool) → is_out_of_memory (Refused refusal) ≡ out → Broken a b schema p s.line
    by true e =
        let out = is_memory_so refusal e in
        out_broken a b schema p s.line (read_risky s schema p at (subst (λ r. IsRead (Err r) s) out is)) (subst (λ r. AppendsPrefix a b (refusal_text r)) out wrote)
    by false e = broken_as a b schema p s.line (Err refusal) (sym (said_is s schema p at) ∙ unless refusal _ (other refusal e) is.unless) wrote

pub refused_answered : (a b : Option (List ℕ)) (s : Script) (schema : Schema) (p : Progress) (refusal : Refusal) → IsAt s schema p → IsRead (Err refusal) s
    → Appends a b (refusal_text refusal) → Answered a b s schema p s.line
refused_answered a b s schema p refusal at is wrote = by (is_out_of_memory (Refused refusal)) refl
  where
    by : (out : Bool) → is_out_of_memory (Refused refusal) ≡ out → Answered a b s schema p s.line
    by true e =
        let out = is_memory_so refusal e in
        out_answered a b s schema p s.line (read_risky s schema p at (subst (λ r. IsRead (Err r) s) out is)) (subst (λ r. Appends a b (refusal_text r)) out wrote) at
    by false e = answered_as a b s schema p s.line (Err refusal) (sym (said_is s schema p at) ∙ unless refusal _ (other refusal e) is.unless) wrote at

-- ---- the end of a line

pub at_same : (s s' : Script) (schema : Schema) (p : Progress) → SameRun s s' → IsAt s schema p → IsAt s' schema p
at_same s s' schema p same at = record {
  stands = subst (λ w. Stands schema w p.history) (sym same.system) at.stands;
  reading_is = same.reading ∙ at.reading_is;
}

pub same_answered : (a b : Option (List ℕ)) (s s' : Script) (schema : Schema) (p : Progress) (line : Partial) → Answered a b s schema p line → SameRun s s' → Answered a b s' schema p line
same_answered a b s s' schema p line did same = record { mark = did.mark; wrote = did.wrote; left = at_same s s' schema _ same did.left }

pub flushed_answered : (a b c : Option (List ℕ)) (s : Script) (schema : Schema) (p : Progress) (line : Partial) → Answered a b s schema p line → Keeps b c → Answered a c s schema p line
flushed_answered a b c s schema p line did kept = record { mark = did.mark; wrote = Appends-kept a b c _ did.wrote kept; left = did.left }

pub flushed_broken : (a b c : Option (List ℕ)) (s : Script) (schema : Schema) (p : Progress) (line : Partial) → Answered a b s schema p line → Keeps b c → Broken a c schema p line
flushed_broken a b c s schema p line did kept = record {
  mark = did.mark;
  wrote = record { out = line_reply schema line_says did.mark p line; left = []; wrote = Appends-kept a b c _ did.wrote kept; front = sym (append-nil _) };
}
