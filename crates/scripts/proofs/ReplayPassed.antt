-- A line of a script was taken, and is not refused.
use Rattle.std.proofs.Common.{◌≡◌, ℕ, Bool, true, false, Some, None, refl, sym, ap, subst, ◌∙◌}
use Rattle.std.specs.Prelude.{Result, Ok, Err, if◌then◌else◌}
use Rattle.values.specs.Tables.{Schema}
use Rattle.values.specs.declared.refusal.Refusal.{Refusal}
use Rattle.values.specs.declared.refusal.Refusal.TheVariants.{Memory}
use Rattle.steps.specs.declared.step.Step.{Step}
use Rattle.steps.specs.declared.step.Reply.{Reply}
use Rattle.steps.specs.declared.step.Reply.TheVariants.{Refused}
use Rattle.steps.specs.Reply.{is_out_of_memory}
use Rattle.histories.proofs.TurnReplies.{not_out}
use Rattle.histories.proofs.DueRuns.{is_memory_so, is_out_so}
use Rattle.lines.specs.Partial.{Partial}
use Rattle.statement.specs.declared.line.Line.{Line}
use Rattle.statement.specs.declared.line.Line.TheVariants.{Nothing, Clock, Step as Asks}
use Rattle.statement.specs.Line.{line_says}
use Rattle.scripts.specs.declared.script.Script.{Script}
use Rattle.scripts.specs.First.{refusal_in}
use Rattle.scripts.specs.Replay.{line_refusal, refusal_to}
use Rattle.scripts.specs.Replaying.{Passed, PassesLine, RefusesLine}
use Rattle.scripts.specs.Script.{IsAt, IsRead, SameRun, said_by}
use Rattle.scripts.specs.Transcript.{Progress, is_risky, left_by, said}
use Rattle.scripts.proofs.ScriptAnswered.{Stepped, at_same, other, read_risky, said_is, step_risky, unless}
use Rattle.scripts.proofs.ScriptLeading.{no_memory}

passed_as : (s' : Script) (schema : Schema) (p : Progress) (line : Partial) (r : Result Line Refusal) → said schema line_says p line ≡ r → refusal_to schema p r ≡ None → IsAt s' schema (left_by schema p r) → Passed s' schema p line
passed_as s' schema p line r e none left = record {
  none = ap (refusal_to schema p) e ∙ none;
  left = subst (λ x. IsAt s' schema (left_by schema p x)) (sym e) left;
}

pub nothing_passed : (s : Script) → IsRead (Ok Nothing) s → PassesLine s s
nothing_passed s is = λ schema p at. passed_as s schema p s.line (Ok Nothing) (sym (said_is s schema p at) ∙ is.unless) refl at

pub clock_passed : (s : Script) (reading : ℕ) → IsRead (Ok (Clock reading)) s → PassesLine s (record s { reading = reading })
clock_passed s reading is = λ schema p at.
    passed_as (record s { reading = reading }) schema p s.line (Ok (Clock reading)) (sym (said_is s schema p at) ∙ is.unless) refl (record { stands = at.stands; reading_is = refl })

-- memory ran out at a line that takes some
out_refused : (schema : Schema) (p : Progress) (line : Partial) (refusal : Refusal) → is_risky schema line_says p line ≡ true → refusal ≡ Memory → line_refusal schema line_says true p line ≡ Some refusal
out_refused schema p line refusal risky is = ap (λ b. if b then Some Memory else refusal_to schema p (said schema line_says p line)) risky ∙ ap Some (sym is)

pub line_refused : (s : Script) (refusal : Refusal) → IsRead (Err refusal) s → RefusesLine refusal s
line_refused s refusal is = λ schema p at. by schema p at (is_out_of_memory (Refused refusal)) refl
  where
    by : (schema : Schema) (p : Progress) → IsAt s schema p → (out : Bool) → is_out_of_memory (Refused refusal) ≡ out → (m : Bool) × (line_refusal schema line_says m p s.line ≡ Some refusal)
    by schema p at true e =
        let out = is_memory_so refusal e in
        (true, out_refused schema p s.line refusal (read_risky s schema p at (subst (λ r. IsRead (Err r) s) out is)) out)
    by schema p at false e = (false, ap (refusal_to schema p) (sym (said_is s schema p at) ∙ unless refusal _ (other refusal e) is.unless))

-- ---- a step

pub step_passed : (s s' : Script) (step : Step) (r : Reply) → Stepped s s' step r → said_by s ≡ Ok (Asks step) → refusal_in r ≡ None → PassesLine s s'
step_passed s s' step r so e none = λ schema p at.
    let did = so.answers schema p.history at.stands (no_memory r none) in
    passed_as s' schema p s.line (Ok (Asks step)) (sym (said_is s schema p at) ∙ e) (ap refusal_in (sym did.0) ∙ none)
    (record { stands = did.1; reading_is = so.reading_stays ∙ at.reading_is })

is_memory : (r : Reply) (refusal : Refusal) → r ≡ Refused Memory → refusal_in r ≡ Some refusal → refusal ≡ Memory
is_memory r refusal is some = let same : Some Memory ≡ Some refusal = sym (ap refusal_in is) ∙ some in cc same

pub step_refused : (s s' : Script) (step : Step) (r : Reply) (refusal : Refusal) → Stepped s s' step r → said_by s ≡ Ok (Asks step) → refusal_in r ≡ Some refusal → RefusesLine refusal s
step_refused s s' step r refusal so e some = λ schema p at. by schema p at (is_out_of_memory r) refl
  where
    by : (schema : Schema) (p : Progress) → IsAt s schema p → (out : Bool) → is_out_of_memory r ≡ out → (m : Bool) × (line_refusal schema line_says m p s.line ≡ Some refusal)
    by schema p at true is = (true, out_refused schema p s.line refusal (step_risky s s' schema p step r so at e is) (is_memory r refusal (is_out_so r is) some))
    by schema p at false is = (
      false,
      ap (refusal_to schema p) (sym (said_is s schema p at) ∙ e)
          ∙ ap refusal_in (sym (so.answers schema p.history at.stands (not_out r is)).0)
          ∙ some,
    )

-- ---- the next line is begun

pub same_passed : (s m s' : Script) → PassesLine s m → SameRun m s' → PassesLine s s'
same_passed s m s' passes same = λ schema p at.
    let did = passes schema p at in
    record { none = did.none; left = at_same m s' schema _ same did.left }
