-- A line that is served: what is sent for it, and what is told of it.
use Rattle.std.proofs.Common.{◌≡◌, ◌≢◌, ℕ, List, [], ◌∷◌, ◌++◌, ◌+◌, Bool, true, Option, Some, None, length, inl, inr, refl, sym, ap, ◌∙◌, subst}
use Rattle.std.specs.Prelude.{◌⊎◌, Result, Ok, Err, OnOk, OnErr}
use Rattle.std.proofs.KnownBytes.{Appends-nil}
use Rattle.values.specs.declared.refusal.Refusal.{Refusal}
use Rattle.values.specs.declared.refusal.Refusal.TheVariants.{Memory}
use Rattle.values.specs.Tables.{Schema}
use Rattle.steps.specs.declared.step.Step.{Step}
use Rattle.steps.specs.declared.step.Reply.TheVariants.{Refused}
use Rattle.statement.specs.declared.line.Line.{Line}
use Rattle.statement.specs.declared.line.Line.TheVariants.{Nothing, Clock, Step as Asks}
use Rattle.statement.specs.Memory.{UnlessMemory}
use Rattle.statement.specs.Print.{refusal_text, reply_text}
use Rattle.statement.specs.Writer.{Prints}
use Rattle.lines.specs.Partial.{Partial}
use Rattle.sessions.specs.Refusal.{refusal_of}
use Rattle.sessions.specs.SessionState.{SessionState}
use Rattle.serving.specs.declared.answer.Sent.{Sent}
use Rattle.serving.specs.declared.answer.Sent.TheVariants.{Reply as Says, Ending, Refused as Denies}
use Rattle.serving.specs.Progress.{Given, Progress}
use Rattle.serving.specs.ServedSession.{Told, Answers, IsAnswered, IsKept, IsRefusedLine, reading_takes, said}
use Rattle.serving.specs.BookRefusals.{GoesOn, IsKnown}
use Rattle.serving.specs.Serving.{AnswerState, IsAt, IsByBook, IsReplied, given_list, given_of, kept_of, taken_by, taken_of, refused_of, reply_by, reply_of, sent_refusal, text_of}
use Rattle.serving.specs.Account.{AccountState, IsBroken, Served, Writes}
use Rattle.serving.specs.Line.{IsBrokenStep, IsRead, IsTaken, IsReported, Sends}
use Rattle.serving.proofs.ServeJoining.{serves_one}
use Rattle.serving.proofs.AnswerRefusing.{memory_or_reply, unless_is}
use Rattle.serving.proofs.BookRefusalsKnown.{goes_refl, kept_known, kept_on, refusal_by_book}

-- what was read is what the line says
pub said_of : {A : Type 0} (r : Result A Refusal) (l x : A) (answer : Result A Refusal) → r ≡ Ok l → l ≡ x → UnlessMemory r answer → answer ≡ Ok x
said_of r l x answer e f u = subst (λ r. UnlessMemory r answer) e u ∙ ap Ok f

counted_given : (g h : Option Given) → length (given_list g ++ given_list h) ≡ taken_by g + taken_by h
counted_given None None = refl
counted_given None (Some h) = refl
counted_given (Some g) None = refl
counted_given (Some g) (Some h) = refl

module _ (may_give : ℕ → Bool) (line : Partial) (old : SessionState) (a b : AccountState) where
  abbrev schema : Schema
  schema = old.schema

  abbrev i : ℕ
  i = old.number

  one : (new : SessionState) (t : Told) (g : List Given) (o : List ℕ) → b.given ≡ a.given ++ g → IsKnown b.refused t.refused → GoesOn a.refused b.refused → new.schema ≡ old.schema → new.number ≡ old.number
      → ((p : Progress) → IsAt old p → (p' : Progress) × (IsAt new p' × IsAnswered may_give schema i line t p g o p')) → Served may_give (line ∷ []) o old new a b
  one new t g o given known on same number steps = record {
    told = t ∷ [];
    given = g;
    given_is = given;
    known = (known, tt);
    goes_on = on;
    schema_is = same;
    number_is = number;
    steps = λ p at. let s = steps p at in (s.0, (s.1.0, serves_one may_give schema i line t p s.0 g o s.1.1));
  }

  known_by : (sent : Sent) → IsByBook sent → b.refused ≡ kept_of a.refused sent → IsKnown b.refused (refused_of sent)
  known_by sent by_book is = subst (λ r. IsKnown r (refused_of sent)) (sym is) (kept_known a.refused sent by_book)

  on_by : (sent : Sent) → b.refused ≡ kept_of a.refused sent → GoesOn a.refused b.refused
  on_by sent is = subst (GoesOn a.refused) (sym is) (kept_on a.refused sent)

  -- a line that is nothing
  pub nothing_written : (w : Option (List ℕ)) → said schema i line ≡ Ok Nothing → b.given ≡ a.given ++ [] → b.refused ≡ a.refused → Writes may_give (line ∷ []) old old a b w w
  nothing_written w is given refused = record {
    out = [];
    wrote = Appends-nil w;
    served = one old (record { taken = 0; refused = None }) [] [] given (record { full = λ e. cc; not_open = λ e. cc }) (subst (GoesOn a.refused) (sym refused) (goes_refl a.refused)) refl refl (λ p at. (
      p,
      (at, record { counted = refl; kept = subst (λ s. Answers may_give schema i s p [] [] p) (sym is) (record { takes = refl; out_is = refl; left = refl }) }),
    ));
  }

  pub clock_written : (w : Option (List ℕ)) (reading : ℕ) → said schema i line ≡ Ok (Clock reading) → b.given ≡ a.given ++ [] → b.refused ≡ a.refused → Writes may_give (line ∷ []) old old a b w w
  clock_written w reading is given refused = record {
    out = [];
    wrote = Appends-nil w;
    served = one old (record { taken = 0; refused = None }) [] [] given (record { full = λ e. cc; not_open = λ e. cc }) (subst (GoesOn a.refused) (sym refused) (goes_refl a.refused)) refl refl (λ p at. (
      p,
      (at, record { counted = refl; kept = subst (λ s. Answers may_give schema i s p [] [] p) (sym is) (record { takes = refl; out_is = refl; left = refl }) }),
    ));
  }

  -- a step
  kept_step : (step : Step) (all : List Given) (given : Option Given) (sent : Sent) (p p' : Progress) → said schema i line ≡ Ok (Asks step) → IsReplied may_give schema i step p all (reply_by given sent) p'
      → IsKept may_give schema i (refused_of sent) line p all (text_of (reply_by given sent)) p'
  kept_step step all given (Says reply) p p' is r = subst (λ s. Answers may_give schema i s p all (reply_text reply) p') (sym is) (record { reply = reply; taken = r; out_is = refl })
  kept_step step all given Ending p p' is r = subst (λ s. Answers may_give schema i s p all (text_of (reply_by given Ending)) p') (sym is) (record { reply = _; taken = r; out_is = refl })
  kept_step step all given (Denies refusal) p p' is r = record { refused = subst (λ s. IsRefusedLine schema i line s p all (refusal_of refusal) p') (sym is) (inr r); out_is = refl }

  taken_served : (new : SessionState) (step : Step) (answer : AnswerState) → said schema i line ≡ Ok (Asks step) → IsTaken may_give step answer old new a b → Served may_give (line ∷ []) (text_of (reply_of answer)) old new a b
  taken_served new step answer is t =
      one new (record { taken = taken_of answer; refused = refused_of answer.sent }) (given_of answer) (text_of (reply_of answer)) t.told.given_is (known_by answer.sent t.stepped.by_book t.told.refused_is) (on_by answer.sent t.told.refused_is) t.stepped.schema_is t.stepped.number_is (λ p at.
      let s = t.stepped.steps p at in (s.0, (s.1.0, record { counted = counted_given answer.given answer.install; kept = kept_step step (given_of answer) answer.given answer.sent p s.0 is s.1.1 })))

  pub step_written : {E : Type 0} (r : Result (Unit {0}) E) (new : SessionState) (step : Step) (w v : Option (List ℕ)) → said schema i line ≡ Ok (Asks step) → OnOk r (Sends may_give step old new a b w v) → OnOk r (Writes may_give (line ∷ []) old new a b w v)
  step_written (Ok x) new step w v is s = record { out = text_of (reply_of s.answer); wrote = s.wrote; served = taken_served new step s.answer is s.taken }
  step_written (Err e) new step w v is s = tt

  broken : (new : SessionState) (step : Step) (w v : Option (List ℕ)) → said schema i line ≡ Ok (Asks step) → IsBrokenStep may_give step old new a b w v → IsBroken may_give (line ∷ []) old new a b w v
  broken new step w v is (inl s) = inl (record { out = text_of (reply_of s.answer); wrote = s.wrote; served = taken_served new step s.answer is s.taken })
  broken new step w v is (inr s) = inr s

  pub step_broken : {E : Type 0} (r : Result (Unit {0}) E) (new : SessionState) (step : Step) (w v : Option (List ℕ)) → said schema i line ≡ Ok (Asks step) → OnErr r (IsBrokenStep may_give step old new a b w v) → OnErr r (IsBroken may_give (line ∷ []) old new a b w v)
  step_broken (Ok x) new step w v is s = tt
  step_broken (Err e) new step w v is s = broken new step w v is s

  -- a line that is refused
  memory_line : (s : Result Line Refusal) (p : Progress) → reading_takes schema i line ≡ true → IsRefusedLine schema i line s p [] Memory p
  memory_line (Ok Nothing) p takes = (takes, (refl, (refl, refl)))
  memory_line (Ok (Clock reading)) p takes = (takes, (refl, (refl, refl)))
  memory_line (Ok (Asks step)) p takes = inl (takes, (refl, (refl, refl)))
  memory_line (Err refusal) p takes = (takes, (refl, (refl, refl)))

  kept_refusal : (refusal : Refusal) (p : Progress) → IsRead schema i line (Err refusal) → IsKept may_give schema i (refused_of (sent_refusal refusal)) line p [] (text_of (reply_by None (sent_refusal refusal))) p
  kept_refusal refusal p read = by (memory_or_reply refusal)
    where
      by : (refusal ≡ Memory) ⊎ ((refusal ≢ Memory) × (sent_refusal refusal ≡ Says (Refused refusal))) → IsKept may_give schema i (refused_of (sent_refusal refusal)) line p [] (text_of (reply_by None (sent_refusal refusal))) p
      by (inl e) = subst (λ r. IsKept may_give schema i (refused_of (sent_refusal r)) line p [] (text_of (reply_by None (sent_refusal r))) p) (sym e)
          (record { refused = memory_line (said schema i line) p (read.memory (ap (λ (x : Refusal). Err x) e)); out_is = refl })
      by (inr f) = subst (λ s. IsKept may_give schema i (refused_of s) line p [] (text_of (reply_by None s)) p) (sym f.1)
          (subst (λ s. Answers may_give schema i s p [] (refusal_text refusal) p) (sym (unless_is refusal (said schema i line) f.0 read.unless)) (record { takes = refl; out_is = refl; left = refl }))

  refusal_served : (refusal : Refusal) (answer : AnswerState) → answer ≡ record { given = None; install = None; sent = sent_refusal refusal } → IsRead schema i line (Err refusal) → IsReported answer a b → Served may_give (line ∷ []) (text_of (reply_of answer)) old old a b
  refusal_served refusal answer is read told = subst (λ (x : AnswerState). IsReported x a b → Served may_give (line ∷ []) (text_of (reply_of x)) old old a b) (sym is) (λ t.
      one old (record { taken = 0; refused = refused_of (sent_refusal refusal) }) [] (text_of (reply_by None (sent_refusal refusal))) t.given_is (known_by (sent_refusal refusal) (refusal_by_book refusal) t.refused_is) (on_by (sent_refusal refusal) t.refused_is) refl refl (λ p at. (p, (at, record { counted = refl; kept = kept_refusal refusal p read })))) told

  pub refusal_written : {E : Type 0} (r : Result (Unit {0}) E) (refusal : Refusal) (answer : AnswerState) (w v : Option (List ℕ)) → answer ≡ record { given = None; install = None; sent = sent_refusal refusal } → IsRead schema i line (Err refusal) → IsReported answer a b
      → Prints w v r (text_of (reply_of answer)) → OnOk r (Writes may_give (line ∷ []) old old a b w v)
  refusal_written (Ok x) refusal answer w v is read told printed = record { out = text_of (reply_of answer); wrote = printed; served = refusal_served refusal answer is read told }
  refusal_written (Err e) refusal answer w v is read told printed = tt

  pub refusal_broken : {E : Type 0} (r : Result (Unit {0}) E) (refusal : Refusal) (answer : AnswerState) (w v : Option (List ℕ)) → answer ≡ record { given = None; install = None; sent = sent_refusal refusal } → IsRead schema i line (Err refusal) → IsReported answer a b
      → Prints w v r (text_of (reply_of answer)) → OnErr r (IsBroken may_give (line ∷ []) old old a b w v)
  refusal_broken (Ok x) refusal answer w v is read told printed = tt
  refusal_broken (Err e) refusal answer w v is read told printed = inl (record { out = text_of (reply_of answer); wrote = printed; served = refusal_served refusal answer is read told })
