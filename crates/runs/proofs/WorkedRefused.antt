-- A session's first line, and what it is not refused for.
use Rattle.std.proofs.Common.{◌≡◌, ◌≢◌, ℕ, ◌⊎◌, inl, inr, Bool, true, false, List, [], ◌∷◌, ◌++◌, Some, None, Ok, length, sym, ap, subst, ◌∙◌, arith, append-nil}
use Rattle.std.specs.Prelude.{nat_lt, if◌then◌else◌}
use Rattle.values.specs.declared.refusal.Refusal.{Refusal}
use Rattle.values.specs.declared.refusal.Refusal.TheVariants.{Syntax, NoTable, BadRow, NoTransaction, InTransaction, DuplicateKey, Conflict, ClockEnd, TooManyWrites, Memory, NoSession, LineTooLong, JournalFull, Overlap, BadPeriod, TransactionsOpen}
use Rattle.values.specs.Tables.{Schema}
use Rattle.steps.specs.declared.step.Step.{Step}
use Rattle.steps.specs.declared.step.Step.TheVariants.{Begin, Commit}
use Rattle.steps.specs.declared.step.Reply.{Reply}
use Rattle.steps.specs.declared.step.Reply.TheVariants.{Begun, Refused}
use Rattle.steps.specs.Misfit.{max_session}
use Rattle.histories.specs.History.{reply}
use Rattle.statement.specs.declared.line.Line.TheVariants.{Step as Asks}
use Rattle.statement.specs.Print.{refusal_text, reply_text}
use Rattle.lines.specs.Partial.{Partial}
use Rattle.serving.specs.ServedSession.{reading_takes, said}
use Rattle.runs.specs.Event.{Event, AreRight, IsRight}
use Rattle.runs.specs.Tells.{MayBeRefused, Says, Tells, TellsLine}
use Rattle.runs.specs.Worked.{NoFullJournalWithRoom, NoMemoryForNothing}

-- the third byte of a text
abbrev third : List ℕ → ℕ
third (a ∷ b ∷ c ∷ rest) = c
third text = 0

module _ (schema : Schema) (IsFull : Type 0) (i : ℕ) where
  -- what one line is, of a session that says no more
  alone : (line : Partial) (step : Step) (events : List Event) (text : List ℕ) → said schema i line ≡ Ok (Asks step) → AreRight schema [] events → Tells schema IsFull i [] (line ∷ []) events text
      → (Says schema IsFull i false (Ok (Asks step)) events text ⊎ ((reading_takes schema i line ≡ true) × (text ≡ refusal_text Memory)))
  alone line step events text is right (now, later, sent, rest, events_is, text_is, told, (none, no_text)) =
      let all : now ≡ events = sym (append-nil now) ∙ ap (λ xs. now ++ xs) (sym none) ∙ sym events_is in
      let whole : sent ≡ text = sym (append-nil sent) ∙ ap (λ xs. sent ++ xs) (sym no_text) ∙ sym text_is in
      by (subst (λ sent. TellsLine schema IsFull i false line events sent) whole (subst (λ now. TellsLine schema IsFull i false line now sent) all told))
    where
      by : TellsLine schema IsFull i false line events text → (Says schema IsFull i false (Ok (Asks step)) events text ⊎ ((reading_takes schema i line ≡ true) × (text ≡ refusal_text Memory)))
      by (inl says) = inl (subst (λ says. Says schema IsFull i false says events text) is says)
      by (inr (takes, none, text_is)) = inr (takes, text_is)

  -- ---- a COMMIT with none open

  nothing_for_commit : (refusal : Refusal) → MayBeRefused schema IsFull i false (Commit i 0) refusal → ⊥
  nothing_for_commit Memory may = cc may
  nothing_for_commit JournalFull may = cc may.0
  nothing_for_commit (Syntax byte) may = may
  nothing_for_commit NoTable may = may
  nothing_for_commit (BadRow column) may = may
  nothing_for_commit NoTransaction may = may
  nothing_for_commit InTransaction may = may
  nothing_for_commit (DuplicateKey key) may = may
  nothing_for_commit (Conflict key instant) may = may
  nothing_for_commit ClockEnd may = may
  nothing_for_commit TooManyWrites may = may
  nothing_for_commit NoSession may = may
  nothing_for_commit LineTooLong may = may
  nothing_for_commit (Overlap key) may = may
  nothing_for_commit BadPeriod may = may
  nothing_for_commit TransactionsOpen may = may

  -- its reply begins with E11 or E4
  commit_text : (r : Reply) → r ≡ reply schema [] (Commit i 0) → reply_text r ≡ refusal_text Memory → ⊥
  commit_text r is text = by (nat_lt max_session i) (sym (ap (λ r. third (reply_text r)) is) ∙ ap third text)
    where
      by : (small : Bool) → third (reply_text (elim (if small then Some NoSession else None) [ Some refusal ↦ Refused refusal | None ↦ Refused NoTransaction ])) ≡ 48 → ⊥
      by true e = let f : 49 ≡ 48 = e in omega (arith, f)
      by false e = let f : 32 ≡ 48 = e in omega (arith, f)

  commit_answered : (events : List Event) → AreRight schema [] events → Says schema IsFull i false (Ok (Asks (Commit i 0))) events (refusal_text Memory) → ⊥
  commit_answered [] right (inl (r, text, are)) = are
  commit_answered (e ∷ []) right (inl (r, text, are)) = commit_text r (subst (IsRight schema []) are.1 right.0) (sym text)
  commit_answered (e ∷ f ∷ events) right (inl (r, text, are)) = are
  commit_answered events right (inr (refusal, text, may, left)) = nothing_for_commit refusal may

  -- ---- a BEGIN

  full_for_begin : (refusal : Refusal) → (IsFull → ⊥) → refusal_text JournalFull ≡ refusal_text refusal → MayBeRefused schema IsFull i false (Begin i) refusal → ⊥
  full_for_begin Memory few text may = let f : 51 ≡ 48 = ap third text in omega (arith, f)
  full_for_begin JournalFull few text may = few may.1
  full_for_begin (Syntax byte) few text may = may
  full_for_begin NoTable few text may = may
  full_for_begin (BadRow column) few text may = may
  full_for_begin NoTransaction few text may = may
  full_for_begin InTransaction few text may = may
  full_for_begin (DuplicateKey key) few text may = may
  full_for_begin (Conflict key instant) few text may = may
  full_for_begin ClockEnd few text may = may
  full_for_begin TooManyWrites few text may = may
  full_for_begin NoSession few text may = may
  full_for_begin LineTooLong few text may = may
  full_for_begin (Overlap key) few text may = may
  full_for_begin BadPeriod few text may = may
  full_for_begin TransactionsOpen few text may = may

  -- its reply begins with E11 or with begun
  begin_text : (r : Reply) → r ≡ reply schema [] (Begin i) → reply_text r ≡ refusal_text JournalFull → ⊥
  begin_text r is text = by (nat_lt max_session i) (sym (ap (λ r. third (reply_text r)) is) ∙ ap third text)
    where
      by : (small : Bool) → third (reply_text (elim (if small then Some NoSession else None) [ Some refusal ↦ Refused refusal | None ↦ Begun 0 ])) ≡ 51 → ⊥
      by true e = let f : 49 ≡ 51 = e in omega (arith, f)
      by false e = let f : 103 ≡ 51 = e in omega (arith, f)

  begin_answered : (events : List Event) → (IsFull → ⊥) → AreRight schema [] events → Says schema IsFull i false (Ok (Asks (Begin i))) events (refusal_text JournalFull) → ⊥
  begin_answered [] few right (inl (r, text, are)) = are
  begin_answered (e ∷ []) few right (inl (r, text, (entry, reading, entry_is, its, step_is))) = begin_text r (subst (IsRight schema []) step_is right.0) (sym text)
  begin_answered (e ∷ f ∷ []) few right (inl (r, text, are)) = are
  begin_answered (e ∷ f ∷ g ∷ events) few right (inl (r, text, are)) = are
  begin_answered events few right (inr (refusal, text, may, left)) = full_for_begin refusal few text may

pub no_memory_for_nothing : NoMemoryForNothing
no_memory_for_nothing schema most b i line events is takes_none right tells = by (alone schema (length b.entries ≡ most) i line (Commit i 0) events (refusal_text Memory) is right tells)
  where
    by : (Says schema (length b.entries ≡ most) i false (Ok (Asks (Commit i 0))) events (refusal_text Memory) ⊎ ((reading_takes schema i line ≡ true) × (refusal_text Memory ≡ refusal_text Memory))) → ⊥
    by (inl says) = commit_answered schema (length b.entries ≡ most) i events right says
    by (inr unread) = cc (takes_none, unread.0)

pub no_full_journal_with_room : NoFullJournalWithRoom
no_full_journal_with_room schema most b i line events is few right tells = by (alone schema (length b.entries ≡ most) i line (Begin i) events (refusal_text JournalFull) is right tells)
  where
    by : (Says schema (length b.entries ≡ most) i false (Ok (Asks (Begin i))) events (refusal_text JournalFull) ⊎ ((reading_takes schema i line ≡ true) × (refusal_text JournalFull ≡ refusal_text Memory))) → ⊥
    by (inl says) = begin_answered schema (length b.entries ≡ most) i events few right says
    by (inr unread) = let f : 51 ≡ 48 = ap third unread.1 in omega (arith, f)
