-- Texts that are taken line by line.
use Rattle.std.proofs.Common.{◌≡◌, ◌≢◌, ℕ, ◌+◌, ◌-◌, ◌<◌, ◌≤◌, Bool, true, false, List, [], ◌∷◌, ◌++◌, Option, Some, None, refl, sym, ap, subst, ◌∙◌, arith, append_assoc, length, take}
use Rattle.std.specs.Prelude.{Ok, Err, Result, ◌==◌, ◌&&◌, if◌then◌else◌, nat_lt, slice_index}
use Rattle.std.specs.List.{All, list_any}
use Rattle.std.proofs.lemmas.Bool.{and_from, false≢true, or_parts, or_right}
use Rattle.std.proofs.lemmas.Bool.Decides.{nat_tests}
use Rattle.std.proofs.lemmas.List.{get_or_at, length_push, take_at}
use Rattle.std.proofs.lemmas.List.Elements.{All-cons, All-nil}
use Rattle.std.proofs.lemmas.List.Folds.{list_any-append}
use Rattle.values.specs.declared.refusal.Refusal.{Refusal}
use Rattle.values.specs.declared.refusal.Refusal.TheVariants.{LineTooLong}
use Rattle.values.specs.Fit.{is_line_break}
use Rattle.values.specs.Tables.{Schema}
use Rattle.steps.specs.declared.step.Reply.{Reply}
use Rattle.steps.specs.declared.step.Reply.TheVariants.{Begun, Inserted, Updated, Deleted, Shown as Shows, Committed, RolledBack, Altered, Done, Refused}
use Rattle.steps.specs.declared.step.Step.{Step}
use Rattle.steps.specs.Reply.{is_refused}
use Rattle.histories.specs.History.{reply, schema_after}
use Rattle.lines.specs.Lines.{lines_from, lines_of}
use Rattle.lines.specs.Partial.{Partial, longest_line}
use Rattle.lines.proofs.LineBufferAdding.{add_all_fits}
use Rattle.lines.proofs.LinesEnding.{ends_nothing}
use Rattle.statement.specs.declared.line.Line.{Line}
use Rattle.statement.specs.declared.line.Line.TheVariants.{Clock, Step as Asks}
use Rattle.statement.specs.Line.{before_feed, body_of, body_says, line_says}
use Rattle.statement.specs.Print.{line}
use Rattle.statement.proofs.LineEnds.{line_ends}
use Rattle.scripts.specs.First.{refusal_in}
use Rattle.scripts.specs.Replay.{line_refusal, lines_leave, refusal_to}
use Rattle.scripts.specs.Transcript.{Progress, left_by, said}
use Rattle.dump_reading.proofs.ReplayedLengths.{IsLineOf, Within}

-- ---- the bytes of a line

no_feed : (b : ℕ) → is_line_break b ≡ false → b ≢ 10
no_feed b plain = grind (arith, nat_tests)

no_feeds : (body : List ℕ) → list_any is_line_break body ≡ false → All (λ b. b ≢ 10) body
no_feeds [] plain = All-nil (λ b. b ≢ 10)
no_feeds (b ∷ body) plain =
    let parts = or_parts (is_line_break b) (list_any is_line_break body) plain in
    All-cons (λ b. b ≢ 10) b body (no_feed b parts.0) (no_feeds body parts.1)

-- the first line of a text
first_line : (body rest : List ℕ) → Within longest_line body → lines_of (line body ++ rest) ≡ Some (line body) ∷ lines_of rest
first_line body rest within =
    ap lines_of (append_assoc body (10 ∷ []) rest)
    ∙ ends_nothing (Some []) body (no_feeds body within.unbroken) (10 ∷ rest)
    ∙ ap (λ (p : Partial). lines_from p (10 ∷ rest)) (add_all_fits [] body (omega (arith, within.short)))

some_bytes : (n : ℕ) → 0 < n → nat_lt 0 n ≡ true
some_bytes n some = grind (arith, nat_tests)

feed_dropped : (body : List ℕ) → before_feed (line body) ≡ body
feed_dropped body =
    let bytes : List ℕ = line body in
    let pushed : length bytes ≡ length body + 1 = length_push body 10 in
    let there : length bytes - 1 ≡ length body = omega (arith, pushed) in
    let found : (slice_index bytes (length body) == 10) ≡ true = ap (λ (c : ℕ). c == 10) (get_or_at body 10 [] 0 (length body) refl) in
    ap (λ (n : ℕ). if nat_lt 0 (length bytes) && (slice_index bytes n == 10) then take n bytes else bytes) there
    ∙ ap (λ t. if t then take (length body) bytes else bytes) (and_from (nat_lt 0 (length bytes)) (slice_index bytes (length body) == 10) (some_bytes (length bytes) (omega (arith, pushed))) found)
    ∙ take_at body (10 ∷ []) (length body) refl

no_return : (body : List ℕ) → list_any is_line_break body ≡ false → (front : List ℕ) → body ≡ front ++ 13 ∷ [] → ⊥
no_return body plain front is =
    false≢true (sym plain ∙ ap (list_any is_line_break) is ∙ list_any-append is_line_break front (13 ∷ []) ∙ or_right (list_any is_line_break front) true refl)

not_longer : (n : ℕ) → n ≤ longest_line → nat_lt longest_line n ≡ false
not_longer n within = grind (arith, nat_tests)

line_read : (now : Schema) (reading : ℕ) (body : List ℕ) → Within longest_line body → line_says now reading (line body) ≡ body_says now reading body
unfolding line_says
line_read now reading body within =
    ap (λ (l : List ℕ). if nat_lt longest_line (length l) then Err LineTooLong else body_says now reading (body_of (line body))) (feed_dropped body)
    ∙ ap (λ t. if t then Err LineTooLong else body_says now reading (body_of (line body))) (not_longer (length body) within.short)
    ∙ ap (body_says now reading) (line_ends.fed body (no_return body within.unbroken))

-- ---- what a text leaves

never : (n : ℕ) → (0 == n + 1) ≡ false
never n = grind (arith, nat_tests)

none_in : (r : Reply) → is_refused r ≡ false → refusal_in r ≡ None
none_in (Begun n) taken = refl
none_in (Inserted n) taken = refl
none_in (Updated n) taken = refl
none_in (Deleted n) taken = refl
none_in (Shows listing) taken = refl
none_in (Committed instant) taken = refl
none_in RolledBack taken = refl
none_in Altered taken = refl
none_in Done taken = refl
none_in (Refused refusal) taken = cc

module _ (first : Schema) where
  -- whatever follows it, the text is taken, and leaves this
  pub record Takes (p q : Progress) (text : List ℕ) : Type 0 where
    pub goes_on : (n : ℕ) (rest : List ℕ) → (m : ℕ) × (lines_leave first line_says 0 n p (lines_of (text ++ rest)) ≡ lines_leave first line_says 0 m q (lines_of rest))

  pub takes_none : (p : Progress) → Takes p p []
  takes_none p = record { goes_on = λ n rest. (n, refl) }

  pub takes_both : (p q r : Progress) (a b : List ℕ) → Takes p q a → Takes q r b → Takes p r (a ++ b)
  takes_both p q r a b f g = record {
    goes_on = λ n rest.
        let one = f.goes_on n (b ++ rest) in
        let two = g.goes_on one.0 rest in
        (two.0, ap (λ (l : List ℕ). lines_leave first line_says 0 n p (lines_of l)) (append_assoc a b rest) ∙ one.1 ∙ two.1);
  }

  module _ (p : Progress) where
    abbrev now : Schema
    now = schema_after first p.history

    abbrev by_mark : ℕ → Partial → List Partial → Bool → Result Progress (ℕ × Refusal)
    by_mark n l ls m = elim (line_refusal first line_says m p l) [
      | Some refusal ↦ Err (n + 1, refusal)
      | None ↦ lines_leave first line_says 0 (n + 1) (left_by first p (said first line_says p l)) ls
    ]

    abbrev by_said : ℕ → List Partial → Result Line Refusal → Result Progress (ℕ × Refusal)
    by_said n ls s = elim (refusal_to first p s) [
      | Some refusal ↦ Err (n + 1, refusal)
      | None ↦ lines_leave first line_says 0 (n + 1) (left_by first p s) ls
    ]

    abbrev by_refusal : ℕ → List Partial → Progress → Option Refusal → Result Progress (ℕ × Refusal)
    by_refusal n ls q o = elim o [
      | Some refusal ↦ Err (n + 1, refusal)
      | None ↦ lines_leave first line_says 0 (n + 1) q ls
    ]

    takes_line : (body : List ℕ) (it : Line) → Within longest_line body → body_says now p.reading body ≡ Ok it → refusal_to first p (Ok it) ≡ None → Takes p (left_by first p (Ok it)) (line body)
    takes_line body it within says none = record {
      goes_on = λ n rest. (
        n + 1,
        ap (lines_leave first line_says 0 n p) (first_line body rest within)
            ∙ ap (by_mark n (Some (line body)) (lines_of rest)) (never n)
            ∙ ap (by_said n (lines_of rest)) (line_read now p.reading body within ∙ says)
            ∙ ap (by_refusal n (lines_of rest) (left_by first p (Ok it))) none,
      );
    }

    pub takes_clock : (body : List ℕ) (instant : ℕ) → Within longest_line body → body_says now p.reading body ≡ Ok (Clock instant) → Takes p (record { history = p.history; reading = instant }) (line body)
    takes_clock body instant within says = takes_line body (Clock instant) within says refl

    pub takes_step : (step : Step) (text : List ℕ) → IsLineOf now p.reading step text → is_refused (reply first p.history step) ≡ false
        → Takes p (record { history = step ∷ p.history; reading = p.reading }) text
    takes_step step text is taken =
        subst (λ (l : List ℕ). Takes p (record { history = step ∷ p.history; reading = p.reading }) l) (sym is.text_is)
        (takes_line is.body (Asks step) is.within is.says (none_in (reply first p.history step) taken))
