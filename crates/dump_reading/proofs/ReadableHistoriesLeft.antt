-- Scripts leave histories of readable steps.
use Rattle.std.proofs.Common.{◌≡◌, ℕ, ◌+◌, Bool, true, false, List, [], ◌∷◌, Option, Some, None, refl, sym, subst}
use Rattle.std.specs.Prelude.{Ok, Err, Result, ◌==◌, ◌&&◌, if◌then◌else◌}
use Rattle.values.specs.declared.refusal.Refusal.{Refusal}
use Rattle.values.specs.Tables.{Schema}
use Rattle.histories.specs.History.{schema_after}
use Rattle.lines.specs.Lines.{lines_of}
use Rattle.lines.specs.Partial.{Partial, add, ended}
use Rattle.statement.specs.declared.line.Line.{Line}
use Rattle.statement.specs.declared.line.Line.TheVariants.{Nothing, Clock, Step as Asks}
use Rattle.statement.specs.Line.{line_says}
use Rattle.scripts.specs.Replay.{line_refusal, lines_leave}
use Rattle.scripts.specs.Transcript.{Progress, after, is_risky, last_leaves, leaves, left_by, line_leaves, mark, marks_after, said}
use Rattle.dump_reading.specs.ReadableHistories.{IsReadableHistory, ReplaysLeaveReadable, ScriptsLeaveReadable}
use Rattle.dump_reading.proofs.ReadableHistoriesSteps.{asked_steps_are_readable}

module _ (first : Schema) where
  left : (p : Progress) (line : Partial) → IsReadableHistory p.history → IsReadableHistory (left_by first p (said first line_says p line)).history
  left p None readable = readable
  left p (Some bytes) readable = by (line_says (schema_after first p.history) p.reading bytes) refl
    where
      by : (r : Result Line Refusal) → line_says (schema_after first p.history) p.reading bytes ≡ r → IsReadableHistory (left_by first p r).history
      by (Err refusal) is = readable
      by (Ok Nothing) is = readable
      by (Ok (Clock reading)) is = readable
      by (Ok (Asks step)) is = (asked_steps_are_readable (schema_after first p.history) p.reading bytes step is, readable)

  -- ---- a text that is replayed

  all_left : (out n : ℕ) (p q : Progress) (ls : List Partial) → lines_leave first line_says out n p ls ≡ Ok q → IsReadableHistory p.history → IsReadableHistory q.history
  all_left out n p q [] is readable = subst (λ (r : Progress). IsReadableHistory r.history) (same p q is) readable
    where
      same : (a b : Progress) → ◌≡◌ {A = Result Progress (ℕ × Refusal)} (Ok a) (Ok b) → a ≡ b
      same a b is = cc
  all_left out n p q (l ∷ ls) is readable =
      by (line_refusal first line_says (out == n + 1) p l) is (λ goes. all_left out (n + 1) (left_by first p (said first line_says p l)) q ls goes (left p l readable))
    where
      by : (o : Option Refusal)
          → ◌≡◌ {A = Result Progress (ℕ × Refusal)} (elim o [ Some refusal ↦ Err (n + 1, refusal) | None ↦ lines_leave first line_says out (n + 1) (left_by first p (said first line_says p l)) ls ]) (Ok q)
          → (lines_leave first line_says out (n + 1) (left_by first p (said first line_says p l)) ls ≡ Ok q → IsReadableHistory q.history) → IsReadableHistory q.history
      by (Some refusal) is rest = cc
      by None is rest = rest is

  -- ---- a script

  line_left : (m : Bool) (p : Progress) (line : Partial) → IsReadableHistory p.history → IsReadableHistory (line_leaves first line_says m p line).history
  line_left m p line readable = by (m && is_risky first line_says p line)
    where
      by : (b : Bool) → IsReadableHistory (if b then p else left_by first p (said first line_says p line)).history
      by true = readable
      by false = left p line readable

  last_left : (m : Bool) (p : Progress) (line : Partial) → IsReadableHistory p.history → IsReadableHistory (last_leaves first line_says m p line).history
  last_left m p None readable = line_left m p None readable
  last_left m p (Some []) readable = readable
  last_left m p (Some (b ∷ bytes)) readable = line_left m p (Some (b ∷ bytes)) readable

  script_left : (ms : List Bool) (p : Progress) (line : Partial) (text : List ℕ) → IsReadableHistory p.history → IsReadableHistory (leaves first line_says ms p line text).history
  script_left ms p line [] readable = last_left (mark ms) p line readable
  script_left ms p line (b ∷ bytes) readable =
      by (b == 10) (script_left (marks_after ms) (line_leaves first line_says (mark ms) p (ended line)) (Some []) bytes (line_left (mark ms) p (ended line) readable)) (script_left ms p (add line b) bytes readable)
    where
      by : (t : Bool) → IsReadableHistory (leaves first line_says (marks_after ms) (line_leaves first line_says (mark ms) p (ended line)) (Some []) bytes).history
          → IsReadableHistory (leaves first line_says ms p (add line b) bytes).history
          → IsReadableHistory (if t then leaves first line_says (marks_after ms) (line_leaves first line_says (mark ms) p (ended line)) (Some []) bytes else leaves first line_says ms p (add line b) bytes).history
      by true f g = f
      by false f g = g

pub replays_leave_readable : ReplaysLeaveReadable
replays_leave_readable first h later text replays readable =
    subst IsReadableHistory (sym replays.later_is) (all_left first 0 0 (after h) replays.progress (lines_of text) replays.leaves readable)

pub scripts_leave_readable : ScriptsLeaveReadable
scripts_leave_readable first h marks text readable = script_left first marks (after h) (Some []) text readable
