-- Replies: to writes, to commits, and those that memory ran out.
use Rattle.std.specs.Prelude.{ℕ, Option, Some, None, Result, Ok, Err, Bool, true, false, not}
use Rattle.values.specs.declared.refusal.Refusal.{Refusal}
use Rattle.values.specs.declared.refusal.Refusal.TheVariants.{Memory}
use Rattle.values.specs.Tables.{Schema}
use Rattle.values.specs.Writes.{Own}
use Rattle.steps.specs.declared.step.Step.{Step}
use Rattle.steps.specs.declared.step.Step.TheVariants.{Begin, Insert, Update, Delete, UpdatePortion, DeletePortion, Commit, Rollback, AddColumn}
use Rattle.steps.specs.declared.step.Reply.{Reply}
use Rattle.steps.specs.declared.step.Reply.TheVariants.{Inserted, Updated, Deleted, Committed, Done, Refused}
use Rattle.steps.specs.Idle.{is_idle}
use Rattle.steps.specs.Misfit.{misfit}
use Rattle.steps.specs.Write.{write, writer}

abbrev pub write_count : Step → ℕ → Reply
write_count (Insert i number rows) count = Inserted count
write_count (Update i keys sets) count = Updated count
write_count (Delete i keys) count = Deleted count
write_count (UpdatePortion i keys cut sets) count = Updated count
write_count (DeletePortion i keys cut) count = Deleted count
write_count step count = Done

abbrev pub written_reply : Step → Result ℕ Refusal → Reply
written_reply step (Ok count) = write_count step count
written_reply step (Err refusal) = Refused refusal

-- the reply to a write of an open transaction, by the rows that it sees and the keys that it wrote
abbrev pub write_reply : Schema → Step → Own → Reply
write_reply schema step o = elim (misfit schema step) [
  | Some refusal ↦ Refused refusal
  | None ↦ written_reply step (write schema step o).0
]

abbrev pub commit_reply : Result (Option ℕ) Refusal → Reply
commit_reply (Ok instant) = Committed instant
commit_reply (Err refusal) = Refused refusal

abbrev pub is_refused : Reply → Bool
is_refused (Refused _) = true
is_refused _ = false

abbrev pub is_out_of_memory : Reply → Bool
is_out_of_memory (Refused Memory) = true
is_out_of_memory _ = false

-- of a step that fits, by which sessions have a transaction open: BEGIN with one open, a write or
-- COMMIT with none, ROLLBACK, and ALTER where any session has one open
abbrev pub takes_no_memory_by : (ℕ → Bool) → Step → Bool
takes_no_memory_by has_open (Begin i) = has_open i
takes_no_memory_by has_open (Commit i reading) = not (has_open i)
takes_no_memory_by has_open (Rollback i) = true
takes_no_memory_by has_open (AddColumn i number name of) = not (is_idle has_open)
takes_no_memory_by has_open step = elim (writer step) [ Some i ↦ not (has_open i) | None ↦ false ]
