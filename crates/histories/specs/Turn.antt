-- What a step answers and leaves, by what contracts see of the system.
use Rattle.std.specs.Prelude.{ℕ, List, [], ◌∷◌, Option, Some, None, Result, Ok, Err, Bool, false, slice_set, nat_le, ◌&&◌, ◌||◌, if◌then◌else◌, map, filter, is_some}
use Rattle.values.specs.declared.key.Key.{Key}
use Rattle.values.specs.declared.table.Table.{Table}
use Rattle.values.specs.declared.query.Form.{Form}
use Rattle.values.specs.declared.query.Form.TheVariants.{Plain, AsOf, FromTo, Between}
use Rattle.values.specs.declared.query.Keys.{Keys}
use Rattle.values.specs.declared.query.Shown.{Shown as Version}
use Rattle.values.specs.declared.refusal.Refusal.{Refusal}
use Rattle.values.specs.declared.refusal.Refusal.TheVariants.{NoTable, NoTransaction, InTransaction, TransactionsOpen}
use Rattle.values.specs.Order.{is_key}
use Rattle.values.specs.Log.{Changes, Net, Row, row_at, add_net}
use Rattle.values.specs.RowsAfter.{rows_after}
use Rattle.values.specs.Law.{changes_upto}
use Rattle.values.specs.Events.{later}
use Rattle.values.specs.Tables.{Schema, table_at}
use Rattle.values.specs.Versions.{answer}
use Rattle.values.specs.Writes.{Own}
use Rattle.values.specs.Period.{periods_of}
use Rattle.values.specs.Commits.{outcome}
use Rattle.steps.specs.declared.step.Step.{Step}
use Rattle.steps.specs.declared.step.Step.TheVariants.{Begin, Insert, Update, Delete, UpdatePortion, DeletePortion, Select, Commit, Rollback, AddColumn, SplitKey, SplitTime, Migrate}
use Rattle.steps.specs.declared.step.Listing.{Listing}
use Rattle.steps.specs.declared.step.Listing.TheVariants.{Rows, Periods}
use Rattle.steps.specs.declared.step.Reply.{Reply}
use Rattle.steps.specs.declared.step.Reply.TheVariants.{Begun, Shown, Committed, RolledBack, Altered, Done, Refused}
use Rattle.steps.specs.Misfit.{misfit}
use Rattle.values.specs.declared.table.ColumnType.{ColumnType}
use Rattle.values.specs.Columns.{new_column, add_column}
use Rattle.steps.specs.Idle.{is_idle}
use Rattle.steps.specs.Write.{write}
use Rattle.steps.specs.Reply.{written_reply}
use Rattle.steps.specs.Listing.{rows_taken, rows_of}
use Rattle.histories.specs.World.{OpenTransaction, World}
use Rattle.histories.specs.Stands.{open_at, is_open_at}

-- a reply, and the system after it
abbrev pub Turn : Type 0
Turn = Reply × World

abbrev pub put : World → ℕ → Option OpenTransaction → World
put w i transaction = record {
  schema = w.schema;
  changes = w.changes;
  latest = w.latest;
  sessions = slice_set w.sessions i transaction;
}

-- ---- BEGIN and ROLLBACK

-- a transaction that begins now
abbrev pub opened_now : World → OpenTransaction
opened_now w = record { start = w.latest; rows = rows_after [] w.changes; written = [] }

abbrev pub begin_turn : World → ℕ → Turn
begin_turn w i = elim (open_at w i) [
  | Some s ↦ (Refused InTransaction, w)
  | None ↦ (Begun w.latest, put w i (Some (opened_now w)))
]

abbrev pub rollback_turn : World → ℕ → Turn
rollback_turn w i = elim (open_at w i) [
  | None ↦ (Refused NoTransaction, w)
  | Some s ↦ (RolledBack, put w i None)
]

-- ---- INSERT, UPDATE, DELETE

abbrev pub own_in : OpenTransaction → Own
own_in s = record { rows = s.rows; written = s.written }

-- the transaction, with these rows and keys of its own
abbrev pub with_own : OpenTransaction → Own → OpenTransaction
with_own s o = record { start = s.start; rows = o.rows; written = o.written }

-- a write in a session's open transaction
abbrev pub write_turn : World → ℕ → Step → Turn
write_turn w i step = elim (open_at w i) [
  | None ↦ (Refused NoTransaction, w)
  | Some s ↦
      let done = write w.schema step (own_in s) in
      (written_reply step done.0, put w i (Some (with_own s done.1)))
]

-- ---- SELECT

abbrev pub start_of : World → Option OpenTransaction → ℕ
start_of w None = w.latest
start_of w (Some s) = s.start

-- what a session sees of what was committed
abbrev pub answer_to : World → Option OpenTransaction → Table → Form → Keys → List Version
answer_to w s table form keys = answer (changes_upto w.changes (start_of w s)) table form keys

abbrev pub listing : World → Option OpenTransaction → Form → Table → Keys → Listing
listing w (Some s) Plain table keys = Rows (rows_taken table keys s.rows)
listing w None Plain table keys = Rows (rows_of (answer_to w None table Plain keys))
listing w s (AsOf t) table keys = Rows (rows_of (answer_to w s table (AsOf t) keys))
listing w s (FromTo a b) table keys = Periods (answer_to w s table (FromTo a b) keys)
listing w s (Between a b) table keys = Periods (answer_to w s table (Between a b) keys)

abbrev pub select_reply : World → ℕ → Form → Keys → Reply
select_reply w i form keys = elim (table_at w.schema keys.table) [
  | None ↦ Refused NoTable
  | Some table ↦ Shown (listing w (open_at w i) form table keys)
]

-- ---- COMMIT

-- the key's last change at the instant or before it
abbrev pub last_until : Changes → ℕ → Key → Option (ℕ × Option Row)
last_until [] t key = None
last_until (c ∷ cs) t key =
    later (last_until cs t key)
    (if is_key key c.0.key && nat_le c.0.instant t then Some (c.0.instant, c.1) else None)

-- the key had a row at the instant
abbrev pub was_there : Changes → ℕ → Key → Bool
was_there m t key = elim (last_until m t key) [ Some c ↦ is_some c.1 | None ↦ false ]

-- what the written keys have in the end, without those that are absent both then and before
abbrev pub net_in : Changes → OpenTransaction → Net
net_in m s =
    filter (λ c. is_some c.1 || was_there m s.start c.0) (map (λ k. (k, row_at s.rows k)) s.written)

-- with what a transaction committed at an instant
abbrev pub after_commit : ℕ → Net → World → World
after_commit instant net w = record {
  schema = w.schema;
  changes = add_net instant w.changes net;
  latest = instant;
  sessions = w.sessions;
}

abbrev pub end_turn : World → ℕ → Net → Result (Option ℕ) Refusal → Turn
end_turn w i net (Ok (Some instant)) =
    (Committed (Some instant), put (after_commit instant net w) i None)
end_turn w i net (Ok None) = (Committed None, put w i None)
end_turn w i net (Err refusal) = (Refused refusal, put w i None)

abbrev pub commit_turn : World → ℕ → ℕ → Turn
commit_turn w i reading = elim (open_at w i) [
  | None ↦ (Refused NoTransaction, w)
  | Some s ↦
      let net = net_in w.changes s in
      end_turn w i net (outcome (periods_of w.schema) w.changes w.latest s.start net reading)
]

-- ---- ALTER

abbrev pub with_schema : Schema → World → World
with_schema schema w = record {
  schema = schema;
  changes = w.changes;
  latest = w.latest;
  sessions = w.sessions;
}

abbrev pub alter_turn : World → ℕ → List ℕ → ColumnType → Turn
alter_turn w number name of =
    if is_idle (is_open_at w)
    then (Altered, with_schema (add_column number (new_column name of) w.schema) w)
    else (Refused TransactionsOpen, w)

-- ---- every step

-- a step that fits the schema
abbrev pub turn_in : World → Step → Turn
turn_in w (Begin i) = begin_turn w i
turn_in w (Insert i number rows) = write_turn w i (Insert i number rows)
turn_in w (Update i keys sets) = write_turn w i (Update i keys sets)
turn_in w (Delete i keys) = write_turn w i (Delete i keys)
turn_in w (UpdatePortion i keys cut sets) = write_turn w i (UpdatePortion i keys cut sets)
turn_in w (DeletePortion i keys cut) = write_turn w i (DeletePortion i keys cut)
turn_in w (Select i form keys) = (select_reply w i form keys, w)
turn_in w (Commit i reading) = commit_turn w i reading
turn_in w (Rollback i) = rollback_turn w i
turn_in w (AddColumn i number name of) = alter_turn w number name of
turn_in w (SplitKey key) = (Done, w)
turn_in w (SplitTime key instant) = (Done, w)
turn_in w Migrate = (Done, w)

abbrev pub turn : World → Step → Turn
turn w step = elim (misfit w.schema step) [
  | Some refusal ↦ (Refused refusal, w)
  | None ↦ turn_in w step
]
