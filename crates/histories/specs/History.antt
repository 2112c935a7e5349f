-- What a list of steps comes to, and the reply to each.
use Rattle.std.specs.Prelude.{ℕ, List, [], ◌∷◌, ◌++◌, ◌&&◌, ◌||◌, Option, Some, None, Bool, false, is_some, is_none, if◌then◌else◌, not, nat_le, ◌==◌}
use Rattle.values.specs.declared.table.Table.{Table}
use Rattle.values.specs.declared.query.Form.{Form}
use Rattle.values.specs.declared.query.Form.TheVariants.{Plain, AsOf, FromTo, Between}
use Rattle.values.specs.declared.query.Keys.{Keys}
use Rattle.values.specs.declared.query.Shown.{Shown}
use Rattle.values.specs.declared.refusal.Refusal.TheVariants.{NoTable, NoTransaction, InTransaction, TransactionsOpen}
use Rattle.values.specs.Tables.{Schema, table_at}
use Rattle.values.specs.Columns.{new_column, add_column}
use Rattle.values.specs.Log.{Log, State, Net, last, upto, state, changes}
use Rattle.values.specs.Versions.{answer}
use Rattle.values.specs.Period.{periods_of}
use Rattle.values.specs.Commits.{outcome, after}
use Rattle.values.specs.Writes.{Own, net_of}
use Rattle.steps.specs.declared.step.Step.{Step}
use Rattle.steps.specs.declared.step.Step.TheVariants.{Begin, Select, Commit, Rollback, AddColumn}
use Rattle.steps.specs.declared.step.Listing.{Listing}
use Rattle.steps.specs.declared.step.Listing.TheVariants.{Rows, Periods}
use Rattle.steps.specs.declared.step.Reply.{Reply}
use Rattle.steps.specs.declared.step.Reply.TheVariants.{Begun, Shown as Shows, RolledBack, Altered, Done, Refused}
use Rattle.steps.specs.Idle.{is_idle}
use Rattle.steps.specs.Misfit.{max_session, misfit}
use Rattle.steps.specs.Write.{write, writer, is_write_of}
use Rattle.steps.specs.Reply.{commit_reply, is_refused, write_reply}
use Rattle.steps.specs.Listing.{rows_of, rows_taken}

-- the steps so far, the newest first
abbrev pub History : Type 0
History = List Step

-- the session whose transaction the step ends
abbrev pub ends : ℕ → Step → Bool
ends i (Commit j reading) = i == j
ends i (Rollback j) = i == j
ends i step = false

abbrev pub begins : ℕ → Step → Bool
begins i (Begin j) = (i == j) && nat_le i max_session
begins i step = false

-- which sessions have a transaction open: they have had a BEGIN since their last end
abbrev pub has_open : History → ℕ → Bool
has_open [] i = false
has_open (step ∷ h) i = not (ends i step) && (begins i step || has_open h i)

-- the tables after a step, by those before it: a step that adds a column, and fits, adds it where
-- no session has a transaction open
abbrev pub schema_by : Schema → Bool → Step → Schema
schema_by now idle (AddColumn i number name of) =
    if is_none (misfit now (AddColumn i number name of)) && idle
    then add_column number (new_column name of) now else now
schema_by now idle step = now

-- the tables after the steps, by the first ones
abbrev pub schema_after : Schema → History → Schema
schema_after first [] = first
schema_after first (step ∷ h) = schema_by (schema_after first h) (is_idle (has_open h)) step

-- what writes leave, one after another
abbrev pub rewrite_all : Schema → List Step → Own → Own
rewrite_all schema [] o = o
rewrite_all schema (step ∷ own) o = rewrite_all schema own (write schema step o).1

-- of an open transaction, by the log now, the log at its BEGIN, where one is open, and its writes
-- so far
abbrev pub snap_of : Log → Option Log → ℕ
snap_of now None = last now
snap_of now (Some before) = last before

abbrev pub seen_of : Log → Option Log → State
seen_of now log_at_begin = state now (snap_of now log_at_begin)

module _ (schema : Schema) where
  abbrev pub own_of : Log → Option Log → List Step → Own
  own_of now log_at_begin own =
      rewrite_all schema own (record { rows = seen_of now log_at_begin; written = [] })

  abbrev pub mine_of : Log → Option Log → List Step → State
  mine_of now log_at_begin own = (own_of now log_at_begin own).rows

  abbrev pub net_change_of : Log → Option Log → List Step → Net
  net_change_of now log_at_begin own =
      net_of (seen_of now log_at_begin)
      (own_of now log_at_begin own).rows (own_of now log_at_begin own).written

  -- a write that is the session's and is not refused, with one open
  abbrev pub is_kept : Step → ℕ → Log → Option Log → List Step → Bool
  is_kept step i now log_at_begin own =
      is_write_of i step && is_some log_at_begin
      && not (is_refused (write_reply schema step (own_of now log_at_begin own)))

module _ (first : Schema) where
  abbrev mutual
    -- what was committed
    pub log : History → Log
    log [] = []
    log (Commit i reading ∷ h) = elim (log_at_begin h i) [
      | None ↦ log h
      | Some before ↦
          after (periods_of (schema_after first h)) (log h) (last before)
          (net_change_of (schema_after first h) (log h) (log_at_begin h i) (own h i)) reading
    ]
    log (step ∷ h) = log h

    -- the log at the BEGIN of the session's open transaction
    pub log_at_begin : History → ℕ → Option Log
    log_at_begin [] i = None
    log_at_begin (step ∷ h) i =
        if ends i step then None
        else if begins i step && is_none (log_at_begin h i) then Some (log h)
        else log_at_begin h i

    -- the session's writes since then that were not refused, the oldest first
    pub own : History → ℕ → List Step
    own [] i = []
    own (step ∷ h) i =
        if ends i step then []
        else if is_kept (schema_after first h) step i (log h) (log_at_begin h i) (own h i)
        then own h i ++ step ∷ []
        else own h i

  abbrev pub snap : History → ℕ → ℕ
  snap h i = snap_of (log h) (log_at_begin h i)

  abbrev pub mine : History → ℕ → State
  mine h i = mine_of (schema_after first h) (log h) (log_at_begin h i) (own h i)

  abbrev pub net : History → ℕ → Net
  net h i = net_change_of (schema_after first h) (log h) (log_at_begin h i) (own h i)

  -- what a query of a table shows of what was committed when the session's transaction began
  abbrev pub answer_in : History → ℕ → Form → Table → Keys → List Shown
  answer_in h i form table keys = answer (changes (upto (log h) (snap h i))) table form keys

  -- what a query of a table shows
  abbrev pub listing : History → ℕ → Form → Table → Keys → Listing
  listing h i Plain table keys = elim (log_at_begin h i) [
    | Some before ↦ Rows (rows_taken table keys (mine h i))
    | None ↦ Rows (rows_of (answer_in h i Plain table keys))
  ]
  listing h i (AsOf t) table keys = Rows (rows_of (answer_in h i (AsOf t) table keys))
  listing h i (FromTo a b) table keys = Periods (answer_in h i (FromTo a b) table keys)
  listing h i (Between a b) table keys = Periods (answer_in h i (Between a b) table keys)

  -- the reply to a step that fits the schema
  abbrev pub reply_in : History → Step → Reply
  reply_in h (Begin i) = elim (log_at_begin h i) [
    | Some before ↦ Refused InTransaction
    | None ↦ Begun (last (log h))
  ]
  reply_in h (Select i form keys) = elim (table_at (schema_after first h) keys.table) [
    | None ↦ Refused NoTable
    | Some table ↦ Shows (listing h i form table keys)
  ]
  reply_in h (Commit i reading) = elim (log_at_begin h i) [
    | Some before ↦
        commit_reply (outcome (periods_of (schema_after first h)) (changes (log h)) (last (log h)) (snap h i) (net h i) reading)
    | None ↦ Refused NoTransaction
  ]
  reply_in h (Rollback i) = elim (log_at_begin h i) [
    | Some before ↦ RolledBack
    | None ↦ Refused NoTransaction
  ]
  reply_in h (AddColumn i number name of) =
      if is_idle (has_open h) then Altered else Refused TransactionsOpen
  reply_in h step = elim (writer step) [
    | None ↦ Done
    | Some i ↦ elim (log_at_begin h i) [
      | None ↦ Refused NoTransaction
      | Some before ↦
          write_reply (schema_after first h) step (own_of (schema_after first h) (log h) (log_at_begin h i) (own h i))
    ]
  ]

  abbrev pub reply : History → Step → Reply
  reply h step = elim (misfit (schema_after first h) step) [
    | Some refusal ↦ Refused refusal
    | None ↦ reply_in h step
  ]

  -- the replies to steps in turn
  abbrev pub replies : History → List Step → List Reply
  replies h [] = []
  replies h (step ∷ steps) = reply h step ∷ replies (step ∷ h) steps
