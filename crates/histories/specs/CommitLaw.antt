-- What a COMMIT makes of what is committed: of the rows by key, and of the points of application time.
use Rattle.std.specs.Prelude.{◌≡◌, ◌≢◌, ℕ, ℤ, ◌∷◌, Some}
use Rattle.values.specs.declared.key.Key.{Key}
use Rattle.values.specs.declared.period.Period.{Period}
use Rattle.values.specs.declared.table.Table.{Table}
use Rattle.values.specs.Tables.{Schema, table_at}
use Rattle.values.specs.Log.{State, row_at, state, last}
use Rattle.values.specs.Period.{periods_of}
use Rattle.values.specs.Entity.{unit_of}
use Rattle.steps.specs.declared.step.Step.TheVariants.{Commit}
use Rattle.steps.specs.declared.step.Reply.TheVariants.{Committed}
use Rattle.periods.specs.Point.{point}
use Rattle.histories.specs.History.{History, schema_after, log, mine, net, reply}
use Rattle.histories.specs.Conflict.{HasUnit}

-- what is committed: the rows at the last instant
abbrev pub committed : Schema → History → State
committed first h = state (log first h) (last (log first h))

-- after the steps, the reply to a COMMIT is an instant: it commits a net change
abbrev pub IsCommittedAt : Schema → History → ℕ → ℕ → ℕ → Type 0
IsCommittedAt first h i reading t = reply first h (Commit i reading) ≡ Committed (Some t)

-- the session's net change has a key of the unit
abbrev pub Touches : Schema → History → ℕ → Key → Type 0
Touches first h i unit = HasUnit (periods_of first) (net first h i) unit

-- this instant is then the last
abbrev pub CommitsAtItsInstant : Schema → Type 0
CommitsAtItsInstant first =
    (h : History) (i reading t : ℕ) → IsCommittedAt first h i reading t
    → last (log first (Commit i reading ∷ h)) ≡ t

-- after a COMMIT, each key of a unit that the session's net change touches has the row that the
-- session saw
abbrev pub TouchedRowsAreSeen : Schema → Type 0
TouchedRowsAreSeen first =
    (h : History) (i reading t : ℕ) → IsCommittedAt first h i reading t
    → (key : Key) → Touches first h i (unit_of (periods_of first) key)
    → row_at (committed first (Commit i reading ∷ h)) key ≡ row_at (mine first h i) key

-- every other key has the row that was committed before
abbrev pub UntouchedRowsStay : Schema → Type 0
UntouchedRowsStay first =
    (h : History) (i reading t : ℕ) → IsCommittedAt first h i reading t
    → (key : Key) → ¬ (Touches first h i (unit_of (periods_of first) key))
    → row_at (committed first (Commit i reading ∷ h)) key ≡ row_at (committed first h) key

-- so, in a table with a period, what is committed has, of each entity that the net change touches, at
-- each time, the values that the session saw
abbrev pub TouchedPointsAreSeen : Schema → Type 0
TouchedPointsAreSeen first =
    (h : History) (i reading t : ℕ) → IsCommittedAt first h i reading t
    → (table : Table) (p : Period) (entity : Key) (time : ℤ)
    → table_at (schema_after first h) entity.table ≡ Some table → table.period ≡ Some p
    → Touches first h i entity
    → point table p (committed first (Commit i reading ∷ h)) entity time
    ≡ point table p (mine first h i) entity time

-- and, of every other entity, at each time, the values that were committed before
abbrev pub UntouchedPointsStay : Schema → Type 0
UntouchedPointsStay first =
    (h : History) (i reading t : ℕ) → IsCommittedAt first h i reading t
    → (table : Table) (p : Period) (entity : Key) (time : ℤ)
    → table_at (schema_after first h) entity.table ≡ Some table → table.period ≡ Some p
    → ¬ (Touches first h i entity)
    → point table p (committed first (Commit i reading ∷ h)) entity time
    ≡ point table p (committed first h) entity time

-- a COMMIT with any other reply commits nothing
abbrev pub OthersCommitNothing : Schema → Type 0
OthersCommitNothing first =
    (h : History) (i reading : ℕ)
    → ((t : ℕ) → reply first h (Commit i reading) ≢ Committed (Some t))
    → log first (Commit i reading ∷ h) ≡ log first h
