-- When a system stands for a history.
use Rattle.std.specs.Prelude.{◌≡◌, ℕ, ◌≤◌, ◌+◌, List, Bool, Option, Some, None, is_some, slice_index_or, length}
use Rattle.values.specs.Tables.{Schema}
use Rattle.values.specs.Log.{Log, last, changes}
use Rattle.steps.specs.declared.step.Step.{Step}
use Rattle.steps.specs.Misfit.{max_session}
use Rattle.histories.specs.History.{History, schema_after, log, log_at_begin, own, own_of, mine_of}
use Rattle.histories.specs.World.{OpenTransaction, World}

-- by the log now, the log at its BEGIN, where one is open, and its writes so far
abbrev pub open_from : Schema → Log → Option Log → List Step → Option OpenTransaction
open_from schema now None own = None
open_from schema now (Some before) own = Some (record {
  start = last before;
  rows = mine_of schema now (Some before) own;
  written = (own_of schema now (Some before) own).written;
})

-- the session's open transaction, as the history has it
abbrev pub open_in : Schema → History → ℕ → Option OpenTransaction
open_in first h i =
    open_from (schema_after first h) (log first h) (log_at_begin first h i) (own first h i)

-- the session's open transaction, as the system has it
abbrev pub open_at : World → ℕ → Option OpenTransaction
open_at w i = slice_index_or w.sessions i None

abbrev pub is_open_at : World → ℕ → Bool
is_open_at w i = is_some (open_at w i)

-- the system has the history's tables, what it committed, and its open transactions, from the first
-- tables on
pub record Stands (first : Schema) (w : World) (h : History) : Type 0 where
  pub schema_is : w.schema ≡ schema_after first h
  pub wide : length w.sessions ≡ max_session + 1
  pub changes_are : w.changes ≡ changes (log first h)
  pub latest_is : w.latest ≡ last (log first h)
  pub sessions_are : (i : ℕ) → i ≤ max_session → open_at w i ≡ open_in first h i
