-- Which conflict a refused COMMIT names.
use Rattle.std.specs.Prelude.{◌≡◌, ◌≢◌, ℕ, ◌<◌, ◌≤◌, Contains}
use Rattle.std.specs.Map.{keys_of}
use Rattle.std.specs.declared.cmp.Ordering.TheVariants.{Less}
use Rattle.values.specs.declared.key.Key.{Key}
use Rattle.values.specs.declared.key.Transaction.{Transaction}
use Rattle.values.specs.declared.refusal.Refusal.TheVariants.{Conflict}
use Rattle.values.specs.Order.{key_cmp}
use Rattle.values.specs.Tables.{Schema}
use Rattle.values.specs.TableRules.{AreTables}
use Rattle.values.specs.Log.{Log, Net}
use Rattle.values.specs.Period.{Periods, periods_of}
use Rattle.values.specs.Entity.{unit_of}
use Rattle.steps.specs.declared.step.Step.TheVariants.{Commit}
use Rattle.steps.specs.declared.step.Reply.TheVariants.{Refused}
use Rattle.histories.specs.History.{History, log, snap, net, reply}

-- net changes have a key of the unit
pub record HasUnit (periods : Periods) (net : Net) (unit : Key) : Type 0 where
  pub key : Key
  pub changed : Contains (keys_of net) key
  pub of_unit : unit_of periods key ≡ unit

-- a transaction of the log changed a key of the unit, at the instant
pub record IsChangedAt (periods : Periods) (log : Log) (unit : Key) (t : ℕ) : Type 0 where
  pub transaction : Transaction
  pub committed : Contains log transaction
  pub instant_is : transaction.instant ≡ t
  pub has : HasUnit periods transaction.net unit

-- of the units of net changes that were changed since a start, this one is the least; the instant is
-- the latest at which it was changed
pub record IsLeastConflict (periods : Periods) (log : Log) (start : ℕ) (net : Net) (unit : Key) (t : ℕ) : Type 0 where
  pub own : HasUnit periods net unit
  pub changed : IsChangedAt periods log unit t
  pub since : start < t
  pub latest : (s : ℕ) → IsChangedAt periods log unit s → s ≤ t
  pub least :
      (other : Key) (s : ℕ) → HasUnit periods net other → IsChangedAt periods log other s → start < s
      → key_cmp other unit ≢ Less

-- a COMMIT that is refused for a conflict names the least unit of the session's net change that was
-- changed since its snapshot, and the latest instant at which that unit was changed
abbrev pub ConflictIsLeast : Schema → Type 0
ConflictIsLeast first =
    AreTables 1 first.tables
    → (h : History) (i reading : ℕ) (unit : Key) (t : ℕ)
    → reply first h (Commit i reading) ≡ Refused (Conflict unit t)
    → IsLeastConflict (periods_of first) (log first h) (snap first h i) (net first h i) unit t

-- a COMMIT whose net change has a unit that was changed since its snapshot is refused for a conflict
abbrev pub ConflictIsReported : Schema → Type 0
ConflictIsReported first =
    (h : History) (i reading s : ℕ) (other : Key)
    → HasUnit (periods_of first) (net first h i) other
    → IsChangedAt (periods_of first) (log first h) other s → snap first h i < s
    → (unit : Key) × ((t : ℕ) × (reply first h (Commit i reading) ≡ Refused (Conflict unit t)))

-- there is only one such unit and instant, so the two laws above determine the reply
abbrev pub ConflictIsUnique : Type 0
ConflictIsUnique =
    (periods : Periods) (log : Log) (start : ℕ) (net : Net) (unit other : Key) (t s : ℕ)
    → IsLeastConflict periods log start net unit t
    → IsLeastConflict periods log start net other s
    → (unit ≡ other) × (t ≡ s)
