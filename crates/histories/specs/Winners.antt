-- The transactions that were committed, with the instants at which they began.
use Rattle.std.specs.Prelude.{◌≡◌, ℕ, ◌<◌, List, [], ◌∷◌, ◌++◌, Option, Some, None, Result, Ok, Contains}
use Rattle.std.specs.Map.{keys_of}
use Rattle.values.specs.declared.key.Key.{Key}
use Rattle.values.specs.declared.key.Transaction.{Transaction}
use Rattle.values.specs.declared.refusal.Refusal.{Refusal}
use Rattle.values.specs.Tables.{Schema}
use Rattle.values.specs.Log.{Log, Net, last, changes}
use Rattle.values.specs.Period.{Periods, periods_of}
use Rattle.values.specs.Entity.{unit_of}
use Rattle.values.specs.Commits.{outcome}
use Rattle.steps.specs.declared.step.Step.TheVariants.{Commit}
use Rattle.histories.specs.History.{History, schema_after, log, log_at_begin, net}

-- a committed transaction, and the instant of its snapshot
pub record Winner : Type 0 where
  pub start : ℕ
  pub transaction : Transaction

-- with the transaction that ended so, where it was committed
abbrev pub winners_with : List Winner → ℕ → Net → Result (Option ℕ) Refusal → List Winner
winners_with earlier start changed (Ok (Some instant)) =
    earlier ++ record {
      start = start;
      transaction = record { instant = instant; net = changed };
    } ∷ []
winners_with earlier start changed _ = earlier

-- how the transaction ends that a session has open, from the first tables on
abbrev pub end_of : Schema → History → ℕ → Log → ℕ → Result (Option ℕ) Refusal
end_of first h i before reading =
    outcome (periods_of (schema_after first h)) (changes (log first h)) (last (log first h))
    (last before) (net first h i) reading

-- the oldest first
abbrev pub winners : Schema → History → List Winner
winners first [] = []
winners first (Commit i reading ∷ h) = elim (log_at_begin first h i) [
  | None ↦ winners first h
  | Some before ↦
      winners_with (winners first h) (last before) (net first h i)
      (end_of first h i before reading)
]
winners first (step ∷ h) = winners first h

-- each began before the other was committed
abbrev pub AreConcurrent : Winner → Winner → Type 0
AreConcurrent v w = (v.start < w.transaction.instant) × (w.start < v.transaction.instant)

-- a key of each is of one unit: of one entity, where their table has a period of application time,
-- and else the same key
pub record ShareAUnit (periods : Periods) (v w : Winner) : Type 0 where
  pub key : Key
  pub other : Key
  pub in_first : Contains (keys_of v.transaction.net) key
  pub in_second : Contains (keys_of w.transaction.net) other
  pub one_unit : unit_of periods key ≡ unit_of periods other
