-- What a store begins with that takes over from a system.
use Rattle.std.proofs.Common.{◌≡◌, ℕ, true, sym, ap, ◌∙◌, subst}
use Rattle.values.specs.Tables.{Schema}
use Rattle.values.specs.Log.{Changes, changes, last as last_of}
use Rattle.growlog.specs.Origin.{Origin}
use Rattle.steps.specs.Idle.{is_idle}
use Rattle.histories.specs.History.{History, has_open, log}
use Rattle.restoring.specs.FromChanges.{log_of}
use Rattle.restoring.specs.OfHistories.{HistoriesAreOfChanges}
use Rattle.interleaving.specs.SystemState.{Stands, SystemState, changes_in}
use Rattle.sessions.specs.staging.View.{Holds}
use Rattle.sessions.specs.tsbtree.View.{TreeState, events, last}
use Rattle.runs.specs.OneHistory.{Carries}

-- the tables, the transactions that are read off what the tree holds, and how many entries there may be
abbrev pub taken : Schema → TreeState → ℕ → Origin
taken schema engine most = record { schema = schema; log = log_of (changes_in schema (events engine)); most_entries = most }

module _ (law : HistoriesAreOfChanges) (s : SystemState) (start : Schema) (before : History) (stands : Stands start s before) where
  abbrev m : Changes
  m = changes_in s.schema (events s.engine)

  log_is : log_of m ≡ log start before
  log_is = ap log_of stands.changes_are ∙ law start before

  -- by the parts of the system
  module _ (schema : Schema) (engine : TreeState) (most : ℕ) (schema_is : schema ≡ s.schema) (engine_is : engine ≡ s.engine) where
    pub holds : Holds s.schema s.engine m → Holds schema engine (changes (taken schema engine most).log)
    holds held =
        subst (λ schema. Holds schema engine (changes (taken schema engine most).log)) (sym schema_is)
        (subst (λ engine. Holds s.schema engine (changes (taken s.schema engine most).log)) (sym engine_is)
        (subst (Holds s.schema s.engine) (stands.changes_are ∙ sym (ap changes log_is)) held))

    pub clock : last engine ≡ last_of (taken schema engine most).log
    clock =
        subst (λ schema. last engine ≡ last_of (taken schema engine most).log) (sym schema_is)
        (subst (λ engine. last engine ≡ last_of (taken s.schema engine most).log) (sym engine_is)
        (stands.latest_is ∙ sym (ap last_of log_is)))

    pub carries : is_idle (has_open before) ≡ true → Carries start before (taken schema engine most)
    carries idle = record {
      idle = idle;
      origin_is = (λ k. taken (schema_is k) (engine_is k) most) ∙ (λ k. record { schema = stands.schema_is k; log = log_is k; most_entries = most });
    }
