-- Steps of maintenance change no reply to another step, and nothing of what is committed.
use Rattle.std.proofs.Common.{◌≡◌, ℕ, true, List, [], ◌∷◌, ◌++◌, Some, None, refl, ap}
use Rattle.std.specs.Prelude.{if◌then◌else◌, ◌&&◌, ◌||◌, not, is_none}
use Rattle.values.specs.declared.table.Table.{Table}
use Rattle.values.specs.declared.query.Form.{Form}
use Rattle.values.specs.declared.query.Form.TheVariants.{Plain, AsOf, FromTo, Between}
use Rattle.values.specs.declared.query.Keys.{Keys}
use Rattle.values.specs.declared.refusal.Refusal.TheVariants.{NoTable, NoTransaction, InTransaction, TransactionsOpen}
use Rattle.values.specs.Tables.{Schema, table_at}
use Rattle.values.specs.Log.{last, upto, changes}
use Rattle.values.specs.Versions.{answer}
use Rattle.values.specs.Period.{periods_of}
use Rattle.values.specs.Commits.{outcome, after}
use Rattle.steps.specs.declared.step.Step.{Step}
use Rattle.steps.specs.declared.step.Step.TheVariants.{Begin, Insert, Update, Delete, UpdatePortion, DeletePortion, Select, Commit, Rollback, AddColumn, SplitKey, SplitTime, Migrate}
use Rattle.steps.specs.declared.step.Listing.TheVariants.{Rows, Periods}
use Rattle.steps.specs.declared.step.Reply.TheVariants.{Begun, RolledBack, Altered, Refused, Shown as Shows}
use Rattle.steps.specs.Misfit.{misfit}
use Rattle.histories.specs.History.{History, schema_after, schema_by, has_open, log, log_at_begin, own, own_of, mine_of, snap_of, net_change_of, is_kept, ends, begins, listing, reply, reply_in, replies}
use Rattle.steps.specs.Idle.{is_idle}
use Rattle.steps.specs.Reply.{commit_reply, write_reply}
use Rattle.steps.specs.Listing.{rows_taken, rows_of}
use Rattle.histories.specs.Maintenance.{is_maintenance, without_maintenance, with_maintenance, maintenance_reply}
use Rattle.histories.specs.Law.{MaintenanceChangesNoReply, MaintenanceCommitsNothing}

module _ (schema : Schema) where
  -- histories that committed the same, and have the same open
  record AreAlike (h g : History) : Type 0 where
    same_log : log schema h ≡ log schema g
    same_opened : (i : ℕ) → log_at_begin schema h i ≡ log_at_begin schema g i
    same_own : (i : ℕ) → own schema h i ≡ own schema g i
    same_tables : schema_after schema h ≡ schema_after schema g
    same_open : (i : ℕ) → has_open h i ≡ has_open g i

  log_more : (h g : History) (step : Step) → AreAlike h g → log schema (step ∷ h) ≡ log schema (step ∷ g)
  log_more h g (Commit i reading) alike =
      λ k. elim (alike.same_opened i k) [
        | None ↦ alike.same_log k
        | Some before ↦ after (periods_of (alike.same_tables k)) (alike.same_log k) (last before) (net_change_of (alike.same_tables k) (alike.same_log k) (alike.same_opened i k) (alike.same_own i k)) reading
      ]
  log_more h g (Begin i) alike = alike.same_log
  log_more h g (Insert i number rows) alike = alike.same_log
  log_more h g (Update i keys sets) alike = alike.same_log
  log_more h g (Delete i keys) alike = alike.same_log
  log_more h g (UpdatePortion i keys cut sets) alike = alike.same_log
  log_more h g (DeletePortion i keys cut) alike = alike.same_log
  log_more h g (Select i form keys) alike = alike.same_log
  log_more h g (Rollback i) alike = alike.same_log
  log_more h g (AddColumn i number name of) alike = alike.same_log
  log_more h g (SplitKey key) alike = alike.same_log
  log_more h g (SplitTime key instant) alike = alike.same_log
  log_more h g Migrate alike = alike.same_log

  alike_more : (h g : History) (step : Step) → AreAlike h g → AreAlike (step ∷ h) (step ∷ g)
  alike_more h g step alike = record {
    same_log = log_more h g step alike;
    same_opened = λ i k. if ends i step then None else if begins i step && is_none (alike.same_opened i k) then Some (alike.same_log k) else alike.same_opened i k;
    same_own = λ i k. if ends i step then [] else if is_kept (alike.same_tables k) step i (alike.same_log k) (alike.same_opened i k) (alike.same_own i k) then alike.same_own i k ++ step ∷ [] else alike.same_own i k;
    same_tables = λ k. schema_by (alike.same_tables k) (is_idle (λ i. alike.same_open i k)) step;
    same_open = λ i k. not (ends i step) && (begins i step || alike.same_open i k);
  }

  -- a step that changes nothing is left out
  alike_without : (h g : History) (step : Step) → is_maintenance step ≡ true → AreAlike h g → AreAlike (step ∷ h) g
  alike_without h g (SplitKey key) is alike = record { same_log = alike.same_log; same_opened = alike.same_opened; same_own = alike.same_own; same_tables = alike.same_tables; same_open = alike.same_open }
  alike_without h g (SplitTime key instant) is alike = record { same_log = alike.same_log; same_opened = alike.same_opened; same_own = alike.same_own; same_tables = alike.same_tables; same_open = alike.same_open }
  alike_without h g Migrate is alike = record { same_log = alike.same_log; same_opened = alike.same_opened; same_own = alike.same_own; same_tables = alike.same_tables; same_open = alike.same_open }
  alike_without h g (Begin i) is alike = cc
  alike_without h g (Insert i number rows) is alike = cc
  alike_without h g (Update i keys sets) is alike = cc
  alike_without h g (Delete i keys) is alike = cc
  alike_without h g (UpdatePortion i keys cut sets) is alike = cc
  alike_without h g (DeletePortion i keys cut) is alike = cc
  alike_without h g (Select i form keys) is alike = cc
  alike_without h g (Commit i reading) is alike = cc
  alike_without h g (Rollback i) is alike = cc
  alike_without h g (AddColumn i number name of) is alike = cc

  alike_all : (h : History) → AreAlike h (without_maintenance h)
  alike_all [] = record { same_log = refl; same_opened = λ i. refl; same_own = λ i. refl; same_tables = refl; same_open = λ i. refl }
  alike_all (SplitKey key ∷ h) = alike_without h (without_maintenance h) (SplitKey key) refl (alike_all h)
  alike_all (SplitTime key instant ∷ h) = alike_without h (without_maintenance h) (SplitTime key instant) refl (alike_all h)
  alike_all (Migrate ∷ h) = alike_without h (without_maintenance h) Migrate refl (alike_all h)
  alike_all (Begin i ∷ h) = alike_more h (without_maintenance h) (Begin i) (alike_all h)
  alike_all (Insert i number rows ∷ h) = alike_more h (without_maintenance h) (Insert i number rows) (alike_all h)
  alike_all (Update i keys sets ∷ h) = alike_more h (without_maintenance h) (Update i keys sets) (alike_all h)
  alike_all (Delete i keys ∷ h) = alike_more h (without_maintenance h) (Delete i keys) (alike_all h)
  alike_all (UpdatePortion i keys cut sets ∷ h) = alike_more h (without_maintenance h) (UpdatePortion i keys cut sets) (alike_all h)
  alike_all (DeletePortion i keys cut ∷ h) = alike_more h (without_maintenance h) (DeletePortion i keys cut) (alike_all h)
  alike_all (Select i form keys ∷ h) = alike_more h (without_maintenance h) (Select i form keys) (alike_all h)
  alike_all (Commit i reading ∷ h) = alike_more h (without_maintenance h) (Commit i reading) (alike_all h)
  alike_all (Rollback i ∷ h) = alike_more h (without_maintenance h) (Rollback i) (alike_all h)
  alike_all (AddColumn i number name of ∷ h) = alike_more h (without_maintenance h) (AddColumn i number name of) (alike_all h)

  -- ---- one reply

  listing_alike : (h g : History) (i : ℕ) (form : Form) (table : Table) (keys : Keys) → AreAlike h g → listing schema h i form table keys ≡ listing schema g i form table keys
  listing_alike h g i Plain table keys alike =
      λ k. elim (alike.same_opened i k) [
        | Some before ↦ Rows (rows_taken table keys (mine_of (alike.same_tables k) (alike.same_log k) (alike.same_opened i k) (alike.same_own i k)))
        | None ↦ Rows (rows_of (answer (changes (upto (alike.same_log k) (snap_of (alike.same_log k) (alike.same_opened i k)))) table Plain keys))
      ]
  listing_alike h g i (AsOf t) table keys alike =
      λ k. Rows (rows_of (answer (changes (upto (alike.same_log k) (snap_of (alike.same_log k) (alike.same_opened i k)))) table (AsOf t) keys))
  listing_alike h g i (FromTo a b) table keys alike =
      λ k. Periods (answer (changes (upto (alike.same_log k) (snap_of (alike.same_log k) (alike.same_opened i k)))) table (FromTo a b) keys)
  listing_alike h g i (Between a b) table keys alike =
      λ k. Periods (answer (changes (upto (alike.same_log k) (snap_of (alike.same_log k) (alike.same_opened i k)))) table (Between a b) keys)

  in_alike : (h g : History) (step : Step) → AreAlike h g → reply_in schema h step ≡ reply_in schema g step
  in_alike h g (Begin i) alike = λ k. elim (alike.same_opened i k) [ Some before ↦ Refused InTransaction | None ↦ Begun (last (alike.same_log k)) ]
  in_alike h g (Insert i number rows) alike =
      λ k. elim (alike.same_opened i k) [
        | None ↦ Refused NoTransaction
        | Some before ↦ write_reply (alike.same_tables k) (Insert i number rows) (own_of (alike.same_tables k) (alike.same_log k) (alike.same_opened i k) (alike.same_own i k))
      ]
  in_alike h g (Update i keys sets) alike =
      λ k. elim (alike.same_opened i k) [
        | None ↦ Refused NoTransaction
        | Some before ↦ write_reply (alike.same_tables k) (Update i keys sets) (own_of (alike.same_tables k) (alike.same_log k) (alike.same_opened i k) (alike.same_own i k))
      ]
  in_alike h g (Delete i keys) alike =
      λ k. elim (alike.same_opened i k) [
        | None ↦ Refused NoTransaction
        | Some before ↦ write_reply (alike.same_tables k) (Delete i keys) (own_of (alike.same_tables k) (alike.same_log k) (alike.same_opened i k) (alike.same_own i k))
      ]
  in_alike h g (UpdatePortion i keys cut sets) alike =
      λ k. elim (alike.same_opened i k) [
        | None ↦ Refused NoTransaction
        | Some before ↦ write_reply (alike.same_tables k) (UpdatePortion i keys cut sets) (own_of (alike.same_tables k) (alike.same_log k) (alike.same_opened i k) (alike.same_own i k))
      ]
  in_alike h g (DeletePortion i keys cut) alike =
      λ k. elim (alike.same_opened i k) [
        | None ↦ Refused NoTransaction
        | Some before ↦ write_reply (alike.same_tables k) (DeletePortion i keys cut) (own_of (alike.same_tables k) (alike.same_log k) (alike.same_opened i k) (alike.same_own i k))
      ]
  in_alike h g (Select i form keys) alike = λ k. elim (table_at (alike.same_tables k) keys.table) [ None ↦ Refused NoTable | Some table ↦ Shows (listing_alike h g i form table keys alike k) ]
  in_alike h g (Commit i reading) alike =
      λ k. elim (alike.same_opened i k) [
        | Some before ↦ commit_reply (outcome (periods_of (alike.same_tables k)) (changes (alike.same_log k)) (last (alike.same_log k)) (snap_of (alike.same_log k) (alike.same_opened i k)) (net_change_of (alike.same_tables k) (alike.same_log k) (alike.same_opened i k) (alike.same_own i k)) reading)
        | None ↦ Refused NoTransaction
      ]
  in_alike h g (Rollback i) alike = λ k. elim (alike.same_opened i k) [ Some before ↦ RolledBack | None ↦ Refused NoTransaction ]
  in_alike h g (AddColumn i number name of) alike = λ k. if is_idle (λ j. alike.same_open j k) then Altered else Refused TransactionsOpen
  in_alike h g (SplitKey key) alike = refl
  in_alike h g (SplitTime key instant) alike = refl
  in_alike h g Migrate alike = refl

  reply_alike : (h g : History) (step : Step) → AreAlike h g → reply schema h step ≡ reply schema g step
  reply_alike h g step alike = λ k. elim (misfit (alike.same_tables k) step) [ Some refusal ↦ Refused refusal | None ↦ in_alike h g step alike k ]

  -- ---- all replies

  abbrev Same : History → History → List Step → Type 0
  Same h g steps = replies schema h steps ≡ with_maintenance schema h steps (replies schema g (without_maintenance steps))

  -- a step that both take
  both : (h g : History) (step : Step) (steps : List Step) → AreAlike h g → Same (step ∷ h) (step ∷ g) steps
      → replies schema h (step ∷ steps) ≡ reply schema g step ∷ with_maintenance schema (step ∷ h) steps (replies schema (step ∷ g) (without_maintenance steps))
  both h g step steps alike rest = λ k. reply_alike h g step alike k ∷ rest k

  all_alike : (steps : List Step) (h g : History) → AreAlike h g → Same h g steps
  all_alike [] h g alike = refl
  all_alike (SplitKey key ∷ steps) h g alike = ap (λ l. maintenance_reply (schema_after schema h) (SplitKey key) ∷ l) (all_alike steps (SplitKey key ∷ h) g (alike_without h g (SplitKey key) refl alike))
  all_alike (SplitTime key instant ∷ steps) h g alike = ap (λ l. maintenance_reply (schema_after schema h) (SplitTime key instant) ∷ l) (all_alike steps (SplitTime key instant ∷ h) g (alike_without h g (SplitTime key instant) refl alike))
  all_alike (Migrate ∷ steps) h g alike = ap (λ l. maintenance_reply (schema_after schema h) Migrate ∷ l) (all_alike steps (Migrate ∷ h) g (alike_without h g Migrate refl alike))
  all_alike (Begin i ∷ steps) h g alike = both h g (Begin i) steps alike (all_alike steps (Begin i ∷ h) (Begin i ∷ g) (alike_more h g (Begin i) alike))
  all_alike (Insert i number rows ∷ steps) h g alike = both h g (Insert i number rows) steps alike (all_alike steps (Insert i number rows ∷ h) (Insert i number rows ∷ g) (alike_more h g (Insert i number rows) alike))
  all_alike (Update i keys sets ∷ steps) h g alike = both h g (Update i keys sets) steps alike (all_alike steps (Update i keys sets ∷ h) (Update i keys sets ∷ g) (alike_more h g (Update i keys sets) alike))
  all_alike (Delete i keys ∷ steps) h g alike = both h g (Delete i keys) steps alike (all_alike steps (Delete i keys ∷ h) (Delete i keys ∷ g) (alike_more h g (Delete i keys) alike))
  all_alike (UpdatePortion i keys cut sets ∷ steps) h g alike = both h g (UpdatePortion i keys cut sets) steps alike (all_alike steps (UpdatePortion i keys cut sets ∷ h) (UpdatePortion i keys cut sets ∷ g) (alike_more h g (UpdatePortion i keys cut sets) alike))
  all_alike (DeletePortion i keys cut ∷ steps) h g alike = both h g (DeletePortion i keys cut) steps alike (all_alike steps (DeletePortion i keys cut ∷ h) (DeletePortion i keys cut ∷ g) (alike_more h g (DeletePortion i keys cut) alike))
  all_alike (Select i form keys ∷ steps) h g alike = both h g (Select i form keys) steps alike (all_alike steps (Select i form keys ∷ h) (Select i form keys ∷ g) (alike_more h g (Select i form keys) alike))
  all_alike (Commit i reading ∷ steps) h g alike = both h g (Commit i reading) steps alike (all_alike steps (Commit i reading ∷ h) (Commit i reading ∷ g) (alike_more h g (Commit i reading) alike))
  all_alike (Rollback i ∷ steps) h g alike = both h g (Rollback i) steps alike (all_alike steps (Rollback i ∷ h) (Rollback i ∷ g) (alike_more h g (Rollback i) alike))
  all_alike (AddColumn i number name of ∷ steps) h g alike = both h g (AddColumn i number name of) steps alike (all_alike steps (AddColumn i number name of ∷ h) (AddColumn i number name of ∷ g) (alike_more h g (AddColumn i number name of) alike))

  pub maintenance_changes_no_reply : MaintenanceChangesNoReply schema
  maintenance_changes_no_reply h steps = all_alike steps h (without_maintenance h) (alike_all h)

  pub maintenance_commits_nothing : MaintenanceCommitsNothing schema
  maintenance_commits_nothing h = (alike_all h).same_log
