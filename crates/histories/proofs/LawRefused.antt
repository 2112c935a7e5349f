-- A write that is refused changes nothing.
use Rattle.std.proofs.Common.{◌≡◌, ℕ, Bool, true, false, [], ◌∷◌, ◌++◌, Option, Some, None, refl, sym, ap, subst, not}
use Rattle.std.specs.Prelude.{if◌then◌else◌, ◌&&◌, ◌==◌, is_some}
use Rattle.values.specs.declared.refusal.Refusal.{Refusal}
use Rattle.values.specs.declared.refusal.Refusal.TheVariants.{NoTransaction}
use Rattle.values.specs.Log.{Log}
use Rattle.values.specs.Tables.{Schema}
use Rattle.values.specs.Writes.{Own}
use Rattle.steps.specs.declared.step.Reply.{Reply}
use Rattle.steps.specs.declared.step.Reply.TheVariants.{Refused}
use Rattle.steps.specs.declared.step.Step.{Step}
use Rattle.steps.specs.declared.step.Step.TheVariants.{AddColumn, Begin, Commit, Delete, DeletePortion, Insert, Migrate, Rollback, Select, SplitKey, SplitTime, Update, UpdatePortion}
use Rattle.steps.specs.Misfit.{misfit}
use Rattle.steps.specs.Reply.{is_refused, write_reply, written_reply}
use Rattle.steps.specs.Write.{write}
use Rattle.periods.proofs.NoOverlapPieces.{one_table}
use Rattle.histories.specs.History.{History, log, log_at_begin, mine_of, net_change_of, own, own_of, schema_after}
use Rattle.histories.specs.Law.{RefusedWritesChangeNothing}

-- what the session sees and wrote
abbrev pub own_now : Schema → History → ℕ → Own
own_now first h i = own_of (schema_after first h) (log first h) (log_at_begin first h i) (own first h i)

-- a write that is refused is not kept
not_kept : (now : Schema) (step : Step) (begun : Option Log) (o : Own) (refusal : Refusal)
    → (elim (misfit now step) as (λ _. Reply) [ Some refusal ↦ Refused refusal | None ↦ elim begun as (λ _. Reply) [ None ↦ Refused NoTransaction | Some before ↦ write_reply now step o ] ]) ≡ Refused refusal
    → (is_some begun && not (is_refused (write_reply now step o))) ≡ false
not_kept now step None o refusal refused = refl
not_kept now step (Some before) o refusal refused = by (misfit now step) refl refused
  where
    by : (q : Option Refusal) → misfit now step ≡ q → (elim q as (λ _. Reply) [ Some refusal ↦ Refused refusal | None ↦ write_reply now step o ]) ≡ Refused refusal → not (is_refused (write_reply now step o)) ≡ false
    by (Some r) is e = ap (λ (q : Option Refusal). let r : Reply = elim q [ Some refusal ↦ Refused refusal | None ↦ written_reply step (write now step o).0 ] in not (is_refused r)) is
    by None is e = ap (λ (r : Reply). not (is_refused r)) e

-- a session's own writes, where one more is not kept
own_still : (first : Schema) (h : History) (i j : ℕ) (step : Step) → (is_some (log_at_begin first h i) && not (is_refused (write_reply (schema_after first h) step (own_now first h i)))) ≡ false
    → (if (j == i) && is_some (log_at_begin first h j) && not (is_refused (write_reply (schema_after first h) step (own_now first h j))) then own first h j ++ step ∷ [] else own first h j) ≡ own first h j
own_still first h i j step not_kept = by (j == i) refl
  where
    same : (j == i) ≡ true → (is_some (log_at_begin first h j) && not (is_refused (write_reply (schema_after first h) step (own_now first h j)))) ≡ false
    same is = subst (λ (k : ℕ). (is_some (log_at_begin first h k) && not (is_refused (write_reply (schema_after first h) step (own_now first h k)))) ≡ false) (sym (one_table j i i refl is)) not_kept

    by : (b : Bool) → (j == i) ≡ b → (if b && is_some (log_at_begin first h j) && not (is_refused (write_reply (schema_after first h) step (own_now first h j))) then own first h j ++ step ∷ [] else own first h j) ≡ own first h j
    by true is = ap (λ (kept : Bool). if kept then own first h j ++ step ∷ [] else own first h j) (same is)
    by false is = refl

pub refused_writes_change_nothing : (first : Schema) → RefusedWritesChangeNothing first
refused_writes_change_nothing first h (Insert k number rows) i j refusal is refused =
    let still = own_still first h k j (Insert k number rows) (not_kept (schema_after first h) (Insert k number rows) (log_at_begin first h k) (own_now first h k) refusal refused) in
    (ap (mine_of (schema_after first h) (log first h) (log_at_begin first h j)) still, ap (net_change_of (schema_after first h) (log first h) (log_at_begin first h j)) still, refl)
refused_writes_change_nothing first h (Update k keys sets) i j refusal is refused =
    let still = own_still first h k j (Update k keys sets) (not_kept (schema_after first h) (Update k keys sets) (log_at_begin first h k) (own_now first h k) refusal refused) in
    (ap (mine_of (schema_after first h) (log first h) (log_at_begin first h j)) still, ap (net_change_of (schema_after first h) (log first h) (log_at_begin first h j)) still, refl)
refused_writes_change_nothing first h (Delete k keys) i j refusal is refused =
    let still = own_still first h k j (Delete k keys) (not_kept (schema_after first h) (Delete k keys) (log_at_begin first h k) (own_now first h k) refusal refused) in
    (ap (mine_of (schema_after first h) (log first h) (log_at_begin first h j)) still, ap (net_change_of (schema_after first h) (log first h) (log_at_begin first h j)) still, refl)
refused_writes_change_nothing first h (UpdatePortion k keys cut sets) i j refusal is refused =
    let still = own_still first h k j (UpdatePortion k keys cut sets) (not_kept (schema_after first h) (UpdatePortion k keys cut sets) (log_at_begin first h k) (own_now first h k) refusal refused) in
    (ap (mine_of (schema_after first h) (log first h) (log_at_begin first h j)) still, ap (net_change_of (schema_after first h) (log first h) (log_at_begin first h j)) still, refl)
refused_writes_change_nothing first h (DeletePortion k keys cut) i j refusal is refused =
    let still = own_still first h k j (DeletePortion k keys cut) (not_kept (schema_after first h) (DeletePortion k keys cut) (log_at_begin first h k) (own_now first h k) refusal refused) in
    (ap (mine_of (schema_after first h) (log first h) (log_at_begin first h j)) still, ap (net_change_of (schema_after first h) (log first h) (log_at_begin first h j)) still, refl)
refused_writes_change_nothing first h (Begin k) i j refusal is refused = cc
refused_writes_change_nothing first h (Select k form keys) i j refusal is refused = cc
refused_writes_change_nothing first h (Commit k reading) i j refusal is refused = cc
refused_writes_change_nothing first h (Rollback k) i j refusal is refused = cc
refused_writes_change_nothing first h (AddColumn k number name of) i j refusal is refused = cc
refused_writes_change_nothing first h (SplitKey key) i j refusal is refused = cc
refused_writes_change_nothing first h (SplitTime key instant) i j refusal is refused = cc
refused_writes_change_nothing first h Migrate i j refusal is refused = cc
