-- A commit changes nothing of what open transactions saw.
use Rattle.std.proofs.Common.{◌≡◌, ℕ, ◌≤◌, ◌<◌, false, List, [], ◌∷◌, ◌++◌, Option, Some, None, refl, ap, ◌∙◌, arith}
use Rattle.std.specs.Prelude.{Result, Ok, Err, if◌then◌else◌, nat_le, ◌==◌}
use Rattle.std.proofs.lemmas.Bool.Decides.{nat_tests}
use Rattle.values.specs.declared.key.Transaction.{Transaction}
use Rattle.values.specs.declared.refusal.Refusal.{Refusal}
use Rattle.values.specs.Tables.{Schema}
use Rattle.values.specs.Log.{Log, Net, replay, last, last_from, upto, state, changes}
use Rattle.values.specs.Period.{Periods, periods_of}
use Rattle.values.specs.Commits.{outcome, log_after, after}
use Rattle.steps.specs.declared.step.Step.{Step}
use Rattle.steps.specs.declared.step.Step.TheVariants.{Commit}
use Rattle.values.proofs.CommitsAbove.{outcome_above}
use Rattle.histories.proofs.HistoryPrefixes.{opened_below}
use Rattle.histories.specs.Stands.{open_in, open_from}
use Rattle.histories.specs.History.{History, schema_after, log, log_at_begin, own, net_change_of, rewrite_all}

later_test : (a s : ℕ) → s < a → nat_le a s ≡ false
later_test a s h = grind (arith, nat_tests)

-- a later transaction is not among those up to an instant
pub upto_later : (log : Log) (t : Transaction) (s : ℕ) → s < t.instant → upto (log ++ t ∷ []) s ≡ upto log s
upto_later [] t s h = ap (λ b. if b then t ∷ [] else []) (later_test t.instant s h)
upto_later (u ∷ log) t s h = ap (λ (l : Log). if nat_le u.instant s then u ∷ l else l) (upto_later log t s h)

last_from_push : (n : ℕ) (log : Log) (t : Transaction) → last_from n (log ++ t ∷ []) ≡ t.instant
last_from_push n [] t = refl
last_from_push n (u ∷ log) t = last_from_push u.instant log t

pub last_push : (log : Log) (t : Transaction) → last (log ++ t ∷ []) ≡ t.instant
last_push log t = last_from_push 0 log t

upto_ended : (log : Log) (net : Net) (end : Result (Option ℕ) Refusal) (s : ℕ) → s ≤ last log → ((i : ℕ) → end ≡ Ok (Some i) → last log < i) → upto (log_after log net end) s ≡ upto log s
upto_ended log net (Ok (Some i)) s below above = upto_later log _ s (let h : last log < i = above i refl in omega arith)
upto_ended log net (Ok None) s below above = refl
upto_ended log net (Err e) s below above = refl

-- a transaction that stays open sees what it saw
pub session_kept : (schema : Schema) (log now : Log) (o : Option Log) (own : List Step) → ((before : Log) → o ≡ Some before → state now (last before) ≡ state log (last before))
    → open_from schema now o own ≡ open_from schema log o own
session_kept schema log now None own same = refl
session_kept schema log now (Some before) own same =
    ap (λ m. Some (let o = rewrite_all schema own (record { rows = m; written = [] }) in record { start = last before; rows = o.rows; written = o.written })) (same before refl)

pub state_after : (periods : Periods) (log : Log) (start : ℕ) (net : Net) (reading s : ℕ) → s ≤ last log → state (after periods log start net reading) s ≡ state log s
state_after periods log start net reading s below =
    ap (replay []) (upto_ended log net (outcome periods (changes log) (last log) start net reading) s below (λ i e. outcome_above periods (changes log) (last log) start net reading i e))

-- a commit of one session changes nothing of another
pub session_other_commit : (schema : Schema) (h : History) (i j reading : ℕ) → (j == i) ≡ false → open_in schema (Commit i reading ∷ h) j ≡ open_in schema h j
session_other_commit schema h i j reading other =
    ap (λ b. open_from (schema_after schema h) (log schema (Commit i reading ∷ h)) (if b then None else log_at_begin schema h j) (if b then [] else own schema h j)) other
    ∙ session_kept (schema_after schema h) (log schema h) (log schema (Commit i reading ∷ h)) (log_at_begin schema h j) (own schema h j) (λ before is. by (log_at_begin schema h i) before (opened_below schema h j before is))
  where
    by : (o : Option Log) (before : Log) → last before ≤ last (log schema h)
        → state (elim o [ None ↦ log schema h | Some first ↦ after (periods_of (schema_after schema h)) (log schema h) (last first) (net_change_of (schema_after schema h) (log schema h) (log_at_begin schema h i) (own schema h i)) reading ]) (last before) ≡ state (log schema h) (last before)
    by None before below = refl
    by (Some first) before below = state_after (periods_of (schema_after schema h)) (log schema h) (last first) _ reading (last before) below
