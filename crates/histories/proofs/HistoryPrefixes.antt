-- An open transaction began at a prefix of the log.
use Rattle.std.proofs.Common.{◌≡◌, ℕ, ◌≤◌, Bool, true, false, [], ◌∷◌, ◌++◌, Option, Some, None, sym, ap, subst, ◌∙◌, refl, append-nil, append_assoc, arith}
use Rattle.std.specs.Prelude.{if◌then◌else◌, ◌&&◌, is_none}
use Rattle.values.specs.Tables.{Schema}
use Rattle.values.specs.Log.{Log, last, last_from}
use Rattle.values.specs.Law.{IsLog}
use Rattle.values.proofs.LawAsOf.{Rises-rest}
use Rattle.values.proofs.LogPush.{last_above}
use Rattle.histories.specs.History.{History, ends, begins, log, log_at_begin}
use Rattle.histories.proofs.HistoryGrowth.{log_rises, step_adds}

abbrev pub IsPrefix : Log → Log → Type 0
IsPrefix before now = (added : Log) × (now ≡ before ++ added)

prefix_more : (before now later : Log) → IsPrefix before now → IsPrefix now later → IsPrefix before later
prefix_more before now later f g = (f.0 ++ g.0, g.1 ∙ ap (λ (l : Log). l ++ g.0) f.1 ∙ append_assoc before f.0 g.0)

opened_step : (e b : Bool) (o : Option Log) (now before : Log) → ◌≡◌ {A = Option Log} (if e then None else (if b && is_none o then Some now else o)) (Some before)
    → ((x : Log) → o ≡ Some x → IsPrefix x now) → IsPrefix before now
opened_step true b o now before is old = cc
opened_step false true None now before is old = let same : before ≡ now = cc in ([], sym same ∙ sym (append-nil before))
opened_step false false None now before is old = cc
opened_step false true (Some x) now before is old = old before is
opened_step false false (Some x) now before is old = old before is

pub opened_prefix : (schema : Schema) (h : History) (i : ℕ) (before : Log) → log_at_begin schema h i ≡ Some before → IsPrefix before (log schema h)
opened_prefix schema [] i before is = cc
opened_prefix schema (step ∷ h) i before is =
    prefix_more before (log schema h) (log schema (step ∷ h))
    (opened_step (ends i step) (begins i step) (log_at_begin schema h i) (log schema h) before is (λ x was. opened_prefix schema h i x was))
    (step_adds schema h step)

last_more : (before added : Log) (n : ℕ) → last_from n (before ++ added) ≡ last_from (last_from n before) added
last_more [] added n = refl
last_more (t ∷ before) added n = last_more before added t.instant

pub prefix_below : (before now : Log) → IsPrefix before now → IsLog now → last before ≤ last now
prefix_below before now prefix rises =
    let above : last before ≤ last_from (last before) prefix.0 = last_above prefix.0 (last before) (Rises-rest before prefix.0 0 (subst IsLog prefix.1 rises)) in
    omega (arith, above, ap last prefix.1, last_more before prefix.0 0)

-- it began at no later instant than the last one now
pub opened_below : (schema : Schema) (h : History) (i : ℕ) (before : Log) → log_at_begin schema h i ≡ Some before → last before ≤ last (log schema h)
opened_below schema h i before is = prefix_below before (log schema h) (opened_prefix schema h i before is) (log_rises schema h)
