-- The writes of an open transaction fit the tables now: no column is added while one is open.
use Rattle.std.proofs.Common.{◌≡◌, ℕ, ◌≤◌, ◌<◌, Bool, true, false, List, [], ◌∷◌, ◌++◌, Option, Some, None, refl, sym, subst, ◌∙◌, arith}
use Rattle.std.specs.Prelude.{if◌then◌else◌, ◌&&◌, nat_le, is_none, is_some, not}
use Rattle.std.proofs.lemmas.Bool.{and_parts, false≢true}
use Rattle.std.proofs.lemmas.Bool.Decides.{nat_tests}
use Rattle.values.specs.declared.table.ColumnType.{ColumnType}
use Rattle.values.specs.declared.refusal.Refusal.{Refusal}
use Rattle.values.specs.Tables.{Schema}
use Rattle.values.specs.Columns.{new_column, add_column}
use Rattle.values.specs.Each.{Each}
use Rattle.values.specs.Log.{Log}
use Rattle.steps.specs.declared.step.Step.{Step}
use Rattle.steps.specs.declared.step.Step.TheVariants.{Begin, Insert, Update, Delete, UpdatePortion, DeletePortion, Select, Commit, Rollback, AddColumn, SplitKey, SplitTime, Migrate}
use Rattle.steps.specs.Idle.{is_idle}
use Rattle.steps.specs.Misfit.{max_session, misfit}
use Rattle.steps.specs.Write.{is_write_of}
use Rattle.steps.specs.Reply.{write_reply, is_refused}
use Rattle.periods.proofs.NoOverlapPieces.{each-append}
use Rattle.histories.specs.History.{History, has_open, ends, schema_by, schema_after, log, log_at_begin, own, own_of, is_kept}
use Rattle.histories.proofs.HistoryIdle.{none_open, refused_write}
use Rattle.histories.proofs.StandsOpen.{no_writes}
use Rattle.histories.proofs.StandsAltered.{begun_alike, each_closed, none_of}

-- ---- the tables after a step

fits_so : {A : Type 0} (o : Option A) → is_none o ≡ true → o ≡ None
fits_so None e = refl
fits_so (Some x) e = cc

-- they are those before it, or one has a column more, where no transaction is open
pub schema_step : (P : Schema → Type 0) (now : Schema) (idle : Bool) (step : Step) → P now
    → ((i number : ℕ) (name : List ℕ) (of : ColumnType) → misfit now (AddColumn i number name of) ≡ None → idle ≡ true → P (add_column number (new_column name of) now)) → P (schema_by now idle step)
schema_step P now idle (AddColumn i number name of) same added = by (is_none (misfit now (AddColumn i number name of)) && idle) refl
  where
    by : (b : Bool) → (is_none (misfit now (AddColumn i number name of)) && idle) ≡ b → P (if b then add_column number (new_column name of) now else now)
    by true e = let parts = and_parts (is_none (misfit now (AddColumn i number name of))) idle e in added i number name of (fits_so (misfit now (AddColumn i number name of)) parts.0) parts.1
    by false e = same
schema_step P now idle (Begin i) same added = same
schema_step P now idle (Insert i number rows) same added = same
schema_step P now idle (Update i keys sets) same added = same
schema_step P now idle (Delete i keys) same added = same
schema_step P now idle (UpdatePortion i keys cut sets) same added = same
schema_step P now idle (DeletePortion i keys cut) same added = same
schema_step P now idle (Select i form keys) same added = same
schema_step P now idle (Commit i reading) same added = same
schema_step P now idle (Rollback i) same added = same
schema_step P now idle (SplitKey key) same added = same
schema_step P now idle (SplitTime key instant) same added = same
schema_step P now idle Migrate same added = same

busy_schema : (now : Schema) (idle : Bool) (step : Step) → idle ≡ false → schema_by now idle step ≡ now
busy_schema now idle step busy = schema_step (λ s. s ≡ now) now idle step refl (λ i number name of fits is. absurd (false≢true (sym busy ∙ is)))

-- ---- where no transaction is open

beyond : (i : ℕ) → nat_le i max_session ≡ false → max_session < i
beyond i e = grind (arith, nat_tests)

within : (i : ℕ) → nat_le i max_session ≡ true → i ≤ max_session
within i e = grind (arith, nat_tests)

pub none_begun : (first : Schema) (h : History) (i : ℕ) → is_idle (has_open h) ≡ true → log_at_begin first h i ≡ None
none_begun first h i idle = by (nat_le i max_session) refl
  where
    by : (b : Bool) → nat_le i max_session ≡ b → log_at_begin first h i ≡ None
    by true e = none_of (log_at_begin first h i) (begun_alike first h i ∙ each_closed max_session (has_open h) idle i (within i e))
    by false e = none_open first h i (beyond i e)

none_kept : (e w r : Bool) (o : Option Log) (xs ys : List Step) → o ≡ None → ys ≡ [] → ◌≡◌ {A = List Step} (if e then [] else if w && is_some o && r then xs else ys) []
none_kept true w r o xs ys none empty = refl
none_kept false true r None xs ys none empty = empty
none_kept false false r None xs ys none empty = empty
none_kept false w r (Some before) xs ys none empty = cc

-- ---- the writes

abbrev pub Fits : Schema → Step → Type 0
Fits now step = misfit now step ≡ None

not_kept : (w o refused : Bool) → refused ≡ true → (w && o && not refused) ≡ true → ⊥
not_kept true true true is e = cc
not_kept true false true is e = cc
not_kept false o true is e = cc
not_kept w o false is e = cc

kept_fits : (now : Schema) (step : Step) (i : ℕ) (log : Log) (o : Option Log) (own : List Step) → is_kept now step i log o own ≡ true → Fits now step
kept_fits now step i log o own kept = by (misfit now step) refl
  where
    by : (m : Option Refusal) → misfit now step ≡ m → misfit now step ≡ None
    by None is = is
    by (Some refusal) is =
        absurd (not_kept (is_write_of i step) (is_some o) (is_refused (write_reply now step (own_of now log o own))) (refused_write now step refusal (own_of now log o own) is) kept)

more_fits : (now : Schema) (step : Step) (ended kept : Bool) (own : List Step) → (kept ≡ true → Fits now step) → Each (Fits now) own
    → Each (Fits now) (if ended then [] else if kept then own ++ step ∷ [] else own)
more_fits now step true kept own new fits = tt
more_fits now step false true own new fits = each-append (Fits now) own (step ∷ []) fits (new refl, tt)
more_fits now step false false own new fits = fits

pub own_fits : (first : Schema) (h : History) (i : ℕ) → Each (Fits (schema_after first h)) (own first h i)
own_fits first [] i = tt
own_fits first (step ∷ h) i = by (is_idle (has_open h)) refl (own_fits first h i)
  where
    by : (b : Bool) → is_idle (has_open h) ≡ b → Each (Fits (schema_after first h)) (own first h i) → Each (Fits (schema_after first (step ∷ h))) (own first (step ∷ h) i)
    by true idle fits =
        subst (Each (Fits (schema_after first (step ∷ h))))
        (sym (none_kept (ends i step) (is_write_of i step) (not (is_refused (write_reply (schema_after first h) step (own_of (schema_after first h) (log first h) (log_at_begin first h i) (own first h i))))) (log_at_begin first h i)
        (own first h i ++ step ∷ []) (own first h i) (none_begun first h i idle) (no_writes first h i (none_begun first h i idle))))
        tt
    by false busy fits =
        subst (λ (s : Schema). Each (Fits s) (own first (step ∷ h) i)) (sym (busy_schema (schema_after first h) (is_idle (has_open h)) step busy))
        (more_fits (schema_after first h) step (ends i step) (is_kept (schema_after first h) step i (log first h) (log_at_begin first h i) (own first h i)) (own first h i)
        (kept_fits (schema_after first h) step i (log first h) (log_at_begin first h i) (own first h i)) fits)
