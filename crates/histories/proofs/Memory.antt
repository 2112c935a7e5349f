-- Which steps take no memory is one thing by the system and by the history.
use Rattle.std.proofs.Common.{◌≡◌, ℕ, zero, suc, ◌+◌, ◌≤◌, ◌<◌, Bool, List, Option, Some, None, refl, ap, ◌∙◌, arith}
use Rattle.std.specs.Prelude.{◌||◌, ◌&&◌, is_some, not}
use Rattle.std.specs.List.{list_all, range_with_len}
use Rattle.values.specs.declared.refusal.Refusal.{Refusal}
use Rattle.values.specs.Tables.{Schema}
use Rattle.values.specs.Log.{Log}
use Rattle.steps.specs.declared.step.Step.{Step}
use Rattle.steps.specs.declared.step.Step.TheVariants.{Begin, Insert, Update, Delete, UpdatePortion, DeletePortion, Select, Commit, Rollback, AddColumn, SplitKey, SplitTime, Migrate}
use Rattle.steps.specs.Misfit.{max_session, misfit}
use Rattle.histories.specs.History.{History, schema_after, log, log_at_begin, own}
use Rattle.steps.specs.Reply.{takes_no_memory_by}
use Rattle.histories.specs.TurnLaw.{MemoryIsTakenAlike}
use Rattle.histories.specs.World.{World}
use Rattle.histories.specs.Stands.{Stands, open_at, open_from}
use Rattle.histories.proofs.HistoryIdle.{fits_session, fits_table}

open_alike : (schema : Schema) (now : Log) (o : Option Log) (writes : List Step) → is_some (open_from schema now o writes) ≡ is_some o
open_alike schema now None writes = refl
open_alike schema now (Some before) writes = refl

pub is_open : (first : Schema) (w : World) (h : History) (i : ℕ) → i ≤ max_session → Stands first w h → is_some (open_at w i) ≡ is_some (log_at_begin first h i)
is_open first w h i small stands = ap is_some (stands.sessions_are i small) ∙ open_alike (schema_after first h) (log first h) (log_at_begin first h i) (own first h i)

-- what holds of each session from one on
all_alike : (a n : ℕ) (f g : ℕ → Bool) → ((j : ℕ) → j < a + n → f j ≡ g j) → list_all (λ i. not (f i)) (range_with_len a n) ≡ list_all (λ i. not (g i)) (range_with_len a n)
all_alike a zero f g same = refl
all_alike a (suc n) f g same = λ k. not (same a (omega arith) k) && all_alike (a + 1) n f g (λ j small. same j (omega (arith, small))) k

-- and of each up to one
pub idle_alike : (n : ℕ) (f g : ℕ → Bool) → ((j : ℕ) → j ≤ n → f j ≡ g j) → list_all (λ i. not (f i)) (range_with_len 0 (n + 1)) ≡ list_all (λ i. not (g i)) (range_with_len 0 (n + 1))
idle_alike n f g same = all_alike 0 (n + 1) f g (λ j small. same j (omega (arith, small)))

fitting_alike : (first : Schema) (w : World) (h : History) (step : Step) → misfit (schema_after first h) step ≡ None → Stands first w h
    → takes_no_memory_by (λ i. is_some (open_at w i)) step ≡ takes_no_memory_by (λ i. is_some (log_at_begin first h i)) step
fitting_alike first w h (Begin i) fits stands = is_open first w h i (fits_session i fits) stands
fitting_alike first w h (Insert i number rows) fits stands = ap not (is_open first w h i (fits_table (schema_after first h) i number _ fits).0 stands)
fitting_alike first w h (Update i keys sets) fits stands = ap not (is_open first w h i (fits_table (schema_after first h) i keys.table _ fits).0 stands)
fitting_alike first w h (Delete i keys) fits stands = ap not (is_open first w h i (fits_table (schema_after first h) i keys.table _ fits).0 stands)
fitting_alike first w h (UpdatePortion i keys cut sets) fits stands = ap not (is_open first w h i (fits_table (schema_after first h) i keys.table _ fits).0 stands)
fitting_alike first w h (DeletePortion i keys cut) fits stands = ap not (is_open first w h i (fits_table (schema_after first h) i keys.table _ fits).0 stands)
fitting_alike first w h (Select i form keys) fits stands = refl
fitting_alike first w h (Commit i reading) fits stands = ap not (is_open first w h i (fits_session i fits) stands)
fitting_alike first w h (Rollback i) fits stands = refl
fitting_alike first w h (AddColumn i number name of) fits stands = ap not (idle_alike max_session (λ j. is_some (open_at w j)) (λ j. is_some (log_at_begin first h j)) (λ j small. is_open first w h j small stands))
fitting_alike first w h (SplitKey key) fits stands = refl
fitting_alike first w h (SplitTime key instant) fits stands = refl
fitting_alike first w h Migrate fits stands = refl

pub memory_is_taken_alike : MemoryIsTakenAlike
memory_is_taken_alike first w h step stands =
    (λ k. is_some (misfit (stands.schema_is k) step) || takes_no_memory_by (λ i. is_some (open_at w i)) step) ∙ by (misfit (schema_after first h) step) refl
  where
    by : (m : Option Refusal) → misfit (schema_after first h) step ≡ m
        → (is_some m || takes_no_memory_by (λ i. is_some (open_at w i)) step) ≡ (is_some m || takes_no_memory_by (λ i. is_some (log_at_begin first h i)) step)
    by None fits = fitting_alike first w h step fits stands
    by (Some refusal) fits = refl
