-- Rows as wide as their table, by key.
use Rattle.std.proofs.Common.{◌≡◌, ℕ, ◌-◌, ◌≤◌, List, [], ◌∷◌, Some, length, replicate, map, refl, ap, All, arith, length-append}
use Rattle.std.specs.List.{AllByRecursion}
use Rattle.std.proofs.lemmas.List.{length-replicate}
use Rattle.std.proofs.lemmas.List.Elements.{All-from_recursion, recursion_from_All, All-weaker}
use Rattle.values.specs.declared.value.Value.TheVariants.{Null}
use Rattle.values.specs.declared.key.Key.{Key}
use Rattle.values.specs.declared.table.Table.{Table}
use Rattle.values.specs.declared.query.Set.{Set}
use Rattle.values.specs.Log.{Row, State}
use Rattle.values.specs.Tables.{widened, full_row}
use Rattle.values.specs.Writes.{set_all, full_rows}
use Rattle.staging.specs.Staged.{updates, SetsOneOf}

-- a row is at least as wide as it was asked to be
pub as_wide : (width : ℕ) (row : Row) → width ≤ length (widened width row)
as_wide width row = omega (arith, length-append row (replicate (width - length row) Null), length-replicate (width - length row) Null)

pub sets_in : (m n : ℕ) (sets : List Set) → m ≤ n → All (SetsOneOf m) sets → All (SetsOneOf n) sets
sets_in m n sets le h = All-weaker (SetsOneOf m) (SetsOneOf n) (λ s k. record { from_1 = k.from_1; within = omega (arith, le, k.within) }) sets h

module _ (P : Key → Type 0) (table : Table) where
  all_wide : (m : State) → AllByRecursion (λ e. P e.0) m → AllByRecursion (λ e. P e.0) (full_rows table m)
  all_wide [] h = tt
  all_wide (e ∷ m) h = (h.0, all_wide m h.1)

  -- their keys are what they were
  pub full_keys : (m : State) → All (λ e. P e.0) m → All (λ e. P e.0) (full_rows table m)
  full_keys m h = All-from_recursion (λ e. P e.0) (full_rows table m) (all_wide m (recursion_from_All (λ e. P e.0) m h))

pub rows_full : (table : Table) (m : State) → map (λ e. e.1) (full_rows table m) ≡ map (λ e. full_row table e.1) m
rows_full table [] = refl
rows_full table (e ∷ m) = ap (λ l. full_row table e.1 ∷ l) (rows_full table m)

-- an UPDATE of rows that are made wide first
pub updates_wide : (table : Table) (sets : List Set) (m : State) → updates sets (full_rows table m) ≡ map (λ e. (e.0, Some (set_all sets (full_row table e.1)))) m
updates_wide table sets [] = refl
updates_wide table sets (e ∷ m) = ap (λ l. (e.0, Some (set_all sets (full_row table e.1))) ∷ l) (updates_wide table sets m)

-- each is as wide as the table
pub all_full_wide : (table : Table) (m : State) → All (λ e. length table.columns ≤ length e.1) (full_rows table m)
all_full_wide table m = All-from_recursion (λ (e : Key × Row). length table.columns ≤ length e.1) (full_rows table m) (each m)
  where
    each : (m : State) → AllByRecursion (λ e. length table.columns ≤ length e.1) (full_rows table m)
    each [] = tt
    each (e ∷ m) = (as_wide (length table.columns) e.1, each m)
