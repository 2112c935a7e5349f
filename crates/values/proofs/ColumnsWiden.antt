-- Rows of a table that has got columns: widened in one step or in two.
use Rattle.std.proofs.Common.{◌≡◌, ℕ, ◌+◌, ◌-◌, ◌≤◌, ◌++◌, replicate, length, ap, ◌∙◌, append_assoc, arith, length-append}
use Rattle.std.proofs.lemmas.List.{length-replicate, replicate-append-replicate}
use Rattle.values.specs.declared.value.Value.TheVariants.{Null}
use Rattle.values.specs.declared.table.Table.{Table}
use Rattle.values.specs.Log.{Row}
use Rattle.values.specs.Tables.{widened, full_row}
use Rattle.values.specs.WiderTable.{IsWidenedTo}

-- a row that is widened twice is as wide as the second time says
pub widened_twice : (m n : ℕ) (row : Row) → m ≤ n → widened n (widened m row) ≡ widened n row
widened_twice m n row le =
    append_assoc row (replicate (m - length row) Null) (replicate (n - length (widened m row)) Null)
    ∙ ap (λ l. row ++ l) (replicate-append-replicate (m - length row) (n - length (widened m row)) Null ∙ ap (λ k. replicate k Null) all)
  where
    wide : length (widened m row) ≡ length row + (m - length row)
    wide = length-append row (replicate (m - length row) Null) ∙ ap (λ k. length row + k) (length-replicate (m - length row) Null)

    all : (m - length row) + (n - length (widened m row)) ≡ n - length row
    all = omega (arith, wide, le)

-- a table has at least the columns that it had
pub grows : (earlier later : Table) → IsWidenedTo earlier later → length earlier.columns ≤ length later.columns
grows earlier later h = omega (arith, ap length h.columns_are, length-append earlier.columns h.more)

-- a row of the earlier table is shown by the later one as it is without the earlier
pub full_twice : (earlier later : Table) (row : Row) → IsWidenedTo earlier later → full_row later (full_row earlier row) ≡ full_row later row
full_twice earlier later row h = widened_twice (length earlier.columns) (length later.columns) row (grows earlier later h)
