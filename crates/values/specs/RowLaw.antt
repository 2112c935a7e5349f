-- What the bytes of rows amount to.
use Rattle.std.specs.Prelude.{◌≡◌, ℕ, ◌≤◌, ◌<◌, List, [], ◌∷◌, ◌++◌, None, Some, length, All, pos, codes}
use Rattle.values.specs.declared.value.Value.TheVariants.{Int, Text}
use Rattle.values.specs.declared.table.Table.{Table}
use Rattle.values.specs.Log.{Row}
use Rattle.values.specs.Tables.{widest}
use Rattle.values.specs.Fit.{row_fault}
use Rattle.values.specs.RowEncoding.{bytes_of_row, IsStoredRow, IsHeld, StandsIn}
use Rattle.values.specs.RowReading.{row_from}

-- a row reads back from the start of its bytes, whatever follows
abbrev pub RowsReadBack : Type 0
RowsReadBack =
    (row : Row) (rest : List ℕ) → IsStoredRow row → All IsHeld row
    → row_from (bytes_of_row row ++ rest) ≡ Some (row, length (bytes_of_row row))

-- and nothing else is read
abbrev pub OnlyRowsAreRead : Type 0
OnlyRowsAreRead =
    (bytes : List ℕ) (row : Row) (n : ℕ) → All (λ b. b < 256) bytes
    → row_from bytes ≡ Some (row, n) → StandsIn bytes n row

-- no row's bytes begin another's
abbrev pub NoRowBeginsAnother : Type 0
NoRowBeginsAnother =
    (row other : Row) (more : List ℕ) → IsStoredRow row → All IsHeld row
    → IsStoredRow other → All IsHeld other
    → bytes_of_row row ++ more ≡ bytes_of_row other → row ≡ other

-- a row that fits a table of 1 to 16 columns has bytes
abbrev pub FittingRowsAreStored : Type 0
FittingRowsAreStored =
    (table : Table) (row : Row) → 1 ≤ length table.columns → length table.columns ≤ widest
    → row_fault table row ≡ None → IsStoredRow row

-- bytes worked out by hand
pub record WorkedRowBytes : Type 0 where
  pub named : bytes_of_row (Int (pos 1) ∷ Text (codes "Ann") ∷ [])
      ≡ 2 ∷ 1 ∷ 0 ∷ 0 ∷ 0 ∷ 0 ∷ 0 ∷ 0 ∷ 0 ∷ 1 ∷ 2 ∷ 0 ∷ 3 ∷ 65 ∷ 110 ∷ 110 ∷ []
