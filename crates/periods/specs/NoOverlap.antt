-- Rows of which no two of one entity overlap, and what is true of each of them.
use Rattle.std.specs.Prelude.{◌≡◌, ◌≢◌, ℕ, ◌≤◌, List, [], ◌∷◌, Option, Some, None, false, true, length}
use Rattle.std.specs.List.{list_any}
use Rattle.values.specs.declared.period.Period.{Period}
use Rattle.values.specs.declared.key.Key.{Key}
use Rattle.values.specs.declared.table.Table.{Table}
use Rattle.values.specs.declared.query.Set.{Set}
use Rattle.values.specs.Log.{State, Row}
use Rattle.values.specs.Writes.{key_of}
use Rattle.values.specs.Period.{Periods, span_of, is_span}
use Rattle.values.specs.Clash.{clash}
use Rattle.values.specs.TableRules.{IsOutside, HasPeriod}
use Rattle.values.specs.Each.{Each}

-- no row clashes with one behind it
abbrev pub NoOverlap : Periods → State → Type 0
NoOverlap periods [] = Unit {0}
NoOverlap periods (e ∷ es) = (list_any (clash periods e) es ≡ false) × NoOverlap periods es

-- tables by their numbers
abbrev pub Tables : Type 0
Tables = ℕ → Option Table

-- the column is none of the key's, and none of the period's
pub record IsSettable (table : Table) (p : Period) (s : Set) : Type 0 where
  pub outside : IsOutside p s.column
  pub no_key : Each (λ column. s.column ≢ column) table.key

-- so are all columns that an UPDATE sets; a DELETE sets none
abbrev pub SetsKeep : Table → Period → Option (List Set) → Type 0
SetsKeep table p None = Unit {0}
SetsKeep table p (Some sets) = Each (IsSettable table p) sets

-- a row of the table has its key and a span that is not empty, and is wide enough for the period;
-- rows that were stored before a column was added are shorter than the table
pub record IsKeyed (table : Table) (p : Period) (e : Key × Row) : Type 0 where
  pub key_is : e.0 ≡ key_of table e.1
  pub start_within : p.from ≤ length e.1
  pub end_within : p.to ≤ length e.1
  pub proper : is_span (span_of p e.1) ≡ true

abbrev pub IsKeyedIn : Tables → Periods → (Key × Row) → Type 0
IsKeyedIn tables periods e =
    (table : Table) (p : Period) → tables e.0.table ≡ Some table → periods e.0.table ≡ Some p → IsKeyed table p e

abbrev pub AreKeyed : Tables → Periods → State → Type 0
AreKeyed tables periods m = Each (IsKeyedIn tables periods) m

-- each table with a period has it of its columns
abbrev pub AreGood : Tables → Periods → Type 0
AreGood tables periods =
    (number : ℕ) (table : Table) (p : Period) → tables number ≡ Some table → periods number ≡ Some p
    → (table.number ≡ number) × HasPeriod table p
