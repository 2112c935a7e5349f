-- Rows of one entity never overlap, and a portion changes the points that it names.
use Rattle.std.specs.Prelude.{◌≡◌, ◌≢◌, ℕ, ℤ, ◌∷◌, List, Option, Some, None, length}
use Rattle.values.specs.declared.key.Key.{Key}
use Rattle.values.specs.declared.period.Period.{Period}
use Rattle.values.specs.declared.period.Span.{Span}
use Rattle.values.specs.declared.query.Keys.{Keys}
use Rattle.values.specs.declared.query.Set.{Set}
use Rattle.values.specs.declared.table.Table.{Table}
use Rattle.values.specs.Tables.{Schema, table_at}
use Rattle.values.specs.TableRules.{AreTables}
use Rattle.values.specs.Log.{state}
use Rattle.values.specs.Period.{periods_of}
use Rattle.values.specs.Portion.{taken}
use Rattle.steps.specs.declared.step.Step.{Step}
use Rattle.steps.specs.declared.step.Step.TheVariants.{UpdatePortion, DeletePortion}
use Rattle.steps.specs.Reply.{write_count}
use Rattle.periods.specs.NoOverlap.{NoOverlap}
use Rattle.periods.specs.Point.{row_then, point, point_after}
use Rattle.histories.specs.History.{History, schema_after, log, mine, reply}

-- of what was committed, no two rows of one entity overlap at any instant (ISO/IEC 9075-2:2011,
-- 11.7): in every table with a period, whatever columns it got since
abbrev pub NeverOverlap : Schema → Type 0
NeverOverlap first =
    AreTables 1 first.tables
    → (h : History) (t : ℕ) → NoOverlap (periods_of first) (state (log first h) t)

-- nor do two that a session sees: those of its snapshot, with its own writes
abbrev pub OwnNeverOverlap : Schema → Type 0
OwnNeverOverlap first =
    AreTables 1 first.tables
    → (h : History) (i : ℕ) → NoOverlap (periods_of first) (mine first h i)

-- ---- portions

-- a session's UPDATE of a portion, which sets columns, or its DELETE, which sets none
abbrev pub portion_step : ℕ → Keys → Span → Option (List Set) → Step
portion_step i keys cut (Some sets) = UpdatePortion i keys cut sets
portion_step i keys cut None = DeletePortion i keys cut

-- after the steps, the reply to a write is a number of rows: it is not refused
abbrev pub IsAnswered : Schema → History → Step → ℕ → Type 0
IsAnswered first h step count = reply first h step ≡ write_count step count

-- after a portion of a table is changed, the session sees, of each entity of the table at each time,
-- what the portion makes of the row that it saw at that time: in the portion, the rows that it takes
-- have the new values or are gone; elsewhere nothing changes
abbrev pub PortionsChangePoints : Schema → Type 0
PortionsChangePoints first =
    AreTables 1 first.tables
    → (h : History) (i count : ℕ) (keys : Keys) (cut : Span) (sets : Option (List Set))
    → IsAnswered first h (portion_step i keys cut sets) count
    → (table : Table) (p : Period)
    → table_at (schema_after first h) keys.table ≡ Some table → table.period ≡ Some p
    → (entity : Key) (time : ℤ) → entity.table ≡ keys.table
    → point table p (mine first (portion_step i keys cut sets ∷ h) i) entity time
    ≡ point_after table p keys cut sets time (row_then p entity time (mine first h i))

-- of each entity of another table, it sees what it saw
abbrev pub OtherPointsStay : Schema → Type 0
OtherPointsStay first =
    (h : History) (i count : ℕ) (keys : Keys) (cut : Span) (sets : Option (List Set))
    → IsAnswered first h (portion_step i keys cut sets) count
    → (other : Table) (p : Period) (entity : Key) (time : ℤ) → entity.table ≢ keys.table
    → point other p (mine first (portion_step i keys cut sets ∷ h) i) entity time
    ≡ point other p (mine first h i) entity time

-- other sessions see what they saw, and nothing is committed
abbrev pub OthersSeeTheSame : Schema → Type 0
OthersSeeTheSame first =
    (h : History) (i j : ℕ) (keys : Keys) (cut : Span) (sets : Option (List Set)) → j ≢ i
    → (mine first (portion_step i keys cut sets ∷ h) j ≡ mine first h j)
    × (log first (portion_step i keys cut sets ∷ h) ≡ log first h)

-- the number is the count of the rows that the portion takes
abbrev pub PortionsCountTaken : Schema → Type 0
PortionsCountTaken first =
    (h : History) (i count : ℕ) (keys : Keys) (cut : Span) (sets : Option (List Set))
    → IsAnswered first h (portion_step i keys cut sets) count
    → (table : Table) (p : Period)
    → table_at (schema_after first h) keys.table ≡ Some table → table.period ≡ Some p
    → count ≡ length (taken table p keys cut (mine first h i))
