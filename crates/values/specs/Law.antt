-- What the definitions amount to.
use Rattle.std.specs.Prelude.{◌≡◌, ℕ, ◌<◌, ◌≤◌, List, [], ◌∷◌, ◌++◌, filter, map, nat_le}
use Rattle.values.specs.declared.query.Form.{Form}
use Rattle.values.specs.declared.query.Form.TheVariants.{Plain, AsOf}
use Rattle.values.specs.declared.query.Keys.{Keys}
use Rattle.values.specs.declared.table.Table.{Table}
use Rattle.values.specs.Log.{Log, State, Changes, Row, last, upto, state, changes}
use Rattle.values.specs.Tables.{full_row}
use Rattle.values.specs.WiderTable.{IsWidenedTo}
use Rattle.values.specs.Period.{Periods}
use Rattle.values.specs.Commits.{after}
use Rattle.values.specs.Versions.{versions, selects, matches, answer}

-- the instants strictly rise, from above n
abbrev pub Rises : ℕ → Log → Type 0
Rises n [] = Unit {0}
Rises n (t ∷ log) = (n < t.instant) × Rises t.instant log

abbrev pub IsLog : Log → Type 0
IsLog log = Rises 0 log

-- the rows of the versions that a form selects, with their keys
abbrev pub rows_by : Changes → Form → State
rows_by m form = map (λ v. (v.key, v.row)) (filter (λ v. selects form v.from v.to) (versions m))

abbrev pub shown_rows : Changes → Table → Form → Keys → List Row
shown_rows m table form keys = map (λ s. s.row) (answer m table form keys)

-- the state at an instant is the rows of the versions that had then begun and not ended
abbrev pub StateIsAsOf : Type 0
StateIsAsOf = (log : Log) (t : ℕ) → IsLog log → state log t ≡ rows_by (changes log) (AsOf t)

-- of what was committed until then, it is the rows of the versions that have not ended
abbrev pub StateIsCurrent : Type 0
StateIsCurrent =
    (log : Log) (t : ℕ) → IsLog log → state log t ≡ rows_by (changes (upto log t)) Plain

-- a query as of an instant shows the rows of the state then that the keys take, by key
abbrev pub AsOfShowsState : Type 0
AsOfShowsState =
    (log : Log) (t : ℕ) (table : Table) (keys : Keys) → IsLog log
    → shown_rows (changes log) table (AsOf t) keys
    ≡ map (λ e. full_row table e.1) (filter (λ e. matches table keys e.0) (state log t))

-- what comes later changes nothing of it
abbrev pub AsOfStays : Type 0
AsOfStays =
    (log later : Log) (t : ℕ) (table : Table) (keys : Keys)
    → IsLog (log ++ later) → t ≤ last log
    → shown_rows (changes (log ++ later)) table (AsOf t) keys
    ≡ shown_rows (changes log) table (AsOf t) keys

-- nor do columns that the table gets: later it shows the same rows, with NULL in them
abbrev pub AsOfIsWidened : Type 0
AsOfIsWidened =
    (log later : Log) (t : ℕ) (table wider : Table) (keys : Keys)
    → IsLog (log ++ later) → t ≤ last log → IsWidenedTo table wider
    → shown_rows (changes (log ++ later)) wider (AsOf t) keys
    ≡ map (full_row wider) (shown_rows (changes log) table (AsOf t) keys)

-- the changes up to an instant
abbrev pub changes_upto : Changes → ℕ → Changes
changes_upto m t = filter (λ c. nat_le c.0.instant t) m

-- they are those of the transactions up to then
abbrev pub ChangesUpto : Type 0
ChangesUpto = (log : Log) (t : ℕ) → changes (upto log t) ≡ changes_upto (changes log) t

-- a transaction whose net change is empty leaves the log as it was, whatever the clock reads
abbrev pub EmptyNetStays : Type 0
EmptyNetStays =
    (periods : Periods) (log : Log) (start reading : ℕ)
    → after periods log start [] reading ≡ log
