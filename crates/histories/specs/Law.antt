-- What the definitions amount to.
use Rattle.std.specs.Prelude.{◌≡◌, ℕ, ◌≤◌, [], ◌∷◌, ◌++◌, List, Option, Some, None, if◌then◌else◌, map}
use Rattle.std.specs.Option.{option_map}
use Rattle.values.specs.declared.query.Form.{Form}
use Rattle.values.specs.declared.query.Form.TheVariants.{AsOf}
use Rattle.values.specs.declared.query.Keys.{Keys}
use Rattle.values.specs.declared.refusal.Refusal.{Refusal}
use Rattle.values.specs.Tables.{Schema, table_at, full_row}
use Rattle.values.specs.WiderTable.{IsWidenedTo}
use Rattle.values.specs.Period.{periods_of}
use Rattle.rows.specs.GoodTable.{NoTwo}
use Rattle.values.specs.declared.table.Table.{Table}
use Rattle.values.specs.Log.{Log, last, changes}
use Rattle.values.specs.Law.{IsLog, shown_rows}
use Rattle.steps.specs.declared.step.Step.{Step}
use Rattle.steps.specs.declared.step.Step.TheVariants.{Select}
use Rattle.steps.specs.declared.step.Listing.{Listing}
use Rattle.steps.specs.declared.step.Listing.TheVariants.{Rows, Periods}
use Rattle.steps.specs.declared.step.Reply.{Reply}
use Rattle.steps.specs.declared.step.Reply.TheVariants.{Refused, Shown as Shows}
use Rattle.steps.specs.Write.{writer}
use Rattle.histories.specs.Due.{AllAnswered, due}
use Rattle.histories.specs.Maintenance.{without_maintenance, with_maintenance}
use Rattle.steps.specs.Misfit.{max_session}
use Rattle.histories.specs.History.{History, schema_after, ends, begins, log, log_at_begin, mine, net, own, snap, listing, reply, replies}
use Rattle.histories.specs.Winners.{winners, AreConcurrent, ShareAUnit}

-- the steps before the session's first BEGIN after its last end, or none where none is open
abbrev pub before_open : ℕ → History → Option History
before_open i [] = None
before_open i (step ∷ h) =
    if ends i step then None
    else if begins i step then elim (before_open i h) [ Some g ↦ Some g | None ↦ Some h ]
    else before_open i h

-- a session's open transaction began at the log of the steps before its BEGIN
abbrev pub OpensAtItsBegin : Schema → Type 0
OpensAtItsBegin first =
    (h : History) (i : ℕ) → log_at_begin first h i ≡ option_map (log first) (before_open i h)

-- the instants of a log strictly rise
abbrev pub LogsRise : Schema → Type 0
LogsRise first = (h : History) → IsLog (log first h)

-- later steps leave what was committed, and add to it
abbrev pub LaterStepsAdd : Schema → Type 0
LaterStepsAdd first =
    (h : History) (later : List Step)
    → (added : Log) × (log first (later ++ h) ≡ log first h ++ added)

-- they change nothing of what a query shows as of an instant at or before the last one
abbrev pub PastStays : Schema → Type 0
PastStays first =
    (h : History) (later : List Step) (t : ℕ) (table : Table) (keys : Keys)
    → t ≤ last (log first h)
    → shown_rows (changes (log first (later ++ h))) table (AsOf t) keys
    ≡ shown_rows (changes (log first h)) table (AsOf t) keys

-- so a query as of an instant at or before both snapshots shows one thing for ever, whichever
-- session asks it, with a transaction open or with none
abbrev pub PastIsReadAlike : Schema → Type 0
PastIsReadAlike first =
    (h : History) (later : List Step) (i j t : ℕ) (table : Table) (keys : Keys)
    → t ≤ snap first h i → t ≤ snap first (later ++ h) j
    → listing first (later ++ h) j (AsOf t) table keys ≡ listing first h i (AsOf t) table keys

-- and it has one reply, while the tables stay
abbrev pub PastIsAnsweredAlike : Schema → Type 0
PastIsAnsweredAlike first =
    (h : History) (later : List Step) (i j t : ℕ) (keys : Keys)
    → i ≤ max_session → j ≤ max_session → t ≤ snap first h i → t ≤ snap first (later ++ h) j
    → schema_after first (later ++ h) ≡ schema_after first h
    → reply first (later ++ h) (Select j (AsOf t) keys) ≡ reply first h (Select i (AsOf t) keys)

-- a table stays at its number: later steps add columns behind its own, and change nothing else
abbrev pub TablesOnlyGrow : Schema → Type 0
TablesOnlyGrow first =
    (h : History) (later : List Step) (number : ℕ) (table : Table)
    → table_at (schema_after first h) number ≡ Some table
    → (wider : Table)
    × ((table_at (schema_after first (later ++ h)) number ≡ Some wider) × IsWidenedTo table wider)

-- the listing with NULL in the columns that its rows lack of this table
abbrev pub widened_listing : Table → Listing → Listing
widened_listing wider (Rows rows) = Rows (map (full_row wider) rows)
widened_listing wider (Periods shown) =
    Periods (map (λ s. record { row = full_row wider s.row; from = s.from; to = s.to }) shown)

-- of a table that has got columns since, a query as of an instant at or before both snapshots shows
-- the rows that it showed, with NULL in these columns
abbrev pub PastIsWidened : Schema → Type 0
PastIsWidened first =
    (h : History) (later : List Step) (i j t : ℕ) (table wider : Table) (keys : Keys)
    → t ≤ snap first h i → t ≤ snap first (later ++ h) j → IsWidenedTo table wider
    → listing first (later ++ h) j (AsOf t) wider keys
    ≡ widened_listing wider (listing first h i (AsOf t) table keys)

-- so what was once answered is always answered: with these rows, as wide as the table is then
abbrev pub PastIsAnsweredWidened : Schema → Type 0
PastIsAnsweredWidened first =
    (h : History) (later : List Step) (i j t : ℕ) (keys : Keys) (shown : Listing)
    → j ≤ max_session → t ≤ snap first h i → t ≤ snap first (later ++ h) j
    → reply first h (Select i (AsOf t) keys) ≡ Shows shown
    → (wider : Table)
    × ((table_at (schema_after first (later ++ h)) keys.table ≡ Some wider)
    × (reply first (later ++ h) (Select j (AsOf t) keys) ≡ Shows (widened_listing wider shown)))

-- no key is in the net changes of two committed transactions of which each began before the
-- other was committed, nor, where its table has a period, any of its entity
abbrev pub FirstCommitterWins : Schema → Type 0
FirstCommitterWins first =
    (h : History)
    → NoTwo (λ v w. AreConcurrent v w × ShareAUnit (periods_of first) v w) (winners first h)

-- the log is the committed transactions
abbrev pub LogIsOfWinners : Schema → Type 0
LogIsOfWinners first =
    (h : History) → log first h ≡ map (λ w. w.transaction) (winners first h)

-- open transactions of one snapshot and the same own writes: one session's after some steps, and
-- one session's after others
pub record SeeTheSame (first : Schema) (h : History) (i : ℕ) (g : History) (j : ℕ) : Type 0 where
  pub snapshot : Log
  pub first_opened : log_at_begin first h i ≡ Some snapshot
  pub second_opened : log_at_begin first g j ≡ Some snapshot
  pub own_same : own first h i ≡ own first g j
  pub same_tables : schema_after first h ≡ schema_after first g

-- every query shows both the same, whatever was committed since
abbrev pub ReadsBySnapshot : Schema → Type 0
ReadsBySnapshot first =
    (h g : History) (i j : ℕ) (form : Form) (table : Table) (keys : Keys)
    → SeeTheSame first h i g j
    → listing first h i form table keys ≡ listing first g j form table keys

-- and they get the same reply
abbrev pub SelectsBySnapshot : Schema → Type 0
SelectsBySnapshot first =
    (h g : History) (i j : ℕ) (form : Form) (keys : Keys)
    → SeeTheSame first h i g j
    → reply first h (Select i form keys) ≡ reply first g (Select j form keys)

-- a write that is refused changes nothing: every session sees the rows that it saw, and has the net
-- change that it had; nothing is committed
abbrev pub RefusedWritesChangeNothing : Schema → Type 0
RefusedWritesChangeNothing first =
    (h : History) (step : Step) (i j : ℕ) (refusal : Refusal)
    → writer step ≡ Some i → reply first h step ≡ Refused refusal
    → (mine first (step ∷ h) j ≡ mine first h j)
    × (net first (step ∷ h) j ≡ net first h j)
    × (log first (step ∷ h) ≡ log first h)

-- steps of maintenance, anywhere before or among other steps, change none of the others' replies
abbrev pub MaintenanceChangesNoReply : Schema → Type 0
MaintenanceChangesNoReply first =
    (h : History) (steps : List Step)
    → replies first h steps
    ≡ with_maintenance first h steps
    (replies first (without_maintenance h) (without_maintenance steps))

-- nor what is committed
abbrev pub MaintenanceCommitsNothing : Schema → Type 0
MaintenanceCommitsNothing first =
    (h : History) → log first h ≡ log first (without_maintenance h)

-- where memory runs out at no step, the replies that are due are those of the definitions
abbrev pub AnsweredRepliesAreDue : Schema → Type 0
AnsweredRepliesAreDue first =
    (h : History) (steps : List Step) (given : List Reply) → AllAnswered given
    → due first h steps given ≡ replies first h steps
