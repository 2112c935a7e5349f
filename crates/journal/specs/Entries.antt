-- The entries of a journal, and what was committed by them.
use Rattle.std.specs.Prelude.{ℕ, List, [], ◌∷◌, Option, Some, None, Bool, false, ◌==◌, ◌&&◌, not, if◌then◌else◌, length, zero, suc, ◌++◌}
use Rattle.std.specs.List.{list_any}
use Rattle.values.specs.Log.{Log}
use Rattle.values.specs.Period.{Periods, periods_of}
use Rattle.values.specs.Commits.{after}
use Rattle.growlog.specs.Origin.{Origin}
use Rattle.validation.specs.tsbtree.View.{last}
use Rattle.journal.specs.BegunState.{BegunState}
use Rattle.journal.specs.declared.entry.Entry.{Entry}
use Rattle.journal.specs.declared.entry.Entry.TheVariants.{Begin, Commit, Split, Install}

-- the entries so far, the newest first
abbrev pub Entries : Type 0
Entries = List Entry

-- the entry with a number: they are numbered from 1, the oldest first
abbrev pub entry_at : Entries → ℕ → Option Entry
entry_at [] number = None
entry_at (e ∷ j) number = if number == length (e ∷ j) then Some e else entry_at j number

-- the instant of a begin's snapshot
abbrev pub start_of : Option Entry → Option ℕ
start_of (Some (Begin session earlier view)) = Some (last view)
start_of _ = None

-- what was committed, from these transactions on: a commit adds its net changes, by its begin's snapshot
-- and its reading, as any transaction does
abbrev pub log_from : Periods → Log → Entries → Log
log_from periods before [] = before
log_from periods before (Commit i begin net reading end ∷ j) = elim (start_of (entry_at j begin)) [
  | None ↦ log_from periods before j
  | Some start ↦ after periods (log_from periods before j) start net reading
]
log_from periods before (e ∷ j) = log_from periods before j

-- the same of a store, from what it begins with on
abbrev pub log : Origin → Entries → Log
log o j = log_from (periods_of o.schema) o.log j

-- a begin or a commit of the session
abbrev pub is_entry_of : ℕ → Entry → Bool
is_entry_of i (Begin session earlier view) = session == i
is_entry_of i (Commit session begin net reading end) = session == i
is_entry_of i (Split cut done) = false
is_entry_of i (Install rect block done) = false

-- the entry with the number is one of the session
abbrev pub has_entry_of : Entries → ℕ → ℕ → Bool
has_entry_of j session number = elim (entry_at j number) [
  | None ↦ false
  | Some e ↦ is_entry_of session e
]

-- it is the number
abbrev pub is_number : ℕ → Option ℕ → Bool
is_number number None = false
is_number number (Some n) = n == number

-- a commit of the begin with the number
abbrev pub is_commit_of : ℕ → Entry → Bool
is_commit_of number (Commit session begin net reading end) = begin == number
is_commit_of number (Begin session earlier view) = false
is_commit_of number (Split cut done) = false
is_commit_of number (Install rect block done) = false

-- a commit names the begin with the number: its transaction has ended
abbrev pub has_ended : Entries → ℕ → Bool
has_ended j number = list_any (is_commit_of number) j

-- what a session keeps of an entry with a number, if it is a begin
abbrev pub begun_of : ℕ → Entry → Option BegunState
begun_of number (Begin session earlier view) =
    Some (record { number = number; earlier = earlier; start = last view })
begun_of number (Commit session begin net reading end) = None
begun_of number (Split cut done) = None
begun_of number (Install rect block done) = None

-- the begin that a session keeps
abbrev pub is_begin : ℕ → BegunState → Entry → Bool
is_begin i begun (Begin session earlier view) =
    (session == i) && (earlier == begun.earlier) && (last view == begun.start)
is_begin i begun (Commit session begin net reading end) = false
is_begin i begun (Split cut done) = false
is_begin i begun (Install rect block done) = false

-- a session's transaction is open here: the begin that it keeps has its number, and no commit names it
abbrev pub is_open : Entries → ℕ → BegunState → Bool
is_open j session begun =
    elim (entry_at j begun.number) [ None ↦ false | Some e ↦ is_begin session begun e ]
    && not (has_ended j begun.number)

-- the numbers of so many entries
abbrev pub numbers : ℕ → List ℕ
numbers zero = []
numbers (suc n) = numbers n ++ suc n ∷ []
