-- What contracts see of a session, and what its calls answer and leave.
use Rattle.std.specs.Prelude.{◌≡◌, ◌≢◌, ℕ, ◌≤◌, ◌||◌, Option, Some, None, Result, Ok, Err, is_some, is_none, true}
use Rattle.std.specs.Option.{option_map}
use Rattle.values.specs.declared.key.Key.{Key}
use Rattle.values.specs.declared.query.Form.{Form}
use Rattle.values.specs.declared.query.Keys.{Keys}
use Rattle.values.specs.declared.refusal.Refusal.{Refusal}
use Rattle.values.specs.declared.refusal.Refusal.TheVariants.{NoTable, NoTransaction, Memory}
use Rattle.values.specs.Tables.{Schema, table_at, full_row}
use Rattle.values.specs.Log.{Changes, Net, Row, row_at}
use Rattle.values.specs.Writes.{Own}
use Rattle.values.specs.Events.{AreKeysIn}
use Rattle.book.specs.tsbtree.View.{TreeState, last}
use Rattle.book.specs.staging.View.{Holds}
use Rattle.book.specs.staging.Own.{own, rows_seen}
use Rattle.book.specs.transaction.Listing.{listing_in}
use Rattle.book.specs.transaction.OpenTransactionState.{OpenTransactionState}
use Rattle.steps.specs.declared.step.Listing.{Listing}
use Rattle.steps.specs.declared.step.Step.{Step}
use Rattle.steps.specs.declared.step.Step.TheVariants.{Select}
use Rattle.steps.specs.Misfit.{max_session, misfit, key_misfit}
use Rattle.steps.specs.Write.{write}
use Rattle.book.specs.journal.BegunState.{BegunState}

-- an open transaction: its begin, what it sees of what was committed, and its own writes
pub record SessionTransactionState : Type 0 where
  pub begun : BegunState
  pub view : TreeState
  pub writes : Net

-- by its begin, and what contracts see of the transaction
abbrev pub session_transaction : BegunState → OpenTransactionState → SessionTransactionState
session_transaction begun t = record { begun = begun; view = t.view; writes = t.writes }

-- a session's number, its tables, the number of its last receipt, and its open transaction or none
pub record SessionState : Type 0 where
  pub number : ℕ
  pub schema : Schema
  pub receipt : ℕ
  pub transaction : Option SessionTransactionState

-- the last instant that the open transaction sees, if one is open
abbrev pub start_of : SessionState → Option ℕ
start_of s = option_map (λ t. t.begun.start) s.transaction

-- the view shows the changes, whose keys are of the schema as the written ones are, and the begin has its last instant
pub record IsOpenOver (schema : Schema) (t : SessionTransactionState) (m : Changes) : Type 0 where
  pub held : Holds schema t.view m
  pub keys : AreKeysIn schema t.writes
  pub start_is : t.begun.start ≡ last t.view

-- of some changes that is so
abbrev pub MayBeOpen : Schema → Option SessionTransactionState → Type 0
MayBeOpen schema None = Unit {0}
MayBeOpen schema (Some t) = (m : Changes) × IsOpenOver schema t m

-- what is true of every session
pub record IsSession (number : ℕ) (schema : Schema) (transaction : Option SessionTransactionState)
    : Type 0 where
  pub in_range : number ≤ max_session
  pub over : MayBeOpen schema transaction

-- the session with another transaction, or none
abbrev pub with_transaction : SessionState → Option SessionTransactionState → SessionState
with_transaction s transaction = record {
  number = s.number;
  schema = s.schema;
  receipt = s.receipt;
  transaction = transaction;
}

abbrev pub with_writes : Net → SessionTransactionState → SessionTransactionState
with_writes writes t = record { begun = t.begun; view = t.view; writes = writes }

-- nothing has changed but what the open transaction wrote
abbrev pub WithWrites : SessionState → SessionState → Type 0
WithWrites old new =
    (writes : Net) × (new ≡ with_transaction old (option_map (with_writes writes) old.transaction))

-- the session's view shows these changes
abbrev pub Shows : SessionState → Changes → Type 0
Shows s m = elim s.transaction [ None ↦ Unit {0} | Some t ↦ Holds s.schema t.view m ]

-- the rows that the open transaction sees and the keys that it wrote, where its view shows these changes
abbrev pub own_in : Changes → SessionState → Option Own
own_in m s = option_map (λ t. own m t.writes) s.transaction

-- what a write answers and leaves of these rows and keys, by why it does not fit, if it does not
abbrev pub write_by : Schema → Step → Option Refusal → Option Own → Result ℕ Refusal × Option Own
write_by schema step (Some refusal) o = (Err refusal, o)
write_by schema step None None = (Err NoTransaction, None)
write_by schema step None (Some own) =
    ((write schema step own).0, Some (write schema step own).1)

abbrev pub write_in : SessionState → Step → Option Own → Result ℕ Refusal × Option Own
write_in s step o = write_by s.schema step (misfit s.schema step) o

-- unless memory ran out, a write answers and leaves what the definitions say
abbrev pub IsWrite : Step → SessionState → SessionState → Result ℕ Refusal → Type 0
IsWrite step old new result =
    (m : Changes) → Shows old m → result ≢ Err Memory
    → (result, own_in m new) ≡ write_in old step (own_in m old)

-- what a query shows, where the session's view shows these changes
abbrev pub select_in : Changes → SessionState → Form → Keys → Result Listing Refusal
select_in m s form keys = elim (misfit s.schema (Select s.number form keys)) [
  | Some refusal ↦ Err refusal
  | None ↦ elim s.transaction [
    | None ↦ Err NoTransaction
    | Some t ↦ elim (table_at s.schema keys.table) [
      | None ↦ Err NoTable
      | Some table ↦ Ok (listing_in m t.writes table form keys)
    ]
  ]
]

-- unless memory ran out, a query shows what the definitions say
abbrev pub IsSelect : SessionState → Form → Keys → Result Listing Refusal → Type 0
IsSelect s form keys result =
    (m : Changes) → Shows s m → result ≢ Err Memory → result ≡ select_in m s form keys

-- what a read at a key gives, where the session's view shows these changes: as wide as its table
abbrev pub get_in : Changes → SessionState → Key → Result (Option Row) Refusal
get_in m s key = elim (key_misfit s.schema key) [
  | Some refusal ↦ Err refusal
  | None ↦ elim s.transaction [
    | None ↦ Err NoTransaction
    | Some t ↦ elim (table_at s.schema key.table) [
      | None ↦ Err NoTable
      | Some table ↦ Ok (option_map (full_row table) (row_at (rows_seen m t.writes) key))
    ]
  ]
]

-- unless memory ran out, a read at a key gives what the definitions say
abbrev pub IsGet : SessionState → Key → Result (Option Row) Refusal → Type 0
IsGet s key result = (m : Changes) → Shows s m → result ≢ Err Memory → result ≡ get_in m s key

-- what does not fit, or comes with no transaction open, is not refused for memory
abbrev pub TakesNoMemory : {A : Type 0} → SessionState → Option Refusal → Result A Refusal → Type 0
TakesNoMemory s unfit result = (is_some unfit || is_none s.transaction) ≡ true → result ≢ Err Memory
