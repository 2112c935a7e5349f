-- A session beside a history of steps: what it answers is what the history's replies are.
use Rattle.std.specs.Prelude.{◌≡◌, ◌≢◌, ◌≤◌, ℕ, List, [], ◌∷◌, Option, Some, None, Result, Ok, Err, IsOk, MatchOption}
use Rattle.std.specs.Option.{option_map}
use Rattle.values.specs.declared.key.Key.{Key}
use Rattle.values.specs.declared.table.Table.{Table}
use Rattle.values.specs.declared.query.Form.{Form}
use Rattle.values.specs.declared.query.Form.TheVariants.{Plain}
use Rattle.values.specs.declared.query.Keys.{Keys}
use Rattle.values.specs.declared.refusal.Refusal.{Refusal}
use Rattle.values.specs.declared.refusal.Refusal.TheVariants.{NoTable, NoTransaction}
use Rattle.values.specs.Tables.{Schema, table_at, full_row}
use Rattle.values.specs.Order.{is_key}
use Rattle.values.specs.Versions.{matches}
use Rattle.values.specs.Log.{Changes, Row, row_at, upto, changes}
use Rattle.values.specs.Writes.{Own}
use Rattle.steps.specs.declared.step.Listing.{Listing}
use Rattle.steps.specs.declared.step.Listing.TheVariants.{Rows}
use Rattle.steps.specs.declared.step.Reply.{Reply}
use Rattle.steps.specs.declared.step.Reply.TheVariants.{Refused, RolledBack, Shown}
use Rattle.steps.specs.declared.step.Step.{Step}
use Rattle.steps.specs.declared.step.Step.TheVariants.{Rollback, Select}
use Rattle.steps.specs.Misfit.{key_misfit, max_session, misfit}
use Rattle.histories.specs.History.{History, schema_after, log, log_at_begin, mine, own, own_of, reply, snap}
use Rattle.steps.specs.Write.{writer}
use Rattle.steps.specs.Reply.{written_reply}
use Rattle.sessions.specs.SessionState.{SessionState, get_in, own_in, select_in, with_transaction, write_in}

-- the rows that the history's open transaction sees and the keys that it wrote
abbrev pub own_at : Schema → History → ℕ → Option Own
own_at first h i =
    option_map
    (λ before. own_of (schema_after first h) (log first h) (Some before) (own first h i))
    (log_at_begin first h i)

-- the session has open what the history has: its view shows the history's snapshot, and its own
-- rows and keys are the history's. The history has come to the session's tables.
pub record IsIn (first : Schema) (m : Changes) (s : SessionState) (h : History) : Type 0 where
  pub tables_are : schema_after first h ≡ s.schema
  pub snapshot : m ≡ changes (upto (log first h) (snap first h s.number))
  pub own_is : own_in m s ≡ own_at first h s.number

abbrev pub shown_reply : Result Listing Refusal → Reply
shown_reply (Ok listing) = Shown listing
shown_reply (Err refusal) = Refused refusal

-- its writes answer what the history's do
abbrev pub WritesAnswerAlike : Type 0
WritesAnswerAlike =
    (first : Schema) (m : Changes) (s : SessionState) (h : History) (step : Step)
    → IsIn first m s h → writer step ≡ Some s.number
    → written_reply step (write_in s step (own_in m s)).0 ≡ reply first h step

-- and so do its queries
abbrev pub QueriesAnswerAlike : Type 0
QueriesAnswerAlike =
    (first : Schema) (m : Changes) (s : SessionState) (h : History) (form : Form) (keys : Keys)
    → IsIn first m s h → s.transaction ≢ None
    → shown_reply (select_in m s form keys) ≡ reply first h (Select s.number form keys)

-- after a write it has open what the history with that step has
abbrev pub WritesLeaveAlike : Type 0
WritesLeaveAlike =
    (first : Schema) (m : Changes) (old new : SessionState) (h : History) (step : Step)
    → IsIn first m old h → writer step ≡ Some old.number
    → new.number ≡ old.number → new.schema ≡ old.schema
    → own_in m new ≡ (write_in old step (own_in m old)).1
    → IsIn first m new (step ∷ h)

-- the row that the history's open transaction has at a key, if there is one: of the rows that its
-- plain queries list, and as wide as its table
abbrev pub read_at : Schema → History → ℕ → Key → Result (Option Row) Refusal
read_at first h i key = elim (key_misfit (schema_after first h) key) [
  | Some refusal ↦ Err refusal
  | None ↦ elim (log_at_begin first h i) [
    | None ↦ Err NoTransaction
    | Some before ↦ elim (table_at (schema_after first h) key.table) [
      | None ↦ Err NoTable
      | Some table ↦ Ok (option_map (full_row table) (row_at (mine first h i) key))
    ]
  ]
]

-- a read at a key gives the row that the history has there
abbrev pub GetsAnswerAlike : Type 0
GetsAnswerAlike =
    (first : Schema) (m : Changes) (s : SessionState) (h : History) (key : Key)
    → IsIn first m s h → get_in m s key ≡ read_at first h s.number key

-- a row, if there is one
abbrev pub row_alone : Option Row → List Row
row_alone None = []
row_alone (Some row) = row ∷ []

-- and it is the row that the history's reply shows to a plain query that takes this key alone
abbrev pub GetsAsListed : Type 0
GetsAsListed =
    (first : Schema) (m : Changes) (s : SessionState) (h : History) (key : Key) (keys : Keys)
    (table : Table) (row : Option Row)
    → IsIn first m s h → get_in m s key ≡ Ok row
    → misfit s.schema (Select s.number Plain keys) ≡ None
    → table_at s.schema keys.table ≡ Some table
    → ((k : Key) → matches table keys k ≡ is_key key k)
    → reply first h (Select s.number Plain keys) ≡ Shown (Rows (row_alone row))

-- what a history's open transaction sees of what was committed, or all of it with none open
abbrev pub seen_at : Schema → History → ℕ → Changes
seen_at first h i = changes (upto (log first h) (snap first h i))

abbrev pub rolled_reply : {A : Type 0} → Result A Refusal → Reply
rolled_reply (Ok done) = RolledBack
rolled_reply (Err refusal) = Refused refusal

-- a rollback answers what the history's does, and then the session has open what the history with
-- that step has: none
abbrev pub RollbacksAnswerAlike : Type 0
RollbacksAnswerAlike =
    (first : Schema) (m : Changes) (s : SessionState) (h : History)
    (result : Result (Unit {0}) Refusal)
    → IsIn first m s h → s.number ≤ max_session
    → MatchOption s.transaction (result ≡ Err NoTransaction) (λ _. IsOk result)
    → (rolled_reply result ≡ reply first h (Rollback s.number))
    × IsIn first (seen_at first (Rollback s.number ∷ h) s.number)
    (with_transaction s None) (Rollback s.number ∷ h)
