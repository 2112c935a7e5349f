-- What the rows of a file are where an INSERT of them over no rows was answered.
use Rattle.std.proofs.Common.{◌≡◌, ℕ, List, Result, Ok, Err, refl, ap, inl, inr}
use Rattle.std.specs.Prelude.{◌⊎◌}
use Rattle.values.specs.declared.table.Table.{Table}
use Rattle.values.specs.declared.refusal.Refusal.{Refusal}
use Rattle.values.specs.declared.refusal.Refusal.TheVariants.{Syntax, NoTable, BadRow, NoTransaction, InTransaction, DuplicateKey, Conflict, ClockEnd, TooManyWrites, Memory, NoSession, LineTooLong, JournalFull, Overlap, BadPeriod, TransactionsOpen}
use Rattle.values.specs.Log.{Row}
use Rattle.interchange.specs.Load.{AreRecordsOf, Loads, Record, rows_of, answered, inserted}

abbrev Answer : List Row → Result ℕ Refusal → Result (List Row) Refusal
Answer rows answer = elim answer [ Err why ↦ Err why | Ok count ↦ Ok rows ]

-- they are taken
pub taken_rows : (table : Table) (r : Result (List Row) Refusal) (rows : List Row) → inserted table r ≡ Ok rows → r ≡ Ok rows
taken_rows table (Err why) rows is = cc is
taken_rows table (Ok all) rows is = by (answered table all) is
  where
    by : (answer : Result ℕ Refusal) → Answer all answer ≡ Ok rows → ◌≡◌ {A = Result (List Row) Refusal} (Ok all) (Ok rows)
    by (Err why) is = cc is
    by (Ok count) is = is

abbrev unwrapped : Result (List Row) Refusal → Result ℕ Refusal
unwrapped (Err refusal) = Err refusal
unwrapped (Ok rows) = Ok 0

-- they are not: since there are none, or by the INSERT
pub refused_rows : (table : Table) (r : Result (List Row) Refusal) (why : Refusal) → inserted table r ≡ Err why
    → (r ≡ Err why) ⊎ ((rows : List Row) × (r ≡ Ok rows) × (answered table rows ≡ Err why))
refused_rows table (Err other) why is = inl is
refused_rows table (Ok all) why is = inr (all, refl, by (answered table all) is)
  where
    by : (answer : Result ℕ Refusal) → Answer all answer ≡ Err why → answer ≡ Err why
    by (Err other) is = ap unwrapped is
    by (Ok count) is = cc is

-- ---- what a file says

pub loads_of : (table : Table) (bytes : List ℕ) (r : Result (List Row) Refusal) (records : List Record) → AreRecordsOf bytes records → rows_of table records ≡ r → Loads table bytes r
loads_of table bytes (Ok rows) records are is = (records, are, is)
loads_of table bytes (Err Memory) records are is = tt
loads_of table bytes (Err (Syntax at)) records are is = (records, are, is)
loads_of table bytes (Err NoTable) records are is = (records, are, is)
loads_of table bytes (Err (BadRow column)) records are is = (records, are, is)
loads_of table bytes (Err NoTransaction) records are is = (records, are, is)
loads_of table bytes (Err InTransaction) records are is = (records, are, is)
loads_of table bytes (Err (DuplicateKey key)) records are is = (records, are, is)
loads_of table bytes (Err (Conflict key instant)) records are is = (records, are, is)
loads_of table bytes (Err ClockEnd) records are is = (records, are, is)
loads_of table bytes (Err TooManyWrites) records are is = (records, are, is)
loads_of table bytes (Err NoSession) records are is = (records, are, is)
loads_of table bytes (Err LineTooLong) records are is = (records, are, is)
loads_of table bytes (Err JournalFull) records are is = (records, are, is)
loads_of table bytes (Err (Overlap key)) records are is = (records, are, is)
loads_of table bytes (Err BadPeriod) records are is = (records, are, is)
loads_of table bytes (Err TransactionsOpen) records are is = (records, are, is)
