-- How far a file of CSV was read, and what is known of all of it.
use Rattle.std.specs.Prelude.{◌≡◌, ◌≤◌, ◌⊎◌, ℕ, List, [], ◌∷◌, ◌++◌, Some, None, Result, Err, length}
use Rattle.csv.specs.Reading.{AreRecords, default_config}
use Rattle.csv.specs.declared.parser.State.{State}
use Rattle.csv.specs.declared.parser.State.TheVariants as state
use Rattle.values.specs.declared.table.Table.{Table}
use Rattle.values.specs.declared.refusal.Refusal.{Refusal}
use Rattle.values.specs.declared.refusal.Refusal.TheVariants.{Memory}
use Rattle.values.specs.Log.{Row}
use Rattle.values.specs.Tables.{widest}
use Rattle.interchange.specs.declared.insertion.Insertion.{Insertion}
use Rattle.interchange.specs.declared.loading.Loading.{Loading}
use Rattle.interchange.specs.Load.{Record, rows_from, rows_of, inserted}
use Rattle.interchange.specs.OpenRecord.{AreRecordsFrom, IsOpenAt}
use Rattle.interchange.specs.Insertion.{HasCome}

-- a text's records, and the rows that an INSERT of them over no rows takes, or why there are none
pub record IsWholeOf (table : Table) (text : List ℕ) (result : Result (List Row) Refusal)
    : Type 0 where
  pub records : List Record
  pub are_records : AreRecords default_config state.StartRecord text records
  pub rows_are : inserted table (rows_of table records) ≡ result

-- records were taken, of which the first names these columns: what rows they are, whatever follows
pub record HasRows (table : Table) (columns : List ℕ) (records : List Record) (i : Insertion)
    : Type 0 where
  pub few : length columns ≤ widest
  pub rows : List Row
  pub goes_on : (more : List Record)
      → rows_of table (records ++ more) ≡ rows_from table columns rows more
  pub come : HasCome table rows i

-- these records were taken: none, or a header and some more
abbrev pub HasRecords : Table → List Record → Loading → Type 0
HasRecords table records l = elim l.columns [
  | None ↦ (records ≡ []) × HasCome table [] l.rows
  | Some columns ↦ HasRows table columns.items records l.rows
]

-- memory ran out, or this is why records that go on with this one write no rows
abbrev pub IsRefusedAt : Table → List Record → Record → Refusal → Type 0
IsRefusedAt table records fields why =
    (why ≡ Memory)
    ⊎ ((more : List Record) → rows_of table (records ++ fields ∷ more) ≡ Err why)

-- this much of a text was read: what its records are, whatever follows
pub record IsReadTo (table : Table) (text : List ℕ) (l : Loading) : Type 0 where
  pub records : List Record
  pub state_is : State
  pub fields : Record
  pub field : List ℕ
  pub at : IsOpenAt table l.record state_is fields field
  pub taken : HasRecords table records l
  pub goes_on : (rest : List ℕ) (more : List Record) → AreRecordsFrom state_is fields field rest more
      → AreRecords default_config state.StartRecord (text ++ rest) (records ++ more)

-- all of a text was read, and these are its records
pub record IsAllRead (table : Table) (text : List ℕ) (l : Loading) : Type 0 where
  pub records : List Record
  pub are_records : AreRecords default_config state.StartRecord text records
  pub taken : HasRecords table records l

-- memory ran out, or this is why an INSERT of the rows of a text over no rows is refused
abbrev pub IsWhyOf : Refusal → Table → List ℕ → Type 0
IsWhyOf why table text = (why ≡ Memory) ⊎ IsWholeOf table text (Err why)
