-- A record as far as its bytes were read, and the records that follow it.
use Rattle.std.specs.Prelude.{◌≡◌, ℕ, List, [], ◌∷◌, ◌++◌, Bool, Some, None, true}
use Rattle.csv.specs.Machine.{next_record, step, is_end, fields_after, field_after, ends_at_end}
use Rattle.csv.specs.Reading.{AreRecords, default_config}
use Rattle.csv.specs.Records.{fields_of, partial_of}
use Rattle.csv.specs.declared.parser.State.{State}
use Rattle.values.specs.declared.table.Table.{Table}
use Rattle.interchange.specs.declared.open_record.OpenRecord.{OpenRecord}
use Rattle.interchange.specs.KeptField.{kept_field, kept_fields, longest_field}
use Rattle.interchange.specs.Load.{Record}
use Rattle.interchange.specs.Place.{state_of}

-- a record for the table whose bytes so far leave the machine in this state, with these fields and
-- this much of the next one, of which enough is kept to tell what they write
pub record IsOpenAt (table : Table) (r : OpenRecord) (s : State) (fields : Record) (field : List ℕ)
    : Type 0 where
  pub state_is : state_of r.place ≡ s
  pub longest_is : r.field.longest ≡ longest_field table
  pub whole : partial_of r.fields ≡ []
  pub fields_are : fields_of r.fields ≡ kept_fields table fields
  pub field_is : r.field.bytes.items ≡ kept_field (longest_field table) field

-- a byte was taken: whether it ended the record, and what it leaves
pub record HasTaken (table : Table) (r : OpenRecord) (s : State) (fields : Record) (field : List ℕ)
    (byte : ℕ) (ended : Bool) : Type 0 where
  pub ended_is : ended ≡ is_end (step default_config s byte).1
  pub left : IsOpenAt table r (step default_config s byte).0
      (fields_after (step default_config s byte).1 fields field)
      (field_after (step default_config s byte).1 byte field)

-- the end of the text was met: whether it ends the record, which then has its last field
pub record HasClosed (table : Table) (r : OpenRecord) (s : State) (fields : Record) (field : List ℕ)
    (ended : Bool) : Type 0 where
  pub ended_is : ended ≡ ends_at_end s
  pub last : ended ≡ true → IsOpenAt table r s (fields ++ field ∷ []) []

-- all records of the rest of a text, from within one that has these fields and this much of the next
abbrev pub AreRecordsFrom : State → Record → List ℕ → List ℕ → List Record → Type 0
AreRecordsFrom s fields field rest records =
    elim (next_record default_config s fields field rest) [
      | None ↦ records ≡ []
      | Some p ↦ (more : List Record) × (records ≡ p.0 ∷ more)
          × AreRecords default_config p.1 p.2 more
    ]
