-- A file of CSV as it is read on.
use Rattle.std.proofs.Common.{◌≡◌, ◌≤◌, ℕ, Bool, true, false, List, [], ◌∷◌, ◌++◌, Option, Some, None, Result, Ok, Err, refl, sym, ap, ◌∙◌, subst, inl, inr, arith, length, Global, append-nil, append_assoc, if◌then◌else◌}
use Rattle.std.specs.Prelude.{◌⊎◌, IfErr, IfOk, Vec, is_some}
use Rattle.csv.specs.declared.parser.Action.{Action}
use Rattle.csv.specs.declared.parser.Action.TheVariants as act
use Rattle.csv.specs.Machine.{step, is_end, fields_after, field_after, ends_at_end}
use Rattle.csv.specs.Reading.{AreRecords, default_config}
use Rattle.csv.specs.declared.parser.State.{State}
use Rattle.csv.specs.declared.parser.State.TheVariants as state
use Rattle.values.specs.declared.table.Table.{Table}
use Rattle.values.specs.declared.refusal.Refusal.{Refusal}
use Rattle.values.specs.declared.refusal.Refusal.TheVariants.{BadRow, Memory}
use Rattle.values.specs.Log.{Row}
use Rattle.values.specs.Tables.{widest}
use Rattle.statement.specs.Meaning.{is_column_list}
use Rattle.statement.specs.Memory.{UnlessMemory}
use Rattle.interchange.specs.declared.insertion.Insertion.{Insertion}
use Rattle.interchange.specs.declared.loading.Loading.{Loading}
use Rattle.interchange.specs.declared.open_record.OpenRecord.{OpenRecord}
use Rattle.interchange.specs.Load.{Record, column_list, vec_items, row_of, rows_from, rows_of, inserted}
use Rattle.interchange.specs.OpenRecord.{AreRecordsFrom, HasTaken, IsOpenAt}
use Rattle.interchange.specs.Insertion.{HasCome}
use Rattle.interchange.specs.Loading.{HasRecords, HasRows, IsAllRead, IsReadTo, IsRefusedAt, IsWhyOf, IsWholeOf}
use Rattle.interchange.specs.KeptField.{kept_fields}
use Rattle.interchange.proofs.KeptFieldHeader.{kept_list, list_few, no_list}
use Rattle.interchange.proofs.KeptFieldRows.{row_same}
use Rattle.interchange.proofs.OpenRecordText.{records_last, records_next, records_stay, some_records}

-- ---- a text that goes on

-- a byte within a record
pub read_within : (table : Table) (text : List ℕ) (byte : ℕ) (new : Loading) (s : State) (fields : Record) (field : List ℕ) (records : List Record)
    → ((rest : List ℕ) (more : List Record) → AreRecordsFrom s fields field rest more → AreRecords default_config state.StartRecord (text ++ rest) (records ++ more))
    → HasRecords table records new → HasTaken table new.record s fields field byte false → IsReadTo table (text ++ byte ∷ []) new
read_within table text byte new s fields field records goes_on taken took = record {
  records = records;
  state_is = (step default_config s byte).0;
  fields = fields_after (step default_config s byte).1 fields field;
  field = field_after (step default_config s byte).1 byte field;
  at = took.left;
  taken = taken;
  goes_on = λ rest more from. subst (λ t. AreRecords default_config state.StartRecord t (records ++ more)) (sym (append_assoc text (byte ∷ []) rest))
      (goes_on (byte ∷ rest) more (records_stay s fields field byte rest more (sym took.ended_is) from));
}

-- a byte that ends a record, which is then taken
pub read_next : (table : Table) (text : List ℕ) (byte : ℕ) (new : Loading) (s : State) (fields : Record) (field : List ℕ) (records : List Record)
    → ((rest : List ℕ) (more : List Record) → AreRecordsFrom s fields field rest more → AreRecords default_config state.StartRecord (text ++ rest) (records ++ more))
    → is_end (step default_config s byte).1 ≡ true → IsOpenAt table new.record (step default_config s byte).0 [] []
    → HasRecords table (records ++ fields_after (step default_config s byte).1 fields field ∷ []) new → IsReadTo table (text ++ byte ∷ []) new
read_next table text byte new s fields field records goes_on ends begun taken = record {
  records = records ++ fields_after (step default_config s byte).1 fields field ∷ [];
  state_is = (step default_config s byte).0;
  fields = [];
  field = [];
  at = begun;
  taken = taken;
  goes_on = λ rest more from.
      subst (λ t. AreRecords default_config state.StartRecord t ((records ++ fields_after (step default_config s byte).1 fields field ∷ []) ++ more)) (sym (append_assoc text (byte ∷ []) rest))
      (subst (AreRecords default_config state.StartRecord (text ++ byte ∷ rest)) (sym (append_assoc records (fields_after (step default_config s byte).1 fields field ∷ []) more))
      (goes_on (byte ∷ rest) (fields_after (step default_config s byte).1 fields field ∷ more) (records_next s fields field byte rest more ends from)));
}

-- a record that is no row, whatever follows it
pub refused_next : (table : Table) (text : List ℕ) (byte : ℕ) (rest : List ℕ) (why : Refusal) (s : State) (fields : Record) (field : List ℕ) (records : List Record)
    → ((rest : List ℕ) (more : List Record) → AreRecordsFrom s fields field rest more → AreRecords default_config state.StartRecord (text ++ rest) (records ++ more))
    → is_end (step default_config s byte).1 ≡ true
    → IsRefusedAt table records (fields_after (step default_config s byte).1 fields field) why → IsWhyOf why table (text ++ byte ∷ rest)
refused_next table text byte rest why s fields field records goes_on ends (inl out) = inl out
refused_next table text byte rest why s fields field records goes_on ends (inr refused) =
    let more = some_records (step default_config s byte).0 [] [] rest in
    inr record {
      records = records ++ fields_after (step default_config s byte).1 fields field ∷ more.0;
      are_records = goes_on (byte ∷ rest) (fields_after (step default_config s byte).1 fields field ∷ more.0) (records_next s fields field byte rest more.0 ends more.1);
      rows_are = ap (inserted table) (refused more.0);
    }

-- a byte that ends a record leaves nothing of the next field
no_field : (s : State) (byte : ℕ) (field : List ℕ) → is_end (step default_config s byte).1 ≡ true → field_after (step default_config s byte).1 byte field ≡ []
no_field s byte field = by (step default_config s byte).1
  where
    by : (a : Action) → is_end a ≡ true → field_after a byte field ≡ []
    by act.Skip e = cc e
    by act.Copy e = cc e
    by act.EndField e = refl
    by act.EndRecord e = refl

-- the record that it ended, before it is taken
pub ended_at : (table : Table) (r : OpenRecord) (s : State) (fields : Record) (field : List ℕ) (byte : ℕ) → HasTaken table r s fields field byte true
    → IsOpenAt table r (step default_config s byte).0 (fields_after (step default_config s byte).1 fields field) []
ended_at table r s fields field byte took =
    subst (IsOpenAt table r (step default_config s byte).0 (fields_after (step default_config s byte).1 fields field)) (no_field s byte field (sym took.ended_is)) took.left

-- ---- the end of a text

pub all_within : (table : Table) (text : List ℕ) (new : Loading) (s : State) (fields : Record) (field : List ℕ) (records : List Record)
    → ((rest : List ℕ) (more : List Record) → AreRecordsFrom s fields field rest more → AreRecords default_config state.StartRecord (text ++ rest) (records ++ more))
    → ends_at_end s ≡ false → HasRecords table records new → IsAllRead table text new
all_within table text new s fields field records goes_on ends taken = record {
  records = records;
  are_records =
      subst (λ t. AreRecords default_config state.StartRecord t records) (append-nil text)
      (subst (AreRecords default_config state.StartRecord (text ++ [])) (append-nil records) (goes_on [] [] (records_last s fields field false ends)));
  taken = taken;
}

last_of : (text : List ℕ) (s : State) (fields : Record) (field : List ℕ) (records : List Record)
    → ((rest : List ℕ) (more : List Record) → AreRecordsFrom s fields field rest more → AreRecords default_config state.StartRecord (text ++ rest) (records ++ more))
    → ends_at_end s ≡ true → AreRecords default_config state.StartRecord text (records ++ (fields ++ field ∷ []) ∷ [])
last_of text s fields field records goes_on ends =
    subst (λ t. AreRecords default_config state.StartRecord t (records ++ (fields ++ field ∷ []) ∷ [])) (append-nil text)
    (goes_on [] ((fields ++ field ∷ []) ∷ []) (records_last s fields field true ends))

pub all_last : (table : Table) (text : List ℕ) (new : Loading) (s : State) (fields : Record) (field : List ℕ) (records : List Record)
    → ((rest : List ℕ) (more : List Record) → AreRecordsFrom s fields field rest more → AreRecords default_config state.StartRecord (text ++ rest) (records ++ more))
    → ends_at_end s ≡ true → HasRecords table (records ++ (fields ++ field ∷ []) ∷ []) new → IsAllRead table text new
all_last table text new s fields field records goes_on ends taken = record {
  records = records ++ (fields ++ field ∷ []) ∷ [];
  are_records = last_of text s fields field records goes_on ends;
  taken = taken;
}

pub refused_last : (table : Table) (text : List ℕ) (why : Refusal) (s : State) (fields : Record) (field : List ℕ) (records : List Record)
    → ((rest : List ℕ) (more : List Record) → AreRecordsFrom s fields field rest more → AreRecords default_config state.StartRecord (text ++ rest) (records ++ more))
    → ends_at_end s ≡ true → IsRefusedAt table records (fields ++ field ∷ []) why → IsWhyOf why table text
refused_last table text why s fields field records goes_on ends (inl out) = inl out
refused_last table text why s fields field records goes_on ends (inr refused) = inr record {
  records = records ++ (fields ++ field ∷ []) ∷ [];
  are_records = last_of text s fields field records goes_on ends;
  rows_are = ap (inserted table) (refused []);
}

-- ---- records that are taken

-- the header, by what is kept of it
pub header_taken : (table : Table) (columns : List ℕ) (kept fields : Record) (i : Insertion) → length table.columns ≤ widest → kept ≡ kept_fields table fields
    → columns ≡ column_list table kept → is_column_list columns ≡ true → HasCome table [] i → HasRows table columns (fields ∷ []) i
header_taken table columns kept fields i few is names list come =
    let named : columns ≡ column_list table (kept_fields table fields) = names ∙ ap (column_list table) is in
    let same : columns ≡ column_list table fields = named ∙ kept_list table fields few (ap is_column_list (sym named) ∙ list) in
    let listed : is_column_list (column_list table fields) ≡ true = ap is_column_list (sym same) ∙ list in
    record {
      few = omega (arith, ap length same, list_few table fields few listed);
      rows = [];
      goes_on = λ more.
          ap (λ (b : Bool). if b then rows_from table (column_list table fields) [] more else Err (BadRow 0)) listed
          ∙ ap (λ c. rows_from table c [] more) (sym same);
      come = come;
    }

pub header_refused : (table : Table) (kept fields : Record) (records : List Record) (why : Refusal) → length table.columns ≤ widest → kept ≡ kept_fields table fields → records ≡ []
    → (why ≡ Memory) ⊎ ((why ≡ BadRow 0) × (is_column_list (column_list table kept) ≡ false)) → IsRefusedAt table records fields why
header_refused table kept fields records why few same none (inl out) = inl out
header_refused table kept fields records why few same none (inr (is, bad)) = inr (λ more.
    ap (λ (l : List Record). rows_of table (l ++ fields ∷ more)) none
    ∙ ap (λ (b : Bool). if b then rows_from table (column_list table fields) [] more else Err (BadRow 0))
    (no_list table fields few (ap (λ k. is_column_list (column_list table k)) (sym same) ∙ bad))
    ∙ ap Err (sym is))

-- a row, by what is kept of it
row_is : (table : Table) (columns : List ℕ) (kept fields : Record) (records : List Record) (i : Insertion) → kept ≡ kept_fields table fields → HasRows table columns records i
    → row_of table columns fields ≡ row_of table columns kept
row_is table columns kept fields records i same has = sym (row_same table columns fields has.few) ∙ ap (row_of table columns) (sym same)

pub row_taken : (table : Table) (columns : List ℕ) (kept fields : Record) (records : List Record) (row : Row) (old new : Insertion)
    → row_of table columns kept ≡ Ok row → kept ≡ kept_fields table fields → ((rows : List Row) → HasCome table rows old → HasCome table (rows ++ row ∷ []) new) → HasRows table columns records old → HasRows table columns (records ++ fields ∷ []) new
row_taken table columns kept fields records row old new is same come has = record {
  few = has.few;
  rows = has.rows ++ row ∷ [];
  goes_on = λ more.
      ap (rows_of table) (append_assoc records (fields ∷ []) more)
      ∙ has.goes_on (fields ∷ more)
      ∙ ap (later more) (row_is table columns kept fields records old same has ∙ is);
  come = come has.rows has.come;
}
  where
    later : List Record → Result Row Refusal → Result (List Row) Refusal
    later more r = elim r [ Err refusal ↦ Err refusal | Ok row ↦ rows_from table columns (has.rows ++ row ∷ []) more ]

-- memory ran out, or that is what a record is refused for
refused_for : (why : Refusal) (answer : Result Row Refusal) → UnlessMemory (Err why) answer → (why ≡ Memory) ⊎ (answer ≡ Err why)
refused_for Memory answer refused = inl refl
refused_for why answer refused = inr refused

pub row_refused : (table : Table) (columns : List ℕ) (kept fields : Record) (records : List Record) (why : Refusal) (i : Insertion)
    → UnlessMemory (Err why) (row_of table columns kept) → kept ≡ kept_fields table fields → HasRows table columns records i → IsRefusedAt table records fields why
row_refused table columns kept fields records why i refused same has = by (refused_for why (row_of table columns kept) refused)
  where
    later : List Record → Result Row Refusal → Result (List Row) Refusal
    later more r = elim r [ Err refusal ↦ Err refusal | Ok row ↦ rows_from table columns (has.rows ++ row ∷ []) more ]

    by : (why ≡ Memory) ⊎ (row_of table columns kept ≡ Err why) → IsRefusedAt table records fields why
    by (inl out) = inl out
    by (inr is) = inr (λ more. has.goes_on (fields ∷ more) ∙ ap (later more) (row_is table columns kept fields records i same has ∙ is))

-- ---- a file that was read to its end

abbrev Taken : Table → List Record → Insertion → Option (Vec ℕ Global) → Type 0
Taken table records i columns = elim columns [
  | None ↦ (records ≡ []) × HasCome table [] i
  | Some columns ↦ HasRows table columns.items records i
]

pub whole_of : (table : Table) (text : List ℕ) (l : Loading) (result : Result (List Row) Refusal) → is_some l.columns ≡ true
    → ((table : Table) (rows : List Row) → HasCome table rows l.rows → result ≡ inserted table (Ok rows)) → IsAllRead table text l → IsWholeOf table text result
whole_of table text l result some ends all = by l.columns some all.taken
  where
    by : (columns : Option (Vec ℕ Global)) → is_some columns ≡ true → Taken table all.records l.rows columns → IsWholeOf table text result
    by None some taken = cc some
    by (Some columns) some has = record {
      records = all.records;
      are_records = all.are_records;
      rows_are = ap (inserted table) (ap (rows_of table) (sym (append-nil all.records)) ∙ has.goes_on []) ∙ sym (ends table has.rows has.come);
    }

pub none_of : (table : Table) (text : List ℕ) (l : Loading) → l.columns ≡ None → IsAllRead table text l → IsWholeOf table text (Err (BadRow 0))
none_of table text l none all = by l.columns none all.taken
  where
    by : (columns : Option (Vec ℕ Global)) → columns ≡ None → Taken table all.records l.rows columns → IsWholeOf table text (Err (BadRow 0))
    by None none taken = record { records = all.records; are_records = all.are_records; rows_are = ap (inserted table) (ap (rows_of table) taken.0) }
    by (Some columns) none has = cc none

pub ok_items : {A : Type 0} (P : Result (List Row) Refusal → Type 0) (r : Result (Vec Row A) Refusal) → P (vec_items r) → IfOk r (λ rows. P (Ok rows.items))
ok_items P (Ok rows) h = h
ok_items P (Err why) h = tt

pub err_items : {A : Type 0} (P : Result (List Row) Refusal → Type 0) (r : Result (Vec Row A) Refusal) → P (vec_items r) → IfErr r (λ why. P (Err why))
err_items P (Ok rows) h = tt
err_items P (Err why) h = h
