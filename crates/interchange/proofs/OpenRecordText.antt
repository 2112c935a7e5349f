-- The records of a text, from within one of them, byte by byte.
use Rattle.std.proofs.Common.{◌≡◌, ℕ, Bool, true, false, List, [], ◌∷◌, ◌++◌, Option, Some, None, refl, sym, subst, if◌then◌else◌}
use Rattle.csv.specs.Machine.{Read, next_record, step, is_end, fields_after, field_after, ends_at_end}
use Rattle.csv.specs.Reading.{AreRecords, Reached, default_config}
use Rattle.csv.specs.declared.parser.State.{State}
use Rattle.csv.specs.declared.parser.State.TheVariants as state
use Rattle.interchange.specs.Load.{Record}
use Rattle.interchange.specs.OpenRecord.{AreRecordsFrom}

abbrev Follow : List Record → Option Read → Type 0
Follow records next = elim next [
  | None ↦ records ≡ []
  | Some p ↦ (more : List Record) × (records ≡ p.0 ∷ more) × AreRecords default_config p.1 p.2 more
]

-- the next record, by whether a byte ends it, and by whether the end of the text does
abbrev next_of : State → Record → List ℕ → ℕ → List ℕ → Bool → Option Read
next_of s fields field c rest b =
    if b then Some (fields_after (step default_config s c).1 fields field, (step default_config s c).0, rest)
    else next_record default_config (step default_config s c).0 (fields_after (step default_config s c).1 fields field) (field_after (step default_config s c).1 c field) rest

abbrev last_of : Record → List ℕ → Bool → Option Read
last_of fields field b = if b then Some (fields ++ field ∷ [], state.StartRecord, []) else None

-- a record that has no byte yet is no part of a record
pub records_from_start : (s : State) (rest : List ℕ) (records : List Record) → AreRecordsFrom s [] [] rest records → AreRecords default_config s rest records
unfolding Reached
records_from_start s rest records from = by (next_record default_config s [] [] rest) refl from
  where
    by : (next : Option Read) → next_record default_config s [] [] rest ≡ next → Follow records next → AreRecords default_config s rest records
    by None is none = subst (AreRecords default_config s rest) (sym none) (s, rest, (refl, refl), is)
    by (Some p) is (more, first, after) = subst (AreRecords default_config s rest) (sym first) (after.0, after.1, (p, is, refl, after.2), after.3)

-- a byte that does not end the record
pub records_stay : (s : State) (fields : Record) (field : List ℕ) (c : ℕ) (rest : List ℕ) (records : List Record) → is_end (step default_config s c).1 ≡ false
    → AreRecordsFrom (step default_config s c).0 (fields_after (step default_config s c).1 fields field) (field_after (step default_config s c).1 c field) rest records
    → AreRecordsFrom s fields field (c ∷ rest) records
unfolding next_record
records_stay s fields field c rest records e from = subst (λ b. Follow records (next_of s fields field c rest b)) (sym e) from

-- a byte that ends it
pub records_next : (s : State) (fields : Record) (field : List ℕ) (c : ℕ) (rest : List ℕ) (records : List Record) → is_end (step default_config s c).1 ≡ true
    → AreRecordsFrom (step default_config s c).0 [] [] rest records
    → AreRecordsFrom s fields field (c ∷ rest) (fields_after (step default_config s c).1 fields field ∷ records)
unfolding next_record
records_next s fields field c rest records e from =
    subst (λ b. Follow (fields_after (step default_config s c).1 fields field ∷ records) (next_of s fields field c rest b)) (sym e)
    (records, refl, records_from_start (step default_config s c).0 rest records from)

-- the end of the text
pub records_last : (s : State) (fields : Record) (field : List ℕ) (b : Bool) → ends_at_end s ≡ b → AreRecordsFrom s fields field [] (if b then (fields ++ field ∷ []) ∷ [] else [])
unfolding next_record Reached
records_last s fields field true e =
    subst (λ b. Follow ((fields ++ field ∷ []) ∷ []) (last_of fields field b)) (sym e) ([], refl, (state.StartRecord, [], (refl, refl), refl))
records_last s fields field false e = subst (λ b. Follow [] (last_of fields field b)) (sym e) refl

-- each text has records
pub some_records : (s : State) (fields : Record) (field rest : List ℕ) → (records : List Record) × AreRecordsFrom s fields field rest records
some_records s fields field [] = (_, records_last s fields field (ends_at_end s) refl)
some_records s fields field (c ∷ rest) =
    by (is_end (step default_config s c).1) refl (some_records (step default_config s c).0 (fields_after (step default_config s c).1 fields field) (field_after (step default_config s c).1 c field) rest)
    (some_records (step default_config s c).0 [] [] rest)
  where
    by : (b : Bool) → is_end (step default_config s c).1 ≡ b
        → (records : List Record) × AreRecordsFrom (step default_config s c).0 (fields_after (step default_config s c).1 fields field) (field_after (step default_config s c).1 c field) rest records
        → (records : List Record) × AreRecordsFrom (step default_config s c).0 [] [] rest records
        → (records : List Record) × AreRecordsFrom s fields field (c ∷ rest) records
    by true e stay next = (fields_after (step default_config s c).1 fields field ∷ next.0, records_next s fields field c rest next.0 e next.1)
    by false e stay next = (stay.0, records_stay s fields field c rest stay.0 e stay.1)
