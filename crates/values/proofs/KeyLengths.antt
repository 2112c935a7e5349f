-- How long the bytes of a key are, and that a key that fits its table is short enough.
use Rattle.std.proofs.Common.{◌≡◌, ℕ, ◌+◌, ◌*◌, ◌≤◌, List, [], ◌∷◌, ◌==◌, Bool, true, false, Option, Some, None, length, refl, arith, leb-true, nat_le, if◌then◌else◌, All}
use Rattle.std.proofs.lemmas.Bool.{and_parts}
use Rattle.std.specs.Prelude.{not, ◌||◌}
use Rattle.std.specs.List.{flat_map}
use Rattle.std.proofs.lemmas.List.{length-append}
use Rattle.std.proofs.lemmas.List.Elements.{All-head, All-tail, All-cons, All-nil}
use Rattle.values.specs.declared.value.Value.{Value}
use Rattle.values.specs.declared.value.Value.TheVariants.{Int, Text, Bool as Truth, Null}
use Rattle.values.specs.declared.table.Table.{Table}
use Rattle.values.specs.declared.table.Column.{Column}
use Rattle.values.specs.declared.table.ColumnType.{ColumnType}
use Rattle.values.specs.declared.table.ColumnType.TheVariants.{Int as IsInt, Text as IsText, Varchar as IsVarchar, Boolean as IsBoolean}
use Rattle.values.specs.declared.key.Key.{Key}
use Rattle.values.specs.Tables.{column_at}
use Rattle.values.specs.Fit.{fits_type, fits_text, fits_value, part_fault, parts_fault, key_fault, character_count, first_of}
use Rattle.values.specs.KeyEncoding.{text_bytes, part_bytes, bytes_of_key, IsShort, IsShortKey}

one_more : (b : ℕ) (z : Bool) (bs : List ℕ) (n : ℕ) → length (text_bytes bs) ≤ 2 * n + 2 → length (if z then 0 ∷ 255 ∷ text_bytes bs else b ∷ text_bytes bs) ≤ 2 * (n + 1) + 2
one_more b true bs n h = omega arith
one_more b false bs n h = omega arith

pub text_bytes_length : (t : List ℕ) → length (text_bytes t) ≤ 2 * length t + 2
text_bytes_length [] = omega arith
text_bytes_length (b ∷ bs) = let h = one_more b (b == 0) bs (length bs) (text_bytes_length bs) in omega arith

pub part_bytes_length : (v : Value) → IsShort v → length (part_bytes v) ≤ 402
part_bytes_length (Int n) h = omega arith
part_bytes_length (Text t) h = omega (arith, text_bytes_length t)
part_bytes_length (Truth t) h = omega arith
part_bytes_length Null h = omega arith

pub parts_length : (vs : List Value) → All IsShort vs → length (flat_map part_bytes vs) ≤ 402 * length vs
parts_length [] h = omega arith
parts_length (v ∷ vs) h =
    omega (arith, length-append (part_bytes v) (flat_map part_bytes vs), part_bytes_length v (All-head IsShort v vs h), parts_length vs (All-tail IsShort v vs h))

-- the bytes of a short key have their bound
pub key_bytes_length : (k : Key) → IsShortKey k → length (bytes_of_key k) ≤ 1609
key_bytes_length k h = omega (arith, parts_length k.parts h.short_parts, h.few_parts)

-- what fits a type of at most 200 bytes is short
text_short : (t : List ℕ) → fits_text 200 t ≡ true → length t ≤ 200
text_short t e = leb-true (length t) 200 ((and_parts (nat_le (length t) 200) _ e).0)

typed_short : (of : ColumnType) (v : Value) → fits_type 200 of v ≡ true → IsShort v
typed_short IsText (Text t) e = text_short t e
typed_short (IsVarchar n) (Text t) e = text_short t ((and_parts (fits_text 200 t) (nat_le (character_count t) n) e).0)
typed_short IsInt (Int x) e = tt
typed_short IsBoolean (Truth x) e = tt
typed_short _ (Int x) e = tt
typed_short _ (Truth x) e = tt
typed_short _ Null e = tt
typed_short IsInt (Text t) e = cc
typed_short IsBoolean (Text t) e = cc

-- a value of a key that fits its column fits the column's type
never_null : (t : Bool) → not (t || true) ≡ true → false ≡ true
never_null true e = e
never_null false e = e

pub value_typed : (c : Column) (v : Value) → fits_value true c v ≡ true → fits_type 200 c.of v ≡ true
value_typed c (Int x) e = e
value_typed c (Text x) e = e
value_typed c (Truth x) e = e
value_typed c Null e = absurd_null c.not_null e
  where
    absurd_null : (t : Bool) → not (t || true) ≡ true → fits_type 200 c.of Null ≡ true
    absurd_null t e = let h = never_null t e in cc

-- where no part is at fault, each fits its column
pub record FitsColumn (table : Table) (n : ℕ) (v : Value) : Type 0 where
  pub column : Column
  pub found : column_at table n ≡ Some column
  pub typed : fits_type 200 column.of v ≡ true

tested : (c : Column) (n : ℕ) (v : Value) (t : Bool) → fits_value true c v ≡ t → ◌≡◌ {A = Option ℕ} (if t then None else Some n) None → fits_value true c v ≡ true
tested c n v true e h = e
tested c n v false e h = cc

pub part_fits : (table : Table) (n : ℕ) (v : Value) → part_fault table n v ≡ None → FitsColumn table n v
part_fits table n v e = found (column_at table n) refl e
  where
    found : (o : Option Column) → column_at table n ≡ o → ◌≡◌ {A = Option ℕ} (elim o [ None ↦ Some 0 | Some c ↦ if fits_value true c v then None else Some n ]) None → FitsColumn table n v
    found None at h = cc
    found (Some c) at h = record { column = c; found = at; typed = value_typed c v (tested c n v (fits_value true c v) refl h) }

-- no fault of the first and the others is none of either
pub first_none : (o p : Option ℕ) → ◌≡◌ {A = Option ℕ} (first_of o p) None → (o ≡ None) × (p ≡ None)
first_none None p e = (refl, e)
first_none (Some n) p e = cc

shorts : (table : Table) (ns : List ℕ) (vs : List Value) → length ns ≡ length vs → parts_fault table ns vs ≡ None → All IsShort vs
shorts table [] [] e h = All-nil IsShort
shorts table [] (v ∷ vs) e h = absurd (omega arith)
shorts table (n ∷ ns) [] e h = absurd (omega arith)
shorts table (n ∷ ns) (v ∷ vs) e h =
    let both : (part_fault table n v ≡ None) × (parts_fault table ns vs ≡ None) = first_none (part_fault table n v) (parts_fault table ns vs) h in
    let fits : FitsColumn table n v = part_fits table n v both.0 in
    All-cons IsShort v vs (typed_short fits.column.of v fits.typed) (shorts table ns vs (omega arith) both.1)

-- the width of a key that fits, and its parts
pub record FitsKey (table : Table) (parts : List Value) : Type 0 where
  pub same_width : length table.key ≡ length parts
  pub no_fault : parts_fault table table.key parts ≡ None

equal : (a b : ℕ) → (a == b) ≡ true → a ≡ b
equal a b e = grind (arith, Rattle.std.proofs.lemmas.Bool.Decides.nat_tests)

pub key_fits : (table : Table) (parts : List Value) → key_fault table parts ≡ None → FitsKey table parts
key_fits table parts h = by_width (length table.key == length parts) refl h
  where
    by_width : (t : Bool) → (length table.key == length parts) ≡ t → ◌≡◌ {A = Option ℕ} (if t then parts_fault table table.key parts else Some 0) None → FitsKey table parts
    by_width true e h = record { same_width = equal _ _ e; no_fault = h }
    by_width false e h = cc

pub fitting_keys_are_short : (table : Table) (key : Key) → length table.key ≤ 4 → key_fault table key.parts ≡ None → IsShortKey key
fitting_keys_are_short table key few h =
    let fits : FitsKey table key.parts = key_fits table key.parts h in
    record { few_parts = omega (arith, fits.same_width); short_parts = shorts table table.key key.parts fits.same_width fits.no_fault }
