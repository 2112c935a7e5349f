-- Values of one column by their bytes.
use Rattle.std.proofs.Common.{◌≡◌, ⊎_elim, ℕ, ◌+◌, ◌/◌, ◌%◌, ◌<◌, List, [], ◌∷◌, ◌++◌, ◌==◌, Bool, true, false, Some, None, refl, sym, subst, ap, ◌∙◌, arith, nat_le, nat_lt, cond, if◌then◌else◌, suc, zero, append-nil, All, IsUtf8, leb-true, length, ◌≤◌, not}
use Rattle.std.proofs.lemmas.Bool.{and_parts}
use Rattle.std.proofs.lemmas.Bool.Decides.{nat_tests}
use Rattle.std.proofs.lemmas.List.Elements.{All-head, All-tail, All-cons, All-nil, All-append}
use Rattle.std.specs.Int.{byte_at, bytes_high_first}
use Rattle.std.specs.Ordering.{ordering_then}
use Rattle.std.specs.List.{flat_map, list_any}
use Rattle.std.specs.declared.cmp.Ordering.{Ordering}
use Rattle.std.specs.declared.cmp.Ordering.TheVariants.{Less, Equal, Greater}
use lib.Utf8.{scalar, scalars, encodes, encode, scalar_cases}
use Rattle.values.specs.declared.value.Value.{Value}
use Rattle.values.specs.declared.value.Value.TheVariants.{Int, Text, Bool as Truth, Null}
use Rattle.values.specs.declared.table.ColumnType.{ColumnType}
use Rattle.values.specs.declared.table.ColumnType.TheVariants.{Int as IsInt, Text as IsText, Varchar as IsVarchar, Boolean as IsBoolean}
use Rattle.values.specs.declared.table.Table.{Table}
use Rattle.values.specs.declared.key.Key.{Key}
use Rattle.values.specs.Order.{value_cmp}
use Rattle.values.specs.Fit.{fits_type, fits_text, is_line_break, fits_value, can_compare, character_count, key_fault, first_of}
use Rattle.values.specs.RowEncoding.{IsHeld}
use Rattle.values.specs.KeyEncoding.{text_bytes, part_bytes, bytes_of_key, IsShort}
use Rattle.values.specs.KeyEncodingLaw.{IsStorable, AreKeyParts}
use Rattle.values.proofs.KeyOrder.{keys_cmp}
use Rattle.searchrange.proofs.PrefixBytes.{bytes_cmp, AreBytes}

-- ---- a table of one column, whose keys have one value

abbrev one_table : ColumnType → Table
one_table of = record {
  number = 1;
  name = [];
  columns = record { name = []; of = of; not_null = false } ∷ [];
  key = 1 ∷ [];
  row_start = [];
  row_end = [];
  period = None;
}

abbrev one_key : Value → Key
one_key v = record { table = 1; parts = v ∷ [] }

fits_one : (of : ColumnType) (v : Value) → fits_type 200 of v ≡ true → fits_value true (record { name = []; of = of; not_null = false }) v ≡ true
fits_one of (Int x) e = e
fits_one of (Text x) e = e
fits_one of (Truth x) e = e
fits_one IsInt Null e = e
fits_one IsText Null e = e
fits_one (IsVarchar n) Null e = e
fits_one IsBoolean Null e = e

no_fault : (of : ColumnType) (v : Value) → fits_type 200 of v ≡ true → key_fault (one_table of) (v ∷ []) ≡ None
no_fault of v e = ap (λ t. first_of (if t then None else Some 1) None) (fits_one of v e)

then_none : (o : Ordering) → ordering_then o Equal ≡ o
then_none Less = refl
then_none Equal = refl
then_none Greater = refl

typed_cmp : (of : ColumnType) (v w : Value) (xs ys : List ℕ) → fits_type 200 of v ≡ true → fits_type 200 of w ≡ true → IsStorable v → IsStorable w
    → bytes_cmp (part_bytes v ++ xs) (part_bytes w ++ ys) ≡ ordering_then (value_cmp v w) (bytes_cmp xs ys)
typed_cmp of v w xs ys d e f g =
    let parts : (u : Value) → fits_type 200 of u ≡ true → IsStorable u → AreKeyParts (one_table of) (u ∷ []) = λ u p q. record { fit = no_fault of u p; storable = All-cons IsStorable u [] q (All-nil IsStorable) } in
    ap (λ l. bytes_cmp (l ++ xs) (part_bytes w ++ ys)) (sym (append-nil (part_bytes v)))
    ∙ ap (λ l. bytes_cmp ((part_bytes v ++ []) ++ xs) (l ++ ys)) (sym (append-nil (part_bytes w)))
    ∙ keys_cmp (one_table of) (one_key v) (one_key w) xs ys (λ same. (parts v d f, parts w e g))
    ∙ ap (λ o. ordering_then o (bytes_cmp xs ys)) (then_none (value_cmp v w))

-- ---- a value of a column, and one that it can be compared with

abbrev widened : ColumnType → ColumnType
widened (IsVarchar n) = IsText
widened IsInt = IsInt
widened IsText = IsText
widened IsBoolean = IsBoolean

wide : (of : ColumnType) (v : Value) → fits_type 200 of v ≡ true → fits_type 200 (widened of) v ≡ true
wide (IsVarchar n) (Text t) e = (and_parts (fits_text 200 t) (nat_le (character_count t) n) e).0
wide (IsVarchar n) (Int x) e = e
wide (IsVarchar n) (Truth x) e = e
wide (IsVarchar n) Null e = e
wide IsInt v e = e
wide IsText v e = e
wide IsBoolean v e = e

compared_wide : (of : ColumnType) (w : Value) → can_compare of w ≡ true → fits_type 200 (widened of) w ≡ true
compared_wide (IsVarchar n) w e = e
compared_wide IsInt w e = e
compared_wide IsText w e = e
compared_wide IsBoolean w e = e

pub compared_cmp : (of : ColumnType) (v w : Value) (xs ys : List ℕ) → fits_type 200 of v ≡ true → can_compare of w ≡ true → IsStorable v → IsStorable w
    → bytes_cmp (part_bytes v ++ xs) (part_bytes w ++ ys) ≡ ordering_then (value_cmp v w) (bytes_cmp xs ys)
compared_cmp of v w xs ys d e f g = typed_cmp (widened of) v w xs ys (wide of v d) (compared_wide of w e) f g

-- ---- what a program holds has bytes

pub storable : (v : Value) → IsHeld v → IsStorable v
storable (Int n) h = h
storable (Text t) h = tt
storable (Truth t) h = tt
storable Null h = tt

abbrev B : ℕ → Type 0
B b = b < 256

small_byte : (k n : ℕ) → byte_at k n < 256
small_byte zero n = omega arith
small_byte (suc k) n = omega arith

number_bytes : (k n : ℕ) → AreBytes (bytes_high_first k n)
number_bytes zero n = All-nil B
number_bytes (suc k) n = All-cons B (byte_at k n) (bytes_high_first k n) (small_byte k n) (number_bytes k n)

below_bound : (c : ℕ) → scalar c ≡ true → c < 1114112
below_bound c e = ⊎_elim (λ h. omega (arith, h)) (λ h. h.1) (scalar_cases c e)

one : (b : ℕ) (bs : List ℕ) → b < 256 → AreBytes bs → AreBytes (b ∷ bs)
one b bs h k = All-cons B b bs h k

encoded_bytes : (c : ℕ) → scalar c ≡ true → AreBytes (encode c)
unfolding encode
encoded_bytes c e = by (nat_lt c 128) (nat_lt c 2048) (nat_lt c 65536) refl refl refl
  where
    under : (m : ℕ) → nat_lt c m ≡ true → c < m
    under m h = grind (arith, nat_tests)

    by : (x y z : Bool) → nat_lt c 128 ≡ x → nat_lt c 2048 ≡ y → nat_lt c 65536 ≡ z
        → AreBytes (cond x (c ∷ []) (cond y ((192 + c / 64) ∷ (128 + c % 64) ∷ []) (cond z ((224 + c / 4096) ∷ (128 + c / 64 % 64) ∷ (128 + c % 64) ∷ []) ((240 + c / 262144) ∷ (128 + c / 4096 % 64) ∷ (128 + c / 64 % 64) ∷ (128 + c % 64) ∷ []))))
    by true y z p q r = one c [] (omega (arith, under 128 p)) (All-nil B)
    by false true z p q r = one (192 + c / 64) ((128 + c % 64) ∷ []) (omega (arith, under 2048 q)) (one (128 + c % 64) [] (omega arith) (All-nil B))
    by false false true p q r =
        one (224 + c / 4096) ((128 + c / 64 % 64) ∷ (128 + c % 64) ∷ []) (omega (arith, under 65536 r)) (one (128 + c / 64 % 64) ((128 + c % 64) ∷ []) (omega arith) (one (128 + c % 64) [] (omega arith) (All-nil B)))
    by false false false p q r =
        one (240 + c / 262144) ((128 + c / 4096 % 64) ∷ (128 + c / 64 % 64) ∷ (128 + c % 64) ∷ []) (omega (arith, below_bound c e))
        (one (128 + c / 4096 % 64) ((128 + c / 64 % 64) ∷ (128 + c % 64) ∷ []) (omega arith) (one (128 + c / 64 % 64) ((128 + c % 64) ∷ []) (omega arith) (one (128 + c % 64) [] (omega arith) (All-nil B))))

all_encoded : (cs : List ℕ) → scalars cs ≡ true → AreBytes (encodes cs)
all_encoded [] e = All-nil B
all_encoded (c ∷ cs) e =
    let both = and_parts (scalar c) (scalars cs) e in
    All-append B (encode c) (encodes cs) (encoded_bytes c both.0) (all_encoded cs both.1)

utf8_bytes : (t : List ℕ) → IsUtf8 t → AreBytes t
utf8_bytes t u = subst AreBytes u.1.1 (all_encoded u.0 u.1.0)

text_are_bytes : (t : List ℕ) → AreBytes t → AreBytes (text_bytes t)
text_are_bytes [] h = one 0 (0 ∷ []) (omega arith) (one 0 [] (omega arith) (All-nil B))
text_are_bytes (b ∷ bs) h = by (b == 0) (text_are_bytes bs (All-tail B b bs h))
  where
    by : (z : Bool) → AreBytes (text_bytes bs) → AreBytes (if z then 0 ∷ 255 ∷ text_bytes bs else b ∷ text_bytes bs)
    by true k = one 0 (255 ∷ text_bytes bs) (omega arith) (one 255 (text_bytes bs) (omega arith) k)
    by false k = one b (text_bytes bs) (All-head B b bs h) k

part_are_bytes : (v : Value) → IsHeld v → AreBytes (part_bytes v)
part_are_bytes (Int n) h = number_bytes 8 _
part_are_bytes (Text t) h = text_are_bytes t (utf8_bytes t h)
part_are_bytes (Truth true) h = one 1 [] (omega arith) (All-nil B)
part_are_bytes (Truth false) h = one 0 [] (omega arith) (All-nil B)
part_are_bytes Null h = All-nil B

parts_are_bytes : (vs : List Value) → All IsHeld vs → AreBytes (flat_map part_bytes vs)
parts_are_bytes [] h = All-nil B
parts_are_bytes (v ∷ vs) h =
    All-append B (part_bytes v) (flat_map part_bytes vs) (part_are_bytes v (All-head IsHeld v vs h)) (parts_are_bytes vs (All-tail IsHeld v vs h))

pub key_are_bytes : (k : Key) → k.table < 256 → All IsHeld k.parts → AreBytes (bytes_of_key k)
key_are_bytes k t h = one k.table (flat_map part_bytes k.parts) t (parts_are_bytes k.parts h)

-- what a column can be compared with is short
text_short : (t : List ℕ) → fits_text 200 t ≡ true → length t ≤ 200
text_short t e = leb-true (length t) 200 ((and_parts (nat_le (length t) 200) (not (list_any is_line_break t)) e).0)

pub compared_short : (of : ColumnType) (w : Value) → can_compare of w ≡ true → IsShort w
compared_short IsText (Text t) e = text_short t e
compared_short (IsVarchar n) (Text t) e = text_short t e
compared_short IsInt (Text t) e = cc
compared_short IsBoolean (Text t) e = cc
compared_short of (Int x) e = tt
compared_short of (Truth x) e = tt
compared_short of Null e = tt

-- and so is what fits a column of the key
pub fitting_short : (of : ColumnType) (v : Value) → fits_type 200 of v ≡ true → IsShort v
fitting_short IsText (Text t) e = text_short t e
fitting_short (IsVarchar n) (Text t) e = text_short t ((and_parts (fits_text 200 t) (nat_le (character_count t) n) e).0)
fitting_short IsInt (Text t) e = cc
fitting_short IsBoolean (Text t) e = cc
fitting_short of (Int x) e = tt
fitting_short of (Truth x) e = tt
fitting_short of Null e = tt
