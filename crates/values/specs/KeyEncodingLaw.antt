-- What the bytes of keys amount to.
use Rattle.std.specs.Prelude.{◌≡◌, ℕ, ◌≤◌, List, [], ◌∷◌, ◌++◌, None, length, All, pos, negsuc}
use Rattle.std.specs.Int.{w64}
use Rattle.std.specs.Int.RustNames.{FitsSigned}
use Rattle.std.specs.Ordering.{nat_cmp}
use Rattle.std.specs.Cmp.Lexicographic.{slice_cmp}
use Rattle.values.specs.declared.value.Value.{Value}
use Rattle.values.specs.declared.value.Value.TheVariants.{Int, Text}
use Rattle.values.specs.declared.table.Table.{Table}
use Rattle.values.specs.declared.key.Key.{Key}
use Rattle.values.specs.Order.{key_cmp}
use Rattle.values.specs.Fit.{key_fault}
use Rattle.values.specs.TableRules.{most_key_columns}
use Rattle.values.specs.KeyEncoding.{bytes_of_key, IsShortKey}

-- a whole number has 64 bits, as each that a program holds
abbrev pub IsStorable : Value → Type 0
IsStorable (Int n) = FitsSigned w64 n
IsStorable _ = Unit {0}

-- values that a key of the table may have
pub record AreKeyParts (table : Table) (parts : List Value) : Type 0 where
  pub fit : key_fault table parts ≡ None
  pub storable : All IsStorable parts

-- two keys of one table have values that fit it; of keys of two tables nothing is asked
abbrev pub AreOfOneSchema : Table → Key → Key → Type 0
AreOfOneSchema table k l = k.table ≡ l.table → AreKeyParts table k.parts × AreKeyParts table l.parts

-- the order of their bytes is the order of keys
abbrev pub ByteOrderIsKeyOrder : Type 0
ByteOrderIsKeyOrder =
    (table : Table) (k l : Key) → AreOfOneSchema table k l
    → slice_cmp nat_cmp (bytes_of_key k) (bytes_of_key l) ≡ key_cmp k l

-- other keys have other bytes
abbrev pub BytesTellKeysApart : Type 0
BytesTellKeysApart =
    (table : Table) (k l : Key) → AreOfOneSchema table k l
    → bytes_of_key k ≡ bytes_of_key l → k ≡ l

-- no key's bytes begin another's
abbrev pub NoKeyBeginsAnother : Type 0
NoKeyBeginsAnother =
    (table : Table) (k l : Key) (more : List ℕ) → AreOfOneSchema table k l
    → bytes_of_key k ++ more ≡ bytes_of_key l → k ≡ l

-- values that fit a table of at most four key columns have bytes
abbrev pub FittingKeysAreShort : Type 0
FittingKeysAreShort =
    (table : Table) (key : Key) → length table.key ≤ most_key_columns
    → key_fault table key.parts ≡ None → IsShortKey key

-- the key of a row of table 1 that has these values, put to bytes
abbrev pub bytes_in_1 : List Value → List ℕ
bytes_in_1 parts = bytes_of_key (record { table = 1; parts = parts })

-- bytes worked out by hand
pub record WorkedKeyBytes : Type 0 where
  pub one : bytes_in_1 (Int (pos 1) ∷ []) ≡ 1 ∷ 128 ∷ 0 ∷ 0 ∷ 0 ∷ 0 ∷ 0 ∷ 0 ∷ 1 ∷ []
  pub minus_one : bytes_in_1 (Int (negsuc 0) ∷ [])
      ≡ 1 ∷ 127 ∷ 255 ∷ 255 ∷ 255 ∷ 255 ∷ 255 ∷ 255 ∷ 255 ∷ []
  pub letter : bytes_in_1 (Text (97 ∷ []) ∷ []) ≡ 1 ∷ 97 ∷ 0 ∷ 0 ∷ []
  pub letter_and_number : bytes_in_1 (Text (97 ∷ []) ∷ Int (pos 2) ∷ [])
      ≡ 1 ∷ 97 ∷ 0 ∷ 0 ∷ 128 ∷ 0 ∷ 0 ∷ 0 ∷ 0 ∷ 0 ∷ 0 ∷ 2 ∷ []
  pub zero_byte : bytes_in_1 (Text (0 ∷ []) ∷ []) ≡ 1 ∷ 0 ∷ 255 ∷ 0 ∷ 0 ∷ []
