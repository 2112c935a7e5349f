-- Reading a row from the start of bytes: a value and the bytes after it, or none.
use Rattle.std.specs.Prelude.{◌≡◌, ℕ, ◌-◌, List, [], ◌∷◌, ◌++◌, ◌==◌, ◌&&◌, Bool, true, false, Option, Some, None, length, take, drop, nat_le, if◌then◌else◌, zero, suc, option_map}
use Rattle.std.specs.Borrow.{Bor}
use Rattle.std.specs.Int.{w16, w64, from_be_bytes, cast_signed}
use Rattle.std.specs.Str.{is_utf8}
use Rattle.values.specs.declared.value.Value.{Value}
use Rattle.values.specs.declared.value.Value.TheVariants.{Int, Text, Bool as Truth, Null}
use Rattle.values.specs.Fit.{longest_text, fits_text}
use Rattle.values.specs.Log.{Row}
use Rattle.values.specs.Tables.{widest}

abbrev pub Parsed : Type 0 → Type 0
Parsed A = Option (A × List ℕ)

-- What a function returned is what is parsed.
abbrev pub Parses : {X Y : Type 0} → (X → Y) → Option (X × Bor (List ℕ)) → Parsed Y → Type 0
Parses view None parsed = parsed ≡ None
Parses view (Some x) parsed = parsed ≡ Some (view x.0, x.1.now)

unfoldable pub int_from : List ℕ → Parsed Value
int_from bytes =
    if nat_le 8 (length bytes)
    then Some (Int (cast_signed w64 (from_be_bytes w64 (take 8 bytes))), drop 8 bytes)
    else None

abbrev pub is_stored_text : List ℕ → Bool
is_stored_text text = fits_text longest_text text && is_utf8 text

unfoldable pub text_of : ℕ → List ℕ → Parsed Value
text_of n bytes =
    if nat_le n (length bytes) && is_stored_text (take n bytes)
    then Some (Text (take n bytes), drop n bytes)
    else None

unfoldable pub text_from : List ℕ → Parsed Value
text_from bytes =
    if nat_le 2 (length bytes) then text_of (from_be_bytes w16 (take 2 bytes)) (drop 2 bytes)
    else None

unfoldable pub tagged_from : ℕ → List ℕ → Parsed Value
tagged_from tag bytes =
    if tag == 0 then Some (Null, bytes)
    else if tag == 1 then int_from bytes
    else if tag == 2 then text_from bytes
    else if tag == 3 then Some (Truth false, bytes)
    else if tag == 4 then Some (Truth true, bytes)
    else None

abbrev pub value_from : List ℕ → Parsed Value
value_from [] = None
value_from (tag ∷ bytes) = tagged_from tag bytes

-- what was parsed comes after these
abbrev pub after : {A : Type 0} → List A → Parsed (List A) → Parsed (List A)
after xs None = None
after xs (Some (ys, rest)) = Some (xs ++ ys, rest)

abbrev pub values_from : ℕ → List ℕ → Parsed (List Value)
values_from zero bytes = Some ([], bytes)
values_from (suc n) bytes = elim (value_from bytes) [
  | None ↦ None
  | Some x ↦ after (x.0 ∷ []) (values_from n x.1)
]

-- a row and the number of its bytes
abbrev pub row_from : List ℕ → Option (Row × ℕ)
row_from [] = None
row_from (n ∷ bytes) =
    if nat_le 1 n && nat_le n widest
    then option_map (λ x. (x.0, length (n ∷ bytes) - length x.1)) (values_from n bytes)
    else None
