-- The fields of a block: keys behind their lengths, instants, and ends that may be none. Each has its bytes, and one
-- reading from the start of bytes.
use Rattle.std.specs.Prelude.{ℕ, List, [], ◌∷◌, ◌++◌, ◌==◌, Option, Some, None, length, take, drop, nat_le, if◌then◌else◌}
use Rattle.std.specs.Int.{w16, w64, to_be_bytes, from_be_bytes}
use Rattle.values.specs.KeyEncoding.{longest_key}
use Rattle.values.specs.RowReading.{Parsed}

-- one thing is taken, and then another from the bytes behind it
abbrev pub taken_then : {A B : Type 0} → Parsed A → (A → List ℕ → Parsed B) → Parsed B
taken_then None f = None
taken_then (Some (x, rest)) f = f x rest

-- ---- what is written

-- the length in two bytes, and then the bytes
abbrev pub key_field : List ℕ → List ℕ
key_field key = to_be_bytes w16 (length key) ++ key

abbrev pub end_field : Option (List ℕ) → List ℕ
end_field None = 0 ∷ []
end_field (Some key) = 1 ∷ key_field key

abbrev pub instant_field : ℕ → List ℕ
instant_field instant = to_be_bytes w64 instant

-- ---- what is read

unfoldable pub part_from : ℕ → List ℕ → Parsed (List ℕ)
part_from n bytes = if nat_le n (length bytes) then Some (take n bytes, drop n bytes) else None

unfoldable pub length_from : List ℕ → Parsed ℕ
length_from bytes =
    if nat_le 2 (length bytes) then Some (from_be_bytes w16 (take 2 bytes), drop 2 bytes) else None

-- a key has at most 1,609 bytes
unfoldable pub key_of_length : ℕ → List ℕ → Parsed (List ℕ)
key_of_length n bytes = if nat_le n longest_key then part_from n bytes else None

unfoldable pub key_from : List ℕ → Parsed (List ℕ)
key_from bytes = taken_then (length_from bytes) key_of_length

abbrev pub some_end : List ℕ → List ℕ → Parsed (Option (List ℕ))
some_end key rest = Some (Some key, rest)

unfoldable pub end_tagged : ℕ → List ℕ → Parsed (Option (List ℕ))
end_tagged tag bytes =
    if tag == 0 then Some (None, bytes)
    else if tag == 1 then taken_then (key_from bytes) some_end
    else None

abbrev pub end_from : List ℕ → Parsed (Option (List ℕ))
end_from [] = None
end_from (tag ∷ bytes) = end_tagged tag bytes

unfoldable pub instant_from : List ℕ → Parsed ℕ
instant_from bytes =
    if nat_le 8 (length bytes) then Some (from_be_bytes w64 (take 8 bytes), drop 8 bytes) else None

abbrev pub byte_from : List ℕ → Parsed ℕ
byte_from [] = None
byte_from (b ∷ bytes) = Some (b, bytes)
