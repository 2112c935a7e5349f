-- Numbers, instants, texts, and the literals of rows and comparisons.
use Rattle.std.specs.Prelude.{ℕ, List, [], ◌∷◌, ◌++◌, ◌==◌, ◌-◌, ◌^◌, ◌||◌, nat_lt, Bool, true, false, Option, Some, None, Ok, Err, ℤ, pos, neg_ℤ, take, drop, codes, if◌then◌else◌}
use Rattle.std.specs.List.{prefix_len}
use Rattle.std.specs.Option.{option_map}
use Rattle.std.specs.Char.{is_ascii_digit}
use Rattle.std.specs.Str.{is_utf8}
use Rattle.std.specs.Str.Parse.{digits_value}
use Rattle.values.specs.declared.value.Value.{Value}
use Rattle.values.specs.declared.value.Value.TheVariants.{Int, Text, Bool as Truth, Null}
use Rattle.values.specs.Log.{Row}
use Rattle.tokens.specs.Token.{Read, ◌>>=◌}
use Rattle.statement.specs.Token.{next, symbol_at, word_at}
use Rattle.statement.specs.List.{list_at, enclosed_at}

abbrev pub digit_count : List ℕ → ℕ
digit_count bytes = prefix_len is_ascii_digit bytes

-- the number that digits write, if it is at most so great
abbrev pub value_within : ℕ → List ℕ → Option ℕ
value_within most digits =
    if nat_lt most (digits_value 10 digits) then None else Some (digits_value 10 digits)

-- the number at the very start, if it is at most so great, and the bytes after it
unfoldable pub digits_here : ℕ → List ℕ → Option (ℕ × List ℕ)
digits_here most bytes =
    if digit_count bytes == 0 then None
    else option_map (λ number. (number, drop (digit_count bytes) bytes))
    (value_within most (take (digit_count bytes) bytes))

unfoldable pub digits_at : ℕ → List ℕ → Read ℕ
digits_at most bytes =
    elim (digits_here most (next bytes)) [ None ↦ Err (next bytes) | Some x ↦ Ok x ]

abbrev pub begins_with : ℕ → List ℕ → Bool
begins_with byte [] = false
begins_with byte (b ∷ bs) = b == byte

abbrev pub above_nought : List ℕ → Option (ℤ × List ℕ)
above_nought bytes = option_map (λ x. (pos x.0, x.1)) (digits_here (2 ^ 63 - 1) bytes)

abbrev pub below_nought : List ℕ → Option (ℤ × List ℕ)
below_nought bytes = option_map (λ x. (neg_ℤ (pos x.0), x.1)) (digits_here (2 ^ 63) bytes)

-- a whole number of 64 bits at the very start: digits, or a minus and digits
abbrev pub number_here : List ℕ → Option (ℤ × List ℕ)
number_here bytes =
    if begins_with 45 bytes then below_nought (drop 1 bytes) else above_nought bytes

-- a whole number of 64 bits, whose minus is right before its digits
unfoldable pub number_at : List ℕ → Read ℤ
number_at bytes =
    elim (number_here (next bytes)) [ None ↦ Err (next bytes) | Some x ↦ Ok x ]

-- the text, which goes on after what was read before, up to the quote that closes it, and the
-- bytes after that;
-- a quote closes it where no other follows, and else the two are one of the text's
abbrev pub quoted_from : Bool → List ℕ → List ℕ → Option (List ℕ × List ℕ)
quoted_from closed front [] = if closed then Some (front, []) else None
quoted_from false front (b ∷ bytes) =
    if b == 39 then quoted_from true front bytes else quoted_from false (front ++ b ∷ []) bytes
quoted_from true front (b ∷ bytes) =
    if b == 39 then quoted_from false (front ++ 39 ∷ []) bytes else Some (front, b ∷ bytes)

abbrev pub quoted : List ℕ → Option (List ℕ × List ℕ)
quoted bytes = quoted_from false [] bytes

unfoldable pub text_of : List ℕ → Option Value
text_of bytes = if is_utf8 bytes then Some (Text bytes) else None

unfoldable pub text_at : List ℕ → Read Value
text_at bytes =
    let at = next bytes in
    symbol_at 39 at >>= λ inside. elim (quoted inside) [
      | None ↦ Err at
      | Some x ↦ elim (text_of x.0) [ None ↦ Err at | Some value ↦ Ok (value, x.1) ]
    ]

unfoldable pub constant_at : List ℕ → Read Value
constant_at bytes = elim (word_at (codes "TRUE") bytes) [
  | Ok rest ↦ Ok (Truth true, rest)
  | Err _ ↦ elim (word_at (codes "FALSE") bytes) [
    | Ok rest ↦ Ok (Truth false, rest)
    | Err _ ↦ elim (word_at (codes "NULL") bytes) [ Ok rest ↦ Ok (Null, rest) | Err at ↦ Err at ]
  ]
]

abbrev pub begins_number : List ℕ → Bool
begins_number [] = false
begins_number (b ∷ bs) = (b == 45) || is_ascii_digit b

unfoldable pub literal_at : List ℕ → Read Value
literal_at bytes =
    let at = next bytes in
    if begins_with 39 at then text_at at
    else if begins_number at then (number_at at >>= λ x. Ok (Int x.0, x.1))
    else constant_at at

-- a row's values, in the order in which they stand
unfoldable pub row_at : List ℕ → Read Row
row_at bytes = enclosed_at (symbol_at 44) literal_at bytes

unfoldable pub rows_at : List ℕ → Read (List Row)
rows_at bytes = list_at (symbol_at 44) row_at bytes
