-- What is kept of a field writes the number that the field writes.
use Rattle.std.proofs.Common.{◌≡◌, ◌≤◌, ◌<◌, ◌+◌, ◌*◌, ◌^◌, ◌-◌, ◌&&◌, ◌||◌, ◌==◌, ℕ, zero, suc, ℤ, pos, neg_ℤ, Bool, true, false, not, nat_lt, List, [], ◌∷◌, ◌++◌, Option, Some, None, refl, sym, ap, ◌∙◌, subst, inl, inr, arith, length, drop, take, append-nil, append_assoc, length-append, length-drop, if◌then◌else◌}
use Rattle.std.specs.Prelude.{◌⊎◌, nat_le}
use Rattle.std.specs.List.{fold, list_all}
use Rattle.std.specs.Char.{digit_value}
use Rattle.std.specs.Option.{option_map}
use Rattle.std.specs.Str.Parse.{AllDigits, digits_value, digits_value_after}
use Rattle.std.proofs.lemmas.Bool.{eqb-true}
use Rattle.std.proofs.lemmas.Bool.Decides.{nat_tests}
use Rattle.std.proofs.lemmas.List.{take_all}
use Rattle.std.proofs.lemmas.List.Folds.{list_all-append}
use Rattle.statement.specs.Literal.{above_nought, below_nought, digit_count, digits_here, value_within}
use Rattle.statement.proofs.LiteralDigits.{digits_front, grows}
use Rattle.interchange.specs.Field.{number_of, whole}
use Rattle.interchange.specs.KeptField.{is_zeros, keep_byte, kept_field}

abbrev is_zero : ℕ → Bool
is_zero c = c == 48

-- ---- a sign, and the digits behind it

-- the number of digits and nothing else, with a sign
abbrev signed : (ℕ → ℤ) → ℕ → List ℕ → Option ℤ
signed sign most bytes = whole (option_map (λ x. (sign x.0, x.1)) (digits_here most bytes))

abbrev minus : ℕ → ℤ
minus n = neg_ℤ (pos n)

with_minus : (b : ℕ) (bytes : List ℕ) → (b == 45) ≡ true → number_of (b ∷ bytes) ≡ signed minus (2 ^ 63) bytes
with_minus b bytes e = ap (λ t. whole (if t then below_nought bytes else above_nought (b ∷ bytes))) e

without_minus : (b : ℕ) (bytes : List ℕ) → (b == 45) ≡ false → number_of (b ∷ bytes) ≡ signed pos (2 ^ 63 - 1) (b ∷ bytes)
without_minus b bytes e = ap (λ t. whole (if t then below_nought bytes else above_nought (b ∷ bytes))) e

-- the digits are zeros alone
zeros_with : (b : ℕ) (bytes : List ℕ) → (b == 45) ≡ true → is_zeros (b ∷ bytes) ≡ list_all is_zero bytes
zeros_with b bytes e = ap (λ t. (t || (b == 48)) && list_all is_zero bytes) e

zeros_without : (b : ℕ) (bytes : List ℕ) → (b == 45) ≡ false → is_zeros (b ∷ bytes) ≡ list_all is_zero (b ∷ bytes)
zeros_without b bytes e = ap (λ t. (t || (b == 48)) && list_all is_zero bytes) e

-- ---- one more leading zero

both_true : (a b : Bool) → (a && b) ≡ true → (a ≡ true) × (b ≡ true)
both_true true b e = (refl, e)
both_true false b e = cc e

one_more : (n : ℕ) → 1 + n ≡ suc n
one_more n = omega arith

suc_no_zero : (n : ℕ) → (suc n == 0) ≡ false
suc_no_zero n = grind (arith, nat_tests)

front_zero : (most : ℕ) (bytes : List ℕ)
    → digits_here most (48 ∷ bytes) ≡ option_map (λ n. (n, drop (digit_count bytes) bytes)) (value_within most (48 ∷ take (digit_count bytes) bytes))
unfolding digits_here
front_zero most bytes = rw (one_more (digit_count bytes), suc_no_zero (digit_count bytes))

second_zero : (sign : ℕ → ℤ) (most : ℕ) (bytes : List ℕ) → signed sign most (48 ∷ 48 ∷ bytes) ≡ signed sign most (48 ∷ bytes)
second_zero sign most bytes =
    ap (λ r. whole (option_map (λ x. (sign x.0, x.1)) r))
    (front_zero most (48 ∷ bytes)
    ∙ ap (λ k. option_map (λ n. (n, drop k (48 ∷ bytes))) (value_within most (48 ∷ take k (48 ∷ bytes)))) (one_more (digit_count bytes))
    ∙ sym (front_zero most bytes))

-- a zero behind zeros is one in front of them
zero_moved : (zeros bytes : List ℕ) → list_all is_zero zeros ≡ true → zeros ++ 48 ∷ bytes ≡ 48 ∷ (zeros ++ bytes)
zero_moved [] bytes all = refl
zero_moved (d ∷ zeros) bytes all =
    let both = both_true (d == 48) (list_all is_zero zeros) all in
    let is : d ≡ 48 = eqb-true d 48 both.0 in
    let moved = zero_moved zeros bytes both.1 in
    cc

zero_more : (sign : ℕ → ℤ) (most : ℕ) (zeros bytes : List ℕ) → list_all is_zero zeros ≡ true → 1 ≤ length zeros
    → signed sign most (zeros ++ 48 ∷ bytes) ≡ signed sign most (zeros ++ bytes)
zero_more sign most [] bytes all some = absurd (omega arith)
zero_more sign most (d ∷ zeros) bytes all some =
    let is : d ≡ 48 = eqb-true d 48 (both_true (d == 48) (list_all is_zero zeros) all).0 in
    ap (signed sign most) (zero_moved (d ∷ zeros) bytes all ∙ ap (λ e. 48 ∷ e ∷ (zeros ++ bytes)) is)
    ∙ second_zero sign most (zeros ++ bytes)
    ∙ ap (λ e. signed sign most (e ∷ (zeros ++ bytes))) (sym is)

zero_dropped : (kept bytes : List ℕ) → is_zeros kept ≡ true → 2 ≤ length kept → number_of (kept ++ 48 ∷ bytes) ≡ number_of (kept ++ bytes)
zero_dropped [] bytes zeros long = absurd (omega arith)
zero_dropped (b ∷ kept) bytes zeros long = by (b == 45) refl
  where
    by : (t : Bool) → (b == 45) ≡ t → number_of ((b ∷ kept) ++ 48 ∷ bytes) ≡ number_of ((b ∷ kept) ++ bytes)
    by true e =
        with_minus b (kept ++ 48 ∷ bytes) e
        ∙ zero_more minus (2 ^ 63) kept bytes (sym (zeros_with b kept e) ∙ zeros) (omega arith)
        ∙ sym (with_minus b (kept ++ bytes) e)
    by false e =
        without_minus b (kept ++ 48 ∷ bytes) e
        ∙ zero_more pos (2 ^ 63 - 1) (b ∷ kept) bytes (sym (zeros_without b kept e) ∙ zeros) (omega arith)
        ∙ sym (without_minus b (kept ++ bytes) e)

-- ---- a number that is too great

-- n, with so many zeros behind it
abbrev shifted : ℕ → ℕ → ℕ
shifted n zero = n
shifted n (suc k) = shifted (n * 10) k

grows_by : (n m k : ℕ) (digits : List ℕ) → n ≤ m → k ≤ length digits → shifted n k ≤ digits_value_after 10 m digits
grows_by n m zero digits less many = omega (arith, grows m digits)
grows_by n m (suc k) [] less many = absurd (omega arith)
grows_by n m (suc k) (d ∷ digits) less many = grows_by (n * 10) (m * 10 + digit_value d) k digits (omega arith) (omega arith)

no_zero : (d : ℕ) → digit_value d < 10 → (d == 48) ≡ false → 1 ≤ digit_value d
no_zero d digit other = grind (arith, nat_tests)

-- a digit that is no zero, and 19 behind it
great : (front more : List ℕ) → AllDigits 10 (front ++ more) → list_all is_zero front ≡ false → 19 ≤ length more → 10 ^ 19 ≤ digits_value 10 (front ++ more)
great [] more all some many = cc some
great (d ∷ front) more all some many = by (d == 48) refl (λ rest. great front more all.1 rest many)
  where
    by : (t : Bool) → (d == 48) ≡ t → (list_all is_zero front ≡ false → 10 ^ 19 ≤ digits_value 10 (front ++ more)) → 10 ^ 19 ≤ digits_value 10 ((d ∷ front) ++ more)
    by true e later =
        let is : d ≡ 48 = eqb-true d 48 e in
        subst (λ c. 10 ^ 19 ≤ digits_value 10 (c ∷ (front ++ more))) (sym is) (later (ap (λ t. t && list_all is_zero front) (sym e) ∙ some))
    by false e later = grows_by 1 (0 * 10 + digit_value d) 19 (front ++ more) (omega (arith, no_zero d all.0 e)) (omega (arith, length-append front more))

abbrev read : (ℕ → ℤ) → List ℕ → Bool → Option ℕ → Option ℤ
read sign rest none value = whole (option_map (λ (x : ℕ × List ℕ). (sign x.0, x.1)) (if none then None else option_map (λ n. (n, rest)) value))

bytes_left : (sign : ℕ → ℤ) (rest : List ℕ) (none : Bool) (value : Option ℕ) → (length rest == 0) ≡ false → read sign rest none value ≡ None
bytes_left sign rest true value some = refl
bytes_left sign rest false None some = refl
bytes_left sign rest false (Some n) some = ap (λ t. if t then Some (sign n) else None) some

not_within : (sign : ℕ → ℤ) (rest : List ℕ) (none : Bool) (most value : ℕ) → most < value → read sign rest none (if nat_lt most value then None else Some value) ≡ None
not_within sign rest true most value over = refl
not_within sign rest false most value over =
    let is : nat_lt most value ≡ true = grind (arith, nat_tests) in
    ap (λ t. read sign rest false (if t then None else Some value)) is

no_number : (sign : ℕ → ℤ) (most : ℕ) (front more : List ℕ) → most < 10 ^ 19 → list_all is_zero front ≡ false → 19 ≤ length more → signed sign most (front ++ more) ≡ None
unfolding digits_here
no_number sign most front more small some many = by (length rest == 0) refl
  where
    bytes : List ℕ
    bytes = front ++ more

    digits : List ℕ
    digits = take (digit_count bytes) bytes

    rest : List ℕ
    rest = drop (digit_count bytes) bytes

    by : (t : Bool) → (length rest == 0) ≡ t → read sign rest (digit_count bytes == 0) (value_within most digits) ≡ None
    by false e = bytes_left sign rest (digit_count bytes == 0) (value_within most digits) e
    by true e =
        let none : length rest ≡ 0 = eqb-true (length rest) 0 e in
        let all : digits ≡ bytes = take_all (digit_count bytes) bytes (omega (arith, length-drop (digit_count bytes) bytes)) in
        let value = great front more (subst (AllDigits 10) all (digits_front bytes)) some many in
        not_within sign rest (digit_count bytes == 0) most (digits_value 10 digits) (omega (arith, value, ap (digits_value 10) all))

-- ---- bytes that come one after another

-- the first bytes are not zeros alone: with 19 digits behind them they write a number over 64 bits
record IsGreat (longest : ℕ) (kept : List ℕ) : Type 0 where
  front : List ℕ
  more : List ℕ
  is : kept ≡ front ++ more
  long : length front ≡ longest + 2
  some : is_zeros front ≡ false

great_none : (longest : ℕ) (kept bytes : List ℕ) → IsGreat longest kept → longest + 21 ≤ length kept → number_of (kept ++ bytes) ≡ None
great_none longest kept bytes g many =
    ap (λ k. number_of (k ++ bytes)) g.is ∙ ap number_of (append_assoc g.front g.more bytes)
    ∙ by g.front g.long g.some (omega (arith, ap length g.is, length-append g.front g.more, length-append g.more bytes, g.long))
  where
    by : (front : List ℕ) → length front ≡ longest + 2 → is_zeros front ≡ false → 19 ≤ length (g.more ++ bytes) → number_of (front ++ (g.more ++ bytes)) ≡ None
    by [] long some more = absurd (omega arith)
    by (b ∷ front) long some more = at (b == 45) refl
      where
        at : (t : Bool) → (b == 45) ≡ t → number_of ((b ∷ front) ++ (g.more ++ bytes)) ≡ None
        at true e = with_minus b (front ++ (g.more ++ bytes)) e ∙ no_number minus (2 ^ 63) front (g.more ++ bytes) (omega arith) (sym (zeros_with b front e) ∙ some) more
        at false e = without_minus b (front ++ (g.more ++ bytes)) e ∙ no_number pos (2 ^ 63 - 1) (b ∷ front) (g.more ++ bytes) (omega arith) (sym (zeros_without b front e) ∙ some) more

-- at most one byte is kept behind those of a text, or the first bytes are not zeros alone
abbrev MayGrow : ℕ → List ℕ → Type 0
MayGrow longest kept = (length kept ≤ longest + 1) ⊎ IsGreat longest kept

length_one : (xs : List ℕ) (x : ℕ) → length (xs ++ x ∷ []) ≡ length xs + 1
length_one xs x = length-append xs (x ∷ [])

zeros_last : (kept : List ℕ) (byte : ℕ) → 1 ≤ length kept → is_zeros (kept ++ byte ∷ []) ≡ (is_zeros kept && (byte == 48))
zeros_last [] byte some = absurd (omega arith)
zeros_last (b ∷ kept) byte some = by ((b == 45) || (b == 48)) (byte == 48) (list_all-append is_zero kept (byte ∷ []))
  where
    by : (t u : Bool) → list_all is_zero (kept ++ byte ∷ []) ≡ (list_all is_zero kept && (u && true)) → (t && list_all is_zero (kept ++ byte ∷ [])) ≡ ((t && list_all is_zero kept) && u)
    by true true all = all
    by true false all = all
    by false u all = refl

great_grows : (longest : ℕ) (kept : List ℕ) (byte : ℕ) → MayGrow longest kept → longest < length kept → (is_zeros kept && (byte == 48)) ≡ false → IsGreat longest (kept ++ byte ∷ [])
great_grows longest kept byte (inl few) many other = record {
  front = kept ++ byte ∷ [];
  more = [];
  is = sym (append-nil (kept ++ byte ∷ []));
  long = omega (arith, length_one kept byte);
  some = zeros_last kept byte (omega arith) ∙ other;
}
great_grows longest kept byte (inr g) many other = record {
  front = g.front;
  more = g.more ++ byte ∷ [];
  is = ap (λ k. k ++ byte ∷ []) g.is ∙ append_assoc g.front g.more (byte ∷ []);
  long = g.long;
  some = g.some;
}

-- what is kept with a byte: whether there are few, the byte is one more leading zero, and there is room
abbrev kept_by : List ℕ → ℕ → Bool → Bool → Bool → List ℕ
kept_by kept byte short idle room = if short || (not idle && room) then kept ++ byte ∷ [] else kept

grows_on : (longest : ℕ) (kept : List ℕ) (byte : ℕ) → MayGrow longest kept → MayGrow longest (keep_byte longest kept byte)
grows_on longest kept byte may = by (nat_le (length kept) longest) (is_zeros kept && (byte == 48)) (nat_lt (length kept) (longest + 21)) refl refl
  where
    by : (short idle room : Bool) → nat_le (length kept) longest ≡ short → (is_zeros kept && (byte == 48)) ≡ idle → MayGrow longest (kept_by kept byte short idle room)
    by true idle room few is = inl (grind (arith, nat_tests, length_one kept byte))
    by false true room many is = may
    by false false false many is = may
    by false false true many is = inr (great_grows longest kept byte may (grind (arith, nat_tests)) is)

same_after : (longest : ℕ) (kept : List ℕ) (byte : ℕ) (bytes : List ℕ) → 1 ≤ longest → MayGrow longest kept
    → number_of (keep_byte longest kept byte ++ bytes) ≡ number_of (kept ++ byte ∷ bytes)
same_after longest kept byte bytes some may = by (nat_le (length kept) longest) (is_zeros kept && (byte == 48)) (nat_lt (length kept) (longest + 21)) refl refl refl
  where
    none : (k : List ℕ) → MayGrow longest kept → longest + 21 ≤ length kept → number_of (kept ++ k) ≡ None
    none k (inl few) many = absurd (omega arith)
    none k (inr g) many = great_none longest kept k g many

    by : (short idle room : Bool) → nat_le (length kept) longest ≡ short → (is_zeros kept && (byte == 48)) ≡ idle → nat_lt (length kept) (longest + 21) ≡ room
        → number_of (kept_by kept byte short idle room ++ bytes) ≡ number_of (kept ++ byte ∷ bytes)
    by true idle room few is has = ap number_of (append_assoc kept (byte ∷ []) bytes)
    by false false true many is has = ap number_of (append_assoc kept (byte ∷ []) bytes)
    by false true room many is has =
        let both = both_true (is_zeros kept) (byte == 48) is in
        let zero : byte ≡ 48 = eqb-true byte 48 both.1 in
        sym (ap (λ b. number_of (kept ++ b ∷ bytes)) zero ∙ zero_dropped kept bytes both.0 (grind (arith, nat_tests)))
    by false false false many is has =
        let full : longest + 21 ≤ length kept = grind (arith, nat_tests) in
        none bytes may full ∙ sym (none (byte ∷ bytes) may full)

same_from : (longest : ℕ) (kept bytes : List ℕ) → 1 ≤ longest → MayGrow longest kept → number_of (fold (keep_byte longest) kept bytes) ≡ number_of (kept ++ bytes)
same_from longest kept [] some may = ap number_of (sym (append-nil kept))
same_from longest kept (byte ∷ bytes) some may =
    same_from longest (keep_byte longest kept byte) bytes some (grows_on longest kept byte may) ∙ same_after longest kept byte bytes some may

pub same_number : (longest : ℕ) (field : List ℕ) → 1 ≤ longest → number_of (kept_field longest field) ≡ number_of field
same_number longest field some = same_from longest [] field some (inl (omega arith))
