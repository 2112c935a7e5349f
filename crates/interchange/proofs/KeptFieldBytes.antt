-- What is kept of a field, byte by byte.
use Rattle.std.proofs.Common.{◌≡◌, ◌≤◌, ◌<◌, ◌+◌, ◌==◌, ◌&&◌, ◌||◌, ℕ, Bool, true, false, not, nat_lt, List, [], ◌∷◌, ◌++◌, refl, sym, ap, ◌∙◌, inl, inr, arith, length, take, append-nil, append_assoc, length-append, if◌then◌else◌}
use Rattle.std.specs.Prelude.{◌⊎◌, nat_le}
use Rattle.std.specs.List.{fold}
use Rattle.std.proofs.lemmas.Bool.{le-leb, leb-true}
use Rattle.std.proofs.lemmas.Bool.Decides.{nat_tests}
use Rattle.std.proofs.lemmas.List.{take-append-le, take_all}
use Rattle.interchange.specs.KeptField.{is_kept, is_zeros, keep_byte, kept_field, most_kept}

-- ---- the first fields

pub room_left : {A : Type 0} (n : ℕ) (xs : List A) (x : A) → length xs < n → xs ++ x ∷ [] ≡ take n (xs ++ x ∷ [])
room_left n xs x less = sym (take_all n (xs ++ x ∷ []) (omega (arith, length-append xs (x ∷ []))))

pub no_room_left : {A : Type 0} (n : ℕ) (xs : List A) (x : A) → n ≤ length xs → length xs ≤ n → xs ≡ take n (xs ++ x ∷ [])
no_room_left n xs x full few = sym (take-append-le n xs (x ∷ []) full ∙ take_all n xs few)

-- ---- a field that may be a text or a name is kept whole, and each other one stays longer than those

-- two fields are the same, or both are too long for a text and a name
abbrev pub AreAlike : ℕ → List ℕ → List ℕ → Type 0
AreAlike longest x y = (x ≡ y) ⊎ ((longest < length x) × (longest < length y))

length_last : (bytes : List ℕ) (byte : ℕ) → length (bytes ++ byte ∷ []) ≡ length bytes + 1
length_last bytes byte = length-append bytes (byte ∷ [])

byte_kept : (longest : ℕ) (kept : List ℕ) (byte : ℕ) → length kept ≤ longest → keep_byte longest kept byte ≡ kept ++ byte ∷ []
byte_kept longest kept byte short =
    ap (λ t. if t || (not (is_zeros kept && (byte == 48)) && nat_lt (length kept) (most_kept longest)) then kept ++ byte ∷ [] else kept) (le-leb (length kept) longest short)

no_shorter : (longest : ℕ) (kept : List ℕ) (byte : ℕ) → length kept ≤ length (keep_byte longest kept byte)
no_shorter longest kept byte = by (is_kept longest kept byte)
  where
    by : (t : Bool) → length kept ≤ length (if t then kept ++ byte ∷ [] else kept)
    by true = omega (arith, length_last kept byte)
    by false = omega arith

kept_whole : (longest : ℕ) (kept bytes : List ℕ) → length kept + length bytes ≤ longest → fold (keep_byte longest) kept bytes ≡ kept ++ bytes
kept_whole longest kept [] short = sym (append-nil kept)
kept_whole longest kept (byte ∷ bytes) short =
    ap (λ k. fold (keep_byte longest) k bytes) (byte_kept longest kept byte (omega arith))
    ∙ kept_whole longest (kept ++ byte ∷ []) bytes (omega (arith, length_last kept byte))
    ∙ append_assoc kept (byte ∷ []) bytes

stays_long : (longest : ℕ) (kept bytes : List ℕ) → longest < length kept + length bytes → longest < length (fold (keep_byte longest) kept bytes)
stays_long longest kept [] long = omega arith
stays_long longest kept (byte ∷ bytes) long = stays_long longest (keep_byte longest kept byte) bytes (by (nat_le (length kept) longest) refl)
  where
    by : (t : Bool) → nat_le (length kept) longest ≡ t → longest < length (keep_byte longest kept byte) + length bytes
    by true e = omega (arith, ap length (byte_kept longest kept byte (leb-true (length kept) longest e)), length_last kept byte)
    by false e =
        let many : longest < length kept = grind (arith, nat_tests) in
        omega (arith, no_shorter longest kept byte)

pub kept_alike : (longest : ℕ) (field : List ℕ) → AreAlike longest (kept_field longest field) field
kept_alike longest field = by (nat_le (length field) longest) refl
  where
    by : (t : Bool) → nat_le (length field) longest ≡ t → AreAlike longest (kept_field longest field) field
    by true e =
        let short : length field ≤ longest = leb-true (length field) longest e in
        inl (kept_whole longest [] field (omega arith))
    by false e =
        let many : longest < length field = grind (arith, nat_tests) in
        inr (stays_long longest [] field (omega arith), many)
