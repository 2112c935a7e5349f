-- Rows read back from their bytes, and nothing else is read.
use Rattle.std.proofs.Common.{◌≡◌, ℕ, ◌-◌, ◌^◌, ◌<◌, ◌≤◌, List, [], ◌∷◌, ◌++◌, ◌==◌, ◌&&◌, Bool, true, false, Option, Some, None, length, take, drop, get_or, refl, sym, subst, ap, ◌∙◌, arith, nat_le, if◌then◌else◌, suc, zero, append_assoc, append-nil, All, IsUtf8, IfSome, IfNone, Fits, w8, option_map, length-append, length-take}
use Rattle.std.proofs.lemmas.Bool.{and_from, and_parts}
use Rattle.std.specs.Prelude.{ℤ, pos, negsuc}
use Rattle.std.specs.Int.{w16, w64, to_be_bytes, from_be_bytes, cast_unsigned, cast_signed}
use Rattle.std.specs.Int.RustNames.{FitsSigned}
use Rattle.std.specs.Str.{is_utf8}
use Rattle.std.specs.List.{flat_map}
use Rattle.std.proofs.lemmas.Bool.Decides.{nat_tests}
use Rattle.std.proofs.lemmas.Int.{to_z-of_z, of_z-to_z}
use Rattle.std.proofs.lemmas.Nat.{from_be_bytes-to_be_bytes_2, from_be_bytes-to_be_bytes_8, be_bytes_2, be_bytes_8}
use Rattle.std.proofs.lemmas.Str.{IsUtf8-from_is_utf8, is_utf8-from_IsUtf8}
use Rattle.std.proofs.lemmas.List.{take-append-drop, get_or_past}
use Rattle.std.proofs.lemmas.List.Elements.{All-head, All-tail, All-cons, All-nil, All-drop, All-get_or, All-take, All-from_get_or}
use Rattle.std.proofs.Math.Facts.{sfits_to_z}
use Rattle.std.proofs.Math.Seq.{take-append_seam, drop-append_seam}
use Rattle.values.specs.declared.value.Value.{Value}
use Rattle.values.specs.declared.value.Value.TheVariants.{Int, Text, Bool as Truth, Null}
use Rattle.values.specs.Fit.{fits_text}
use Rattle.values.specs.Log.{Row}
use Rattle.values.specs.RowEncoding.{value_bytes, bytes_of_row, IsStored, IsStoredRow, IsHeld, StandsIn, NoRowAt}
use Rattle.values.specs.RowReading.{Parsed, int_from, is_stored_text, text_of, text_from, tagged_from, value_from, values_from, after, row_from}

pub not_utf8 : (bs : List ℕ) (t : Bool) → is_utf8 bs ≡ t → ¬ (IsUtf8 bs) → t ≡ false
not_utf8 bs true e n = absurd (n (IsUtf8-from_is_utf8 bs e))
not_utf8 bs false e n = refl

pub long : (xs ys : List ℕ) → nat_le (length xs) (length (xs ++ ys)) ≡ true
long xs ys = let e = length-append xs ys in let h : length xs ≤ length (xs ++ ys) = omega arith in grind (arith, nat_tests)

pub chosen : {A : Type 0} (t : Bool) (a b : A) → t ≡ true → (if t then a else b) ≡ a
chosen t a b e = ap (λ t. if t then a else b) e

unsigned_below : (n : ℤ) → FitsSigned w64 n → cast_unsigned w64 n < 2 ^ 64
unsigned_below (pos n) f = omega (arith, f.sfits)
unsigned_below (negsuc n) f = omega (arith, f.sfits)

int_back : (n : ℤ) (rest : List ℕ) → FitsSigned w64 n → int_from (to_be_bytes w64 (cast_unsigned w64 n) ++ rest) ≡ Some (Int n, rest)
unfolding int_from
int_back n rest f =
    chosen _ _ None (long (to_be_bytes w64 (cast_unsigned w64 n)) rest)
    ∙ ap (λ m. Some (Int (cast_signed w64 m), rest)) (from_be_bytes-to_be_bytes_8 (cast_unsigned w64 n) (unsigned_below n f))
    ∙ ap (λ z. Some (Int z, rest)) (to_z-of_z w64 n f)

text_within : (t : List ℕ) → fits_text 1000 t ≡ true → length t ≤ 1000
text_within t e = let h = (and_parts (nat_le (length t) 1000) _ e).0 in grind (arith, nat_tests)

of_back : (t rest : List ℕ) → fits_text 1000 t ≡ true → IsUtf8 t → text_of (length t) (t ++ rest) ≡ Some (Text t, rest)
unfolding text_of
of_back t rest e u =
    ap (λ l. if nat_le (length t) (length (t ++ rest)) && is_stored_text l then Some (Text l, drop (length t) (t ++ rest)) else None) (take-append_seam t rest)
    ∙ ap (λ l. if nat_le (length t) (length (t ++ rest)) && is_stored_text t then Some (Text t, l) else None) (drop-append_seam t rest)
    ∙ chosen _ _ None (and_from _ _ (long t rest) (and_from _ _ e (is_utf8-from_IsUtf8 t u)))

text_back : (t rest : List ℕ) → fits_text 1000 t ≡ true → IsUtf8 t → text_from ((to_be_bytes w16 (length t) ++ t) ++ rest) ≡ Some (Text t, rest)
unfolding text_from
text_back t rest e u =
    ap text_from (append_assoc (to_be_bytes w16 (length t)) t rest)
    ∙ chosen _ _ None (long (to_be_bytes w16 (length t)) (t ++ rest))
    ∙ ap (λ n. text_of n (t ++ rest)) (from_be_bytes-to_be_bytes_2 (length t) (omega (arith, text_within t e)))
    ∙ of_back t rest e u

pub value_back : (v : Value) (rest : List ℕ) → IsStored v → IsHeld v → value_from (value_bytes v ++ rest) ≡ Some (v, rest)
unfolding tagged_from
value_back Null rest s h = refl
value_back (Int n) rest s h = int_back n rest h
value_back (Text t) rest s h = text_back t rest s h
value_back (Truth true) rest s h = refl
value_back (Truth false) rest s h = refl

abbrev turned : ℕ → Parsed Value → Parsed (List Value)
turned n r = elim r [ None ↦ None | Some x ↦ after (x.0 ∷ []) (values_from n x.1) ]

pub values_back : (vs : List Value) (rest : List ℕ) → All IsStored vs → All IsHeld vs → values_from (length vs) (flat_map value_bytes vs ++ rest) ≡ Some (vs, rest)
values_back [] rest s h = refl
values_back (v ∷ vs) rest s h =
    ap (λ l. turned (length vs) (value_from l)) (append_assoc (value_bytes v) (flat_map value_bytes vs) rest)
    ∙ ap (turned (length vs)) (value_back v (flat_map value_bytes vs ++ rest) (All-head IsStored v vs s) (All-head IsHeld v vs h))
    ∙ ap (after (v ∷ [])) (values_back vs rest (All-tail IsStored v vs s) (All-tail IsHeld v vs h))

within : (n : ℕ) → 1 ≤ n → n ≤ 16 → (nat_le 1 n && nat_le n 16) ≡ true
within n a b = grind (arith, nat_tests)

pub row_back : (row : Row) (rest : List ℕ) → IsStoredRow row → All IsHeld row → row_from (bytes_of_row row ++ rest) ≡ Some (row, length (bytes_of_row row))
row_back row rest s h =
    chosen _ _ None (within (length row) s.some s.few)
    ∙ ap (option_map (λ x. (x.0, length (bytes_of_row row ++ rest) - length x.1))) (values_back row rest s.stored h)
    ∙ ap (λ n. Some (row, n)) (counted (bytes_of_row row) rest)
  where
    counted : (xs ys : List ℕ) → length (xs ++ ys) - length ys ≡ length xs
    counted xs ys = omega (arith, length-append xs ys)

-- the parts of what was taken
pub same_taken : {A B : Type 0} (x y : A) (r s : B) → ◌≡◌ {A = Option (A × B)} (Some (x, r)) (Some (y, s)) → (x ≡ y) × (r ≡ s)
same_taken x y r s e = (ap (λ o. elim o [ Some p ↦ p.0 | None ↦ x ]) e, ap (λ o. elim o [ Some p ↦ p.1 | None ↦ r ]) e)

pub no_row_begins_another : (row other : Row) (more : List ℕ) → IsStoredRow row → All IsHeld row → IsStoredRow other → All IsHeld other
    → bytes_of_row row ++ more ≡ bytes_of_row other → row ≡ other
no_row_begins_another row other more s h t k e =
    (same_taken row other (length (bytes_of_row row)) (length (bytes_of_row other))
    (sym (row_back row more s h) ∙ ap row_from (e ∙ sym (append-nil (bytes_of_row other))) ∙ row_back other [] t k)).0

-- and the other way round: what is read is the bytes of what it gives
pub record Reads (bytes : List ℕ) (v : Value) (rest : List ℕ) : Type 0 where
  pub spelled : bytes ≡ value_bytes v ++ rest
  pub stored : IsStored v
  pub held : IsHeld v

abbrev pub AreBytes : List ℕ → Type 0
AreBytes = All (λ b. b < 256)

pub byte_at : (bs : List ℕ) → AreBytes bs → (i : ℕ) → get_or bs i 0 < 256
byte_at bs h i = inside (nat_le (suc i) (length bs)) refl
  where
    inside : (t : Bool) → nat_le (suc i) (length bs) ≡ t → get_or bs i 0 < 256
    inside true e = All-get_or (λ b. b < 256) bs i 0 (grind (arith, nat_tests)) h
    inside false e = subst (λ n. n < 256) (sym (get_or_past bs i 0 (grind (arith, nat_tests)))) (omega arith)

pub below_8 : (bs : List ℕ) → ((i : ℕ) → get_or bs i 0 < 256) → from_be_bytes w64 bs < 2 ^ 64
below_8 bs h = omega (arith, h 0, h 1, h 2, h 3, h 4, h 5, h 6, h 7)

pub taken_length : (n : ℕ) (bs : List ℕ) → n ≤ length bs → length (take n bs) ≡ n
taken_length n bs h = omega (arith, length-take n bs)

pub at_least : (n : ℕ) (bs : List ℕ) → nat_le n (length bs) ≡ true → n ≤ length bs
at_least n bs e = grind (arith, nat_tests)

int_found : (bytes : List ℕ) (v : Value) (rest : List ℕ) (t : Bool) → nat_le 8 (length bytes) ≡ t → AreBytes bytes
    → ◌≡◌ {A = Parsed Value} (if t then Some (Int (cast_signed w64 (from_be_bytes w64 (take 8 bytes))), drop 8 bytes) else None) (Some (v, rest)) → Reads (1 ∷ bytes) v rest
int_found bytes v rest false e h is = cc
int_found bytes v rest true e h is =
    let m = from_be_bytes w64 (take 8 bytes) in
    let each = byte_at (take 8 bytes) (All-take (λ b. b < 256) 8 bytes h) in
    let small : m < 2 ^ 64 = below_8 (take 8 bytes) each in
    let parts = same_taken (Int (cast_signed w64 m)) v (drop 8 bytes) rest is in
    let spelled : 1 ∷ bytes ≡ value_bytes (Int (cast_signed w64 m)) ++ drop 8 bytes =
    ap (λ l. 1 ∷ l) (sym (take-append-drop 8 bytes)
    ∙ ap (λ l. l ++ drop 8 bytes) (sym (be_bytes_8 (take 8 bytes) m (taken_length 8 bytes (at_least 8 bytes e)) each refl)
    ∙ ap (to_be_bytes w64) (sym (of_z-to_z w64 m small)))) in
    subst (λ w. Reads (1 ∷ bytes) w rest) parts.0 (subst (λ r. Reads (1 ∷ bytes) (Int (cast_signed w64 m)) r) parts.1
    (record { spelled = spelled; stored = refl; held = sfits_to_z (record { fits = small }) }))

int_sound : (bytes : List ℕ) (v : Value) (rest : List ℕ) → AreBytes bytes → int_from bytes ≡ Some (v, rest) → Reads (1 ∷ bytes) v rest
unfolding int_from
int_sound bytes v rest h is = int_found bytes v rest (nat_le 8 (length bytes)) refl h is

-- the text after its length
text_found : (n : ℕ) (bytes : List ℕ) (v : Value) (rest : List ℕ) (t : Bool) → (nat_le n (length bytes) && is_stored_text (take n bytes)) ≡ t
    → ◌≡◌ {A = Parsed Value} (if t then Some (Text (take n bytes), drop n bytes) else None) (Some (v, rest)) → Reads (2 ∷ (to_be_bytes w16 n ++ bytes)) v rest
text_found n bytes v rest false e is = cc
text_found n bytes v rest true e is =
    let parts = same_taken (Text (take n bytes)) v (drop n bytes) rest is in
    let long_enough : n ≤ length bytes = at_least n bytes (and_parts _ _ e).0 in
    let fine = (and_parts (nat_le n (length bytes)) _ e).1 in
    let spelled : 2 ∷ (to_be_bytes w16 n ++ bytes) ≡ value_bytes (Text (take n bytes)) ++ drop n bytes =
    ap (λ l. 2 ∷ l) (ap (λ l. to_be_bytes w16 n ++ l) (sym (take-append-drop n bytes)) ∙ sym (append_assoc (to_be_bytes w16 n) (take n bytes) (drop n bytes))
    ∙ ap (λ k. (to_be_bytes w16 k ++ take n bytes) ++ drop n bytes) (sym (taken_length n bytes long_enough))) in
    subst (λ w. Reads (2 ∷ (to_be_bytes w16 n ++ bytes)) w rest) parts.0 (subst (λ r. Reads (2 ∷ (to_be_bytes w16 n ++ bytes)) (Text (take n bytes)) r) parts.1
    (record { spelled = spelled; stored = (and_parts _ _ fine).0; held = IsUtf8-from_is_utf8 (take n bytes) ((and_parts (fits_text 1000 (take n bytes)) _ fine).1) }))

of_sound : (n : ℕ) (bytes : List ℕ) (v : Value) (rest : List ℕ) → text_of n bytes ≡ Some (v, rest) → Reads (2 ∷ (to_be_bytes w16 n ++ bytes)) v rest
unfolding text_of
of_sound n bytes v rest is = text_found n bytes v rest (nat_le n (length bytes) && is_stored_text (take n bytes)) refl is

sized : (bytes : List ℕ) (v : Value) (rest : List ℕ) (t : Bool) → nat_le 2 (length bytes) ≡ t → AreBytes bytes
    → ◌≡◌ {A = Parsed Value} (if t then text_of (from_be_bytes w16 (take 2 bytes)) (drop 2 bytes) else None) (Some (v, rest)) → Reads (2 ∷ bytes) v rest
sized bytes v rest false e h is = cc
sized bytes v rest true e h is =
    let n = from_be_bytes w16 (take 2 bytes) in
    let each = byte_at (take 2 bytes) (All-take (λ b. b < 256) 2 bytes h) in
    let same : to_be_bytes w16 n ++ drop 2 bytes ≡ bytes =
    ap (λ l. l ++ drop 2 bytes) (be_bytes_2 (take 2 bytes) n (taken_length 2 bytes (at_least 2 bytes e)) each refl) ∙ take-append-drop 2 bytes in
    subst (λ l. Reads (2 ∷ l) v rest) same (of_sound n (drop 2 bytes) v rest is)

text_sound : (bytes : List ℕ) (v : Value) (rest : List ℕ) → AreBytes bytes → text_from bytes ≡ Some (v, rest) → Reads (2 ∷ bytes) v rest
unfolding text_from
text_sound bytes v rest h is = sized bytes v rest (nat_le 2 (length bytes)) refl h is

-- a value with no more than its tag
bare : (bytes rest : List ℕ) (w v : Value) → value_bytes w ++ bytes ≡ value_bytes w ++ bytes → IsStored w → IsHeld w → ◌≡◌ {A = Parsed Value} (Some (w, bytes)) (Some (v, rest)) → Reads (value_bytes w ++ bytes) v rest
bare bytes rest w v e s h is =
    let parts = same_taken w v bytes rest is in
    subst (λ x. Reads (value_bytes w ++ bytes) x rest) parts.0 (subst (λ r. Reads (value_bytes w ++ bytes) w r) parts.1 (record { spelled = refl; stored = s; held = h }))

tag_is : (a b : ℕ) → (a == b) ≡ true → b ≡ a
tag_is a b e = grind (arith, nat_tests)

by_tag : (tag : ℕ) (bytes : List ℕ) (v : Value) (rest : List ℕ) (a b c d f : Bool) → (tag == 0) ≡ a → (tag == 1) ≡ b → (tag == 2) ≡ c → (tag == 3) ≡ d → (tag == 4) ≡ f → AreBytes bytes
    → ◌≡◌ {A = Parsed Value} (if a then Some (Null, bytes) else if b then int_from bytes else if c then text_from bytes else if d then Some (Truth false, bytes) else if f then Some (Truth true, bytes) else None) (Some (v, rest))
    → Reads (tag ∷ bytes) v rest
by_tag tag bytes v rest true b c d f p q r s t h is = subst (λ n. Reads (n ∷ bytes) v rest) (tag_is tag 0 p) (bare bytes rest Null v refl refl tt is)
by_tag tag bytes v rest false true c d f p q r s t h is = subst (λ n. Reads (n ∷ bytes) v rest) (tag_is tag 1 q) (int_sound bytes v rest h is)
by_tag tag bytes v rest false false true d f p q r s t h is = subst (λ n. Reads (n ∷ bytes) v rest) (tag_is tag 2 r) (text_sound bytes v rest h is)
by_tag tag bytes v rest false false false true f p q r s t h is = subst (λ n. Reads (n ∷ bytes) v rest) (tag_is tag 3 s) (bare bytes rest (Truth false) v refl refl tt is)
by_tag tag bytes v rest false false false false true p q r s t h is = subst (λ n. Reads (n ∷ bytes) v rest) (tag_is tag 4 t) (bare bytes rest (Truth true) v refl refl tt is)
by_tag tag bytes v rest false false false false false p q r s t h is = cc

pub value_sound : (bytes : List ℕ) (v : Value) (rest : List ℕ) → AreBytes bytes → value_from bytes ≡ Some (v, rest) → Reads bytes v rest
unfolding tagged_from
value_sound [] v rest h is = cc
value_sound (tag ∷ bytes) v rest h is =
    by_tag tag bytes v rest (tag == 0) (tag == 1) (tag == 2) (tag == 3) (tag == 4) refl refl refl refl refl (All-tail (λ b. b < 256) tag bytes h) is

-- what the values of a row are
pub record ReadsAll (n : ℕ) (bytes : List ℕ) (vs : List Value) (rest : List ℕ) : Type 0 where
  pub all_spelled : bytes ≡ flat_map value_bytes vs ++ rest
  pub all_stored : All IsStored vs
  pub all_held : All IsHeld vs
  pub counted : length vs ≡ n

same_none : (bytes : List ℕ) (vs : List Value) (rest : List ℕ) → ◌≡◌ {A = Parsed (List Value)} (Some ([], bytes)) (Some (vs, rest)) → ReadsAll 0 bytes vs rest
same_none bytes vs rest is =
    let parts = same_taken [] vs bytes rest is in
    subst (λ ws. ReadsAll 0 bytes ws rest) parts.0 (subst (λ r. ReadsAll 0 bytes [] r) parts.1
    (record { all_spelled = refl; all_stored = All-nil IsStored; all_held = All-nil IsHeld; counted = refl }))

one_and_more : (n : ℕ) (bytes others : List ℕ) (v : Value) (vs : List Value) (rest : List ℕ) → Reads bytes v others → ReadsAll n others vs rest → ReadsAll (suc n) bytes (v ∷ vs) rest
one_and_more n bytes others v vs rest one more = record {
  all_spelled = one.spelled ∙ ap (λ l. value_bytes v ++ l) more.all_spelled ∙ sym (append_assoc (value_bytes v) (flat_map value_bytes vs) rest);
  all_stored = All-cons IsStored v vs one.stored more.all_stored;
  all_held = All-cons IsHeld v vs one.held more.all_held;
  counted = ap suc more.counted;
}

bytes_left : (bytes others : List ℕ) (v : Value) → AreBytes bytes → Reads bytes v others → AreBytes others
bytes_left bytes others v h one =
    subst AreBytes (drop-append_seam (value_bytes v) others) (All-drop (λ b. b < 256) (length (value_bytes v)) (value_bytes v ++ others) (subst AreBytes one.spelled h))

pub values_sound : (n : ℕ) (bytes : List ℕ) (vs : List Value) (rest : List ℕ) → AreBytes bytes → values_from n bytes ≡ Some (vs, rest) → ReadsAll n bytes vs rest
values_sound zero bytes vs rest h is = same_none bytes vs rest is
values_sound (suc n) bytes vs rest h is = by_first (value_from bytes) refl is (λ others ws k e. values_sound n others ws rest k e)
  where
    joined : (v : Value) (others : List ℕ) (r : Parsed (List Value)) → values_from n others ≡ r → Reads bytes v others
        → ◌≡◌ {A = Parsed (List Value)} (after (v ∷ []) r) (Some (vs, rest)) → ((os : List ℕ) (ws : List Value) → AreBytes os → values_from n os ≡ Some (ws, rest) → ReadsAll n os ws rest)
        → ReadsAll (suc n) bytes vs rest
    joined v others None at one e more = cc
    joined v others (Some (ws, left)) at one e more =
        let parts = same_taken (v ∷ ws) vs left rest e in
        subst (λ us. ReadsAll (suc n) bytes us rest) parts.0
        (one_and_more n bytes others v ws rest one (more others ws (bytes_left bytes others v h one) (at ∙ ap (λ r. Some (ws, r)) parts.1)))

    by_first : (r : Parsed Value) → value_from bytes ≡ r → ◌≡◌ {A = Parsed (List Value)} (turned n r) (Some (vs, rest))
        → ((os : List ℕ) (ws : List Value) → AreBytes os → values_from n os ≡ Some (ws, rest) → ReadsAll n os ws rest) → ReadsAll (suc n) bytes vs rest
    by_first None at e more = cc
    by_first (Some (v, others)) at e more = joined v others (values_from n others) refl (value_sound bytes v others h at) e more

same_row : (bytes left : List ℕ) (vs : List Value) → IsStoredRow vs → All IsHeld vs → bytes ≡ bytes_of_row vs ++ left → StandsIn bytes (length bytes - length left) vs
same_row bytes left vs s h e =
    let n : length bytes - length left ≡ length (bytes_of_row vs) = omega (arith, ap length e, length-append (bytes_of_row vs) left) in
    record {
      is_stored = s;
      is_held = h;
      bytes_are = ap (λ k. take k bytes) n ∙ ap (take (length (bytes_of_row vs))) e ∙ take-append_seam (bytes_of_row vs) left;
      within = omega arith;
    }

at_most : (m k : ℕ) → nat_le m k ≡ true → m ≤ k
at_most m k e = grind (arith, nat_tests)

pub row_sound : (bytes : List ℕ) (row : Row) (n : ℕ) → AreBytes bytes → row_from bytes ≡ Some (row, n) → StandsIn bytes n row
row_sound [] row n h is = cc
row_sound (m ∷ bytes) row n h is = by_count (nat_le 1 m && nat_le m 16) refl is
  where
    found : (r : Parsed (List Value)) → values_from m bytes ≡ r → (nat_le 1 m && nat_le m 16) ≡ true
        → ◌≡◌ {A = Option (Row × ℕ)} (option_map (λ x. (x.0, length (m ∷ bytes) - length x.1)) r) (Some (row, n)) → StandsIn (m ∷ bytes) n row
    found None at e is = cc
    found (Some (vs, left)) at e is =
        let parts = same_taken vs row (length (m ∷ bytes) - length left) n is in
        let all : ReadsAll m bytes vs left = values_sound m bytes vs left (All-tail (λ b. b < 256) m bytes h) at in
        let some : 1 ≤ m = at_most 1 m (and_parts (nat_le 1 m) _ e).0 in
        let few : m ≤ 16 = at_most m 16 (and_parts (nat_le 1 m) _ e).1 in
        subst (λ ws. StandsIn (m ∷ bytes) n ws) parts.0 (subst (λ k. StandsIn (m ∷ bytes) k vs) parts.1
        (same_row (m ∷ bytes) left vs
        (record { some = subst (λ k. 1 ≤ k) (sym all.counted) some; few = subst (λ k. k ≤ 16) (sym all.counted) few; stored = all.all_stored }) all.all_held
        (ap (λ k. k ∷ bytes) (sym all.counted) ∙ ap (λ l. length vs ∷ l) all.all_spelled)))

    by_count : (t : Bool) → (nat_le 1 m && nat_le m 16) ≡ t
        → ◌≡◌ {A = Option (Row × ℕ)} (if t then option_map (λ x. (x.0, length (m ∷ bytes) - length x.1)) (values_from m bytes) else None) (Some (row, n)) → StandsIn (m ∷ bytes) n row
    by_count true e is = found (values_from m bytes) refl e is
    by_count false e is = cc

pub no_row_at : (bytes : List ℕ) → row_from bytes ≡ None → NoRowAt bytes
no_row_at bytes none row rest s h e =
    let one : ◌≡◌ {A = Option (Row × ℕ)} None (Some (row, length (bytes_of_row row))) = sym none ∙ ap row_from e ∙ row_back row rest s h in
    cc

-- the same of what a call returned
pub found_there : (bytes : List ℕ) (o : Option (Row × ℕ)) → AreBytes bytes → o ≡ row_from bytes → IfSome o (λ x. StandsIn bytes x.1 x.0)
found_there bytes None h e = tt
found_there bytes (Some x) h e = row_sound bytes x.0 x.1 h (sym e)

pub none_there : (bytes : List ℕ) (o : Option (Row × ℕ)) → o ≡ row_from bytes → IfNone o (NoRowAt bytes)
none_there bytes None e = no_row_at bytes (sym e)
none_there bytes (Some x) e = tt

pub are_bytes : (bs : List ℕ) → ((i : ℕ) → Fits w8 (get_or bs i 0)) → AreBytes bs
are_bytes bs h = All-from_get_or (λ b. b < 256) bs 0 (λ i _. omega (arith, h i))

pub stored_values : (n : ℕ) (bytes : List ℕ) (vs : List Value) (rest : List ℕ) → AreBytes bytes → 1 ≤ n → n ≤ 16 → values_from n bytes ≡ Some (vs, rest) → IsStoredRow vs
stored_values n bytes vs rest h some few at =
    let all : ReadsAll n bytes vs rest = values_sound n bytes vs rest h at in
    record { some = subst (λ k. 1 ≤ k) (sym all.counted) some; few = subst (λ k. k ≤ 16) (sym all.counted) few; stored = all.all_stored }
