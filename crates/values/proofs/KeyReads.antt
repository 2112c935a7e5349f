-- Keys read back from their bytes, and nothing else is read.
use Rattle.std.proofs.Common.{◌≡◌, ℕ, ◌+◌, ◌-◌, ◌^◌, ◌<◌, ◌≤◌, List, [], ◌∷◌, ◌++◌, ◌==◌, ◌&&◌, Bool, true, false, Option, Some, None, length, take, drop, refl, sym, subst, ap, ◌∙◌, arith, nat_le, nat_lt, if◌then◌else◌, append_assoc, append-nil, All, IsUtf8, IfSome, IfNone}
use Rattle.std.proofs.lemmas.Bool.{and_parts}
use Rattle.std.specs.Prelude.{ℤ, pos, negsuc, is_none}
use Rattle.std.specs.Int.{w64, to_be_bytes, from_be_bytes}
use Rattle.std.specs.Int.RustNames.{FitsSigned}
use Rattle.std.specs.Str.{is_utf8}
use Rattle.std.specs.List.{flat_map}
use Rattle.std.proofs.lemmas.Bool.Decides.{nat_tests}
use Rattle.std.proofs.lemmas.Nat.{from_be_bytes-to_be_bytes_8, be_bytes_8}
use Rattle.std.proofs.lemmas.Str.{IsUtf8-from_is_utf8, is_utf8-from_IsUtf8}
use Rattle.std.proofs.lemmas.List.{take-append-drop}
use Rattle.std.proofs.lemmas.List.Elements.{All-head, All-tail, All-cons, All-nil, All-take, All-drop}
use Rattle.std.proofs.Math.Seq.{drop-append_seam}
use Rattle.values.specs.declared.value.Value.{Value}
use Rattle.values.specs.declared.value.Value.TheVariants.{Int, Text, Bool as Truth}
use Rattle.values.specs.declared.table.ColumnType.{ColumnType}
use Rattle.values.specs.declared.table.ColumnType.TheVariants.{Int as IsInt, Text as IsText, Varchar as IsVarchar, Boolean as IsBoolean}
use Rattle.values.specs.declared.table.Column.{Column}
use Rattle.values.specs.declared.table.Table.{Table}
use Rattle.values.specs.declared.key.Key.{Key}
use Rattle.values.specs.Tables.{column_at}
use Rattle.values.specs.Fit.{fits_type, parts_fault, part_fault, key_fault}
use Rattle.values.specs.KeyEncoding.{ordinal_of, text_bytes, part_bytes, bytes_of_key}
use Rattle.values.specs.RowEncoding.{IsHeld}
use Rattle.values.specs.RowReading.{Parsed, after}
use Rattle.values.specs.KeyReading.{IsKeyOf, IsKeyWith, NoKeyWith, number_at, text_from, number_from, name_from, truth_from, part_from, column_from, parts_from, is_empty, whole_key, key_from}
use Rattle.values.proofs.KeyLengths.{FitsColumn, part_fits, first_none, key_fits}
use Rattle.values.proofs.RowReads.{long, chosen, same_taken, byte_at, below_8, taken_length, at_least, AreBytes}

-- numbers
number_at-ordinal_of : (n : ℤ) → FitsSigned w64 n → number_at (ordinal_of n) ≡ n
number_at-ordinal_of (pos n) f = upper (nat_lt (n + 9223372036854775808) 9223372036854775808) refl
  where
    upper : (t : Bool) → nat_lt (n + 9223372036854775808) 9223372036854775808 ≡ t
        → (if t then negsuc (9223372036854775807 - (n + 9223372036854775808)) else pos ((n + 9223372036854775808) - 9223372036854775808)) ≡ pos n
    upper true e = absurd (no (n + 9223372036854775808) e (omega arith))
      where
        no : (m : ℕ) → nat_lt m 9223372036854775808 ≡ true → 9223372036854775808 ≤ m → ⊥
        no m e h = grind (arith, nat_tests)
    upper false e = ap pos (omega arith)
number_at-ordinal_of (negsuc n) f = lower (nat_lt (9223372036854775807 - n) 9223372036854775808) refl f
  where
    lower : (t : Bool) → nat_lt (9223372036854775807 - n) 9223372036854775808 ≡ t → FitsSigned w64 (negsuc n)
        → (if t then negsuc (9223372036854775807 - (9223372036854775807 - n)) else pos ((9223372036854775807 - n) - 9223372036854775808)) ≡ negsuc n
    lower true e f = ap negsuc (omega (arith, f.sfits))
    lower false e f = absurd (no (9223372036854775807 - n) e (omega arith))
      where
        no : (m : ℕ) → nat_lt m 9223372036854775808 ≡ false → m ≤ 9223372036854775807 → ⊥
        no m e h = grind (arith, nat_tests)

ordinal_small : (n : ℤ) → FitsSigned w64 n → ordinal_of n < 2 ^ 64
ordinal_small (pos n) f = omega (arith, f.sfits)
ordinal_small (negsuc n) f = omega (arith, f.sfits)

record IsNumberAt (m : ℕ) (n : ℤ) : Type 0 where
  fits : FitsSigned w64 n
  ordinal_is : ordinal_of n ≡ m

number_at_is : (m : ℕ) → m < 2 ^ 64 → IsNumberAt m (number_at m)
number_at_is m h = half (nat_lt m 9223372036854775808) refl
  where
    half : (t : Bool) → nat_lt m 9223372036854775808 ≡ t → IsNumberAt m (if t then negsuc (9223372036854775807 - m) else pos (m - 9223372036854775808))
    half true e = let b : m < 9223372036854775808 = grind (arith, nat_tests) in record { fits = record { sfits = omega arith }; ordinal_is = omega arith }
    half false e = let b : 9223372036854775808 ≤ m = grind (arith, nat_tests) in record { fits = record { sfits = omega arith }; ordinal_is = omega arith }

number_back : (n : ℤ) (rest : List ℕ) → FitsSigned w64 n → number_from (to_be_bytes w64 (ordinal_of n) ++ rest) ≡ Some (Int n, rest)
unfolding number_from
number_back n rest f =
    chosen _ _ None (long (to_be_bytes w64 (ordinal_of n)) rest)
    ∙ ap (λ m. Some (Int (number_at m), rest)) (from_be_bytes-to_be_bytes_8 (ordinal_of n) (ordinal_small n f))
    ∙ ap (λ z. Some (Int z, rest)) (number_at-ordinal_of n f)

-- texts
text_back : (t rest : List ℕ) → text_from false (text_bytes t ++ rest) ≡ Some (t, rest)
text_back [] rest = refl
text_back (b ∷ bs) rest = one (b == 0) refl (text_back bs rest)
  where
    plain : (b : ℕ) (bs : List ℕ) (t : Bool) → (b == 0) ≡ t → t ≡ false → text_from false (b ∷ bs) ≡ after (b ∷ []) (text_from false bs)
    plain b bs t e d = ap (λ t. if t then text_from true bs else after (b ∷ []) (text_from false bs)) (e ∙ d)

    zero_is : (b : ℕ) → (b == 0) ≡ true → 0 ≡ b
    zero_is b e = grind (arith, nat_tests)

    one : (t : Bool) → (b == 0) ≡ t → text_from false (text_bytes bs ++ rest) ≡ Some (bs, rest)
        → text_from false ((if t then 0 ∷ 255 ∷ text_bytes bs else b ∷ text_bytes bs) ++ rest) ≡ Some (b ∷ bs, rest)
    one true e h = ap (after (0 ∷ [])) h ∙ ap (λ n. Some (n ∷ bs, rest)) (zero_is b e)
    one false e h = plain b (text_bytes bs ++ rest) false e refl ∙ ap (after (b ∷ [])) h

name_back : (t rest : List ℕ) → IsUtf8 t → name_from (text_bytes t ++ rest) ≡ Some (Text t, rest)
unfolding name_from
name_back t rest u =
    ap (λ (o : Parsed (List ℕ)). elim o [ None ↦ None | Some x ↦ if is_utf8 x.0 then Some (Text x.0, x.1) else None ]) (text_back t rest)
    ∙ chosen _ _ None (is_utf8-from_IsUtf8 t u)

part_back : (of : ColumnType) (v : Value) (rest : List ℕ) → fits_type 200 of v ≡ true → IsHeld v → part_from of (part_bytes v ++ rest) ≡ Some (v, rest)
unfolding part_from
part_back IsInt (Int n) rest e h = number_back n rest h
part_back IsText (Text t) rest e h = name_back t rest h
part_back (IsVarchar n) (Text t) rest e h = name_back t rest h
part_back IsBoolean (Truth true) rest e h = refl
part_back IsBoolean (Truth false) rest e h = refl
part_back IsInt _ rest e h = cc
part_back IsText _ rest e h = cc
part_back (IsVarchar n) _ rest e h = cc
part_back IsBoolean _ rest e h = cc

column_back : (table : Table) (n : ℕ) (v : Value) (rest : List ℕ) → FitsColumn table n v → IsHeld v → column_from table n (part_bytes v ++ rest) ≡ Some (v, rest)
unfolding column_from
column_back table n v rest f h =
    ap (λ (o : Option Column). elim o [ None ↦ None | Some column ↦ part_from column.of (part_bytes v ++ rest) ]) f.found ∙ part_back f.column.of v rest f.typed h

abbrev turned : Table → List ℕ → Parsed Value → Parsed (List Value)
turned table ns o = elim o [ None ↦ None | Some x ↦ after (x.0 ∷ []) (parts_from table ns x.1) ]

parts_back : (table : Table) (ns : List ℕ) (vs : List Value) (rest : List ℕ) → length ns ≡ length vs → parts_fault table ns vs ≡ None → All IsHeld vs
    → parts_from table ns (flat_map part_bytes vs ++ rest) ≡ Some (vs, rest)
parts_back table [] [] rest e f h = refl
parts_back table (n ∷ ns) (v ∷ vs) rest e f h =
    let two = first_none (part_fault table n v) (parts_fault table ns vs) f in
    ap (λ l. turned table ns (column_from table n l)) (append_assoc (part_bytes v) (flat_map part_bytes vs) rest)
    ∙ ap (turned table ns) (column_back table n v (flat_map part_bytes vs ++ rest) (part_fits table n v two.0) (All-head IsHeld v vs h))
    ∙ ap (after (v ∷ [])) (parts_back table ns vs rest (omega arith) two.1 (All-tail IsHeld v vs h))
parts_back table [] (v ∷ vs) rest e f h = absurd (omega arith)
parts_back table (n ∷ ns) [] rest e f h = absurd (omega arith)

same_number : (a b : ℕ) → a ≡ b → (a == b) ≡ true
same_number a b e = grind (arith, nat_tests)

-- a key of the table is read from its bytes
pub key_back : (table : Table) (key : Key) → IsKeyOf table key → key_from table (bytes_of_key key) ≡ Some key
key_back table key h =
    let f = key_fits table key.parts h.fits in
    chosen _ _ None (same_number key.table table.number h.own)
    ∙ ap (λ l. whole_key table (parts_from table table.key l)) (sym (append-nil (flat_map part_bytes key.parts)))
    ∙ ap (whole_key table) (parts_back table table.key key.parts [] f.same_width f.no_fault h.held)
    ∙ chosen _ _ None (ap is_none h.fits)
    ∙ ap (λ n. Some (record { table = n; parts = key.parts })) (sym h.own)

pub no_key_with : (table : Table) (bytes : List ℕ) (o : Option Key) → o ≡ key_from table bytes → IfNone o (NoKeyWith table bytes)
no_key_with table bytes None e = λ key h same.
    let one : ◌≡◌ {A = Option Key} None (Some key) = e ∙ ap (key_from table) (sym same) ∙ key_back table key h in cc
no_key_with table bytes (Some key) e = tt

-- and what is read is the bytes of what it gives
record Reads (bytes : List ℕ) (v : Value) (rest : List ℕ) : Type 0 where
  spelled : bytes ≡ part_bytes v ++ rest
  held : IsHeld v

reads : (bytes : List ℕ) (w v : Value) (left rest : List ℕ) → ◌≡◌ {A = Parsed Value} (Some (w, left)) (Some (v, rest)) → Reads bytes w left → Reads bytes v rest
reads bytes w v left rest e r =
    let parts = same_taken w v left rest e in
    subst (λ x. Reads bytes x rest) parts.0 (subst (λ l. Reads bytes w l) parts.1 r)

number_found : (bytes : List ℕ) (v : Value) (rest : List ℕ) (t : Bool) → nat_le 8 (length bytes) ≡ t → AreBytes bytes
    → ◌≡◌ {A = Parsed Value} (if t then Some (Int (number_at (from_be_bytes w64 (take 8 bytes))), drop 8 bytes) else None) (Some (v, rest)) → Reads bytes v rest
number_found bytes v rest false e h is = cc
number_found bytes v rest true e h is =
    let m = from_be_bytes w64 (take 8 bytes) in
    let each = byte_at (take 8 bytes) (All-take (λ b. b < 256) 8 bytes h) in
    let low = number_at_is m (below_8 (take 8 bytes) each) in
    reads bytes (Int (number_at m)) v (drop 8 bytes) rest is (record {
      spelled = sym (take-append-drop 8 bytes)
          ∙ ap (λ l. l ++ drop 8 bytes) (sym (be_bytes_8 (take 8 bytes) m (taken_length 8 bytes (at_least 8 bytes e)) each refl) ∙ ap (to_be_bytes w64) (sym low.ordinal_is));
      held = low.fits;
    })

number_sound : (bytes : List ℕ) (v : Value) (rest : List ℕ) → AreBytes bytes → number_from bytes ≡ Some (v, rest) → Reads bytes v rest
unfolding number_from
number_sound bytes v rest h is = number_found bytes v rest (nat_le 8 (length bytes)) refl h is

byte_is : (a b : ℕ) → (a == b) ≡ true → b ≡ a
byte_is a b e = grind (arith, nat_tests)

truth_sound : (bytes : List ℕ) (v : Value) (rest : List ℕ) → truth_from bytes ≡ Some (v, rest) → Reads bytes v rest
truth_sound [] v rest is = cc
truth_sound (b ∷ bs) v rest is = by_byte (b == 0) (b == 1) refl refl is
  where
    by_byte : (s t : Bool) → (b == 0) ≡ s → (b == 1) ≡ t
        → ◌≡◌ {A = Parsed Value} (if s then Some (Truth false, bs) else if t then Some (Truth true, bs) else None) (Some (v, rest)) → Reads (b ∷ bs) v rest
    by_byte true t p q is = reads (b ∷ bs) (Truth false) v bs rest is (record { spelled = ap (λ n. n ∷ bs) (sym (byte_is b 0 p)); held = tt })
    by_byte false true p q is = reads (b ∷ bs) (Truth true) v bs rest is (record { spelled = ap (λ n. n ∷ bs) (sym (byte_is b 1 q)); held = tt })
    by_byte false false p q is = cc

plain_more : (b : ℕ) (bs : List ℕ) → (b == 0) ≡ false → text_bytes (b ∷ bs) ≡ b ∷ text_bytes bs
plain_more b bs e = ap (λ t. if t then 0 ∷ 255 ∷ text_bytes bs else b ∷ text_bytes bs) e

after_split : (b : ℕ) (r : Parsed (List ℕ)) (t rest : List ℕ) → after (b ∷ []) r ≡ Some (t, rest) → (u : List ℕ) × (r ≡ Some (u, rest)) × (b ∷ u ≡ t)
after_split b None t rest e = cc
after_split b (Some (u, left)) t rest e =
    let parts = same_taken (b ∷ u) t left rest e in
    (u, ap (λ l. Some (u, l)) parts.1, parts.0)

-- after a zero, the zero stands before what is left
abbrev before : Bool → List ℕ → List ℕ
before zero_before bs = if zero_before then 0 ∷ bs else bs

texts_sound : (zero_before : Bool) (bs t rest : List ℕ) → text_from zero_before bs ≡ Some (t, rest) → before zero_before bs ≡ text_bytes t ++ rest
texts_sound true [] t rest e = cc
texts_sound false [] t rest e = cc
texts_sound false (b ∷ bs) t rest e = by_byte (b == 0) refl e (texts_sound true bs t rest) (λ u k. texts_sound false bs u rest k)
  where
    by_byte : (z : Bool) → (b == 0) ≡ z → (if z then text_from true bs else after (b ∷ []) (text_from false bs)) ≡ Some (t, rest)
        → (text_from true bs ≡ Some (t, rest) → 0 ∷ bs ≡ text_bytes t ++ rest) → ((u : List ℕ) → text_from false bs ≡ Some (u, rest) → bs ≡ text_bytes u ++ rest)
        → b ∷ bs ≡ text_bytes t ++ rest
    by_byte true z e zeroed more = ap (λ n. n ∷ bs) (sym (byte_is b 0 z)) ∙ zeroed e
    by_byte false z e zeroed more =
        let split = after_split b (text_from false bs) t rest e in
        ap (λ l. b ∷ l) (more split.0 split.1) ∙ ap (λ l. l ++ rest) (sym (plain_more b split.0 z)) ∙ ap (λ u. text_bytes u ++ rest) split.2
texts_sound true (b ∷ bs) t rest e = by_byte (b == 0) (b == 255) refl refl e (λ u k. texts_sound false bs u rest k)
  where
    by_byte : (y z : Bool) → (b == 0) ≡ y → (b == 255) ≡ z
        → ◌≡◌ {A = Parsed (List ℕ)} (if y then Some ([], bs) else if z then after (0 ∷ []) (text_from false bs) else None) (Some (t, rest))
        → ((u : List ℕ) → text_from false bs ≡ Some (u, rest) → bs ≡ text_bytes u ++ rest) → 0 ∷ b ∷ bs ≡ text_bytes t ++ rest
    by_byte true z p q e more =
        let parts = same_taken [] t bs rest e in
        ap (λ n. 0 ∷ n ∷ bs) (sym (byte_is b 0 p)) ∙ ap (λ l. 0 ∷ 0 ∷ l) parts.1 ∙ ap (λ u. text_bytes u ++ rest) parts.0
    by_byte false true p q e more =
        let split = after_split 0 (text_from false bs) t rest e in
        ap (λ n. 0 ∷ n ∷ bs) (sym (byte_is b 255 q)) ∙ ap (λ l. 0 ∷ 255 ∷ l) (more split.0 split.1) ∙ ap (λ u. text_bytes u ++ rest) split.2
    by_byte false false p q e more = cc

name_found : (bytes : List ℕ) (v : Value) (rest : List ℕ) (o : Parsed (List ℕ)) → text_from false bytes ≡ o
    → ◌≡◌ {A = Parsed Value} (elim o [ None ↦ None | Some x ↦ if is_utf8 x.0 then Some (Text x.0, x.1) else None ]) (Some (v, rest)) → Reads bytes v rest
name_found bytes v rest None at e = cc
name_found bytes v rest (Some (t, left)) at e = by_text (is_utf8 t) refl e
  where
    by_text : (u : Bool) → is_utf8 t ≡ u → ◌≡◌ {A = Parsed Value} (if u then Some (Text t, left) else None) (Some (v, rest)) → Reads bytes v rest
    by_text true u e = reads bytes (Text t) v left rest e (record { spelled = texts_sound false bytes t left at; held = IsUtf8-from_is_utf8 t u })
    by_text false u e = cc

name_sound : (bytes : List ℕ) (v : Value) (rest : List ℕ) → name_from bytes ≡ Some (v, rest) → Reads bytes v rest
unfolding name_from
name_sound bytes v rest e = name_found bytes v rest (text_from false bytes) refl e

part_sound : (of : ColumnType) (bytes : List ℕ) (v : Value) (rest : List ℕ) → AreBytes bytes → part_from of bytes ≡ Some (v, rest) → Reads bytes v rest
unfolding part_from
part_sound IsInt bytes v rest h e = number_sound bytes v rest h e
part_sound IsText bytes v rest h e = name_sound bytes v rest e
part_sound (IsVarchar n) bytes v rest h e = name_sound bytes v rest e
part_sound IsBoolean bytes v rest h e = truth_sound bytes v rest e

column_sound : (table : Table) (n : ℕ) (bytes : List ℕ) (v : Value) (rest : List ℕ) → AreBytes bytes → column_from table n bytes ≡ Some (v, rest) → Reads bytes v rest
unfolding column_from
column_sound table n bytes v rest h e = found (column_at table n) e
  where
    found : (o : Option Column) → ◌≡◌ {A = Parsed Value} (elim o [ None ↦ None | Some column ↦ part_from column.of bytes ]) (Some (v, rest)) → Reads bytes v rest
    found None e = cc
    found (Some column) e = part_sound column.of bytes v rest h e

record ReadsAll (bytes : List ℕ) (vs : List Value) (rest : List ℕ) : Type 0 where
  all_spelled : bytes ≡ flat_map part_bytes vs ++ rest
  all_held : All IsHeld vs

bytes_left : (bytes others : List ℕ) (v : Value) → AreBytes bytes → Reads bytes v others → AreBytes others
bytes_left bytes others v h one =
    subst AreBytes (drop-append_seam (part_bytes v) others) (All-drop (λ b. b < 256) (length (part_bytes v)) (part_bytes v ++ others) (subst AreBytes one.spelled h))

parts_sound : (table : Table) (ns : List ℕ) (bytes : List ℕ) (vs : List Value) (rest : List ℕ) → AreBytes bytes → parts_from table ns bytes ≡ Some (vs, rest) → ReadsAll bytes vs rest
parts_sound table [] bytes vs rest h e =
    let parts = same_taken [] vs bytes rest e in
    subst (λ ws. ReadsAll bytes ws rest) parts.0 (subst (λ l. ReadsAll bytes [] l) parts.1 (record { all_spelled = refl; all_held = All-nil IsHeld }))
parts_sound table (n ∷ ns) bytes vs rest h e = by_first (column_from table n bytes) refl e (λ os ws k f. parts_sound table ns os ws rest k f)
  where
    joined : (v : Value) (others : List ℕ) (r : Parsed (List Value)) → parts_from table ns others ≡ r → Reads bytes v others
        → ◌≡◌ {A = Parsed (List Value)} (after (v ∷ []) r) (Some (vs, rest)) → ((os : List ℕ) (ws : List Value) → AreBytes os → parts_from table ns os ≡ Some (ws, rest) → ReadsAll os ws rest)
        → ReadsAll bytes vs rest
    joined v others None at one e more = cc
    joined v others (Some (ws, left)) at one e more =
        let parts = same_taken (v ∷ ws) vs left rest e in
        let others_read = more others ws (bytes_left bytes others v h one) (at ∙ ap (λ r. Some (ws, r)) parts.1) in
        subst (λ us. ReadsAll bytes us rest) parts.0 (record {
          all_spelled = one.spelled ∙ ap (λ l. part_bytes v ++ l) others_read.all_spelled ∙ sym (append_assoc (part_bytes v) (flat_map part_bytes ws) rest);
          all_held = All-cons IsHeld v ws one.held others_read.all_held;
        })

    by_first : (r : Parsed Value) → column_from table n bytes ≡ r → ◌≡◌ {A = Parsed (List Value)} (turned table ns r) (Some (vs, rest))
        → ((os : List ℕ) (ws : List Value) → AreBytes os → parts_from table ns os ≡ Some (ws, rest) → ReadsAll os ws rest) → ReadsAll bytes vs rest
    by_first None at e more = cc
    by_first (Some (v, others)) at e more = joined v others (parts_from table ns others) refl (column_sound table n bytes v others h at) e more

nothing : (rest : List ℕ) → is_empty rest ≡ true → rest ≡ []
nothing [] e = refl
nothing (b ∷ bs) e = cc

no_fault_is : (o : Option ℕ) → is_none o ≡ true → o ≡ None
no_fault_is None e = refl
no_fault_is (Some n) e = cc

whole_sound : (table : Table) (bytes : List ℕ) (key : Key) (o : Parsed (List Value)) → parts_from table table.key bytes ≡ o → AreBytes bytes → whole_key table o ≡ Some key
    → IsKeyWith table (table.number ∷ bytes) key
whole_sound table bytes key None at h e = cc
whole_sound table bytes key (Some (parts, rest)) at h e = by_test (is_empty rest && is_none (key_fault table parts)) refl e
  where
    by_test : (t : Bool) → (is_empty rest && is_none (key_fault table parts)) ≡ t
        → ◌≡◌ {A = Option Key} (if t then Some (record { table = table.number; parts = parts }) else None) (Some key) → IsKeyWith table (table.number ∷ bytes) key
    by_test false t e = cc
    by_test true t e =
        let all = parts_sound table table.key bytes parts rest h at in
        let end = nothing rest (and_parts (is_empty rest) _ t).0 in
        let same : record { table = table.number; parts = parts } ≡ key = ap (λ (o : Option Key). elim o [ Some k ↦ k | None ↦ key ]) e in
        subst (λ k. IsKeyWith table (table.number ∷ bytes) k) same (record {
          is_key = record { own = refl; fits = no_fault_is (key_fault table parts) (and_parts (is_empty rest) _ t).1; held = all.all_held };
          bytes_are = ap (λ l. table.number ∷ l) (sym (all.all_spelled ∙ ap (λ l. flat_map part_bytes parts ++ l) end ∙ append-nil (flat_map part_bytes parts)));
        })

key_sound : (table : Table) (bytes : List ℕ) (key : Key) → AreBytes bytes → key_from table bytes ≡ Some key → IsKeyWith table bytes key
key_sound table [] key h e = cc
key_sound table (b ∷ bytes) key h e = by_table (b == table.number) refl e
  where
    by_table : (t : Bool) → (b == table.number) ≡ t → ◌≡◌ {A = Option Key} (if t then whole_key table (parts_from table table.key bytes) else None) (Some key) → IsKeyWith table (b ∷ bytes) key
    by_table false t e = cc
    by_table true t e =
        subst (λ n. IsKeyWith table (n ∷ bytes) key) (byte_is b table.number t)
        (whole_sound table bytes key (parts_from table table.key bytes) refl (All-tail (λ b. b < 256) b bytes h) e)

pub key_with : (table : Table) (bytes : List ℕ) (o : Option Key) → AreBytes bytes → o ≡ key_from table bytes → IfSome o (IsKeyWith table bytes)
key_with table bytes None h e = tt
key_with table bytes (Some key) h e = key_sound table bytes key h (sym e)
