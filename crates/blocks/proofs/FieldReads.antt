-- Fields read back from their bytes, and nothing else is read.
use Rattle.std.proofs.Common.{◌≡◌, ℕ, ◌^◌, ◌<◌, ◌≤◌, List, [], ◌∷◌, ◌++◌, ◌==◌, Bool, true, false, Option, Some, None, length, take, drop, refl, sym, subst, ap, ◌∙◌, arith, nat_le, if◌then◌else◌, append_assoc, IfSome}
use Rattle.std.specs.Int.{w16, w64, to_be_bytes, from_be_bytes}
use Rattle.std.proofs.lemmas.Bool.Decides.{nat_tests}
use Rattle.std.proofs.lemmas.Nat.{from_be_bytes-to_be_bytes_2, from_be_bytes-to_be_bytes_8, be_bytes_2, be_bytes_8}
use Rattle.std.proofs.lemmas.List.{take-append-drop}
use Rattle.std.proofs.lemmas.List.Elements.{All-drop, All-take}
use Rattle.std.proofs.Math.Seq.{take-append_seam, drop-append_seam}
use Rattle.values.specs.RowReading.{Parsed}
use Rattle.values.proofs.RowReads.{long, chosen, at_least, taken_length, byte_at, same_taken, AreBytes}
use Rattle.blocks.specs.Field.{taken_then, key_field, end_field, instant_field, part_from, length_from, key_of_length, key_from, some_end, end_tagged, end_from, instant_from}

-- both of two things that were taken, one after the other
pub record AreTaken {A B : Type 0} (t : Parsed A) (f : A → List ℕ → Parsed B) (y : B) (rest : List ℕ) : Type 0 where
  pub x : A
  pub left : List ℕ
  pub first : t ≡ Some (x, left)
  pub second : f x left ≡ Some (y, rest)

pub are_taken : {A B : Type 0} (t : Parsed A) (f : A → List ℕ → Parsed B) (y : B) (rest : List ℕ) → taken_then t f ≡ Some (y, rest) → AreTaken t f y rest
are_taken None f y rest is = cc
are_taken (Some (x, left)) f y rest is = record { x = x; left = left; first = refl; second = is }

pub bytes_behind : (bytes xs rest : List ℕ) → bytes ≡ xs ++ rest → AreBytes bytes → AreBytes rest
bytes_behind bytes xs rest is h = subst AreBytes (drop-append_seam xs rest) (All-drop (λ b. b < 256) (length xs) (xs ++ rest) (subst AreBytes is h))

-- ---- so many bytes

pub part_back : (xs rest : List ℕ) → part_from (length xs) (xs ++ rest) ≡ Some (xs, rest)
unfolding part_from
part_back xs rest =
    chosen _ _ None (long xs rest)
    ∙ ap (λ l. Some (l, drop (length xs) (xs ++ rest))) (take-append_seam xs rest)
    ∙ ap (λ l. Some (xs, l)) (drop-append_seam xs rest)

pub record IsPart (n : ℕ) (bytes xs rest : List ℕ) : Type 0 where
  pub spelled : bytes ≡ xs ++ rest
  pub long_is : length xs ≡ n

part_by : (n : ℕ) (bytes xs rest : List ℕ) (t : Bool) → nat_le n (length bytes) ≡ t
    → ◌≡◌ {A = Parsed (List ℕ)} (if t then Some (take n bytes, drop n bytes) else None) (Some (xs, rest)) → IsPart n bytes xs rest
part_by n bytes xs rest false e is = cc
part_by n bytes xs rest true e is =
    let parts = same_taken (take n bytes) xs (drop n bytes) rest is in
    record {
      spelled = sym (take-append-drop n bytes) ∙ ap (λ l. l ++ drop n bytes) parts.0 ∙ ap (λ l. xs ++ l) parts.1;
      long_is = ap length (sym parts.0) ∙ taken_length n bytes (at_least n bytes e);
    }

pub part_only : (n : ℕ) (bytes xs rest : List ℕ) → part_from n bytes ≡ Some (xs, rest) → IsPart n bytes xs rest
unfolding part_from
part_only n bytes xs rest is = part_by n bytes xs rest (nat_le n (length bytes)) refl is

-- ---- lengths

pub length_back : (n : ℕ) (rest : List ℕ) → n < 2 ^ 16 → length_from (to_be_bytes w16 n ++ rest) ≡ Some (n, rest)
unfolding length_from
length_back n rest h = chosen _ _ None (long (to_be_bytes w16 n) rest) ∙ ap (λ n. Some (n, rest)) (from_be_bytes-to_be_bytes_2 n h)

length_by : (bytes : List ℕ) (n : ℕ) (rest : List ℕ) (t : Bool) → nat_le 2 (length bytes) ≡ t → AreBytes bytes
    → ◌≡◌ {A = Parsed ℕ} (if t then Some (from_be_bytes w16 (take 2 bytes), drop 2 bytes) else None) (Some (n, rest)) → bytes ≡ to_be_bytes w16 n ++ rest
length_by bytes n rest false e h is = cc
length_by bytes n rest true e h is =
    let m = from_be_bytes w16 (take 2 bytes) in
    let each = byte_at (take 2 bytes) (All-take (λ b. b < 256) 2 bytes h) in
    let parts = same_taken m n (drop 2 bytes) rest is in
    sym (take-append-drop 2 bytes)
    ∙ ap (λ l. l ++ drop 2 bytes) (sym (be_bytes_2 (take 2 bytes) m (taken_length 2 bytes (at_least 2 bytes e)) each refl))
    ∙ ap (λ m. to_be_bytes w16 m ++ drop 2 bytes) parts.0
    ∙ ap (λ l. to_be_bytes w16 n ++ l) parts.1

pub length_only : (bytes : List ℕ) (n : ℕ) (rest : List ℕ) → AreBytes bytes → length_from bytes ≡ Some (n, rest) → bytes ≡ to_be_bytes w16 n ++ rest
unfolding length_from
length_only bytes n rest h is = length_by bytes n rest (nat_le 2 (length bytes)) refl h is

-- ---- keys

small : (n : ℕ) → n ≤ 1609 → nat_le n 1609 ≡ true
small n h = grind (arith, nat_tests)

at_most : (n : ℕ) → nat_le n 1609 ≡ true → n ≤ 1609
at_most n e = grind (arith, nat_tests)

pub key_back : (key rest : List ℕ) → length key ≤ 1609 → key_from (key_field key ++ rest) ≡ Some (key, rest)
unfolding key_from key_of_length
key_back key rest h =
    ap (λ l. taken_then (length_from l) key_of_length) (append_assoc (to_be_bytes w16 (length key)) key rest)
    ∙ ap (λ t. taken_then t key_of_length) (length_back (length key) (key ++ rest) (omega arith))
    ∙ chosen _ _ None (small (length key) h)
    ∙ part_back key rest

pub record IsKey (bytes key rest : List ℕ) : Type 0 where
  pub spelled : bytes ≡ key_field key ++ rest
  pub short : length key ≤ 1609

key_by : (n : ℕ) (bytes key rest : List ℕ) (t : Bool) → nat_le n 1609 ≡ t → (if t then part_from n bytes else None) ≡ Some (key, rest) → IsKey (to_be_bytes w16 n ++ bytes) key rest
key_by n bytes key rest false e is = cc
key_by n bytes key rest true e is =
    let part = part_only n bytes key rest is in
    record {
      spelled = ap (λ l. to_be_bytes w16 n ++ l) part.spelled ∙ sym (append_assoc (to_be_bytes w16 n) key rest) ∙ ap (λ n. (to_be_bytes w16 n ++ key) ++ rest) (sym part.long_is);
      short = subst (λ n. n ≤ 1609) (sym part.long_is) (at_most n e);
    }

key_of_length_only : (n : ℕ) (bytes key rest : List ℕ) → key_of_length n bytes ≡ Some (key, rest) → IsKey (to_be_bytes w16 n ++ bytes) key rest
unfolding key_of_length
key_of_length_only n bytes key rest is = key_by n bytes key rest (nat_le n 1609) refl is

pub key_only : (bytes key rest : List ℕ) → AreBytes bytes → key_from bytes ≡ Some (key, rest) → IsKey bytes key rest
unfolding key_from
key_only bytes key rest h is =
    let two = are_taken (length_from bytes) key_of_length key rest is in
    subst (λ l. IsKey l key rest) (sym (length_only bytes two.x two.left h two.first)) (key_of_length_only two.x two.left key rest two.second)

-- ---- ends

pub end_back : (end : Option (List ℕ)) (rest : List ℕ) → IfSome end (λ key. length key ≤ 1609) → end_from (end_field end ++ rest) ≡ Some (end, rest)
unfolding end_tagged
end_back None rest h = refl
end_back (Some key) rest h = ap (λ t. taken_then t some_end) (key_back key rest h)

pub record IsEnd (bytes : List ℕ) (end : Option (List ℕ)) (rest : List ℕ) : Type 0 where
  pub spelled : bytes ≡ end_field end ++ rest
  pub short : IfSome end (λ key. length key ≤ 1609)

pub tag_is : (a b : ℕ) → (a == b) ≡ true → b ≡ a
tag_is a b e = grind (arith, nat_tests)

some_only : (bytes : List ℕ) (end : Option (List ℕ)) (rest : List ℕ) → AreBytes bytes → taken_then (key_from bytes) some_end ≡ Some (end, rest) → IsEnd (1 ∷ bytes) end rest
some_only bytes end rest h is =
    let two = are_taken (key_from bytes) some_end end rest is in
    let key = key_only bytes two.x two.left h two.first in
    let parts = same_taken (Some two.x) end two.left rest two.second in
    subst (λ e. IsEnd (1 ∷ bytes) e rest) parts.0 (subst (λ r. IsEnd (1 ∷ bytes) (Some two.x) r) parts.1 (record { spelled = ap (λ l. 1 ∷ l) key.spelled; short = key.short }))

none_only : (bytes : List ℕ) (end : Option (List ℕ)) (rest : List ℕ) → ◌≡◌ {A = Parsed (Option (List ℕ))} (Some (None, bytes)) (Some (end, rest)) → IsEnd (0 ∷ bytes) end rest
none_only bytes end rest is =
    let parts = same_taken None end bytes rest is in
    subst (λ e. IsEnd (0 ∷ bytes) e rest) parts.0 (subst (λ r. IsEnd (0 ∷ bytes) None r) parts.1 (record { spelled = refl; short = tt }))

end_by : (tag : ℕ) (bytes : List ℕ) (end : Option (List ℕ)) (rest : List ℕ) (a b : Bool) → (tag == 0) ≡ a → (tag == 1) ≡ b → AreBytes bytes
    → ◌≡◌ {A = Parsed (Option (List ℕ))} (if a then Some (None, bytes) else if b then taken_then (key_from bytes) some_end else None) (Some (end, rest)) → IsEnd (tag ∷ bytes) end rest
end_by tag bytes end rest true b p q h is = subst (λ n. IsEnd (n ∷ bytes) end rest) (tag_is tag 0 p) (none_only bytes end rest is)
end_by tag bytes end rest false true p q h is = subst (λ n. IsEnd (n ∷ bytes) end rest) (tag_is tag 1 q) (some_only bytes end rest h is)
end_by tag bytes end rest false false p q h is = cc

end_tagged_only : (tag : ℕ) (bytes : List ℕ) (end : Option (List ℕ)) (rest : List ℕ) → AreBytes bytes → end_tagged tag bytes ≡ Some (end, rest) → IsEnd (tag ∷ bytes) end rest
unfolding end_tagged
end_tagged_only tag bytes end rest h is = end_by tag bytes end rest (tag == 0) (tag == 1) refl refl h is

pub end_only : (bytes : List ℕ) (end : Option (List ℕ)) (rest : List ℕ) → AreBytes bytes → end_from bytes ≡ Some (end, rest) → IsEnd bytes end rest
end_only [] end rest h is = cc
end_only (tag ∷ bytes) end rest h is = end_tagged_only tag bytes end rest (bytes_behind (tag ∷ bytes) (tag ∷ []) bytes refl h) is

-- ---- instants

pub instant_back : (instant : ℕ) (rest : List ℕ) → instant < 2 ^ 64 → instant_from (instant_field instant ++ rest) ≡ Some (instant, rest)
unfolding instant_from
instant_back n rest h = chosen _ _ None (long (to_be_bytes w64 n) rest) ∙ ap (λ n. Some (n, rest)) (from_be_bytes-to_be_bytes_8 n h)

instant_by : (bytes : List ℕ) (n : ℕ) (rest : List ℕ) (t : Bool) → nat_le 8 (length bytes) ≡ t → AreBytes bytes
    → ◌≡◌ {A = Parsed ℕ} (if t then Some (from_be_bytes w64 (take 8 bytes), drop 8 bytes) else None) (Some (n, rest)) → bytes ≡ instant_field n ++ rest
instant_by bytes n rest false e h is = cc
instant_by bytes n rest true e h is =
    let m = from_be_bytes w64 (take 8 bytes) in
    let each = byte_at (take 8 bytes) (All-take (λ b. b < 256) 8 bytes h) in
    let parts = same_taken m n (drop 8 bytes) rest is in
    sym (take-append-drop 8 bytes)
    ∙ ap (λ l. l ++ drop 8 bytes) (sym (be_bytes_8 (take 8 bytes) m (taken_length 8 bytes (at_least 8 bytes e)) each refl))
    ∙ ap (λ m. to_be_bytes w64 m ++ drop 8 bytes) parts.0
    ∙ ap (λ l. to_be_bytes w64 n ++ l) parts.1

pub instant_only : (bytes : List ℕ) (n : ℕ) (rest : List ℕ) → AreBytes bytes → instant_from bytes ≡ Some (n, rest) → bytes ≡ instant_field n ++ rest
unfolding instant_from
instant_only bytes n rest h is = instant_by bytes n rest (nat_le 8 (length bytes)) refl h is
