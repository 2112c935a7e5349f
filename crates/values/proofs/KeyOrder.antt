-- The order of keys' bytes is the order of keys, whatever follows them.
use Rattle.std.proofs.Common.{◌≡◌, ℕ, ◌+◌, ◌*◌, ◌/◌, ◌%◌, ◌^◌, ◌<◌, ◌≤◌, List, [], ◌∷◌, ◌++◌, ◌==◌, Bool, true, false, Some, None, length, refl, sym, subst, ap, ◌∙◌, arith, if◌then◌else◌, suc, zero, append_assoc, append-nil, All}
use Rattle.std.specs.Prelude.{ℤ, pos, negsuc}
use Rattle.std.specs.Int.{to_be_bytes, w64, byte_at, bytes_high_first}
use Rattle.std.specs.Int.RustNames.{FitsSigned}
use Rattle.std.specs.Int.Signed.{◌<ℤ◌}
use Rattle.std.proofs.lemmas.Int.{ints}
use Rattle.std.proofs.lemmas.Bool.Decides.{nat_tests}
use Rattle.std.specs.Ordering.{nat_cmp, int_cmp, bool_cmp, ordering_then, MatchOrdering}
use Rattle.std.specs.Cmp.{ranks, int_ranks, nat_cmp_is}
use Rattle.std.proofs.lemmas.Cmp.{tied_itself}
use Rattle.std.proofs.Math.Arith.{mod-mul}
use Rattle.std.proofs.Math.Nat.{mul-le-mul_right, mod-lt, pow-succ', div-one, mod-eq_of_lt, mod-one}
use Rattle.std.specs.Cmp.Lexicographic.{slice_cmp, nat_list_cmp_total}
use Rattle.std.specs.declared.cmp.Ordering.{Ordering}
use Rattle.std.specs.declared.cmp.Ordering.TheVariants.{Less, Equal, Greater}
use Rattle.std.specs.List.{flat_map}
use Rattle.std.proofs.lemmas.List.Elements.{All-head, All-tail}
use Rattle.values.specs.declared.value.Value.{Value}
use Rattle.values.specs.declared.value.Value.TheVariants.{Int, Text, Bool as Truth}
use Rattle.values.specs.declared.table.Table.{Table}
use Rattle.values.specs.declared.table.Column.{Column}
use Rattle.values.specs.declared.table.ColumnType.{ColumnType}
use Rattle.values.specs.declared.table.ColumnType.TheVariants.{Int as IsInt, Text as IsText, Varchar as IsVarchar, Boolean as IsBoolean}
use Rattle.values.specs.declared.key.Key.{Key}
use Rattle.values.specs.Order.{value_cmp, key_cmp}
use Rattle.values.specs.Fit.{fits_type, parts_fault, part_fault}
use Rattle.values.specs.KeyEncoding.{ordinal_of, text_bytes, part_bytes, bytes_of_key}
use Rattle.values.specs.KeyEncodingLaw.{IsStorable, AreKeyParts, AreOfOneSchema}
use Rattle.values.proofs.KeyLengths.{FitsColumn, part_fits, first_none, key_fits}
use Rattle.values.proofs.OrderTotal.{key_cmp-IsAntisymmetric}

-- the order of bytes
abbrev pub bytes_cmp : List ℕ → List ℕ → Ordering
bytes_cmp = slice_cmp nat_cmp

pub then_assoc : (o p q : Ordering) → ordering_then (ordering_then o p) q ≡ ordering_then o (ordering_then p q)
then_assoc Less p q = refl
then_assoc Equal p q = refl
then_assoc Greater p q = refl

pub mapped : {P Q R P' Q' R' : Type 0} (o : Ordering) → (P → P') → (Q → Q') → (R → R') → MatchOrdering o P Q R → MatchOrdering o P' Q' R'
mapped Less f g h m = f m
mapped Equal f g h m = g m
mapped Greater f g h m = h m

pub less : (w a b r s : ℕ) → r < w → a < b → a * w + r < b * w + s
less w a b r s p h = let m : suc a * w ≤ b * w = mul-le-mul_right w h in omega (arith, m)

-- numbers of two digits compare by the first, and then by the second
pub digits_cmp : (w a b r s : ℕ) → r < w → s < w → nat_cmp (a * w + r) (b * w + s) ≡ ordering_then (nat_cmp a b) (nat_cmp r s)
digits_cmp w a b r s p q = sym (nat_cmp_is (a * w + r) (b * w + s) _ (by_first (nat_cmp a b) (ranks a b)))
  where
    by_second : (o : Ordering) → a ≡ b → MatchOrdering o (r < s) (r ≡ s) (s < r) → MatchOrdering o (a * w + r < b * w + s) (a * w + r ≡ b * w + s) (b * w + s < a * w + r)
    by_second o e = mapped o (λ h. rw e (omega arith)) (λ h. cc) (λ h. rw e (omega arith))

    by_first : (o : Ordering) → MatchOrdering o (a < b) (a ≡ b) (b < a)
        → MatchOrdering (ordering_then o (nat_cmp r s)) (a * w + r < b * w + s) (a * w + r ≡ b * w + s) (b * w + s < a * w + r)
    by_first Less h = less w a b r s p h
    by_first Equal h = by_second (nat_cmp r s) h (ranks r s)
    by_first Greater h = less w b a s r q h

byte_at-is : (k n : ℕ) → byte_at k n ≡ n / 256 ^ k % 256
byte_at-is zero n = ap (λ m. m % 256) (sym (div-one n))
byte_at-is (suc k) n = refl

pub pow_positive : (k : ℕ) → 0 < 256 ^ k
pow_positive zero = omega arith
pow_positive (suc k) = rw (pow-succ' 256 k) (omega (arith, pow_positive k))

split_off : (k n : ℕ) → n % 256 ^ suc k ≡ byte_at k n * 256 ^ k + n % 256 ^ k
split_off k n =
    ap (λ m. n % m) (pow-succ' 256 k) ∙ mod-mul n {m = 256} {c = 256 ^ k} (omega arith) (pow_positive k) ∙ ap (λ b. b * 256 ^ k + n % 256 ^ k) (sym (byte_at-is k n))

high_first_cmp : (k m n : ℕ) (xs ys : List ℕ)
    → bytes_cmp (bytes_high_first k m ++ xs) (bytes_high_first k n ++ ys) ≡ ordering_then (nat_cmp (m % 256 ^ k) (n % 256 ^ k)) (bytes_cmp xs ys)
high_first_cmp zero m n xs ys = ap (λ o. ordering_then o (bytes_cmp xs ys)) (sym (tied_zero m n))
  where
    tied_zero : (m n : ℕ) → nat_cmp (m % 256 ^ 0) (n % 256 ^ 0) ≡ Equal
    tied_zero m n = rw (mod-one m, mod-one n) refl
high_first_cmp (suc k) m n xs ys =
    ap (ordering_then (nat_cmp (byte_at k m) (byte_at k n))) (high_first_cmp k m n xs ys)
    ∙ sym (then_assoc (nat_cmp (byte_at k m) (byte_at k n)) (nat_cmp (m % 256 ^ k) (n % 256 ^ k)) (bytes_cmp xs ys))
    ∙ ap (λ o. ordering_then o (bytes_cmp xs ys))
    (sym (ap (λ a. nat_cmp a (n % 256 ^ suc k)) (split_off k m) ∙ ap (nat_cmp (byte_at k m * 256 ^ k + m % 256 ^ k)) (split_off k n)
    ∙ digits_cmp (256 ^ k) (byte_at k m) (byte_at k n) (m % 256 ^ k) (n % 256 ^ k) (mod-lt m (pow_positive k)) (mod-lt n (pow_positive k))))

ordinal_below : (x : ℤ) → FitsSigned w64 x → ordinal_of x < 256 ^ 8
ordinal_below (pos n) f = omega (arith, f.sfits)
ordinal_below (negsuc n) f = omega (arith, f.sfits)

ordinal_less : (x y : ℤ) → FitsSigned w64 x → FitsSigned w64 y → x <ℤ y → ordinal_of x < ordinal_of y
ordinal_less (pos a) (pos b) f g h = omega (arith, ints, f.sfits, g.sfits)
ordinal_less (pos a) (negsuc b) f g h = absurd (omega (arith, ints))
ordinal_less (negsuc a) (pos b) f g h = omega (arith, ints, f.sfits, g.sfits)
ordinal_less (negsuc a) (negsuc b) f g h = omega (arith, ints, f.sfits, g.sfits)

ordinal_cmp : (x y : ℤ) → FitsSigned w64 x → FitsSigned w64 y → nat_cmp (ordinal_of x) (ordinal_of y) ≡ int_cmp x y
ordinal_cmp x y f g =
    sym (nat_cmp_is (ordinal_of x) (ordinal_of y) (int_cmp x y)
    (mapped (int_cmp x y) (ordinal_less x y f g) (λ e. ap ordinal_of e) (ordinal_less y x g f) (int_ranks x y)))

int_bytes_cmp : (x y : ℤ) (xs ys : List ℕ) → FitsSigned w64 x → FitsSigned w64 y
    → bytes_cmp (to_be_bytes w64 (ordinal_of x) ++ xs) (to_be_bytes w64 (ordinal_of y) ++ ys) ≡ ordering_then (int_cmp x y) (bytes_cmp xs ys)
int_bytes_cmp x y xs ys f g =
    high_first_cmp 8 (ordinal_of x) (ordinal_of y) xs ys
    ∙ ap (λ o. ordering_then o (bytes_cmp xs ys))
    (ap (λ a. nat_cmp a (ordinal_of y % 256 ^ 8)) (mod-eq_of_lt (ordinal_below x f)) ∙ ap (nat_cmp (ordinal_of x)) (mod-eq_of_lt (ordinal_below y g)) ∙ ordinal_cmp x y f g)

bool_bytes_cmp : (x y : Bool) (xs ys : List ℕ) → bytes_cmp (part_bytes (Truth x) ++ xs) (part_bytes (Truth y) ++ ys) ≡ ordering_then (bool_cmp x y) (bytes_cmp xs ys)
bool_bytes_cmp true true xs ys = refl
bool_bytes_cmp true false xs ys = refl
bool_bytes_cmp false true xs ys = refl
bool_bytes_cmp false false xs ys = refl

equal : (a b : ℕ) → (a == b) ≡ true → a ≡ b
equal a b e = grind (arith, nat_tests)

above_zero : (b : ℕ) → (b == 0) ≡ false → nat_cmp 0 b ≡ Less
above_zero b e = sym (nat_cmp_is 0 b Less (grind (arith, nat_tests)))

below_any : (b : ℕ) → (b == 0) ≡ false → nat_cmp b 0 ≡ Greater
below_any b e = sym (nat_cmp_is b 0 Greater (grind (arith, nat_tests)))

ended_first : (b : ℕ) (z : Bool) (bs xs ys : List ℕ) → (b == 0) ≡ z → bytes_cmp (0 ∷ 0 ∷ xs) ((if z then 0 ∷ 255 ∷ bs else b ∷ bs) ++ ys) ≡ Less
ended_first b true bs xs ys e = refl
ended_first b false bs xs ys e = ap (λ o. ordering_then o (bytes_cmp (0 ∷ xs) (bs ++ ys))) (above_zero b e)

ended_second : (b : ℕ) (z : Bool) (bs xs ys : List ℕ) → (b == 0) ≡ z → bytes_cmp ((if z then 0 ∷ 255 ∷ bs else b ∷ bs) ++ xs) (0 ∷ 0 ∷ ys) ≡ Greater
ended_second b true bs xs ys e = refl
ended_second b false bs xs ys e = ap (λ o. ordering_then o (bytes_cmp (bs ++ xs) (0 ∷ ys))) (below_any b e)

both_more : (a b : ℕ) (y z : Bool) (ss ts xs ys : List ℕ) (o : Ordering) → (a == 0) ≡ y → (b == 0) ≡ z → bytes_cmp (ss ++ xs) (ts ++ ys) ≡ o
    → bytes_cmp ((if y then 0 ∷ 255 ∷ ss else a ∷ ss) ++ xs) ((if z then 0 ∷ 255 ∷ ts else b ∷ ts) ++ ys) ≡ ordering_then (nat_cmp a b) o
both_more a b true true ss ts xs ys o d e h = h ∙ ap (λ p. ordering_then p o) (sym (tied a b (equal a 0 d) (equal b 0 e)))
  where
    tied : (a b : ℕ) → a ≡ 0 → b ≡ 0 → nat_cmp a b ≡ Equal
    tied a b d e = rw (d, e) refl
both_more a b true false ss ts xs ys o d e h =
    ap (λ p. ordering_then p (bytes_cmp (255 ∷ (ss ++ xs)) (ts ++ ys))) (above_zero b e)
    ∙ ap (λ p. ordering_then p o) (sym (ap (λ n. nat_cmp n b) (equal a 0 d) ∙ above_zero b e))
both_more a b false true ss ts xs ys o d e h =
    ap (λ p. ordering_then p (bytes_cmp (ss ++ xs) (255 ∷ (ts ++ ys)))) (below_any a d)
    ∙ ap (λ p. ordering_then p o) (sym (ap (nat_cmp a) (equal b 0 e) ∙ below_any a d))
both_more a b false false ss ts xs ys o d e h = ap (ordering_then (nat_cmp a b)) h

text_bytes_cmp : (s t xs ys : List ℕ) → bytes_cmp (text_bytes s ++ xs) (text_bytes t ++ ys) ≡ ordering_then (bytes_cmp s t) (bytes_cmp xs ys)
text_bytes_cmp [] [] xs ys = refl
text_bytes_cmp [] (b ∷ t) xs ys = ended_first b (b == 0) (text_bytes t) xs ys refl
text_bytes_cmp (a ∷ s) [] xs ys = ended_second a (a == 0) (text_bytes s) xs ys refl
text_bytes_cmp (a ∷ s) (b ∷ t) xs ys =
    both_more a b (a == 0) (b == 0) (text_bytes s) (text_bytes t) xs ys _ refl refl (text_bytes_cmp s t xs ys)
    ∙ sym (then_assoc (nat_cmp a b) (bytes_cmp s t) (bytes_cmp xs ys))

-- two values of one type compare by their bytes, whatever follows
typed_cmp : (of : ColumnType) (v w : Value) (xs ys : List ℕ) → fits_type 200 of v ≡ true → fits_type 200 of w ≡ true → IsStorable v → IsStorable w
    → bytes_cmp (part_bytes v ++ xs) (part_bytes w ++ ys) ≡ ordering_then (value_cmp v w) (bytes_cmp xs ys)
typed_cmp of (Int x) (Int y) xs ys d e f g = int_bytes_cmp x y xs ys f g
typed_cmp of (Text s) (Text t) xs ys d e f g = text_bytes_cmp s t xs ys
typed_cmp of (Truth x) (Truth y) xs ys d e f g = bool_bytes_cmp x y xs ys
typed_cmp IsInt _ _ xs ys d e f g = cc
typed_cmp IsText _ _ xs ys d e f g = cc
typed_cmp (IsVarchar n) _ _ xs ys d e f g = cc
typed_cmp IsBoolean _ _ xs ys d e f g = cc

same_column : (table : Table) (n : ℕ) (v w : Value) (a : FitsColumn table n v) (b : FitsColumn table n w) → a.column ≡ b.column
same_column table n v w a b = let e : Some a.column ≡ Some b.column = sym a.found ∙ b.found in cc

parts_cmp : (table : Table) (ns : List ℕ) (vs ws : List Value) (xs ys : List ℕ) → length ns ≡ length vs → length ns ≡ length ws
    → parts_fault table ns vs ≡ None → parts_fault table ns ws ≡ None → All IsStorable vs → All IsStorable ws
    → bytes_cmp (flat_map part_bytes vs ++ xs) (flat_map part_bytes ws ++ ys) ≡ ordering_then (slice_cmp value_cmp vs ws) (bytes_cmp xs ys)
parts_cmp table [] [] [] xs ys d e p q f g = refl
parts_cmp table (n ∷ ns) (v ∷ vs) (w ∷ ws) xs ys d e p q f g =
    let both = first_none (part_fault table n v) (parts_fault table ns vs) p in
    let too = first_none (part_fault table n w) (parts_fault table ns ws) q in
    let one = part_fits table n v both.0 in
    let other = part_fits table n w too.0 in
    ap (λ l. bytes_cmp l ((part_bytes w ++ flat_map part_bytes ws) ++ ys)) (append_assoc (part_bytes v) (flat_map part_bytes vs) xs)
    ∙ ap (bytes_cmp (part_bytes v ++ (flat_map part_bytes vs ++ xs))) (append_assoc (part_bytes w) (flat_map part_bytes ws) ys)
    ∙ typed_cmp one.column.of v w (flat_map part_bytes vs ++ xs) (flat_map part_bytes ws ++ ys) one.typed
    (subst (λ (c : Column). fits_type 200 c.of w ≡ true) (sym (same_column table n v w one other)) other.typed) (All-head IsStorable v vs f) (All-head IsStorable w ws g)
    ∙ ap (ordering_then (value_cmp v w))
    (parts_cmp table ns vs ws xs ys (omega arith) (omega arith) both.1 too.1 (All-tail IsStorable v vs f) (All-tail IsStorable w ws g))
    ∙ sym (then_assoc (value_cmp v w) (slice_cmp value_cmp vs ws) (bytes_cmp xs ys))
parts_cmp table [] (v ∷ vs) ws xs ys d e p q f g = absurd (omega arith)
parts_cmp table [] [] (w ∷ ws) xs ys d e p q f g = absurd (omega arith)
parts_cmp table (n ∷ ns) [] ws xs ys d e p q f g = absurd (omega arith)
parts_cmp table (n ∷ ns) (v ∷ vs) [] xs ys d e p q f g = absurd (omega arith)

-- the bytes of two keys, whatever follows them
pub keys_cmp : (table : Table) (k l : Key) (xs ys : List ℕ) → AreOfOneSchema table k l
    → bytes_cmp (bytes_of_key k ++ xs) (bytes_of_key l ++ ys) ≡ ordering_then (key_cmp k l) (bytes_cmp xs ys)
keys_cmp table k l xs ys h = by_table (nat_cmp k.table l.table) (ranks k.table l.table) ∙ sym (then_assoc (nat_cmp k.table l.table) (slice_cmp value_cmp k.parts l.parts) (bytes_cmp xs ys))
  where
    of_one : AreKeyParts table k.parts × AreKeyParts table l.parts
        → bytes_cmp (flat_map part_bytes k.parts ++ xs) (flat_map part_bytes l.parts ++ ys) ≡ ordering_then (slice_cmp value_cmp k.parts l.parts) (bytes_cmp xs ys)
    of_one (a, b) =
        let f = key_fits table k.parts a.fit in
        let g = key_fits table l.parts b.fit in
        parts_cmp table table.key k.parts l.parts xs ys f.same_width g.same_width f.no_fault g.no_fault a.storable b.storable

    by_table : (o : Ordering) → MatchOrdering o (k.table < l.table) (k.table ≡ l.table) (l.table < k.table)
        → ordering_then o (bytes_cmp (flat_map part_bytes k.parts ++ xs) (flat_map part_bytes l.parts ++ ys)) ≡ ordering_then o (ordering_then (slice_cmp value_cmp k.parts l.parts) (bytes_cmp xs ys))
    by_table Less m = refl
    by_table Equal m = of_one (h m)
    by_table Greater m = refl

then_none : (o : Ordering) → ordering_then o Equal ≡ o
then_none Less = refl
then_none Equal = refl
then_none Greater = refl

pub byte_order_is_key_order : (table : Table) (k l : Key) → AreOfOneSchema table k l → bytes_cmp (bytes_of_key k) (bytes_of_key l) ≡ key_cmp k l
byte_order_is_key_order table k l h =
    ap (λ b. bytes_cmp b (bytes_of_key l)) (sym (append-nil (bytes_of_key k))) ∙ ap (bytes_cmp (bytes_of_key k ++ [])) (sym (append-nil (bytes_of_key l)))
    ∙ keys_cmp table k l [] [] h ∙ then_none (key_cmp k l)

tied_first : (o p : Ordering) → ordering_then o p ≡ Equal → o ≡ Equal
tied_first Less p e = e
tied_first Equal p e = refl
tied_first Greater p e = e

pub no_key_begins_another : (table : Table) (k l : Key) (more : List ℕ) → AreOfOneSchema table k l → bytes_of_key k ++ more ≡ bytes_of_key l → k ≡ l
no_key_begins_another table k l more h e =
    key_cmp-IsAntisymmetric k l
    (tied_first (key_cmp k l) (bytes_cmp more [])
    (sym (keys_cmp table k l more [] h) ∙ ap (bytes_cmp (bytes_of_key k ++ more)) (append-nil (bytes_of_key l) ∙ sym e) ∙ tied_itself nat_list_cmp_total (bytes_of_key k ++ more)))

pub bytes_tell_keys_apart : (table : Table) (k l : Key) → AreOfOneSchema table k l → bytes_of_key k ≡ bytes_of_key l → k ≡ l
bytes_tell_keys_apart table k l h e = no_key_begins_another table k l [] h (append-nil (bytes_of_key k) ∙ e)
