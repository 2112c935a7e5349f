-- Keys whose prefixes differ are in the order of these; those with one prefix are in the order of the bytes behind it, or of their lengths where one has none.
use Rattle.std.proofs.Common.{◌≡◌, ◌≢◌, ℕ, ◌+◌, ◌*◌, ◌^◌, ◌<◌, ◌≤◌, List, [], ◌∷◌, length, get_or, take, drop, min, refl, sym, ap, ap₂, ◌∙◌, arith, suc, zero, get_or-drop, zero-add, suc-add, pow-add}
use Rattle.std.specs.Int.{from_be_bytes, w64}
use Rattle.std.specs.Ordering.{nat_cmp, ordering_then}
use Rattle.std.specs.Cmp.{ranks, nat_cmp_is}
use Rattle.std.specs.FinMap.{nat_cmp-IsAntisymmetric}
use Rattle.std.specs.declared.cmp.Ordering.{Ordering}
use Rattle.std.specs.declared.cmp.Ordering.TheVariants.{Less, Equal, Greater}
use Rattle.std.proofs.Math.Nat.{pow-succ'}
use Rattle.values.specs.declared.key_prefix.KeyPrefix.{KeyPrefix}
use Rattle.values.specs.KeyPrefix.{IsPrefixOf, prefix_of}
use Rattle.values.proofs.KeyOrder.{bytes_cmp, then_assoc, mapped, less, digits_cmp, pow_positive}

-- each is below 256
abbrev pub AreBytes : List ℕ → Type 0
AreBytes xs = (i : ℕ) → get_or xs i 0 < 256

-- the first k bytes as one number, with 0 for each that is missing
number : ℕ → List ℕ → ℕ
number zero xs = 0
number (suc k) [] = 0
number (suc k) (b ∷ bs) = b * 256 ^ k + number k bs

number_below : (k : ℕ) (xs : List ℕ) → AreBytes xs → number k xs < 256 ^ k
unfolding number
number_below zero xs h = pow_positive 0
number_below (suc k) [] h = pow_positive (suc k)
number_below (suc k) (b ∷ bs) h =
    let rest : number k bs < 256 ^ k = number_below k bs (λ i. h (suc i)) in
    let below : b * 256 ^ k + number k bs < 256 * 256 ^ k + 0 = less (256 ^ k) b 256 (number k bs) 0 rest (h 0) in
    rw (pow-succ' 256 k) (omega (arith, below))

is_less : (m n : ℕ) → m < n → nat_cmp m n ≡ Less
is_less m n h = sym (nat_cmp_is m n Less h)

is_greater : (m n : ℕ) → n < m → nat_cmp m n ≡ Greater
is_greater m n h = sym (nat_cmp_is m n Greater h)

no_more : (n : ℕ) → ordering_then (nat_cmp 0 n) Less ≡ Less
no_more zero = refl
no_more (suc n) = ap (λ o. ordering_then o Less) (is_less 0 (suc n) (omega arith))

no_less : (n : ℕ) → ordering_then (nat_cmp n 0) Greater ≡ Greater
no_less zero = refl
no_less (suc n) = ap (λ o. ordering_then o Greater) (is_greater (suc n) 0 (omega arith))

next_cmp : (m n : ℕ) → nat_cmp (suc m) (suc n) ≡ nat_cmp m n
next_cmp m n = sym (nat_cmp_is (suc m) (suc n) (nat_cmp m n) (mapped (nat_cmp m n) (λ h. omega arith) (λ e. ap suc e) (λ h. omega arith) (ranks m n)))

first_twice : (p q o : Ordering) → ordering_then q o ≡ o → ordering_then (ordering_then p q) (ordering_then p o) ≡ ordering_then p o
first_twice Less q o e = refl
first_twice Equal q o e = e
first_twice Greater q o e = refl

bytes_after_numbers : (k : ℕ) (xs ys : List ℕ) → AreBytes xs → AreBytes ys
    → ordering_then (nat_cmp (number k xs) (number k ys)) (bytes_cmp xs ys) ≡ bytes_cmp xs ys
unfolding number
bytes_after_numbers zero xs ys f g = refl
bytes_after_numbers (suc k) [] [] f g = refl
bytes_after_numbers (suc k) [] (y ∷ ys) f g = no_more (y * 256 ^ k + number k ys)
bytes_after_numbers (suc k) (x ∷ xs) [] f g = no_less (x * 256 ^ k + number k xs)
bytes_after_numbers (suc k) (x ∷ xs) (y ∷ ys) f g =
    ap (λ o. ordering_then o (bytes_cmp (x ∷ xs) (y ∷ ys)))
    (digits_cmp (256 ^ k) x y (number k xs) (number k ys) (number_below k xs (λ i. f (suc i))) (number_below k ys (λ i. g (suc i))))
    ∙ first_twice (nat_cmp x y) (nat_cmp (number k xs) (number k ys)) (bytes_cmp xs ys) (bytes_after_numbers k xs ys (λ i. f (suc i)) (λ i. g (suc i)))

lengths_after_numbers : (k : ℕ) (xs ys : List ℕ) → AreBytes xs → AreBytes ys → min (length xs) (length ys) ≤ k
    → ordering_then (nat_cmp (number k xs) (number k ys)) (nat_cmp (length xs) (length ys)) ≡ bytes_cmp xs ys
unfolding number
lengths_after_numbers zero [] [] f g h = refl
lengths_after_numbers zero [] (y ∷ ys) f g h = is_less 0 (suc (length ys)) (omega arith)
lengths_after_numbers zero (x ∷ xs) [] f g h = is_greater (suc (length xs)) 0 (omega arith)
lengths_after_numbers zero (x ∷ xs) (y ∷ ys) f g h = absurd (omega arith)
lengths_after_numbers (suc k) [] [] f g h = refl
lengths_after_numbers (suc k) [] (y ∷ ys) f g h =
    ap (ordering_then (nat_cmp 0 (y * 256 ^ k + number k ys))) (is_less 0 (suc (length ys)) (omega arith)) ∙ no_more (y * 256 ^ k + number k ys)
lengths_after_numbers (suc k) (x ∷ xs) [] f g h =
    ap (ordering_then (nat_cmp (x * 256 ^ k + number k xs) 0)) (is_greater (suc (length xs)) 0 (omega arith)) ∙ no_less (x * 256 ^ k + number k xs)
lengths_after_numbers (suc k) (x ∷ xs) (y ∷ ys) f g h =
    ap (ordering_then (nat_cmp (x * 256 ^ k + number k xs) (y * 256 ^ k + number k ys))) (next_cmp (length xs) (length ys))
    ∙ ap (λ o. ordering_then o (nat_cmp (length xs) (length ys)))
    (digits_cmp (256 ^ k) x y (number k xs) (number k ys) (number_below k xs (λ i. f (suc i))) (number_below k ys (λ i. g (suc i))))
    ∙ then_assoc (nat_cmp x y) (nat_cmp (number k xs) (number k ys)) (nat_cmp (length xs) (length ys))
    ∙ ap (ordering_then (nat_cmp x y)) (lengths_after_numbers k xs ys (λ i. f (suc i)) (λ i. g (suc i)) (omega arith))

rests_after_numbers : (k : ℕ) (xs ys : List ℕ) → AreBytes xs → AreBytes ys → k ≤ length xs → k ≤ length ys
    → ordering_then (nat_cmp (number k xs) (number k ys)) (bytes_cmp (drop k xs) (drop k ys)) ≡ bytes_cmp xs ys
unfolding number
rests_after_numbers zero xs ys f g h i = refl
rests_after_numbers (suc k) [] ys f g h i = absurd (omega arith)
rests_after_numbers (suc k) (x ∷ xs) [] f g h i = absurd (omega arith)
rests_after_numbers (suc k) (x ∷ xs) (y ∷ ys) f g h i =
    ap (λ o. ordering_then o (bytes_cmp (drop k xs) (drop k ys)))
    (digits_cmp (256 ^ k) x y (number k xs) (number k ys) (number_below k xs (λ i. f (suc i))) (number_below k ys (λ i. g (suc i))))
    ∙ then_assoc (nat_cmp x y) (nat_cmp (number k xs) (number k ys)) (bytes_cmp (drop k xs) (drop k ys))
    ∙ ap (ordering_then (nat_cmp x y)) (rests_after_numbers k xs ys (λ i. f (suc i)) (λ i. g (suc i)) (omega arith) (omega arith))

number_of_none : (k : ℕ) → number k [] ≡ 0
unfolding number
number_of_none zero = refl
number_of_none (suc k) = refl

-- the number of more bytes is one of two digits
number-+ : (j k : ℕ) (xs : List ℕ) → number (j + k) xs ≡ number j xs * 256 ^ k + number k (drop j xs)
unfolding number
number-+ zero k xs = ap (λ n. number n xs) (zero-add k) ∙ omega arith
number-+ (suc j) k [] = omega (arith, number_of_none (suc j + k), number_of_none k)
number-+ (suc j) k (b ∷ bs) =
    let rest : number (j + k) bs ≡ number j bs * 256 ^ k + number k (drop j bs) = number-+ j k bs in
    ap (λ n. number n (b ∷ bs)) (suc-add j k) ∙ ap (λ w. b * w + number (j + k) bs) (pow-add 256 j k) ∙ omega (arith, rest)

-- what std reads of eight bytes
from_be_bytes_is : (xs : List ℕ) → from_be_bytes w64 xs ≡ number 8 xs
unfolding number
from_be_bytes_is [] = refl
from_be_bytes_is (a ∷ []) = omega arith
from_be_bytes_is (a ∷ b ∷ []) = omega arith
from_be_bytes_is (a ∷ b ∷ c ∷ []) = omega arith
from_be_bytes_is (a ∷ b ∷ c ∷ d ∷ []) = omega arith
from_be_bytes_is (a ∷ b ∷ c ∷ d ∷ e ∷ []) = omega arith
from_be_bytes_is (a ∷ b ∷ c ∷ d ∷ e ∷ f ∷ []) = omega arith
from_be_bytes_is (a ∷ b ∷ c ∷ d ∷ e ∷ f ∷ g ∷ []) = omega arith
from_be_bytes_is (a ∷ b ∷ c ∷ d ∷ e ∷ f ∷ g ∷ h ∷ xs) = omega arith

number_of_start : (k : ℕ) (xs : List ℕ) → number k (take k xs) ≡ number k xs
unfolding number
number_of_start zero xs = refl
number_of_start (suc k) [] = refl
number_of_start (suc k) (b ∷ bs) = ap (λ n. b * 256 ^ k + n) (number_of_start k bs)

-- and it reads no others
pub from_be_bytes-take : (xs : List ℕ) → from_be_bytes w64 (take 8 xs) ≡ from_be_bytes w64 xs
from_be_bytes-take xs = from_be_bytes_is (take 8 xs) ∙ number_of_start 8 xs ∙ sym (from_be_bytes_is xs)

all_below : (xs : List ℕ) (n : ℕ) → AreBytes xs → AreBytes (drop n xs)
all_below xs n h i = rw (get_or-drop n xs i 0) (h (n + i))

-- a prefix is a number of two digits
prefix_is : (p : KeyPrefix) (xs : List ℕ) → IsPrefixOf p xs → number 16 xs ≡ p.first * 256 ^ 8 + p.second
unfolding prefix_of
prefix_is p xs h =
    number-+ 8 8 xs ∙ sym (rw h.is (ap₂ (λ m n. m * 256 ^ 8 + n) (from_be_bytes_is xs) (from_be_bytes_is (drop 8 xs))))

second_below : (p : KeyPrefix) (xs : List ℕ) → IsPrefixOf p xs → p.second < 256 ^ 8
unfolding prefix_of
second_below p xs h = rw (h.is, from_be_bytes_is (drop 8 xs)) (number_below 8 (drop 8 xs) (all_below xs 8 h.are_bytes))

-- the order of prefixes: by the first number, and then by the second
abbrev prefix_cmp : KeyPrefix → KeyPrefix → Ordering
prefix_cmp p q = ordering_then (nat_cmp p.first q.first) (nat_cmp p.second q.second)

prefixes_cmp : (p q : KeyPrefix) (xs ys : List ℕ) → IsPrefixOf p xs → IsPrefixOf q ys → nat_cmp (number 16 xs) (number 16 ys) ≡ prefix_cmp p q
prefixes_cmp p q xs ys f g =
    ap₂ nat_cmp (prefix_is p xs f) (prefix_is q ys g) ∙ digits_cmp (256 ^ 8) p.first q.first p.second q.second (second_below p xs f) (second_below q ys g)

decided : (o p : Ordering) → o ≢ Equal → ordering_then o p ≡ o
decided Less p n = refl
decided Equal p n = absurd (n refl)
decided Greater p n = refl

-- unequal prefixes are in the order of the bytes
pub unequal_prefixes : (p q : KeyPrefix) (xs ys : List ℕ) (o : Ordering) → IsPrefixOf p xs → IsPrefixOf q ys → o ≡ prefix_cmp p q → o ≢ Equal → o ≡ bytes_cmp xs ys
unequal_prefixes p q xs ys o f g e n =
    sym (decided o (bytes_cmp xs ys) n) ∙ ap (λ r. ordering_then r (bytes_cmp xs ys)) (e ∙ sym (prefixes_cmp p q xs ys f g))
    ∙ bytes_after_numbers 16 xs ys f.are_bytes g.are_bytes

same_parts : (p q : KeyPrefix) (o : Ordering) → o ≡ nat_cmp p.first q.first → ordering_then o (nat_cmp p.second q.second) ≡ Equal → p ≡ q
same_parts p q Equal d e =
    let first : p.first ≡ q.first = nat_cmp-IsAntisymmetric p.first q.first (sym d) in
    let second : p.second ≡ q.second = nat_cmp-IsAntisymmetric p.second q.second e in
    ap₂ (λ m n. record { first = m; second = n }) first second
same_parts p q Less d e = cc
same_parts p q Greater d e = cc

-- equal prefixes are one
pub equal_prefixes : (p q : KeyPrefix) → prefix_cmp p q ≡ Equal → p ≡ q
equal_prefixes p q e = same_parts p q (nat_cmp p.first q.first) refl e

same_number : (p : KeyPrefix) (xs ys : List ℕ) → IsPrefixOf p xs → IsPrefixOf p ys → nat_cmp (number 16 xs) (number 16 ys) ≡ Equal
same_number p xs ys f g = sym (nat_cmp_is (number 16 xs) (number 16 ys) Equal (prefix_is p xs f ∙ sym (prefix_is p ys g)))

-- of two lists with one prefix, the longer begins with the shorter, unless both have more bytes
pub lengths_decide : (p : KeyPrefix) (xs ys : List ℕ) → IsPrefixOf p xs → IsPrefixOf p ys → min (length xs) (length ys) ≤ 16 → nat_cmp (length xs) (length ys) ≡ bytes_cmp xs ys
lengths_decide p xs ys f g h =
    ap (λ o. ordering_then o (nat_cmp (length xs) (length ys))) (sym (same_number p xs ys f g)) ∙ lengths_after_numbers 16 xs ys f.are_bytes g.are_bytes h

-- and then these decide
pub rests_decide : (p : KeyPrefix) (xs ys : List ℕ) → IsPrefixOf p xs → IsPrefixOf p ys → 16 ≤ length xs → 16 ≤ length ys → bytes_cmp (drop 16 xs) (drop 16 ys) ≡ bytes_cmp xs ys
rests_decide p xs ys f g h i =
    ap (λ o. ordering_then o (bytes_cmp (drop 16 xs) (drop 16 ys))) (sym (same_number p xs ys f g)) ∙ rests_after_numbers 16 xs ys f.are_bytes g.are_bytes h i
