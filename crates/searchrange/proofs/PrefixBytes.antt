-- Bytes that begin with others, and the least above all that do.
use Rattle.std.proofs.Common.{◌≡◌, ℕ, ◌+◌, ◌-◌, ◌<◌, ◌≤◌, length, take, get_or, List, [], ◌∷◌, ◌++◌, ◌==◌, Bool, true, false, Option, Some, None, refl, sym, ap, ◌∙◌, arith, if◌then◌else◌, All, IfSome}
use Rattle.std.proofs.lemmas.Bool.Decides.{nat_tests}
use Rattle.std.specs.Ordering.{nat_cmp, ordering_then, is_lt, MatchOrdering}
use Rattle.std.specs.Cmp.{ranks, nat_cmp_is, nat_cmp_total}
use Rattle.std.specs.Cmp.Lexicographic.{slice_cmp, nat_list_cmp_total}
use Rattle.std.specs.declared.cmp.Ordering.{Ordering}
use Rattle.std.specs.declared.cmp.Ordering.TheVariants.{Less, Equal, Greater}
use Rattle.std.proofs.lemmas.Cmp.{tied_itself}
use Rattle.std.proofs.lemmas.List.{drop_more, drop_all, take-append-drop}
use Rattle.std.proofs.lemmas.List.Elements.{All-head, All-tail}
use Rattle.keyrange.specs.Range.{is_below}
use Rattle.searchrange.specs.SearchRange.{next_prefix}

abbrev pub bytes_cmp : List ℕ → List ℕ → Ordering
bytes_cmp = slice_cmp nat_cmp

abbrev pub AreBytes : List ℕ → Type 0
AreBytes = All (λ b. b < 256)

-- one byte more before what is above a list
abbrev with_byte : ℕ → Option (List ℕ) → Option (List ℕ)
with_byte b o = elim o [ Some more ↦ Some (b ∷ more) | None ↦ if b == 255 then None else Some ((b + 1) ∷ []) ]

pub without_255 : (bs : List ℕ) → next_prefix (bs ++ 255 ∷ []) ≡ next_prefix bs
without_255 [] = refl
without_255 (c ∷ bs) = ap (with_byte c) (without_255 bs)

pub one_higher : (bs : List ℕ) (b : ℕ) → (b == 255) ≡ false → next_prefix (bs ++ b ∷ []) ≡ Some (bs ++ (b + 1) ∷ [])
one_higher [] b e = ap (λ t. if t then None else Some ((b + 1) ∷ [])) e
one_higher (c ∷ bs) b e = ap (with_byte c) (one_higher bs b e)

tied : (n : ℕ) → nat_cmp n n ≡ Equal
tied n = tied_itself nat_cmp_total n

-- what stands behind equal bytes decides
pub behind : (p xs ys : List ℕ) → bytes_cmp (p ++ xs) (p ++ ys) ≡ bytes_cmp xs ys
behind [] xs ys = refl
behind (b ∷ p) xs ys = ap (λ o. ordering_then o (bytes_cmp (p ++ xs) (p ++ ys))) (tied b) ∙ behind p xs ys

below_next : (b : ℕ) → nat_cmp b (b + 1) ≡ Less
below_next b = sym (nat_cmp_is b (b + 1) Less (omega arith))

-- what begins with bytes is below the least above all that do
pub begins_below : (e rest : List ℕ) → IfSome (next_prefix e) (λ n. is_below (e ++ rest) n ≡ true)
begins_below [] rest = tt
begins_below (c ∷ cs) rest = by (next_prefix cs) (begins_below cs rest)
  where
    by_byte : (t : Bool) → IfSome (if t then None else Some ((c + 1) ∷ [])) (λ n. is_below (c ∷ (cs ++ rest)) n ≡ true)
    by_byte true = tt
    by_byte false = ap (λ o. is_lt (ordering_then o (bytes_cmp (cs ++ rest) []))) (below_next c)

    by : (o : Option (List ℕ)) → IfSome o (λ m. is_below (cs ++ rest) m ≡ true) → IfSome (with_byte c o) (λ n. is_below (c ∷ (cs ++ rest)) n ≡ true)
    by (Some m) h = ap (λ o. is_lt (ordering_then o (bytes_cmp (cs ++ rest) m))) (tied c) ∙ h
    by None h = by_byte (c == 255)

equal : (a b : ℕ) → (a == b) ≡ true → a ≡ b
equal a b e = grind (arith, nat_tests)

-- bytes are above all that begin with others
abbrev pub AreAbove : List ℕ → List ℕ → Type 0
AreAbove b e = (ys : List ℕ) → bytes_cmp b (e ++ ys) ≡ Greater

-- none are above all that begin with bytes of 255
pub none_above : (cs xs : List ℕ) → next_prefix cs ≡ None → AreBytes xs → AreAbove xs cs → ⊥
none_above [] xs e h g = let one : bytes_cmp xs xs ≡ Equal = tied_itself nat_list_cmp_total xs in let other : bytes_cmp xs xs ≡ Greater = g xs in cc
none_above (c ∷ cs) [] e h g = let first = g [] in cc
none_above (c ∷ cs) (x ∷ xs) e h g = by_rest (next_prefix cs) refl e (λ at. none_above cs xs at (All-tail (λ b. b < 256) x xs h))
  where
    by_first : c ≡ 255 → (AreAbove xs cs → ⊥) → (o : Ordering) → MatchOrdering o (x < c) (x ≡ c) (c < x) → ((ys : List ℕ) → ordering_then o (bytes_cmp xs (cs ++ ys)) ≡ Greater) → ⊥
    by_first top rest Less m f = let first = f [] in cc
    by_first top rest Equal m f = rest f
    by_first top rest Greater m f = omega (arith, m, top, All-head (λ b. b < 256) x xs h)

    by_byte : (t : Bool) → (c == 255) ≡ t → ◌≡◌ {A = Option (List ℕ)} (if t then None else Some ((c + 1) ∷ [])) None → (AreAbove xs cs → ⊥) → ⊥
    by_byte true at n rest = by_first (equal c 255 at) rest (nat_cmp x c) (ranks x c) g
    by_byte false at n rest = cc

    by_rest : (o : Option (List ℕ)) → next_prefix cs ≡ o → with_byte c o ≡ None → (next_prefix cs ≡ None → AreAbove xs cs → ⊥) → ⊥
    by_rest (Some m) at n rest = cc
    by_rest None at n rest = by_byte (c == 255) refl n (rest at)

pub not_below_none : (xs : List ℕ) → is_below xs [] ≡ false
not_below_none [] = refl
not_below_none (x ∷ xs) = refl

-- what is above all that begin with bytes is not below the least that is
pub past : (e b : List ℕ) → AreBytes b → AreAbove b e → IfSome (next_prefix e) (λ n. is_below b n ≡ false)
past [] b h g = tt
past (c ∷ cs) [] h g = absurd (let first : ◌≡◌ {A = Ordering} Less Greater = g [] in cc)
past (c ∷ cs) (x ∷ xs) h g = by (nat_cmp x c) refl (ranks x c) g (λ f. past cs xs (All-tail (λ b. b < 256) x xs h) f)
  where
    Goal : Option (List ℕ) → Type 0
    Goal o = IfSome (with_byte c o) (λ n. is_below (x ∷ xs) n ≡ false)

    tied_first : nat_cmp x c ≡ Equal → AreAbove xs cs → (o : Option (List ℕ)) → next_prefix cs ≡ o → IfSome o (λ m. is_below xs m ≡ false) → Goal o
    tied_first e f (Some m) at k = ap (λ o. is_lt (ordering_then o (bytes_cmp xs m))) e ∙ k
    tied_first e f None at k = absurd (none_above cs xs at (All-tail (λ b. b < 256) x xs h) f)

    not_less : (o : Ordering) → MatchOrdering o (x < c + 1) (x ≡ c + 1) (c + 1 < x) → c < x → is_lt (ordering_then o (bytes_cmp xs [])) ≡ false
    not_less Less m k = absurd (omega (arith, m, k))
    not_less Equal m k = not_below_none xs
    not_less Greater m k = refl

    by_byte : (t : Bool) → c < x → IfSome (if t then None else Some ((c + 1) ∷ [])) (λ n. is_below (x ∷ xs) n ≡ false)
    by_byte true k = tt
    by_byte false k = not_less (nat_cmp x (c + 1)) (ranks x (c + 1)) k

    higher : nat_cmp x c ≡ Greater → c < x → (o : Option (List ℕ)) → Goal o
    higher e k (Some m) = ap (λ o. is_lt (ordering_then o (bytes_cmp xs m))) e
    higher e k None = by_byte (c == 255) k

    by : (o : Ordering) → nat_cmp x c ≡ o → MatchOrdering o (x < c) (x ≡ c) (c < x) → ((ys : List ℕ) → ordering_then o (bytes_cmp xs (cs ++ ys)) ≡ Greater)
        → (AreAbove xs cs → IfSome (next_prefix cs) (λ m. is_below xs m ≡ false)) → Goal (next_prefix cs)
    by Less e m f k = absurd (let first : ◌≡◌ {A = Ordering} Less Greater = f [] in cc)
    by Equal e m f k = tied_first e f (next_prefix cs) refl (k f)
    by Greater e m f k = higher e m (next_prefix cs)

-- ---- a list by its last byte

last_apart : (fs : List ℕ) (b : ℕ) → 1 ≤ length fs → get_or fs (length fs - 1) 0 ≡ b → take (length fs - 1) fs ++ b ∷ [] ≡ fs
last_apart fs b l e =
    ap (λ x. take (length fs - 1) fs ++ x ∷ []) (sym e)
    ∙ ap (λ xs. take (length fs - 1) fs ++ get_or fs (length fs - 1) 0 ∷ xs) (sym (drop_all (length fs - 1 + 1) fs (omega (arith, l))))
    ∙ ap (λ xs. take (length fs - 1) fs ++ xs) (sym (drop_more fs (length fs - 1) 0 (omega (arith, l)))) ∙ take-append-drop (length fs - 1) fs

pub shorter : (fs : List ℕ) → 1 ≤ length fs → get_or fs (length fs - 1) 0 ≡ 255 → next_prefix (take (length fs - 1) fs) ≡ next_prefix fs
shorter fs l e = sym (without_255 (take (length fs - 1) fs)) ∙ ap next_prefix (last_apart fs 255 l e)

not_equal : (a b : ℕ) → (a ≡ b → ⊥) → (a == b) ≡ false
not_equal a b n = grind (arith, nat_tests, n)

pub found : (fs os ns : List ℕ) → 1 ≤ length fs → (get_or fs (length fs - 1) 0 ≡ 255 → ⊥) → os ≡ take (length fs - 1) fs → ns ≡ os ++ (get_or fs (length fs - 1) 0 + 1) ∷ []
    → Some ns ≡ next_prefix fs
found fs os ns l n e f =
    let b = get_or fs (length fs - 1) 0 in
    ap Some (f ∙ ap (λ xs. xs ++ (b + 1) ∷ []) e) ∙ sym (one_higher (take (length fs - 1) fs) b (not_equal b 255 n)) ∙ ap next_prefix (last_apart fs b l refl)
