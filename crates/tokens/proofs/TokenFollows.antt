-- A spelling is one still where other bytes follow it that end it as well.
use Rattle.std.proofs.Common.{◌≡◌, ◌⊎◌, ◌-◌, ℕ, Bool, true, false, List, [], ◌∷◌, ◌++◌, ◌&&◌, inl, inr, length, take, refl, ap, sym, ◌∙◌, arith}
use Rattle.std.proofs.lemmas.Bool.{and_parts}
use Rattle.std.proofs.lemmas.List.{length-append, take_at}
use Rattle.values.specs.Names.{same_name}
use Rattle.tokens.specs.Run.{AllBytes, Ends}
use Rattle.tokens.specs.Word.{is_name_byte}

-- the bytes from a front on, and those after it
abbrev pub Spelling : Type 1
Spelling = List ℕ → List ℕ → Type 0

-- a space or a line feed, which goes on with no token
abbrev pub IsGap : ℕ → Type 0
IsGap c = (c ≡ 32) ⊎ (c ≡ 10)

-- no bytes, a gap first, or the same byte first
abbrev pub Follows : List ℕ → List ℕ → Type 0
Follows rest [] = Unit {0}
Follows [] (c ∷ other) = IsGap c
Follows (b ∷ rest) (c ∷ other) = IsGap c ⊎ (c ≡ b)

-- no bytes, or a gap first
abbrev pub IsClean : List ℕ → Type 0
IsClean tail = Follows [] tail

pub clean_follows : (rest tail : List ℕ) → IsClean tail → Follows rest tail
clean_follows rest [] clean = tt
clean_follows [] (c ∷ tail) clean = clean
clean_follows (b ∷ rest) (c ∷ tail) clean = inl clean

pub front_follows : (front rest other : List ℕ) → Follows rest other → Follows (front ++ rest) (front ++ other)
front_follows [] rest other follows = follows
front_follows (b ∷ front) rest other follows = inr refl

no_more : (p : ℕ → Bool) → p 32 ≡ false → p 10 ≡ false → (c : ℕ) → IsGap c → p c ≡ false
no_more p space feed c (inl is) = ap p is ∙ space
no_more p space feed c (inr is) = ap p is ∙ feed

pub ends_so : (p : ℕ → Bool) → p 32 ≡ false → p 10 ≡ false → (rest other : List ℕ) → Follows rest other → Ends p rest → Ends p other
ends_so p space feed rest [] follows ends = tt
ends_so p space feed [] (c ∷ other) follows ends = no_more p space feed c follows
ends_so p space feed (b ∷ rest) (c ∷ other) (inl gap) ends = no_more p space feed c gap
ends_so p space feed (b ∷ rest) (c ∷ other) (inr is) ends = ap p is ∙ ends

pub record Moved (P : Spelling) (bytes rest : List ℕ) : Type 0 where
  pub taken : List ℕ
  pub place : bytes ≡ taken ++ rest
  pub stays : (other : List ℕ) → Follows rest other → P (taken ++ other) other

abbrev pub Moves : Spelling → Type 0
Moves P = (bytes rest : List ℕ) → P bytes rest → Moved P bytes rest

-- ---- words as the grammars write them

abbrev pub all_test : (ℕ → Bool) → List ℕ → Bool
all_test p [] = true
all_test p (b ∷ bytes) = p b && all_test p bytes

pub all_from : (p : ℕ → Bool) (bytes : List ℕ) → all_test p bytes ≡ true → AllBytes p bytes
all_from p [] is = tt
all_from p (b ∷ bytes) is = let both = and_parts (p b) (all_test p bytes) is in (both.0, all_from p bytes both.1)

abbrev pub is_plain_word : List ℕ → Bool
is_plain_word word = all_test is_name_byte word && same_name word word

-- ---- where a fault is

-- what comes before the fault is told by how many bytes come after it
pub same_front : (front before at rest : List ℕ) → before ++ rest ≡ front ++ at → length (before ++ rest) - length at ≡ length before → front ≡ before
same_front front before at rest same counted =
    let long : length front ≡ length before = omega (arith, counted, ap length same, length-append front at, length-append before rest) in
    sym (take_at front at (length front) refl) ∙ ap (take (length front)) (sym same) ∙ ap (λ (n : ℕ). take n (before ++ rest)) long ∙ take_at before rest (length before) refl
