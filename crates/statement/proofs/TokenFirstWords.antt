-- Productions that are told apart by their first words.
use Rattle.std.proofs.Common.{◌≡◌, ◌⊎◌, ◌<◌, ℕ, Bool, true, false, List, [], ◌∷◌, length, inl, inr, Ok, Err, refl, subst, arith}
use Rattle.std.specs.Prelude.{◌&&◌, not, nat_lt}
use Rattle.std.proofs.lemmas.Bool.{and_parts}
use Rattle.std.proofs.lemmas.Bool.Decides.{nat_tests}
use Rattle.values.specs.Names.{same_name}
use Rattle.tokens.specs.Token.{Read}
use Rattle.statement.specs.Token.{word_at}
use Rattle.statement.specs.Grammar.{Piece, Empty, Word}
use Rattle.tokens.proofs.WordCases.{Refused}
use Rattle.tokens.proofs.TokenGoing.{Next, Last}
use Rattle.tokens.proofs.TokenProduction.{Production, Or, choice, after_cases, alike, closing, ok}
use Rattle.statement.proofs.TokenWhole.{other_word_refused}
use Rattle.statement.proofs.TokenProduction.{gaps, is_some_word, word}

-- the words that a piece may begin with
abbrev pub BeginsWith : List (List ℕ) → List ℕ → Type 0
BeginsWith [] bytes = ⊥
BeginsWith (w ∷ ws) bytes = ((rest : List ℕ) × Word w bytes rest) ⊎ BeginsWith ws bytes

-- a word is none of these, which are not empty
abbrev pub is_apart : List ℕ → List (List ℕ) → Bool
is_apart v [] = true
is_apart v (w ∷ ws) = (not (same_name v w) && nat_lt 0 (length w)) && is_apart v ws

other_word : (t : Bool) → not t ≡ true → t ≡ false
other_word true is = cc
other_word false is = refl

some_bytes : (w : List ℕ) → nat_lt 0 (length w) ≡ true → 0 < length w
some_bytes w is = grind (arith, nat_tests)

refused_before : (v : List ℕ) (ws : List (List ℕ)) → is_apart v ws ≡ true → (bytes : List ℕ) → BeginsWith ws bytes → Refused (word_at v bytes)
refused_before v [] apart bytes is = absurd is
refused_before v (w ∷ ws) apart bytes (inl is) =
    let here = and_parts (not (same_name v w)) (nat_lt 0 (length w)) (and_parts (not (same_name v w) && nat_lt 0 (length w)) (is_apart v ws) apart).0 in
    other_word_refused v w (other_word (same_name v w) here.0) (some_bytes w here.1) bytes is.0 is.1
refused_before v (w ∷ ws) apart bytes (inr is) = refused_before v ws (and_parts (not (same_name v w) && nat_lt 0 (length w)) (is_apart v ws) apart).1 bytes is

-- a production that begins with one of these words
pub record Led {A : Type 0} (ws : List (List ℕ)) (P : A → Piece) (C : List ℕ → Type 0) (R : List ℕ → Read A) : Type 0 where
  pub first : (x : A) (bytes rest : List ℕ) → P x bytes rest → BeginsWith ws bytes
  pub production : Production gaps P C R

pub led_alike : {A : Type 0} {P Q : A → Piece} {ws : List (List ℕ)} {C : List ℕ → Type 0} {R : List ℕ → Read A}
    → ((x : A) (bytes rest : List ℕ) → P x bytes rest → Q x bytes rest) → ((x : A) (bytes rest : List ℕ) → Q x bytes rest → P x bytes rest) → Led ws P C R → Led ws Q C R
led_alike to from l = record { first = λ x bytes rest is. l.first x bytes rest (from x bytes rest is); production = alike to from l.production }

module _ {B : Type 0} {C : List ℕ → Type 0} (w : List ℕ) where
  -- the last of them
  pub last_word : {Q : B → Piece} {S : List ℕ → Read B} → is_some_word w ≡ true → Production gaps Q C S
      → Led (w ∷ []) (Next (Word w) Q) C (λ bytes. elim (word_at w bytes) [ Ok rest ↦ S rest | Err at ↦ Err at ])
  last_word is q = record { first = λ y bytes rest n. inl (n.between, n.first); production = after_cases (word w is) q }

  pub or_word : {Q Z : B → Piece} {S T : List ℕ → Read B} {ws : List (List ℕ)} → (is_some_word w && is_apart w ws) ≡ true → Production gaps Q C S → Led ws Z C T
      → Led (w ∷ ws) (Or (Next (Word w) Q) Z) C (λ bytes. elim (word_at w bytes) [ Ok rest ↦ S rest | Err at ↦ T bytes ])
  or_word {Q} {Z} {S} {T} {ws} is q z =
      let both = and_parts (is_some_word w) (is_apart w ws) is in
      record { first = by_case; production = choice (word w both.0) q (λ y bytes rest is c. refused_before w ws both.1 bytes (z.first y bytes rest is)) z.production }
    where
      by_case : (y : B) (bytes rest : List ℕ) → Or (Next (Word w) Q) Z y bytes rest → BeginsWith (w ∷ ws) bytes
      by_case y bytes rest (inl n) = inl (n.between, n.first)
      by_case y bytes rest (inr is) = inr (z.first y bytes rest is)

  -- a word that is a value
  pub or_value : {Z : B → Piece} {T : List ℕ → Read B} {ws : List (List ℕ)} (v : B) → (is_some_word w && is_apart w ws) ≡ true → Led ws Z C T
      → Led (w ∷ ws) (Or (Last v (Word w)) Z) C (λ bytes. elim (word_at w bytes) [ Ok rest ↦ Ok (v, rest) | Err at ↦ T bytes ])
  or_value {Z} {T} {ws} v is z =
      let l = or_word is (closing (λ rest c. tt) (ok v)) z in
      record { first = λ y bytes rest o. l.first y bytes rest (from y bytes rest o); production = alike to from l.production }
    where
      to : (y : B) (bytes rest : List ℕ) → Or (Next (Word w) (Last v Empty)) Z y bytes rest → Or (Last v (Word w)) Z y bytes rest
      to y bytes rest (inl n) = inl ((n.second).0, subst (λ (l : List ℕ). Word w bytes l) (n.second).1 n.first)
      to y bytes rest (inr is) = inr is

      from : (y : B) (bytes rest : List ℕ) → Or (Last v (Word w)) Z y bytes rest → Or (Next (Word w) (Last v Empty)) Z y bytes rest
      from y bytes rest (inl is) = inl (record { between = rest; first = is.1; second = (is.0, refl) })
      from y bytes rest (inr is) = inr is
