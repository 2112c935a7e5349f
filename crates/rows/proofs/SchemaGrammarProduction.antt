-- Productions as the grammar of schemas is written.
use Rattle.std.proofs.Common.{◌≡◌, ◌⊎◌, ℕ, Bool, true, false, List, [], ◌∷◌, ◌&&◌, inl, inr, Ok, Err, refl, ap, sym, ◌∙◌, subst, if◌then◌else◌}
use Rattle.std.specs.Prelude.{not}
use Rattle.std.proofs.lemmas.Bool.{and_parts}
use Rattle.values.specs.Names.{same_name}
use Rattle.tokens.specs.Token.{After, Read, ◌>>=◌, prefix_while}
use Rattle.tokens.specs.Word.{is_name_byte}
use Rattle.tokens.specs.Word.{is_word_at as is_word_after, word_at as word_after}
use Rattle.tokens.proofs.WordCases.{not_same}
use Rattle.tokens.proofs.TokenFollows.{Spelling}
use Rattle.tokens.proofs.TokenSame.{tells_word}
use Rattle.tokens.proofs.TokenProduction.{Phrase, Production, Any, Or, phrases, chain, after_phrase, last_phrase, ok, by, alike, read_alike, closing, tested}
use Rattle.rows.specs.SchemaToken.{next, is_word_at, after_word, word_at}
use Rattle.rows.specs.SchemaGrammar.{Says, Word, just}
use Rattle.rows.specs.SchemaGrammar as grammar
use Rattle.rows.proofs.SchemaRead.{word_is_at}
use Rattle.rows.proofs.SchemaTokenProduction.{texts_of, gaps, is_some_word, word}

-- ---- one after the other

-- what comes second lets the first end
pub bind_where : {A B : Type 0} {P : Says A} {Q : A → Says B} {C D : List ℕ → Type 0} {R : List ℕ → Read A} {S : A → List ℕ → Read B}
    → Production gaps P C R → ((x : A) (y : B) (bytes rest : List ℕ) → Q x y bytes rest → D rest → C bytes) → ((x : A) → Production gaps (Q x) D (S x))
    → Production gaps (grammar.◌>>=◌ P Q) D (λ bytes. R bytes >>= λ x. S x.0 x.1)
bind_where p meets q = alike (λ y bytes rest t. (t.value, (t.between, (t.first, t.second)))) (λ y bytes rest is. record { value = is.0; between = is.1.0; first = is.1.1.0; second = is.1.1.1 }) (chain p meets q)

pub bind : {A B : Type 0} {P : Says A} {Q : A → Says B} {D : List ℕ → Type 0} {R : List ℕ → Read A} {S : A → List ℕ → Read B}
    → Production gaps P Any R → ((x : A) → Production gaps (Q x) D (S x)) → Production gaps (grammar.◌>>=◌ P Q) D (λ bytes. R bytes >>= λ x. S x.0 x.1)
bind p q = bind_where p (λ x y bytes rest is d. tt) q

pub next_words : {B : Type 0} {P : Says (Unit {0})} {Q : Says B} {C : List ℕ → Type 0} {R : List ℕ → After} {S : List ℕ → Read B}
    → Phrase gaps (P tt) R → Production gaps Q C S → Production gaps (grammar.◌>>=◌ P (λ _. Q)) C (λ bytes. R bytes >>= S)
next_words t q = alike (λ y bytes rest n. (tt, (n.between, (n.first, n.second)))) (λ y bytes rest is. record { between = is.1.0; first = is.1.1.0; second = is.1.1.1 }) (after_phrase t q)

pub last_words : {B : Type 0} {P : Says (Unit {0})} {R : List ℕ → After} (v : B) → Phrase gaps (P tt) R → Production gaps (grammar.◌>>=◌ P (λ _. just v)) Any (λ bytes. R bytes >>= λ rest. Ok (v, rest))
last_words {P = P} v t = alike (λ y bytes rest is. (tt, (rest, (is.1, (sym is.0, refl))))) (λ y bytes rest is. (sym is.1.1.1.0, subst (λ (l : List ℕ). P tt bytes l) is.1.1.1.1 is.1.1.0)) (last_phrase v t)

pub make : {A B : Type 0} {P : Says A} {C : List ℕ → Type 0} {R : List ℕ → Read A} (f : A → B) → Production gaps P C R → Production gaps (grammar.◌>>=◌ P (λ x. just (f x))) C (λ bytes. R bytes >>= λ x. Ok (f x.0, x.1))
make {P = P} f p = alike (λ y bytes rest is. (is.0, (rest, (is.1.1, (sym is.1.0, refl))))) (λ y bytes rest is. (is.0, (sym is.1.1.1.0, subst (λ (l : List ℕ). P is.0 bytes l) is.1.1.1.1 is.1.1.0))) (by f p)

pub nothing : {B : Type 0} (v : B) → Production gaps (just v) Any (λ bytes. Ok (v, bytes))
nothing v = alike (λ y bytes rest is. (sym is.0, is.1)) (λ y bytes rest is. (sym is.0, is.1)) (ok v)

-- words without a value
pub words : {P : Says (Unit {0})} {Q : Spelling} {R S : List ℕ → After} → Phrase gaps (P tt) R → Phrase gaps Q S → Phrase gaps (grammar.◌>>=◌ {B = Unit {0}} P (λ _ _. Q) tt) (λ bytes. R bytes >>= S)
words p q = phrases (λ bytes m rest one two. (tt, (m, (one, two)))) (λ bytes rest is. (is.1.0, (is.1.1.0, is.1.1.1))) p q

-- ---- either of two

module _ {A : Type 0} (P Q Z : Says A) where
  to_left : (x : A) (bytes rest : List ℕ) → Or P (Or Q Z) x bytes rest → Or (Or P Q) Z x bytes rest
  to_left x bytes rest (inl is) = inl (inl is)
  to_left x bytes rest (inr (inl is)) = inl (inr is)
  to_left x bytes rest (inr (inr is)) = inr is

  to_right : (x : A) (bytes rest : List ℕ) → Or (Or P Q) Z x bytes rest → Or P (Or Q Z) x bytes rest
  to_right x bytes rest (inl (inl is)) = inl is
  to_right x bytes rest (inl (inr is)) = inr (inl is)
  to_right x bytes rest (inr is) = inr (inr is)

pub regroup : {A : Type 0} {P Q Z : Says A} {C : List ℕ → Type 0} {R : List ℕ → Read A} → Production gaps (Or P (Or Q Z)) C R → Production gaps (Or (Or P Q) Z) C R
regroup {P = P} {Q = Q} {Z = Z} p = alike (to_left P Q Z) (to_right P Q Z) p

-- by whether a word comes next, with which the first begins
pub by_word : {B : Type 0} {P Z : Says B} {C : List ℕ → Type 0} {S T : List ℕ → Read B} (w : List ℕ) → ((y : B) (bytes rest : List ℕ) → P y bytes rest → is_word_at w bytes ≡ true) → Production gaps P C S
    → ((y : B) (bytes rest : List ℕ) → Z y bytes rest → C rest → is_word_at w bytes ≡ false) → Production gaps Z C T → Production gaps (Or P Z) C (λ bytes. if is_word_at w bytes then S bytes else T bytes)
by_word w stands p apart z = tested (is_word_at w) (λ s. tells_word (texts_of s) w) stands apart p z

-- words that may be missing
pub maybe_words : {B : Type 0} {P : Says (Unit {0})} {R : List ℕ → After} (w : List ℕ) → ((bytes rest : List ℕ) → P tt bytes rest → is_word_at w bytes ≡ true) → Phrase gaps (P tt) R → (v u : B)
    → Production gaps (Or (grammar.◌>>=◌ P (λ _. just v)) (just u)) (λ rest. is_word_at w rest ≡ false) (λ bytes. if is_word_at w bytes then (R bytes >>= λ rest. Ok (v, rest)) else Ok (u, bytes))
maybe_words w stands p v u =
    by_word w (λ y bytes rest is. stands bytes is.1.0 is.1.1.0) (closing (λ rest c. tt) (last_words v p)) (λ y bytes rest is c. ap (is_word_at w) is.1 ∙ c) (closing (λ rest c. tt) (nothing u))

-- ---- productions that are told apart by their first words

-- where one word comes next no other does
pub other_word : (v w : List ℕ) → same_name v w ≡ false → (bytes : List ℕ) → is_word_at w bytes ≡ true → is_word_at v bytes ≡ false
unfolding is_word_after
other_word v w apart bytes is = not_same v w (prefix_while is_name_byte (next bytes)) (is_word_at v bytes) refl apart is

-- the words that a piece may begin with
abbrev pub BeginsWith : List (List ℕ) → List ℕ → Type 0
BeginsWith [] bytes = ⊥
BeginsWith (w ∷ ws) bytes = (is_word_at w bytes ≡ true) ⊎ BeginsWith ws bytes

-- a word is none of these
abbrev pub is_apart : List ℕ → List (List ℕ) → Bool
is_apart v [] = true
is_apart v (w ∷ ws) = not (same_name v w) && is_apart v ws

not_so : (t : Bool) → not t ≡ true → t ≡ false
not_so true is = sym is
not_so false is = refl

pub apart : (v : List ℕ) (ws : List (List ℕ)) → is_apart v ws ≡ true → (bytes : List ℕ) → BeginsWith ws bytes → is_word_at v bytes ≡ false
apart v [] is bytes first = absurd first
apart v (w ∷ ws) is bytes (inl first) = other_word v w (not_so (same_name v w) (and_parts (not (same_name v w)) (is_apart v ws) is).0) bytes first
apart v (w ∷ ws) is bytes (inr first) = apart v ws (and_parts (not (same_name v w)) (is_apart v ws) is).1 bytes first

-- a production that begins with one of these words
pub record Led {A : Type 0} (ws : List (List ℕ)) (P : Says A) (C : List ℕ → Type 0) (R : List ℕ → Read A) : Type 0 where
  pub first : (x : A) (bytes rest : List ℕ) → P x bytes rest → BeginsWith ws bytes
  pub production : Production gaps P C R

pub led_regroup : {A : Type 0} {P Q Z : Says A} {ws : List (List ℕ)} {C : List ℕ → Type 0} {R : List ℕ → Read A} → Led ws (Or P (Or Q Z)) C R → Led ws (Or (Or P Q) Z) C R
led_regroup {P = P} {Q = Q} {Z = Z} l = record { first = λ x bytes rest is. l.first x bytes rest (to_right P Q Z x bytes rest is); production = regroup l.production }

pub led_read : {A : Type 0} {P : Says A} {ws : List (List ℕ)} {C : List ℕ → Type 0} {R S : List ℕ → Read A} → ((bytes : List ℕ) → R bytes ≡ S bytes) → Led ws P C R → Led ws P C S
led_read same l = record { first = l.first; production = read_alike same l.production }

module _ {B : Type 0} (w : List ℕ) where
  pub led : {K : Unit {0} → Says B} {C : List ℕ → Type 0} {R : List ℕ → Read B} → Production gaps (grammar.◌>>=◌ (Word w) K) C R → Led (w ∷ []) (grammar.◌>>=◌ (Word w) K) C R
  led p = record { first = λ y bytes rest is. inl (word_is_at w is.0 bytes is.1.0 is.1.1.0); production = p }

  -- a word that is a value is taken unseen
  taken : (v : B) (T : List ℕ → Read B) (bytes : List ℕ) → (if is_word_at w bytes then (word_at w bytes >>= λ rest. Ok (v, rest)) else T bytes) ≡ (if is_word_at w bytes then Ok (v, after_word bytes) else T bytes)
  unfolding word_after
  taken v T bytes = by_test (is_word_at w bytes)
    where
      by_test : (t : Bool) → ◌≡◌ {A = Read B} (if t then ((if t then Ok (after_word bytes) else Err (next bytes)) >>= λ rest. Ok (v, rest)) else T bytes) (if t then Ok (v, after_word bytes) else T bytes)
      by_test true = refl
      by_test false = refl

  pub or_value : {Z : Says B} {T : List ℕ → Read B} {ws : List (List ℕ)} (v : B) → (is_some_word w && is_apart w ws) ≡ true → Led ws Z Any T
      → Led (w ∷ ws) (Or (grammar.◌>>=◌ (Word w) (λ x. just v)) Z) Any (λ bytes. if is_word_at w bytes then Ok (v, after_word bytes) else T bytes)
  or_value {Z} {T} {ws} v is z = record { first = by_case; production = read_alike (taken v T) (by_word w stands (last_words v (word w both.0)) (λ y bytes rest is c. apart w ws both.1 bytes (z.first y bytes rest is)) z.production) }
    where
      both : (is_some_word w ≡ true) × (is_apart w ws ≡ true)
      both = and_parts (is_some_word w) (is_apart w ws) is

      stands : (y : B) (bytes rest : List ℕ) → grammar.◌>>=◌ (Word w) (λ x. just v) y bytes rest → is_word_at w bytes ≡ true
      stands y bytes rest is = word_is_at w is.0 bytes is.1.0 is.1.1.0

      by_case : (y : B) (bytes rest : List ℕ) → Or (grammar.◌>>=◌ (Word w) (λ x. just v)) Z y bytes rest → BeginsWith (w ∷ ws) bytes
      by_case y bytes rest (inl is) = inl (stands y bytes rest is)
      by_case y bytes rest (inr is) = inr (z.first y bytes rest is)
