-- Productions that are read in turns: each turn reads what is left in the same way, of fewer bytes.
use Rattle.std.proofs.Common.{◌≡◌, ◌≤◌, ◌<◌, ℕ, zero, suc, List, [], ◌∷◌, Ok, length, ap, sym, ◌∙◌, subst, arith}
use Rattle.std.proofs.lemmas.List.{length-append}
use Rattle.tokens.specs.Token.{Read}
use Rattle.tokens.proofs.TokenFollows.{Spelling, Moves}
use Rattle.tokens.proofs.TokenGoing.{Reads}
use Rattle.tokens.proofs.PlaceSame.{Near, Within, Same}
use Rattle.tokens.proofs.TokenProduction.{Gaps, Begins, Production}

-- a turn, by the reader of what it leaves
pub record Turn (gaps : Gaps) {A : Type 0} (P : A → Spelling) (C : List ℕ → Type 0) (F : (List ℕ → Read A) → List ℕ → Read A) : Type 0 where
  pub moves : (x : A) → Moves (P x)
  pub reads : (o : List ℕ → Read A) (bytes : List ℕ) → ((m : List ℕ) → Reads P m (o m)) → Reads P bytes (F o bytes)
  pub begins : (o : List ℕ → Read A) (bytes : List ℕ) → ((m : List ℕ) → length m < length bytes → Begins gaps (o m)) → Begins gaps (F o bytes)
  pub whole : (o : List ℕ → Read A) (x : A) (bytes rest : List ℕ) → ((y : A) (m : List ℕ) → length m < length bytes → P y m rest → o m ≡ Ok (y, rest)) → P x bytes rest → C rest → F o bytes ≡ Ok (x, rest)
  pub within : (s : gaps.Parting) (o : List ℕ → Read A) (bytes : List ℕ) → ((m : List ℕ) → length m < length bytes → Within (gaps.texts_of s) m (o m)) → Within (gaps.texts_of s) bytes (F o bytes)
  pub same : (s : gaps.Parting) (o u : List ℕ → Read A) (a c : List ℕ) → Near (gaps.texts_of s) a c → ((m : List ℕ) → length m < length a → Within (gaps.texts_of s) m (o m))
      → ((p q : List ℕ) → Near (gaps.texts_of s) p q → length p < length a → length q < length c → Same (gaps.texts_of s) (o p) (u q)) → Same (gaps.texts_of s) (F o a) (F u c)

-- as many turns as there are bytes are enough
module _ {gaps : Gaps} {A : Type 0} {P : A → Spelling} {C : List ℕ → Type 0} {F : (List ℕ → Read A) → List ℕ → Read A} (turn : Turn gaps P C F)
    (R : ℕ → List ℕ → Read A) (none : (bytes : List ℕ) → Reads P bytes (R zero bytes)) (start : R zero [] ≡ F (R zero) []) (step : (n : ℕ) (bytes : List ℕ) → R (suc n) bytes ≡ F (R n) bytes) where
  all_read : (n : ℕ) (bytes : List ℕ) → Reads P bytes (R n bytes)
  all_read zero bytes = none bytes
  all_read (suc n) bytes = subst (Reads P bytes) (sym (step n bytes)) (turn.reads (R n) bytes (all_read n))

  all_begin : (n : ℕ) (bytes : List ℕ) → length bytes ≤ n → Begins gaps (R n bytes)
  all_begin zero [] h = subst (Begins gaps) (sym start) (turn.begins (R zero) [] (λ m less. absurd (omega arith)))
  all_begin zero (b ∷ bytes) h = absurd (omega arith)
  all_begin (suc n) bytes h = subst (Begins gaps) (sym (step n bytes)) (turn.begins (R n) bytes (λ m less. all_begin n m (omega (arith, h, less))))

  all_whole : (n : ℕ) (x : A) (bytes rest : List ℕ) → length bytes ≤ n → P x bytes rest → C rest → R n bytes ≡ Ok (x, rest)
  all_whole zero x [] rest h is c = start ∙ turn.whole (R zero) x [] rest (λ y m less. absurd (omega arith)) is c
  all_whole zero x (b ∷ bytes) rest h is c = absurd (omega arith)
  all_whole (suc n) x bytes rest h is c = step n bytes ∙ turn.whole (R n) x bytes rest (λ y m less two. all_whole n y m rest (omega (arith, h, less)) two c) is c

  module _ (s : gaps.Parting) where
    all_within : (n : ℕ) (bytes : List ℕ) → length bytes ≤ n → Within (gaps.texts_of s) bytes (R n bytes)
    all_within zero [] h = subst (Within (gaps.texts_of s) []) (sym start) (turn.within s (R zero) [] (λ m less. absurd (omega arith)))
    all_within zero (b ∷ bytes) h = absurd (omega arith)
    all_within (suc n) bytes h = subst (Within (gaps.texts_of s) bytes) (sym (step n bytes)) (turn.within s (R n) bytes (λ m less. all_within n m (omega (arith, h, less))))

    all_same : (n k : ℕ) (a c : List ℕ) → Near (gaps.texts_of s) a c → length a ≤ n → length c ≤ k → Same (gaps.texts_of s) (R n a) (R k c)
    all_same zero k a c near h i = absurd (omega (arith, h, ap length near.left, length-append near.front ((gaps.texts_of s).first ∷ (gaps.texts_of s).rest)))
    all_same (suc n) zero a c near h i = absurd (omega (arith, i, ap length near.right, length-append near.front ((gaps.texts_of s).first ∷ (gaps.texts_of s).other)))
    all_same (suc n) (suc k) a c near h i =
        subst (λ r. Same (gaps.texts_of s) r (R (suc k) c)) (sym (step n a)) (subst (λ u. Same (gaps.texts_of s) (F (R n) a) u) (sym (step k c))
        (turn.same s (R n) (R k) a c near (λ m less. all_within n m (omega (arith, h, less))) (λ p q here less fewer. all_same n k p q here (omega (arith, h, less)) (omega (arith, i, fewer)))))

  pub by_turns : Production gaps P C (λ bytes. R (length bytes) bytes)
  by_turns = record {
    moves = turn.moves;
    reads = λ bytes. all_read (length bytes) bytes;
    begins = λ bytes. all_begin (length bytes) bytes (omega arith);
    whole = λ x bytes rest is c. all_whole (length bytes) x bytes rest (omega arith) is c;
    same = λ s. record { within = λ bytes. all_within s (length bytes) bytes (omega arith); same = λ a c near. all_same s (length a) (length c) a c near (omega arith) (omega arith) };
  }
