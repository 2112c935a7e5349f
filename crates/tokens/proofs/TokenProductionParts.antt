-- Productions of values with parts: each part is read in turn, and the spelling is that of the value.
use Rattle.std.proofs.Common.{◌≡◌, ℕ, List, Ok, refl, sym, ap, ◌∙◌, subst}
use Rattle.tokens.specs.Token.{After, Read, ◌>>=◌}
use Rattle.tokens.proofs.TokenFollows.{Spelling}
use Rattle.tokens.proofs.TokenGoing.{By, Last}
use Rattle.tokens.proofs.TokenProduction.{Gaps, Token, Production, Any, chain, after, by, alike}

-- one spelling, and then another
infixr 5 ◌⋯◌
abbrev ◌⋯◌ : Spelling → Spelling → Spelling
(P ⋯ Q) bytes rest = (between : List ℕ) × (P bytes between × Q between rest)

-- what is made of a value of which this much is known
abbrev pub Made : {A B : Type 0} → (A → B) → (A → Type 0) → (A → Spelling) → B → Spelling
Made {A} make K Q y bytes rest = (x : A) × ((y ≡ make x) × (K x × Q x bytes rest))

module _ {gaps : Gaps} {A B : Type 0} {make : A → B} {K : A → Type 0} where
  -- a part, and then the others
  pub field : {C : Type 0} {P : C → Spelling} {Q : A → Spelling} {E F : List ℕ → Type 0} {R : List ℕ → Read C} {S : C → List ℕ → Read B} (part : A → C)
      → Production gaps P E R → ((x : A) (bytes rest : List ℕ) → Q x bytes rest → F rest → E bytes) → ((c : C) → Production gaps (Made make (λ x. K x × (part x ≡ c)) Q) F (S c))
      → Production gaps (Made make K (λ x. P (part x) ⋯ Q x)) F (λ bytes. R bytes >>= λ c. S c.0 c.1)
  field {C} {P} {Q} part p meets q =
      alike (λ y bytes rest t. let m = t.second in (m.0, (m.1.0, (m.1.1.0.0, (t.between, (subst (λ (c : C). P c bytes t.between) (sym m.1.1.0.1) t.first, m.1.1.1))))))
      (λ y bytes rest m. record { value = part m.0; between = m.1.1.1.0; first = m.1.1.1.1.0; second = (m.0, (m.1.0, ((m.1.1.0, refl), m.1.1.1.1.1))) })
      (chain p (λ c y bytes rest m f. meets m.0 bytes rest m.1.1.1 f) q)

  -- a token, and then parts
  pub skip : {P : Spelling} {Q : A → Spelling} {F : List ℕ → Type 0} {R : List ℕ → After} {S : List ℕ → Read B}
      → Token gaps P R → Production gaps (Made make K Q) F S → Production gaps (Made make K (λ x. P ⋯ Q x)) F (λ bytes. R bytes >>= S)
  skip t q =
      alike (λ y bytes rest n. let m = n.second in (m.0, (m.1.0, (m.1.1.0, (n.between, (n.first, m.1.1.1))))))
      (λ y bytes rest m. record { between = m.1.1.1.0; first = m.1.1.1.1.0; second = (m.0, (m.1.0, (m.1.1.0, m.1.1.1.1.1))) }) (after t q)

  -- the last part
  pub final : {C : Type 0} {P : C → Spelling} {F : List ℕ → Type 0} {R : List ℕ → Read C} (part : A → C) (of : C → A)
      → ((c : C) → K (of c)) → ((c : C) → part (of c) ≡ c) → ((x : A) → K x → x ≡ of (part x))
      → Production gaps P F R → Production gaps (Made make K (λ x. P (part x))) F (λ bytes. R bytes >>= λ c. Ok (make (of c.0), c.1))
  final {C} {P} part of known back all p =
      alike (λ y bytes rest b. (of b.0, (b.1.0, (known b.0, subst (λ (c : C). P c bytes rest) (sym (back b.0)) b.1.1))))
      (λ y bytes rest m. (part m.0, (m.1.0 ∙ ap make (all m.0 m.1.1.0), m.1.1.1))) (by (λ (c : C). make (of c)) p)

  -- the same, where an earlier part has a say in it
  pub field_at : {T C : Type 0} (P : T → C → Spelling) {Q : A → Spelling} {E F : List ℕ → Type 0} {R : List ℕ → Read C} {S : C → List ℕ → Read B} (key : A → T) (t : T) (part : A → C)
      → ((x : A) → K x → key x ≡ t) → Production gaps (P t) E R → ((x : A) (bytes rest : List ℕ) → K x → Q x bytes rest → F rest → E bytes)
      → ((c : C) → Production gaps (Made make (λ x. K x × (part x ≡ c)) Q) F (S c))
      → Production gaps (Made make K (λ x. P (key x) (part x) ⋯ Q x)) F (λ bytes. R bytes >>= λ c. S c.0 c.1)
  field_at {T} {C} P {Q} key t part known p meets q =
      alike (λ y bytes rest n. let m = n.second in (m.0, (m.1.0, (m.1.1.0.0, (n.between, (subst (λ (u : T). P u (part m.0) bytes n.between) (sym (known m.0 m.1.1.0.0)) (subst (λ (c : C). P t c bytes n.between) (sym m.1.1.0.1) n.first), m.1.1.1))))))
      (λ y bytes rest m. record { value = part m.0; between = m.1.1.1.0; first = subst (λ (u : T). P u (part m.0) bytes m.1.1.1.0) (known m.0 m.1.1.0) m.1.1.1.1.0; second = (m.0, (m.1.0, ((m.1.1.0, refl), m.1.1.1.1.1))) })
      (chain p (λ c y bytes rest m f. meets m.0 bytes rest m.1.1.0.0 m.1.1.1 f) q)

  pub final_as : {C : Type 0} {P : C → Spelling} {Q : A → Spelling} {F : List ℕ → Type 0} {R : List ℕ → Read C} (part : A → C) (of : C → A)
      → ((c : C) (bytes rest : List ℕ) → P c bytes rest → K (of c) × Q (of c) bytes rest) → ((x : A) (bytes rest : List ℕ) → K x → Q x bytes rest → P (part x) bytes rest) → ((x : A) → K x → x ≡ of (part x))
      → Production gaps P F R → Production gaps (Made make K Q) F (λ bytes. R bytes >>= λ c. Ok (make (of c.0), c.1))
  final_as {C} {P} part of to from all p =
      alike (λ y bytes rest b. (of b.0, (b.1.0, to b.0 bytes rest b.1.1)))
      (λ y bytes rest m. (part m.0, (m.1.0 ∙ ap make (all m.0 m.1.1.0), from m.0 bytes rest m.1.1.0 m.1.1.1))) (by (λ (c : C). make (of c)) p)

  -- what ends it, where all parts are known
  pub finish : {E : Spelling} {F : List ℕ → Type 0} {S : List ℕ → Read B} (x : A) → K x → ((z : A) → K z → z ≡ x)
      → Production gaps (Last (make x) E) F S → Production gaps (Made make K (λ _. E)) F S
  finish x known all p =
      alike (λ y bytes rest l. (x, (l.0, (known, l.1)))) (λ y bytes rest m. (m.1.0 ∙ ap make (all m.0 m.1.1.0), m.1.1.1)) p

-- whatever comes second
pub part : {gaps : Gaps} {A B C : Type 0} {make : A → B} {K : A → Type 0} {P : C → Spelling} {Q : A → Spelling} {F : List ℕ → Type 0} {R : List ℕ → Read C} {S : C → List ℕ → Read B} (of : A → C)
    → Production gaps P Any R → ((c : C) → Production gaps (Made make (λ x. K x × (of x ≡ c)) Q) F (S c))
    → Production gaps (Made make K (λ x. P (of x) ⋯ Q x)) F (λ bytes. R bytes >>= λ c. S c.0 c.1)
part of p q = field of p (λ x bytes rest is f. tt) q

pub alone : {gaps : Gaps} {A : Type 0} {Q : A → Spelling} {F : List ℕ → Type 0} {S : List ℕ → Read A} → Production gaps (Made (λ (x : A). x) (λ x. Unit {0}) Q) F S → Production gaps Q F S
alone {A} {Q} p = alike (λ y bytes rest m. subst (λ (x : A). Q x bytes rest) (sym m.1.0) m.1.1.1) (λ y bytes rest is. (y, (refl, (tt, is)))) p

pub made : {gaps : Gaps} {A B : Type 0} {make : A → B} {Q : A → Spelling} {F : List ℕ → Type 0} {S : List ℕ → Read B} → Production gaps (Made make (λ x. Unit {0}) Q) F S → Production gaps (By make Q) F S
made p = alike (λ y bytes rest m. (m.0, (m.1.0, m.1.1.1))) (λ y bytes rest b. (b.0, (b.1.0, (tt, b.1.1)))) p
