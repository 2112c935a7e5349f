-- A token that is missing: reading stops at it, and its usual spelling goes on from there.
use Rattle.std.proofs.Common.{◌≡◌, ℕ, List, [], ◌∷◌, ◌++◌, Ok, Err, inl, refl, ap, sym, ◌∙◌}
use Rattle.std.specs.Prelude.{Result}
use Rattle.tokens.specs.Token.{After, Read}
use Rattle.tokens.proofs.TokenFollows.{IsClean}
use Rattle.tokens.proofs.TokenGoing.{Goes, Reads, ReadsAfter}
use Rattle.statement.specs.Token.{next}
use Rattle.statement.specs.Grammar.{Piece, Blanks}
use Rattle.statement.proofs.TokenGaps.{blanks_before, blanks_join}
use Rattle.statement.proofs.GrammarHolds.{Holds, Leaves}

-- a token, whatever blanks come before it and whatever clean bytes after it
pub record UsualToken {A : Type 0} (P : A → Piece) : Type 0 where
  pub text : List ℕ
  pub value : A
  pub holds : (bytes tail : List ℕ) → Blanks bytes (text ++ tail) → IsClean tail → P value bytes tail

one_blank : (rest : List ℕ) → Blanks (32 ∷ rest) rest
one_blank rest = record { blanks = 32 ∷ []; are_blank = (refl, tt); spelled = refl }

-- ---- a token: reading stops at it, after the blanks

abbrev IsAtNext : {X : Type 0} → List ℕ → Result X (List ℕ) → Type 0
IsAtNext bytes (Ok x) = Unit {0}
IsAtNext bytes (Err at) = at ≡ next bytes

pub record AtNext {X : Type 0} (bytes : List ℕ) (r : Result X (List ℕ)) : Type 0 where
  pub it : IsAtNext bytes r

token_goes : {A : Type 0} {P : A → Piece} {bytes at : List ℕ} → UsualToken P → at ≡ next bytes → Goes P bytes at
token_goes {bytes = bytes} t is =
    let b = blanks_before bytes in
    record {
      front = b.blanks;
      place = b.spelled ∙ ap (λ (l : List ℕ). b.blanks ++ l) (sym is);
      more = 32 ∷ t.text;
      value = t.value;
      clean = λ tail clean. inl refl;
      goes = λ tail clean.
          let all : Blanks (b.blanks ++ 32 ∷ (t.text ++ tail)) (32 ∷ (t.text ++ tail)) = record { blanks = b.blanks; are_blank = b.are_blank; spelled = refl } in
          t.holds _ tail (blanks_join all (one_blank (t.text ++ tail))) clean;
    }

pub token_reads : {A : Type 0} {P : A → Piece} {bytes : List ℕ} → UsualToken P → (r : Read A) → Holds r (λ x rest. P x bytes rest) → AtNext bytes r → Reads P bytes r
token_reads t (Ok x) h n = record { it = h.it }
token_reads t (Err at) h n = record { it = token_goes t n.it }

pub token_reads_after : {P : Piece} {bytes : List ℕ} → UsualToken {A = Unit {0}} (λ _. P) → (r : After) → Leaves r (λ rest. P bytes rest) → AtNext bytes r → ReadsAfter P bytes r
token_reads_after t (Ok rest) h n = record { it = h.it }
token_reads_after t (Err at) h n = record { it = token_goes t n.it }
