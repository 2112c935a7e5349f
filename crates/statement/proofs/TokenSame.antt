-- Tokens of two lines that are the same up to a token and in it.
use Rattle.std.proofs.Common.{◌≡◌, ◌≤◌, ℕ, Bool, true, false, List, [], ◌∷◌, ◌++◌, inl, Ok, Err, length, refl, sym, ap, ◌∙◌, subst, arith}
use Rattle.std.proofs.lemmas.List.{append_assoc, length-append}
use Rattle.tokens.specs.Token.{After, Read, prefix_while}
use Rattle.tokens.specs.Run.{Ends}
use Rattle.tokens.specs.Word.{is_name_byte}
use Rattle.tokens.proofs.PlaceSame.{Reach, Texts, Near, Left, left_of, Within, WithinAfter, Same}
use Rattle.tokens.proofs.TokenSame.{skip_within, skip_more, skip_none, SameToken, GoodToken}
use Rattle.statement.specs.Token.{is_blank, next, end_at}
use Rattle.tokens.proofs.TokenFollows.{Moves}
use Rattle.statement.specs.Grammar.{Piece}
use Rattle.statement.proofs.TokenGaps.{blanks_before, next_ends, next_is}
use Rattle.statement.proofs.GrammarHolds.{Holds}
use Rattle.statement.proofs.GoingOnMissing.{AtNext}

-- the token of two lines, at which they part
pub record Tokens (first : ℕ) (rest other : List ℕ) : Type 0 where
  pub no_blank : is_blank first ≡ false
  pub runs : (p : ℕ → Bool) → ((b : ℕ) → is_name_byte b ≡ false → p b ≡ false) → prefix_while p (first ∷ rest) ≡ prefix_while p (first ∷ other)

next_nearer : (front rest : List ℕ) → length (next rest) ≤ length (next (front ++ rest))
next_nearer [] rest = omega arith
next_nearer (d ∷ q) rest = by_test (is_blank d) refl (next_nearer q rest)
  where
    by_test : (t : Bool) → is_blank d ≡ t → length (next rest) ≤ length (next (q ++ rest)) → length (next rest) ≤ length (next (d ∷ (q ++ rest)))
    by_test true is h = omega (arith, h, ap length (skip_more is_blank d (q ++ rest) is))
    by_test false is h = omega (arith, skip_within is_blank rest, length-append q rest, ap length (skip_none is_blank d (q ++ rest) is))

module _ (first : ℕ) (rest other : List ℕ) (t : Tokens first rest other) where
  begins_here : (q more : List ℕ) → Ends is_blank q → Ends is_blank (q ++ first ∷ more)
  begins_here [] more ends = t.no_blank
  begins_here (d ∷ q) more ends = ends

  next_at : (p more : List ℕ) → next (p ++ first ∷ more) ≡ next p ++ first ∷ more
  next_at p more =
      let g = blanks_before p in
      next_is (record { blanks = g.blanks; are_blank = g.are_blank; spelled = ap (λ l. l ++ first ∷ more) g.spelled ∙ append_assoc g.blanks (next p) (first ∷ more) })
      (begins_here (next p) more (next_ends p))

  pub reach_next : {a c : List ℕ} → Reach first rest other a c → Reach first rest other (next a) (next c)
  reach_next r = record { front = next r.front; left = ap next r.left ∙ next_at r.front rest; right = ap next r.right ∙ next_at r.front other }

  abbrev pub texts : Texts
  texts = record { next = next; first = first; rest = rest; other = other; shorter = skip_within is_blank; reaches = λ a c r. inl (reach_next r); runs = t.runs }

  -- what is left of a line is no longer than the line
  pub left_behind : (front : List ℕ) {bytes more : List ℕ} → bytes ≡ front ++ more → Left texts bytes more
  left_behind front {bytes} {more} is = record {
    nearer = omega (arith, next_nearer front more, ap (λ (l : List ℕ). length (next l)) is);
    fewer = omega (arith, ap length is, length-append front more);
  }

  pub inside : {A : Type 0} {P : A → Piece} {bytes : List ℕ} (r : Read A) → ((x : A) → Moves (P x)) → Holds r (λ x rest. P x bytes rest) → AtNext bytes r → Within texts bytes r
  inside {bytes = bytes} (Ok x) moves h n = let a = moves x.0 bytes x.1 h.it in record { it = left_behind a.taken a.place }
  inside (Err at) moves h n = record { it = omega (arith, ap length n.it) }

  pub near_front : (q : List ℕ) → Near texts (q ++ first ∷ rest) (q ++ first ∷ other)
  near_front q = record { front = q; left = refl; right = refl }

  -- by the bytes before the token
  pub by_front : {A : Type 0} (f : List ℕ → Read A) → ((q : List ℕ) → Same texts (f (q ++ first ∷ rest)) (f (q ++ first ∷ other))) → (a c : List ℕ) → Near texts a c → Same texts (f a) (f c)
  by_front f h a c r = subst (λ x. Same texts (f x) (f c)) (sym r.left) (subst (λ x. Same texts (f (r.front ++ first ∷ rest)) (f x)) (sym r.right) (h r.front))

  abbrev end_of : List ℕ → After
  end_of at = elim at [ [] ↦ Ok [] | d ∷ ds ↦ Err (d ∷ ds) ]

  pub good_end : GoodToken texts end_at
  unfolding end_at
  good_end = record {
    leaves = λ bytes. leaves bytes (next bytes) (omega arith);
    alike = λ a c here. subst (λ x. SameToken texts (end_of x) (end_of (next c))) (sym here.left) (subst (λ x. SameToken texts (end_of (here.front ++ first ∷ rest)) (end_of x)) (sym here.right) (neither here.front));
  }
    where
      leaves : (bytes at : List ℕ) → length at ≤ length (next bytes) → WithinAfter texts bytes (end_of at)
      leaves bytes [] h = record { it = left_of texts bytes [] (omega arith) }
      leaves bytes (d ∷ ds) h = record { it = h }

      neither : (q : List ℕ) → SameToken texts (end_of (q ++ first ∷ rest)) (end_of (q ++ first ∷ other))
      neither [] = record { it = tt }
      neither (d ∷ q) = record { it = tt }
