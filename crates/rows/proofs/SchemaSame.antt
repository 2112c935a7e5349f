-- Tokens of two schemas that are the same up to a token and in it.
use Rattle.std.proofs.Common.{◌≡◌, ◌≤◌, ℕ, Bool, true, false, List, [], ◌∷◌, ◌++◌, ◌==◌, ◌&&◌, ◌⊎◌, inl, inr, Ok, Err, length, refl, ap, sym, ◌∙◌, subst, arith, if◌then◌else◌}
use Rattle.std.specs.Prelude.{not}
use Rattle.std.specs.List.{prefix_len}
use Rattle.std.specs.Char.{is_ascii_digit}
use Rattle.std.proofs.lemmas.List.Folds.{length-prefix_len}
use Rattle.tokens.specs.Token.{prefix_while, skip_while}
use Rattle.tokens.specs.Word.{is_name_byte}
use Rattle.tokens.proofs.PlaceSame.{Reach, Texts, left_of, Within, Same, Good, good_here, Tells}
use Rattle.tokens.proofs.TokenSame.{skip_within, digit_is_name, RunSame, runs}
use Rattle.rows.specs.SchemaToken.{is_separator, begins_with_hyphen, token_from, next, number_from, digits_at}
use Rattle.rows.specs.Declaration.{is_nothing, is_end_at}
use Rattle.rows.specs.SchemaGrammar.{BeginsToken}
use Rattle.rows.proofs.SchemaRead.{at_token}

pub token_shorter : (in_comment : Bool) (bytes : List ℕ) → length (token_from in_comment bytes) ≤ length bytes
token_shorter true [] = omega arith
token_shorter false [] = omega arith
token_shorter true (b ∷ bs) = omega (arith, token_shorter (not (b == 10)) bs)
token_shorter false (b ∷ bs) = by_tests (is_separator b) ((b == 45) && begins_with_hyphen bs) (token_shorter false bs) (token_shorter true bs)
  where
    by_tests : (t u : Bool) → length (token_from false bs) ≤ length bs → length (token_from true bs) ≤ length bs
        → length (if t then token_from false bs else if u then token_from true bs else b ∷ bs) ≤ length (b ∷ bs)
    by_tests true u h i = omega (arith, h)
    by_tests false true h i = omega (arith, i)
    by_tests false false h i = omega arith

-- the token of two texts, where no gap comes first
pub record Tokens (first : ℕ) (rest other : List ℕ) : Type 0 where
  pub one : BeginsToken (first ∷ rest)
  pub two : BeginsToken (first ∷ other)
  pub runs : (p : ℕ → Bool) → ((b : ℕ) → is_name_byte b ≡ false → p b ≡ false) → prefix_while p (first ∷ rest) ≡ prefix_while p (first ∷ other)

module _ (first : ℕ) (rest other : List ℕ) (t : Tokens first rest other) where
  -- from the next token on, which comes before the one of the two texts or after it
  abbrev pub Ahead : List ℕ → List ℕ → Type 0
  Ahead a c = Reach first rest other a c ⊎ (length a ≤ length rest)

  pub ahead : (in_comment : Bool) (q : List ℕ) → Ahead (token_from in_comment (q ++ first ∷ rest)) (token_from in_comment (q ++ first ∷ other))
  ahead true [] = inr (token_shorter (not (first == 10)) rest)
  ahead false [] = inl (record { front = []; left = at_token (first ∷ rest) t.one; right = at_token (first ∷ other) t.two })
  ahead true (d ∷ q) = ahead (not (d == 10)) q
  ahead false (d ∷ q) = by_tests (is_separator d) (d == 45) (hyphen q) (ahead false q) (ahead true q)
    where
      hyphen : (q : List ℕ) → begins_with_hyphen (q ++ first ∷ rest) ≡ begins_with_hyphen (q ++ first ∷ other)
      hyphen [] = refl
      hyphen (e ∷ q) = refl

      by_hyphens : (u v : Bool) → u ≡ v → Ahead (token_from true (q ++ first ∷ rest)) (token_from true (q ++ first ∷ other))
          → Ahead (if u then token_from true (q ++ first ∷ rest) else d ∷ (q ++ first ∷ rest)) (if v then token_from true (q ++ first ∷ other) else d ∷ (q ++ first ∷ other))
      by_hyphens true true e h = h
      by_hyphens false false e h = inl (record { front = d ∷ q; left = refl; right = refl })
      by_hyphens true false e h = cc
      by_hyphens false true e h = cc

      by_tests : (s m : Bool) → begins_with_hyphen (q ++ first ∷ rest) ≡ begins_with_hyphen (q ++ first ∷ other) → Ahead (token_from false (q ++ first ∷ rest)) (token_from false (q ++ first ∷ other))
          → Ahead (token_from true (q ++ first ∷ rest)) (token_from true (q ++ first ∷ other))
          → Ahead (if s then token_from false (q ++ first ∷ rest) else if m && begins_with_hyphen (q ++ first ∷ rest) then token_from true (q ++ first ∷ rest) else d ∷ (q ++ first ∷ rest))
          (if s then token_from false (q ++ first ∷ other) else if m && begins_with_hyphen (q ++ first ∷ other) then token_from true (q ++ first ∷ other) else d ∷ (q ++ first ∷ other))
      by_tests true m e h i = h
      by_tests false true e h i = by_hyphens _ _ e i
      by_tests false false e h i = inl (record { front = d ∷ q; left = refl; right = refl })

  abbrev pub texts : Texts
  texts = record {
    next = next;
    first = first;
    rest = rest;
    other = other;
    shorter = token_shorter false;
    reaches = λ a c r. subst (λ x. Ahead (next x) (next c)) (sym r.left) (subst (λ x. Ahead (next (r.front ++ first ∷ rest)) (next x)) (sym r.right) (ahead false r.front));
    runs = t.runs;
  }

  pub good_digits : Good texts digits_at
  unfolding digits_at
  good_digits = good_here texts digits_at (λ bytes. inside bytes (prefix_len is_ascii_digit (next bytes) == 0)) (λ a c here. at_digits (next a) (next c) (runs texts is_ascii_digit digit_is_name (next a) (next c) here))
    where
      inside : (bytes : List ℕ) (u : Bool) → Within texts bytes (if u then Err (next bytes) else Ok (number_from 0 (prefix_while is_ascii_digit (next bytes)), skip_while is_ascii_digit (next bytes)))
      inside bytes true = record { it = omega arith }
      inside bytes false = record { it = left_of texts bytes _ (skip_within is_ascii_digit (next bytes)) }

      counted : (a : List ℕ) → prefix_len is_ascii_digit a ≡ length (prefix_while is_ascii_digit a)
      counted a = sym (length-prefix_len is_ascii_digit a)

      at_digits : (a c : List ℕ) → RunSame texts is_ascii_digit a c
          → Same texts (if prefix_len is_ascii_digit a == 0 then Err a else Ok (number_from 0 (prefix_while is_ascii_digit a), skip_while is_ascii_digit a))
          (if prefix_len is_ascii_digit c == 0 then Err c else Ok (number_from 0 (prefix_while is_ascii_digit c), skip_while is_ascii_digit c))
      at_digits a c h = by_tests _ _ (ap (λ (n : ℕ). n == 0) (counted a ∙ ap length h.fronts ∙ sym (counted c)))
        where
          by_tests : (u v : Bool) → u ≡ v
              → Same texts (if u then Err a else Ok (number_from 0 (prefix_while is_ascii_digit a), skip_while is_ascii_digit a)) (if v then Err c else Ok (number_from 0 (prefix_while is_ascii_digit c), skip_while is_ascii_digit c))
          by_tests true true e = record { it = tt }
          by_tests false false e = record { it = elim h.left [ inl near ↦ inl (ap (number_from 0) h.fronts, near) | inr less ↦ inr less ] }
          by_tests true false e = cc
          by_tests false true e = cc

  pub tells_end : Tells texts is_end_at
  unfolding is_end_at
  tells_end = record { tells = λ a c near. elim (texts.reaches a c near) [ inl here ↦ inl (neither (next a) (next c) here) | inr less ↦ inr less ] }
    where
      some : (q more : List ℕ) → is_nothing (q ++ first ∷ more) ≡ false
      some [] more = refl
      some (d ∷ q) more = refl

      neither : (a c : List ℕ) → Reach first rest other a c → is_nothing a ≡ is_nothing c
      neither a c r = ap is_nothing r.left ∙ some r.front rest ∙ sym (some r.front other) ∙ sym (ap is_nothing r.right)
