-- Numbers, texts, operators and instants of two lines that are the same up to a token and in it.
use Rattle.std.proofs.Common.{◌≡◌, ◌≤◌, ℕ, ℤ, pos, neg_ℤ, suc, Bool, true, false, List, [], ◌∷◌, ◌++◌, ◌⊎◌, inl, inr, Ok, Err, Some, None, length, drop, refl, sym, ap, ◌∙◌, subst, arith, if◌then◌else◌}
use Rattle.std.specs.Prelude.{Option, ◌==◌, ◌-◌, ◌^◌, codes}
use Rattle.std.specs.Option.{option_map}
use Rattle.std.specs.Str.{is_utf8}
use Rattle.std.proofs.lemmas.List.{length-append}
use Rattle.values.specs.Commits.{max_instant}
use Rattle.values.specs.declared.query.Operator.{Operator}
use Rattle.values.specs.declared.query.Operator.TheVariants.{Equal, Below, AtMost, Above, AtLeast}
use Rattle.values.specs.declared.value.Value.{Value}
use Rattle.values.specs.declared.value.Value.TheVariants.{Int, Text, Bool as Truth, Null}
use Rattle.tokens.specs.Token.{Read, ◌>>=◌, prefix_while, skip_while}
use Rattle.tokens.specs.Digit.{capped_from, capped_at}
use Rattle.std.specs.Char.{is_ascii_digit}
use Rattle.std.specs.List.{prefix_len}
use Rattle.std.proofs.lemmas.List.Folds.{length-prefix_len}
use Rattle.tokens.specs.Token.{symbol_at as symbol_after}
use Rattle.statement.specs.Token.{next, word_at}
use Rattle.statement.specs.Literal.{digits_here, digits_at, begins_with, above_nought, below_nought, number_at, quoted_from, quoted, text_of, text_at, constant_at, begins_number, literal_at}
use Rattle.statement.specs.Condition.{or_equal, operator_of, operator_at}
use Rattle.statement.specs.Statement.{instant_at}
use Rattle.statement.specs.Grammar.{Piece, doubled}
use Rattle.std.specs.Str.Parse.{digits_value}
use Rattle.std.specs.Prelude.{nat_lt}
use Rattle.statement.specs.Literal.{digit_count}
use Rattle.tokens.proofs.TokenFollows.{Moves}
use Rattle.statement.proofs.GrammarHolds.{Holds, Found}
use Rattle.statement.proofs.GoingOnMissing.{AtNext}
use Rattle.statement.proofs.GrammarMoves.{both_move, blanks_move, digits_move, whole_number_moves, literal_moves, operator_moves, capped_moves}
use Rattle.statement.proofs.LiteralSound.{QuotedFrom, digits_sound, number_sound, quoted_sound, text_sound, operator_sound}
use Rattle.statement.proofs.TokenGoing.{digits_next, number_next, text_next, operator_next}
use Rattle.statement.proofs.AlterationSize.{capped_sound, capped_next}
use Rattle.tokens.proofs.PlaceSame.{Texts, Near, IsPast, left_all, left_of, Within, wider, Same, elsewhere, past, Good, good_here, good_ok, good_then, good_if}
use Rattle.tokens.proofs.TokenSame.{runs, digit_is_name, good_token, good_either, good_word}
use Rattle.statement.proofs.TokenSame.{Tokens, texts, reach_next, left_behind, inside, near_front, by_front}

-- what is found, or a refusal
abbrev found_or : {A : Type 0} → List ℕ → Option (A × List ℕ) → Read A
found_or at o = elim o [ None ↦ Err at | Some x ↦ Ok x ]

-- the number that digits write at the start, if there are some
abbrev capped_or : List ℕ → Read ℕ
capped_or at = if prefix_len is_ascii_digit at == 0 then Err at else Ok (capped_from 0 (prefix_while is_ascii_digit at), skip_while is_ascii_digit at)

same_count : (a c : List ℕ) → prefix_while is_ascii_digit a ≡ prefix_while is_ascii_digit c → (prefix_len is_ascii_digit a == 0) ≡ (prefix_len is_ascii_digit c == 0)
same_count a c same = ap (λ (n : ℕ). n == 0) (sym (length-prefix_len is_ascii_digit a) ∙ ap length same ∙ length-prefix_len is_ascii_digit c)

module _ (first : ℕ) (rest other : List ℕ) (t : Tokens first rest other) (no_minus : (first == 45) ≡ false) (no_quote : (first == 39) ≡ false) where
  abbrev w : Texts
  w = texts first rest other t

  abbrev Alike : {A : Type 0} → Read A → Read A → Type 0
  Alike r u = Same w r u

  abbrev Fine : {A : Type 0} → (List ℕ → Read A) → Type 0
  Fine R = Good w R

  abbrev at_front : (q : List ℕ) → Near w (q ++ first ∷ rest) (q ++ first ∷ other)
  at_front q = near_front first rest other t q

  stays : {A : Type 0} {P : A → Piece} {bytes : List ℕ} (r : Read A) → ((x : A) → Moves (P x)) → Holds r (λ x rest. P x bytes rest) → AtNext bytes r → Within w bytes r
  stays r moves h n = inside first rest other t r moves h n

  ok : {A : Type 0} (x : A) → Fine (λ rest. Ok (x, rest))
  ok x = good_ok w x

  reads : {A B : Type 0} (R : List ℕ → Read A) (f : A → List ℕ → Read B) → Fine R → ((x : A) → Fine (f x)) → Fine (λ bytes. R bytes >>= λ x. f x.0 x.1)
  reads R f g h = good_then w R f g h

  by_word : {B : Type 0} (v : List ℕ) (f g : List ℕ → Read B) → Fine f → Fine g → Fine (λ bytes. elim (word_at v bytes) [ Ok rest ↦ f rest | Err at ↦ g bytes ])
  by_word v f g h i = good_either w (word_at v) f g (good_word w v) h i

  last_word : {B : Type 0} (v : List ℕ) (f : List ℕ → Read B) → Fine f → Fine (λ bytes. elim (word_at v bytes) [ Ok rest ↦ f rest | Err at ↦ Err at ])
  last_word v f h = good_token w (word_at v) f (good_word w v) h

  -- what is told by the first byte
  pub first_same : (test : List ℕ → Bool) → ((d : ℕ) (q more : List ℕ) → test (d ∷ q) ≡ test (d ∷ more)) → {a c : List ℕ} → Near w a c → test a ≡ test c
  first_same test same r = ap test r.left ∙ alike r.front ∙ sym (ap test r.right)
    where
      alike : (q : List ℕ) → test (q ++ first ∷ rest) ≡ test (q ++ first ∷ other)
      alike [] = same first rest other
      alike (d ∷ q) = same d (q ++ first ∷ rest) (q ++ first ∷ other)

  -- from the next token on
  at_next : {A : Type 0} (R : List ℕ → Read A) → Fine R → Fine (λ bytes. R (next bytes))
  at_next R g = good_here w _ (λ bytes. wider w (R (next bytes)) (left_of w bytes (next bytes) (omega arith)) (g.within (next bytes))) (λ a c here. g.same (next a) (next c) here)

  -- digits
  module _ {A : Type 0} (most : ℕ) (f g : Option (ℕ × List ℕ) → Read A) (none : Same w (f None) (g None)) (some : (n : ℕ) (m l : List ℕ) → Near w m l ⊎ IsPast w m → Same w (f (Some (n, m))) (g (Some (n, l)))) where
    abbrev counted : Bool → Bool → List ℕ → List ℕ → Option (ℕ × List ℕ)
    counted u over digits left = if u then None else option_map (λ (n : ℕ). (n, left)) (if over then None else Some (digits_value 10 digits))

    digits_same : (a c : List ℕ) → Near w a c → Same w (f (digits_here most a)) (g (digits_here most c))
    unfolding digits_here
    digits_same a c near =
        let h = runs w is_ascii_digit digit_is_name a c near in
        by_tests h.fronts h.left (digit_count a == 0) (digit_count c == 0) (nat_lt most (digits_value 10 (prefix_while is_ascii_digit a))) (nat_lt most (digits_value 10 (prefix_while is_ascii_digit c))) (same_count a c h.fronts) (ap (λ ds. nat_lt most (digits_value 10 ds)) h.fronts)
      where
        by_tests : prefix_while is_ascii_digit a ≡ prefix_while is_ascii_digit c → Near w (skip_while is_ascii_digit a) (skip_while is_ascii_digit c) ⊎ IsPast w (skip_while is_ascii_digit a) → (u v x y : Bool) → u ≡ v → x ≡ y
            → Same w (f (counted u x (prefix_while is_ascii_digit a) (skip_while is_ascii_digit a))) (g (counted v y (prefix_while is_ascii_digit c) (skip_while is_ascii_digit c)))
        by_tests same left true true x y e i = none
        by_tests same left false false true true e i = none
        by_tests same left false false false false e i =
            subst (λ ds. Same w (f (Some (digits_value 10 (prefix_while is_ascii_digit a), skip_while is_ascii_digit a))) (g (Some (digits_value 10 ds, skip_while is_ascii_digit c)))) same
            (some (digits_value 10 (prefix_while is_ascii_digit a)) _ _ left)
        by_tests same left true false x y e i = cc
        by_tests same left false true x y e i = cc
        by_tests same left false false true false e i = cc
        by_tests same left false false false true e i = cc

  pub good_digits : (most : ℕ) → Good w (digits_at most)
  unfolding digits_at
  good_digits most = good_here w _ (λ bytes. stays _ (λ n. both_move blanks_move (digits_move most n)) (digits_sound most bytes) (digits_next most bytes)) (λ a c here.
      digits_same most (found_or (next a)) (found_or (next c)) (record { it = tt }) (λ n m l e. record { it = elim e [ inl near ↦ inl (refl, near) | inr less ↦ inr less ] }) (next a) (next c) here)

  -- numbers
  abbrev number_of : List ℕ → Read ℤ
  number_of at = found_or at (if begins_with 45 at then below_nought (drop 1 at) else above_nought at)

  signed : (most : ℕ) (g : ℕ → ℤ) (at to x y : List ℕ) → Near w x y
      → Alike (found_or at (option_map (λ (z : ℕ × List ℕ). (g z.0, z.1)) (digits_here most x))) (found_or to (option_map (λ (z : ℕ × List ℕ). (g z.0, z.1)) (digits_here most y)))
  signed most g at to x y r =
      digits_same most (λ o. found_or at (option_map (λ (z : ℕ × List ℕ). (g z.0, z.1)) o)) (λ o. found_or to (option_map (λ (z : ℕ × List ℕ). (g z.0, z.1)) o)) (record { it = tt })
      (λ n m l e. record { it = elim e [ inl near ↦ inl (refl, near) | inr less ↦ inr less ] }) x y r

  number_same : (q : List ℕ) → Alike (number_of (q ++ first ∷ rest)) (number_of (q ++ first ∷ other))
  number_same [] = by_test (first == 45) no_minus
    where
      by_test : (u : Bool) → u ≡ false
          → Alike (found_or (first ∷ rest) (if u then below_nought rest else above_nought (first ∷ rest))) (found_or (first ∷ other) (if u then below_nought other else above_nought (first ∷ other)))
      by_test true e = cc
      by_test false e = signed (2 ^ 63 - 1) pos _ _ (first ∷ rest) (first ∷ other) (at_front [])
  number_same (d ∷ q) = by_test (d == 45)
    where
      by_test : (u : Bool)
          → Alike (found_or (d ∷ (q ++ first ∷ rest)) (if u then below_nought (q ++ first ∷ rest) else above_nought (d ∷ (q ++ first ∷ rest))))
          (found_or (d ∷ (q ++ first ∷ other)) (if u then below_nought (q ++ first ∷ other) else above_nought (d ∷ (q ++ first ∷ other))))
      by_test true = signed (2 ^ 63) (λ n. neg_ℤ (pos n)) _ _ (q ++ first ∷ rest) (q ++ first ∷ other) (at_front q)
      by_test false = signed (2 ^ 63 - 1) pos _ _ (d ∷ (q ++ first ∷ rest)) (d ∷ (q ++ first ∷ other)) (at_front (d ∷ q))

  pub number_fine : Fine number_at
  unfolding number_at
  number_fine = good_here w _ (λ bytes. stays _ whole_number_moves (number_sound bytes) (number_next bytes)) (λ a c here. by_front first rest other t number_of number_same (next a) (next c) here)

  -- texts
  abbrev TextSame : Option (List ℕ × List ℕ) → Option (List ℕ × List ℕ) → Type 0
  TextSame None p = Unit {0}
  TextSame (Some x) None = IsPast w x.1
  TextSame (Some x) (Some y) = ((x.0 ≡ y.0) × Near w x.1 y.1) ⊎ IsPast w x.1

  record TextsSame (o p : Option (List ℕ × List ℕ)) : Type 0 where
    same_text : TextSame o p

  -- a text that is closed behind the token
  abbrev Behind : List ℕ → List ℕ → List ℕ → Type 0
  Behind front text left = QuotedFrom false front rest text left

  left_past : (front : List ℕ) (x : List ℕ × List ℕ) → Behind front x.0 x.1 → IsPast w x.1
  left_past front x q = omega (arith, w.shorter x.1, ap length q.spelled, length-append (doubled q.more) (39 ∷ x.1))

  text_past : (front : List ℕ) (o p : Option (List ℕ × List ℕ)) → Found o (Behind front) → TextsSame o p
  text_past front None p f = record { same_text = tt }
  text_past front (Some x) None f = record { same_text = left_past front x f.it }
  text_past front (Some x) (Some y) f = record { same_text = inr (left_past front x f.it) }

  quoted_same : (closed : Bool) (front q : List ℕ) → TextsSame (quoted_from closed front (q ++ first ∷ rest)) (quoted_from closed front (q ++ first ∷ other))
  quoted_same true front [] = by_test (first == 39) no_quote
    where
      by_test : (u : Bool) → u ≡ false → TextsSame (if u then quoted_from false (front ++ 39 ∷ []) rest else Some (front, first ∷ rest)) (if u then quoted_from false (front ++ 39 ∷ []) other else Some (front, first ∷ other))
      by_test true e = cc
      by_test false e = record { same_text = inl (refl, at_front []) }
  quoted_same false front [] = by_test (first == 39) no_quote
    where
      by_test : (u : Bool) → u ≡ false → TextsSame (if u then quoted_from true front rest else quoted_from false (front ++ first ∷ []) rest) (if u then quoted_from true front other else quoted_from false (front ++ first ∷ []) other)
      by_test true e = cc
      by_test false e = text_past (front ++ first ∷ []) _ _ (quoted_sound false (front ++ first ∷ []) rest)
  quoted_same true front (d ∷ q) = by_test (d == 39) (quoted_same false (front ++ 39 ∷ []) q)
    where
      by_test : (u : Bool) → TextsSame (quoted_from false (front ++ 39 ∷ []) (q ++ first ∷ rest)) (quoted_from false (front ++ 39 ∷ []) (q ++ first ∷ other))
          → TextsSame (if u then quoted_from false (front ++ 39 ∷ []) (q ++ first ∷ rest) else Some (front, d ∷ (q ++ first ∷ rest))) (if u then quoted_from false (front ++ 39 ∷ []) (q ++ first ∷ other) else Some (front, d ∷ (q ++ first ∷ other)))
      by_test true h = h
      by_test false h = record { same_text = inl (refl, at_front (d ∷ q)) }
  quoted_same false front (d ∷ q) = by_test (d == 39) (quoted_same true front q) (quoted_same false (front ++ d ∷ []) q)
    where
      by_test : (u : Bool) → TextsSame (quoted_from true front (q ++ first ∷ rest)) (quoted_from true front (q ++ first ∷ other)) → TextsSame (quoted_from false (front ++ d ∷ []) (q ++ first ∷ rest)) (quoted_from false (front ++ d ∷ []) (q ++ first ∷ other))
          → TextsSame (if u then quoted_from true front (q ++ first ∷ rest) else quoted_from false (front ++ d ∷ []) (q ++ first ∷ rest)) (if u then quoted_from true front (q ++ first ∷ other) else quoted_from false (front ++ d ∷ []) (q ++ first ∷ other))
      by_test true h i = h
      by_test false h i = i

  abbrev value_of : List ℕ → Bool → List ℕ → List ℕ → Read Value
  value_of at u text left = elim (if u then Some (Text text) else None) [ None ↦ Err at | Some value ↦ Ok (value, left) ]

  abbrev text_or : List ℕ → Option (List ℕ × List ℕ) → Read Value
  text_or at o = elim o [ None ↦ Err at | Some x ↦ elim (text_of x.0) [ None ↦ Err at | Some value ↦ Ok (value, x.1) ] ]

  -- a refusal is at the quote, and so before the token
  text_same : (at to : List ℕ) → (length at ≡ suc (length rest) → ⊥) → (o p : Option (List ℕ × List ℕ)) → TextsSame o p → Alike (text_or at o) (text_or to p)
  unfolding text_of
  text_same at to n None p h = elsewhere w at (text_or to p) n
  text_same at to n (Some x) None h = by_test (is_utf8 x.0)
    where
      by_test : (u : Bool) → Alike (value_of at u x.0 x.1) (Err to)
      by_test true = record { it = h.same_text }
      by_test false = record { it = tt }
  text_same at to n (Some x) (Some y) h = by_tests (is_utf8 x.0) (is_utf8 y.0) (elim h.same_text [ inl e ↦ inl (ap is_utf8 e.0) | inr less ↦ inr less ]) h.same_text
    where
      by_tests : (u v : Bool) → (u ≡ v) ⊎ IsPast w x.1 → ((x.0 ≡ y.0) × Near w x.1 y.1) ⊎ IsPast w x.1 → Alike (value_of at u x.0 x.1) (value_of to v y.0 y.1)
      by_tests true true e s = record { it = elim s [ inl e ↦ inl (ap (λ (l : List ℕ). Text l) e.0, e.1) | inr less ↦ inr less ] }
      by_tests false false e s = record { it = tt }
      by_tests false true e s = record { it = n }
      by_tests true false (inl e) s = cc
      by_tests true false (inr less) s = record { it = less }

  abbrev opened_at : List ℕ → List ℕ → Read Value
  opened_at at here = elim here [ [] ↦ Err [] | d ∷ ds ↦ if d == 39 then Ok ds else Err (d ∷ ds) ] >>= λ inside. text_or at (quoted inside)

  opened_same : (at to : List ℕ) (q : List ℕ) → length (q ++ first ∷ rest) ≤ length at → Alike (opened_at at (q ++ first ∷ rest)) (opened_at to (q ++ first ∷ other))
  opened_same at to [] h = by_test (first == 39) no_quote
    where
      by_test : (u : Bool) → u ≡ false
          → Alike ((if u then Ok rest else Err (first ∷ rest)) >>= λ inside. text_or at (quoted inside)) ((if u then Ok other else Err (first ∷ other)) >>= λ inside. text_or to (quoted inside))
      by_test true e = cc
      by_test false e = record { it = tt }
  opened_same at to (d ∷ q) h = by_test (d == 39)
    where
      by_test : (u : Bool)
          → Alike ((if u then Ok (q ++ first ∷ rest) else Err (d ∷ (q ++ first ∷ rest))) >>= λ inside. text_or at (quoted inside))
          ((if u then Ok (q ++ first ∷ other) else Err (d ∷ (q ++ first ∷ other))) >>= λ inside. text_or to (quoted inside))
      by_test true = text_same at to (λ n. omega (arith, n, h, length-append q (first ∷ rest))) (quoted (q ++ first ∷ rest)) (quoted (q ++ first ∷ other)) (quoted_same false [] q)
      by_test false = record { it = tt }

  text_fine : Fine text_at
  unfolding text_at symbol_after
  text_fine = good_here w _ (λ bytes. stays _ literal_moves (text_sound bytes) (text_next bytes)) (λ a c here. at_token (next a) (next c) (reach_next first rest other t here))
    where
      at_token : (at to : List ℕ) → Near w (next at) (next to) → Alike (opened_at at (next at)) (opened_at to (next to))
      at_token at to n =
          let within : length (n.front ++ first ∷ rest) ≤ length at = omega (arith, w.shorter at, ap length n.left) in
          subst (λ x. Alike (opened_at at x) (opened_at to (next to))) (sym n.left) (subst (λ x. Alike (opened_at at (n.front ++ first ∷ rest)) (opened_at to x)) (sym n.right) (opened_same at to n.front within))

  constant_fine : Fine constant_at
  unfolding constant_at
  constant_fine = by_word (codes "TRUE") _ _ (ok (Truth true)) (by_word (codes "FALSE") _ _ (ok (Truth false)) (last_word (codes "NULL") (λ rest. Ok (Null, rest)) (ok Null)))

  pub literal_fine : Fine literal_at
  unfolding literal_at
  literal_fine =
      at_next _ (good_if w (begins_with 39) text_at _ (record { tells = λ a c r. inl (first_same (begins_with 39) (λ d q more. refl) r) }) text_fine
      (good_if w begins_number _ constant_at (record { tells = λ a c r. inl (first_same begins_number (λ d q more. refl) r) }) (reads number_at (λ z rest. Ok (Int z, rest)) number_fine (λ z. ok (Int z))) constant_fine))

  -- operators
  or_equal_inside : (strict loose : Operator) (bytes : List ℕ) → Within w bytes (Ok (or_equal strict loose bytes))
  or_equal_inside strict loose [] = record { it = left_all w [] }
  or_equal_inside strict loose (b ∷ bytes) = by_test (b == 61)
    where
      by_test : (u : Bool) → Within w (b ∷ bytes) (Ok (if u then (loose, bytes) else (strict, b ∷ bytes)))
      by_test true = record { it = left_behind first rest other t (b ∷ []) refl }
      by_test false = record { it = left_all w (b ∷ bytes) }

  or_equal_same : (strict loose : Operator) (q : List ℕ) → Alike (Ok (or_equal strict loose (q ++ first ∷ rest))) (Ok (or_equal strict loose (q ++ first ∷ other)))
  or_equal_same strict loose [] = by_test (first == 61)
    where
      by_test : (u : Bool) → Alike (Ok (if u then (loose, rest) else (strict, first ∷ rest))) (Ok (if u then (loose, other) else (strict, first ∷ other)))
      by_test true = record { it = inr (w.shorter rest) }
      by_test false = record { it = inl (refl, at_front []) }
  or_equal_same strict loose (d ∷ q) = by_test (d == 61)
    where
      by_test : (u : Bool) → Alike (Ok (if u then (loose, q ++ first ∷ rest) else (strict, d ∷ (q ++ first ∷ rest)))) (Ok (if u then (loose, q ++ first ∷ other) else (strict, d ∷ (q ++ first ∷ other))))
      by_test true = record { it = inl (refl, at_front q) }
      by_test false = record { it = inl (refl, at_front (d ∷ q)) }

  operator_same : (q : List ℕ) → Alike (operator_of (q ++ first ∷ rest)) (operator_of (q ++ first ∷ other))
  operator_same [] = by_tests (first == 61) (first == 60) (first == 62)
    where
      by_tests : (u v x : Bool)
          → Alike (if u then Ok (Equal, rest) else if v then Ok (or_equal Below AtMost rest) else if x then Ok (or_equal Above AtLeast rest) else Err (first ∷ rest))
          (if u then Ok (Equal, other) else if v then Ok (or_equal Below AtMost other) else if x then Ok (or_equal Above AtLeast other) else Err (first ∷ other))
      by_tests true v x = record { it = inr (w.shorter rest) }
      by_tests false true x = past w _ _ (w.shorter rest) (or_equal_inside Below AtMost rest)
      by_tests false false true = past w _ _ (w.shorter rest) (or_equal_inside Above AtLeast rest)
      by_tests false false false = record { it = tt }
  operator_same (d ∷ q) = by_tests (d == 61) (d == 60) (d == 62)
    where
      by_tests : (u v x : Bool)
          → Alike (if u then Ok (Equal, q ++ first ∷ rest) else if v then Ok (or_equal Below AtMost (q ++ first ∷ rest)) else if x then Ok (or_equal Above AtLeast (q ++ first ∷ rest)) else Err (d ∷ (q ++ first ∷ rest)))
          (if u then Ok (Equal, q ++ first ∷ other) else if v then Ok (or_equal Below AtMost (q ++ first ∷ other)) else if x then Ok (or_equal Above AtLeast (q ++ first ∷ other)) else Err (d ∷ (q ++ first ∷ other)))
      by_tests true v x = record { it = inl (refl, at_front q) }
      by_tests false true x = or_equal_same Below AtMost q
      by_tests false false true = or_equal_same Above AtLeast q
      by_tests false false false = record { it = tt }

  pub operator_fine : Fine operator_at
  unfolding operator_at
  operator_fine = good_here w _ (λ bytes. stays _ operator_moves (operator_sound bytes) (operator_next bytes)) (λ a c here. by_front first rest other t operator_of operator_same (next a) (next c) here)

  pub instant_fine : Fine instant_at
  unfolding instant_at
  instant_fine = good_digits max_instant

  -- sizes and types
  capped_same : (a c : List ℕ) → Near w a c → Alike (capped_or a) (capped_or c)
  capped_same a c near =
      let h = runs w is_ascii_digit digit_is_name a c near in
      by_tests h.fronts h.left (prefix_len is_ascii_digit a == 0) (prefix_len is_ascii_digit c == 0) (same_count a c h.fronts)
    where
      by_tests : prefix_while is_ascii_digit a ≡ prefix_while is_ascii_digit c → Near w (skip_while is_ascii_digit a) (skip_while is_ascii_digit c) ⊎ IsPast w (skip_while is_ascii_digit a) → (u v : Bool) → u ≡ v
          → Alike (if u then Err a else Ok (capped_from 0 (prefix_while is_ascii_digit a), skip_while is_ascii_digit a)) (if v then Err c else Ok (capped_from 0 (prefix_while is_ascii_digit c), skip_while is_ascii_digit c))
      by_tests same left true true e = record { it = tt }
      by_tests same left true false e = cc
      by_tests same left false true e = cc
      by_tests same left false false e = record { it = elim left [ inl n ↦ inl (ap (capped_from 0) same, n) | inr less ↦ inr less ] }

  pub capped_fine : Fine (capped_at next)
  unfolding capped_at
  capped_fine = good_here w _ (λ bytes. stays _ (λ n. both_move blanks_move (capped_moves n)) (capped_sound bytes) (capped_next bytes)) (λ a c here. capped_same (next a) (next c) here)
