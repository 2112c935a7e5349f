-- Tokens of two texts that are the same up to a token and in it.
use Rattle.std.proofs.Common.{◌≡◌, ◌≤◌, ◌+◌, ℕ, suc, cond, Bool, true, false, List, [], ◌∷◌, ◌++◌, ◌==◌, ◌⊎◌, inl, inr, Ok, Err, length, take, drop, refl, ap, sym, ◌∙◌, subst, arith, if◌then◌else◌}
use Rattle.std.specs.List.{prefix_len}
use Rattle.std.specs.Char.{is_ascii_digit}
use Rattle.std.proofs.lemmas.Bool.Decides.{nat_tests}
use Rattle.std.proofs.lemmas.List.{take-append-drop, length-append}
use Rattle.values.specs.Names.{same_name}
use Rattle.tokens.specs.Token.{After, Read, prefix_while, skip_while, symbol_at}
use Rattle.tokens.specs.Run.{Ends}
use Rattle.tokens.specs.Place.{IsToken}
use Rattle.tokens.specs.Word.{is_name_byte, is_word_at, after_word, word_at}
use Rattle.tokens.specs.Name.{is_name, name_at}
use Rattle.tokens.proofs.PlaceSame.{Texts, Near, IsPast, Left, left_of, Within, WithinAfter, wider, Same, SameAfter, past, same_place, Good, GoodAfter, good_here, Tells}

-- ---- runs of bytes at the front

one_more : (n : ℕ) → 1 + n ≡ suc n
one_more n = omega arith

module _ (p : ℕ → Bool) (b : ℕ) (bs : List ℕ) where
  front_more : p b ≡ true → prefix_while p (b ∷ bs) ≡ b ∷ prefix_while p bs
  front_more is = ap (λ t. take (cond t (1 + prefix_len p bs) 0) (b ∷ bs)) is ∙ ap (λ (n : ℕ). take n (b ∷ bs)) (one_more (prefix_len p bs))

  front_none : p b ≡ false → prefix_while p (b ∷ bs) ≡ []
  front_none is = ap (λ t. take (cond t (1 + prefix_len p bs) 0) (b ∷ bs)) is

  pub skip_more : p b ≡ true → skip_while p (b ∷ bs) ≡ skip_while p bs
  skip_more is = ap (λ t. drop (cond t (1 + prefix_len p bs) 0) (b ∷ bs)) is ∙ ap (λ (n : ℕ). drop n (b ∷ bs)) (one_more (prefix_len p bs))

  pub skip_none : p b ≡ false → skip_while p (b ∷ bs) ≡ b ∷ bs
  skip_none is = ap (λ t. drop (cond t (1 + prefix_len p bs) 0) (b ∷ bs)) is

pub skip_within : (p : ℕ → Bool) (bs : List ℕ) → length (skip_while p bs) ≤ length bs
skip_within p bs = omega (arith, ap length (take-append-drop (prefix_len p bs) bs), length-append (prefix_while p bs) (skip_while p bs))

-- what comes first of a token that is whole in both texts
module _ (p : ℕ → Bool) (within : (b : ℕ) → is_name_byte b ≡ false → p b ≡ false) (rest other : List ℕ) where
  none : (rest : List ℕ) → Ends is_name_byte rest → prefix_while p rest ≡ []
  none [] ends = refl
  none (b ∷ bs) ends = front_none p b bs (within b ends)

  agree : Ends is_name_byte rest → Ends is_name_byte other → (run : List ℕ) → prefix_while p (run ++ rest) ≡ prefix_while p (run ++ other)
  agree one two [] = none rest one ∙ sym (none other two)
  agree one two (b ∷ run) = by_test (p b) refl (agree one two run)
    where
      by_test : (u : Bool) → p b ≡ u → prefix_while p (run ++ rest) ≡ prefix_while p (run ++ other) → prefix_while p (b ∷ (run ++ rest)) ≡ prefix_while p (b ∷ (run ++ other))
      by_test true is h = front_more p b (run ++ rest) is ∙ ap (λ l. b ∷ l) h ∙ sym (front_more p b (run ++ other) is)
      by_test false is h = front_none p b (run ++ rest) is ∙ sym (front_none p b (run ++ other) is)

  pub token_agrees : (first : ℕ) (others : List ℕ) → IsToken first others rest → IsToken first others other → prefix_while p (first ∷ (others ++ rest)) ≡ prefix_while p (first ∷ (others ++ other))
  token_agrees first others (inl a) (inl c) = agree a.1.1 c.1.1 (first ∷ others)
  token_agrees first others (inr a) c = front_none p first (others ++ rest) (within first a.0) ∙ sym (front_none p first (others ++ other) (within first a.0))
  token_agrees first others (inl a) (inr c) = let no : true ≡ false = sym a.0 ∙ c.0 in cc

pub digit_is_name : (b : ℕ) → is_name_byte b ≡ false → is_ascii_digit b ≡ false
digit_is_name b is = grind (arith, nat_tests)

module _ (w : Texts) where
  pub record RunSame (p : ℕ → Bool) (a c : List ℕ) : Type 0 where
    pub fronts : prefix_while p a ≡ prefix_while p c
    pub left : Near w (skip_while p a) (skip_while p c) ⊎ IsPast w (skip_while p a)

  module _ (p : ℕ → Bool) (within : (b : ℕ) → is_name_byte b ≡ false → p b ≡ false) where
    run_same : (q : List ℕ) → RunSame p (q ++ w.first ∷ w.rest) (q ++ w.first ∷ w.other)
    run_same [] = record { fronts = w.runs p within; left = by_test (p w.first) refl }
      where
        by_test : (u : Bool) → p w.first ≡ u → Near w (skip_while p (w.first ∷ w.rest)) (skip_while p (w.first ∷ w.other)) ⊎ IsPast w (skip_while p (w.first ∷ w.rest))
        by_test true is = inr (omega (arith, ap length (skip_more p w.first w.rest is), skip_within p w.rest, w.shorter (skip_while p (w.first ∷ w.rest))))
        by_test false is = inl (record { front = []; left = skip_none p w.first w.rest is; right = skip_none p w.first w.other is })
    run_same (d ∷ q) = by_test (p d) refl (run_same q)
      where
        by_test : (u : Bool) → p d ≡ u → RunSame p (q ++ w.first ∷ w.rest) (q ++ w.first ∷ w.other) → RunSame p (d ∷ (q ++ w.first ∷ w.rest)) (d ∷ (q ++ w.first ∷ w.other))
        by_test true is h = record {
          fronts = front_more p d (q ++ w.first ∷ w.rest) is ∙ ap (λ l. d ∷ l) h.fronts ∙ sym (front_more p d (q ++ w.first ∷ w.other) is);
          left = elim h.left [
            | inl r ↦ inl (record { front = r.front; left = skip_more p d (q ++ w.first ∷ w.rest) is ∙ r.left; right = skip_more p d (q ++ w.first ∷ w.other) is ∙ r.right })
            | inr less ↦ inr (subst (IsPast w) (sym (skip_more p d (q ++ w.first ∷ w.rest) is)) less)
          ];
        }
        by_test false is h = record {
          fronts = front_none p d (q ++ w.first ∷ w.rest) is ∙ sym (front_none p d (q ++ w.first ∷ w.other) is);
          left = inl (record { front = d ∷ q; left = skip_none p d (q ++ w.first ∷ w.rest) is; right = skip_none p d (q ++ w.first ∷ w.other) is });
        }

    pub runs : (a c : List ℕ) → Near w a c → RunSame p a c
    runs a c r = subst (λ x. RunSame p x c) (sym r.left) (subst (λ x. RunSame p (r.front ++ w.first ∷ w.rest) x) (sym r.right) (run_same r.front))

  -- ---- one token

  abbrev TokenSame : After → After → Type 0
  TokenSame (Ok m) (Ok n) = Near w m n ⊎ IsPast w m
  TokenSame (Ok m) (Err c) = ⊥
  TokenSame (Err a) (Ok n) = ⊥
  TokenSame (Err a) (Err c) = Unit {0}

  pub record SameToken (r u : After) : Type 0 where
    pub it : TokenSame r u

  -- a token of both texts, or what comes after the one at which they part
  pub record GoodToken (R : List ℕ → After) : Type 0 where
    pub leaves : (bytes : List ℕ) → WithinAfter w bytes (R bytes)
    pub alike : (a c : List ℕ) → Near w (w.next a) (w.next c) → SameToken (R a) (R c)

  pub good_by : (R : List ℕ → After) → GoodToken R → GoodAfter w R
  good_by R g = record { leaves = g.leaves; alike = λ a c near. elim (w.reaches a c near) [ inl here ↦ of_token (R a) (R c) (g.alike a c here) | inr less ↦ behind (R a) (R c) less (g.leaves a) ] }
    where
      of_token : (r u : After) → SameToken r u → SameAfter w r u
      of_token (Ok m) (Ok n) s = record { it = s.it }
      of_token (Ok m) (Err c) s = absurd s.it
      of_token (Err a) (Ok n) s = absurd s.it
      of_token (Err a) (Err c) s = record { it = tt }

      behind : {bytes : List ℕ} (r u : After) → IsPast w bytes → WithinAfter w bytes r → SameAfter w r u
      behind (Ok m) (Ok n) h i = record { it = inr (omega (arith, h, (i.it).nearer)) }
      behind (Ok m) (Err c) h i = record { it = omega (arith, h, (i.it).nearer) }
      behind (Err a) (Ok n) h i = record { it = λ n. omega (arith, h, n, i.it) }
      behind (Err a) (Err c) h i = record { it = tt }

  -- by whether a token comes next: in both texts, in neither, or where they part
  pub same_by : {B : Type 0} (R : List ℕ → After) → GoodToken R → (a c : List ℕ) → Near w a c → (f g : After → Read B) → Within w a (f (R a))
      → ((m n : List ℕ) → Near w m n ⊎ IsPast w m → R a ≡ Ok m → R c ≡ Ok n → Same w (f (Ok m)) (g (Ok n))) → ((x y : List ℕ) → Same w (f (Err x)) (g (Err y))) → Same w (f (R a)) (g (R c))
  same_by R k a c near f g i both neither = elim (w.reaches a c near) [ inl here ↦ by_token (R a) (R c) refl refl (k.alike a c here) | inr less ↦ past w _ _ less i ]
    where
      by_token : (r u : After) → R a ≡ r → R c ≡ u → SameToken r u → Same w (f r) (g u)
      by_token (Ok m) (Ok n) d e s = both m n s.it d e
      by_token (Ok m) (Err y) d e s = absurd s.it
      by_token (Err x) (Ok n) d e s = absurd s.it
      by_token (Err x) (Err y) d e s = neither x y

  pub same_behind : {B : Type 0} (f : List ℕ → Read B) → Good w f → (m n : List ℕ) → Near w m n ⊎ IsPast w m → Same w (f m) (f n)
  same_behind f h m n at = same_place w (f m) (f n) at (h.within m) (h.same m n)

  pub within_either : {B : Type 0} {bytes : List ℕ} (r : After) (f g : List ℕ → Read B) → WithinAfter w bytes r → ((m : List ℕ) → r ≡ Ok m → Within w m (f m)) → ((at : List ℕ) → Within w bytes (g at))
      → Within w bytes (elim r [ Ok rest ↦ f rest | Err at ↦ g at ])
  within_either (Ok m) f g l one two = wider w (f m) l.it (one m refl)
  within_either (Err at) f g l one two = two at

  pub good_either : {B : Type 0} (R : List ℕ → After) (f g : List ℕ → Read B) → GoodToken R → Good w f → Good w g → Good w (λ bytes. elim (R bytes) [ Ok rest ↦ f rest | Err at ↦ g bytes ])
  good_either {B} R f g k h i = record {
    within = inside;
    same = λ a c near. same_by R k a c near (λ r. elim r [ Ok rest ↦ f rest | Err at ↦ g a ]) (λ r. elim r [ Ok rest ↦ f rest | Err at ↦ g c ]) (inside a) (λ m n e _ _. same_behind f h m n e) (λ _ _. i.same a c near);
  }
    where
      inside : (bytes : List ℕ) → Within w bytes (elim (R bytes) [ Ok rest ↦ f rest | Err at ↦ g bytes ])
      inside bytes = within_either (R bytes) f (λ at. g bytes) (k.leaves bytes) (λ m e. h.within m) (λ at. i.within bytes)

  -- what comes after a token, or a refusal at it
  pub good_token : {B : Type 0} (R : List ℕ → After) (f : List ℕ → Read B) → GoodToken R → Good w f → Good w (λ bytes. elim (R bytes) [ Ok rest ↦ f rest | Err at ↦ Err at ])
  good_token {B} R f k h = record {
    within = λ bytes. led bytes (R bytes) (k.leaves bytes);
    same = λ a c near. same_by R k a c near (λ r. elim r [ Ok rest ↦ f rest | Err at ↦ Err at ]) (λ r. elim r [ Ok rest ↦ f rest | Err at ↦ Err at ]) (led a (R a) (k.leaves a)) (λ m n e _ _. same_behind f h m n e) (λ _ _. record { it = tt });
  }
    where
      led : (bytes : List ℕ) (r : After) → WithinAfter w bytes r → Within w bytes (elim r [ Ok rest ↦ f rest | Err at ↦ Err at ])
      led bytes (Ok m) l = wider w (f m) l.it (h.within m)
      led bytes (Err at) l = record { it = l.it }

  -- a token that may be missing
  pub good_optional : {B : Type 0} (R : List ℕ → After) (f : List ℕ → Read B) → GoodToken R → Good w f → Good w (λ bytes. f (elim (R bytes) [ Ok rest ↦ rest | Err at ↦ bytes ]))
  good_optional {B} R f k h = record {
    within = λ bytes. led bytes (R bytes) (k.leaves bytes);
    same = λ a c near. same_by R k a c near (λ r. f (elim r [ Ok rest ↦ rest | Err at ↦ a ])) (λ r. f (elim r [ Ok rest ↦ rest | Err at ↦ c ])) (led a (R a) (k.leaves a)) (λ m n e _ _. same_behind f h m n e) (λ _ _. h.same a c near);
  }
    where
      led : (bytes : List ℕ) (r : After) → WithinAfter w bytes r → Within w bytes (f (elim r [ Ok rest ↦ rest | Err at ↦ bytes ]))
      led bytes (Ok m) l = wider w (f m) l.it (h.within m)
      led bytes (Err at) l = h.within bytes

  pub good_peek : {B : Type 0} (R : List ℕ → After) (f g : List ℕ → Read B) → GoodToken R → Good w f → Good w g → Good w (λ bytes. elim (R bytes) [ Ok rest ↦ f bytes | Err at ↦ g bytes ])
  good_peek {B} R f g k h i = record {
    within = λ bytes. inside bytes (R bytes);
    same = λ a c near. same_by R k a c near (λ r. elim r [ Ok rest ↦ f a | Err at ↦ g a ]) (λ r. elim r [ Ok rest ↦ f c | Err at ↦ g c ]) (inside a (R a)) (λ _ _ _ _ _. h.same a c near) (λ _ _. i.same a c near);
  }
    where
      inside : (bytes : List ℕ) (r : After) → Within w bytes (elim r [ Ok rest ↦ f bytes | Err at ↦ g bytes ])
      inside bytes (Ok rest) = h.within bytes
      inside bytes (Err at) = i.within bytes

  -- ---- symbols

  abbrev symbol_of : ℕ → List ℕ → After
  symbol_of symbol at = elim at [ [] ↦ Err [] | d ∷ ds ↦ if d == symbol then Ok ds else Err (d ∷ ds) ]

  symbol_leaves : (symbol : ℕ) (bytes at : List ℕ) → length at ≤ length (w.next bytes) → WithinAfter w bytes (symbol_of symbol at)
  symbol_leaves symbol bytes [] h = record { it = h }
  symbol_leaves symbol bytes (d ∷ ds) h = by_test (d == symbol)
    where
      by_test : (u : Bool) → WithinAfter w bytes (if u then Ok ds else Err (d ∷ ds))
      by_test true = record { it = left_of w bytes ds (omega (arith, h)) }
      by_test false = record { it = h }

  symbol_same : (symbol : ℕ) (q : List ℕ) → SameToken (symbol_of symbol (q ++ w.first ∷ w.rest)) (symbol_of symbol (q ++ w.first ∷ w.other))
  symbol_same symbol [] = by_test (w.first == symbol)
    where
      by_test : (u : Bool) → SameToken (if u then Ok w.rest else Err (w.first ∷ w.rest)) (if u then Ok w.other else Err (w.first ∷ w.other))
      by_test true = record { it = inr (w.shorter w.rest) }
      by_test false = record { it = tt }
  symbol_same symbol (d ∷ q) = by_test (d == symbol)
    where
      by_test : (u : Bool) → SameToken (if u then Ok (q ++ w.first ∷ w.rest) else Err (d ∷ (q ++ w.first ∷ w.rest))) (if u then Ok (q ++ w.first ∷ w.other) else Err (d ∷ (q ++ w.first ∷ w.other)))
      by_test true = record { it = inl (record { front = q; left = refl; right = refl }) }
      by_test false = record { it = tt }

  pub good_symbol : (symbol : ℕ) → GoodToken (symbol_at w.next symbol)
  unfolding symbol_at
  good_symbol symbol = record {
    leaves = λ bytes. symbol_leaves symbol bytes (w.next bytes) (omega arith);
    alike = λ a c n.
        subst (λ x. SameToken (symbol_of symbol x) (symbol_of symbol (w.next c))) (sym n.left)
        (subst (λ x. SameToken (symbol_of symbol (n.front ++ w.first ∷ w.rest)) (symbol_of symbol x)) (sym n.right) (symbol_same symbol n.front));
  }

  -- ---- words and names

  skip_left : (p : ℕ → Bool) (bytes : List ℕ) → Left w bytes (skip_while p (w.next bytes))
  skip_left p bytes = left_of w bytes _ (skip_within p (w.next bytes))

  names : (a c : List ℕ) → Near w a c → RunSame is_name_byte a c
  names = runs is_name_byte (λ b is. is)

  pub good_word : (word : List ℕ) → GoodToken (word_at w.next word)
  unfolding is_word_at after_word word_at
  good_word word = record {
    leaves = λ bytes. leaves bytes (same_name word (prefix_while is_name_byte (w.next bytes)));
    alike = λ a c here. let h = names (w.next a) (w.next c) here in by_tests (w.next a) (w.next c) h.left _ _ (ap (same_name word) h.fronts);
  }
    where
      leaves : (bytes : List ℕ) (u : Bool) → WithinAfter w bytes (if u then Ok (skip_while is_name_byte (w.next bytes)) else Err (w.next bytes))
      leaves bytes true = record { it = skip_left is_name_byte bytes }
      leaves bytes false = record { it = omega arith }

      by_tests : (a c : List ℕ) → Near w (skip_while is_name_byte a) (skip_while is_name_byte c) ⊎ IsPast w (skip_while is_name_byte a) → (u v : Bool) → u ≡ v
          → SameToken (if u then Ok (skip_while is_name_byte a) else Err a) (if v then Ok (skip_while is_name_byte c) else Err c)
      by_tests a c left true true e = record { it = left }
      by_tests a c left false false e = record { it = tt }
      by_tests a c left true false e = cc
      by_tests a c left false true e = cc

  pub tells_word : (word : List ℕ) → Tells w (is_word_at w.next word)
  unfolding is_word_at
  tells_word word = record { tells = λ a c near. elim (w.reaches a c near) [ inl here ↦ inl (ap (same_name word) (names (w.next a) (w.next c) here).fronts) | inr less ↦ inr less ] }

  pub good_name : Good w (name_at w.next)
  unfolding name_at
  good_name = good_here w _ (λ bytes. inside bytes (is_name (prefix_while is_name_byte (w.next bytes)))) (λ a c here. let h = names (w.next a) (w.next c) here in by_tests (w.next a) (w.next c) h _ _ (ap is_name h.fronts))
    where
      inside : (bytes : List ℕ) (u : Bool) → Within w bytes (if u then Ok (prefix_while is_name_byte (w.next bytes), skip_while is_name_byte (w.next bytes)) else Err (w.next bytes))
      inside bytes true = record { it = skip_left is_name_byte bytes }
      inside bytes false = record { it = omega arith }

      by_tests : (a c : List ℕ) → RunSame is_name_byte a c → (u v : Bool) → u ≡ v
          → Same w (if u then Ok (prefix_while is_name_byte a, skip_while is_name_byte a) else Err a) (if v then Ok (prefix_while is_name_byte c, skip_while is_name_byte c) else Err c)
      by_tests a c h true true e = record { it = elim h.left [ inl near ↦ inl (h.fronts, near) | inr less ↦ inr less ] }
      by_tests a c h false false e = record { it = tt }
      by_tests a c h true false e = cc
      by_tests a c h false true e = cc
