-- Two texts that are the same up to a token and in it: one is read as the other up to the token, and where it is refused at the token, the other is refused as well.
use Rattle.std.proofs.Common.{◌≡◌, ◌≤◌, ℕ, suc, Bool, true, false, List, ◌∷◌, ◌++◌, ◌||◌, ◌⊎◌, inl, inr, Ok, Err, length, refl, ap, sym, ◌∙◌, subst, arith, if◌then◌else◌}
use Rattle.tokens.specs.Token.{After, Read, ◌>>=◌, prefix_while}
use Rattle.tokens.specs.Word.{is_name_byte}

-- bytes of the two texts from a place before the token on
pub record Reach (first : ℕ) (rest other a c : List ℕ) : Type 0 where
  pub front : List ℕ
  pub left : a ≡ front ++ first ∷ rest
  pub right : c ≡ front ++ first ∷ other

-- two texts, by the first byte of the token and what comes after that in each, and what stands between their tokens
pub record Texts : Type 0 where
  pub next : List ℕ → List ℕ
  pub first : ℕ
  pub rest : List ℕ
  pub other : List ℕ
  pub shorter : (bytes : List ℕ) → length (next bytes) ≤ length bytes
  pub reaches : (a c : List ℕ) → Reach first rest other a c → Reach first rest other (next a) (next c) ⊎ (length (next a) ≤ length rest)
  pub runs : (p : ℕ → Bool) → ((b : ℕ) → is_name_byte b ≡ false → p b ≡ false) → prefix_while p (first ∷ rest) ≡ prefix_while p (first ∷ other)

module _ (w : Texts) where
  abbrev pub Near : List ℕ → List ℕ → Type 0
  Near a c = Reach w.first w.rest w.other a c

  -- the next token comes after the one of the two texts
  abbrev pub IsPast : List ℕ → Type 0
  IsPast bytes = length (w.next bytes) ≤ length w.rest

  -- ---- what reading leaves of one text

  pub record Left (bytes rest : List ℕ) : Type 0 where
    pub nearer : length (w.next rest) ≤ length (w.next bytes)
    pub fewer : length rest ≤ length bytes

  pub left_all : (bytes : List ℕ) → Left bytes bytes
  left_all bytes = record { nearer = omega arith; fewer = omega arith }

  pub left_of : (bytes rest : List ℕ) → length rest ≤ length (w.next bytes) → Left bytes rest
  left_of bytes rest h = record { nearer = omega (arith, h, w.shorter rest); fewer = omega (arith, h, w.shorter bytes) }

  abbrev ReadWithin : {A : Type 0} → List ℕ → Read A → Type 0
  ReadWithin bytes (Ok x) = Left bytes x.1
  ReadWithin bytes (Err at) = length at ≤ length (w.next bytes)

  pub record Within {A : Type 0} (bytes : List ℕ) (r : Read A) : Type 0 where
    pub it : ReadWithin bytes r

  abbrev AfterWithin : List ℕ → After → Type 0
  AfterWithin bytes (Ok rest) = Left bytes rest
  AfterWithin bytes (Err at) = length at ≤ length (w.next bytes)

  pub record WithinAfter (bytes : List ℕ) (r : After) : Type 0 where
    pub it : AfterWithin bytes r

  pub wider : {A : Type 0} {bytes m : List ℕ} (r : Read A) → Left bytes m → Within m r → Within bytes r
  wider (Ok x) l i = record { it = record { nearer = omega (arith, l.nearer, (i.it).nearer); fewer = omega (arith, l.fewer, (i.it).fewer) } }
  wider (Err at) l i = record { it = omega (arith, l.nearer, i.it) }

  pub within_then : {A B : Type 0} {bytes : List ℕ} (r : Read A) (f : A × List ℕ → Read B) → Within bytes r → ((x : A) (m : List ℕ) → r ≡ Ok (x, m) → Within m (f (x, m))) → Within bytes (r >>= f)
  within_then (Ok x) f i go = wider (f x) i.it (go x.0 x.1 refl)
  within_then (Err at) f i go = record { it = i.it }

  pub within_after : {B : Type 0} {bytes : List ℕ} (r : After) (f : List ℕ → Read B) → WithinAfter bytes r → ((m : List ℕ) → r ≡ Ok m → Within m (f m)) → Within bytes (r >>= f)
  within_after (Ok m) f i go = wider (f m) i.it (go m refl)
  within_after (Err at) f i go = record { it = i.it }

  -- ---- what is read of both

  abbrev ReadSame : {A : Type 0} → Read A → Read A → Type 0
  ReadSame (Ok x) (Ok y) = ((x.0 ≡ y.0) × Near x.1 y.1) ⊎ IsPast x.1
  ReadSame (Ok x) (Err c) = IsPast x.1
  ReadSame (Err a) (Ok y) = length a ≡ suc (length w.rest) → ⊥
  ReadSame (Err a) (Err c) = Unit {0}

  pub record Same {A : Type 0} (r u : Read A) : Type 0 where
    pub it : ReadSame r u

  abbrev AfterSame : After → After → Type 0
  AfterSame (Ok m) (Ok n) = Near m n ⊎ IsPast m
  AfterSame (Ok m) (Err c) = IsPast m
  AfterSame (Err a) (Ok n) = length a ≡ suc (length w.rest) → ⊥
  AfterSame (Err a) (Err c) = Unit {0}

  pub record SameAfter (r u : After) : Type 0 where
    pub it : AfterSame r u

  -- what is refused elsewhere
  pub elsewhere : {A : Type 0} (a : List ℕ) (u : Read A) → (length a ≡ suc (length w.rest) → ⊥) → Same (Err a) u
  elsewhere a (Ok y) h = record { it = h }
  elsewhere a (Err c) h = record { it = tt }

  -- behind the token nothing is refused at it
  pub past : {A : Type 0} {bytes : List ℕ} (r u : Read A) → IsPast bytes → Within bytes r → Same r u
  past (Ok x) (Ok y) h i = record { it = inr (omega (arith, h, (i.it).nearer)) }
  past (Ok x) (Err c) h i = record { it = omega (arith, h, (i.it).nearer) }
  past (Err a) u h i = elsewhere a u (λ n. omega (arith, h, n, i.it))

  past_after : {bytes : List ℕ} (r u : After) → IsPast bytes → WithinAfter bytes r → SameAfter r u
  past_after (Ok m) (Ok n) h i = record { it = inr (omega (arith, h, (i.it).nearer)) }
  past_after (Ok m) (Err c) h i = record { it = omega (arith, h, (i.it).nearer) }
  past_after (Err a) (Ok n) h i = record { it = λ n. omega (arith, h, n, i.it) }
  past_after (Err a) (Err c) h i = record { it = tt }

  -- near the token, or behind it
  pub same_place : {A : Type 0} {m n : List ℕ} (r u : Read A) → Near m n ⊎ IsPast m → Within m r → (Near m n → Same r u) → Same r u
  same_place r u (inl near) i same = same near
  same_place r u (inr less) i same = past r u less i

  pub same_then : {A B : Type 0} (r u : Read A) (f g : A × List ℕ → Read B) → Same r u → ((x : A) (m : List ℕ) → r ≡ Ok (x, m) → Within m (f (x, m)))
      → ((x : A) (m n : List ℕ) → Near m n → r ≡ Ok (x, m) → u ≡ Ok (x, n) → Same (f (x, m)) (g (x, n))) → Same (r >>= f) (u >>= g)
  same_then (Err a) (Err c) f g s i go = record { it = tt }
  same_then (Err a) (Ok y) f g s i go = elsewhere a (g y) s.it
  same_then (Ok x) (Err c) f g s i go = past (f x) (Err c) s.it (i x.0 x.1 refl)
  same_then {A} {B} (Ok x) (Ok y) f g s i go = by_place s.it
    where
      by_place : ((x.0 ≡ y.0) × Near x.1 y.1) ⊎ IsPast x.1 → Same (f x) (g y)
      by_place (inl (e, near)) = subst (λ (v : A). Same (f x) (g (v, y.1))) e (go x.0 x.1 y.1 near refl (ap (λ (v : A). Ok (v, y.1)) (sym e)))
      by_place (inr h) = past (f x) (g y) h (i x.0 x.1 refl)

  -- ---- readers

  pub record Good {A : Type 0} (R : List ℕ → Read A) : Type 0 where
    pub within : (bytes : List ℕ) → Within bytes (R bytes)
    pub same : (a c : List ℕ) → Near a c → Same (R a) (R c)

  pub record GoodAfter (R : List ℕ → After) : Type 0 where
    pub leaves : (bytes : List ℕ) → WithinAfter bytes (R bytes)
    pub alike : (a c : List ℕ) → Near a c → SameAfter (R a) (R c)

  -- where reading begins at the next token
  pub good_here : {A : Type 0} (R : List ℕ → Read A) → ((bytes : List ℕ) → Within bytes (R bytes)) → ((a c : List ℕ) → Near (w.next a) (w.next c) → Same (R a) (R c)) → Good R
  good_here R i go = record { within = i; same = λ a c near. elim (w.reaches a c near) [ inl here ↦ go a c here | inr h ↦ past (R a) (R c) h (i a) ] }

  pub good_ok : {A : Type 0} (x : A) → Good (λ rest. Ok (x, rest))
  good_ok x = record { within = λ bytes. record { it = left_all bytes }; same = λ a c near. record { it = inl (refl, near) } }

  pub good_then : {A B : Type 0} (R : List ℕ → Read A) (f : A → List ℕ → Read B) → Good R → ((x : A) → Good (f x)) → Good (λ bytes. R bytes >>= λ x. f x.0 x.1)
  good_then R f g h = record {
    within = λ bytes. within_then (R bytes) _ (g.within bytes) (λ x m e. (h x).within m);
    same = λ a c near. same_then (R a) (R c) _ _ (g.same a c near) (λ x m e. (h x).within m) (λ x m n here e i. (h x).same m n here);
  }

  pub good_after : {B : Type 0} (R : List ℕ → After) (f : List ℕ → Read B) → GoodAfter R → Good f → Good (λ bytes. R bytes >>= f)
  good_after {B} R f g h = record { within = λ bytes. within_after (R bytes) f (g.leaves bytes) (λ m e. h.within m); same = λ a c near. joined (R a) (R c) (g.alike a c near) }
    where
      joined : (r u : After) → SameAfter r u → Same (r >>= f) (u >>= f)
      joined (Err a) (Err c) s = record { it = tt }
      joined (Err a) (Ok n) s = elsewhere a (f n) s.it
      joined (Ok m) (Err c) s = past (f m) (Err c) s.it (h.within m)
      joined (Ok m) (Ok n) s = elim s.it [ inl near ↦ h.same m n near | inr less ↦ past (f m) (f n) less (h.within m) ]

  pub after_after : (R k : List ℕ → After) → GoodAfter R → GoodAfter k → GoodAfter (λ bytes. R bytes >>= k)
  after_after R k g h = record { leaves = λ bytes. led bytes (R bytes) (g.leaves bytes); alike = λ a c near. joined (R a) (R c) (g.alike a c near) }
    where
      wider_after : (bytes m : List ℕ) (r : After) → Left bytes m → WithinAfter m r → WithinAfter bytes r
      wider_after bytes m (Ok x) l i = record { it = record { nearer = omega (arith, l.nearer, (i.it).nearer); fewer = omega (arith, l.fewer, (i.it).fewer) } }
      wider_after bytes m (Err at) l i = record { it = omega (arith, l.nearer, i.it) }

      led : (bytes : List ℕ) (r : After) → WithinAfter bytes r → WithinAfter bytes (r >>= k)
      led bytes (Ok m) i = wider_after bytes m (k m) i.it (h.leaves m)
      led bytes (Err at) i = i

      refused : (a : List ℕ) (u : After) → (length a ≡ suc (length w.rest) → ⊥) → SameAfter (Err a) u
      refused a (Ok y) h = record { it = h }
      refused a (Err c) h = record { it = tt }

      joined : (r u : After) → SameAfter r u → SameAfter (r >>= k) (u >>= k)
      joined (Err a) (Err c) s = record { it = tt }
      joined (Err a) (Ok n) s = refused a (k n) s.it
      joined (Ok m) (Err c) s = past_after (k m) (Err c) s.it (h.leaves m)
      joined (Ok m) (Ok n) s = elim s.it [ inl near ↦ h.alike m n near | inr less ↦ past_after (k m) (k n) less (h.leaves m) ]

  -- ---- tests of the token that comes next

  pub record Tells (test : List ℕ → Bool) : Type 0 where
    pub tells : (a c : List ℕ) → Near a c → (test a ≡ test c) ⊎ IsPast a

  pub tells_or : (p q : List ℕ → Bool) → Tells p → Tells q → Tells (λ bytes. p bytes || q bytes)
  tells_or p q f g = record { tells = λ a c near. both a c (f.tells a c near) (g.tells a c near) }
    where
      both : (a c : List ℕ) → (p a ≡ p c) ⊎ IsPast a → (q a ≡ q c) ⊎ IsPast a → ((p a || q a) ≡ (p c || q c)) ⊎ IsPast a
      both a c (inl d) (inl e) = inl (ap (λ (t : Bool). t || q a) d ∙ ap (λ (t : Bool). p c || t) e)
      both a c (inr h) e = inr h
      both a c d (inr h) = inr h

  pub within_if : {A : Type 0} {bytes : List ℕ} (t : Bool) (r u : Read A) → Within bytes r → Within bytes u → Within bytes (if t then r else u)
  within_if true r u i j = i
  within_if false r u i j = j

  pub same_if : {A : Type 0} (t v : Bool) → t ≡ v → (r u p q : Read A) → Same r p → Same u q → Same (if t then r else u) (if v then p else q)
  same_if true true e r u p q s z = s
  same_if false false e r u p q s z = z
  same_if true false e r u p q s z = cc
  same_if false true e r u p q s z = cc

  pub same_test : {A : Type 0} (test : List ℕ → Bool) → Tells test → (a c : List ℕ) → Near a c → (r u p q : Read A) → Within a (if test a then r else u) → Same r p → Same u q → Same (if test a then r else u) (if test c then p else q)
  same_test test d a c near r u p q i s z = elim (d.tells a c near) [ inl e ↦ same_if (test a) (test c) e r u p q s z | inr less ↦ past _ _ less i ]

  pub good_if : {A : Type 0} (test : List ℕ → Bool) (f g : List ℕ → Read A) → Tells test → Good f → Good g → Good (λ bytes. if test bytes then f bytes else g bytes)
  good_if test f g d h i = record { within = inside; same = λ a c near. same_test test d a c near (f a) (g a) (f c) (g c) (inside a) (h.same a c near) (i.same a c near) }
    where
      inside : (bytes : List ℕ) → Within bytes (if test bytes then f bytes else g bytes)
      inside bytes = within_if (test bytes) (f bytes) (g bytes) (h.within bytes) (i.within bytes)
