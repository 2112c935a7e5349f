-- What is kept along a list of events of several parts: each part moves by its own events, and stays beside the whole.
use Rattle.std.proofs.Common.{◌≡◌, ℕ, ◌==◌, List, [], ◌∷◌, ◌++◌, Bool, true, false, refl, sym, arith, filter, if◌then◌else◌, subst, cond}
use Rattle.std.proofs.lemmas.Bool.Decides.{nat_tests}

pub same_number : (a b : ℕ) → (a == b) ≡ true → a ≡ b
same_number a b h = grind (arith, nat_tests)

itself : (a : ℕ) → (a == a) ≡ true
itself a = grind (arith, nat_tests)

module _ {A S : Type 0} (Moves : A → S → S → Type 0) where
  -- a part's events, one after another
  abbrev pub Chain : S → List A → S → Type 0
  Chain s [] s' = s' ≡ s
  Chain s (x ∷ xs) s' = (m : S) × (Moves x s m × Chain m xs s')

  pub chain_append : (s m s' : S) (xs ys : List A) → Chain s xs m → Chain m ys s' → Chain s (xs ++ ys) s'
  chain_append s m s' [] ys first rest = subst (λ s. Chain s ys s') first rest
  chain_append s m s' (x ∷ xs) ys first rest = (first.0, (first.1.0, chain_append first.0 m s' xs ys first.1.1 rest))

module _ {A W S : Type 0} (part : A → ℕ) (add : A → W → W) (Moves : A → S → S → Type 0) (May Right : W → A → Type 0) (Beside : W → ℕ → S → Type 0) where
  abbrev pub of : ℕ → List A → List A
  of i xs = filter (λ x. part x == i) xs

  abbrev pub after_all : W → List A → W
  after_all w [] = w
  after_all w (x ∷ xs) = after_all (add x w) xs

  -- each event may come where it stands
  abbrev pub MayAll : W → List A → Type 0
  MayAll w [] = Unit {0}
  MayAll w (x ∷ xs) = May w x × MayAll (add x w) xs

  -- and is right there
  abbrev pub RightAll : W → List A → Type 0
  RightAll w [] = Unit {0}
  RightAll w (x ∷ xs) = Right w x × RightAll (add x w) xs

  -- a part's own event keeps it beside the whole, and so do the others' events
  pub record Laws : Type 0 where
    pub own : (w : W) (x : A) (old new : S) → May w x → Beside w (part x) old → Moves x old new
        → Right w x × Beside (add x w) (part x) new
    pub other : (w : W) (x : A) (i : ℕ) (old new s : S) → May w x → (part x == i) ≡ false
        → Moves x old new → Beside (add x w) (part x) new → Beside w i s → Beside (add x w) i s

  -- the states once a part's event was taken
  abbrev moved : (ℕ → S) → A → S → ℕ → S
  moved states x m i = if part x == i then m else states i

  its_chain : (x : A) (xs : List A) (s s' : S) → Chain Moves s (of (part x) (x ∷ xs)) s' → Chain Moves s (x ∷ of (part x) xs) s'
  its_chain x xs s s' c = subst (λ b. Chain Moves s (cond b (x ∷ of (part x) xs) (of (part x) xs)) s') (itself (part x)) c

  rest_chain : (x : A) (xs : List A) (states ends : ℕ → S) (m : S) (i : ℕ)
      → Chain Moves m (of (part x) xs) (ends (part x)) → Chain Moves (states i) (of i (x ∷ xs)) (ends i)
      → Chain Moves (moved states x m i) (of i xs) (ends i)
  rest_chain x xs states ends m i its c = by (part x == i) refl
    where
      by : (b : Bool) → (part x == i) ≡ b → Chain Moves (if b then m else states i) (of i xs) (ends i)
      by true h = subst (λ i. Chain Moves m (of i xs) (ends i)) (same_number (part x) i h) its
      by false h = subst (λ b. Chain Moves (states i) (cond b (x ∷ of i xs) (of i xs)) (ends i)) h c

  stays : (laws : Laws) (w : W) (x : A) (states : ℕ → S) (m : S) (i : ℕ) → May w x → Moves x (states (part x)) m
      → Beside (add x w) (part x) m → Beside w i (states i) → Beside (add x w) i (moved states x m i)
  stays laws w x states m i may did its is = by (part x == i) refl
    where
      by : (b : Bool) → (part x == i) ≡ b → Beside (add x w) i (if b then m else states i)
      by true h = subst (λ i. Beside (add x w) i m) (same_number (part x) i h) its
      by false h = laws.other w x i (states (part x)) m (states i) may h did its is

  -- each event is right where it stands, and at the end each part is beside the whole
  pub run : Laws → (xs : List A) (w : W) (states ends : ℕ → S)
      → MayAll w xs → ((i : ℕ) → Beside w i (states i))
      → ((i : ℕ) → Chain Moves (states i) (of i xs) (ends i))
      → RightAll w xs × ((i : ℕ) → Beside (after_all w xs) i (ends i))
  run laws [] w states ends may is goes = (tt, λ i. subst (Beside w i) (sym (goes i)) (is i))
  run laws (x ∷ xs) w states ends may is goes =
      let c : Chain Moves (states (part x)) (x ∷ of (part x) xs) (ends (part x)) = its_chain x xs (states (part x)) (ends (part x)) (goes (part x)) in
      let did = laws.own w x (states (part x)) c.0 may.0 (is (part x)) c.1.0 in
      let rest = run laws xs (add x w) (moved states x c.0) ends may.1
      (λ i. stays laws w x states c.0 i may.0 c.1.0 did.1 (is i))
      (λ i. rest_chain x xs states ends c.0 i c.1.1 (goes i)) in
      ((did.0, rest.0), rest.1)
