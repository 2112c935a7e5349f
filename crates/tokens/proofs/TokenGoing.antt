-- What was read can be gone on with: how the parts of a reading that stopped make the whole.
use Rattle.std.proofs.Common.{◌≡◌, ℕ, List, [], ◌++◌, Ok, Err, refl, ap, sym, ◌∙◌, subst}
use Rattle.std.proofs.lemmas.List.{append_assoc}
use Rattle.tokens.specs.Token.{After, Read, ◌>>=◌}
use Rattle.tokens.proofs.TokenFollows.{Spelling, Follows, IsClean, clean_follows, front_follows, Moved, Moves}

-- bytes that are a piece, whatever clean bytes follow them
pub record Usual {A : Type 0} (P : A → Spelling) : Type 0 where
  pub text : List ℕ
  pub value : A
  pub clean : (tail : List ℕ) → IsClean tail → IsClean (text ++ tail)
  pub holds : (tail : List ℕ) → IsClean tail → P value (text ++ tail) tail

-- the bytes before a fault can go on to a piece
pub record Goes {A : Type 0} (P : A → Spelling) (bytes at : List ℕ) : Type 0 where
  pub front : List ℕ
  pub place : bytes ≡ front ++ at
  pub more : List ℕ
  pub value : A
  pub clean : (tail : List ℕ) → IsClean tail → IsClean (more ++ tail)
  pub goes : (tail : List ℕ) → IsClean tail → P value (front ++ (more ++ tail)) tail

abbrev IsOne : {A : Type 0} → (A → Spelling) → List ℕ → Read A → Type 0
IsOne P bytes (Ok x) = P x.0 bytes x.1
IsOne P bytes (Err at) = Goes P bytes at

-- what was read is a piece, and where reading stopped the bytes before the fault can go on to one
pub record Reads {A : Type 0} (P : A → Spelling) (bytes : List ℕ) (r : Read A) : Type 0 where
  pub it : IsOne P bytes r

abbrev IsOneAfter : Spelling → List ℕ → After → Type 0
IsOneAfter P bytes (Ok rest) = P bytes rest
IsOneAfter P bytes (Err at) = Goes {A = Unit {0}} (λ _. P) bytes at

pub record ReadsAfter (P : Spelling) (bytes : List ℕ) (r : After) : Type 0 where
  pub it : IsOneAfter P bytes r

-- ---- one piece, and then another

-- a value's piece, and then one that its value has a say in
pub record Then {A B : Type 0} (P : A → Spelling) (Q : A → B → Spelling) (y : B) (bytes rest : List ℕ) : Type 0 where
  pub value : A
  pub between : List ℕ
  pub first : P value bytes between
  pub second : Q value y between rest

module _ {A B : Type 0} {P : A → Spelling} {Q : A → B → Spelling} where
  -- after the first piece reading stopped in the second
  goes_behind : {bytes m at : List ℕ} (x : A) → Moved (P x) bytes m → Goes (Q x) m at → Goes (Then P Q) bytes at
  goes_behind {bytes} {m} {at} x a c = record {
    front = a.taken ++ c.front;
    place = a.place ∙ ap (λ (l : List ℕ). a.taken ++ l) c.place ∙ sym (append_assoc a.taken c.front at);
    more = c.more;
    value = c.value;
    clean = c.clean;
    goes = λ tail clean.
        let other : List ℕ = c.more ++ tail in
        let follows : Follows m (c.front ++ other) = subst (λ (l : List ℕ). Follows l (c.front ++ other)) (sym c.place) (front_follows c.front at other (clean_follows at other (c.clean tail clean))) in
        subst (λ (l : List ℕ). Then P Q c.value l tail) (sym (append_assoc a.taken c.front other)) (record {
          value = x;
          between = c.front ++ other;
          first = a.stays (c.front ++ other) follows;
          second = c.goes tail clean;
        });
  }

  -- reading stopped in the first
  goes_first : {bytes at : List ℕ} (c : Goes P bytes at) → Usual (Q c.value) → Goes (Then P Q) bytes at
  goes_first c u = record {
    front = c.front;
    place = c.place;
    more = c.more ++ u.text;
    value = u.value;
    clean = λ tail clean. subst IsClean (sym (append_assoc c.more u.text tail)) (c.clean (u.text ++ tail) (u.clean tail clean));
    goes = λ tail clean. subst (λ (l : List ℕ). Then P Q u.value (c.front ++ l) tail) (sym (append_assoc c.more u.text tail)) (record {
      value = c.value;
      between = u.text ++ tail;
      first = c.goes (u.text ++ tail) (u.clean tail clean);
      second = u.holds tail clean;
    });
  }

  pub reads_behind : {bytes m : List ℕ} (x : A) → P x bytes m → Moves (P x) → (r : Read B) → Reads (Q x) m r → Reads (Then P Q) bytes r
  reads_behind {bytes} {m} x is moves (Ok y) s = record { it = record { value = x; between = m; first = is; second = s.it } }
  reads_behind {bytes} {m} x is moves (Err at) s = record { it = goes_behind x (moves bytes m is) s.it }

  pub reads_then : {bytes : List ℕ} (r : Read A) (f : A × List ℕ → Read B) → ((x : A) → Moves (P x)) → ((x : A) → Usual (Q x))
      → Reads P bytes r → ((x : A) (m : List ℕ) → Reads (Q x) m (f (x, m))) → Reads (Then P Q) bytes (r >>= f)
  reads_then (Ok x) f moves usual s go = reads_behind x.0 s.it (moves x.0) (f x) (go x.0 x.1)
  reads_then (Err at) f moves usual s go = record { it = goes_first s.it (usual (s.it).value) }

  -- the same, where reading is by cases
  pub reads_read : {bytes : List ℕ} (r : Read A) (f : A × List ℕ → Read B) → ((x : A) → Moves (P x)) → ((x : A) → Usual (Q x))
      → Reads P bytes r → ((x : A) (m : List ℕ) → Reads (Q x) m (f (x, m))) → Reads (Then P Q) bytes (elim r [ Ok x ↦ f x | Err at ↦ Err at ])
  reads_read (Ok x) f moves usual s go = reads_behind x.0 s.it (moves x.0) (f x) (go x.0 x.1)
  reads_read (Err at) f moves usual s go = record { it = goes_first s.it (usual (s.it).value) }

-- a piece without a value, and then another
pub record Next {B : Type 0} (P : Spelling) (Q : B → Spelling) (y : B) (bytes rest : List ℕ) : Type 0 where
  pub between : List ℕ
  pub first : P bytes between
  pub second : Q y between rest

next_of : {B : Type 0} {P : Spelling} {Q : B → Spelling} {y : B} {bytes rest : List ℕ} → Then {A = Unit {0}} (λ _. P) (λ _. Q) y bytes rest → Next P Q y bytes rest
next_of t = record { between = t.between; first = t.first; second = t.second }

-- ---- a weaker piece, and another value

pub goes_weaker : {A B : Type 0} {P : A → Spelling} {Q : B → Spelling} {bytes at : List ℕ} (v : A → B) → Goes P bytes at → ((x : A) (b r : List ℕ) → P x b r → Q (v x) b r) → Goes Q bytes at
goes_weaker v c h = record { front = c.front; place = c.place; more = c.more; value = v c.value; clean = c.clean; goes = λ tail clean. h c.value _ tail (c.goes tail clean) }

pub reads_weaker : {A : Type 0} {P Q : A → Spelling} {bytes : List ℕ} (r : Read A) → Reads P bytes r → ((x : A) (b rest : List ℕ) → P x b rest → Q x b rest) → Reads Q bytes r
reads_weaker (Ok x) s h = record { it = h x.0 _ x.1 s.it }
reads_weaker (Err at) s h = record { it = goes_weaker (λ x. x) s.it h }

pub usual_weaker : {A B : Type 0} {P : A → Spelling} {Q : B → Spelling} (v : A → B) → Usual P → ((x : A) (b r : List ℕ) → P x b r → Q (v x) b r) → Usual Q
usual_weaker v u h = record { text = u.text; value = v u.value; clean = u.clean; holds = λ tail clean. h u.value _ tail (u.holds tail clean) }

-- the last value of a reading makes its value
pub reads_map : {A B : Type 0} {P : A → Spelling} {Q : B → Spelling} {bytes : List ℕ} (v : A → B) (r : Read A) → Reads P bytes r → ((x : A) (b rest : List ℕ) → P x b rest → Q (v x) b rest)
    → Reads Q bytes (r >>= λ x. Ok (v x.0, x.1))
reads_map v (Ok x) s h = record { it = h x.0 _ x.1 s.it }
reads_map v (Err at) s h = record { it = goes_weaker v s.it h }

pub reads_map_after : {B : Type 0} {P : Spelling} {Q : B → Spelling} {bytes : List ℕ} (v : B) (r : After) → ReadsAfter P bytes r → ((b rest : List ℕ) → P b rest → Q v b rest)
    → Reads Q bytes (r >>= λ rest. Ok (v, rest))
reads_map_after v (Ok rest) s h = record { it = h _ rest s.it }
reads_map_after v (Err at) s h = record { it = goes_weaker (λ _. v) s.it (λ _ b rest is. h b rest is) }

-- ---- after a token, or where it does not come next

module _ {B : Type 0} {P : Spelling} {Q : B → Spelling} where
  weaken : {bytes : List ℕ} (r : Read B) → Reads (Then {A = Unit {0}} (λ _. P) (λ _. Q)) bytes r → Reads (Next P Q) bytes r
  weaken r s = reads_weaker r s (λ x b rest t. next_of t)

  pub reads_past : {bytes m : List ℕ} → P bytes m → Moves P → (r : Read B) → Reads Q m r → Reads (Next P Q) bytes r
  reads_past is moves r s = weaken r (reads_behind {P = λ _. P} {Q = λ _. Q} tt is moves r s)

  pub after_then : {bytes : List ℕ} (r : After) (f : List ℕ → Read B) → Moves P → Usual Q → ReadsAfter P bytes r → ((m : List ℕ) → Reads Q m (f m)) → Reads (Next P Q) bytes (r >>= f)
  after_then (Ok m) f moves usual s go = reads_past s.it moves (f m) (go m)
  after_then (Err at) f moves usual s go = weaken (Err at) (record { it = goes_first s.it usual })

-- two pieces without values, one after the other
pub valued : {P : Spelling} {bytes : List ℕ} (r : After) → ReadsAfter P bytes r → Reads {A = Unit {0}} (λ _. P) bytes (r >>= λ rest. Ok (tt, rest))
valued (Ok rest) s = record { it = s.it }
valued (Err at) s = record { it = s.it }

unvalued : {P : Spelling} {bytes : List ℕ} (r : After) → Reads {A = Unit {0}} (λ _. P) bytes (r >>= λ rest. Ok (tt, rest)) → ReadsAfter P bytes r
unvalued (Ok rest) s = record { it = s.it }
unvalued (Err at) s = record { it = s.it }

pub after_both : {P Q Z : Spelling} {bytes : List ℕ} (r : After) (f : List ℕ → After) → Moves P → Usual {A = Unit {0}} (λ _. Q) → ((b m rest : List ℕ) → P b m → Q m rest → Z b rest)
    → ReadsAfter P bytes r → ((m : List ℕ) → ReadsAfter Q m (f m)) → ReadsAfter Z bytes (r >>= f)
after_both {P} {Q} (Ok m) f moves usual to s go =
    unvalued (f m) (reads_weaker _ (reads_past {B = Unit {0}} {Q = λ _. Q} s.it moves _ (valued (f m) (go m))) (λ _ b rest n. to b n.between rest n.first n.second))
after_both {P} {Q} (Err at) f moves usual to s go =
    unvalued (Err at) (reads_weaker (Err at) (after_then {B = Unit {0}} {Q = λ _. Q} (Err at) (λ m. f m >>= λ rest. Ok (tt, rest)) moves usual s (λ m. valued (f m) (go m))) (λ _ b rest n. to b n.between rest n.first n.second))

pub reads_either : {B : Type 0} {P : Spelling} {Q R : B → Spelling} {bytes : List ℕ} (r : After) (f g : List ℕ → Read B) → Moves P → ReadsAfter P bytes r
    → ((y : B) (b rest : List ℕ) → Next P Q y b rest → R y b rest) → ((m : List ℕ) → Reads Q m (f m)) → ((at : List ℕ) → Goes {A = Unit {0}} (λ _. P) bytes at → Reads R bytes (g at))
    → Reads R bytes (elim r [ Ok rest ↦ f rest | Err at ↦ g at ])
reads_either (Ok m) f g moves s h go other = reads_weaker (f m) (reads_past s.it moves (f m) (go m)) h
reads_either (Err at) f g moves s h go other = other at s.it

pub after_read : {B : Type 0} {P : Spelling} {Q : B → Spelling} {bytes : List ℕ} (r : After) (f : List ℕ → Read B) → Moves P → Usual Q → ReadsAfter P bytes r → ((m : List ℕ) → Reads Q m (f m))
    → Reads (Next P Q) bytes (elim r [ Ok rest ↦ f rest | Err at ↦ Err at ])
after_read (Ok m) f moves usual s go = reads_past s.it moves (f m) (go m)
after_read (Err at) f moves usual s go = after_then (Err at) f moves usual s go

pub reads_whether : {B : Type 0} {R : B → Spelling} {bytes : List ℕ} (r : After) (x y : Read B) → Reads R bytes x → Reads R bytes y → Reads R bytes (elim r [ Ok _ ↦ x | Err _ ↦ y ])
reads_whether (Ok m) x y s t = s
reads_whether (Err at) x y s t = t

-- ---- what is made of a last value

abbrev pub By : {A B : Type 0} → (A → B) → (A → Spelling) → B → Spelling
By {A} f P y bytes rest = (x : A) × ((y ≡ f x) × P x bytes rest)

abbrev pub Last : {B : Type 0} → B → Spelling → B → Spelling
Last v P y bytes rest = (y ≡ v) × P bytes rest

pub usual_by : {A B : Type 0} {P : A → Spelling} (f : A → B) → Usual P → Usual (By f P)
usual_by f u = usual_weaker f u (λ x b r is. (x, (refl, is)))

pub reads_by : {A B : Type 0} {P : A → Spelling} {bytes : List ℕ} (f : A → B) (r : Read A) → Reads P bytes r → Reads (By f P) bytes (r >>= λ x. Ok (f x.0, x.1))
reads_by f r s = reads_map f r s (λ x b rest is. (x, (refl, is)))

pub reads_last : {B : Type 0} {P : Spelling} {bytes : List ℕ} (v : B) (r : After) → ReadsAfter P bytes r → Reads (Last v P) bytes (r >>= λ rest. Ok (v, rest))
reads_last v r s = reads_map_after v r s (λ b rest is. (refl, is))

-- what may be missing: nothing comes in its place
pub nothing : {A : Type 0} {P : A → Spelling} (x : A) → ((tail : List ℕ) → P x tail tail) → Usual P
nothing x h = record { text = []; value = x; clean = λ tail clean. clean; holds = λ tail clean. h tail }
