-- A production with its laws, and the ways to make one of others.
use Rattle.std.proofs.Common.{◌≡◌, ◌⊎◌, ◌<◌, ◌≤◌, ℕ, Bool, true, false, List, [], ◌∷◌, ◌++◌, inl, inr, Ok, Err, Some, None, length, refl, ap, sym, ◌∙◌, subst, arith}
use Rattle.std.specs.Prelude.{Option, Result, if◌then◌else◌}
use Rattle.std.proofs.lemmas.List.{append_assoc, length-append}
use Rattle.tokens.specs.Token.{After, Read, ◌>>=◌}
use Rattle.tokens.proofs.WordCases.{Refused}
use Rattle.tokens.proofs.TokenFollows.{Spelling, Follows, front_follows, clean_follows, Moves}
use Rattle.tokens.proofs.TokenGoing.{Usual, Goes, Reads, ReadsAfter, Then, Next, By, Last, reads_then, after_then, after_read, after_both, valued, reads_weaker, reads_either, reads_whether, reads_by, reads_last, reads_past}
use Rattle.tokens.proofs.PlaceSame.{Texts, Tells, good_if, Good, GoodAfter, good_ok, good_then, good_after, after_after}
use Rattle.tokens.proofs.TokenSame.{GoodToken, good_by, good_token, good_optional, good_either, good_peek}

-- what stands between the tokens of a text: where a token begins or the text ends, and two texts that are the same up to a token and in it
pub record Gaps : Type 1 where
  pub Starts : List ℕ → Type 0
  pub Parting : Type 0
  pub texts_of : Parting → Texts

-- where reading stops a token begins
abbrev BeginsAt : Gaps → {X : Type 0} → Result X (List ℕ) → Type 0
BeginsAt gaps (Ok x) = Unit {0}
BeginsAt gaps (Err at) = gaps.Starts at

pub record Begins (gaps : Gaps) {X : Type 0} (r : Result X (List ℕ)) : Type 0 where
  pub it : BeginsAt gaps r

-- a token that says nothing, and its reader
pub record Token (gaps : Gaps) (P : Spelling) (R : List ℕ → After) : Type 0 where
  pub moves : Moves P
  pub reads : (bytes : List ℕ) → ReadsAfter P bytes (R bytes)
  pub begins : (bytes : List ℕ) → Begins gaps (R bytes)
  pub whole : (bytes rest : List ℕ) → P bytes rest → R bytes ≡ Ok rest
  pub same : (s : gaps.Parting) → GoodToken (gaps.texts_of s) R

-- tokens that say nothing, one after the other
pub record Phrase (gaps : Gaps) (P : Spelling) (R : List ℕ → After) : Type 0 where
  pub moves : Moves P
  pub reads : (bytes : List ℕ) → ReadsAfter P bytes (R bytes)
  pub begins : (bytes : List ℕ) → Begins gaps (R bytes)
  pub whole : (bytes rest : List ℕ) → P bytes rest → R bytes ≡ Ok rest
  pub same : (s : gaps.Parting) → GoodAfter (gaps.texts_of s) R

-- spellings by their values, what may follow them, and their reader
pub record Production (gaps : Gaps) {A : Type 0} (P : A → Spelling) (C : List ℕ → Type 0) (R : List ℕ → Read A) : Type 0 where
  pub moves : (x : A) → Moves (P x)
  pub reads : (bytes : List ℕ) → Reads P bytes (R bytes)
  pub begins : (bytes : List ℕ) → Begins gaps (R bytes)
  pub whole : (x : A) (bytes rest : List ℕ) → P x bytes rest → C rest → R bytes ≡ Ok (x, rest)
  pub same : (s : gaps.Parting) → Good (gaps.texts_of s) R

-- whatever follows
abbrev pub Any : List ℕ → Type 0
Any rest = Unit {0}

-- no bytes
abbrev pub Empty : Spelling
Empty bytes rest = bytes ≡ rest

-- one spelling or another
abbrev pub Or : {A : Type 0} → (A → Spelling) → (A → Spelling) → A → Spelling
Or P Q x bytes rest = P x bytes rest ⊎ Q x bytes rest

-- what may be missing
abbrev pub Maybe : {A : Type 0} → Spelling → (A → Spelling) → Option A → Spelling
Maybe P Q None = Empty
Maybe P Q (Some x) = λ bytes rest. (between : List ℕ) × (P bytes between × Q x between rest)

-- whichever way a test goes
pub if_both : {A : Type 0} (F : A → Type 0) (t : Bool) {x y : A} → F x → F y → F (if t then x else y)
if_both F true one two = one
if_both F false one two = two

-- one step of a chain
pub ok_then : {A B : Type 0} {x : A} {y : Result B (List ℕ)} (r : Result A (List ℕ)) (f : A → Result B (List ℕ)) → r ≡ Ok x → f x ≡ y → (r >>= f) ≡ y
ok_then r f is go = ap (λ r. r >>= f) is ∙ go

-- ---- one after another, and one or another, keep to their bytes

pub moves_alike : {P Q : Spelling} → ((bytes rest : List ℕ) → P bytes rest → Q bytes rest) → ((bytes rest : List ℕ) → Q bytes rest → P bytes rest) → Moves P → Moves Q
moves_alike to from p bytes rest is = let a = p bytes rest (from bytes rest is) in record { taken = a.taken; place = a.place; stays = λ other follows. to _ other (a.stays other follows) }

then_moves : {A B : Type 0} {P : A → Spelling} {Q : A → B → Spelling} → ((x : A) → Moves (P x)) → ((x : A) (y : B) → Moves (Q x y)) → (y : B) → Moves (Then P Q y)
then_moves {A} {B} {P} {Q} p q y bytes rest t =
    let a = p t.value bytes t.between t.first in
    let b = q t.value y t.between rest t.second in
    record {
      taken = a.taken ++ b.taken;
      place = a.place ∙ ap (λ (l : List ℕ). a.taken ++ l) b.place ∙ sym (append_assoc a.taken b.taken rest);
      stays = λ other follows.
          let behind : Follows t.between (b.taken ++ other) = subst (λ (l : List ℕ). Follows l (b.taken ++ other)) (sym b.place) (front_follows b.taken rest other follows) in
          subst (λ (l : List ℕ). Then P Q y l other) (sym (append_assoc a.taken b.taken other))
          (record { value = t.value; between = b.taken ++ other; first = a.stays (b.taken ++ other) behind; second = b.stays other follows });
    }

next_moves : {B : Type 0} {P : Spelling} {Q : B → Spelling} → Moves P → ((y : B) → Moves (Q y)) → (y : B) → Moves (Next P Q y)
next_moves {B} {P} {Q} p q y bytes rest n =
    let a = then_moves {A = Unit {0}} {P = λ _. P} {Q = λ _. Q} (λ _. p) (λ _. q) y bytes rest (record { value = tt; between = n.between; first = n.first; second = n.second }) in
    record { taken = a.taken; place = a.place; stays = λ other follows. let t = a.stays other follows in record { between = t.between; first = t.first; second = t.second } }

-- two pieces without values
pub both_move : {P Q Z : Spelling} → ((bytes m rest : List ℕ) → P bytes m → Q m rest → Z bytes rest) → ((bytes rest : List ℕ) → Z bytes rest → (m : List ℕ) × (P bytes m × Q m rest)) → Moves P → Moves Q → Moves Z
both_move {P} {Q} to from p q =
    moves_alike {P = Next P (λ (_ : Unit {0}). Q) tt} (λ bytes rest n. to bytes n.between rest n.first n.second) (λ bytes rest is. let both = from bytes rest is in record { between = both.0; first = both.1.0; second = both.1.1 })
    (next_moves p (λ _. q) tt)

or_moves : {A : Type 0} {P Q : A → Spelling} → ((x : A) → Moves (P x)) → ((x : A) → Moves (Q x)) → (x : A) → Moves (Or P Q x)
or_moves p q x bytes rest (inl is) = let a = p x bytes rest is in record { taken = a.taken; place = a.place; stays = λ other follows. inl (a.stays other follows) }
or_moves p q x bytes rest (inr is) = let a = q x bytes rest is in record { taken = a.taken; place = a.place; stays = λ other follows. inr (a.stays other follows) }

-- ---- whichever way reading no bytes ends, it gives a spelling that clean bytes may follow

nothing_taken : (front rest : List ℕ) → [] ≡ front ++ rest → front ≡ []
nothing_taken [] rest is = refl
nothing_taken (b ∷ front) rest is = cc

usual_of : {A : Type 0} {P : A → Spelling} (r : Read A) → ((x : A) → Moves (P x)) → Reads P [] r → Usual P
usual_of {A} {P} (Ok x) moves s =
    let a = moves x.0 [] x.1 s.it in
    record { text = []; value = x.0; clean = λ tail clean. clean; holds = λ tail clean. subst (λ (l : List ℕ). P x.0 (l ++ tail) tail) (nothing_taken a.taken x.1 a.place) (a.stays tail (clean_follows x.1 tail clean)) }
usual_of {A} {P} (Err at) moves s =
    let g : Goes P [] at = s.it in
    record { text = g.more; value = g.value; clean = g.clean; holds = λ tail clean. subst (λ (l : List ℕ). P g.value (l ++ (g.more ++ tail)) tail) (nothing_taken g.front at g.place) (g.goes tail clean) }

-- ---- what is left: no more bytes, and fewer where no bytes are refused

pub no_longer : {P : Spelling} → Moves P → (bytes rest : List ℕ) → P bytes rest → length rest ≤ length bytes
no_longer moves bytes rest is = let a = moves bytes rest is in omega (arith, ap length a.place, length-append a.taken rest)

taken_less : {P : Spelling} → Moves P → (P [] [] → ⊥) → (bytes rest : List ℕ) → P bytes rest → length rest < length bytes
taken_less {P} moves none bytes rest is = let a = moves bytes rest is in by_taken a.taken a.place (a.stays [] tt)
  where
    by_taken : (taken : List ℕ) → bytes ≡ taken ++ rest → P (taken ++ []) [] → length rest < length bytes
    by_taken [] place stays = absurd (none stays)
    by_taken (b ∷ taken) place stays = omega (arith, ap length place, length-append taken rest)

module _ {gaps : Gaps} where
  pub token_takes : {P : Spelling} {R : List ℕ → After} → Token gaps P R → Refused (R []) → (bytes rest : List ℕ) → P bytes rest → length rest < length bytes
  token_takes {P} {R} t none = taken_less t.moves (λ is. clash (t.whole [] [] is) none.is)
    where
      clash : {at : List ℕ} → R [] ≡ Ok [] → R [] ≡ Err at → ⊥
      clash e f = cc

  pub token_less : {P : Spelling} {R : List ℕ → After} → Token gaps P R → Refused (R []) → (bytes rest : List ℕ) → R bytes ≡ Ok rest → length rest < length bytes
  token_less {P} t none bytes rest is = let s : ReadsAfter P bytes (Ok rest) = subst (ReadsAfter P bytes) is (t.reads bytes) in token_takes t none bytes rest s.it

  pub takes : {A : Type 0} {P : A → Spelling} {C : List ℕ → Type 0} {R : List ℕ → Read A} → Production gaps P C R → C [] → Refused (R []) → (x : A) (bytes rest : List ℕ) → P x bytes rest → length rest < length bytes
  takes {P = P} {R = R} p end none x = taken_less (p.moves x) (λ is. clash (p.whole x [] [] is end) none.is)
    where
      clash : {at : List ℕ} → R [] ≡ Ok (x, []) → R [] ≡ Err at → ⊥
      clash e f = cc

  -- what is read is a spelling
  pub sound : {A : Type 0} {P : A → Spelling} {C : List ℕ → Type 0} {R : List ℕ → Read A} → Production gaps P C R → (x : A) (bytes rest : List ℕ) → R bytes ≡ Ok (x, rest) → P x bytes rest
  sound {P = P} p x bytes rest is = let s : Reads P bytes (Ok (x, rest)) = subst (Reads P bytes) is (p.reads bytes) in s.it

  pub leaves : {A : Type 0} {P : A → Spelling} {C : List ℕ → Type 0} {R : List ℕ → Read A} → Production gaps P C R → (x : A) (bytes rest : List ℕ) → R bytes ≡ Ok (x, rest) → length rest ≤ length bytes
  leaves p x bytes rest is = no_longer (p.moves x) bytes rest (sound p x bytes rest is)

  pub takes_read : {A : Type 0} {P : A → Spelling} {C : List ℕ → Type 0} {R : List ℕ → Read A} → Production gaps P C R → C [] → Refused (R []) → (x : A) (bytes rest : List ℕ) → R bytes ≡ Ok (x, rest) → length rest < length bytes
  takes_read p end none x bytes rest is = takes p end none x bytes rest (sound p x bytes rest is)

  pub usual : {A : Type 0} {P : A → Spelling} {C : List ℕ → Type 0} {R : List ℕ → Read A} → Production gaps P C R → Usual P
  usual {R = R} p = usual_of (R []) p.moves (p.reads [])

  -- ---- where a token begins

  pub begins_where : {X B : Type 0} (r : Result X (List ℕ)) (f : X → Result B (List ℕ)) → Begins gaps r → ((x : X) → r ≡ Ok x → Begins gaps (f x)) → Begins gaps (r >>= f)
  begins_where (Ok x) f b go = go x refl
  begins_where (Err at) f b go = record { it = b.it }

  pub begins_then : {X B : Type 0} (r : Result X (List ℕ)) (f : X → Result B (List ℕ)) → Begins gaps r → ((x : X) → Begins gaps (f x)) → Begins gaps (r >>= f)
  begins_then r f b go = begins_where r f b (λ x e. go x)

  pub begins_either : {B : Type 0} (r : After) (f h : List ℕ → Read B) → ((m : List ℕ) → r ≡ Ok m → Begins gaps (f m)) → ((at : List ℕ) → Begins gaps (h at)) → Begins gaps (elim r [ Ok m ↦ f m | Err at ↦ h at ])
  begins_either (Ok m) f h one two = one m refl
  begins_either (Err at) f h one two = two at

  begins_read : {B : Type 0} (r : After) (f : List ℕ → Read B) → Begins gaps r → ((m : List ℕ) → Begins gaps (f m)) → Begins gaps (elim r [ Ok m ↦ f m | Err at ↦ Err at ])
  begins_read (Ok m) f b go = go m
  begins_read (Err at) f b go = record { it = b.it }

  -- ---- one, and then another

  pub chain : {A B : Type 0} {P : A → Spelling} {Q : A → B → Spelling} {C D : List ℕ → Type 0} {R : List ℕ → Read A} {S : A → List ℕ → Read B}
      → Production gaps P C R → ((x : A) (y : B) (bytes rest : List ℕ) → Q x y bytes rest → D rest → C bytes) → ((x : A) → Production gaps (Q x) D (S x))
      → Production gaps (Then P Q) D (λ bytes. R bytes >>= λ x. S x.0 x.1)
  chain {R = R} {S = S} p meets q = record {
    moves = then_moves p.moves (λ x. (q x).moves);
    reads = λ bytes. reads_then (R bytes) (λ x. S x.0 x.1) p.moves (λ x. usual (q x)) (p.reads bytes) (λ x m. (q x).reads m);
    begins = λ bytes. begins_then (R bytes) (λ x. S x.0 x.1) (p.begins bytes) (λ x. (q x.0).begins x.1);
    whole = λ y bytes rest t c. ok_then (R bytes) (λ x. S x.0 x.1) (p.whole t.value bytes t.between t.first (meets t.value y t.between rest t.second c)) ((q t.value).whole y t.between rest t.second c);
    same = λ s. good_then (gaps.texts_of s) R S (p.same s) (λ x. (q x).same s);
  }

  -- whatever comes second
  pub seq : {A B : Type 0} {P : A → Spelling} {Q : A → B → Spelling} {D : List ℕ → Type 0} {R : List ℕ → Read A} {S : A → List ℕ → Read B}
      → Production gaps P Any R → ((x : A) → Production gaps (Q x) D (S x)) → Production gaps (Then P Q) D (λ bytes. R bytes >>= λ x. S x.0 x.1)
  seq p q = chain p (λ x y bytes rest is c. tt) q

  pub after_phrase : {B : Type 0} {P : Spelling} {Q : B → Spelling} {C : List ℕ → Type 0} {R : List ℕ → After} {S : List ℕ → Read B}
      → Phrase gaps P R → Production gaps Q C S → Production gaps (Next P Q) C (λ bytes. R bytes >>= S)
  after_phrase {R = R} {S = S} t q = record {
    moves = next_moves t.moves q.moves;
    reads = λ bytes. after_then (R bytes) S t.moves (usual q) (t.reads bytes) q.reads;
    begins = λ bytes. begins_then (R bytes) S (t.begins bytes) q.begins;
    whole = λ y bytes rest n c. ok_then (R bytes) S (t.whole bytes n.between n.first) (q.whole y n.between rest n.second c);
    same = λ s. good_after (gaps.texts_of s) R S (t.same s) (q.same s);
  }

  pub phrase : {P : Spelling} {R : List ℕ → After} → Token gaps P R → Phrase gaps P R
  phrase {R = R} t = record { moves = t.moves; reads = t.reads; begins = t.begins; whole = t.whole; same = λ s. good_by (gaps.texts_of s) R (t.same s) }

  pub after : {B : Type 0} {P : Spelling} {Q : B → Spelling} {C : List ℕ → Type 0} {R : List ℕ → After} {S : List ℕ → Read B}
      → Token gaps P R → Production gaps Q C S → Production gaps (Next P Q) C (λ bytes. R bytes >>= S)
  after t q = after_phrase (phrase t) q

  -- two phrases, by what they are together
  pub phrases : {P Q Z : Spelling} {R S : List ℕ → After} → ((bytes m rest : List ℕ) → P bytes m → Q m rest → Z bytes rest) → ((bytes rest : List ℕ) → Z bytes rest → (m : List ℕ) × (P bytes m × Q m rest))
      → Phrase gaps P R → Phrase gaps Q S → Phrase gaps Z (λ bytes. R bytes >>= S)
  phrases {R = R} {S = S} to from p q = record {
    moves = both_move to from p.moves q.moves;
    reads = λ bytes. after_both (R bytes) S p.moves (usual_of _ (λ _. q.moves) (valued (S []) (q.reads []))) to (p.reads bytes) q.reads;
    begins = λ bytes. begins_then (R bytes) S (p.begins bytes) q.begins;
    whole = λ bytes rest is. let both = from bytes rest is in ok_then (R bytes) S (p.whole bytes both.0 both.1.0) (q.whole both.0 rest both.1.1);
    same = λ s. after_after (gaps.texts_of s) R S (p.same s) (q.same s);
  }

  -- the same, where reading is by cases
  pub after_cases : {B : Type 0} {P : Spelling} {Q : B → Spelling} {C : List ℕ → Type 0} {R : List ℕ → After} {S : List ℕ → Read B}
      → Token gaps P R → Production gaps Q C S → Production gaps (Next P Q) C (λ bytes. elim (R bytes) [ Ok rest ↦ S rest | Err at ↦ Err at ])
  after_cases {R = R} {S = S} t q = record {
    moves = next_moves t.moves q.moves;
    reads = λ bytes. after_read (R bytes) S t.moves (usual q) (t.reads bytes) q.reads;
    begins = λ bytes. begins_read (R bytes) S (t.begins bytes) q.begins;
    whole = λ y bytes rest n c. ap (λ r. elim r [ Ok m ↦ S m | Err at ↦ Err at ]) (t.whole bytes n.between n.first) ∙ q.whole y n.between rest n.second c;
    same = λ s. good_token (gaps.texts_of s) R S (t.same s) (q.same s);
  }

  -- ---- values

  pub ok : {B : Type 0} (v : B) → Production gaps (Last v Empty) Any (λ bytes. Ok (v, bytes))
  ok v = record {
    moves = λ y bytes rest is. record { taken = []; place = is.1; stays = λ other follows. (is.0, refl) };
    reads = λ bytes. record { it = (refl, refl) };
    begins = λ bytes. record { it = tt };
    whole = λ y bytes rest is c. λ k. Ok (sym is.0 k, is.1 k);
    same = λ s. good_ok (gaps.texts_of s) v;
  }

  pub by : {A B : Type 0} {P : A → Spelling} {C : List ℕ → Type 0} {R : List ℕ → Read A} (f : A → B)
      → Production gaps P C R → Production gaps (By f P) C (λ bytes. R bytes >>= λ x. Ok (f x.0, x.1))
  by {R = R} f p = record {
    moves = λ y bytes rest is. let a = p.moves is.0 bytes rest is.1.1 in record { taken = a.taken; place = a.place; stays = λ other follows. (is.0, (is.1.0, a.stays other follows)) };
    reads = λ bytes. reads_by f (R bytes) (p.reads bytes);
    begins = λ bytes. begins_then (R bytes) _ (p.begins bytes) (λ x. record { it = tt });
    whole = λ y bytes rest is c. ok_then (R bytes) _ (p.whole is.0 bytes rest is.1.1 c) (λ k. Ok (sym is.1.0 k, rest));
    same = λ s. good_then (gaps.texts_of s) R (λ x rest. Ok (f x, rest)) (p.same s) (λ x. good_ok (gaps.texts_of s) (f x));
  }

  pub last_phrase : {B : Type 0} {P : Spelling} {R : List ℕ → After} (v : B) → Phrase gaps P R → Production gaps (Last v P) Any (λ bytes. R bytes >>= λ rest. Ok (v, rest))
  last_phrase {R = R} v t = record {
    moves = λ y bytes rest is. let a = t.moves bytes rest is.1 in record { taken = a.taken; place = a.place; stays = λ other follows. (is.0, a.stays other follows) };
    reads = λ bytes. reads_last v (R bytes) (t.reads bytes);
    begins = λ bytes. begins_then (R bytes) _ (t.begins bytes) (λ x. record { it = tt });
    whole = λ y bytes rest is c. ok_then (R bytes) _ (t.whole bytes rest is.1) (λ k. Ok (sym is.0 k, rest));
    same = λ s. good_after (gaps.texts_of s) R (λ rest. Ok (v, rest)) (t.same s) (good_ok (gaps.texts_of s) v);
  }

  pub last : {B : Type 0} {P : Spelling} {R : List ℕ → After} (v : B) → Token gaps P R → Production gaps (Last v P) Any (λ bytes. R bytes >>= λ rest. Ok (v, rest))
  last v t = last_phrase v (phrase t)

  -- the same spellings under another description
  pub alike : {A : Type 0} {P Q : A → Spelling} {C : List ℕ → Type 0} {R : List ℕ → Read A}
      → ((x : A) (bytes rest : List ℕ) → P x bytes rest → Q x bytes rest) → ((x : A) (bytes rest : List ℕ) → Q x bytes rest → P x bytes rest) → Production gaps P C R → Production gaps Q C R
  alike {R = R} to from p = record {
    moves = λ x. moves_alike (to x) (from x) (p.moves x);
    reads = λ bytes. reads_weaker (R bytes) (p.reads bytes) to;
    begins = p.begins;
    whole = λ x bytes rest is c. p.whole x bytes rest (from x bytes rest is) c;
    same = p.same;
  }

  -- the same reader under another description
  pub read_alike : {A : Type 0} {P : A → Spelling} {C : List ℕ → Type 0} {R S : List ℕ → Read A} → ((bytes : List ℕ) → R bytes ≡ S bytes) → Production gaps P C R → Production gaps P C S
  read_alike {P = P} {C = C} same p = subst (Production gaps P C) (λ i. λ bytes. same bytes i) p

  -- less may follow
  pub closing : {A : Type 0} {P : A → Spelling} {C D : List ℕ → Type 0} {R : List ℕ → Read A} → ((rest : List ℕ) → D rest → C rest) → Production gaps P C R → Production gaps P D R
  closing less p = record { moves = p.moves; reads = p.reads; begins = p.begins; whole = λ x bytes rest is d. p.whole x bytes rest is (less rest d); same = p.same }

  -- ---- one or another

  -- by whether a token comes next
  pub choice : {B : Type 0} {P : Spelling} {Q Z : B → Spelling} {C : List ℕ → Type 0} {R : List ℕ → After} {S T : List ℕ → Read B}
      → Token gaps P R → Production gaps Q C S → ((y : B) (bytes rest : List ℕ) → Z y bytes rest → C rest → Refused (R bytes)) → Production gaps Z C T
      → Production gaps (Or (Next P Q) Z) C (λ bytes. elim (R bytes) [ Ok rest ↦ S rest | Err at ↦ T bytes ])
  choice {B} {P} {Q} {Z} {C} {R} {S} {T} t q apart z = record {
    moves = or_moves (next_moves t.moves q.moves) z.moves;
    reads = λ bytes. reads_either (R bytes) S (λ at. T bytes) t.moves (t.reads bytes) (λ y b rest n. inl n) q.reads (λ at g. reads_weaker (T bytes) (z.reads bytes) (λ y b rest is. inr is));
    begins = λ bytes. begins_either (R bytes) S (λ at. T bytes) (λ m e. q.begins m) (λ at. z.begins bytes);
    whole = whole;
    same = λ s. good_either (gaps.texts_of s) R S T (t.same s) (q.same s) (z.same s);
  }
    where
      whole : (y : B) (bytes rest : List ℕ) → Or (Next P Q) Z y bytes rest → C rest → ◌≡◌ {A = Read B} (elim (R bytes) [ Ok rest ↦ S rest | Err at ↦ T bytes ]) (Ok (y, rest))
      whole y bytes rest (inl n) c = ap (λ (r : After). elim r [ Ok m ↦ S m | Err at ↦ T bytes ]) (t.whole bytes n.between n.first) ∙ q.whole y n.between rest n.second c
      whole y bytes rest (inr is) c = ap (λ (r : After). elim r [ Ok m ↦ S m | Err at ↦ T bytes ]) (apart y bytes rest is c).is ∙ z.whole y bytes rest is c

  -- the same, where the token is looked at and not taken
  pub peek : {B : Type 0} {P : Spelling} {Q Z : B → Spelling} {C : List ℕ → Type 0} {R : List ℕ → After} {S T : List ℕ → Read B}
      → Token gaps P R → ((y : B) (bytes rest : List ℕ) → Q y bytes rest → (m : List ℕ) × P bytes m) → Production gaps Q C S → ((y : B) (bytes rest : List ℕ) → Z y bytes rest → C rest → Refused (R bytes)) → Production gaps Z C T
      → Production gaps (Or Q Z) C (λ bytes. elim (R bytes) [ Ok rest ↦ S bytes | Err at ↦ T bytes ])
  peek {B} {P} {Q} {Z} {C} {R} {S} {T} t first q apart z = record {
    moves = or_moves q.moves z.moves;
    reads = λ bytes. reads_whether (R bytes) (S bytes) (T bytes) (reads_weaker (S bytes) (q.reads bytes) (λ y b rest is. inl is)) (reads_weaker (T bytes) (z.reads bytes) (λ y b rest is. inr is));
    begins = λ bytes. begins_either (R bytes) (λ m. S bytes) (λ at. T bytes) (λ m e. q.begins bytes) (λ at. z.begins bytes);
    whole = whole;
    same = λ s. good_peek (gaps.texts_of s) R S T (t.same s) (q.same s) (z.same s);
  }
    where
      whole : (y : B) (bytes rest : List ℕ) → Or Q Z y bytes rest → C rest → ◌≡◌ {A = Read B} (elim (R bytes) [ Ok rest ↦ S bytes | Err at ↦ T bytes ]) (Ok (y, rest))
      whole y bytes rest (inl is) c = let f = first y bytes rest is in ap (λ (r : After). elim r [ Ok m ↦ S bytes | Err at ↦ T bytes ]) (t.whole bytes f.0 f.1) ∙ q.whole y bytes rest is c
      whole y bytes rest (inr is) c = ap (λ (r : After). elim r [ Ok m ↦ S bytes | Err at ↦ T bytes ]) (apart y bytes rest is c).is ∙ z.whole y bytes rest is c

  -- by a test of what comes next
  pub tested : {B : Type 0} {P Q : B → Spelling} {C : List ℕ → Type 0} {S T : List ℕ → Read B} (test : List ℕ → Bool)
      → ((s : gaps.Parting) → Tells (gaps.texts_of s) test) → ((y : B) (bytes rest : List ℕ) → P y bytes rest → test bytes ≡ true) → ((y : B) (bytes rest : List ℕ) → Q y bytes rest → C rest → test bytes ≡ false)
      → Production gaps P C S → Production gaps Q C T → Production gaps (Or P Q) C (λ bytes. if test bytes then S bytes else T bytes)
  tested {B} {P} {Q} {C} {S} {T} test tells stands fails p q = record {
    moves = or_moves p.moves q.moves;
    reads = λ bytes. if_both (Reads (Or P Q) bytes) (test bytes) (reads_weaker (S bytes) (p.reads bytes) (λ y b rest is. inl is)) (reads_weaker (T bytes) (q.reads bytes) (λ y b rest is. inr is));
    begins = λ bytes. if_both (Begins gaps) (test bytes) (p.begins bytes) (q.begins bytes);
    whole = whole;
    same = λ s. good_if (gaps.texts_of s) test S T (tells s) (p.same s) (q.same s);
  }
    where
      whole : (y : B) (bytes rest : List ℕ) → Or P Q y bytes rest → C rest → ◌≡◌ {A = Read B} (if test bytes then S bytes else T bytes) (Ok (y, rest))
      whole y bytes rest (inl is) c = ap (λ t. if t then S bytes else T bytes) (stands y bytes rest is) ∙ p.whole y bytes rest is c
      whole y bytes rest (inr is) c = ap (λ t. if t then S bytes else T bytes) (fails y bytes rest is c) ∙ q.whole y bytes rest is c

  -- a token that may be missing, and then one
  pub optional : {B : Type 0} {P : Spelling} {Q : B → Spelling} {C : List ℕ → Type 0} {R : List ℕ → After} {S : List ℕ → Read B}
      → Token gaps P R → ((y : B) (bytes rest : List ℕ) → Q y bytes rest → C rest → Refused (R bytes)) → Production gaps Q C S
      → Production gaps (Next (λ bytes rest. Empty bytes rest ⊎ P bytes rest) Q) C (λ bytes. S (elim (R bytes) [ Ok rest ↦ rest | Err at ↦ bytes ]))
  optional {B} {P} {Q} {C} {R} {S} t apart q = record {
    moves = next_moves piece_moves q.moves;
    reads = λ bytes. reads bytes (R bytes) (t.reads bytes);
    begins = λ bytes. q.begins (elim (R bytes) [ Ok rest ↦ rest | Err at ↦ bytes ]);
    whole = λ y bytes rest n c. whole y bytes n.between rest n.first n.second c;
    same = λ s. good_optional (gaps.texts_of s) R S (t.same s) (q.same s);
  }
    where
      piece_moves : Moves (λ bytes rest. Empty bytes rest ⊎ P bytes rest)
      piece_moves bytes rest (inl is) = record { taken = []; place = is; stays = λ other follows. inl refl }
      piece_moves bytes rest (inr is) = let a = t.moves bytes rest is in record { taken = a.taken; place = a.place; stays = λ other follows. inr (a.stays other follows) }

      reads : (bytes : List ℕ) (r : After) → ReadsAfter P bytes r → Reads (Next (λ bytes rest. Empty bytes rest ⊎ P bytes rest) Q) bytes (S (elim r [ Ok rest ↦ rest | Err at ↦ bytes ]))
      reads bytes (Ok rest) s = reads_past (inr s.it) piece_moves (S rest) (q.reads rest)
      reads bytes (Err at) s = reads_past (inl refl) piece_moves (S bytes) (q.reads bytes)

      whole : (y : B) (bytes between rest : List ℕ) → Empty bytes between ⊎ P bytes between → Q y between rest → C rest → S (elim (R bytes) [ Ok rest ↦ rest | Err at ↦ bytes ]) ≡ Ok (y, rest)
      whole y bytes between rest (inl is) two c =
          ap (λ (r : After). S (elim r as (λ _. List ℕ) [ Ok rest ↦ rest | Err at ↦ bytes ])) (ap R is ∙ (apart y between rest two c).is) ∙ ap S is ∙ q.whole y between rest two c
      whole y bytes between rest (inr is) two c = ap (λ (r : After). S (elim r as (λ _. List ℕ) [ Ok rest ↦ rest | Err at ↦ bytes ])) (t.whole bytes between is) ∙ q.whole y between rest two c

  -- none, or one behind a token
  pub maybe : {A : Type 0} {P : Spelling} {Q : A → Spelling} {C : List ℕ → Type 0} {R : List ℕ → After} {S : List ℕ → Read A}
      → Token gaps P R → Production gaps Q C S
      → Production gaps (Maybe P Q) (λ rest. Refused (R rest) × C rest) (λ bytes. elim (R bytes) [ Ok rest ↦ S rest >>= (λ x. Ok (Some x.0, x.1)) | Err at ↦ Ok (None, bytes) ])
  maybe {A} {P} {Q} {C} {R} {S} t q =
      alike to from (choice t (closing (λ rest c. c.1) (by (λ (x : A). Some x) q)) (λ y bytes rest z c. subst (λ (l : List ℕ). Refused (R l)) (sym z.1) c.0) (closing (λ rest c. tt) (ok None)))
    where
      to : (o : Option A) (bytes rest : List ℕ) → Or (Next P (By (λ (x : A). Some x) Q)) (Last None Empty) o bytes rest → Maybe P Q o bytes rest
      to o bytes rest (inl n) = subst (λ (p : Option A). Maybe P Q p bytes rest) (sym (n.second).1.0) (n.between, (n.first, (n.second).1.1))
      to o bytes rest (inr is) = subst (λ (p : Option A). Maybe P Q p bytes rest) (sym is.0) is.1

      from : (o : Option A) (bytes rest : List ℕ) → Maybe P Q o bytes rest → Or (Next P (By (λ (x : A). Some x) Q)) (Last None Empty) o bytes rest
      from None bytes rest is = inr (refl, is)
      from (Some x) bytes rest is = inl (record { between = is.0; first = is.1.0; second = (x, (refl, is.1.1)) })
