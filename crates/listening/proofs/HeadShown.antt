-- When the first bytes of a text show how it begins.
use lib.Pointwise.{pointwise}
use Rattle.std.proofs.Common.{◌≡◌, ◌∙◌, ℕ, ◌≤◌, ◌==◌, ◌||◌, ◌&&◌, Bool, true, false, List, [], ◌∷◌, ◌++◌, Option, Some, None, append-nil, suc, ap, arith, codes, length, not, refl, sym}
use Rattle.std.proofs.lemmas.Bool.Decides.{nat_tests}
use Rattle.std.proofs.lemmas.List.{take-append-le}
use Rattle.std.specs.Prelude.{IfSome}
use Rattle.std.specs.Io.KnownBytes.{Consumes, IsAtEnd}
use Rattle.listening.specs.Request.{begin, begins, has_line, is_foreign, may_become}

-- ---- a word

-- one that is no longer than the bytes
word_kept : (bytes more word : List ℕ) → length word ≤ length bytes → begins (bytes ++ more) word ≡ begins bytes word
word_kept bytes more word fits = ap (pointwise ◌==◌ word) (take-append-le (length word) bytes more fits)

-- one that does not begin by the bytes
word_missed : (bytes more word : List ℕ) → begin bytes word ≡ false → begins (bytes ++ more) word ≡ begins bytes word
word_missed bytes more [] missed = refl
word_missed [] more (c ∷ word) missed = absurd (cc missed)
word_missed (d ∷ bytes) more (c ∷ word) missed = by (c == d) refl (word_missed bytes more word)
  where
    by : (b : Bool) → (c == d) ≡ b → (begin bytes word ≡ false → begins (bytes ++ more) word ≡ begins bytes word) → begins ((d ∷ bytes) ++ more) (c ∷ word) ≡ begins (d ∷ bytes) (c ∷ word)
    by true is rest =
        let same : (d == c) ≡ true = grind (arith, nat_tests) in
        ap (λ b. (c == d) && b) (rest ((λ k. sym same k && begin bytes word) ∙ missed))
    by false is rest = (λ k. is k && begins (bytes ++ more) word) ∙ (λ k. sym is k && begins bytes word)

either_false : (a b : Bool) → (a || b) ≡ false → (a ≡ false) × (b ≡ false)
either_false true b e = absurd (cc e)
either_false false b e = (refl, e)

-- ---- all words

module _ (bytes more : List ℕ) where
  abbrev Kept : List ℕ → Type 0
  Kept word = begins (bytes ++ more) word ≡ begins bytes word

  all_kept : ((word : List ℕ) → length word ≤ 8 → Kept word) → is_foreign (bytes ++ more) ≡ is_foreign bytes
  all_kept kept =
      let handshake = kept (22 ∷ []) (omega arith) in
      let get = kept (codes "GET ") (omega arith) in
      let head = kept (codes "HEAD ") (omega arith) in
      let post = kept (codes "POST ") (omega arith) in
      let puts = kept (codes "PUT ") (omega arith) in
      let options = kept (codes "OPTIONS ") (omega arith) in
      let connect = kept (codes "CONNECT ") (omega arith) in
      let trace = kept (codes "TRACE ") (omega arith) in
      let patch = kept (codes "PATCH ") (omega arith) in
      let delete = kept (codes "DELETE /") (omega arith) in
      λ k. handshake k || (get k || head k || post k || puts k || options k || connect k || trace k || patch k || delete k)

  none_begun : may_become bytes ≡ false → is_foreign (bytes ++ more) ≡ is_foreign bytes
  none_begun none =
      let i = either_false _ (begin bytes (codes "DELETE /")) none in
      let h = either_false _ (begin bytes (codes "PATCH ")) i.0 in
      let g = either_false _ (begin bytes (codes "TRACE ")) h.0 in
      let f = either_false _ (begin bytes (codes "CONNECT ")) g.0 in
      let e = either_false _ (begin bytes (codes "OPTIONS ")) f.0 in
      let d = either_false _ (begin bytes (codes "PUT ")) e.0 in
      let c = either_false _ (begin bytes (codes "POST ")) d.0 in
      let b = either_false _ (begin bytes (codes "HEAD ")) c.0 in
      let a = either_false (begin bytes (22 ∷ [])) (begin bytes (codes "GET ")) b.0 in
      let handshake = word_missed bytes more (22 ∷ []) a.0 in
      let get = word_missed bytes more (codes "GET ") a.1 in
      let head = word_missed bytes more (codes "HEAD ") b.1 in
      let post = word_missed bytes more (codes "POST ") c.1 in
      let puts = word_missed bytes more (codes "PUT ") d.1 in
      let options = word_missed bytes more (codes "OPTIONS ") e.1 in
      let connect = word_missed bytes more (codes "CONNECT ") f.1 in
      let trace = word_missed bytes more (codes "TRACE ") g.1 in
      let patch = word_missed bytes more (codes "PATCH ") h.1 in
      let delete = word_missed bytes more (codes "DELETE /") i.1 in
      λ k. handshake k || (get k || head k || post k || puts k || options k || connect k || trace k || patch k || delete k)

  pub full : 8 ≤ length bytes → is_foreign (bytes ++ more) ≡ is_foreign bytes
  full le = all_kept (λ word fits. word_kept bytes more word (omega (arith, le, fits)))

  pub not_begun : may_become bytes ≡ false → is_foreign (bytes ++ more) ≡ is_foreign bytes
  not_begun none = none_begun none

-- ---- a text, by the bytes that were read of it

pub shown : (known left : Option (List ℕ)) (bytes : List ℕ) → Consumes known left bytes → ((more : List ℕ) → is_foreign (bytes ++ more) ≡ is_foreign bytes) → IfSome known (λ all. is_foreign all ≡ is_foreign bytes)
shown None left bytes took more = tt
shown (Some all) None bytes took more = absurd took
shown (Some all) (Some rest) bytes took more = ap is_foreign took ∙ more rest

pub shown_at_end : (known left : Option (List ℕ)) (bytes : List ℕ) → Consumes known left bytes → IsAtEnd left → IfSome known (λ all. is_foreign all ≡ is_foreign bytes)
shown_at_end None left bytes took ended = tt
shown_at_end (Some all) None bytes took ended = absurd took
shown_at_end (Some all) (Some rest) bytes took ended = ap is_foreign (took ∙ ap (λ rest. bytes ++ rest) ended ∙ append-nil bytes)

-- the text begins otherwise than what is refused
pub not_foreign : (P : Type 0) (known : Option (List ℕ)) (f : List ℕ → Bool) (head : Bool) → IfSome known (λ bytes. f bytes ≡ head) → head ≡ false → IfSome known (λ bytes. f bytes ≡ true → P)
not_foreign P None f head same other = tt
not_foreign P (Some bytes) f head same other = λ is. absurd (none (sym is ∙ same ∙ other))
  where
    none : true ≡ false → ⊥
    none e = cc e

-- ---- a first line

-- bytes have one unless they are none
pub lined : (bytes : List ℕ) → not (length bytes == 0) ≡ has_line bytes
lined [] = refl
lined (c ∷ bytes) = let some : (suc (length bytes) == 0) ≡ false = grind (arith, nat_tests) in (λ k. not (some k))

line_on : (bytes more : List ℕ) → has_line bytes ≡ true → has_line (bytes ++ more) ≡ true
line_on [] more e = absurd (cc e)
line_on (c ∷ bytes) more e = refl

-- a text has a line whose first bytes have one
pub with_line : (P : Type 0) (known left : Option (List ℕ)) (bytes : List ℕ) → Consumes known left bytes → has_line bytes ≡ true → IfSome known (λ all. has_line all ≡ false → P)
with_line P None left bytes took line = tt
with_line P (Some all) None bytes took line = absurd took
with_line P (Some all) (Some rest) bytes took line = λ none. absurd (some (sym (line_on bytes rest line) ∙ ap has_line (sym took) ∙ none))
  where
    some : true ≡ false → ⊥
    some e = cc e
