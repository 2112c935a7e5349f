-- Many bytes of a line at once.
use Rattle.std.proofs.Common.{◌≡◌, ◌≢◌, ℕ, List, [], ◌∷◌, ◌++◌, Bool, true, false, Some, None, ◌+◌, ◌<◌, ◌≤◌, length, length-append, take, get_or, append_assoc, append-nil, sym, ◌∙◌, ap, refl, subst, arith}
use Rattle.std.specs.Prelude.{if◌then◌else◌, nat_lt, Result, Ok, Err, IsOk, is_ok}
use Rattle.std.specs.List.{All, prefix_len}
use Rattle.std.proofs.lemmas.Bool.Decides.{nat_tests}
use Rattle.std.proofs.lemmas.List.{length_push, length-take-le, get_or-take}
use Rattle.std.proofs.lemmas.List.Sums.{prefix_len_passes, prefix_len_stops}
use Rattle.lines.specs.Partial.{Partial, Fits, add_all, is_no_feed, longest_line, partial}

has_room : (n m : ℕ) → n + (m + 1) ≤ longest_line → nat_lt n longest_line ≡ true
has_room n m fits = grind (arith, nat_tests)

pub add_all_none : (bytes : List ℕ) → add_all None bytes ≡ None
add_all_none [] = refl
add_all_none (b ∷ bytes) = add_all_none bytes

pub add_all_fits : (line bytes : List ℕ) → length line + length bytes ≤ longest_line → add_all (Some line) bytes ≡ Some (line ++ bytes)
add_all_fits line [] fits = ap Some (sym (append-nil line))
add_all_fits line (b ∷ bytes) fits =
    ap (λ t. add_all (if t then Some (line ++ b ∷ []) else None) bytes) (has_room (length line) (length bytes) (omega (arith, fits)))
    ∙ add_all_fits (line ++ b ∷ []) bytes (omega (arith, fits, length_push line b)) ∙ ap Some (append_assoc line (b ∷ []) bytes)

pub add_all_over : (line bytes : List ℕ) → length line ≤ longest_line → longest_line < length line + length bytes → add_all (Some line) bytes ≡ None
add_all_over line [] fits over = absurd (omega (arith, fits, over))
add_all_over line (b ∷ bytes) fits over = by (nat_lt (length line) longest_line) refl (λ less. add_all_over (line ++ b ∷ []) bytes (omega (arith, less, length_push line b)) (omega (arith, over, length_push line b)))
  where
    less_than : (n : ℕ) → nat_lt n longest_line ≡ true → n < longest_line
    less_than n e = grind (arith, nat_tests)

    by : (t : Bool) → nat_lt (length line) longest_line ≡ t → (length line < longest_line → add_all (Some (line ++ b ∷ [])) bytes ≡ None) → add_all (Some line) (b ∷ bytes) ≡ None
    by true e later = ap (λ t. add_all (if t then Some (line ++ b ∷ []) else None) bytes) e ∙ later (less_than (length line) e)
    by false e later = ap (λ t. add_all (if t then Some (line ++ b ∷ []) else None) bytes) e ∙ add_all_none bytes

-- ---- what the buffer then has

pub fits_of : (t : Bool) (line : List ℕ) (p : Partial) → partial t line ≡ p → t ≡ false → Fits p → length line ≤ longest_line
fits_of true line p is e fits = cc
fits_of false line p is e fits = subst Fits (sym is) fits

pub adds_none : (t : Bool) (line bytes : List ℕ) (p : Partial) → partial t line ≡ p → t ≡ true → p ≡ add_all p bytes
adds_none true line bytes p is e = sym is ∙ sym (add_all_none bytes) ∙ ap (λ q. add_all q bytes) is
adds_none false line bytes p is e = cc

pub adds_fits : {T E : Type 0} (t : Bool) (r : Result T E) (line bytes now : List ℕ) (p : Partial) → partial t line ≡ p → t ≡ false → length line + length bytes ≤ longest_line → IsOk r
    → now ≡ (if is_ok r then line ++ bytes else line) → partial t now ≡ add_all p bytes
adds_fits true r line bytes now p seen e fits ok is = cc
adds_fits false r line bytes now p seen e fits ok is = ap Some (is ∙ ap (λ b. if b then line ++ bytes else line) ok) ∙ sym (add_all_fits line bytes fits) ∙ ap (λ q. add_all q bytes) seen

pub adds_over : (t : Bool) (line bytes : List ℕ) (p : Partial) → partial t line ≡ p → t ≡ false → length line ≤ longest_line → longest_line < length line + length bytes → None ≡ add_all p bytes
adds_over true line bytes p seen e fits over = cc
adds_over false line bytes p seen e fits over = sym (add_all_over line bytes fits over) ∙ ap (λ q. add_all q bytes) seen

pub adds_within : {T E : Type 0} (t : Bool) (r : Result T E) (line bytes now : List ℕ) → t ≡ false → length line + length bytes ≤ longest_line → now ≡ (if is_ok r then line ++ bytes else line) → Fits (partial t now)
adds_within true r line bytes now e fits is = cc
adds_within false (Ok x) line bytes now e fits is = omega (arith, fits, ap length is, length-append line bytes)
adds_within false (Err x) line bytes now e fits is = omega (arith, fits, ap length is)

pub empty_fits : (line : Partial) → line ≡ Some [] → Fits line
empty_fits line is = subst Fits (sym is) (omega arith)

-- ---- the bytes before a line feed

not_feed : (b : ℕ) → is_no_feed b ≡ true → b ≢ 10
not_feed b e = grind (arith, nat_tests)

is_feed : (b : ℕ) → is_no_feed b ≡ false → b ≡ 10
is_feed b e = grind (arith, nat_tests)

pub all_before : (bytes : List ℕ) (n : ℕ) → n ≡ prefix_len is_no_feed bytes → n ≤ length bytes → All (λ b. b ≢ 10) (take n bytes)
all_before bytes n is within = λ k d lt.
    let less : k < n = omega (arith, lt, length-take-le n bytes within) in
    subst (λ b. b ≢ 10) (sym (get_or-take n bytes k d less)) (not_feed (get_or bytes k d) (prefix_len_passes is_no_feed bytes k d (subst (λ m. k < m) is less)))

pub feed_behind : (bytes : List ℕ) (n : ℕ) → n ≡ prefix_len is_no_feed bytes → n < length bytes → get_or bytes n 0 ≡ 10
feed_behind bytes n is less = is_feed (get_or bytes n 0) (subst (λ m. is_no_feed (get_or bytes m 0) ≡ false) (sym is) (prefix_len_stops is_no_feed bytes 0 (subst (λ m. m < length bytes) is less)))
