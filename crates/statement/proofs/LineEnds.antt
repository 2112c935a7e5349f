-- Where a line ends.
use Rattle.std.proofs.Common.{◌≡◌, ◌<◌, ◌-◌, ◌+◌, ℕ, Bool, true, false, List, [], ◌∷◌, ◌++◌, length, take, refl, ap, sym, ◌∙◌, arith}
use Rattle.std.specs.Prelude.{◌==◌, ◌&&◌, nat_lt, slice_index, if◌then◌else◌}
use Rattle.std.proofs.lemmas.Bool.{and_parts, and_from}
use Rattle.std.proofs.lemmas.Bool.Decides.{nat_tests}
use Rattle.std.proofs.lemmas.List.{append_assoc, length_push, get_or_at, take_at, take_all, take_more}
use Rattle.statement.specs.Line.{without_last, before_feed, body_of}
use Rattle.statement.specs.GrammarLaw.{EndsOtherwise, LineEndsAreNoTokens}
use Rattle.statement.proofs.GrammarSound.{same_byte}
use Rattle.tokens.proofs.WordCases.{same_number}

longer : (m n : ℕ) → n ≡ m + 1 → (m == n) ≡ false
longer m n is = grind (arith, nat_tests)

some_bytes : (n : ℕ) → 0 < n → nat_lt 0 n ≡ true
some_bytes n some = grind (arith, nat_tests)

has_bytes : (n : ℕ) → nat_lt 0 n ≡ true → 0 < n
has_bytes n is = grind (arith, nat_tests)

last_dropped : (b : ℕ) (front : List ℕ) → without_last b (front ++ b ∷ []) ≡ front
last_dropped b front =
    let bytes : List ℕ = front ++ b ∷ [] in
    let pushed : length bytes ≡ length front + 1 = length_push front b in
    let there : length bytes - 1 ≡ length front = omega (arith, pushed) in
    let found : (slice_index bytes (length front) == b) ≡ true = ap (λ (c : ℕ). c == b) (get_or_at front b [] 0 (length front) refl) ∙ same_number b in
    ap (λ (n : ℕ). if nat_lt 0 (length bytes) && (slice_index bytes n == b) then take n bytes else bytes) there
    ∙ ap (λ t. if t then take (length front) bytes else bytes) (and_from _ _ (some_bytes (length bytes) (omega (arith, pushed))) found)
    ∙ take_at front (b ∷ []) (length front) refl

last_kept : (b : ℕ) (bytes : List ℕ) → EndsOtherwise b bytes → without_last b bytes ≡ bytes
last_kept b bytes other = by_test (nat_lt 0 (length bytes) && (slice_index bytes (length bytes - 1) == b)) refl
  where
    by_test : (t : Bool) → (nat_lt 0 (length bytes) && (slice_index bytes (length bytes - 1) == b)) ≡ t → (if t then take (length bytes - 1) bytes else bytes) ≡ bytes
    by_test false is = refl
    by_test true is =
        let p = and_parts (nat_lt 0 (length bytes)) (slice_index bytes (length bytes - 1) == b) is in
        let some = has_bytes (length bytes) p.0 in
        let i : ℕ = length bytes - 1 in
        let below : i < length bytes = omega arith in
        let whole : take (i + 1) bytes ≡ bytes = take_all (i + 1) bytes (omega arith) in
        let last : slice_index bytes i ≡ b = same_byte (slice_index bytes i) b p.1 in
        absurd (other (take i bytes) (sym whole ∙ take_more bytes i 0 below ∙ ap (λ (c : ℕ). take i bytes ++ c ∷ []) last))

ended : (front : List ℕ) → body_of (front ++ 10 ∷ []) ≡ without_last 13 front
ended front =
    let line : List ℕ = front ++ 10 ∷ [] in
    ap (λ (l : List ℕ). if length l == length line then line else without_last 13 l) (last_dropped 10 front)
    ∙ ap (λ t. if t then line else without_last 13 front) (longer (length front) (length line) (length_push front 10))

regrouped : (body : List ℕ) → body ++ 13 ∷ 10 ∷ [] ≡ (body ++ 13 ∷ []) ++ 10 ∷ []
regrouped body = sym (append_assoc body (13 ∷ []) (10 ∷ []))

pub line_ends : LineEndsAreNoTokens
line_ends = record {
  returned = λ body. ap body_of (regrouped body) ∙ ended (body ++ 13 ∷ []) ∙ last_dropped 13 body;
  counted = λ body. ap before_feed (regrouped body) ∙ last_dropped 10 (body ++ 13 ∷ []);
  fed = λ body other. ended body ∙ last_kept 13 body other;
  open_ended = λ body other.
      ap (λ (l : List ℕ). if length l == length body then body else without_last 13 l) (last_kept 10 body other)
      ∙ ap (λ t. if t then body else without_last 13 body) (same_number (length body));
}
