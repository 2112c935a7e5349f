-- The first line feed comes after as many bytes as have none at the start.
use Rattle.std.proofs.Common.{◌≡◌, ℕ, ◌+◌, zero, suc, Bool, true, false, List, [], ◌∷◌, cond, length, refl, arith}
use Rattle.std.specs.Prelude.{◌==◌, not}
use Rattle.std.specs.List.{prefix_len}
use Rattle.memchr.specs.Find.{Passes, Nowhere, NoneBefore, is_byte}
use Rattle.lines.specs.Partial.{is_no_feed}

pub none_found : (bytes : List ℕ) → Nowhere (Passes (is_byte 10) bytes) 0 (length bytes) → length bytes ≡ prefix_len is_no_feed bytes
none_found [] none = refl
none_found (b ∷ bytes) none = by (b == 10) refl (λ none. none_found bytes none)
  where
    by : (t : Bool) → (b == 10) ≡ t → (Nowhere (Passes (is_byte 10) bytes) 0 (length bytes) → length bytes ≡ prefix_len is_no_feed bytes)
        → length (b ∷ bytes) ≡ cond (not t) (1 + prefix_len is_no_feed bytes) 0
    by true is behind = absurd (none 0 (omega arith) (omega arith) is)
    by false is behind = omega (arith, behind (λ k from within. none (suc k) (omega arith) (omega (arith, within))))

pub found_at : (bytes : List ℕ) (k : ℕ) → NoneBefore (Passes (is_byte 10) bytes) 0 (length bytes) k → Passes (is_byte 10) bytes k → k ≡ prefix_len is_no_feed bytes
found_at [] k first is = let within = first.high in absurd (omega (arith, within))
found_at (b ∷ bytes) k first is = by (b == 10) refl k first is (λ k first is. found_at bytes k first is)
  where
    by : (t : Bool) → (b == 10) ≡ t → (k : ℕ) → NoneBefore (Passes (is_byte 10) (b ∷ bytes)) 0 (length (b ∷ bytes)) k → Passes (is_byte 10) (b ∷ bytes) k
        → ((k : ℕ) → NoneBefore (Passes (is_byte 10) bytes) 0 (length bytes) k → Passes (is_byte 10) bytes k → k ≡ prefix_len is_no_feed bytes)
        → k ≡ cond (not t) (1 + prefix_len is_no_feed bytes) 0
    by true here zero first is behind = refl
    by true here (suc k) first is behind = absurd (first.before 0 (omega arith) (omega arith) here)
    by false here zero first is behind = cc
    by false here (suc k) first is behind =
        let within = first.high in
        let next : NoneBefore (Passes (is_byte 10) bytes) 0 (length bytes) k =
        record { low = omega arith; high = omega (arith, within); before = λ i from before. first.before (suc i) (omega arith) (omega (arith, before)) } in
        omega (arith, behind k next is)
