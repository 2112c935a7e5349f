-- Digits and the numbers that they write.
use Rattle.std.proofs.Common.{◌≡◌, ℕ, ◌≤◌, ◌<◌, ◌*◌, ◌+◌, Bool, true, false, List, [], ◌∷◌, take, drop, length, get_or, arith, refl, subst, ap, suc, cond, ◌-◌}
use Rattle.std.specs.List.{prefix_len}
use Rattle.std.specs.Char.{is_ascii_digit, digit_value}
use Rattle.std.specs.Str.Parse.{AllDigits, digits_value_after, digits_value}
use Rattle.std.proofs.lemmas.List.{at_drop_more}
use Rattle.std.proofs.lemmas.Bool.Decides.{nat_tests}

-- a number only grows by the digits that follow
pub grows : (n : ℕ) (ds : List ℕ) → n ≤ digits_value_after 10 n ds
grows n [] = omega arith
grows n (d ∷ ds) = omega (arith, grows (n * 10 + digit_value d) ds)

one_more : (n : ℕ) → 1 + n ≡ suc n
one_more n = omega arith

digit_in : (d : ℕ) → digit_value d < 10 → digit_value d ≡ d - 48
digit_in d h = grind (arith, nat_tests)

digit_below : (d : ℕ) → is_ascii_digit d ≡ true → digit_value d < 10
digit_below d h = grind (arith, nat_tests)

digits_step : (d : ℕ) (ds : List ℕ) (t : Bool) → is_ascii_digit d ≡ t → AllDigits 10 (take (prefix_len is_ascii_digit ds) ds) → AllDigits 10 (take (cond t (1 + prefix_len is_ascii_digit ds) 0) (d ∷ ds))
digits_step d ds true is all = rw (one_more (prefix_len is_ascii_digit ds)) (digit_below d is, all)
digits_step d ds false is all = tt

pub digits_front : (ds : List ℕ) → AllDigits 10 (take (prefix_len is_ascii_digit ds) ds)
digits_front [] = tt
digits_front (d ∷ ds) = digits_step d ds (is_ascii_digit d) refl (digits_front ds)

over_at : (most n d : ℕ) (ds : List ℕ) → AllDigits 10 (d ∷ ds) → most < 10 * n + (d - 48) → most < digits_value_after 10 n (d ∷ ds)
over_at most n d ds all over = omega (arith, grows (n * 10 + digit_value d) ds, digit_in d all.0)

-- a number above the limit is no longer within it, whatever digits follow
pub too_great : (most n i : ℕ) (ds : List ℕ) → AllDigits 10 (drop i ds) → i < length ds → digits_value_after 10 n (drop i ds) ≡ digits_value 10 ds
    → most < 10 * n + (get_or ds i 0 - 48) → most < digits_value 10 ds
too_great most n i ds all in_ds value over =
    let split = at_drop_more (λ (l : List ℕ). l) ds i 0 in_ds in
    let more : most < digits_value_after 10 n (get_or ds i 0 ∷ drop (i + 1) ds) = over_at most n (get_or ds i 0) (drop (i + 1) ds) (subst (AllDigits 10) split all) over in
    omega (arith, more, ap (digits_value_after 10 n) split, value)
