-- What is in the range of a table has the table's number in front.
use Rattle.std.proofs.Common.{◌≡◌, ℕ, ◌+◌, ◌<◌, Bool, true, false, refl, List, [], ◌∷◌, ◌==◌, not, Some, None, ap, sym, ◌∙◌, arith, if◌then◌else◌, nat_lt}
use Rattle.std.proofs.lemmas.Bool.{and_parts}
use Rattle.std.proofs.lemmas.Bool.Decides.{nat_tests}
use Rattle.std.specs.Ordering.{nat_cmp, ordering_then, is_lt}
use Rattle.std.specs.Cmp.{nat_cmp_is}
use Rattle.std.specs.declared.cmp.Ordering.TheVariants.{Less, Equal, Greater}
use Rattle.keyrange.specs.Range.{is_before_end, is_key_in}
use Rattle.searchrange.specs.SearchRange.{range_of_table}
use Rattle.searchrange.proofs.PrefixBytes.{bytes_cmp, not_below_none}

clash : ◌≡◌ {A = Bool} false true → ⊥
clash h = cc

module _ (number b : ℕ) (bytes : List ℕ) (small : number < 255) (inside : is_key_in (range_of_table number) (b ∷ bytes) ≡ true) where
  parts : (not (is_lt (ordering_then (nat_cmp b number) (bytes_cmp bytes []))) ≡ true) × (is_before_end (b ∷ bytes) (range_of_table number).hi ≡ true)
  parts = and_parts (not (is_lt (ordering_then (nat_cmp b number) (bytes_cmp bytes [])))) (is_before_end (b ∷ bytes) (range_of_table number).hi) inside

  other : (number == 255) ≡ false
  other = grind (arith, nat_tests)

  ends : is_lt (ordering_then (nat_cmp b (number + 1)) (bytes_cmp bytes [])) ≡ true
  ends = sym (ap (λ (t : Bool). is_before_end (b ∷ bytes) (if t then None else Some ((number + 1) ∷ []))) other) ∙ parts.1

  not_below : b < number → ⊥
  not_below lt = clash (ap (λ o. not (is_lt (ordering_then o (bytes_cmp bytes [])))) (nat_cmp_is b number Less lt) ∙ parts.0)

  not_next : b ≡ number + 1 → ⊥
  not_next e = clash (sym (not_below_none bytes) ∙ ap (λ o. is_lt (ordering_then o (bytes_cmp bytes []))) (nat_cmp_is b (number + 1) Equal e) ∙ ends)

  not_above : number + 1 < b → ⊥
  not_above lt = clash (ap (λ o. is_lt (ordering_then o (bytes_cmp bytes []))) (nat_cmp_is b (number + 1) Greater lt) ∙ ends)

  pub own_number : b ≡ number
  own_number = below (nat_lt b number) refl
    where
      above : (t : Bool) → nat_lt (number + 1) b ≡ t → (b < number → ⊥) → b ≡ number
      above true e low = absurd (not_above (grind (arith, nat_tests)))
      above false e low = next (b == number + 1) refl
        where
          next : (t : Bool) → (b == number + 1) ≡ t → b ≡ number
          next true f = absurd (not_next (grind (arith, nat_tests)))
          next false f = least (nat_lt b number) refl
            where
              least : (t : Bool) → nat_lt b number ≡ t → b ≡ number
              least true g = absurd (low (grind (arith, nat_tests)))
              least false g = grind (arith, nat_tests)

      below : (t : Bool) → nat_lt b number ≡ t → b ≡ number
      below true e = absurd (not_below (grind (arith, nat_tests)))
      below false e = above (nat_lt (number + 1) b) refl not_below
