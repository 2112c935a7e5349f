-- All events are listed.
use Rattle.std.proofs.Common.{◌≡◌, ℕ, ◌≤◌, true, cond, ◌&&◌, List, [], ◌∷◌, None, All, refl, sym, subst, arith, nat_le, filter}
use Rattle.std.proofs.lemmas.Bool.Decides.{nat_tests}
use Rattle.std.proofs.lemmas.List.Elements.{All-head, All-tail}
use Rattle.values.specs.Event.{Event}
use Rattle.keyrange.specs.Range.{is_key_in}

module _ (last : ℕ) where
  listed : (key : List ℕ) (at : ℕ) → at ≤ last → (is_key_in (record { lo = []; hi = None }) key && (nat_le 0 at && nat_le at last)) ≡ true
  listed [] at le = grind (arith, nat_tests)
  listed (b ∷ key) at le = grind (arith, nat_tests)

  every_listed : (es : List Event) → All (λ e. e.at ≤ last) es → filter (λ e. is_key_in (record { lo = []; hi = None }) e.key && (nat_le 0 e.at && nat_le e.at last)) es ≡ es
  every_listed [] h = refl
  every_listed (e ∷ es) h =
      let others = every_listed es (All-tail (λ (e : Event). e.at ≤ last) e es h) in
      λ i. cond (listed e.key e.at (All-head (λ (e : Event). e.at ≤ last) e es h) i) (e ∷ others i) (others i)

  -- where none is past it, that is all
  pub all_listed : (lo : List ℕ) → lo ≡ [] → (es : List Event) → All (λ e. e.at ≤ last) es → filter (λ e. is_key_in (record { lo = lo; hi = None }) e.key && (nat_le 0 e.at && nat_le e.at last)) es ≡ es
  all_listed lo is es h = subst (λ (l : List ℕ). filter (λ e. is_key_in (record { lo = l; hi = None }) e.key && (nat_le 0 e.at && nat_le e.at last)) es ≡ es) (sym is) (every_listed es h)
