-- Entries in order: what is below what.
use Rattle.std.proofs.Common.{◌≡◌, true, T, List, [], ◌∷◌, refl, sym, subst}
use Rattle.std.specs.Cmp.{IsTotalOrder}
use Rattle.std.specs.Ordering.{is_eq, is_lt}
use Rattle.std.specs.declared.cmp.Ordering.{Ordering}
use Rattle.std.specs.declared.cmp.Ordering.TheVariants.{Less, Equal, Greater}
use Rattle.std.specs.FinMap.{is_sorted}
use Rattle.std.specs.FinMap.Entries.{below_all}
use Rattle.std.specs.List.{AllByRecursion}
use Rattle.std.specs.List.Sorted.{IsStrictlySortedBy}
use Rattle.std.specs.Map.{keys_of}
use Rattle.values.proofs.OrderTotal.{both, first, second}

pub is_less : (o : Ordering) → T (is_lt o) → o ≡ Less
is_less Less h = refl
is_less Equal h = absurd h
is_less Greater h = absurd h

pub is_equal : (o : Ordering) → is_eq o ≡ true → o ≡ Equal
is_equal Less e = cc
is_equal Equal e = refl
is_equal Greater e = cc

module _ {K X : Type 0} (R : K → K → Ordering) where
  below_from : (k : K) (es : List (K × X)) → AllByRecursion (λ y. R k y ≡ Less) (keys_of es) → T (below_all R k es)
  below_from k [] h = tt
  below_from k (e ∷ es) h = both _ _ (subst (λ o. T (is_lt o)) (sym h.0) tt) (below_from k es h.1)

  -- a map's keys are in order
  pub sorted_from : (es : List (K × X)) → IsStrictlySortedBy R (keys_of es) → T (is_sorted R es)
  unfolding IsStrictlySortedBy
  sorted_from [] h = tt
  sorted_from (e ∷ es) h = both _ _ (below_from e.0 es h.0) (sorted_from es h.1)

module _ {K X : Type 0} {R : K → K → Ordering} where
  -- what is below the least is below all
  pub below_less : IsTotalOrder R → (p r : K) (m : List (K × X)) → R p r ≡ Less → T (below_all R r m) → T (below_all R p m)
  below_less o p r [] e h = tt
  below_less o p r (c ∷ cs) e h =
      both _ _ (subst (λ o. T (is_lt o)) (sym (o.trans p r c.0 e (is_less _ (first _ _ h)))) tt) (below_less o p r cs e (second _ _ h))
