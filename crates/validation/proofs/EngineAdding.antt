-- What a commit adds to the events it adds to the changes.
use Rattle.std.proofs.Common.{◌≡◌, ℕ, List, [], ◌∷◌, T, ap, ◌∙◌}
use Rattle.std.specs.declared.cmp.Ordering.{Ordering}
use Rattle.std.specs.declared.cmp.Ordering.TheVariants.{Less}
use Rattle.std.specs.FinMap.{is_sorted}
use Rattle.std.specs.FinMap.Entries.{below_all}
use Rattle.std.specs.List.{AllByRecursion}
use Rattle.std.specs.List.Sorted.{IsStrictlySortedBy}
use Rattle.std.specs.Map.{keys_of}
use Rattle.values.specs.Tables.{Schema}
use Rattle.values.specs.Log.{Changes, Net, point_cmp, add_net}
use Rattle.values.specs.Events.{AreKeysIn, put_net}
use Rattle.values.proofs.OrderTotal.{point_cmp_total, first, second}
use Rattle.values.proofs.LogMaps.{sorted_insert}
use Rattle.values.proofs.LogLatest.{point}
use Rattle.values.proofs.OrderSorted.{is_less, sorted_from}
use Rattle.values.proofs.EventKeys.{put_net_is, add_net_in}
use Rattle.staging.specs.tsbtree.View.{TreeState}
use Rattle.staging.specs.View.{Holds, Adds}

module _ {K X : Type 0} (R : K → K → Ordering) where
  below_to : (k : K) (es : List (K × X)) → T (below_all R k es) → AllByRecursion (λ y. R k y ≡ Less) (keys_of es)
  below_to k [] h = tt
  below_to k (e ∷ es) h = (is_less _ (first _ _ h), below_to k es (second _ _ h))

  sorted_to : (es : List (K × X)) → T (is_sorted R es) → IsStrictlySortedBy R (keys_of es)
  unfolding IsStrictlySortedBy
  sorted_to [] h = tt
  sorted_to (e ∷ es) h = (below_to e.0 es (first _ _ h), sorted_to es (second _ _ h))

sorted_net : (net : Net) (i : ℕ) (m : Changes) → T (is_sorted point_cmp m) → T (is_sorted point_cmp (add_net i m net))
sorted_net [] i m h = h
sorted_net (c ∷ net) i m h = sorted_net net i _ (sorted_insert point_cmp_total m (point c.0 i) c.1 h)

pub added_holds : (instant : ℕ) (net : Net) (old new : TreeState) → Adds instant net old new → (schema : Schema) (m : Changes) → Holds schema old m → AreKeysIn schema net → Holds schema new (add_net instant m net)
added_holds instant net old new adds schema m held keys = record {
  events_are = adds.events_are ∙ ap (put_net instant net) held.events_are ∙ put_net_is schema net instant m keys held.keys;
  keys = add_net_in schema net instant m keys held.keys;
  in_order = sorted_to point_cmp (add_net instant m net) (sorted_net net instant m (sorted_from point_cmp m held.in_order));
}
