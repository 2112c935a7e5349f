-- A map of changes that are put all at once is that of the changes put in turn.
use Rattle.std.proofs.Common.{◌≡◌, Bool, cond, T, [], ◌∷◌, Some, None, refl, sym, ap, ◌∙◌}
use Rattle.std.specs.BTreeMap.{insert_entry, is_at}
use Rattle.std.specs.FinMap.{is_sorted}
use Rattle.std.specs.List.Sorted.{IsStrictlySortedBy}
use Rattle.std.specs.Map.{keys_of, lookup, update_all}
use Rattle.std.specs.Ordering.{eq_by_cmp, is_eq, ordering_reverse}
use Rattle.std.specs.declared.cmp.Ordering.{Ordering}
use Rattle.std.specs.declared.cmp.Ordering.TheVariants.{Less, Equal, Greater}
use Rattle.values.specs.declared.key.Key.{Key}
use Rattle.values.specs.Log.{Net}
use Rattle.values.specs.Order.{key_cmp, is_key}
use Rattle.values.proofs.LogMaps.{same_map, sorted_insert, lookup-insert_entry}
use Rattle.values.proofs.OrderTotal.{key_cmp_total, key_cmp-IsAntisymmetric}
use Rattle.staging.specs.Staged.{put_all}
use Rattle.staging.proofs.StagedEntries.{sorted_from}

is_key_back : (k q : Key) → is_key k q ≡ is_key q k
is_key_back k q = ap is_eq (key_cmp_total.antisymm k q) ∙ turned (key_cmp q k)
  where
    turned : (o : Ordering) → is_eq (ordering_reverse o) ≡ is_eq o
    turned Less = refl
    turned Equal = refl
    turned Greater = refl

-- what a key has after changes
found-put_all : (cs w : Net) (q : Key) → lookup (is_at (key_cmp q)) (put_all cs w) ≡ update_all (eq_by_cmp key_cmp) (λ q. lookup (is_at (key_cmp q)) w) cs q
found-put_all [] w q = refl
found-put_all (c ∷ cs) w q =
    found-put_all cs (insert_entry key_cmp w c.0 c.1) q
    ∙ (λ i. update_all (eq_by_cmp key_cmp) (λ q. one q i) cs q)
  where
    one : (q : Key) → lookup (is_at (key_cmp q)) (insert_entry key_cmp w c.0 c.1) ≡ cond (is_key c.0 q) (Some c.1) (lookup (is_at (key_cmp q)) w)
    one q = lookup-insert_entry key_cmp_total q c.0 c.1 w ∙ ap (λ (b : Bool). cond b (Some c.1) (lookup (is_at (key_cmp q)) w)) (is_key_back q c.0)

sorted-put_all : (cs w : Net) → T (is_sorted key_cmp w) → T (is_sorted key_cmp (put_all cs w))
sorted-put_all [] w h = h
sorted-put_all (c ∷ cs) w h = sorted-put_all cs _ (sorted_insert key_cmp_total w c.0 c.1 h)

pub built_is : (cs es : Net) → ((q : Key) → lookup (is_at (key_cmp q)) es ≡ update_all (eq_by_cmp key_cmp) (λ _. None) cs q) → IsStrictlySortedBy key_cmp (keys_of es) → es ≡ put_all cs []
built_is cs es alike sorted =
    same_map key_cmp_total key_cmp-IsAntisymmetric es (put_all cs []) (sorted_from es sorted) (sorted-put_all cs [] tt) (λ q. alike q ∙ sym (found-put_all cs [] q))
