-- The changes of the transactions up to an instant are the changes up to then.
use Rattle.std.proofs.Common.{◌≡◌, ℕ, Bool, true, false, cond, T, [], ◌∷◌, Option, Some, None, refl, sym, ap, ◌∙◌, nat_le}
use Rattle.std.specs.Ordering.{is_eq, eq_by_cmp}
use Rattle.std.specs.declared.cmp.Ordering.{Ordering}
use Rattle.std.specs.declared.cmp.Ordering.TheVariants.{Less, Equal, Greater}
use Rattle.std.specs.BTreeMap.{insert_entry}
use Rattle.std.specs.FinMap.{is_sorted, find}
use Rattle.std.specs.FinMap.Entries.{where_key, put, is_sorted-put, find-put, is_sorted-where_key, find-where_key, same_entries}
use Rattle.values.specs.declared.key.Point.{Point}
use Rattle.values.specs.Log.{Log, Net, Row, Changes, point_cmp, add_net, add_all, upto}
use Rattle.values.specs.Law.{ChangesUpto}
use Rattle.values.proofs.OrderTotal.{point_cmp_total, point_cmp-IsAntisymmetric}
use Rattle.values.proofs.LogMaps.{insert_entry-put, sorted_insert}
use Rattle.values.proofs.LogLatest.{point}

abbrev early : ℕ → Point → Bool
early t p = nat_le p.instant t

alike : (t : ℕ) (q x : Point) → point_cmp q x ≡ Equal → early t x ≡ early t q
alike t q x e = ap (early t) (sym (point_cmp-IsAntisymmetric q x e))

-- what is found among the early changes once a change was put
found_in : (t : ℕ) (q p : Point) (b : Bool) (v : Option Row) (x : Option (Option Row)) → eq_by_cmp point_cmp q p ≡ b → early t p ≡ true → cond (early t q) (cond b (Some v) x) None ≡ cond b (Some v) (cond (early t q) x None)
found_in t q p true v x e is = ap (λ b. cond b (Some v) None) (sym (alike t q p (tie _ e)) ∙ is)
  where
    tie : (o : Ordering) → is_eq o ≡ true → o ≡ Equal
    tie Less e = cc
    tie Equal e = refl
    tie Greater e = cc
found_in t q p false v x e is = refl

missed_in : (t : ℕ) (q p : Point) (b : Bool) (v : Option Row) (x : Option (Option Row)) → eq_by_cmp point_cmp q p ≡ b → early t p ≡ false → cond (early t q) (cond b (Some v) x) None ≡ cond (early t q) x None
missed_in t q p true v x e is = ap (λ b. cond b (Some v) None) at ∙ sym (ap (λ b. cond b x None) at)
  where
    tie : (o : Ordering) → is_eq o ≡ true → o ≡ Equal
    tie Less e = cc
    tie Equal e = refl
    tie Greater e = cc

    at : early t q ≡ false
    at = sym (alike t q p (tie _ e)) ∙ is
missed_in t q p false v x e is = refl

pub early_put : (t : ℕ) (m : Changes) (p : Point) (v : Option Row) → T (is_sorted point_cmp m) → early t p ≡ true → where_key point_cmp (early t) (put point_cmp p v m) ≡ put point_cmp p v (where_key point_cmp (early t) m)
early_put t m p v h is =
    same_entries point_cmp point_cmp_total point_cmp-IsAntisymmetric (where_key point_cmp (early t) (put point_cmp p v m)) (put point_cmp p v (where_key point_cmp (early t) m))
    (is_sorted-where_key point_cmp (early t) (put point_cmp p v m) (is_sorted-put point_cmp point_cmp_total p v m h))
    (is_sorted-put point_cmp point_cmp_total p v (where_key point_cmp (early t) m) (is_sorted-where_key point_cmp (early t) m h))
    (λ q. find-where_key point_cmp (early t) q (alike t q) (put point_cmp p v m) ∙ ap (λ x. cond (early t q) x None) (find-put point_cmp point_cmp_total q p v m)
    ∙ found_in t q p (eq_by_cmp point_cmp q p) v (find point_cmp q m) refl is
    ∙ sym (find-put point_cmp point_cmp_total q p v (where_key point_cmp (early t) m) ∙ ap (cond (eq_by_cmp point_cmp q p) (Some v)) (find-where_key point_cmp (early t) q (alike t q) m)))

pub late_put : (t : ℕ) (m : Changes) (p : Point) (v : Option Row) → T (is_sorted point_cmp m) → early t p ≡ false → where_key point_cmp (early t) (put point_cmp p v m) ≡ where_key point_cmp (early t) m
late_put t m p v h is =
    same_entries point_cmp point_cmp_total point_cmp-IsAntisymmetric (where_key point_cmp (early t) (put point_cmp p v m)) (where_key point_cmp (early t) m)
    (is_sorted-where_key point_cmp (early t) (put point_cmp p v m) (is_sorted-put point_cmp point_cmp_total p v m h))
    (is_sorted-where_key point_cmp (early t) m h)
    (λ q. find-where_key point_cmp (early t) q (alike t q) (put point_cmp p v m) ∙ ap (λ x. cond (early t q) x None) (find-put point_cmp point_cmp_total q p v m)
    ∙ missed_in t q p (eq_by_cmp point_cmp q p) v (find point_cmp q m) refl is
    ∙ sym (find-where_key point_cmp (early t) q (alike t q) m))

-- n has the early changes of m
record IsEarly (t : ℕ) (n m : Changes) : Type 0 where
  in_order : T (is_sorted point_cmp m)
  same : n ≡ where_key point_cmp (early t) m

early_net : (net : Net) (t i : ℕ) (n m : Changes) → nat_le i t ≡ true → IsEarly t n m → IsEarly t (add_net i n net) (add_net i m net)
early_net [] t i n m is h = h
early_net (c ∷ net) t i n m is h = early_net net t i _ _ is (record {
  in_order = sorted_insert point_cmp_total m (point c.0 i) c.1 h.in_order;
  same = ap (λ n. insert_entry point_cmp n (point c.0 i) c.1) h.same ∙ insert_entry-put point_cmp (where_key point_cmp (early t) m) (point c.0 i) c.1
      ∙ sym (ap (where_key point_cmp (early t)) (insert_entry-put point_cmp m (point c.0 i) c.1) ∙ early_put t m (point c.0 i) c.1 h.in_order is);
})

late_net : (net : Net) (t i : ℕ) (n m : Changes) → nat_le i t ≡ false → IsEarly t n m → IsEarly t n (add_net i m net)
late_net [] t i n m is h = h
late_net (c ∷ net) t i n m is h = late_net net t i n _ is (record {
  in_order = sorted_insert point_cmp_total m (point c.0 i) c.1 h.in_order;
  same = h.same ∙ sym (ap (where_key point_cmp (early t)) (insert_entry-put point_cmp m (point c.0 i) c.1) ∙ late_put t m (point c.0 i) c.1 h.in_order is);
})

early_log : (log : Log) (t : ℕ) (n m : Changes) → IsEarly t n m → IsEarly t (add_all n (upto log t)) (add_all m log)
early_log [] t n m h = h
early_log (u ∷ log) t n m h =
    elim (nat_le u.instant t) as (λ b. nat_le u.instant t ≡ b → IsEarly t (add_all n (cond b (u ∷ upto log t) (upto log t))) (add_all (add_net u.instant m u.net) log)) [
      | true ↦ λ is. early_log log t _ _ (early_net u.net t u.instant n m is h)
      | false ↦ λ is. early_log log t n _ (late_net u.net t u.instant n m is h)
    ] refl

pub changes_upto_is : ChangesUpto
changes_upto_is log t = (early_log log t [] [] (record { in_order = tt; same = refl })).same
