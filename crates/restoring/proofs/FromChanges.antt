-- The log is read off its changes: its transactions' instants, and at each the transaction's net changes.
use Rattle.std.proofs.Common.{◌≡◌, ℕ, ◌<◌, ◌≤◌, Bool, true, false, cond, ◌||◌, T, List, [], ◌∷◌, ◌++◌, Option, Some, None, refl, sym, ap, subst, ◌∙◌, map, filter, length, arith, append-nil, append_assoc}
use Rattle.std.specs.Prelude.{is_some}
use Rattle.std.specs.List.{list_any}
use Rattle.std.specs.Cmp.{nat_cmp_total}
use Rattle.std.specs.Ordering.{is_eq, is_lt, eq_by_cmp, nat_cmp, match_ordering, ordering_then, ordering_reverse}
use Rattle.std.specs.declared.cmp.Ordering.{Ordering}
use Rattle.std.specs.declared.cmp.Ordering.TheVariants.{Less, Equal, Greater}
use Rattle.std.specs.BTreeMap.{insert_entry}
use Rattle.std.specs.FinMap.{is_sorted, find, nat_cmp-IsAntisymmetric}
use Rattle.std.specs.FinMap.Entries.{below_all, where_key, put, is_sorted-put, find-put, is_sorted-where_key, find-where_key, same_entries}
use Rattle.values.specs.declared.key.Key.{Key}
use Rattle.values.specs.declared.key.Point.{Point}
use Rattle.values.specs.declared.key.Transaction.{Transaction}
use Rattle.values.specs.Order.{key_cmp}
use Rattle.values.specs.Log.{Log, Net, Row, Changes, point_cmp, add_net, add_all, changes}
use Rattle.values.specs.Law.{IsLog, Rises}
use Rattle.values.proofs.OrderTotal.{key_cmp_total, point_cmp_total, point_cmp-IsAntisymmetric, first, second, both, below}
use Rattle.values.proofs.LogMaps.{insert_entry-put, sorted_insert}
use Rattle.values.proofs.LogLatest.{point, Upto, Upto-more}
use Rattle.values.proofs.LogStates.{Upto-net}
use Rattle.restoring.specs.FromChanges.{net_at, instants, AreNets, LogIsOfChanges}
use Rattle.restoring.proofs.RebuiltSets.{among, inserted, units, InOrder, in_order_inserted, same_set}

abbrev on : ℕ → Point → Bool
on i p = eq_by_cmp nat_cmp i p.instant

abbrev at_instant : ℕ → Changes → Changes
at_instant i m = where_key point_cmp (on i) m

-- ---- a change that is put at an instant

alike : (i : ℕ) (q x : Point) → point_cmp q x ≡ Equal → on i x ≡ on i q
alike i q x e = ap (on i) (sym (point_cmp-IsAntisymmetric q x e))

tie : (o : Ordering) → is_eq o ≡ true → o ≡ Equal
tie Less e = cc
tie Equal e = refl
tie Greater e = cc

found_in : (i : ℕ) (q p : Point) (b : Bool) (v : Option Row) (x : Option (Option Row)) → eq_by_cmp point_cmp q p ≡ b → on i p ≡ true → cond (on i q) (cond b (Some v) x) None ≡ cond b (Some v) (cond (on i q) x None)
found_in i q p true v x e is = ap (λ b. cond b (Some v) None) (sym (alike i q p (tie _ e)) ∙ is)
found_in i q p false v x e is = refl

missed_in : (i : ℕ) (q p : Point) (b : Bool) (v : Option Row) (x : Option (Option Row)) → eq_by_cmp point_cmp q p ≡ b → on i p ≡ false → cond (on i q) (cond b (Some v) x) None ≡ cond (on i q) x None
missed_in i q p true v x e is = ap (λ b. cond b (Some v) None) at ∙ sym (ap (λ b. cond b x None) at)
  where
    at : on i q ≡ false
    at = sym (alike i q p (tie _ e)) ∙ is
missed_in i q p false v x e is = refl

put_on : (i : ℕ) (m : Changes) (p : Point) (v : Option Row) → T (is_sorted point_cmp m) → on i p ≡ true → at_instant i (put point_cmp p v m) ≡ put point_cmp p v (at_instant i m)
put_on i m p v h is =
    same_entries point_cmp point_cmp_total point_cmp-IsAntisymmetric (at_instant i (put point_cmp p v m)) (put point_cmp p v (at_instant i m))
    (is_sorted-where_key point_cmp (on i) (put point_cmp p v m) (is_sorted-put point_cmp point_cmp_total p v m h))
    (is_sorted-put point_cmp point_cmp_total p v (at_instant i m) (is_sorted-where_key point_cmp (on i) m h))
    (λ q. find-where_key point_cmp (on i) q (alike i q) (put point_cmp p v m) ∙ ap (λ x. cond (on i q) x None) (find-put point_cmp point_cmp_total q p v m)
    ∙ found_in i q p (eq_by_cmp point_cmp q p) v (find point_cmp q m) refl is
    ∙ sym (find-put point_cmp point_cmp_total q p v (at_instant i m) ∙ ap (cond (eq_by_cmp point_cmp q p) (Some v)) (find-where_key point_cmp (on i) q (alike i q) m)))

put_off : (i : ℕ) (m : Changes) (p : Point) (v : Option Row) → T (is_sorted point_cmp m) → on i p ≡ false → at_instant i (put point_cmp p v m) ≡ at_instant i m
put_off i m p v h is =
    same_entries point_cmp point_cmp_total point_cmp-IsAntisymmetric (at_instant i (put point_cmp p v m)) (at_instant i m)
    (is_sorted-where_key point_cmp (on i) (put point_cmp p v m) (is_sorted-put point_cmp point_cmp_total p v m h))
    (is_sorted-where_key point_cmp (on i) m h)
    (λ q. find-where_key point_cmp (on i) q (alike i q) (put point_cmp p v m) ∙ ap (λ x. cond (on i q) x None) (find-put point_cmp point_cmp_total q p v m)
    ∙ missed_in i q p (eq_by_cmp point_cmp q p) v (find point_cmp q m) refl is
    ∙ sym (find-where_key point_cmp (on i) q (alike i q) m))

-- ---- net changes that are added at an instant

abbrev points : ℕ → Net → Changes
points i net = map (λ c. (point c.0 i, c.1)) net

itself : (i : ℕ) → eq_by_cmp nat_cmp i i ≡ true
itself i = by (nat_cmp i i) (nat_cmp_total.antisymm i i)
  where
    by : (o : Ordering) → o ≡ ordering_reverse o → is_eq o ≡ true
    by Less e = cc
    by Equal e = refl
    by Greater e = cc

greater : (k d : Key) → T (is_lt (key_cmp d k)) → key_cmp k d ≡ Greater
greater k d h = key_cmp_total.antisymm k d ∙ by (key_cmp d k) h
  where
    by : (o : Ordering) → T (is_lt o) → ordering_reverse o ≡ Greater
    by Less h = refl
    by Equal h = absurd h
    by Greater h = absurd h

-- the last of them all is put last
put_last : (i : ℕ) (done : Net) (k : Key) (v : Option Row) (rest : Net) → T (is_sorted key_cmp (done ++ (k, v) ∷ rest)) → insert_entry point_cmp (points i done) (point k i) v ≡ points i (done ++ (k, v) ∷ [])
put_last i [] k v rest h = refl
put_last i (d ∷ done) k v rest h =
    ap (λ o. put_by o (insert_entry point_cmp (points i done) (point k i) v)) (greater k d.0 (inside done (first _ _ h)))
    ∙ ap (λ l. (point d.0 i, d.1) ∷ l) (put_last i done k v rest (second _ _ h))
  where
    put_by : Ordering → Changes → Changes
    put_by o later = match_ordering (ordering_then o (nat_cmp i i)) ((point k i, v) ∷ (point d.0 i, d.1) ∷ points i done) ((point d.0 i, v) ∷ points i done) ((point d.0 i, d.1) ∷ later)

    inside : (ds : Net) → T (below_all key_cmp d.0 (ds ++ (k, v) ∷ rest)) → T (is_lt (key_cmp d.0 k))
    inside [] h = first _ _ h
    inside (x ∷ ds) h = inside ds (second _ _ h)

added_on : (net : Net) (i : ℕ) (m : Changes) (done : Net) → T (is_sorted point_cmp m) → at_instant i m ≡ points i done → T (is_sorted key_cmp (done ++ net)) → at_instant i (add_net i m net) ≡ points i (done ++ net)
added_on [] i m done h is in_order = is ∙ ap (points i) (sym (append-nil done))
added_on (c ∷ net) i m done h is in_order =
    added_on net i (insert_entry point_cmp m (point c.0 i) c.1) (done ++ c ∷ []) (sorted_insert point_cmp_total m (point c.0 i) c.1 h)
    (ap (at_instant i) (insert_entry-put point_cmp m (point c.0 i) c.1) ∙ put_on i m (point c.0 i) c.1 h (itself i)
    ∙ ap (put point_cmp (point c.0 i) c.1) is ∙ sym (insert_entry-put point_cmp (points i done) (point c.0 i) c.1) ∙ put_last i done c.0 c.1 net in_order)
    (subst (λ l. T (is_sorted key_cmp l)) (sym (append_assoc done (c ∷ []) net)) in_order)
    ∙ ap (points i) (append_assoc done (c ∷ []) net)

added_off : (net : Net) (i j : ℕ) (m : Changes) → T (is_sorted point_cmp m) → eq_by_cmp nat_cmp i j ≡ false → at_instant i (add_net j m net) ≡ at_instant i m
added_off [] i j m h other = refl
added_off (c ∷ net) i j m h other =
    added_off net i j (insert_entry point_cmp m (point c.0 j) c.1) (sorted_insert point_cmp_total m (point c.0 j) c.1 h) other
    ∙ ap (at_instant i) (insert_entry-put point_cmp m (point c.0 j) c.1) ∙ put_off i m (point c.0 j) c.1 h other

net_order : (net : Net) (i : ℕ) (m : Changes) → T (is_sorted point_cmp m) → T (is_sorted point_cmp (add_net i m net))
net_order [] i m h = h
net_order (c ∷ net) i m h = net_order net i _ (sorted_insert point_cmp_total m (point c.0 i) c.1 h)

-- ---- a log

-- the net changes of the transaction at an instant
abbrev net_in : Log → ℕ → Option Net
net_in [] i = None
net_in (t ∷ log) i = cond (eq_by_cmp nat_cmp i t.instant) (Some t.net) (net_in log i)

abbrev points_or : Changes → ℕ → Option Net → Changes
points_or m i None = m
points_or m i (Some net) = points i net

unequal : (i j : ℕ) → (i ≡ j → ⊥) → eq_by_cmp nat_cmp i j ≡ false
unequal i j other = by (nat_cmp i j) refl
  where
    by : (o : Ordering) → nat_cmp i j ≡ o → is_eq o ≡ false
    by Less e = refl
    by Equal e = absurd (other (nat_cmp-IsAntisymmetric i j e))
    by Greater e = refl

-- a log above an instant has none there
none_in : (log : Log) (n i : ℕ) → Rises n log → i ≤ n → net_in log i ≡ None
none_in [] n i rises le = refl
none_in (t ∷ log) n i rises le =
    let above : n < t.instant = rises.0 in
    ap (λ b. cond b (Some t.net) (net_in log i)) (unequal i t.instant (λ (same : i ≡ t.instant). omega arith)) ∙ none_in log t.instant i rises.1 (omega arith)

none_on : (m : Changes) (n i : ℕ) → Upto n m → n < i → at_instant i m ≡ []
none_on [] n i up lt = refl
none_on (c ∷ m) n i up lt =
    let le : c.0.instant ≤ n = up.0 in
    ap (λ b. cond b (c ∷ at_instant i m) (at_instant i m)) (unequal i c.0.instant (λ (same : i ≡ c.0.instant). omega arith)) ∙ none_on m n i up.1 lt

same_number : (i j : ℕ) → eq_by_cmp nat_cmp i j ≡ true → i ≡ j
same_number i j e = nat_cmp-IsAntisymmetric i j (tie _ e)

-- what was changed at an instant
all_on : (log : Log) (n i : ℕ) (m : Changes) → Rises n log → Upto n m → T (is_sorted point_cmp m) → AreNets log → at_instant i (add_all m log) ≡ points_or (at_instant i m) i (net_in log i)
all_on [] n i m rises up h nets = refl
all_on (t ∷ log) n i m rises up h nets =
    let lt : n < t.instant = rises.0 in
    by (eq_by_cmp nat_cmp i t.instant) refl
    (all_on log t.instant i (add_net t.instant m t.net) rises.1 (Upto-net t.net t.instant m (Upto-more m n t.instant (omega arith) up)) (net_order t.net t.instant m h) nets.1)
  where
    by : (b : Bool) → eq_by_cmp nat_cmp i t.instant ≡ b
        → at_instant i (add_all (add_net t.instant m t.net) log) ≡ points_or (at_instant i (add_net t.instant m t.net)) i (net_in log i)
        → at_instant i (add_all (add_net t.instant m t.net) log) ≡ points_or (at_instant i m) i (cond b (Some t.net) (net_in log i))
    by true e rest =
        let same : i ≡ t.instant = same_number i t.instant e in
        let lt : n < t.instant = rises.0 in
        rest ∙ ap (points_or (at_instant i (add_net t.instant m t.net)) i) (none_in log t.instant i rises.1 (omega arith))
        ∙ ap (λ j. at_instant i (add_net j m t.net)) (sym same)
        ∙ added_on t.net i m [] h (none_on m n i up (omega arith)) nets.0.0
    by false e rest = rest ∙ ap (λ l. points_or l i (net_in log i)) (added_off t.net i t.instant m h e)

changes_on : (log : Log) (i : ℕ) → IsLog log → AreNets log → at_instant i (changes log) ≡ points_or [] i (net_in log i)
changes_on log i rises nets = all_on log 0 i [] rises tt tt nets

-- ---- its instants

abbrev some : {A : Type 0} → List A → Bool
some [] = false
some (x ∷ xs) = true

any_some : {A : Type 0} (p : A → Bool) (xs : List A) → list_any p xs ≡ some (filter p xs)
any_some p [] = refl
any_some p (x ∷ xs) = elim (p x) as (λ b. (b || list_any p xs) ≡ some (cond b (x ∷ filter p xs) (filter p xs))) [ true ↦ refl | false ↦ any_some p xs ]

of_instants : (m : Changes) (i : ℕ) → among nat_cmp nat_cmp_total nat_cmp-IsAntisymmetric i (instants m) ≡ list_any (λ c. on i c.0) m
of_instants [] i = refl
of_instants (c ∷ m) i = inserted nat_cmp nat_cmp_total nat_cmp-IsAntisymmetric i c.0.instant (instants m) ∙ ap (λ r. on i c.0 || r) (of_instants m i)

instants_order : (m : Changes) → InOrder nat_cmp nat_cmp_total nat_cmp-IsAntisymmetric (instants m)
instants_order [] = tt
instants_order (c ∷ m) = in_order_inserted nat_cmp nat_cmp_total nat_cmp-IsAntisymmetric (instants m) c.0.instant (instants_order m)

some_points : (i : ℕ) (o : Option Net) → ((net : Net) → o ≡ Some net → 0 < length net) → some (points_or [] i o) ≡ is_some o
some_points i None long = refl
some_points i (Some []) long = absurd (let lt : 0 < 0 = long [] refl in omega arith)
some_points i (Some (c ∷ net)) long = refl

long_in : (log : Log) (i : ℕ) → AreNets log → (net : Net) → net_in log i ≡ Some net → 0 < length net
long_in [] i nets net is = cc
long_in (t ∷ log) i nets net is = by (eq_by_cmp nat_cmp i t.instant) is (long_in log i nets.1 net)
  where
    one : (a b : Net) → ◌≡◌ {A = Option Net} (Some a) (Some b) → 0 < length a → 0 < length b
    one a b e h = subst (λ (n : Net). 0 < length n) (ap (λ (o : Option Net). elim o [ Some n ↦ n | None ↦ a ]) e) h

    by : (b : Bool) → cond b (Some t.net) (net_in log i) ≡ Some net → (net_in log i ≡ Some net → 0 < length net) → 0 < length net
    by true e rest = one t.net net e nets.0.1
    by false e rest = rest e

some_in : (log : Log) (i : ℕ) → is_some (net_in log i) ≡ among nat_cmp nat_cmp_total nat_cmp-IsAntisymmetric i (map (λ t. t.instant) log)
some_in [] i = refl
some_in (t ∷ log) i = elim (eq_by_cmp nat_cmp i t.instant) as (λ b. is_some (cond b (Some t.net) (net_in log i)) ≡ (b || among nat_cmp nat_cmp_total nat_cmp-IsAntisymmetric i (map (λ t. t.instant) log))) [ true ↦ refl | false ↦ some_in log i ]

less : (i j : ℕ) → i < j → T (is_lt (nat_cmp i j))
less i j lt = by (nat_cmp i j) refl
  where
    by : (o : Ordering) → nat_cmp i j ≡ o → T (is_lt o)
    by Less e = tt
    by Equal e = let same : i ≡ j = nat_cmp-IsAntisymmetric i j e in absurd (omega arith)
    by Greater e = absurd (let back : j < i = below j i (subst (λ o. T (is_lt o)) (sym (nat_cmp_total.antisymm j i ∙ ap ordering_reverse e)) tt) in omega arith)

below_rising : (log : Log) (n i : ℕ) → Rises n log → i ≤ n → T (below_all nat_cmp i (units nat_cmp nat_cmp_total nat_cmp-IsAntisymmetric (map (λ t. t.instant) log)))
below_rising [] n i rises le = tt
below_rising (t ∷ log) n i rises le =
    let lt : n < t.instant = rises.0 in
    both _ _ (less i t.instant (omega arith)) (below_rising log t.instant i rises.1 (omega arith))

rising_order : (log : Log) (n : ℕ) → Rises n log → InOrder nat_cmp nat_cmp_total nat_cmp-IsAntisymmetric (map (λ t. t.instant) log)
rising_order [] n rises = tt
rising_order (t ∷ log) n rises = both _ _ (below_rising log t.instant t.instant rises.1 (omega arith)) (rising_order log t.instant rises.1)

instants_are : (log : Log) → IsLog log → AreNets log → instants (changes log) ≡ map (λ t. t.instant) log
instants_are log rises nets =
    same_set nat_cmp nat_cmp_total nat_cmp-IsAntisymmetric (instants (changes log)) (map (λ t. t.instant) log) (instants_order (changes log)) (rising_order log 0 rises)
    (λ i. of_instants (changes log) i ∙ any_some (λ c. on i c.0) (changes log) ∙ ap some (changes_on log i rises nets)
    ∙ some_points i (net_in log i) (long_in log i nets) ∙ some_in log i)

-- ---- its transactions

keys_back : (i : ℕ) (net : Net) → map (λ c. (c.0.key, c.1)) (points i net) ≡ net
keys_back i [] = refl
keys_back i (c ∷ net) = ap (λ l. c ∷ l) (keys_back i net)

abbrev transaction_at : Changes → ℕ → Transaction
transaction_at m i = record { instant = i; net = net_at i m }

-- each has its net changes at its instant
each_in : (log : Log) (n : ℕ) (m : Changes) → Rises n log → ((i : ℕ) → n < i → at_instant i m ≡ points_or [] i (net_in log i)) → map (transaction_at m) (map (λ t. t.instant) log) ≡ log
each_in [] n m rises says = refl
each_in (t ∷ log) n m rises says = λ k. record { instant = t.instant; net = its k } ∷ each_in log t.instant m rises.1 later k
  where
    its : net_at t.instant m ≡ t.net
    its = ap (map (λ c. (c.0.key, c.1))) (says t.instant rises.0 ∙ ap (λ b. points_or [] t.instant (cond b (Some t.net) (net_in log t.instant))) (itself t.instant)) ∙ keys_back t.instant t.net

    later : (i : ℕ) → t.instant < i → at_instant i m ≡ points_or [] i (net_in log i)
    later i lt =
        let above : n < t.instant = rises.0 in
        says i (omega arith) ∙ ap (λ b. points_or [] i (cond b (Some t.net) (net_in log i))) (unequal i t.instant (λ (same : i ≡ t.instant). omega (arith, lt, same)))

pub log_is_of_changes : LogIsOfChanges
log_is_of_changes log rises nets =
    ap (map (transaction_at (changes log))) (instants_are log rises nets)
    ∙ each_in log 0 (changes log) rises (λ i above. changes_on log i rises nets)
