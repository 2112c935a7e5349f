-- A log, by the instants of its changes.
use Rattle.std.proofs.Common.{◌≡◌, ℕ, ◌-◌, ◌<◌, ◌≤◌, ◌==◌, ◌||◌, Bool, true, false, cond, List, [], ◌∷◌, ◌++◌, refl, sym, subst, ap, ◌∙◌, arith, length, map, nat_le, suc, zero}
use Rattle.std.specs.BTreeSet.{insert_key}
use Rattle.std.specs.List.{AllByRecursion, flat_map, list_any}
use Rattle.std.specs.List.Sorted.{IsStrictlySortedBy}
use Rattle.std.specs.Option.{option_flatten}
use Rattle.std.specs.Ordering.{match_ordering, nat_cmp}
use Rattle.std.specs.declared.cmp.Ordering.{Ordering}
use Rattle.std.specs.declared.cmp.Ordering.TheVariants.{Less, Equal, Greater}
use Rattle.std.specs.FinMap.{nat_cmp-IsAntisymmetric}
use Rattle.std.proofs.lemmas.Bool.Decides.{nat_tests}
use Rattle.values.specs.declared.key.Key.{Key}
use Rattle.values.specs.declared.key.Transaction.{Transaction}
use Rattle.values.specs.Events.{events_of}
use Rattle.values.specs.Law.{IsLog, Rises}
use Rattle.values.specs.Log.{Changes, Log, changes, last, replay, row_at, state, upto}
use Rattle.values.proofs.LogLatest.{latest}
use Rattle.values.proofs.LogStates.{state_matches}
use Rattle.values.proofs.LogPush.{upto_all}
use Rattle.restoring.specs.FromChanges.{AreNets, instants, net_at}
use Rattle.restoring.proofs.FromChanges.{log_is_of_changes}
use Rattle.dumping.specs.History.{places_at}
use Rattle.dumping.specs.Order.{instant_at}
use Rattle.dumping.proofs.HistoryPlaces.{all_alike}

-- ---- its transactions, read off its changes

abbrev pub times : Log → List ℕ
times log = map (λ t. t.instant) log

times_of : (m : Changes) (is : List ℕ) → times (map (λ i. record { instant = i; net = net_at i m }) is) ≡ is
times_of m [] = refl
times_of m (i ∷ is) = ap (λ l. i ∷ l) (times_of m is)

times_are : (log : Log) → IsLog log → AreNets log → instants (changes log) ≡ times log
times_are log rises nets = sym (times_of (changes log) (instants (changes log))) ∙ ap times (log_is_of_changes log rises nets)

abbrev pub HaveNets : Changes → Log → Type 0
HaveNets m log = AllByRecursion (λ t. t.net ≡ net_at t.instant m) log

nets_of : (m : Changes) (is : List ℕ) → HaveNets m (map (λ i. record { instant = i; net = net_at i m }) is)
nets_of m [] = tt
nets_of m (i ∷ is) = (refl, nets_of m is)

pub nets_are : (log : Log) → IsLog log → AreNets log → HaveNets (changes log) log
nets_are log rises nets = subst (HaveNets (changes log)) (log_is_of_changes log rises nets) (nets_of (changes log) (instants (changes log)))

-- ---- each change has one of its instants

equal : (a : ℕ) → (a == a) ≡ true
equal a = grind (arith, nat_tests)

either : (b : Bool) → (b || true) ≡ true
either true = refl
either false = refl

present : (k : ℕ) (is : List ℕ) → list_any (λ i. k == i) (insert_key nat_cmp is k) ≡ true
present k [] = ap (λ b. b || false) (equal k)
present k (x ∷ is) = by (nat_cmp k x) refl (present k is)
  where
    by : (o : Ordering) → nat_cmp k x ≡ o → list_any (λ i. k == i) (insert_key nat_cmp is k) ≡ true → list_any (λ i. k == i) (match_ordering o (k ∷ x ∷ is) (x ∷ is) (x ∷ insert_key nat_cmp is k)) ≡ true
    by Less e h = ap (λ b. b || list_any (λ i. k == i) (x ∷ is)) (equal k)
    by Equal e h = ap (λ b. b || list_any (λ i. k == i) is) (ap (λ i. k == i) (sym (nat_cmp-IsAntisymmetric k x e)) ∙ equal k)
    by Greater e h = ap (λ b. (k == x) || b) h ∙ either (k == x)

stays : (q k : ℕ) (is : List ℕ) → list_any (λ i. q == i) is ≡ true → list_any (λ i. q == i) (insert_key nat_cmp is k) ≡ true
stays q k [] h = cc
stays q k (x ∷ is) h = by (nat_cmp k x) (stays q k is)
  where
    more : (b c d : Bool) → (b || c) ≡ true → (c ≡ true → d ≡ true) → (b || d) ≡ true
    more true c d e f = refl
    more false c d e f = f e

    by : (o : Ordering) → (list_any (λ i. q == i) is ≡ true → list_any (λ i. q == i) (insert_key nat_cmp is k) ≡ true)
        → list_any (λ i. q == i) (match_ordering o (k ∷ x ∷ is) (x ∷ is) (x ∷ insert_key nat_cmp is k)) ≡ true
    by Less rest = ap (λ c. (q == k) || c) h ∙ either (q == k)
    by Equal rest = h
    by Greater rest = more (q == x) (list_any (λ i. q == i) is) (list_any (λ i. q == i) (insert_key nat_cmp is k)) h rest

every_instant : (m : Changes) (q : ℕ) → q < length (events_of m) → list_any (λ i. instant_at (events_of m) q == i) (instants m) ≡ true
every_instant [] q lt = absurd (omega arith)
every_instant (c ∷ m) zero lt = present c.0.instant (instants m)
every_instant (c ∷ m) (suc q) lt = stays (instant_at (events_of m) q) c.0.instant (instants m) (every_instant m q (omega arith))

pub covers : (log : Log) → IsLog log → AreNets log → (q : ℕ) → q < length (events_of (changes log)) → list_any (λ i. instant_at (events_of (changes log)) q == i) (times log) ≡ true
covers log rises nets q lt = ap (list_any (λ i. instant_at (events_of (changes log)) q == i)) (sym (times_are log rises nets)) ∙ every_instant (changes log) q lt

-- ---- its instants rise

less : (i j : ℕ) → i < j → nat_cmp i j ≡ Less
less i j lt = grind (arith, nat_tests)

above : (log : Log) (n i : ℕ) → Rises n log → i ≤ n → AllByRecursion (λ j. nat_cmp i j ≡ Less) (times log)
above [] n i h le = tt
above (t ∷ log) n i h le = let lt : n < t.instant = h.0 in (less i t.instant (omega arith), above log t.instant i h.1 (omega arith))

pub times_rise : (log : Log) (n : ℕ) → Rises n log → IsStrictlySortedBy nat_cmp (times log)
unfolding IsStrictlySortedBy
times_rise [] n h = tt
times_rise (t ∷ log) n h = (above log t.instant t.instant h.1 (omega arith), times_rise log t.instant h.1)

-- ---- at each of them something changed

one : List ℕ
one = 0 ∷ []

ones : {X : Type 0} (xs : List X) → length (flat_map (λ x. one) xs) ≡ length xs
unfolding one
ones [] = refl
ones (x ∷ xs) = ap suc (ones xs)

some_places : (m : Changes) (i : ℕ) → 0 < length (net_at i m) → 0 < length (places_at (events_of m) i)
some_places m i lt =
    let alike = ap length (all_alike i (λ m place. one) (λ c. one) m (λ front rest c is here. refl)) in
    let same : length (places_at (events_of m) i) ≡ length (net_at i m) = sym (ones (places_at (events_of m) i)) ∙ alike ∙ ones (net_at i m) in
    omega arith

pub each_some : (m : Changes) (log : Log) → HaveNets m log → AreNets log → AllByRecursion (λ i. 0 < length (places_at (events_of m) i)) (times log)
each_some m [] have nets = tt
each_some m (t ∷ log) have nets = (some_places m t.instant (subst (λ net. 0 < length net) have.0 nets.0.1), each_some m log have.1 nets.1)

-- ---- the rows before a transaction

late : (log : Log) (n t : ℕ) → Rises n log → t ≤ n → upto log t ≡ []
late [] n t h le = refl
late (u ∷ log) n t h le =
    let lt : n < u.instant = h.0 in
    let rest = late log u.instant t h.1 (omega arith) in
    let not_yet : nat_le u.instant t ≡ false = grind (arith, nat_tests) in
    λ k. cond (not_yet k) (u ∷ rest k) (rest k)

pub rises_to : (done : Log) (t : Transaction) (rest : Log) (n : ℕ) → Rises n (done ++ t ∷ rest) → n < t.instant
rises_to [] t rest n h = h.0
rises_to (u ∷ done) t rest n h = let lt : n < u.instant = h.0 in omega (arith, rises_to done t rest u.instant h.1)

done_before : (done : Log) (t : Transaction) (rest : Log) (n : ℕ) → Rises n (done ++ t ∷ rest) → upto (done ++ t ∷ rest) (t.instant - 1) ≡ done
done_before [] t rest n h =
    let lt : n < t.instant = h.0 in
    let others = late rest t.instant (t.instant - 1) h.1 (omega arith) in
    let not_yet : nat_le t.instant (t.instant - 1) ≡ false = grind (arith, nat_tests) in
    λ k. cond (not_yet k) (t ∷ others k) (others k)
done_before (u ∷ done) t rest n h =
    let lt : u.instant < t.instant = rises_to done t rest u.instant h.1 in
    let others = done_before done t rest u.instant h.1 in
    let early : nat_le u.instant (t.instant - 1) ≡ true = grind (arith, nat_tests) in
    λ k. cond (early k) (u ∷ others k) (others k)

rises_front : (done rest : Log) (n : ℕ) → Rises n (done ++ rest) → Rises n done
rises_front [] rest n h = tt
rises_front (u ∷ done) rest n h = (h.0, rises_front done rest u.instant h.1)

-- a key's row before a transaction is that of its last change before it
pub row_then : (done : Log) (t : Transaction) (rest : Log) (q : Key) → IsLog (done ++ t ∷ rest) → option_flatten (latest (changes (done ++ t ∷ rest)) (t.instant - 1) q) ≡ row_at (state done (last done)) q
row_then done t rest q rises =
    (state_matches (done ++ t ∷ rest) (t.instant - 1) rises).alike q
    ∙ ap (λ (log : Log). row_at (replay [] log) q) (done_before done t rest 0 rises ∙ sym (upto_all done 0 (last done) (rises_front done (t ∷ rest) 0 rises) (omega arith)))
