-- The rows that a log leaves are those of its changes.
use Rattle.std.proofs.Common.{◌≡◌, ℕ, ◌<◌, ◌≤◌, Bool, true, false, cond, ◌&&◌, T, [], ◌∷◌, Option, Some, None, refl, sym, ap, subst, ◌∙◌, arith, nat_le, not}
use Rattle.std.proofs.lemmas.Bool.Decides.{nat_tests}
use Rattle.std.specs.Option.{option_flatten}
use Rattle.std.specs.Ordering.{ordering_reverse, is_eq, is_lt}
use Rattle.std.specs.declared.cmp.Ordering.{Ordering}
use Rattle.std.specs.declared.cmp.Ordering.TheVariants.{Less, Equal, Greater}
use Rattle.std.specs.BTreeMap.{insert_entry, is_at}
use Rattle.std.specs.Map.{remove_entry}
use Rattle.std.specs.FinMap.{is_sorted, find}
use Rattle.std.specs.FinMap.Entries.{below_all, where_key, is_sorted-where_key, find-where_key}
use Rattle.values.specs.declared.key.Key.{Key}
use Rattle.values.specs.Order.{key_cmp, is_key}
use Rattle.values.specs.Log.{Changes, State, Net, Log, Row, point_cmp, set_row, row_at, apply_net, replay, upto, state, add_net, add_all, changes}
use Rattle.values.specs.Law.{Rises, IsLog}
use Rattle.values.proofs.OrderTotal.{key_cmp_total, point_cmp_total, key_cmp-IsAntisymmetric, first, second}
use Rattle.values.proofs.LogMaps.{lookup-insert_entry, sorted_insert, lookup-find}
use Rattle.values.proofs.LogLatest.{latest, latest-insert, Upto, Upto-insert, Upto-more, point}

-- ---- a key without its row

kept_by : (a b : Ordering) → a ≡ b → T (is_lt b) → not (is_eq a) ≡ true
kept_by Less b e h = refl
kept_by Equal Less e h = cc
kept_by Equal Equal e h = absurd h
kept_by Equal Greater e h = absurd h
kept_by Greater b e h = refl

-- what is above a key is not that key
all_kept : (k r : Key) (es : State) → key_cmp k r ≡ Equal → T (below_all key_cmp r es) → where_key key_cmp (λ x. not (is_key k x)) es ≡ es
all_kept k r [] e h = refl
all_kept k r (x ∷ es) e h =
    λ i. cond (kept_by (key_cmp k x.0) (key_cmp r x.0) (key_cmp_total.congr k r x.0 e) (first _ _ h) i) (x ∷ all_kept k r es e (second _ _ h) i) (all_kept k r es e (second _ _ h) i)

removed_by : (o : Ordering) (k : Key) (x : Key × Row) (es : State) → key_cmp k x.0 ≡ o → T (below_all key_cmp x.0 es) → remove_entry (is_at (key_cmp k)) es ≡ where_key key_cmp (λ x. not (is_key k x)) es
    → cond (is_eq o) es (x ∷ remove_entry (is_at (key_cmp k)) es) ≡ cond (not (is_eq o)) (x ∷ where_key key_cmp (λ x. not (is_key k x)) es) (where_key key_cmp (λ x. not (is_key k x)) es)
removed_by Less k x es e h rest = ap (λ l. x ∷ l) rest
removed_by Equal k x es e h rest = sym (all_kept k x.0 es e h)
removed_by Greater k x es e h rest = ap (λ l. x ∷ l) rest

removed : (k : Key) (es : State) → T (is_sorted key_cmp es) → remove_entry (is_at (key_cmp k)) es ≡ where_key key_cmp (λ x. not (is_key k x)) es
removed k [] h = refl
removed k (x ∷ es) h = removed_by (key_cmp k x.0) k x es refl (first _ _ h) (removed k es (second _ _ h))

pub sorted_set_row : (k : Key) (v : Option Row) (s : State) → T (is_sorted key_cmp s) → T (is_sorted key_cmp (set_row k v s))
sorted_set_row k (Some row) s h = sorted_insert key_cmp_total s k row h
sorted_set_row k None s h = subst (λ s. T (is_sorted key_cmp s)) (sym (removed k s h)) (is_sorted-where_key key_cmp (λ x. not (is_key k x)) s h)

turned : {A : Type 0} (b : Bool) (x y : A) → cond (not b) x y ≡ cond b y x
turned true x y = refl
turned false x y = refl

is_key_back : (k q : Key) → is_key k q ≡ is_key q k
is_key_back k q = ap is_eq (key_cmp_total.antisymm k q) ∙ level (key_cmp q k)
  where
    level : (o : Ordering) → is_eq (ordering_reverse o) ≡ is_eq o
    level Less = refl
    level Equal = refl
    level Greater = refl

pub row_at-set_row : (q k : Key) (v : Option Row) (s : State) → T (is_sorted key_cmp s) → row_at (set_row k v s) q ≡ cond (is_key q k) v (row_at s q)
row_at-set_row q k (Some row) s h = lookup-insert_entry key_cmp_total q k row s
row_at-set_row q k None s h =
    ap (λ (s : State). row_at s q) (removed k s h) ∙ lookup-find key_cmp q (where_key key_cmp (λ x. not (is_key k x)) s)
    ∙ find-where_key key_cmp (λ x. not (is_key k x)) q (λ x e. ap (λ x. not (is_key k x)) (sym (key_cmp-IsAntisymmetric q x e))) s
    ∙ turned (is_key k q) (find key_cmp q s) None ∙ (λ i. cond (is_key_back k q i) None (sym (lookup-find key_cmp q s) i))

-- ---- a log

-- each key's row is that of its last change up to t
pub record Matches (t : ℕ) (m : Changes) (s : State) : Type 0 where
  pub in_order : T (is_sorted point_cmp m)
  pub by_key : T (is_sorted key_cmp s)
  pub alike : (q : Key) → option_flatten (latest m t q) ≡ row_at s q

one_row : (b : Bool) (v : Option Row) (x : Option (Option Row)) → option_flatten (cond b (Some v) x) ≡ cond b v (option_flatten x)
one_row true v x = refl
one_row false v x = refl

in_time : (b : Bool) (i t : ℕ) → i ≤ t → (b && nat_le i t) ≡ b
in_time true i t h = grind (arith, nat_tests)
in_time false i t h = refl

too_late : (b : Bool) (i t : ℕ) → t < i → (b && nat_le i t) ≡ false
too_late true i t h = grind (arith, nat_tests)
too_late false i t h = refl

matches_change : (t i : ℕ) (m : Changes) (s : State) (k : Key) (v : Option Row) → i ≤ t → Upto i m → Matches t m s → Matches t (insert_entry point_cmp m (point k i) v) (set_row k v s)
matches_change t i m s k v le up h = record {
  in_order = sorted_insert point_cmp_total m (point k i) v h.in_order;
  by_key = sorted_set_row k v s h.by_key;
  alike = λ q. ap option_flatten (latest-insert m t i q k v h.in_order up ∙ ap (λ b. cond b (Some v) (latest m t q)) (in_time (is_key q k) i t le))
      ∙ one_row (is_key q k) v (latest m t q) ∙ ap (cond (is_key q k) v) (h.alike q) ∙ sym (row_at-set_row q k v s h.by_key);
}

ignores_change : (t i : ℕ) (m : Changes) (s : State) (k : Key) (v : Option Row) → t < i → Upto i m → Matches t m s → Matches t (insert_entry point_cmp m (point k i) v) s
ignores_change t i m s k v lt up h = record {
  in_order = sorted_insert point_cmp_total m (point k i) v h.in_order;
  by_key = h.by_key;
  alike = λ q. ap option_flatten (latest-insert m t i q k v h.in_order up ∙ ap (λ b. cond b (Some v) (latest m t q)) (too_late (is_key q k) i t lt)) ∙ h.alike q;
}

matches_net : (net : Net) (t i : ℕ) (m : Changes) (s : State) → i ≤ t → Upto i m → Matches t m s → Matches t (add_net i m net) (apply_net s net)
matches_net [] t i m s le up h = h
matches_net (c ∷ net) t i m s le up h = matches_net net t i _ _ le (Upto-insert m i c.0 c.1 up) (matches_change t i m s c.0 c.1 le up h)

ignores_net : (net : Net) (t i : ℕ) (m : Changes) (s : State) → t < i → Upto i m → Matches t m s → Matches t (add_net i m net) s
ignores_net [] t i m s lt up h = h
ignores_net (c ∷ net) t i m s lt up h = ignores_net net t i _ s lt (Upto-insert m i c.0 c.1 up) (ignores_change t i m s c.0 c.1 lt up h)

pub Upto-net : (net : Net) (i : ℕ) (m : Changes) → Upto i m → Upto i (add_net i m net)
Upto-net [] i m up = up
Upto-net (c ∷ net) i m up = Upto-net net i _ (Upto-insert m i c.0 c.1 up)

decided : {P : Type 0} (b : Bool) (i t : ℕ) → nat_le i t ≡ b → (i ≤ t → b ≡ true → P) → (t < i → b ≡ false → P) → P
decided true i t e early late = early (grind (arith, nat_tests)) refl
decided false i t e early late = late (grind (arith, nat_tests)) refl

matches_log : (log : Log) (t n : ℕ) (m : Changes) (s : State) → Rises n log → Upto n m → Matches t m s → Matches t (add_all m log) (replay s (upto log t))
matches_log [] t n m s rises up h = h
matches_log (u ∷ log) t n m s rises up h =
    let over : Upto u.instant m = Upto-more m n u.instant (let lt : n < u.instant = rises.0 in omega arith) up in
    decided (nat_le u.instant t) u.instant t refl
    (λ le is. subst (λ b. Matches t (add_all (add_net u.instant m u.net) log) (replay s (cond b (u ∷ upto log t) (upto log t)))) (sym is)
    (matches_log log t u.instant _ _ rises.1 (Upto-net u.net u.instant m over) (matches_net u.net t u.instant m s le over h)))
    (λ lt is. subst (λ b. Matches t (add_all (add_net u.instant m u.net) log) (replay s (cond b (u ∷ upto log t) (upto log t)))) (sym is)
    (matches_log log t u.instant _ _ rises.1 (Upto-net u.net u.instant m over) (ignores_net u.net t u.instant m s lt over h)))

nothing : (t : ℕ) → Matches t [] []
nothing t = record { in_order = tt; by_key = tt; alike = λ q. refl }

pub state_matches : (log : Log) (t : ℕ) → IsLog log → Matches t (changes log) (state log t)
state_matches log t rises = matches_log log t 0 [] [] rises tt (nothing t)
