-- That a set of the keys that came before does for their list.
use Rattle.std.proofs.Common.{◌≡◌, ℕ, ◌+◌, ◌<◌, zero, suc, subst, arith, get_or, length, Bool, true, false, cond, ◌||◌, List, [], ◌∷◌, ◌++◌, Some, refl, sym, ap, ◌∙◌, if◌then◌else◌}
use Rattle.std.proofs.lemmas.List.Folds.{list_any-append}
use Rattle.std.specs.Ordering.{is_eq, match_ordering, ordering_reverse}
use Rattle.std.specs.declared.cmp.Ordering.{Ordering}
use Rattle.std.specs.declared.cmp.Ordering.TheVariants.{Less, Equal, Greater}
use Rattle.std.specs.List.{AllAdjacentBelow, AllByRecursion, find, list_any}
use Rattle.std.specs.List.Sorted.{IsStrictlySortedBy}
use Rattle.eventlist.proofs.PlaceOrder.{sorted_head, sorted_tail, sorted_cons, sorted_none}
use Rattle.std.specs.BTreeSet.{insert_key}
use Rattle.values.specs.declared.key.Key.{Key}
use Rattle.values.specs.Order.{key_cmp, is_key}
use Rattle.values.proofs.OrderTotal.{key_cmp_total, key_cmp-IsAntisymmetric}
use Rattle.staging.specs.Staged.{first_seen}

twice : (b r : Bool) → (b || r) ≡ (b || (b || r))
twice true r = refl
twice false r = refl

swapped : (a b r : Bool) → (a || (b || r)) ≡ (b || (a || r))
swapped true true r = refl
swapped true false r = refl
swapped false true r = refl
swapped false false r = refl

behind : (b r : Bool) → (b || r) ≡ (r || (b || false))
behind true true = refl
behind true false = refl
behind false true = refl
behind false false = refl

any_inserted : (q k : Key) (ks : List Key) → list_any (is_key q) (insert_key key_cmp ks k) ≡ (is_key q k || list_any (is_key q) ks)
any_inserted q k [] = refl
any_inserted q k (x ∷ ks) = by (key_cmp k x) refl (any_inserted q k ks)
  where
    by : (o : Ordering) → key_cmp k x ≡ o → list_any (is_key q) (insert_key key_cmp ks k) ≡ (is_key q k || list_any (is_key q) ks)
        → list_any (is_key q) (match_ordering o (k ∷ x ∷ ks) (x ∷ ks) (x ∷ insert_key key_cmp ks k)) ≡ (is_key q k || (is_key q x || list_any (is_key q) ks))
    by Less is ih = refl
    by Equal is ih =
        let same : k ≡ x = key_cmp-IsAntisymmetric k x is in
        twice (is_key q x) (list_any (is_key q) ks) ∙ ap (λ y. is_key q y || (is_key q x || list_any (is_key q) ks)) (sym same)
    by Greater is ih = ap (λ r. is_key q x || r) ih ∙ swapped (is_key q x) (is_key q k) (list_any (is_key q) ks)

-- what was put into the set is as if it came last
inserted_last : (q k : Key) (ks : List Key) → list_any (is_key q) (insert_key key_cmp ks k) ≡ list_any (is_key q) (ks ++ k ∷ [])
inserted_last q k ks = any_inserted q k ks ∙ behind (is_key q k) (list_any (is_key q) ks) ∙ sym (list_any-append (is_key q) ks (k ∷ []))

-- of the earlier keys it matters only which they are
same_seen : (has : Key → Bool) (ks ls ms : List Key) → ((q : Key) → list_any (is_key q) ls ≡ list_any (is_key q) ms) → first_seen has ls ks ≡ first_seen has ms ks
same_seen has [] ls ms h = refl
same_seen has (k ∷ ks) ls ms h = λ i. if has k || h k i then Some k else same_seen has ks (ls ++ k ∷ []) (ms ++ k ∷ []) longer i
  where
    longer : (q : Key) → list_any (is_key q) (ls ++ k ∷ []) ≡ list_any (is_key q) (ms ++ k ∷ [])
    longer q = list_any-append (is_key q) ls (k ∷ []) ∙ ap (λ r. r || (is_key q k || false)) (h q) ∙ sym (list_any-append (is_key q) ms (k ∷ []))

-- a key that is not taken goes to the earlier ones
pub next_seen : (has : Key → Bool) (k : Key) (ks earlier : List Key) → (has k || list_any (is_key k) earlier) ≡ false → first_seen has (insert_key key_cmp earlier k) ks ≡ first_seen has earlier (k ∷ ks)
next_seen has k ks earlier h =
    same_seen has ks (insert_key key_cmp earlier k) (earlier ++ k ∷ []) (λ q. inserted_last q k earlier)
    ∙ sym (ap (λ (b : Bool). if b then Some k else first_seen has (earlier ++ k ∷ []) ks) h)

-- ---- keys that rise

-- none of them came before
free_of : (has : Key → Bool) (ks earlier : List Key) → IsStrictlySortedBy key_cmp ks → AllByRecursion (λ k. list_any (is_key k) earlier ≡ false) ks → first_seen has earlier ks ≡ find has ks
free_of has [] earlier sorted free = refl
free_of has (k ∷ ks) earlier sorted free =
    (λ i. if has k || free.0 i then Some k else free_of has ks (earlier ++ k ∷ []) (sorted_tail key_cmp k ks sorted) (more ks (sorted_head key_cmp k ks sorted) free.1) i) ∙ by (has k)
  where
    by : (b : Bool) → (if b || false then Some k else find has ks) ≡ cond b (Some k) (find has ks)
    by true = refl
    by false = refl

    more : (ls : List Key) → AllByRecursion (λ l. key_cmp k l ≡ Less) ls → AllByRecursion (λ l. list_any (is_key l) earlier ≡ false) ls → AllByRecursion (λ l. list_any (is_key l) (earlier ++ k ∷ []) ≡ false) ls
    more [] above free = tt
    more (l ∷ ls) above free = (
      list_any-append (is_key l) earlier (k ∷ []) ∙ (λ i. free.0 i || (ap is_eq (key_cmp_total.antisymm l k ∙ ap ordering_reverse above.0) i || false)),
      more ls above.1 free.1,
    )

pub rising_seen : (has : Key → Bool) (ks : List Key) → IsStrictlySortedBy key_cmp ks → find has ks ≡ first_seen has [] ks
rising_seen has ks sorted = sym (free_of has ks [] sorted (none ks))
  where
    none : (ls : List Key) → AllByRecursion (λ l. list_any (is_key l) [] ≡ false) ls
    none [] = tt
    none (l ∷ ls) = (refl, none ls)

-- keys of which each is below the next rise
pub rising : (ks : List Key) → AllAdjacentBelow (λ k l. key_cmp k l ≡ Less) ks (length ks) → IsStrictlySortedBy key_cmp ks
rising [] h = sorted_none key_cmp
rising (k ∷ ks) h =
    with_first (
    rising ks (λ i d lt.
    let next : suc i + 1 ≡ suc (i + 1) = omega arith in
    subst (λ j. key_cmp (get_or ks i d) (get_or (k ∷ ks) j d) ≡ Less) next (h (suc i) d (omega arith)))
    )
  where
    further : (l : Key) (ls : List Key) → key_cmp k l ≡ Less → AllByRecursion (λ m. key_cmp l m ≡ Less) ls → AllByRecursion (λ m. key_cmp k m ≡ Less) ls
    further l [] is h = tt
    further l (m ∷ ls) is h = (key_cmp_total.trans k l m is h.0, further l ls is h.1)

    above : (ls : List Key) → (1 < suc (length ls) → key_cmp k (get_or ls 0 k) ≡ Less) → IsStrictlySortedBy key_cmp ls → AllByRecursion (λ m. key_cmp k m ≡ Less) ls
    above [] next h = tt
    above (l ∷ ls) next h =
        let is : key_cmp k l ≡ Less = next (omega arith) in
        (is, further l ls is (sorted_head key_cmp l ls h))

    with_first : IsStrictlySortedBy key_cmp ks → IsStrictlySortedBy key_cmp (k ∷ ks)
    with_first sorted = sorted_cons key_cmp k ks (above ks (h 0 k) sorted) sorted

-- and of keys that rise each is below the next
pub below_next : (ks : List Key) (i : ℕ) (d : Key) → IsStrictlySortedBy key_cmp ks → suc i < length ks → key_cmp (get_or ks i d) (get_or ks (suc i) d) ≡ Less
below_next [] i d sorted within = absurd (omega arith)
below_next (k ∷ []) i d sorted within = absurd (omega arith)
below_next (k ∷ l ∷ ks) zero d sorted within = (sorted_head key_cmp k (l ∷ ks) sorted).0
below_next (k ∷ l ∷ ks) (suc i) d sorted within = below_next (l ∷ ks) i d (sorted_tail key_cmp k (l ∷ ks) sorted) (lower (suc i) (length (l ∷ ks)) within)
  where
    lower : (a b : ℕ) → suc a < suc b → a < b
    lower a b h = omega arith
