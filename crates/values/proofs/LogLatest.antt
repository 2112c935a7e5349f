-- The last change of a key up to an instant, and what an insertion makes of it.
use Rattle.std.proofs.Common.{◌≡◌, ℕ, ◌<◌, ◌≤◌, Bool, true, false, cond, ◌&&◌, T, [], ◌∷◌, Option, Some, None, refl, sym, ap, subst, ◌∙◌, arith, nat_le}
use Rattle.std.proofs.lemmas.Bool.Decides.{nat_tests}
use Rattle.std.specs.Ordering.{nat_cmp, ordering_then, is_eq, is_lt, match_ordering}
use Rattle.std.specs.declared.cmp.Ordering.{Ordering}
use Rattle.std.specs.declared.cmp.Ordering.TheVariants.{Less, Equal, Greater}
use Rattle.std.specs.BTreeMap.{insert_entry}
use Rattle.std.specs.FinMap.{is_sorted}
use Rattle.std.specs.FinMap.Entries.{below_all}
use Rattle.values.specs.declared.key.Key.{Key}
use Rattle.values.specs.declared.key.Point.{Point}
use Rattle.values.specs.Order.{key_cmp}
use Rattle.values.specs.Log.{Changes, Row, point_cmp}
use Rattle.values.proofs.OrderSorted.{below_less}
use Rattle.values.proofs.OrderTotal.{point_cmp_total, key_cmp-IsAntisymmetric, point_cmp-IsAntisymmetric, below, both, first, second}

abbrev pub later : {A : Type 0} → Option A → Option A → Option A
later (Some x) o = Some x
later None o = o

-- the key's last change at the instant or before it
abbrev pub latest : Changes → ℕ → Key → Option (Option Row)
latest [] t q = None
latest (c ∷ cs) t q = later (latest cs t q) (cond (is_eq (key_cmp q c.0.key) && nat_le c.0.instant t) (Some c.1) None)

abbrev pub point : Key → ℕ → Point
point q i = record { key = q; instant = i }

pub later_none : {A : Type 0} (o : Option A) → later o None ≡ o
later_none None = refl
later_none (Some x) = refl

beyond : (o : Ordering) (j i t : ℕ) → T (is_lt (ordering_then o (nat_cmp j i))) → t ≤ j → (is_eq o && nat_le i t) ≡ false
beyond Less j i t h le = refl
beyond Equal j i t h le = let lt : j < i = below j i h in grind (arith, nat_tests)
beyond Greater j i t h le = absurd h

-- past an instant there is no change up to it
pub latest_past : (m : Changes) (t j : ℕ) (q : Key) → T (below_all point_cmp (point q j) m) → t ≤ j → latest m t q ≡ None
latest_past [] t j q h le = refl
latest_past (c ∷ cs) t j q h le =
    (λ i. later (latest_past cs t j q (second _ _ h) le i) (cond (beyond (key_cmp q c.0.key) j c.0.instant t (first _ _ h) le i) (Some c.1) None))

-- no change is later than i
abbrev pub Upto : ℕ → Changes → Type 0
Upto i [] = Unit {0}
Upto i (c ∷ cs) = (c.0.instant ≤ i) × Upto i cs

-- a change of the key past i is none where all are up to i
no_more : (o : Ordering) (i j : ℕ) → T (is_lt (ordering_then o (nat_cmp i j))) → j ≤ i → is_eq o ≡ false
no_more Less i j h le = refl
no_more Equal i j h le = let lt : i < j = below i j h in absurd (omega arith)
no_more Greater i j h le = absurd h

pub latest_none : (m : Changes) (t i : ℕ) (q : Key) → T (below_all point_cmp (point q i) m) → Upto i m → latest m t q ≡ None
latest_none [] t i q h up = refl
latest_none (c ∷ cs) t i q h up =
    (λ k. later (latest_none cs t i q (second _ _ h) up.1 k) (cond (no_more (key_cmp q c.0.key) i c.0.instant (first _ _ h) up.0 k && nat_le c.0.instant t) (Some c.1) None))

ties : (o : Ordering) (b : Bool) → (is_eq o && b) ≡ true → o ≡ Equal
ties Less b e = cc
ties Equal b e = refl
ties Greater b e = cc

put_before : {A : Type 0} (b : Bool) (v : A) (x : Option A) → (b ≡ true → x ≡ None) → later x (cond b (Some v) None) ≡ cond b (Some v) x
put_before true v x h = ap (λ x. later x (Some v)) (h refl)
put_before false v x h = later_none x

put_over : {A : Type 0} (b : Bool) (v w : A) (x : Option A) → (b ≡ true → x ≡ None) → later x (cond b (Some v) None) ≡ cond b (Some v) (later x (cond b (Some w) None))
put_over true v w x h = ap (λ x. later x (Some v)) (h refl)
put_over false v w x h = refl

put_after : {A : Type 0} (b : Bool) (v : A) (x y : Option A) → later (cond b (Some v) x) y ≡ cond b (Some v) (later x y)
put_after true v x y = refl
put_after false v x y = refl

insert_at : (o : Ordering) (c : Point × Option Row) (cs : Changes) (t i : ℕ) (q k : Key) (v : Option Row) → point_cmp (point k i) c.0 ≡ o → T (is_sorted point_cmp (c ∷ cs)) → Upto i (c ∷ cs)
    → latest (insert_entry point_cmp cs (point k i) v) t q ≡ cond (is_eq (key_cmp q k) && nat_le i t) (Some v) (latest cs t q)
    → latest (match_ordering o ((point k i, v) ∷ c ∷ cs) ((c.0, v) ∷ cs) (c ∷ insert_entry point_cmp cs (point k i) v)) t q ≡ cond (is_eq (key_cmp q k) && nat_le i t) (Some v) (latest (c ∷ cs) t q)
insert_at Less c cs t i q k v e sorted up rest =
    put_before (is_eq (key_cmp q k) && nat_le i t) v (latest (c ∷ cs) t q) (λ b.
    let same : k ≡ q = sym (key_cmp-IsAntisymmetric q k (ties _ _ b)) in
    latest_none (c ∷ cs) t i q (subst (λ k. T (below_all point_cmp (point k i) (c ∷ cs))) same (both _ _ (subst (λ o. T (is_lt o)) (sym e) tt) (below_less point_cmp_total (point k i) c.0 cs e (first _ _ sorted)))) up)
insert_at Equal c cs t i q k v e sorted up rest =
    let same : point k i ≡ c.0 = point_cmp-IsAntisymmetric (point k i) c.0 e in
    subst (λ (p : Point). T (below_all point_cmp p cs) → later (latest cs t q) (cond (is_eq (key_cmp q p.key) && nat_le p.instant t) (Some v) None)
    ≡ cond (is_eq (key_cmp q k) && nat_le i t) (Some v) (later (latest cs t q) (cond (is_eq (key_cmp q p.key) && nat_le p.instant t) (Some c.1) None))) same
    (λ above. put_over (is_eq (key_cmp q k) && nat_le i t) v c.1 (latest cs t q) (λ b.
    let alike : k ≡ q = sym (key_cmp-IsAntisymmetric q k (ties _ _ b)) in
    latest_none cs t i q (subst (λ k. T (below_all point_cmp (point k i) cs)) alike above) up.1))
    (first _ _ sorted)
insert_at Greater c cs t i q k v e sorted up rest =
    ap (λ x. later x (cond (is_eq (key_cmp q c.0.key) && nat_le c.0.instant t) (Some c.1) None)) rest ∙ put_after (is_eq (key_cmp q k) && nat_le i t) v (latest cs t q) _

-- a change at an instant that none is past is the key's last
pub latest-insert : (m : Changes) (t i : ℕ) (q k : Key) (v : Option Row) → T (is_sorted point_cmp m) → Upto i m
    → latest (insert_entry point_cmp m (point k i) v) t q ≡ cond (is_eq (key_cmp q k) && nat_le i t) (Some v) (latest m t q)
latest-insert [] t i q k v sorted up = refl
latest-insert (c ∷ cs) t i q k v sorted up = insert_at (point_cmp (point k i) c.0) c cs t i q k v refl sorted up (latest-insert cs t i q k v (second _ _ sorted) up.1)

pub Upto-insert : (m : Changes) (i : ℕ) (k : Key) (v : Option Row) → Upto i m → Upto i (insert_entry point_cmp m (point k i) v)
Upto-insert [] i k v up = (omega arith, tt)
Upto-insert (c ∷ cs) i k v up =
    elim (point_cmp (point k i) c.0) as (λ o. Upto i (match_ordering o ((point k i, v) ∷ c ∷ cs) ((c.0, v) ∷ cs) (c ∷ insert_entry point_cmp cs (point k i) v))) [
      | Less ↦ (let same : i ≤ i = omega arith in same, up)
      | Equal ↦ up
      | Greater ↦ (up.0, Upto-insert cs i k v up.1)
    ]

pub Upto-more : (m : Changes) (i j : ℕ) → i ≤ j → Upto i m → Upto j m
Upto-more [] i j h up = tt
Upto-more (c ∷ cs) i j h up = (let le : c.0.instant ≤ i = up.0 in omega arith, Upto-more cs i j h up.1)
