-- Rows that do not clash, one written after the other.
use Rattle.std.proofs.Common.{◌≡◌, Bool, true, false, cond, ◌&&◌, ◌||◌, [], ◌∷◌, Option, Some, None, refl, sym, ap, subst, ◌∙◌, map}
use Rattle.std.specs.Prelude.{filter}
use Rattle.std.specs.List.{list_any}
use Rattle.std.specs.Ordering.{match_ordering, is_eq, ordering_reverse}
use Rattle.std.specs.declared.cmp.Ordering.{Ordering}
use Rattle.std.specs.declared.cmp.Ordering.TheVariants.{Less, Equal, Greater}
use Rattle.std.specs.BTreeMap.{insert_entry}
use Rattle.values.specs.declared.period.Period.{Period}
use Rattle.values.specs.declared.key.Key.{Key}
use Rattle.values.specs.Order.{key_cmp, is_key}
use Rattle.values.specs.Log.{State, Row}
use Rattle.values.proofs.OrderTotal.{key_cmp_total, key_cmp-IsAntisymmetric}
use Rattle.values.specs.Period.{Periods, span_of, overlap}
use Rattle.values.specs.Entity.{entity_of, clash_by}
use Rattle.values.specs.Clash.{clash}
use Rattle.periods.specs.NoOverlap.{NoOverlap}
use Rattle.periods.proofs.NoOverlapSpans.{overlap_turned}

tie : (o : Ordering) → is_eq o ≡ true → o ≡ Equal
tie Less e = cc
tie Equal e = refl
tie Greater e = cc

-- two keys that compare equal are one
pub one_key : (k l : Key) → is_key k l ≡ true → k ≡ l
one_key k l e = key_cmp-IsAntisymmetric k l (tie (key_cmp k l) e)

pub is_key_turned : (k l : Key) → is_key k l ≡ is_key l k
is_key_turned k l = ap is_eq (key_cmp_total.antisymm k l) ∙ level (key_cmp l k)
  where
    level : (o : Ordering) → is_eq (ordering_reverse o) ≡ is_eq o
    level Less = refl
    level Equal = refl
    level Greater = refl

and_first : (a b : Bool) → (a && b) ≡ true → a ≡ true
and_first true b e = refl
and_first false b e = cc

no_clash : (a b : Bool) → a ≡ false → (a && b) ≡ false
no_clash true b e = cc
no_clash false b e = refl

-- a clash is one both ways
pub clash_turned : (periods : Periods) (d e : Key × Row) → clash periods d e ≡ clash periods e d
clash_turned periods d e = by (is_key (entity_of d.0) (entity_of e.0)) refl
  where
    turned : (p q : Option Period) → q ≡ p → clash_by p d e ≡ clash_by q e d
    turned None None same = refl
    turned None (Some q) same = cc
    turned (Some p) None same = cc
    turned (Some p) (Some q) same =
        (λ i. is_key_turned (entity_of d.0) (entity_of e.0) i && overlap_turned (span_of p d.1) (span_of p e.1) i)
        ∙ ap (λ (o : Option Period). clash_by o e d) (sym same)

    none : (p q : Option Period) → is_key (entity_of d.0) (entity_of e.0) ≡ false → is_key (entity_of e.0) (entity_of d.0) ≡ false → clash_by p d e ≡ clash_by q e d
    none None None x y = refl
    none None (Some q) x y = sym (no_clash _ _ y)
    none (Some p) None x y = no_clash _ _ x
    none (Some p) (Some q) x y = no_clash _ _ x ∙ sym (no_clash _ _ y)

    by : (b : Bool) → is_key (entity_of d.0) (entity_of e.0) ≡ b → clash periods d e ≡ clash periods e d
    by true is = turned (periods d.0.table) (periods e.0.table) (ap periods (sym (ap (λ (k : Key). k.table) (one_key (entity_of d.0) (entity_of e.0) is))))
    by false is = none (periods d.0.table) (periods e.0.table) is (sym (is_key_turned (entity_of d.0) (entity_of e.0)) ∙ is)

pub or_first : (a b : Bool) → (a || b) ≡ false → a ≡ false
or_first true b e = e
or_first false b e = refl

pub or_second : (a b : Bool) → (a || b) ≡ false → b ≡ false
or_second true b e = cc
or_second false b e = e

pub or_none : (a b : Bool) → a ≡ false → b ≡ false → (a || b) ≡ false
or_none true b e f = cc
or_none false b e f = f

-- ---- a row more

pub none_inserted : (test : (Key × Row) → Bool) (m : State) (k : Key) (v : Row) → test (k, v) ≡ false → list_any test m ≡ false → list_any test (insert_entry key_cmp m k v) ≡ false
none_inserted test [] k v is none = or_none _ _ is refl
none_inserted test (e ∷ es) k v is none = by (key_cmp k e.0) refl (none_inserted test es k v is (or_second (test e) _ none))
  where
    by : (o : Ordering) → key_cmp k e.0 ≡ o → list_any test (insert_entry key_cmp es k v) ≡ false → list_any test (match_ordering o ((k, v) ∷ e ∷ es) ((e.0, v) ∷ es) (e ∷ insert_entry key_cmp es k v)) ≡ false
    by Less at rest = or_none _ _ is none
    by Equal at rest = or_none _ _ (subst (λ (l : Key). test (l, v) ≡ false) (key_cmp-IsAntisymmetric k e.0 at) is) (or_second (test e) _ none)
    by Greater at rest = or_none _ _ (or_first (test e) _ none) rest

-- a row that clashes with none
pub apart_inserted : (periods : Periods) (m : State) (k : Key) (v : Row) → list_any (clash periods (k, v)) m ≡ false → NoOverlap periods m → NoOverlap periods (insert_entry key_cmp m k v)
apart_inserted periods [] k v none apart = (refl, tt)
apart_inserted periods (e ∷ es) k v none apart = by (key_cmp k e.0) refl (apart_inserted periods es k v (or_second (clash periods (k, v) e) _ none) apart.1)
  where
    by : (o : Ordering) → key_cmp k e.0 ≡ o → NoOverlap periods (insert_entry key_cmp es k v) → NoOverlap periods (match_ordering o ((k, v) ∷ e ∷ es) ((e.0, v) ∷ es) (e ∷ insert_entry key_cmp es k v))
    by Less at rest = (none, apart)
    by Equal at rest = (subst (λ (l : Key). list_any (clash periods (l, v)) es ≡ false) (key_cmp-IsAntisymmetric k e.0 at) (or_second (clash periods (k, v) e) _ none), apart.1)
    by Greater at rest = (
      none_inserted (clash periods e) es k v (clash_turned periods e (k, v) ∙ or_first (clash periods (k, v) e) _ none) apart.0,
      rest,
    )

-- ---- fewer rows

pub none_kept : (test keep : (Key × Row) → Bool) (m : State) → list_any test m ≡ false → list_any test (filter keep m) ≡ false
none_kept test keep [] none = refl
none_kept test keep (e ∷ es) none = by (keep e) (none_kept test keep es (or_second (test e) _ none))
  where
    by : (b : Bool) → list_any test (filter keep es) ≡ false → list_any test (cond b (e ∷ filter keep es) (filter keep es)) ≡ false
    by true rest = or_none _ _ (or_first (test e) _ none) rest
    by false rest = rest

pub apart_kept : (periods : Periods) (keep : (Key × Row) → Bool) (m : State) → NoOverlap periods m → NoOverlap periods (filter keep m)
apart_kept periods keep [] apart = tt
apart_kept periods keep (e ∷ es) apart = by (keep e) (apart_kept periods keep es apart.1)
  where
    by : (b : Bool) → NoOverlap periods (filter keep es) → NoOverlap periods (cond b (e ∷ filter keep es) (filter keep es))
    by true rest = (none_kept (clash periods e) keep es apart.0, rest)
    by false rest = rest

-- ---- other rows for the same keys, of the same spans

-- the entry has the key of another, and its span
pub record IsAlike (periods : Periods) (d e : Key × Row) : Type 0 where
  pub key : d.0 ≡ e.0
  pub span : (p : Period) → periods e.0.table ≡ Some p → span_of p d.1 ≡ span_of p e.1

alike_at : (o : Option Period) (c d e : Key × Row) → d.0 ≡ e.0 → ((p : Period) → o ≡ Some p → span_of p d.1 ≡ span_of p e.1) → clash_by o d c ≡ clash_by o e c
alike_at None c d e key span = refl
alike_at (Some p) c d e key span = λ i. is_key (entity_of (key i)) (entity_of c.0) && overlap (span p refl i) (span_of p c.1)

-- it clashes with the same rows
pub clash_alike : (periods : Periods) (c d e : Key × Row) → IsAlike periods d e → clash periods d c ≡ clash periods e c
clash_alike periods c d e is =
    ap (λ (k : Key). clash_by (periods k.table) d c) is.key ∙ alike_at (periods e.0.table) c d e is.key is.span

none_changed : (periods : Periods) (change : (Key × Row) → (Key × Row)) (c : Key × Row) (m : State) → ((e : Key × Row) → IsAlike periods (change e) e) → list_any (clash periods c) m ≡ false → list_any (clash periods c) (map change m) ≡ false
none_changed periods change c [] alike none = refl
none_changed periods change c (e ∷ es) alike none =
    or_none _ _ (clash_turned periods c (change e) ∙ clash_alike periods c (change e) e (alike e) ∙ clash_turned periods e c ∙ or_first (clash periods c e) _ none)
    (none_changed periods change c es alike (or_second (clash periods c e) _ none))

pub any_alike : (periods : Periods) (d e : Key × Row) (m : State) → IsAlike periods d e → list_any (clash periods d) m ≡ list_any (clash periods e) m
any_alike periods d e [] is = refl
any_alike periods d e (c ∷ m) is = λ i. clash_alike periods c d e is i || any_alike periods d e m is i

-- a change that leaves keys and spans
pub apart_changed : (periods : Periods) (change : (Key × Row) → (Key × Row)) (m : State) → ((e : Key × Row) → IsAlike periods (change e) e) → NoOverlap periods m → NoOverlap periods (map change m)
apart_changed periods change [] alike apart = tt
apart_changed periods change (e ∷ es) alike apart = (
  any_alike periods (change e) e (map change es) (alike e) ∙ none_changed periods change e es alike apart.0,
  apart_changed periods change es alike apart.1,
)
