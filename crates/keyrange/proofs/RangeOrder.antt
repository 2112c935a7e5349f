-- The order of keys by their bytes.
use Rattle.std.proofs.Common.{◌≡◌, ℕ, List, Bool, true, false, refl, ap, ◌∙◌}
use Rattle.std.specs.Ordering.{nat_cmp, is_lt, ordering_reverse}
use Rattle.std.specs.Cmp.Lexicographic.{slice_cmp, nat_list_cmp_total}
use Rattle.std.specs.declared.cmp.Ordering.{Ordering}
use Rattle.std.specs.declared.cmp.Ordering.TheVariants.{Less, Equal, Greater}
use Rattle.std.proofs.lemmas.Cmp.{tied_itself}
use Rattle.keyrange.specs.Range.{is_below}

abbrev cmp : List ℕ → List ℕ → Ordering
cmp = slice_cmp nat_cmp

pub not_itself : (x : List ℕ) → is_below x x ≡ false
not_itself x = ap is_lt (tied_itself nat_list_cmp_total x)

turned : (o p : Ordering) → p ≡ ordering_reverse o → is_lt o ≡ true → is_lt p ≡ false
turned Less p e h = ap is_lt e
turned Equal p e h = cc
turned Greater p e h = cc

pub not_back : (x y : List ℕ) → is_below x y ≡ true → is_below y x ≡ false
not_back x y h = turned (cmp x y) (cmp y x) (nat_list_cmp_total.antisymm y x) h

pub is_less : (o : Ordering) → is_lt o ≡ true → o ≡ Less
is_less Less h = refl
is_less Equal h = cc
is_less Greater h = cc

-- from a key that is not below a on, what is above is above a
pub above : (k a h : List ℕ) → is_below k a ≡ false → is_below k h ≡ true → is_below a h ≡ true
above k a h low high = by (cmp a k) refl
  where
    by : (o : Ordering) → cmp a k ≡ o → is_below a h ≡ true
    by Less e = ap is_lt (nat_list_cmp_total.trans a k h e (is_less (cmp k h) high))
    by Equal e = ap is_lt (nat_list_cmp_total.congr a k h e) ∙ high
    by Greater e =
        let back : cmp k a ≡ Less = nat_list_cmp_total.antisymm k a ∙ ap ordering_reverse e in
        let below : is_below k a ≡ true = ap is_lt back in
        cc

-- a key that is not below what is above lo is not below lo
pub under : (k lo cut : List ℕ) → is_below lo cut ≡ true → is_below k cut ≡ false → is_below k lo ≡ false
under k lo cut inside e = by (is_below k lo) refl
  where
    by : (t : Bool) → is_below k lo ≡ t → is_below k lo ≡ false
    by false h = h
    by true h =
        let below : is_below k cut ≡ true = above lo k cut (not_back k lo h) inside in
        cc
