-- The rows of the versions that had begun and not ended: by lookup, they are the last changes.
use Rattle.std.proofs.Common.{◌≡◌, ℕ, ◌<◌, Bool, true, false, cond, ◌&&◌, T, List, [], ◌∷◌, Option, Some, None, refl, sym, ap, subst, ◌∙◌, arith, nat_lt, nat_le, is_none, filter, filter_map, map}
use Rattle.std.proofs.lemmas.Bool.Decides.{nat_tests}
use Rattle.std.specs.List.{cons_option}
use Rattle.std.specs.Option.{option_flatten}
use Rattle.std.specs.Ordering.{nat_cmp, ordering_then, is_eq, is_lt}
use Rattle.std.specs.declared.cmp.Ordering.{Ordering}
use Rattle.std.specs.declared.cmp.Ordering.TheVariants.{Less, Equal, Greater}
use Rattle.std.specs.FinMap.{is_sorted}
use Rattle.std.specs.FinMap.Entries.{below_all}
use Rattle.values.specs.declared.key.Key.{Key}
use Rattle.values.specs.declared.key.Point.{Point}
use Rattle.values.specs.declared.query.Form.TheVariants.{AsOf}
use Rattle.values.specs.Order.{key_cmp, is_key}
use Rattle.values.specs.Log.{Changes, State, Row, point_cmp, row_at}
use Rattle.values.specs.Versions.{Version, next_change, version_of, versions, ends_after}
use Rattle.values.specs.Law.{rows_by}
use Rattle.values.proofs.OrderTotal.{key_cmp-IsAntisymmetric, below, both, first, second}
use Rattle.values.proofs.LogLatest.{latest, later, later_none, latest_past, point}

-- ---- the end of a version is the next change in the rest

abbrev pub by_rest : Changes → List Version
by_rest [] = []
by_rest (c ∷ cs) = cons_option (version_of cs c) (by_rest cs)

earlier : (a b : Key) (i j : ℕ) → T (is_lt (point_cmp (point a i) (point b j))) → (is_key b a && nat_lt j i) ≡ false
earlier a b i j h = by (key_cmp b a) refl
  where
    by : (o : Ordering) → key_cmp b a ≡ o → (is_eq o && nat_lt j i) ≡ false
    by Less e = refl
    by Equal e =
        let same : b ≡ a = key_cmp-IsAntisymmetric b a e in
        let lt : i < j = below i j (subst (λ o. T (is_lt (ordering_then o (nat_cmp i j)))) (subst (λ x. key_cmp x b ≡ Equal) same (subst (λ x. key_cmp b x ≡ Equal) (sym same) e)) h) in
        grind (arith, nat_tests)
    by Greater e = refl

version_later : (c d : Point × Option Row) (cs : Changes) → T (is_lt (point_cmp c.0 d.0)) → version_of (c ∷ cs) d ≡ version_of cs d
version_later c (p, None) cs h = refl
version_later c (p, Some row) cs h =
    ap (λ b. Some (record { key = p.key; row = row; from = p.instant; to = cond b (Some c.0.instant) (next_change cs p.key p.instant) })) (earlier c.0.key p.key c.0.instant p.instant h)

versions_later : (c : Point × Option Row) (cs ds : Changes) → T (below_all point_cmp c.0 ds) → filter_map (version_of (c ∷ cs)) ds ≡ filter_map (version_of cs) ds
versions_later c cs [] h = refl
versions_later c cs (d ∷ ds) h = λ i. cons_option (version_later c d cs (first _ _ h) i) (versions_later c cs ds (second _ _ h) i)

itself : (b : Bool) (j : ℕ) → (b && nat_lt j j) ≡ false
itself true j = grind (arith, nat_tests)
itself false j = refl

version_itself : (c : Point × Option Row) (cs : Changes) → version_of (c ∷ cs) c ≡ version_of cs c
version_itself (p, None) cs = refl
version_itself (p, Some row) cs =
    ap (λ b. Some (record { key = p.key; row = row; from = p.instant; to = cond b (Some p.instant) (next_change cs p.key p.instant) })) (itself (is_key p.key p.key) p.instant)

pub versions_by_rest : (m : Changes) → T (is_sorted point_cmp m) → versions m ≡ by_rest m
versions_by_rest [] h = refl
versions_by_rest (c ∷ cs) h = λ i. cons_option (version_itself c cs i) ((versions_later c cs cs (first _ _ h) ∙ versions_by_rest cs (second _ _ h)) i)

-- ---- which versions have begun and not ended

ends_at : (o : Ordering) (i j t : ℕ) (n : Option ℕ) (x : Option (Option Row)) (r : Option Row) → T (is_lt (ordering_then o (nat_cmp i j))) → ends_after n t ≡ is_none x → (o ≡ Equal → t < j → x ≡ None)
    → ends_after (cond (is_eq o && nat_lt i j) (Some j) n) t ≡ is_none (later x (cond (is_eq o && nat_le j t) (Some r) None))
ends_at Less i j t n x r h rest past = rest ∙ ap is_none (sym (later_none x))
ends_at Equal i j t n x r h rest past = by (nat_le j t) refl
  where
    lt : nat_lt i j ≡ true
    lt = let lt : i < j = below i j h in grind (arith, nat_tests)

    filled : (x : Option (Option Row)) → is_none (later x (Some r)) ≡ false
    filled None = refl
    filled (Some y) = refl

    by : (b : Bool) → nat_le j t ≡ b → ends_after (cond (nat_lt i j) (Some j) n) t ≡ is_none (later x (cond b (Some r) None))
    by true e = ap (λ b. ends_after (cond b (Some j) n) t) lt ∙ over e ∙ sym (filled x)
      where
        over : nat_le j t ≡ true → nat_lt t j ≡ false
        over e = grind (arith, nat_tests)
    by false e = ap (λ b. ends_after (cond b (Some j) n) t) lt ∙ under e ∙ ap (λ x. is_none (later x None)) (sym (past refl (later_than e)))
      where
        under : nat_le j t ≡ false → nat_lt t j ≡ true
        under e = grind (arith, nat_tests)

        later_than : nat_le j t ≡ false → t < j
        later_than e = grind (arith, nat_tests)
ends_at Greater i j t n x r h rest past = absurd h

-- a version lasts beyond t where its key has no change after its start up to t
pub lasts : (m : Changes) (t i : ℕ) (q : Key) → T (is_sorted point_cmp m) → T (below_all point_cmp (point q i) m) → ends_after (next_change m q i) t ≡ is_none (latest m t q)
lasts [] t i q sorted h = refl
lasts (c ∷ cs) t i q sorted h =
    ends_at (key_cmp q c.0.key) i c.0.instant t (next_change cs q i) (latest cs t q) c.1 (first _ _ h) (lasts cs t i q (second _ _ sorted) (second _ _ h))
    (λ same lt. latest_past cs t c.0.instant q (subst (λ k. T (below_all point_cmp (point k c.0.instant) cs)) (sym (key_cmp-IsAntisymmetric q c.0.key same)) (first _ _ sorted)) (omega arith))

-- ---- the rows

abbrev keyed : Version → Key × Row
keyed v = (v.key, v.row)

abbrev stands : ℕ → Version → Bool
stands t v = nat_le v.from t && ends_after v.to t

abbrev rows_then : ℕ → Changes → State
rows_then t m = map keyed (filter (stands t) (by_rest m))

none_more : (b : Bool) (x : Option (Option Row)) → option_flatten x ≡ option_flatten (later x (cond b (Some None) None))
none_more true None = refl
none_more true (Some x) = refl
none_more false None = refl
none_more false (Some x) = refl

row_by : (o : Ordering) (b e : Bool) (q : Key) (v : Version) (vs : List Version) (x : Option (Option Row)) → key_cmp q v.key ≡ o → (o ≡ Equal → e ≡ is_none x) → row_at (map keyed vs) q ≡ option_flatten x
    → row_at (map keyed (cond (b && e) (v ∷ vs) vs)) q ≡ option_flatten (later x (cond (is_eq o && b) (Some (Some v.row)) None))
row_by Less false e q v vs x k is rest = rest ∙ ap option_flatten (sym (later_none x))
row_by Less true false q v vs x k is rest = rest ∙ ap option_flatten (sym (later_none x))
row_by Less true true q v vs x k is rest = ap (λ o. cond (is_eq o) (Some v.row) (row_at (map keyed vs) q)) k ∙ rest ∙ ap option_flatten (sym (later_none x))
row_by Equal false e q v vs x k is rest = rest ∙ ap option_flatten (sym (later_none x))
row_by Equal true false q v vs None k is rest = cc (is refl)
row_by Equal true false q v vs (Some y) k is rest = rest
row_by Equal true true q v vs None k is rest = ap (λ o. cond (is_eq o) (Some v.row) (row_at (map keyed vs) q)) k
row_by Equal true true q v vs (Some y) k is rest = cc (is refl)
row_by Greater false e q v vs x k is rest = rest ∙ ap option_flatten (sym (later_none x))
row_by Greater true false q v vs x k is rest = rest ∙ ap option_flatten (sym (later_none x))
row_by Greater true true q v vs x k is rest = ap (λ o. cond (is_eq o) (Some v.row) (row_at (map keyed vs) q)) k ∙ rest ∙ ap option_flatten (sym (later_none x))

row_then : (m : Changes) (t : ℕ) (q : Key) → T (is_sorted point_cmp m) → row_at (rows_then t m) q ≡ option_flatten (latest m t q)
row_then [] t q h = refl
row_then ((p, None) ∷ cs) t q h = row_then cs t q (second _ _ h) ∙ none_more (is_key q p.key && nat_le p.instant t) (latest cs t q)
row_then ((p, Some row) ∷ cs) t q h =
    row_by (key_cmp q p.key) (nat_le p.instant t) (ends_after (next_change cs p.key p.instant) t) q (record { key = p.key; row = row; from = p.instant; to = next_change cs p.key p.instant }) (filter (stands t) (by_rest cs)) (latest cs t q) refl
    (λ same. lasts cs t p.instant p.key (second _ _ h) (first _ _ h) ∙ ap (λ k. is_none (latest cs t k)) (sym (key_cmp-IsAntisymmetric q p.key same)))
    (row_then cs t q (second _ _ h))

unfilled : {A : Type 0} (x y : Option A) → later x y ≡ None → (x ≡ None) × (y ≡ None)
unfilled None y e = (refl, e)
unfilled (Some x) y e = cc

below_by : (o : Ordering) (b e : Bool) (i : ℕ) (q : Key) (v : Version) (vs : List Version) → T (is_lt (ordering_then o (nat_cmp i v.from))) → cond (is_eq o && b) (Some (Some v.row)) None ≡ None → key_cmp q v.key ≡ o
    → T (below_all key_cmp q (map keyed vs)) → T (below_all key_cmp q (map keyed (cond (b && e) (v ∷ vs) vs)))
below_by o false e i q v vs h none k rest = rest
below_by o true false i q v vs h none k rest = rest
below_by Less true true i q v vs h none k rest = both _ _ (subst (λ o. T (is_lt o)) (sym k) tt) rest
below_by Equal true true i q v vs h none k rest = cc
below_by Greater true true i q v vs h none k rest = absurd h

below_rows : (m : Changes) (t i : ℕ) (q : Key) → T (below_all point_cmp (point q i) m) → latest m t q ≡ None → T (below_all key_cmp q (rows_then t m))
below_rows [] t i q h none = tt
below_rows ((p, None) ∷ cs) t i q h none = below_rows cs t i q (second _ _ h) ((unfilled _ _ none).0)
below_rows ((p, Some row) ∷ cs) t i q h none =
    below_by (key_cmp q p.key) (nat_le p.instant t) (ends_after (next_change cs p.key p.instant) t) i q (record { key = p.key; row = row; from = p.instant; to = next_change cs p.key p.instant }) (filter (stands t) (by_rest cs))
    (first _ _ h) ((unfilled _ _ none).1) refl (below_rows cs t i q (second _ _ h) ((unfilled _ _ none).0))

sorted_by : (b e : Bool) (v : Version) (vs : List Version) → (e ≡ true → T (below_all key_cmp v.key (map keyed vs))) → T (is_sorted key_cmp (map keyed vs)) → T (is_sorted key_cmp (map keyed (cond (b && e) (v ∷ vs) vs)))
sorted_by false e v vs h rest = rest
sorted_by true false v vs h rest = rest
sorted_by true true v vs h rest = both _ _ (h refl) rest

is_none_so : {A : Type 0} (x : Option A) → is_none x ≡ true → x ≡ None
is_none_so None e = refl
is_none_so (Some x) e = cc

sorted_rows : (m : Changes) (t : ℕ) → T (is_sorted point_cmp m) → T (is_sorted key_cmp (rows_then t m))
sorted_rows [] t h = tt
sorted_rows ((p, None) ∷ cs) t h = sorted_rows cs t (second _ _ h)
sorted_rows ((p, Some row) ∷ cs) t h =
    sorted_by (nat_le p.instant t) (ends_after (next_change cs p.key p.instant) t) (record { key = p.key; row = row; from = p.instant; to = next_change cs p.key p.instant }) (filter (stands t) (by_rest cs))
    (λ e. below_rows cs t p.instant p.key (first _ _ h) (is_none_so _ (sym (lasts cs t p.instant p.key (second _ _ h) (first _ _ h)) ∙ e)))
    (sorted_rows cs t (second _ _ h))

pub row_at-rows_by : (m : Changes) (t : ℕ) (q : Key) → T (is_sorted point_cmp m) → row_at (rows_by m (AsOf t)) q ≡ option_flatten (latest m t q)
row_at-rows_by m t q h = ap (λ vs. row_at (map keyed (filter (stands t) vs)) q) (versions_by_rest m h) ∙ row_then m t q h

pub sorted-rows_by : (m : Changes) (t : ℕ) → T (is_sorted point_cmp m) → T (is_sorted key_cmp (rows_by m (AsOf t)))
sorted-rows_by m t h = subst (λ vs. T (is_sorted key_cmp (map keyed (filter (stands t) vs)))) (sym (versions_by_rest m h)) (sorted_rows m t h)
