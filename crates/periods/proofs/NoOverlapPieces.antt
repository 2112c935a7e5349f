-- What a portion leaves clashes with nothing.
use Rattle.std.proofs.Common.{◌≡◌, ℕ, ◌≤◌, Bool, true, false, cond, ◌&&◌, List, [], ◌∷◌, ◌++◌, Option, Some, None, refl, sym, ap, subst, ◌∙◌, arith, not, length}
use Rattle.std.specs.Prelude.{filter, ◌==◌, if◌then◌else◌}
use Rattle.std.proofs.lemmas.Bool.Decides.{nat_tests}
use Rattle.std.specs.List.{list_any}
use Rattle.std.specs.Ordering.{match_ordering}
use Rattle.std.specs.declared.cmp.Ordering.{Ordering}
use Rattle.std.specs.declared.cmp.Ordering.TheVariants.{Less, Equal, Greater}
use Rattle.std.specs.BTreeMap.{insert_entry}
use Rattle.values.specs.declared.period.Period.{Period}
use Rattle.values.specs.declared.period.Span.{Span}
use Rattle.values.specs.declared.key.Key.{Key}
use Rattle.values.specs.declared.table.Table.{Table}
use Rattle.values.specs.declared.query.Keys.{Keys}
use Rattle.values.specs.declared.query.Set.{Set}
use Rattle.values.specs.Order.{key_cmp, is_key}
use Rattle.values.specs.Log.{State, Row}
use Rattle.values.specs.Versions.{matches}
use Rattle.values.specs.Writes.{key_of, insert_all, full_rows, keyed}
use Rattle.values.proofs.OrderTotal.{key_cmp-IsAntisymmetric}
use Rattle.values.specs.Period.{Periods, span_of, is_span, overlap, common, before, behind, with_span}
use Rattle.values.specs.Times.{lies_in}
use Rattle.values.specs.Entity.{entity_of, clash_by}
use Rattle.values.specs.Clash.{clash}
use Rattle.values.specs.Portion.{changed, is_taken, taken, not_taken}
use Rattle.values.specs.TableRules.{HasPeriod}
use Rattle.values.specs.Each.{Each}
use Rattle.periods.specs.NoOverlap.{NoOverlap, Tables, IsSettable, IsKeyed, IsKeyedIn, AreKeyed}
use Rattle.periods.proofs.NoOverlapKeyed.{piece, piece_of, pieces, all_pieces, all_left, change_portion}
use Rattle.periods.proofs.NoOverlapSpans.{part_apart, before_in, behind_in, common_in, before_common, common_behind, before_behind}
use Rattle.periods.proofs.NoOverlapApart.{clash_turned, or_first, or_second, or_none, none_inserted, apart_inserted, apart_kept, none_kept, any_alike}
use Rattle.periods.proofs.NoOverlapFull.{full, full_alike, full_apart, full_keyed_in, span_full}
use Rattle.periods.proofs.NoOverlapColumns.{span_with_span, entity_with_span, width_with_span, width_set_all, key_set_all}

pub and_first : (a b : Bool) → (a && b) ≡ true → a ≡ true
and_first true b e = refl
and_first false b e = cc

pub and_second : (a b : Bool) → (a && b) ≡ true → b ≡ true
and_second true b e = e
and_second false b e = cc

pub one_table : (a b c : ℕ) → b ≡ c → (a == b) ≡ true → a ≡ c
one_table a b c same h = grind (arith, nat_tests)

-- ---- lists of rows that do not clash

-- rows that clash with none, nor with one another, inserted in turn
pub apart_all_inserted : (periods : Periods) (m ps : State) → NoOverlap periods m → NoOverlap periods ps → Each (λ d. list_any (clash periods d) m ≡ false) ps → NoOverlap periods (insert_all m ps)
apart_all_inserted periods m [] apart new free = apart
apart_all_inserted periods m (d ∷ ps) apart new free =
    apart_all_inserted periods (insert_entry key_cmp m d.0 d.1) ps (apart_inserted periods m d.0 d.1 free.0 apart) new.1 (still ps new.0 free.1)
  where
    still : (ps : State) → list_any (clash periods d) ps ≡ false → Each (λ c. list_any (clash periods c) m ≡ false) ps → Each (λ c. list_any (clash periods c) (insert_entry key_cmp m d.0 d.1) ≡ false) ps
    still [] none free = tt
    still (c ∷ ps) none free = (
      none_inserted (clash periods c) m d.0 d.1 (clash_turned periods c d ∙ or_first (clash periods d c) _ none) free.0,
      still ps (or_second (clash periods d c) _ none) free.1,
    )

pub none_append : (test : (Key × Row) → Bool) (xs ys : State) → list_any test xs ≡ false → list_any test ys ≡ false → list_any test (xs ++ ys) ≡ false
none_append test [] ys a b = b
none_append test (x ∷ xs) ys a b = or_none _ _ (or_first (test x) _ a) (none_append test xs ys (or_second (test x) _ a) b)

apart_append : (periods : Periods) (xs ys : State) → NoOverlap periods xs → NoOverlap periods ys → Each (λ x. list_any (clash periods x) ys ≡ false) xs → NoOverlap periods (xs ++ ys)
apart_append periods [] ys a b none = b
apart_append periods (x ∷ xs) ys a b none = (none_append (clash periods x) xs ys a.0 none.0, apart_append periods xs ys a.1 b none.1)

pub each-append : {A : Type 0} (P : A → Type 0) (xs ys : List A) → Each P xs → Each P ys → Each P (xs ++ ys)
each-append P [] ys e f = f
each-append P (x ∷ xs) ys e f = (e.0, each-append P xs ys e.1 f)

each_turned : (periods : Periods) (x : Key × Row) (ys : State) → list_any (clash periods x) ys ≡ false → Each (λ y. clash periods y x ≡ false) ys
each_turned periods x [] none = tt
each_turned periods x (y ∷ ys) none = (clash_turned periods y x ∙ or_first (clash periods x y) _ none, each_turned periods x ys (or_second (clash periods x y) _ none))

pub each_kept : {A : Type 0} (P : A → Type 0) (keep : A → Bool) (xs : List A) → Each P xs → Each P (filter keep xs)
each_kept P keep [] e = tt
each_kept P keep (x ∷ xs) e = by (keep x) (each_kept P keep xs e.1)
  where
    by : (b : Bool) → Each P (filter keep xs) → Each P (cond b (x ∷ filter keep xs) (filter keep xs))
    by true rest = (e.0, rest)
    by false rest = rest

each_or : (periods : Periods) (x : Key × Row) (ys es : State) → Each (λ e. clash periods e x ≡ false) es → Each (λ e. list_any (clash periods e) ys ≡ false) es → Each (λ e. list_any (clash periods e) (x ∷ ys) ≡ false) es
each_or periods x ys [] a b = tt
each_or periods x ys (e ∷ es) a b = (or_none _ _ a.0 b.0, each_or periods x ys es a.1 b.1)

-- of rows that do not clash, those that a test takes do not clash with the others
pub split_apart : (periods : Periods) (test : (Key × Row) → Bool) (m : State) → NoOverlap periods m → Each (λ e. list_any (clash periods e) (filter (λ e. not (test e)) m) ≡ false) (filter test m)
split_apart periods test [] apart = tt
split_apart periods test (x ∷ xs) apart = by (test x) (split_apart periods test xs apart.1)
  where
    rest : State
    rest = filter (λ e. not (test e)) xs

    by : (b : Bool) → Each (λ e. list_any (clash periods e) (filter (λ e. not (test e)) xs) ≡ false) (filter test xs)
        → Each (λ e. list_any (clash periods e) (cond (not b) (x ∷ filter (λ e. not (test e)) xs) (filter (λ e. not (test e)) xs)) ≡ false) (cond b (x ∷ filter test xs) (filter test xs))
    by true others = (none_kept (clash periods x) (λ e. not (test e)) xs apart.0, others)
    by false others = each_or periods x (filter (λ e. not (test e)) xs) (filter test xs) (each_kept (λ e. clash periods e x ≡ false) test xs (each_turned periods x xs apart.0)) others

-- ---- what holds of each entry

pub each_inserted : (P : (Key × Row) → Type 0) (m : State) (k : Key) (v : Row) → P (k, v) → Each P m → Each P (insert_entry key_cmp m k v)
each_inserted P [] k v p e = (p, tt)
each_inserted P (x ∷ xs) k v p e = by (key_cmp k x.0) refl (each_inserted P xs k v p e.1)
  where
    by : (o : Ordering) → key_cmp k x.0 ≡ o → Each P (insert_entry key_cmp xs k v) → Each P (match_ordering o ((k, v) ∷ x ∷ xs) ((x.0, v) ∷ xs) (x ∷ insert_entry key_cmp xs k v))
    by Less at rest = (p, e)
    by Equal at rest = (subst (λ (l : Key). P (l, v)) (key_cmp-IsAntisymmetric k x.0 at) p, e.1)
    by Greater at rest = (e.0, rest)

pub all_inserted : (P : (Key × Row) → Type 0) (m ps : State) → Each P m → Each P ps → Each P (insert_all m ps)
all_inserted P m [] e f = e
all_inserted P m (d ∷ ps) e f = all_inserted P (insert_entry key_cmp m d.0 d.1) ps (each_inserted P m d.0 d.1 f.0 e) f.1

pub the_table : (t u : Table) → ◌≡◌ {A = Option Table} (Some t) (Some u) → t ≡ u
the_table t u e = cc

pub the_period : (p q : Period) → ◌≡◌ {A = Option Period} (Some p) (Some q) → p ≡ q
the_period p q e = cc

-- ---- parts of rows

-- a row of the same entity, whose span lies in the other's
pub record IsPart (p : Period) (d e : Key × Row) : Type 0 where
  pub entity : entity_of d.0 ≡ entity_of e.0
  pub inside : lies_in (span_of p d.1) (span_of p e.1) ≡ true

pub clash_is : (periods : Periods) (p : Period) (d c : Key × Row) → periods d.0.table ≡ Some p → clash periods d c ≡ (is_key (entity_of d.0) (entity_of c.0) && overlap (span_of p d.1) (span_of p c.1))
clash_is periods p d c at = ap (λ (o : Option Period). clash_by o d c) at

part_free : (periods : Periods) (p : Period) (d e c : Key × Row) → periods e.0.table ≡ Some p → IsPart p d e → clash periods e c ≡ false → clash periods d c ≡ false
part_free periods p d e c at part none =
    clash_is periods p d c (ap (λ (k : Key). periods k.table) part.entity ∙ at)
    ∙ ap (λ (k : Key). is_key k (entity_of c.0) && overlap (span_of p d.1) (span_of p c.1)) part.entity
    ∙ by (is_key (entity_of e.0) (entity_of c.0)) (sym (clash_is periods p e c at) ∙ none)
  where
    by : (b : Bool) → (b && overlap (span_of p e.1) (span_of p c.1)) ≡ false → (b && overlap (span_of p d.1) (span_of p c.1)) ≡ false
    by true h = part_apart (span_of p d.1) (span_of p e.1) (span_of p c.1) part.inside h
    by false h = refl

part_free_all : (periods : Periods) (p : Period) (d e : Key × Row) (m : State) → periods e.0.table ≡ Some p → IsPart p d e → list_any (clash periods e) m ≡ false → list_any (clash periods d) m ≡ false
part_free_all periods p d e [] at part none = refl
part_free_all periods p d e (c ∷ m) at part none =
    or_none _ _ (part_free periods p d e c at part (or_first (clash periods e c) _ none)) (part_free_all periods p d e m at part (or_second (clash periods e c) _ none))

-- ---- what is left of a row

-- what an UPDATE sets, if it is one, leaves the key
abbrev pub Keeps : Table → Period → Option (List Set) → Type 0
Keeps table p None = Unit {0}
Keeps table p (Some sets) = Each (IsSettable table p) sets

module _ (tables : Tables) (periods : Periods) (table : Table) (p : Period) (is_table : tables table.number ≡ Some table) (at : periods table.number ≡ Some p) (has : HasPeriod table p) (cut : Span) (good : is_span cut ≡ true) (sets : Option (List Set)) (keeps : Keeps table p sets) where
  -- a row of the table that the portion takes
  pub record IsHit (e : Key × Row) : Type 0 where
    pub own : e.0.table ≡ table.number
    pub is_keyed : IsKeyed table p e
    pub over : overlap (span_of p e.1) cut ≡ true

  -- the row for a span that lies in another's
  piece_part : (e : Key × Row) (row : Row) (s : Span) → IsHit e → key_of table row ≡ key_of table e.1 → length row ≡ length e.1 → lies_in s (span_of p e.1) ≡ true → IsPart p (keyed table (with_span p s row)) e
  piece_part e row s hit same width inside = record {
    entity = entity_with_span table p s row has ∙ ap entity_of (same ∙ sym hit.is_keyed.key_is);
    inside = ap (λ t. lies_in t (span_of p e.1)) (span_with_span table p s row has (subst (λ n. p.from ≤ n) (sym width) hit.is_keyed.start_within) (subst (λ n. p.to ≤ n) (sym width) hit.is_keyed.end_within)) ∙ inside;
  }

  pieces_part : (e : Key × Row) (row : Row) (s : Span) → IsHit e → key_of table row ≡ key_of table e.1 → length row ≡ length e.1 → lies_in s (span_of p e.1) ≡ true → Each (λ d. IsPart p d e) (piece table p row s)
  pieces_part e row s hit same width inside = by (is_span s)
    where
      by : (b : Bool) → Each (λ d. IsPart p d e) (if b then keyed table (with_span p s row) ∷ [] else [])
      by true = (piece_part e row s hit same width inside, tt)
      by false = tt

  pub record IsNew (e : Key × Row) (row : Row) : Type 0 where
    pub same : key_of table row ≡ key_of table e.1
    pub width : length row ≡ length e.1

  abbrev pub IsNewOf : (Key × Row) → Option Row → Type 0
  IsNewOf e None = Unit {0}
  IsNewOf e (Some row) = IsNew e row

  pub new_is : (e : Key × Row) (sets : Option (List Set)) → Keeps table p sets → IsNewOf e (changed sets e.1)
  new_is e None k = tt
  new_is e (Some sets) k = record { same = key_set_all table p sets e.1 has k; width = width_set_all sets e.1 }

  pieces_of_part : (e : Key × Row) (row : Option Row) (s : Span) → IsHit e → IsNewOf e row → lies_in s (span_of p e.1) ≡ true → Each (λ d. IsPart p d e) (piece_of table p row s)
  pieces_of_part e None s hit new inside = tt
  pieces_of_part e (Some row) s hit new inside = pieces_part e row s hit new.same new.width inside

  -- all that is left of a row is part of it
  pub left_part : (e : Key × Row) → IsHit e → Each (λ d. IsPart p d e) (pieces table p cut sets e.1)
  left_part e hit =
      each-append (λ d. IsPart p d e) (piece table p e.1 (before (span_of p e.1) cut)) _
      (pieces_part e e.1 (before (span_of p e.1) cut) hit refl refl (before_in (span_of p e.1) cut hit.over))
      (each-append (λ d. IsPart p d e) (piece_of table p (changed sets e.1) (common (span_of p e.1) cut)) _
      (pieces_of_part e (changed sets e.1) (common (span_of p e.1) cut) hit (new_is e sets keeps) (common_in (span_of p e.1) cut))
      (pieces_part e e.1 (behind (span_of p e.1) cut) hit refl refl (behind_in (span_of p e.1) cut hit.over)))

  -- ---- the pieces of one row do not clash

  pub record IsWide (row : Row) : Type 0 where
    pub start_within : p.from ≤ length row
    pub end_within : p.to ≤ length row

  pub wide_hit : (e : Key × Row) (row : Row) → IsHit e → length row ≡ length e.1 → IsWide row
  wide_hit e row hit width = record {
    start_within = subst (λ n. p.from ≤ n) (sym width) hit.is_keyed.start_within;
    end_within = subst (λ n. p.to ≤ n) (sym width) hit.is_keyed.end_within;
  }

  keyed_apart : (row other : Row) (s t : Span) → IsWide row → IsWide other → overlap s t ≡ false → clash periods (keyed table (with_span p s row)) (keyed table (with_span p t other)) ≡ false
  keyed_apart row other s t wide_row wide_other none =
      clash_is periods p (keyed table (with_span p s row)) (keyed table (with_span p t other)) at
      ∙ (λ i. is_key (entity_of (key_of table (with_span p s row))) (entity_of (key_of table (with_span p t other))) && (spans ∙ none) i)
      ∙ off (is_key (entity_of (key_of table (with_span p s row))) (entity_of (key_of table (with_span p t other))))
    where
      spans : overlap (span_of p (with_span p s row)) (span_of p (with_span p t other)) ≡ overlap s t
      spans = λ i. overlap (span_with_span table p s row has wide_row.start_within wide_row.end_within i) (span_with_span table p t other has wide_other.start_within wide_other.end_within i)

      off : (b : Bool) → (b && false) ≡ false
      off true = refl
      off false = refl

  piece_free : (row other : Row) (s t : Span) → IsWide row → IsWide other → overlap s t ≡ false → Each (λ d. list_any (clash periods d) (piece table p other t) ≡ false) (piece table p row s)
  piece_free row other s t wide_row wide_other none = by (is_span s) (is_span t)
    where
      by : (a b : Bool) → Each (λ d. list_any (clash periods d) (if b then keyed table (with_span p t other) ∷ [] else []) ≡ false) (if a then keyed table (with_span p s row) ∷ [] else [])
      by true true = (or_none _ _ (keyed_apart row other s t wide_row wide_other none) refl, tt)
      by true false = (refl, tt)
      by false b = tt

  piece_alone : (row : Row) (s : Span) → NoOverlap periods (piece table p row s)
  piece_alone row s = by (is_span s)
    where
      by : (b : Bool) → NoOverlap periods (if b then keyed table (with_span p s row) ∷ [] else [])
      by true = (refl, tt)
      by false = tt

  each_none : (xs ys zs : State) → Each (λ d. list_any (clash periods d) ys ≡ false) xs → Each (λ d. list_any (clash periods d) zs ≡ false) xs → Each (λ d. list_any (clash periods d) (ys ++ zs) ≡ false) xs
  each_none [] ys zs a b = tt
  each_none (x ∷ xs) ys zs a b = (none_append (clash periods x) ys zs a.0 b.0, each_none xs ys zs a.1 b.1)

  all_free : (xs : State) → Each (λ d. list_any (clash periods d) [] ≡ false) xs
  all_free [] = tt
  all_free (x ∷ xs) = (refl, all_free xs)

  left_apart_by : (e : Key × Row) (new : Option Row) → IsHit e → IsNewOf e new
      → NoOverlap periods (piece table p e.1 (before (span_of p e.1) cut) ++ (piece_of table p new (common (span_of p e.1) cut) ++ piece table p e.1 (behind (span_of p e.1) cut)))
  left_apart_by e None hit new =
      apart_append periods (piece table p e.1 (before (span_of p e.1) cut)) (piece table p e.1 (behind (span_of p e.1) cut))
      (piece_alone e.1 (before (span_of p e.1) cut)) (piece_alone e.1 (behind (span_of p e.1) cut))
      (piece_free e.1 e.1 (before (span_of p e.1) cut) (behind (span_of p e.1) cut) (wide_hit e e.1 hit refl) (wide_hit e e.1 hit refl) (before_behind (span_of p e.1) cut good))
  left_apart_by e (Some row) hit new =
      apart_append periods (piece table p e.1 (before (span_of p e.1) cut)) _
      (piece_alone e.1 (before (span_of p e.1) cut))
      (apart_append periods (piece table p row (common (span_of p e.1) cut)) (piece table p e.1 (behind (span_of p e.1) cut))
      (piece_alone row (common (span_of p e.1) cut)) (piece_alone e.1 (behind (span_of p e.1) cut))
      (piece_free row e.1 (common (span_of p e.1) cut) (behind (span_of p e.1) cut) (wide_hit e row hit new.width) (wide_hit e e.1 hit refl) (common_behind (span_of p e.1) cut)))
      (each_none (piece table p e.1 (before (span_of p e.1) cut)) (piece table p row (common (span_of p e.1) cut)) (piece table p e.1 (behind (span_of p e.1) cut))
      (piece_free e.1 row (before (span_of p e.1) cut) (common (span_of p e.1) cut) (wide_hit e e.1 hit refl) (wide_hit e row hit new.width) (before_common (span_of p e.1) cut))
      (piece_free e.1 e.1 (before (span_of p e.1) cut) (behind (span_of p e.1) cut) (wide_hit e e.1 hit refl) (wide_hit e e.1 hit refl) (before_behind (span_of p e.1) cut good)))

  left_apart : (e : Key × Row) → IsHit e → NoOverlap periods (pieces table p cut sets e.1)
  left_apart e hit = left_apart_by e (changed sets e.1) hit (new_is e sets keeps)

  -- ---- the pieces of all rows

  own_period : (e : Key × Row) → IsHit e → periods e.0.table ≡ Some p
  own_period e hit = ap periods hit.own ∙ at

  -- what clashes with none of the rows clashes with no piece of them
  none_of_pieces : (d e : Key × Row) (ps : State) → IsHit e → clash periods d e ≡ false → Each (λ c. IsPart p c e) ps → list_any (clash periods d) ps ≡ false
  none_of_pieces d e [] hit none parts = refl
  none_of_pieces d e (c ∷ ps) hit none parts =
      or_none _ _ (clash_turned periods d c ∙ part_free periods p c e d (own_period e hit) parts.0 (clash_turned periods e d ∙ none)) (none_of_pieces d e ps hit none parts.1)

  none_of_all : (d : Key × Row) (es : State) → Each IsHit es → list_any (clash periods d) es ≡ false → list_any (clash periods d) (all_pieces table p cut sets es) ≡ false
  none_of_all d [] hits none = refl
  none_of_all d (e ∷ es) hits none =
      none_append (clash periods d) (pieces table p cut sets e.1) (all_pieces table p cut sets es)
      (none_of_pieces d e (pieces table p cut sets e.1) hits.0 (or_first (clash periods d e) _ none) (left_part e hits.0))
      (none_of_all d es hits.1 (or_second (clash periods d e) _ none))

  parts_free : (e : Key × Row) (ps m : State) → IsHit e → Each (λ d. IsPart p d e) ps → list_any (clash periods e) m ≡ false → Each (λ d. list_any (clash periods d) m ≡ false) ps
  parts_free e [] m hit parts none = tt
  parts_free e (d ∷ ps) m hit parts none = (part_free_all periods p d e m (own_period e hit) parts.0 none, parts_free e ps m hit parts.1 none)

  pub all_apart : (es : State) → Each IsHit es → NoOverlap periods es → NoOverlap periods (all_pieces table p cut sets es)
  all_apart [] hits apart = tt
  all_apart (e ∷ es) hits apart =
      apart_append periods (pieces table p cut sets e.1) (all_pieces table p cut sets es) (left_apart e hits.0) (all_apart es hits.1 apart.1)
      (parts_free e (pieces table p cut sets e.1) (all_pieces table p cut sets es) hits.0 (left_part e hits.0) (none_of_all e es hits.1 apart.0))

  pub all_parts_free : (es m : State) → Each IsHit es → Each (λ e. list_any (clash periods e) m ≡ false) es → Each (λ d. list_any (clash periods d) m ≡ false) (all_pieces table p cut sets es)
  all_parts_free [] m hits free = tt
  all_parts_free (e ∷ es) m hits free =
      each-append (λ d. list_any (clash periods d) m ≡ false) (pieces table p cut sets e.1) (all_pieces table p cut sets es)
      (parts_free e (pieces table p cut sets e.1) m hits.0 (left_part e hits.0) free.0)
      (all_parts_free es m hits.1 free.1)

  -- ---- the rows that are taken

  pub hits_in : (keys : Keys) (m : State) → keys.table ≡ table.number → AreKeyed tables periods m → Each IsHit (taken table p keys cut m)
  hits_in keys [] same keyed = tt
  hits_in keys (e ∷ m) same keyed = by (is_taken table p keys cut e) refl (hits_in keys m same keyed.1)
    where
      by : (b : Bool) → is_taken table p keys cut e ≡ b → Each IsHit (taken table p keys cut m) → Each IsHit (cond b (e ∷ taken table p keys cut m) (taken table p keys cut m))
      by true is rest =
          let own : e.0.table ≡ table.number = one_table e.0.table keys.table table.number same (and_first (e.0.table == keys.table) _ (and_first (matches table keys e.0) _ is)) in
          (record { own = own; is_keyed = keyed.0 table p (ap tables own ∙ is_table) (ap periods own ∙ at); over = and_second (matches table keys e.0) _ is }, rest)
      by false is rest = rest

  -- as their table shows them
  hits_full : (es : State) → Each IsHit es → Each IsHit (full_rows table es)
  hits_full [] hits = tt
  hits_full (e ∷ es) hits = (
    record {
      own = hits.0.own;
      is_keyed = full_keyed_in table table p e hits.0.is_keyed;
      over = ap (λ s. overlap s cut) (span_full table p e.1) ∙ hits.0.over;
    },
    hits_full es hits.1,
  )

  free_full : (es m : State) → Each (λ e. list_any (clash periods e) m ≡ false) es → Each (λ e. list_any (clash periods e) m ≡ false) (full_rows table es)
  free_full [] m free = tt
  free_full (e ∷ es) m free = (any_alike periods (full table e) e m (full_alike table periods e) ∙ free.0, free_full es m free.1)

  pub hits_left : (keys : Keys) (m : State) → keys.table ≡ table.number → AreKeyed tables periods m → Each IsHit (full_rows table (taken table p keys cut m))
  hits_left keys m same keyed = hits_full (taken table p keys cut m) (hits_in keys m same keyed)

  -- a portion of rows that do not clash leaves such
  pub portion_apart : (keys : Keys) (m : State) → keys.table ≡ table.number → AreKeyed tables periods m → NoOverlap periods m → NoOverlap periods (change_portion table p keys cut sets m)
  portion_apart keys m same keyed apart =
      apart_all_inserted periods (not_taken table p keys cut m) (all_left table p keys cut sets m)
      (apart_kept periods (λ e. not (is_taken table p keys cut e)) m apart)
      (all_apart (full_rows table (taken table p keys cut m)) hits (full_apart table periods (taken table p keys cut m) (apart_kept periods (is_taken table p keys cut) m apart)))
      (all_parts_free (full_rows table (taken table p keys cut m)) (not_taken table p keys cut m) hits
      (free_full (taken table p keys cut m) (not_taken table p keys cut m) (split_apart periods (is_taken table p keys cut) m apart)))
    where
      hits : Each IsHit (full_rows table (taken table p keys cut m))
      hits = hits_left keys m same keyed

  -- ---- the rows have their keys

  keyed_piece : (e : Key × Row) (row : Row) (s : Span) → IsHit e → length row ≡ length e.1 → Each (IsKeyedIn tables periods) (piece table p row s)
  keyed_piece e row s hit width = by (is_span s) refl
    where
      wide : IsWide row
      wide = wide_hit e row hit width

      here : is_span s ≡ true → IsKeyed table p (keyed table (with_span p s row))
      here proper = record {
        key_is = refl;
        start_within = subst (λ n. p.from ≤ n) (sym (width_with_span p s row)) wide.start_within;
        end_within = subst (λ n. p.to ≤ n) (sym (width_with_span p s row)) wide.end_within;
        proper = ap is_span (span_with_span table p s row has wide.start_within wide.end_within) ∙ proper;
      }

      by : (b : Bool) → is_span s ≡ b → Each (IsKeyedIn tables periods) (if b then keyed table (with_span p s row) ∷ [] else [])
      by true proper = (
        λ t q found_t found_q.
            subst (λ q. IsKeyed t q (keyed table (with_span p s row))) (the_period p q (sym at ∙ found_q))
            (subst (λ t. IsKeyed t p (keyed table (with_span p s row))) (the_table table t (sym is_table ∙ found_t)) (here proper)),
        tt,
      )
      by false proper = tt

  keyed_piece_of : (e : Key × Row) (row : Option Row) (s : Span) → IsHit e → IsNewOf e row → Each (IsKeyedIn tables periods) (piece_of table p row s)
  keyed_piece_of e None s hit new = tt
  keyed_piece_of e (Some row) s hit new = keyed_piece e row s hit new.width

  pub keyed_pieces : (es : State) → Each IsHit es → Each (IsKeyedIn tables periods) (all_pieces table p cut sets es)
  keyed_pieces [] hits = tt
  keyed_pieces (e ∷ es) hits =
      each-append (IsKeyedIn tables periods) (pieces table p cut sets e.1) (all_pieces table p cut sets es)
      (each-append (IsKeyedIn tables periods) (piece table p e.1 (before (span_of p e.1) cut)) _
      (keyed_piece e e.1 (before (span_of p e.1) cut) hits.0 refl)
      (each-append (IsKeyedIn tables periods) (piece_of table p (changed sets e.1) (common (span_of p e.1) cut)) _
      (keyed_piece_of e (changed sets e.1) (common (span_of p e.1) cut) hits.0 (new_is e sets keeps))
      (keyed_piece e e.1 (behind (span_of p e.1) cut) hits.0 refl)))
      (keyed_pieces es hits.1)

  pub portion_keyed : (keys : Keys) (m : State) → keys.table ≡ table.number → AreKeyed tables periods m → AreKeyed tables periods (change_portion table p keys cut sets m)
  portion_keyed keys m same keyed =
      all_inserted (IsKeyedIn tables periods) (not_taken table p keys cut m) (all_left table p keys cut sets m)
      (each_kept (IsKeyedIn tables periods) (λ e. not (is_taken table p keys cut e)) m keyed)
      (keyed_pieces (full_rows table (taken table p keys cut m)) (hits_left keys m same keyed))
