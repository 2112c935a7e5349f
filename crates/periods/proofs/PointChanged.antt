-- What a portion makes of each point of application time.
use Rattle.std.proofs.Common.{◌≡◌, ◌≢◌, ℕ, ◌≤◌, ◌-◌, zero, suc, Bool, true, false, cond, ◌&&◌, List, [], ◌∷◌, ◌++◌, Option, Some, None, refl, sym, ap, subst, ◌∙◌, arith, not, map, length, ℤ, set, int_lt, int_le}
use Rattle.std.proofs.lemmas.List.{map-append}
use Rattle.std.specs.Prelude.{find, if◌then◌else◌}
use Rattle.std.specs.Option.{option_map}
use Rattle.std.proofs.lemmas.Int.{ints, clamps}
use Rattle.std.proofs.lemmas.Bool.{false≢true}
use Rattle.std.specs.Int.{int_min, int_max}
use Rattle.std.specs.List.{list_any}
use Rattle.std.specs.Ordering.{match_ordering, is_eq}
use Rattle.std.specs.declared.cmp.Ordering.{Ordering}
use Rattle.std.specs.declared.cmp.Ordering.TheVariants.{Less, Equal, Greater}
use Rattle.std.specs.BTreeMap.{insert_entry}
use Rattle.values.specs.declared.period.Period.{Period}
use Rattle.values.specs.declared.period.Span.{Span}
use Rattle.values.specs.declared.key.Key.{Key}
use Rattle.values.specs.declared.table.Table.{Table}
use Rattle.values.specs.declared.query.Keys.{Keys}
use Rattle.values.specs.declared.query.Set.{Set}
use Rattle.values.specs.declared.value.Value.{Value}
use Rattle.values.specs.declared.value.Value.TheVariants.{Int, Null}
use Rattle.values.specs.Order.{key_cmp, is_key}
use Rattle.values.specs.Log.{State, Row}
use Rattle.values.specs.Tables.{value_at, full_row, but_last}
use Rattle.values.specs.TableRules.{HasPeriod}
use Rattle.values.specs.Each.{Each}
use Rattle.values.specs.Writes.{key_of, set_all, insert_all, full_rows, keyed}
use Rattle.values.specs.Period.{Periods, int_of, span_of, is_span, common, before, behind, with_span}
use Rattle.values.specs.Times.{is_time_of}
use Rattle.values.specs.Entity.{entity_of}
use Rattle.values.specs.Clash.{clash}
use Rattle.values.specs.Portion.{changed, is_taken, taken, not_taken}
use Rattle.periods.specs.NoOverlap.{NoOverlap, Tables, SetsKeep, IsKeyed, IsKeyedIn, AreKeyed}
use Rattle.periods.specs.Point.{outside, is_row_then, row_then, point, point_after, PortionChangesPoints}
use Rattle.periods.proofs.NoOverlapKeyed.{piece, piece_of, pieces, all_pieces, all_left, change_portion}
use Rattle.periods.proofs.NoOverlapApart.{one_key, clash_turned, or_first, or_second, or_none, none_inserted, apart_kept, none_kept}
use Rattle.periods.proofs.NoOverlapFull.{full, full_is, full_wide, full_apart, full_keyed, span_full, taken_full, all_taken_full, all_kept_full, all_inserted_full, found_full}
use Rattle.periods.proofs.NoOverlapColumns.{span_with_span, entity_with_span, width_with_span, width_set_all}
use Rattle.periods.proofs.NoOverlapPieces as pieces
use Rattle.periods.proofs.NoOverlapPortion.{same_portion}
use Rattle.periods.proofs.NoOverlapPieces.{and_first, and_second, clash_is, IsPart, each_kept, each_inserted}
use Rattle.periods.proofs.NoOverlapMerge.{itself}

-- ---- points of rows that are as wide as their table

abbrev plain_point : Period → State → Key → ℤ → Option Row
plain_point p m entity time = option_map (λ e. outside p e.1) (row_then p entity time m)

abbrev plain_after : Table → Period → Keys → Span → Option (List Set) → ℤ → Option (Key × Row) → Option Row
plain_after table p keys cut sets time None = None
plain_after table p keys cut sets time (Some e) =
    if is_taken table p keys cut e && is_time_of cut time then option_map (outside p) (changed sets e.1)
    else Some (outside p e.1)

-- ---- a row without its period

set_twice : (l : List Value) (i : ℕ) (a b : Value) → set (set l i a) i b ≡ set l i b
set_twice [] i a b = refl
set_twice (x ∷ l) zero a b = refl
set_twice (x ∷ l) (suc i) a b = ap (λ l. x ∷ l) (set_twice l i a b)

set_swap : (l : List Value) (i j : ℕ) (a b : Value) → i ≢ j → set (set l i a) j b ≡ set (set l j b) i a
set_swap [] i j a b d = refl
set_swap (x ∷ l) zero zero a b d = absurd (d refl)
set_swap (x ∷ l) zero (suc j) a b d = refl
set_swap (x ∷ l) (suc i) zero a b d = refl
set_swap (x ∷ l) (suc i) (suc j) a b d = ap (λ l. x ∷ l) (set_swap l i j a b (λ e. d (ap suc e)))

set_over : (l : List Value) (i j : ℕ) (a b c d : Value) → i ≢ j → set (set (set (set l i a) j b) i c) j d ≡ set (set l i c) j d
set_over l i j a b c d other =
    ap (λ l. set (set l i c) j d) (set_swap l i j a b other)
    ∙ ap (λ l. set l j d) (set_twice (set l j b) i a c)
    ∙ ap (λ l. set l j d) (sym (set_swap l i j c b other))
    ∙ set_twice (set l i c) j b d

places_differ : (i j : ℕ) → 1 ≤ i → 1 ≤ j → i ≢ j → i - 1 ≢ j - 1
places_differ i j a b d = omega arith

outside_with_span : (table : Table) (p : Period) (s : Span) (row : Row) → HasPeriod table p → outside p (with_span p s row) ≡ outside p row
outside_with_span table p s row has =
    set_over row (p.from - 1) (p.to - 1) (Int s.from) (Int s.to) Null Null (places_differ p.from p.to has.start.from_1 has.end.from_1 has.differ)

-- ---- finding

or_else : Option (Key × Row) → Option (Key × Row) → Option (Key × Row)
or_else (Some x) o = Some x
or_else None o = o

find_append : (h : (Key × Row) → Bool) (xs ys : State) → find h (xs ++ ys) ≡ or_else (find h xs) (find h ys)
unfolding or_else
find_append h [] ys = refl
find_append h (x ∷ xs) ys = by (h x) (find_append h xs ys)
  where
    by : (b : Bool) → find h (xs ++ ys) ≡ or_else (find h xs) (find h ys) → cond b (Some x) (find h (xs ++ ys)) ≡ or_else (cond b (Some x) (find h xs)) (find h ys)
    by true rest = refl
    by false rest = rest

or_joined : (a b c : Option (Key × Row)) → or_else (or_else a b) c ≡ or_else a (or_else b c)
unfolding or_else
or_joined (Some x) b c = refl
or_joined None b c = refl

or_nothing : (a : Option (Key × Row)) → or_else a None ≡ a
unfolding or_else
or_nothing (Some x) = refl
or_nothing None = refl

find_none : (h : (Key × Row) → Bool) (xs : State) → list_any h xs ≡ false → find h xs ≡ None
find_none h [] none = refl
find_none h (x ∷ xs) none = ap (λ b. cond b (Some x) (find h xs)) (or_first (h x) _ none) ∙ find_none h xs (or_second (h x) _ none)

-- the same values in the last column
last_same : (f g : ℕ → Value) (bs : List ℕ) (c : ℕ) → map f (bs ++ c ∷ []) ≡ map g (bs ++ c ∷ []) → f c ≡ g c
last_same f g [] c e = cc
last_same f g (b ∷ bs) c e = last_same f g bs c (cons e)
  where
    cons : map f (b ∷ (bs ++ c ∷ [])) ≡ map g (b ∷ (bs ++ c ∷ [])) → map f (bs ++ c ∷ []) ≡ map g (bs ++ c ∷ [])
    cons e = cc

same_start : (a b c d : ℤ) → a ≡ c → int_lt a b ≡ true → int_lt c d ≡ true → (int_lt a d && int_lt c b) ≡ true
same_start a b c d e h k = by (subst (λ c. int_lt c d ≡ true) (sym e) k) (subst (λ c. int_lt c b ≡ true) e h)
  where
    by : int_lt a d ≡ true → int_lt c b ≡ true → (int_lt a d && int_lt c b) ≡ true
    by x y = λ i. x i && y i

holds_both : (a b c d t : ℤ) → (int_le a t && int_lt t b) ≡ true → (int_le c t && int_lt t d) ≡ true → (int_lt a d && int_lt c b) ≡ true
holds_both a b c d t h k = grind (arith, ints)

wider : (a b c d t : ℤ) → (int_le c a && int_le b d) ≡ true → (int_le a t && int_lt t b) ≡ true → (int_le c t && int_lt t d) ≡ true
wider a b c d t h k = grind (arith, ints)

empty_none : (a b t : ℤ) → int_lt a b ≡ false → (int_le a t && int_lt t b) ≡ false
empty_none a b t h = grind (arith, ints)

common_time : (a b c d t : ℤ) → (int_le a t && int_lt t b) ≡ true → (int_le (int_max a c) t && int_lt t (int_min b d)) ≡ (int_le c t && int_lt t d)
common_time a b c d t h = by (int_le c t && int_lt t d) refl
  where
    by : (x : Bool) → (int_le c t && int_lt t d) ≡ x → (int_le (int_max a c) t && int_lt t (int_min b d)) ≡ x
    by true e = grind (arith, ints, clamps)
    by false e = grind (arith, ints, clamps)

not_before : (a c d t : ℤ) → (int_le c t && int_lt t d) ≡ true → (int_le a t && int_lt t c) ≡ false
not_before a c d t h = grind (arith, ints)

not_behind : (b c d t : ℤ) → (int_le c t && int_lt t d) ≡ true → (int_le d t && int_lt t b) ≡ false
not_behind b c d t h = grind (arith, ints)

then_behind : (a b c d t : ℤ) → (int_le a t && int_lt t b) ≡ true → (int_le c t && int_lt t d) ≡ false → (int_le a t && int_lt t c) ≡ false → (int_le d t && int_lt t b) ≡ true
then_behind a b c d t h k l = grind (arith, ints)

-- ---- the rows of an entity at a time

module _ (tables : Tables) (periods : Periods) (table : Table) (p : Period) (is_table : tables table.number ≡ Some table) (at : periods table.number ≡ Some p) (has : HasPeriod table p) (entity : Key) (time : ℤ) (own : entity.table ≡ table.number) where
  h : (Key × Row) → Bool
  h = is_row_then p entity time

  entity_is : (e : Key × Row) → h e ≡ true → entity ≡ entity_of e.0
  unfolding h
  entity_is e here = one_key entity (entity_of e.0) (and_first (is_key entity (entity_of e.0)) _ here)

  period_is : (e : Key × Row) → h e ≡ true → periods e.0.table ≡ Some p
  unfolding h
  period_is e here = ap periods (sym (ap (λ (k : Key). k.table) (entity_is e here)) ∙ own) ∙ at

  -- two rows of the entity at the time clash
  both_clash : (d e : Key × Row) → h d ≡ true → h e ≡ true → clash periods d e ≡ true
  unfolding h
  both_clash d e here there =
      clash_is periods p d e (period_is d here)
      ∙ (λ i. (ap (is_key (entity_of d.0)) (sym (entity_is e there) ∙ entity_is d here) ∙ itself (entity_of d.0)) i
      && holds_both (span_of p d.1).from (span_of p d.1).to (span_of p e.1).from (span_of p e.1).to time (and_second (is_key entity (entity_of d.0)) _ here) (and_second (is_key entity (entity_of e.0)) _ there) i)

  alone : (d e : Key × Row) → h d ≡ true → clash periods d e ≡ false → h e ≡ false
  alone d e here none = by (h e) refl
    where
      by : (b : Bool) → h e ≡ b → b ≡ false
      by true there = absurd (false≢true (sym none ∙ both_clash d e here there))
      by false there = refl

  alone_all : (d : Key × Row) (m : State) → h d ≡ true → list_any (clash periods d) m ≡ false → list_any h m ≡ false
  alone_all d [] here none = refl
  alone_all d (e ∷ m) here none = or_none _ _ (alone d e here (or_first (clash periods d e) _ none)) (alone_all d m here (or_second (clash periods d e) _ none))

  -- ---- a row that clashes with none is none of the keys

  starts : (d e : Key × Row) → IsKeyed table p d → IsKeyed table p e → d.0 ≡ e.0 → (span_of p d.1).from ≡ (span_of p e.1).from
  starts d e is_d is_e same = ap int_of (last_same (value_at d.1) (value_at e.1) (but_last table.key) p.from (subst (λ (ks : List ℕ). map (value_at d.1) ks ≡ map (value_at e.1) ks) has.start_last (ap (λ (k : Key). k.parts) (sym is_d.key_is ∙ same ∙ is_e.key_is))))

  keys_clash : (d e : Key × Row) → d.0.table ≡ table.number → IsKeyed table p d → IsKeyed table p e → d.0 ≡ e.0 → clash periods d e ≡ true
  keys_clash d e mine is_d is_e same =
      clash_is periods p d e (ap periods mine ∙ at)
      ∙ (λ i. (ap (λ (k : Key). is_key (entity_of d.0) (entity_of k)) (sym same) ∙ itself (entity_of d.0)) i
      && same_start (span_of p d.1).from (span_of p d.1).to (span_of p e.1).from (span_of p e.1).to (starts d e is_d is_e same) is_d.proper is_e.proper i)

  -- ---- a row more

  found_inserted : (m : State) (d : Key × Row) → d.0.table ≡ table.number → IsKeyed table p d → AreKeyed tables periods m → list_any (clash periods d) m ≡ false
      → find h (insert_entry key_cmp m d.0 d.1) ≡ cond (h d) (Some d) (find h m)
  found_inserted [] d mine is_d keyed_m none = refl
  found_inserted (e ∷ m) d mine is_d keyed_m none = by (key_cmp d.0 e.0) refl (found_inserted m d mine is_d keyed_m.1 (or_second (clash periods d e) _ none))
    where
      last : (a b : Bool) (x : Option (Key × Row)) → h d ≡ a → h e ≡ b → cond b (Some e) (cond a (Some d) x) ≡ cond a (Some d) (cond b (Some e) x)
      last true true x here there = absurd (false≢true (sym (alone d e here (or_first (clash periods d e) _ none)) ∙ there))
      last true false x here there = refl
      last false b x here there = refl

      by : (o : Ordering) → key_cmp d.0 e.0 ≡ o → find h (insert_entry key_cmp m d.0 d.1) ≡ cond (h d) (Some d) (find h m)
          → find h (match_ordering o ((d.0, d.1) ∷ e ∷ m) ((e.0, d.1) ∷ m) (e ∷ insert_entry key_cmp m d.0 d.1)) ≡ cond (h d) (Some d) (cond (h e) (Some e) (find h m))
      by Less order rest = refl
      by Equal order rest =
          let same : d.0 ≡ e.0 = one_key d.0 e.0 (ap is_eq order) in
          absurd (false≢true (sym (or_first (clash periods d e) _ none) ∙ keys_clash d e mine is_d (keyed_m.0 table p (ap tables (sym (ap (λ (k : Key). k.table) same) ∙ mine) ∙ is_table) (ap periods (sym (ap (λ (k : Key). k.table) same) ∙ mine) ∙ at)) same))
      by Greater order rest = ap (cond (h e) (Some e)) rest ∙ last (h d) (h e) (find h m) refl refl

  IsOwn : (Key × Row) → Type 0
  IsOwn d = (d.0.table ≡ table.number) × IsKeyed table p d

  -- rows more, that clash with none nor with one another
  found_all : (m ps : State) → AreKeyed tables periods m → Each IsOwn ps → NoOverlap periods ps → Each (λ d. list_any (clash periods d) m ≡ false) ps
      → find h (insert_all m ps) ≡ or_else (find h ps) (find h m)
  unfolding or_else IsOwn h
  found_all m [] keyed_m mine apart free = refl
  found_all m (d ∷ ps) keyed_m mine apart free =
      found_all (insert_entry key_cmp m d.0 d.1) ps
      (each_inserted (IsKeyedIn tables periods) m d.0 d.1
      (λ t q found_t found_q. subst (λ q. IsKeyed t q d) (pieces.the_period p q (sym at ∙ ap periods (sym mine.0.0) ∙ found_q)) (subst (λ t. IsKeyed t p d) (pieces.the_table table t (sym is_table ∙ ap tables (sym mine.0.0) ∙ found_t)) mine.0.1)) keyed_m)
      mine.1 apart.1 (still ps apart.0 free.1)
      ∙ ap (or_else (find h ps)) (found_inserted m d mine.0.0 mine.0.1 keyed_m free.0)
      ∙ turned (h d) refl
    where
      still : (ps : State) → list_any (clash periods d) ps ≡ false → Each (λ c. list_any (clash periods c) m ≡ false) ps → Each (λ c. list_any (clash periods c) (insert_entry key_cmp m d.0 d.1) ≡ false) ps
      still [] none free = tt
      still (c ∷ ps) none free = (
        none_inserted (clash periods c) m d.0 d.1 (clash_turned periods c d ∙ or_first (clash periods d c) _ none) free.0,
        still ps (or_second (clash periods d c) _ none) free.1,
      )

      turned : (b : Bool) → h d ≡ b → or_else (find h ps) (cond b (Some d) (find h m)) ≡ or_else (cond b (Some d) (find h ps)) (find h m)
      turned true here = ap (λ o. or_else o (Some d)) (find_none h ps (alone_all d ps here apart.0))
      turned false here = refl

  module _ (cut : Span) (good : is_span cut ≡ true) (sets : Option (List Set)) (keeps : pieces.Keeps table p sets) where
    Hit : (Key × Row) → Type 0
    Hit e = pieces.IsHit tables periods table p is_table at has cut good sets keeps e

    out : (Key × Row) → Row
    out e = outside p e.1

    -- ---- what is left of a row

    found_piece : (e : Key × Row) (row : Row) (s : Span) → Hit e → key_of table row ≡ key_of table e.1 → length row ≡ length e.1
        → find h (piece table p row s) ≡ cond (is_key entity (entity_of e.0) && is_time_of s time) (Some (keyed table (with_span p s row))) None
    unfolding h Hit
    found_piece e row s hit same width = by (is_span s) refl
      where
        wide : pieces.IsWide tables periods table p is_table at has cut good sets keeps row
        wide = pieces.wide_hit tables periods table p is_table at has cut good sets keeps e row hit width

        here : h (keyed table (with_span p s row)) ≡ (is_key entity (entity_of e.0) && is_time_of s time)
        here = λ i. is_key entity ((entity_with_span table p s row has ∙ ap entity_of (same ∙ sym hit.is_keyed.key_is)) i) && is_time_of (span_with_span table p s row has wide.start_within wide.end_within i) time

        off : (b : Bool) → ◌≡◌ {A = Option (Key × Row)} (cond (b && false) (Some (keyed table (with_span p s row))) None) None
        off true = refl
        off false = refl

        by : (b : Bool) → is_span s ≡ b → find h (if b then keyed table (with_span p s row) ∷ [] else []) ≡ cond (is_key entity (entity_of e.0) && is_time_of s time) (Some (keyed table (with_span p s row))) None
        by true proper = ap (λ b. cond b (Some (keyed table (with_span p s row))) None) here
        by false proper = sym (ap (λ b. cond {A = Option (Key × Row)} (is_key entity (entity_of e.0) && b) (Some (keyed table (with_span p s row))) None) (empty_none s.from s.to time proper) ∙ off (is_key entity (entity_of e.0)))

    -- of the entity's row at the time
    found_at : (e : Key × Row) (row : Row) (s : Span) (b : Bool) → Hit e → key_of table row ≡ key_of table e.1 → length row ≡ length e.1 → is_key entity (entity_of e.0) ≡ true → is_time_of s time ≡ b
        → find h (piece table p row s) ≡ cond b (Some (keyed table (with_span p s row))) None
    found_at e row s b hit same width mine is = found_piece e row s hit same width ∙ (λ i. cond (mine i && is i) (Some (keyed table (with_span p s row))) None)

    New : (Key × Row) → Option Row → Type 0
    New e new = pieces.IsNewOf tables periods table p is_table at has cut good sets keeps e new

    left_of : (e : Key × Row) → Option Row → State
    left_of e new = piece table p e.1 (before (span_of p e.1) cut) ++ (piece_of table p new (common (span_of p e.1) cut) ++ piece table p e.1 (behind (span_of p e.1) cut))

    abbrev found_three : Option (Key × Row) → Option (Key × Row) → Option (Key × Row) → Option Row
    found_three a b c = option_map out (or_else a (or_else b c))

    found_left : (e : Key × Row) (new : Option Row) → Hit e → New e new → h e ≡ true
        → option_map out (find h (left_of e new)) ≡ (if is_time_of cut time then option_map (outside p) new else Some (outside p e.1))
    unfolding h Hit New left_of or_else out
    found_left e new hit is_new here =
        ap (option_map out) (find_append h A (piece_of table p new C ++ piece table p e.1 B))
        ∙ ap (λ o. option_map out (or_else (find h A) o)) (find_append h (piece_of table p new C) (piece table p e.1 B))
        ∙ by new is_new (is_time_of cut time) (is_time_of Z time) refl refl
      where
        Z : Span
        Z = before (span_of p e.1) cut

        A : State
        A = piece table p e.1 (before (span_of p e.1) cut)

        C : Span
        C = common (span_of p e.1) cut

        B : Span
        B = behind (span_of p e.1) cut

        mine : is_key entity (entity_of e.0) ≡ true
        mine = and_first (is_key entity (entity_of e.0)) _ here

        holding : is_time_of (span_of p e.1) time ≡ true
        holding = and_second (is_key entity (entity_of e.0)) _ here

        in_common : (b : Bool) → is_time_of cut time ≡ b → is_time_of (common (span_of p e.1) cut) time ≡ b
        in_common b is = common_time (span_of p e.1).from (span_of p e.1).to cut.from cut.to time holding ∙ is

        by : (new : Option Row) → New e new → (b z : Bool) → is_time_of cut time ≡ b → is_time_of (before (span_of p e.1) cut) time ≡ z
            → found_three (find h (piece table p e.1 (before (span_of p e.1) cut))) (find h (piece_of table p new (common (span_of p e.1) cut))) (find h (piece table p e.1 (behind (span_of p e.1) cut)))
            ≡ (if b then option_map (outside p) new else Some (outside p e.1))
        by None is_new true z is is_z =
            λ i. found_three (found_at e e.1 (before (span_of p e.1) cut) false hit refl refl mine (not_before (span_of p e.1).from cut.from cut.to time is) i) None
            (found_at e e.1 (behind (span_of p e.1) cut) false hit refl refl mine (not_behind (span_of p e.1).to cut.from cut.to time is) i)
        by (Some row) is_new true z is is_z =
            (λ i. found_three (found_at e e.1 (before (span_of p e.1) cut) false hit refl refl mine (not_before (span_of p e.1).from cut.from cut.to time is) i)
            (found_at e row (common (span_of p e.1) cut) true hit is_new.same is_new.width mine (in_common true is) i)
            (find h (piece table p e.1 (behind (span_of p e.1) cut))))
            ∙ ap Some (outside_with_span table p (common (span_of p e.1) cut) row has)
        by None is_new false true is is_z =
            (λ i. found_three (found_at e e.1 (before (span_of p e.1) cut) true hit refl refl mine is_z i) None (find h (piece table p e.1 (behind (span_of p e.1) cut))))
            ∙ ap Some (outside_with_span table p (before (span_of p e.1) cut) e.1 has)
        by (Some row) is_new false true is is_z =
            (λ i. found_three (found_at e e.1 (before (span_of p e.1) cut) true hit refl refl mine is_z i) (find h (piece table p row (common (span_of p e.1) cut))) (find h (piece table p e.1 (behind (span_of p e.1) cut))))
            ∙ ap Some (outside_with_span table p (before (span_of p e.1) cut) e.1 has)
        by None is_new false false is is_z =
            (λ i. found_three (found_at e e.1 (before (span_of p e.1) cut) false hit refl refl mine is_z i) None
            (found_at e e.1 (behind (span_of p e.1) cut) true hit refl refl mine (then_behind (span_of p e.1).from (span_of p e.1).to cut.from cut.to time holding is is_z) i))
            ∙ ap Some (outside_with_span table p (behind (span_of p e.1) cut) e.1 has)
        by (Some row) is_new false false is is_z =
            (λ i. found_three (found_at e e.1 (before (span_of p e.1) cut) false hit refl refl mine is_z i)
            (found_at e row (common (span_of p e.1) cut) false hit is_new.same is_new.width mine (in_common false is) i)
            (found_at e e.1 (behind (span_of p e.1) cut) true hit refl refl mine (then_behind (span_of p e.1).from (span_of p e.1).to cut.from cut.to time holding is is_z) i))
            ∙ ap Some (outside_with_span table p (behind (span_of p e.1) cut) e.1 has)

    -- ---- of a row that is not the entity's at the time, no part is

    part_none : (d e : Key × Row) → IsPart p d e → h e ≡ false → h d ≡ false
    unfolding h
    part_none d e part none = by (h d) refl
      where
        by : (b : Bool) → h d ≡ b → b ≡ false
        by true there = absurd (false≢true (sym none ∙ (λ i. (ap (is_key entity) (sym part.entity) ∙ and_first (is_key entity (entity_of d.0)) _ there) i
            && wider (span_of p d.1).from (span_of p d.1).to (span_of p e.1).from (span_of p e.1).to time part.inside (and_second (is_key entity (entity_of d.0)) _ there) i)))
        by false there = refl

    parts_none : (e : Key × Row) (ps : State) → Each (λ d. IsPart p d e) ps → h e ≡ false → find h ps ≡ None
    parts_none e [] parts none = refl
    parts_none e (d ∷ ps) parts none = ap (λ b. cond b (Some d) (find h ps)) (part_none d e parts.0 none) ∙ parts_none e ps parts.1 none

    left_parts : (e : Key × Row) → Hit e → Each (λ d. IsPart p d e) (pieces table p cut sets e.1)
    unfolding Hit
    left_parts e hit = pieces.left_part tables periods table p is_table at has cut good sets keeps e hit

    all_none : (es : State) → Each Hit es → list_any h es ≡ false → find h (all_pieces table p cut sets es) ≡ None
    unfolding or_else
    all_none [] hits none = refl
    all_none (e ∷ es) hits none =
        find_append h (pieces table p cut sets e.1) (all_pieces table p cut sets es)
        ∙ (λ i. or_else (parts_none e (pieces table p cut sets e.1) (left_parts e hits.0) (or_first (h e) _ none) i) (all_none es hits.1 (or_second (h e) _ none) i))

    -- ---- all rows

    module _ (keys : Keys) (same : keys.table ≡ table.number) where
      hits_of : (m : State) → AreKeyed tables periods m → Each Hit (taken table p keys cut m)
      unfolding Hit
      hits_of m keyed_m = pieces.hits_in tables periods table p is_table at has cut good sets keeps keys m same keyed_m

      found_after : State → Option (Key × Row)
      found_after m = or_else (find h (all_pieces table p cut sets (taken table p keys cut m))) (find h (not_taken table p keys cut m))

      none_after : (m : State) → AreKeyed tables periods m → list_any h m ≡ false → found_after m ≡ None
      unfolding found_after or_else
      none_after m keyed_m none =
          λ i. or_else (all_none (taken table p keys cut m) (hits_of m keyed_m) (none_kept h (is_taken table p keys cut) m none) i)
          (find_none h (not_taken table p keys cut m) (none_kept h (λ e. not (is_taken table p keys cut e)) m none) i)

      points_after : (m : State) → AreKeyed tables periods m → NoOverlap periods m → option_map out (found_after m) ≡ plain_after table p keys cut sets time (find h m)
      unfolding found_after or_else out New left_of
      points_after [] keyed_m apart = refl
      points_after (x ∷ m) keyed_m apart =
          by (is_taken table p keys cut x) (h x) refl refl (hits_of (x ∷ m) keyed_m) (points_after m keyed_m.1 apart.1) (none_after m keyed_m.1)
        where
          rest_all : State
          rest_all = all_pieces table p cut sets (taken table p keys cut m)

          rest_kept : State
          rest_kept = not_taken table p keys cut m

          by : (a b : Bool) → is_taken table p keys cut x ≡ a → h x ≡ b
              → Each Hit (cond a (x ∷ taken table p keys cut m) (taken table p keys cut m))
              → option_map out (or_else (find h (all_pieces table p cut sets (taken table p keys cut m))) (find h (not_taken table p keys cut m))) ≡ plain_after table p keys cut sets time (find h m)
              → (list_any h m ≡ false → or_else (find h (all_pieces table p cut sets (taken table p keys cut m))) (find h (not_taken table p keys cut m)) ≡ None)
              → option_map out (or_else (find h (all_pieces table p cut sets (cond a (x ∷ taken table p keys cut m) (taken table p keys cut m)))) (find h (cond (not a) (x ∷ not_taken table p keys cut m) (not_taken table p keys cut m))))
              ≡ plain_after table p keys cut sets time (cond b (Some x) (find h m))
          by true true is here hits rest none =
              ap (λ o. option_map out (or_else o (find h rest_kept))) (find_append h (pieces table p cut sets x.1) rest_all)
              ∙ ap (option_map out) (or_joined (find h (pieces table p cut sets x.1)) (find h rest_all) (find h rest_kept)
              ∙ ap (or_else (find h (pieces table p cut sets x.1))) (none (alone_all x m here apart.0))
              ∙ or_nothing (find h (pieces table p cut sets x.1)))
              ∙ found_left x (changed sets x.1) hits.0 (pieces.new_is tables periods table p is_table at has cut good sets keeps x sets keeps) here
              ∙ ap (λ b. if b && is_time_of cut time then option_map (outside p) (changed sets x.1) else Some (outside p x.1)) (sym is)
          by true false is here hits rest none =
              ap (λ o. option_map out (or_else o (find h rest_kept))) (find_append h (pieces table p cut sets x.1) rest_all)
              ∙ ap (λ o. option_map out (or_else (or_else o (find h rest_all)) (find h rest_kept))) (parts_none x (pieces table p cut sets x.1) (left_parts x hits.0) here)
              ∙ rest
          by false true is here hits rest none =
              (λ i. option_map out (or_else (all_none (taken table p keys cut m) hits (none_kept h (is_taken table p keys cut) m (alone_all x m here apart.0)) i) (cond (here i) (Some x) (find h rest_kept))))
              ∙ ap (λ b. if b && is_time_of cut time then option_map (outside p) (changed sets x.1) else Some (outside p x.1)) (sym is)
          by false false is here hits rest none =
              ap (λ b. option_map out (or_else (find h rest_all) (cond b (Some x) (find h rest_kept)))) here ∙ rest

pieces_own : (tables : Tables) (periods : Periods) (table : Table) (p : Period) (is_table : tables table.number ≡ Some table) (at : periods table.number ≡ Some p) (ps : State)
    → Each (λ d. d.0.table ≡ table.number) ps → Each (IsKeyedIn tables periods) ps → Each (λ d. (d.0.table ≡ table.number) × IsKeyed table p d) ps
pieces_own tables periods table p is_table at [] mine keyed_ps = tt
pieces_own tables periods table p is_table at (d ∷ ps) mine keyed_ps = (
  (mine.0, keyed_ps.0 table p (ap tables mine.0 ∙ is_table) (ap periods mine.0 ∙ at)),
  pieces_own tables periods table p is_table at ps mine.1 keyed_ps.1,
)

piece_mine : (table : Table) (p : Period) (row : Row) (s : Span) → Each (λ (d : Key × Row). d.0.table ≡ table.number) (piece table p row s)
piece_mine table p row s = by (is_span s)
  where
    by : (b : Bool) → Each (λ (d : Key × Row). d.0.table ≡ table.number) (if b then keyed table (with_span p s row) ∷ [] else [])
    by true = (refl, tt)
    by false = tt

new_mine : (table : Table) (p : Period) (row : Option Row) (s : Span) → Each (λ (d : Key × Row). d.0.table ≡ table.number) (piece_of table p row s)
new_mine table p None s = tt
new_mine table p (Some row) s = piece_mine table p row s

all_mine : (table : Table) (p : Period) (cut : Span) (sets : Option (List Set)) (es : State) → Each (λ d. d.0.table ≡ table.number) (all_pieces table p cut sets es)
all_mine table p cut sets [] = tt
all_mine table p cut sets (e ∷ es) =
    pieces.each-append (λ d. d.0.table ≡ table.number) (pieces table p cut sets e.1) (all_pieces table p cut sets es)
    (pieces.each-append (λ d. d.0.table ≡ table.number) (piece table p e.1 (before (span_of p e.1) cut)) (piece_of table p (changed sets e.1) (common (span_of p e.1) cut) ++ piece table p e.1 (behind (span_of p e.1) cut))
    (piece_mine table p e.1 (before (span_of p e.1) cut))
    (pieces.each-append (λ d. d.0.table ≡ table.number) (piece_of table p (changed sets e.1) (common (span_of p e.1) cut)) (piece table p e.1 (behind (span_of p e.1) cut))
    (new_mine table p (changed sets e.1) (common (span_of p e.1) cut))
    (piece_mine table p e.1 (behind (span_of p e.1) cut))))
    (all_mine table p cut sets es)

plain_points : (tables : Tables) (periods : Periods) (table : Table) (p : Period)
    → tables table.number ≡ Some table → periods table.number ≡ Some p → HasPeriod table p
    → (keys : Keys) (cut : Span) (sets : Option (List Set)) (m : State)
    → keys.table ≡ table.number → is_span cut ≡ true → SetsKeep table p sets
    → AreKeyed tables periods m → NoOverlap periods m
    → (entity : Key) (time : ℤ) → entity.table ≡ table.number
    → plain_point p (insert_all (not_taken table p keys cut m) (all_pieces table p cut sets (taken table p keys cut m))) entity time
    ≡ plain_after table p keys cut sets time (row_then p entity time m)
unfolding h IsOwn or_else out Hit found_after
plain_points tables periods table p is_table at has keys cut sets m same good keep keyed_m apart entity time own =
    ap (option_map (λ e. outside p e.1))
    (found_all tables periods table p is_table at has entity time own kept new
    (each_kept (IsKeyedIn tables periods) (λ e. not (is_taken table p keys cut e)) m keyed_m)
    (pieces_own tables periods table p is_table at new (all_mine table p cut sets (taken table p keys cut m)) (pieces.keyed_pieces tables periods table p is_table at has cut good sets keeps (taken table p keys cut m) hits))
    (pieces.all_apart tables periods table p is_table at has cut good sets keeps (taken table p keys cut m) hits (apart_kept periods (is_taken table p keys cut) m apart))
    (pieces.all_parts_free tables periods table p is_table at has cut good sets keeps (taken table p keys cut m) kept hits (pieces.split_apart periods (is_taken table p keys cut) m apart)))
    ∙ points_after tables periods table p is_table at has entity time own cut good sets keeps keys same m keyed_m apart
  where
    keeps : pieces.Keeps table p sets
    keeps = kept_by sets keep
      where
        kept_by : (sets : Option (List Set)) → SetsKeep table p sets → pieces.Keeps table p sets
        kept_by None k = k
        kept_by (Some sets) k = k

    kept : State
    kept = not_taken table p keys cut m

    new : State
    new = all_pieces table p cut sets (taken table p keys cut m)

    hits : Each (pieces.IsHit tables periods table p is_table at has cut good sets keeps) (taken table p keys cut m)
    hits = pieces.hits_in tables periods table p is_table at has cut good sets keeps keys m same keyed_m

-- ---- and of all rows

-- what is left of rows as wide as their table is so too
full_piece : (table : Table) (p : Period) (row : Row) (s : Span) → length table.columns ≤ length row → full_rows table (piece table p row s) ≡ piece table p row s
full_piece table p row s wide = by (is_span s)
  where
    by : (b : Bool) → full_rows table (if b then keyed table (with_span p s row) ∷ [] else []) ≡ (if b then keyed table (with_span p s row) ∷ [] else [])
    by true = ap (λ r. (key_of table (with_span p s row), r) ∷ []) (full_is table (with_span p s row) (subst (λ n. length table.columns ≤ n) (sym (width_with_span p s row)) wide))
    by false = refl

full_piece_of : (table : Table) (p : Period) (sets : Option (List Set)) (row : Row) (s : Span) → length table.columns ≤ length row → full_rows table (piece_of table p (changed sets row) s) ≡ piece_of table p (changed sets row) s
full_piece_of table p None row s wide = refl
full_piece_of table p (Some sets) row s wide = full_piece table p (set_all sets row) s (subst (λ n. length table.columns ≤ n) (sym (width_set_all sets row)) wide)

joined_full : (table : Table) (xs ys : State) → full_rows table xs ≡ xs → full_rows table ys ≡ ys → full_rows table (xs ++ ys) ≡ xs ++ ys
joined_full table xs ys one two = map-append (full table) xs ys ∙ (λ i. one i ++ two i)

full_pieces : (table : Table) (p : Period) (cut : Span) (sets : Option (List Set)) (row : Row) → length table.columns ≤ length row → full_rows table (pieces table p cut sets row) ≡ pieces table p cut sets row
full_pieces table p cut sets row wide =
    joined_full table (piece table p row (before (span_of p row) cut)) _ (full_piece table p row (before (span_of p row) cut) wide)
    (joined_full table (piece_of table p (changed sets row) (common (span_of p row) cut)) _ (full_piece_of table p sets row (common (span_of p row) cut) wide)
    (full_piece table p row (behind (span_of p row) cut) wide))

full_left : (table : Table) (p : Period) (cut : Span) (sets : Option (List Set)) (es : State) → full_rows table (all_pieces table p cut sets (full_rows table es)) ≡ all_pieces table p cut sets (full_rows table es)
full_left table p cut sets [] = refl
full_left table p cut sets (e ∷ es) =
    joined_full table (pieces table p cut sets (full_row table e.1)) _ (full_pieces table p cut sets (full_row table e.1) (full_wide table e.1)) (full_left table p cut sets es)

change_full : (table : Table) (p : Period) (keys : Keys) (cut : Span) (sets : Option (List Set)) (m : State)
    → full_rows table (change_portion table p keys cut sets m)
    ≡ insert_all (not_taken table p keys cut (full_rows table m)) (all_pieces table p cut sets (taken table p keys cut (full_rows table m)))
change_full table p keys cut sets m =
    all_inserted_full table (not_taken table p keys cut m) (all_left table p keys cut sets m)
    ∙ (λ i. insert_all (sym (all_kept_full table p keys cut m) i) (full_left table p cut sets (taken table p keys cut m) i))
    ∙ ap (λ l. insert_all (not_taken table p keys cut (full_rows table m)) (all_pieces table p cut sets l)) (sym (all_taken_full table p keys cut m))

then_full : (table : Table) (p : Period) (m : State) (entity : Key) (time : ℤ) → row_then p entity time (full_rows table m) ≡ option_map (full table) (row_then p entity time m)
then_full table p m entity time =
    found_full table (is_row_then p entity time) m (λ e. ap (λ s. is_key entity (entity_of e.0) && is_time_of s time) (span_full table p e.1))

point_full : (table : Table) (p : Period) (m : State) (entity : Key) (time : ℤ) → plain_point p (full_rows table m) entity time ≡ point table p m entity time
point_full table p m entity time = ap (option_map (λ e. outside p e.1)) (then_full table p m entity time) ∙ by (row_then p entity time m)
  where
    by : (o : Option (Key × Row)) → option_map (λ e. outside p e.1) (option_map (full table) o) ≡ option_map (λ e. outside p (full_row table e.1)) o
    by None = refl
    by (Some e) = refl

after_full : (table : Table) (p : Period) (keys : Keys) (cut : Span) (sets : Option (List Set)) (time : ℤ) (o : Option (Key × Row)) → plain_after table p keys cut sets time (option_map (full table) o) ≡ point_after table p keys cut sets time o
after_full table p keys cut sets time None = refl
after_full table p keys cut sets time (Some e) =
    ap (λ b. if b && is_time_of cut time then option_map (outside p) (changed sets (full_row table e.1)) else Some (outside p (full_row table e.1))) (taken_full table p keys cut e)

pub portion_changes_points : PortionChangesPoints
portion_changes_points tables periods table p is_table at has keys cut sets m same good keep keyed_m apart entity time own =
    ap (λ m. point table p m entity time) (same_portion tables periods table p is_table at has cut good sets (kept_by sets keep) keys m same keyed_m)
    ∙ sym (point_full table p (change_portion table p keys cut sets m) entity time)
    ∙ ap (λ l. plain_point p l entity time) (change_full table p keys cut sets m)
    ∙ plain_points tables periods table p is_table at has keys cut sets (full_rows table m) same good keep (full_keyed table tables periods m keyed_m) (full_apart table periods m apart) entity time own
    ∙ ap (plain_after table p keys cut sets time) (then_full table p m entity time)
    ∙ after_full table p keys cut sets time (row_then p entity time m)
  where
    kept_by : (sets : Option (List Set)) → SetsKeep table p sets → pieces.Keeps table p sets
    kept_by None k = k
    kept_by (Some sets) k = k
