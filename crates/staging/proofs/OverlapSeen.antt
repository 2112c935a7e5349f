-- A row's overlaps, as they are looked for.
use Rattle.std.proofs.Common.{◌≡◌, ℕ, ◌+◌, ◌<◌, ◌≤◌, Bool, true, false, cond, ◌&&◌, ◌||◌, List, [], ◌∷◌, ◌++◌, Option, Some, None, refl, sym, ap, subst, ◌∙◌, arith, map, filter, length, take, drop, get_or, if◌then◌else◌, suc, append_assoc}
use Rattle.std.specs.Global.{Vec}
use Rattle.std.specs.List.{AllByRecursion, list_any}
use Rattle.std.proofs.lemmas.List.{drop_all, get_or-map, map_push, take-map}
use Rattle.std.proofs.lemmas.List.Folds.{list_any-append}
use Rattle.std.proofs.Math.Seq.{drop-cons, take-suc}
use Rattle.values.specs.declared.period.Period.{Period}
use Rattle.values.specs.declared.period.Span.{Span}
use Rattle.values.specs.declared.key.Key.{Key}
use Rattle.values.specs.declared.table.Table.{Table}
use Rattle.values.specs.Order.{is_key}
use Rattle.values.specs.Log.{State, Row, Net, Changes}
use Rattle.values.specs.Tables.{Schema, table_at}
use Rattle.values.specs.TableRules.{IsTable, HasPeriod}
use Rattle.values.specs.Versions.{matches}
use Rattle.values.specs.Period.{span_of, overlap}
use Rattle.values.specs.Entity.{entity_of, clash_by}
use Rattle.values.specs.Writes.{key_of, keyed, overlap_from, overlapping}
use Rattle.values.specs.KeyReading.{IsKeyOf}
use Rattle.values.specs.Events.{IsKeyIn}
use Rattle.values.proofs.KeyLengths.{key_fits}
use Rattle.periods.specs.EntityKeys.{entity_keys}
use Rattle.periods.proofs.EntityKeysMet.{entity_keys_are_its_keys, met_where_own}
use Rattle.searchrange.proofs.EntityRanges.{entity_width}
use Rattle.tsbtree.specs.View.{TreeState}
use Rattle.staging.specs.Own.{Reads, rows_seen}
use Rattle.staging.specs.Staged.{keyed_rows, AreSpansOf}
use Rattle.staging.proofs.StagedEntries.{same_key}
use Rattle.staging.proofs.ViewBridge.{own_key}
use Rattle.staging.proofs.StagedAnswered.{all_seen}

-- ---- the rows of the entity that are seen

any_kept : (q p : Key × Row → Bool) (m : State) → list_any q (filter p m) ≡ list_any (λ e. p e && q e) m
any_kept q p [] = refl
any_kept q p (e ∷ m) = by (p e) (any_kept q p m)
  where
    by : (b : Bool) → list_any q (filter p m) ≡ list_any (λ e. p e && q e) m → list_any q (cond b (e ∷ filter p m) (filter p m)) ≡ ((b && q e) || list_any (λ e. p e && q e) m)
    by true rest = ap (λ b. q e || b) rest
    by false rest = rest

same_any : (q r : Key × Row → Bool) (m : State) → AllByRecursion (λ e. q e ≡ r e) m → list_any q m ≡ list_any r m
same_any q r [] same = refl
same_any q r (e ∷ m) same = λ i. same.0 i || same_any q r m same.1 i

module _ (schema : Schema) (table : Table) (p : Period) (is_table : IsTable table.number table) (at : table.period ≡ Some p) (key : Key) (own : IsKeyOf table key) (span : Span) where
  has : HasPeriod table p
  has = is_table.own_period p at

  met : (e : Key × Row) → table_at schema table.number ≡ Some table → IsKeyIn schema e.0 → matches table (entity_keys table (entity_of key)) e.0 ≡ is_key (entity_of key) (entity_of e.0)
  met e found is =
      met_where_own table (entity_of key) e.0 (λ same.
      entity_keys_are_its_keys table (entity_of key) e.0 has.distinct (entity_width table p key has own)
      (sym (key_fits table e.0.parts (own_key schema table e.0 found (same ∙ own.own) is).fits).same_width))

  all_met : (m : State) → table_at schema table.number ≡ Some table → AllByRecursion (λ e. IsKeyIn schema e.0) m
      → AllByRecursion (λ e. (matches table (entity_keys table (entity_of key)) e.0 && overlap span (span_of p e.1)) ≡ (is_key (entity_of key) (entity_of e.0) && overlap span (span_of p e.1))) m
  all_met [] found keys = tt
  all_met (e ∷ m) found keys = (
    ap (λ b. b && overlap span (span_of p e.1)) (met e found keys.0),
    all_met m found keys.1,
  )

  any_of : (m : State) → list_any (overlap span) (map (λ e. span_of p e.1) m) ≡ list_any (λ e. overlap span (span_of p e.1)) m
  any_of [] = refl
  any_of (e ∷ m) = ap (λ b. overlap span (span_of p e.1) || b) (any_of m)

  -- a span overlaps one of the rows that an entity's condition takes where it overlaps one of all rows of the entity
  pub overlap_seen : (view : TreeState) (m : Changes) (w : Net) (spans : List Span) → Reads schema table view w m
      → spans ≡ map (λ e. span_of p e.1) (filter (λ e. matches table (entity_keys table (entity_of key)) e.0) (rows_seen m w))
      → list_any (overlap span) spans ≡ list_any (λ e. is_key (entity_of key) (entity_of e.0) && overlap span (span_of p e.1)) (rows_seen m w)
  overlap_seen view m w spans reads are =
      ap (list_any (overlap span)) are
      ∙ any_of (filter (λ e. matches table (entity_keys table (entity_of key)) e.0) (rows_seen m w))
      ∙ any_kept (λ e. overlap span (span_of p e.1)) (λ e. matches table (entity_keys table (entity_of key)) e.0) (rows_seen m w)
      ∙ same_any (λ e. matches table (entity_keys table (entity_of key)) e.0 && overlap span (span_of p e.1)) (λ e. is_key (entity_of key) (entity_of e.0) && overlap span (span_of p e.1)) (rows_seen m w)
      (all_met (rows_seen m w) reads.is_table (all_seen schema table view m w reads))

-- ---- earlier rows

keyed_is : (table : Table) (rows : List Row) → keyed_rows (map (key_of table) rows) rows ≡ map (keyed table) rows
keyed_is table [] = refl
keyed_is table (row ∷ rows) = ap (λ l. keyed table row ∷ l) (keyed_is table rows)

earlier_is : (table : Table) (keys : List Key) (rows : List Row) (i : ℕ) → keys ≡ map (key_of table) rows → keyed_rows (take i keys) (take i rows) ≡ map (keyed table) (take i rows)
earlier_is table keys rows i are =
    ap (λ ks. keyed_rows ks (take i rows)) (ap (take i) are ∙ take-map (key_of table) i rows) ∙ keyed_is table (take i rows)

-- ---- one row after the other

-- what is left to be found from a row on
abbrev pub overlap_at : Table → Period → State → List Row → ℕ → Option Key
overlap_at table p m rows i =
    overlap_from (Some p) (m ++ map (keyed table) (take i rows)) (map (keyed table) (drop i rows))

next : (i : ℕ) → suc i ≡ i + 1
next i = omega arith

dropped : {A : Type 0} (xs : List A) (i : ℕ) (d : A) → i < length xs → drop i xs ≡ get_or xs i d ∷ drop (i + 1) xs
dropped xs i d lt = drop-cons xs i d lt ∙ ap (λ n. get_or xs i d ∷ drop n xs) (next i)

pub taken_more : {A : Type 0} (xs : List A) (i : ℕ) (x : A) → i < length xs → x ≡ get_or xs i x → take (i + 1) xs ≡ take i xs ++ x ∷ []
taken_more xs i x lt is = ap (λ n. take n xs) (sym (next i)) ∙ take-suc xs i x lt ∙ ap (λ y. take i xs ++ y ∷ []) (sym is)

module _ (table : Table) (p : Period) (m : State) (rows : List Row) (i : ℕ) (row : Row) (lt : i < length rows) (is : row ≡ get_or rows i row) where
  step_by : (b : Bool) → list_any (clash_by (Some p) (keyed table row)) (m ++ map (keyed table) (take i rows)) ≡ b
      → overlap_at table p m rows i ≡ (if b then Some (key_of table row) else overlap_at table p m rows (i + 1))
  step_by b any =
      ap (λ rest. overlap_from (Some p) (m ++ map (keyed table) (take i rows)) (map (keyed table) rest)) (dropped rows i row lt ∙ ap (λ x. x ∷ drop (i + 1) rows) (sym is))
      ∙ (λ j. if any j then Some (key_of table row) else overlap_from (Some p) (longer j) (map (keyed table) (drop (i + 1) rows)))
    where
      longer : (m ++ map (keyed table) (take i rows)) ++ keyed table row ∷ [] ≡ m ++ map (keyed table) (take (i + 1) rows)
      longer = append_assoc m (map (keyed table) (take i rows)) (keyed table row ∷ [])
          ∙ ap (λ l. m ++ l) (sym (ap (map (keyed table)) (taken_more rows i row lt is) ∙ map_push (keyed table) (take i rows) row))

  -- what the row's overlaps with those that are seen and with earlier ones say
  overlap_step : (seen earlier b : Bool) → seen ≡ list_any (clash_by (Some p) (keyed table row)) m → earlier ≡ list_any (clash_by (Some p) (keyed table row)) (map (keyed table) (take i rows)) → (seen || earlier) ≡ b
      → overlap_at table p m rows i ≡ (if b then Some (key_of table row) else overlap_at table p m rows (i + 1))
  overlap_step seen earlier b seen_is earlier_is either =
      step_by b (list_any-append (clash_by (Some p) (keyed table row)) m (map (keyed table) (take i rows)) ∙ (λ j. sym seen_is j || sym earlier_is j) ∙ either)

-- the same where the rows have their keys
module _ (table : Table) (p : Period) (m : State) (keys : List Key) (rows : List Row) (are : keys ≡ map (key_of table) rows) (i : ℕ) (key : Key) (row : Row) (lt : i < length rows) (key_is : key ≡ get_or keys i key) (row_is : row ≡ get_or rows i row) where
  its_key : key ≡ key_of table row
  its_key =
      key_is
      ∙ (λ j. get_or (are j) i key)
      ∙ get_or-map (key_of table) rows i row key lt
      ∙ ap (key_of table) (sym row_is)

  pub overlap_by : (seen earlier b : Bool) → seen ≡ list_any (clash_by (Some p) (key, row)) m
      → earlier ≡ list_any (clash_by (Some p) (key, row)) (keyed_rows (take i keys) (take i rows))
      → (seen || earlier) ≡ b
      → overlap_at table p m rows i ≡ (if b then Some key else overlap_at table p m rows (i + 1))
  overlap_by seen earlier b seen_by earlier_by either =
      overlap_step table p m rows i row lt row_is seen earlier b
      (seen_by ∙ (λ j. list_any (clash_by (Some p) (its_key j, row)) m))
      (earlier_by ∙ (λ j. list_any (clash_by (Some p) (its_key j, row)) (earlier_is table keys rows i are j)))
      either
      ∙ (λ j. if b then Some (sym its_key j) else overlap_at table p m rows (i + 1))

pub overlap_end : (table : Table) (p : Period) (m : State) (rows : List Row) (i : ℕ) → length rows ≤ i → overlap_at table p m rows i ≡ None
overlap_end table p m rows i le = ap (λ rest. overlap_from (Some p) (m ++ map (keyed table) (take i rows)) (map (keyed table) rest)) (drop_all i rows le)

-- in a table without a period no rows overlap
pub no_overlaps : (table : Table) (m : State) (rows : List Row) → table.period ≡ None → overlapping table rows m ≡ None
no_overlaps table m rows at = ap (λ (o : Option Period). overlap_from o m (map (keyed table) rows)) at ∙ all_apart m (map (keyed table) rows)
  where
    no_clash : (e : Key × Row) (m : State) → list_any (clash_by None e) m ≡ false
    no_clash e [] = refl
    no_clash e (d ∷ m) = no_clash e m

    all_apart : (m es : State) → overlap_from None m es ≡ None
    all_apart m [] = refl
    all_apart m (e ∷ es) = ap (λ (b : Bool). if b then Some e.0 else overlap_from None (m ++ e ∷ []) es) (no_clash e m) ∙ all_apart (m ++ e ∷ []) es

-- ---- earlier rows, one after the other

-- a row that does not clash leaves those behind it
pub one_clear : (test : Key × Row → Bool) (keys : List Key) (rows : List Row) (i : ℕ) (k : Key) (row : Row) → i < length keys → length keys ≡ length rows → test (get_or keys i k, get_or rows i row) ≡ false
    → list_any test (keyed_rows (drop (i + 1) keys) (drop (i + 1) rows)) ≡ list_any test (keyed_rows (drop i keys) (drop i rows))
one_clear test keys rows i k row lt same none =
    sym (
    (λ j. list_any test (keyed_rows (dropped keys i k lt j) (dropped rows i row (omega (arith, lt, same)) j)))
    ∙ ap (λ b. b || list_any test (keyed_rows (drop (i + 1) keys) (drop (i + 1) rows))) none
    )

and_false : (b c : Bool) → c ≡ false → (b && c) ≡ false
and_false true c is = is
and_false false c is = refl

pub other_entity : (p : Period) (d e : Key × Row) → is_key (entity_of d.0) (entity_of e.0) ≡ false → clash_by (Some p) d e ≡ false
other_entity p d e other = ap (λ b. b && overlap (span_of p d.1) (span_of p e.1)) other

pub other_time : (p : Period) (d e : Key × Row) → overlap (span_of p d.1) (span_of p e.1) ≡ false → clash_by (Some p) d e ≡ false
other_time p d e apart = and_false (is_key (entity_of d.0) (entity_of e.0)) (overlap (span_of p d.1) (span_of p e.1)) apart

pub either_first : (a b : Bool) → a ≡ true → (a || b) ≡ true
either_first a b is = ap (λ a. a || b) is

pub either_second : (a b : Bool) → a ≡ false → (a || b) ≡ b
either_second a b is = ap (λ a. a || b) is

-- ---- what was read

-- what the spans of the row's entity say of the row
pub seen_by : (p : Period) (m : State) (key : Key) (row : Row) (entity : Key) (spans all : List Span) (span : Span) (seen : Bool) → seen ≡ list_any (overlap span) all → all ≡ spans → span ≡ span_of p row → entity ≡ entity_of key
    → AreSpansOf p entity m spans → seen ≡ list_any (clash_by (Some p) (key, row)) m
seen_by p m key row entity spans all span seen is are span_is entity_is own =
    is
    ∙ ap (list_any (overlap span)) are
    ∙ own span
    ∙ (λ j. list_any (λ e. is_key (entity_is j) (entity_of e.0) && overlap (span_is j) (span_of p e.1)) m)

-- the spans of one more entity are kept
pub read_more : (p : Period) (m : State) (entity : Key) (spans : Vec Span) (before after : Key → Option (Vec Span)) → ((q : Key) → after q ≡ cond (is_key entity q) (Some spans) (before q)) → AreSpansOf p entity m spans.items
    → ((q : Key) (s : Vec Span) → before q ≡ Some s → AreSpansOf p q m s.items) → (q : Key) (s : Vec Span) → after q ≡ Some s → AreSpansOf p q m s.items
read_more p m entity spans before after put own others q s at = by (is_key entity q) refl
  where
    by : (b : Bool) → is_key entity q ≡ b → AreSpansOf p q m s.items
    by true is =
        let both : ◌≡◌ {A = Option (Vec Span)} (Some spans) (Some s) = sym (put q ∙ ap (λ b. cond b (Some spans) (before q)) is) ∙ at in
        let same : spans ≡ s = cc both in
        subst (λ k. AreSpansOf p k m s.items) (same_key entity q is) (subst (λ (v : Vec Span). AreSpansOf p entity m v.items) same own)
    by false is = others q s (sym (put q ∙ ap (λ b. cond b (Some spans) (before q)) is) ∙ at)
