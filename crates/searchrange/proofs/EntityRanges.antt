-- What the clauses of `search_range` say of an entity's search condition.
use Rattle.std.proofs.Common.{◌≡◌, ℕ, ◌+◌, ◌≤◌, ◌<◌, suc, Bool, true, false, cond, ◌&&◌, ◌||◌, List, [], ◌∷◌, ◌++◌, Option, Some, None, is_some, refl, sym, ap, subst, ◌∙◌, arith, not, length, nat_lt, append_assoc, length-append, All}
use Rattle.std.proofs.lemmas.List.Elements.{All-nil, All-cons, All-head, All-tail}
use Rattle.std.specs.Prelude.{◌==◌, position, if◌then◌else◌}
use Rattle.std.proofs.lemmas.Bool.Decides.{nat_tests}
use Rattle.std.specs.List.{list_any, list_all}
use Rattle.values.specs.declared.value.Value.{Value}
use Rattle.values.specs.declared.value.Value.TheVariants.{Int, Text, Bool as Truth, Null}
use Rattle.values.specs.declared.table.ColumnType.{ColumnType}
use Rattle.values.specs.declared.table.ColumnType.TheVariants.{Int as IsInt, Text as IsText, Varchar as IsVarchar, Boolean as IsBoolean}
use Rattle.values.specs.declared.table.Column.{Column}
use Rattle.values.specs.declared.table.Table.{Table}
use Rattle.values.specs.declared.query.Operator.TheVariants.{Equal as Equals}
use Rattle.values.specs.declared.query.Comparison.{Comparison}
use Rattle.values.specs.declared.query.Keys.{Keys}
use Rattle.values.specs.Tables.{column_at, is_key_column, but_last}
use Rattle.values.specs.TableRules.{IsDistinct, HasPeriod, IsTable}
use Rattle.values.specs.Fit.{fits_type, fits_value, fits_text, part_fault, parts_fault, key_fault, can_compare, comparison_fault, comparisons_fault, longest_key_text, first_of}
use Rattle.values.specs.Versions.{matches}
use Rattle.values.specs.KeyEncoding.{bytes_of_key}
use Rattle.keyrange.specs.Range.{is_key_in}
use Rattle.searchrange.specs.SearchRange.{search_range, narrows, narrowing_end, equal_at, is_at, is_place, is_before_place, is_equality}
use Rattle.values.specs.declared.period.Period.{Period}
use Rattle.values.specs.declared.key.Key.{Key}
use Rattle.values.specs.KeyReading.{IsKeyOf}
use Rattle.values.specs.KeyEncodingLaw.{IsStorable}
use Rattle.values.specs.Entity.{entity_of}
use Rattle.periods.specs.EntityKeys.{equalities, entity_keys}
use Rattle.periods.proofs.EntityKeysMet.{position_is, entity_keys_are_its_keys}
use Rattle.searchrange.specs.Entity.{IsRangeOf, IsEntityRange}
use Rattle.searchrange.proofs.NarrowingCovers.{covers, all_storable}
use Rattle.searchrange.proofs.NarrowingExact.{is_exact}

and_first : (a b : Bool) → (a && b) ≡ true → a ≡ true
and_first true b e = refl
and_first false b e = cc

-- ---- lengths

wide : (table : Table) (parts : List Value) → key_fault table parts ≡ None → length parts ≡ length table.key
wide table parts fits = by (length table.key == length parts) refl fits
  where
    same : (a b : ℕ) → (a == b) ≡ true → b ≡ a
    same a b e = grind (arith, nat_tests)

    by : (b : Bool) → (length table.key == length parts) ≡ b → (if b then parts_fault table table.key parts else Some 0) ≡ None → length parts ≡ length table.key
    by true is e = same (length table.key) (length parts) is
    by false is e = cc

fit : (table : Table) (parts : List Value) → key_fault table parts ≡ None → parts_fault table table.key parts ≡ None
fit table parts fits = by (length table.key == length parts) fits
  where
    by : (b : Bool) → (if b then parts_fault table table.key parts else Some 0) ≡ None → parts_fault table table.key parts ≡ None
    by true e = e
    by false e = cc

but_last_length : {A : Type 0} (xs : List A) → 1 ≤ length xs → length (but_last xs) + 1 ≡ length xs
but_last_length [] h = absurd (omega arith)
but_last_length (x ∷ []) h = refl
but_last_length (x ∷ y ∷ ys) h =
    let rest : length (but_last (y ∷ ys)) + 1 ≡ length (y ∷ ys) = but_last_length (y ∷ ys) (some (length ys)) in
    more (length (but_last (y ∷ ys))) (length (y ∷ ys)) rest
  where
    some : (n : ℕ) → 1 ≤ suc n
    some n = omega arith

    more : (a b : ℕ) → a + 1 ≡ b → suc a + 1 ≡ suc b
    more a b e = omega arith

-- ---- the comparisons are good

can_be_compared : (of : ColumnType) (v : Value) → fits_type longest_key_text of v ≡ true → can_compare of v ≡ true
can_be_compared IsInt v e = e
can_be_compared IsText v e = e
can_be_compared IsBoolean v e = e
can_be_compared (IsVarchar n) (Int x) e = cc
can_be_compared (IsVarchar n) (Text t) e = and_first (fits_text longest_key_text t) _ e
can_be_compared (IsVarchar n) (Truth x) e = cc
can_be_compared (IsVarchar n) Null e = cc

not_null_fits : (b : Bool) → not (b || true) ≡ true → ⊥
not_null_fits true e = cc
not_null_fits false e = cc

fits_compare : (c : Column) (v : Value) → fits_value true c v ≡ true → can_compare c.of v ≡ true
fits_compare c Null e = absurd (not_null_fits c.not_null e)
fits_compare c (Int x) e = can_be_compared c.of (Int x) e
fits_compare c (Text t) e = can_be_compared c.of (Text t) e
fits_compare c (Truth b) e = can_be_compared c.of (Truth b) e

equality : ℕ → Value → Comparison
equality n v = record { column = n; operator = Equals; value = v }

good_one : (table : Table) (n : ℕ) (v : Value) → part_fault table n v ≡ None → is_key_column table n ≡ true → comparison_fault table (record { column = n; operator = Equals; value = v }) ≡ None
good_one table n v fits own = by (column_at table n) fits
  where
    inner : (c : Column) (b : Bool) → fits_value true c v ≡ b → ◌≡◌ {A = Option ℕ} (if b then None else Some n) None → ◌≡◌ {A = Option ℕ} (if is_key_column table n && can_compare c.of v then None else Some n) None
    inner c true is e = λ i. if own i && fits_compare c v is i then None else Some n
    inner c false is e = cc

    by : (o : Option Column) → ◌≡◌ {A = Option ℕ} (elim o [ None ↦ Some 0 | Some c ↦ if fits_value true c v then None else Some n ]) None
        → ◌≡◌ {A = Option ℕ} (elim o [ None ↦ Some 0 | Some column ↦ if is_key_column table n && can_compare column.of v then None else Some n ]) None
    by None e = cc
    by (Some c) e = inner c (fits_value true c v) refl e

fault_first : (table : Table) (n : ℕ) (ns : List ℕ) (v : Value) (vs : List Value) → parts_fault table (n ∷ ns) (v ∷ vs) ≡ None → (part_fault table n v ≡ None) × (parts_fault table ns vs ≡ None)
fault_first table n ns v vs e = by (part_fault table n v) e
  where
    by : (o : Option ℕ) → ◌≡◌ {A = Option ℕ} (first_of o (parts_fault table ns vs)) None → (o ≡ None) × (parts_fault table ns vs ≡ None)
    by None e = (refl, e)
    by (Some c) e = cc

all_good : (table : Table) (ns : List ℕ) (vs : List Value) → parts_fault table ns vs ≡ None → list_all (is_key_column table) ns ≡ true → comparisons_fault table (equalities ns (but_last vs)) ≡ None
all_good table [] vs fits own = refl
all_good table (n ∷ ns) [] fits own = refl
all_good table (n ∷ ns) (v ∷ []) fits own = refl
all_good table (n ∷ ns) (v ∷ w ∷ vs) fits own =
    let here = fault_first table n ns v (w ∷ vs) fits in
    ap (λ o. first_of o (comparisons_fault table (equalities ns (but_last (w ∷ vs))))) (good_one table n v here.0 (and_first (is_key_column table n) _ own))
    ∙ all_good table ns (w ∷ vs) here.1 (second_of (is_key_column table n) _ own)
  where
    second_of : (a b : Bool) → (a && b) ≡ true → b ≡ true
    second_of true b e = e
    second_of false b e = cc

any_more : (test : ℕ → Bool) (k : ℕ) (ks : List ℕ) → list_any test ks ≡ true → list_any test (k ∷ ks) ≡ true
any_more test k ks e = by (test k)
  where
    by : (b : Bool) → (b || list_any test ks) ≡ true
    by true = refl
    by false = e

self : (n : ℕ) → (n == n) ≡ true
self n = grind (arith, nat_tests)

any_there : (n : ℕ) (pre post : List ℕ) → list_any (λ k. k == n) (pre ++ n ∷ post) ≡ true
any_there n [] post = ap (λ b. b || list_any (λ k. k == n) post) (self n)
any_there n (k ∷ pre) post = any_more (λ k. k == n) k (pre ++ n ∷ post) (any_there n pre post)

own_columns : (table : Table) (ns pre : List ℕ) → table.key ≡ pre ++ ns → list_all (is_key_column table) ns ≡ true
own_columns table [] pre e = refl
own_columns table (n ∷ ns) pre e =
    λ i. (ap (list_any (λ k. k == n)) e ∙ any_there n pre ns) i && own_columns table ns (pre ++ n ∷ []) (e ∙ sym (append_assoc pre (n ∷ []) ns)) i

-- ---- the comparisons narrow

-- the column of a comparison of the condition, by its place
module _ (table : Table) (distinct : IsDistinct table.key) where
  column_place : (pre post : List ℕ) (n : ℕ) → table.key ≡ pre ++ n ∷ post → position (λ k. k == n) table.key ≡ Some (length pre)
  column_place pre post n e = ap (position (λ k. k == n)) e ∙ position_is n pre post (distinct pre post n e)

  -- some comparison asks the column at the place for a value
  has_equality : ℕ → List Comparison → Bool
  has_equality place [] = false
  has_equality place (c ∷ cs) = (is_at table place c && is_equality c.operator) || has_equality place cs

  found_equality : (place : ℕ) (cs : List Comparison) → has_equality place cs ≡ true → is_some (equal_at table place cs) ≡ true
  unfolding has_equality
  found_equality place [] e = cc
  found_equality place (c ∷ cs) e = by (is_at table place c && is_equality c.operator) e (found_equality place cs)
    where
      by : (b : Bool) → (b || has_equality place cs) ≡ true → (has_equality place cs ≡ true → is_some (equal_at table place cs) ≡ true) → is_some (cond b (Some c.value) (equal_at table place cs)) ≡ true
      by true e rest = refl
      by false e rest = rest e

  or_late : (a b : Bool) → b ≡ true → (a || b) ≡ true
  or_late true b e = refl
  or_late false b e = e

  or_soon : (a b : Bool) → a ≡ true → (a || b) ≡ true
  or_soon true b e = refl
  or_soon false b e = cc

  same_place : (a b : ℕ) → a ≡ b → (a == b) ≡ true
  same_place a b e = grind (arith, nat_tests)

  -- each place up to the entity's end has one
  equality_there : (ns : List ℕ) (vs : List Value) (pre : List ℕ) (place : ℕ) → table.key ≡ pre ++ ns → length pre ≤ place → place < length pre + length vs → length vs ≤ length ns → has_equality place (equalities ns vs) ≡ true
  unfolding has_equality
  equality_there ns [] pre place e low high few = absurd (omega arith)
  equality_there [] (v ∷ vs) pre place e low high few = absurd (omega arith)
  equality_there (n ∷ ns) (v ∷ vs) pre place e low high few = by (length pre == place) refl
      (λ late. equality_there ns vs (pre ++ n ∷ []) place (e ∙ sym (append_assoc pre (n ∷ []) ns)) (subst (λ m. m ≤ place) (sym (length-append pre (n ∷ []))) late)
      (subst (λ m. place < m + length vs) (sym (length-append pre (n ∷ []))) (higher (length pre) (length vs) place high)) (fewer (length vs) (length ns) few))
    where
      higher : (a b c : ℕ) → c < a + suc b → c < (a + 1) + b
      higher a b c h = omega arith

      fewer : (a b : ℕ) → suc a ≤ suc b → a ≤ b
      fewer a b h = omega arith

      later : (a b : ℕ) → (a == b) ≡ false → a ≤ b → a + 1 ≤ b
      later a b e h = grind (arith, nat_tests)

      here : (length pre == place) ≡ true → (is_place place (position (λ k. k == n) table.key) && true) ≡ true
      here is = ap (λ o. is_place place o && true) (column_place pre ns n e) ∙ ap (λ b. b && true) is

      by : (b : Bool) → (length pre == place) ≡ b → (length pre + 1 ≤ place → has_equality place (equalities ns vs) ≡ true)
          → ((is_place place (position (λ k. k == n) table.key) && true) || has_equality place (equalities ns vs)) ≡ true
      by true is rest = or_soon _ _ (here is)
      by false is rest = or_late _ _ (rest (later (length pre) place is low))

  -- so the columns that narrow go at least up to there
  end_after : (cs : List Comparison) (columns : List ℕ) (place last : ℕ) → ((i : ℕ) → place ≤ i → i < last → has_equality i cs ≡ true) → last ≤ place + length columns → last ≤ narrowing_end table cs place columns
  end_after cs [] place last all few = ends place last few
    where
      ends : (place last : ℕ) → last ≤ place + length {A = ℕ} [] → last ≤ place
      ends place last h = omega arith
  end_after cs (k ∷ columns) place last all few = by (equal_at table place cs) refl (end_after cs columns (place + 1) last (λ i low high. all i (lower place i low) high) (fewer place last (length columns) few))
    where
      lower : (a i : ℕ) → a + 1 ≤ i → a ≤ i
      lower a i h = omega arith

      fewer : (a b c : ℕ) → b ≤ a + suc c → b ≤ (a + 1) + c
      fewer a b c h = omega arith

      ended : (a b : ℕ) → b ≤ a → b ≤ a + 1
      ended a b h = omega arith

      first : (b : Bool) → nat_lt place last ≡ b → equal_at table place cs ≡ None → last ≤ place + 1
      first true is none =
          let low : place ≤ place = omega arith in
          let there : is_some (equal_at table place cs) ≡ true = found_equality place cs (all place low (grind (arith, nat_tests))) in
          let off : ◌≡◌ {A = Bool} false true = ap is_some (sym none) ∙ there in
          cc
      first false is none = grind (arith, nat_tests)

      by : (o : Option Value) → equal_at table place cs ≡ o → last ≤ narrowing_end table cs (place + 1) columns → last ≤ elim o [ None ↦ place + 1 | Some value ↦ narrowing_end table cs (place + 1) columns ]
      by None is rest = first (nat_lt place last) refl is
      by (Some v) is rest = rest

  all_narrow : (cs : List Comparison) (ns : List ℕ) (vs : List Value) (pre : List ℕ) → table.key ≡ pre ++ ns → length vs ≤ length ns → length pre + length vs ≤ narrowing_end table cs 0 table.key → list_all (narrows table cs) (equalities ns vs) ≡ true
  all_narrow cs [] vs pre e few ends = refl
  all_narrow cs (n ∷ ns) [] pre e few ends = refl
  all_narrow cs (n ∷ ns) (v ∷ vs) pre e few ends =
      λ i. (ap (is_before_place (narrowing_end table cs 0 table.key)) (column_place pre ns n e) ∙ before (length pre) (length vs) (narrowing_end table cs 0 table.key) ends) i
      && all_narrow cs ns vs (pre ++ n ∷ []) (e ∙ sym (append_assoc pre (n ∷ []) ns)) (fewer (length vs) (length ns) few)
      (subst (λ m. m + length vs ≤ narrowing_end table cs 0 table.key) (sym (length-append pre (n ∷ []))) (higher (length pre) (length vs) (narrowing_end table cs 0 table.key) ends)) i
    where
      before : (a b c : ℕ) → a + suc b ≤ c → nat_lt a c ≡ true
      before a b c h = grind (arith, nat_tests)

      fewer : (a b : ℕ) → suc a ≤ suc b → a ≤ b
      fewer a b h = omega arith

      higher : (a b c : ℕ) → a + suc b ≤ c → (a + 1) + b ≤ c
      higher a b c h = omega arith

-- ---- the range

alike : (a b : Bool) → (a ≡ true → b ≡ true) → (b ≡ true → a ≡ true) → a ≡ b
alike true b f g = sym (f refl)
alike false true f g = g refl
alike false false f g = refl

-- ---- the values of the comparisons

all_but_last : (vs : List Value) → All IsStorable vs → All IsStorable (but_last vs)
all_but_last [] all = All-nil IsStorable
all_but_last (v ∷ []) all = All-nil IsStorable
all_but_last (v ∷ w ∷ vs) all = All-cons IsStorable v (but_last (w ∷ vs)) (All-head IsStorable v (w ∷ vs) all) (all_but_last (w ∷ vs) (All-tail IsStorable v (w ∷ vs) all))

values_stored : (ns : List ℕ) (vs : List Value) → All IsStorable vs → All (λ (c : Comparison). IsStorable c.value) (equalities ns vs)
values_stored [] vs all = All-nil (λ (c : Comparison). IsStorable c.value)
values_stored (n ∷ ns) [] all = All-nil (λ (c : Comparison). IsStorable c.value)
values_stored (n ∷ ns) (v ∷ vs) all =
    All-cons (λ (c : Comparison). IsStorable c.value) (record { column = n; operator = Equals; value = v }) (equalities ns vs) (All-head IsStorable v vs all) (values_stored ns vs (All-tail IsStorable v vs all))

-- the search condition of an entity fits its table
pub condition_fits : (table : Table) (key : Key) → IsKeyOf table key → comparisons_fault table (equalities table.key (but_last key.parts)) ≡ None
condition_fits table key own = all_good table table.key key.parts (fit table key.parts own.fits) (own_columns table table.key [] refl)

some_parts : (table : Table) (p : Period) (key : Key) → HasPeriod table p → IsKeyOf table key → 1 ≤ length key.parts
some_parts table p key has own = subst (λ n. 1 ≤ n) (sym (wide table key.parts own.fits)) keyed
  where
    one_at_least : (a : ℕ) → 1 ≤ a + 1
    one_at_least a = omega arith

    keyed : 1 ≤ length table.key
    keyed = subst (λ n. 1 ≤ n) (sym (ap length has.start_last ∙ length-append (but_last table.key) (p.from ∷ []))) (one_at_least (length (but_last table.key)))

-- an entity has one part fewer than its table's key has columns
pub entity_width : (table : Table) (p : Period) (key : Key) → HasPeriod table p → IsKeyOf table key → length (but_last key.parts) + 1 ≡ length table.key
entity_width table p key has own = but_last_length key.parts (some_parts table p key has own) ∙ wide table key.parts own.fits

pub is_range_of : (table : Table) (p : Period) (key : Key) → table.number < 256 → IsTable table.number table → HasPeriod table p → IsKeyOf table key → IsRangeOf table (entity_of key) (search_range table (entity_keys table (entity_of key)))
is_range_of table p key small is_table has own other other_own =
    alike (is_key_in (search_range table keys) (bytes_of_key other)) (matches table keys other)
    (is_exact table keys small is_table own.own good stored narrowing other other_own)
    (covers table keys small good stored other other_own)
    ∙ entity_keys_are_its_keys table (entity_of key) other has.distinct (entity_width table p key has own) (wide table other.parts other_own.fits)
  where
    keys : Keys
    keys = entity_keys table (entity_of key)

    short : length (but_last key.parts) ≤ length table.key
    short = by (length (but_last key.parts)) (length table.key) (entity_width table p key has own)
      where
        by : (a b : ℕ) → a + 1 ≡ b → a ≤ b
        by a b e = omega arith

    good : comparisons_fault table (equalities table.key (but_last key.parts)) ≡ None
    good = condition_fits table key own

    stored : All (λ (c : Comparison). IsStorable c.value) (equalities table.key (but_last key.parts))
    stored = values_stored table.key (but_last key.parts) (all_but_last key.parts (all_storable key.parts own.held))

    narrowing : list_all (narrows table (equalities table.key (but_last key.parts))) (equalities table.key (but_last key.parts)) ≡ true
    narrowing =
        all_narrow table has.distinct (equalities table.key (but_last key.parts)) table.key (but_last key.parts) [] refl short
        (end_after table has.distinct (equalities table.key (but_last key.parts)) table.key 0 (length {A = ℕ} [] + length (but_last key.parts))
        (λ i low high. equality_there table has.distinct table.key (but_last key.parts) [] i refl low high short)
        (from_0 (length (but_last key.parts)) (length table.key) short))
      where
        from_0 : (a b : ℕ) → a ≤ b → 0 + a ≤ 0 + b
        from_0 a b h = omega arith

pub is_entity_range : (table : Table) (key : Key) → table.number < 256 → IsEntityRange table key (search_range table (entity_keys table (entity_of key)))
is_entity_range table key small is_table p has own = is_range_of table p key small is_table (is_table.own_period p has) own
