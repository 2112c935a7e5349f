-- The tables that good declarations make are tables, with their periods of application time.
use Rattle.std.proofs.Common.{◌≡◌, ℕ, ◌+◌, ◌≤◌, ◌==◌, ◌&&◌, Bool, true, false, List, [], ◌∷◌, ◌++◌, ◌-◌, inr, inl, Option, Some, None, length, map, refl, sym, subst, ap, ◌∙◌, arith, nat_lt, if◌then◌else◌, All}
use Rattle.std.specs.Prelude.{not}
use Rattle.std.specs.Char.{to_ascii_lowercase}
use Rattle.std.specs.List.{slice_get, list_any, filter_map, count_by}
use Rattle.std.specs.Option.{ForSome}
use Rattle.std.proofs.lemmas.Bool.{and_parts}
use Rattle.std.proofs.lemmas.Bool.Decides.{nat_tests}
use Rattle.std.proofs.Math.Seq.{get_or-append_seam}
use Rattle.std.proofs.lemmas.List.{length-append}
use Rattle.std.proofs.lemmas.Option.{slice_get_read}
use Rattle.std.proofs.lemmas.List.Elements.{All-cons, All-nil}
use Rattle.values.specs.declared.table.Column.{Column}
use Rattle.values.specs.declared.period.Period.{Period as TablePeriod}
use Rattle.values.specs.declared.table.Table.{Table}
use Rattle.values.specs.Each.{Each}
use Rattle.values.specs.Names.{same_name}
use Rattle.values.specs.Tables.{but_last, column_at}
use Rattle.values.specs.TableRules.{HasInstants, IsColumnOf, IsDistinct, IsOutside, HasPeriod, IsTable, AreTables}
use Rattle.values.proofs.TablesButLast.{but_last-push}
use Rattle.rows.specs.declared.declaration.ApplicationPeriod.{ApplicationPeriod}
use Rattle.rows.specs.declared.declaration.KeyClause.{KeyClause}
use Rattle.rows.specs.declared.declaration.Declaration.{Declaration}
use Rattle.rows.specs.declared.declaration.UserColumn.{UserColumn}
use Rattle.rows.specs.declared.declaration.Entry.{Entry}
use Rattle.rows.specs.declared.declaration.Entry.TheVariants.{User, Generated, Period, Application, Key}
use Rattle.rows.specs.SchemaTable.{user_column, table_of, next_table}
use Rattle.rows.specs.GoodTable.{NoTwo, SameName, HasIntColumn, HasNoOverlaps, IsKeyOf, ApplicationIsGood, IsOfPeriod, AreColumnsOf, IsNumberOf, AreNumbersOf, IsPeriodOf, HasPeriodOf, IsTableOf, is_user}
use Rattle.rows.specs.GoodTable.{IsColumnOf as IsUserColumn}
use Rattle.rows.proofs.SchemaPlaces.{Apart, each_at, no_two_apart, apart_last}
use Rattle.rows.proofs.SchemaEntries.{or_from, OneName, number_same, users_differ, columns_same, user_count}
use Rattle.rows.proofs.SchemaGood.{made_is_good}

pub AreTables-push : (ts : List Table) (n : ℕ) (t : Table) → AreTables n ts → IsTable (n + length ts) t → AreTables n (ts ++ t ∷ [])
AreTables-push [] n t h g = (subst (λ m. IsTable m t) (omega arith) g, tt)
AreTables-push (u ∷ ts) n t h g = (h.0, AreTables-push ts (n + 1) t h.1 (subst (λ m. IsTable m t) (omega arith) g))

-- ---- numbers of columns

-- at one place one column stands
same_place : {A : Type 0} (b d : List A) (x y : A) (a c : List A) → length b ≡ length d → b ++ x ∷ a ≡ d ++ y ∷ c → x ≡ y
same_place [] [] x y a c e same = ap (head x) same
  where
    head : {A : Type 0} → A → List A → A
    head x [] = x
    head x (z ∷ zs) = z
same_place [] (z ∷ d) x y a c e same = absurd (omega (arith, e))
same_place (z ∷ b) [] x y a c e same = absurd (omega (arith, e))
same_place (z ∷ b) (w ∷ d) x y a c e same = same_place b d x y a c (omega (arith, e)) (ap tail same)
  where
    tail : {A : Type 0} → List A → List A
    tail [] = []
    tail (z ∷ zs) = zs

-- what one column is named is one name
one_column : (columns : List Column) (a b : List ℕ) (m n : ℕ) → IsNumberOf columns a m → IsNumberOf columns b n → m ≡ n → SameName a b
one_column columns a b m n p q e =
    let places : length p.before ≡ length q.before = omega (arith, e, p.counted, q.counted) in
    let column : p.column ≡ q.column = same_place p.before q.before p.column q.column p.after q.after places (sym p.place ∙ q.place) in
    sym p.named ∙ ap (λ (c : Column). map to_ascii_lowercase c.name) column ∙ q.named

number_bounds : (table : Table) (name : List ℕ) (n : ℕ) → IsNumberOf table.columns name n → IsColumnOf table n
number_bounds table name n is =
    record { from_1 = omega (arith, is.counted); within = omega (arith, is.counted, ap length is.place, length-append is.before (is.column ∷ is.after)) }

numbers_own : (table : Table) (names : List (List ℕ)) (numbers : List ℕ) → AreNumbersOf table.columns names numbers → All (IsColumnOf table) numbers
numbers_own table [] [] e = All-nil (IsColumnOf table)
numbers_own table [] (n ∷ numbers) e = absurd e
numbers_own table (name ∷ names) [] e = absurd e
numbers_own table (name ∷ names) (n ∷ numbers) (is, e) = All-cons (IsColumnOf table) _ _ (number_bounds table name n is) (numbers_own table names numbers e)

as_many : (columns : List Column) (names : List (List ℕ)) (numbers : List ℕ) → AreNumbersOf columns names numbers → length numbers ≡ length names
as_many columns [] [] e = refl
as_many columns [] (n ∷ numbers) e = absurd e
as_many columns (name ∷ names) [] e = absurd e
as_many columns (name ∷ names) (n ∷ numbers) (is, e) = omega (arith, as_many columns names numbers e)

-- different names have different numbers
module _ (columns : List Column) where
  number_differs : (name : List ℕ) (n : ℕ) → IsNumberOf columns name n → (names : List (List ℕ)) (numbers : List ℕ) → AreNumbersOf columns names numbers → Each (λ y. SameName name y → ⊥) names
      → Each (λ m. n ≡ m → ⊥) numbers
  number_differs name n is [] [] e f = tt
  number_differs name n is [] (m ∷ numbers) e f = absurd e
  number_differs name n is (y ∷ names) [] e f = absurd e
  number_differs name n is (y ∷ names) (m ∷ numbers) (its, e) (f, g) = (λ same. f (one_column columns name y n m is its same), number_differs name n is names numbers e g)

  numbers_apart : (names : List (List ℕ)) (numbers : List ℕ) → AreNumbersOf columns names numbers → Apart SameName names → Apart (λ (m n : ℕ). m ≡ n) numbers
  numbers_apart [] [] e a = tt
  numbers_apart [] (n ∷ numbers) e a = absurd e
  numbers_apart (name ∷ names) [] e a = absurd e
  numbers_apart (name ∷ names) (n ∷ numbers) (is, e) (f, a) = (number_differs name n is names numbers e f, numbers_apart names numbers e a)

other_number : (m n : ℕ) → (m ≡ n → ⊥) → (m == n) ≡ false
other_number m n f = by_test (m == n) refl
  where
    equal : (m n : ℕ) → (m == n) ≡ true → m ≡ n
    equal m n e = grind (arith, nat_tests)

    by_test : (t : Bool) → (m == n) ≡ t → t ≡ false
    by_test true e = absurd (f (equal m n e))
    by_test false e = refl

apart_distinct : (numbers : List ℕ) → Apart (λ (m n : ℕ). m ≡ n) numbers → IsDistinct numbers
apart_distinct numbers a before after n place = by_place before (subst (Apart (λ (m n : ℕ). m ≡ n)) place a)
  where
    by_place : (before : List ℕ) → Apart (λ (m n : ℕ). m ≡ n) (before ++ n ∷ after) → list_any (λ c. c == n) before ≡ false
    by_place [] a = refl
    by_place (m ∷ before) (f, a) = or_from (m == n) (list_any (λ c. c == n) before) (other_number m n (each_at (λ k. m ≡ k → ⊥) before after n f)) (by_place before a)

-- ---- the period

-- numbers of names, and then of one more
record Pushed (columns : List Column) (names : List (List ℕ)) (name : List ℕ) (numbers : List ℕ) : Type 0 where
  front : List ℕ
  last : ℕ
  place : numbers ≡ front ++ last ∷ []
  fronts : AreNumbersOf columns names front
  lasts : IsNumberOf columns name last

pushed : (columns : List Column) (names : List (List ℕ)) (name : List ℕ) (numbers : List ℕ) → AreNumbersOf columns (names ++ name ∷ []) numbers → Pushed columns names name numbers
pushed columns [] name [] e = absurd e
pushed columns [] name (n ∷ []) (is, e) = record { front = []; last = n; place = refl; fronts = tt; lasts = is }
pushed columns [] name (n ∷ m ∷ numbers) (is, e) = absurd e
pushed columns (x ∷ names) name [] e = absurd e
pushed columns (x ∷ names) name (n ∷ numbers) (is, e) =
    let w = pushed columns names name numbers e in
    record { front = n ∷ w.front; last = w.last; place = ap (λ l. n ∷ l) w.place; fronts = (is, w.fronts); lasts = w.lasts }

each_front_name : (P : List ℕ → Type 0) (names : List (List ℕ)) (name : List ℕ) → Each P (names ++ name ∷ []) → Each P names × P name
each_front_name P [] name (p, e) = (tt, p)
each_front_name P (x ∷ names) name (p, e) = let w = each_front_name P names name e in ((p, w.0), w.1)

module _ (columns : List Column) (p : ApplicationPeriod) (q : TablePeriod) (is : IsPeriodOf columns p q) where
  outside : (names : List (List ℕ)) (numbers : List ℕ) → AreNumbersOf columns names numbers → Each (λ y. SameName y p.columns.start → ⊥) names
      → Each (λ y. SameName p.columns.end y → ⊥) names → All (IsOutside q) numbers
  outside [] [] e f g = All-nil (IsOutside q)
  outside [] (n ∷ numbers) e f g = absurd e
  outside (y ∷ names) [] e f g = absurd e
  outside (y ∷ names) (n ∷ numbers) (its, e) (f, fs) (g, gs) =
      All-cons (IsOutside q) _ _ (record {
        from_1 = omega (arith, its.counted);
        no_start = λ same. f (one_column columns y p.columns.start n q.from its is.starts same);
        no_end = λ same. g (one_column columns p.columns.end y q.to n is.ends its (sym same));
      }) (outside names numbers e fs gs)

-- ---- columns of whole numbers, which are never NULL

-- the column that a user column makes
record Placed (o : Option ApplicationPeriod) (u : UserColumn) (columns : List Column) : Type 0 where
  before : List Column
  column : Column
  after : List Column
  place : columns ≡ before ++ column ∷ after
  is : IsUserColumn o u column

placed : (o : Option ApplicationPeriod) (u : UserColumn) (after : List Entry) (before : List Entry) (columns : List Column) → AreColumnsOf o (before ++ User u ∷ after) columns → Placed o u columns
placed o u after [] [] e = absurd e
placed o u after [] (c ∷ columns) (is, e) = record { before = []; column = c; after = columns; place = refl; is = is }
placed o u after (User d ∷ before) [] e = absurd e
placed o u after (User d ∷ before) (c ∷ columns) (is, e) =
    let w = placed o u after before columns e in record { before = c ∷ w.before; column = w.column; after = w.after; place = ap (λ l. c ∷ l) w.place; is = w.is }
placed o u after (Generated g ∷ before) columns e = placed o u after before columns e
placed o u after (Period p ∷ before) columns e = placed o u after before columns e
placed o u after (Application p ∷ before) columns e = placed o u after before columns e
placed o u after (Key clause ∷ before) columns e = placed o u after before columns e

column_found : (t : Table) (before after : List Column) (c : Column) (n : ℕ) → t.columns ≡ before ++ c ∷ after → n ≡ length before + 1 → column_at t n ≡ Some c
column_found t before after c n place counted =
    ap (λ u. if u then None else slice_get t.columns (n - 1)) (no_zero n (omega (arith, counted))) ∙ ap (slice_get t.columns) less ∙ ap (λ l. slice_get l (length before)) place
    ∙ slice_get_read (before ++ c ∷ after) (length (before ++ c ∷ after)) (length before) c refl (omega (arith, length-append before (c ∷ after))) (sym (get_or-append_seam before c after c))
  where
    no_zero : (n : ℕ) → 1 ≤ n → (n == 0) ≡ false
    no_zero n h = grind (arith, nat_tests)

    less : n - 1 ≡ length before
    less = omega (arith, counted)

some_column : (c d : Column) → Some c ≡ Some d → c ≡ d
some_column c d e = ap (λ o. elim o [ Some z ↦ z | None ↦ c ]) e

module _ (t : Table) (entries : List Entry) (o : Option ApplicationPeriod) (are : AreColumnsOf o entries t.columns) (apart : Apart OneName t.columns) where
  one_number : (name : List ℕ) (m n : ℕ) → IsNumberOf t.columns name m → IsNumberOf t.columns name n → m ≡ n
  one_number name m n p q = sym (number_same t.columns name m apart p) ∙ number_same t.columns name n apart q

  instants : (name : List ℕ) (n : ℕ) → ((u : UserColumn) → SameName u.name name → IsOfPeriod o u.name) → HasIntColumn entries name → IsNumberOf t.columns name n → ForSome (column_at t n) HasInstants
  instants name n of_period (u, ((before, (after, place)), (same, int))) is c at =
      let w = placed o u after before t.columns (subst (λ l. AreColumnsOf o l t.columns) place are) in
      let here : IsNumberOf t.columns name (length w.before + 1) = record {
        before = w.before;
        column = w.column;
        after = w.after;
        place = w.place;
        counted = refl;
        named = ap (map to_ascii_lowercase) w.is.named ∙ same;
      } in
      let number : n ≡ length w.before + 1 = one_number name n (length w.before + 1) is here in
      let one : w.column ≡ c = some_column w.column c (sym (column_found t w.before w.after w.column n w.place number) ∙ at) in
      subst HasInstants one (record { whole = w.is.of_type ∙ int; never_null = w.is.marked.1 (inr (of_period u same)) })

has_period : (t : Table) (entries : List Entry) (clause : KeyClause) (key : List (List ℕ)) (p : ApplicationPeriod) (q : TablePeriod) → IsPeriodOf t.columns p q → HasNoOverlaps p clause key
    → ApplicationIsGood entries key p → AreColumnsOf (Some p) entries t.columns → Apart OneName t.columns → NoTwo SameName key → AreNumbersOf t.columns key t.key → HasPeriod t q
has_period t entries clause key p q is keyed good are columns differ numbers =
    let w = pushed t.columns keyed.entity p.columns.start t.key (subst (λ k. AreNumbersOf t.columns k t.key) keyed.ends numbers) in
    let ends = each_front_name (λ y. SameName p.columns.end y → ⊥) keyed.entity p.columns.start (subst (Each (λ y. SameName p.columns.end y → ⊥)) keyed.ends good.end_outside) in
    let apart = no_two_apart SameName key differ in
    let entity : Each (λ y. SameName y p.columns.start → ⊥) keyed.entity = apart_last SameName keyed.entity p.columns.start (subst (Apart SameName) keyed.ends apart) in
    let front : but_last t.key ≡ w.front = ap but_last w.place ∙ but_last-push w.front w.last in
    let last : w.last ≡ q.from = one_number t entries (Some p) are columns p.columns.start w.last q.from w.lasts is.starts in
    record {
      start = number_bounds t p.columns.start q.from is.starts;
      end = number_bounds t p.columns.end q.to is.ends;
      start_instants = instants t entries (Some p) are columns p.columns.start q.from (λ u same. inl (sym same)) good.from_int is.starts;
      end_instants = instants t entries (Some p) are columns p.columns.end q.to (λ u same. inr (sym same)) good.to_int is.ends;
      differ = λ same. ends.1 (one_column t.columns p.columns.end p.columns.start q.to q.from is.ends is.starts (sym same));
      entity = subst (All (IsOutside q)) (sym front) (outside t.columns p q is keyed.entity w.front w.fronts entity ends.0);
      start_last = w.place ∙ ap (λ l. l ++ w.last ∷ []) (sym front) ∙ ap (λ n. but_last t.key ++ n ∷ []) last;
      distinct = apart_distinct t.key (numbers_apart t.columns key t.key numbers apart);
    }

own_period : (t : Table) (entries : List Entry) (clause : KeyClause) (key : List (List ℕ)) (o : Option ApplicationPeriod) → HasPeriodOf t.columns o t.period → IsKeyOf o clause key
    → ForSome o (ApplicationIsGood entries key) → AreColumnsOf o entries t.columns → Apart OneName t.columns → NoTwo SameName key → AreNumbersOf t.columns key t.key → ForSome t.period (HasPeriod t)
own_period t entries clause key o is keyed good are columns differ numbers q has = by_option o (subst (HasPeriodOf t.columns o) has is) keyed good are
  where
    by_option : (o : Option ApplicationPeriod) → HasPeriodOf t.columns o (Some q) → IsKeyOf o clause key → ForSome o (ApplicationIsGood entries key) → AreColumnsOf o entries t.columns → HasPeriod t q
    by_option None is keyed good are = absurd is
    by_option (Some p) is keyed good are = has_period t entries clause key p q is keyed (good p refl) are columns differ numbers

-- ---- what a declaration makes

is_table : (number : ℕ) (d : Declaration) (t : Table) → IsTableOf d number t → number ≤ 16 → IsTable number t
is_table number d t is small =
    let g = is.good in
    let o = g.application in
    let same : filter_map (user_column o) d.entries ≡ t.columns = columns_same o d.entries t.columns is.columns_are in
    let wide : count_by is_user d.entries ≡ length t.columns = sym (user_count o d.entries) ∙ ap length same in
    record {
      numbered = is.numbered;
      small = small;
      some_columns = subst (λ n. 1 ≤ n) wide g.some_columns;
      few_columns = subst (λ n. n ≤ 16) wide g.few_columns;
      few_key_columns = subst (λ n. n ≤ 4) (sym (as_many t.columns g.key t.key is.key_is)) g.few_in_key;
      own_key_columns = numbers_own t g.key t.key is.key_is;
      own_period =
          own_period t d.entries g.clause g.key o is.period_is g.key_is g.application_is_good is.columns_are (subst (Apart OneName) same (users_differ o d.entries g.columns_differ)) g.key_differs is.key_is;
    }

next_is : (ts : List Table) (d : Declaration) (t : Table) → next_table ts d ≡ Some t → IsTable (1 + length ts) t
unfolding next_table
next_is ts d t is = allowed (nat_lt (length ts) 16 && not (list_any (λ t. same_name t.name d.name) ts)) refl is
  where
    few : (nat_lt (length ts) 16 && not (list_any (λ t. same_name t.name d.name) ts)) ≡ true → length ts + 1 ≤ 16
    few both = let lt : nat_lt (length ts) 16 ≡ true = (and_parts (nat_lt (length ts) 16) _ both).0 in grind (arith, nat_tests)

    allowed : (b : Bool) → (nat_lt (length ts) 16 && not (list_any (λ t. same_name t.name d.name) ts)) ≡ b → (if b then table_of (length ts + 1) d else None) ≡ Some t → IsTable (1 + length ts) t
    allowed true both is =
        let e : length ts + 1 ≡ 1 + length ts = omega arith in subst (λ n. IsTable n t) e (is_table (length ts + 1) d t (made_is_good (length ts + 1) d t is) (few both))
    allowed false both is = cc

-- the tables with the next one
pub with_next : (ts : List Table) (d : Declaration) (t : Table) → AreTables 1 ts → Some t ≡ next_table ts d → AreTables 1 (ts ++ t ∷ [])
with_next ts d t h is = AreTables-push ts 1 t h (next_is ts d t (sym is))
