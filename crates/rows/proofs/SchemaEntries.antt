-- What stands in the entries of a declaration: names, the columns of a period, its clause, keys, columns by name.
use Rattle.std.proofs.Common.{◌≡◌, ℕ, ◌+◌, ◌≤◌, ◌==◌, ◌&&◌, ◌||◌, ◌⊎◌, inl, inr, Bool, true, false, List, [], ◌∷◌, ◌++◌, Option, Some, None, length, map, refl, sym, subst, ap, ◌∙◌, arith, cond, if◌then◌else◌}
use Rattle.std.specs.Prelude.{not, filter, nat_le}
use Rattle.std.specs.List.{list_any, list_all, filter_map, flat_map, cons_option, position_from, count_by}
use Rattle.std.specs.Option.{unwrap_or}
use Rattle.std.specs.Char.{to_ascii_lowercase}
use Rattle.std.proofs.lemmas.Bool.{and_parts, and_from}
use Rattle.std.proofs.lemmas.Bool.Decides.{nat_tests}
use Rattle.std.proofs.lemmas.List.Sums.{sum_by-cons}
use Rattle.values.specs.declared.table.ColumnType.{ColumnType}
use Rattle.values.specs.declared.table.ColumnType.TheVariants.{Int, Text, Varchar, Boolean}
use Rattle.values.specs.declared.table.Column.{Column}
use Rattle.rows.specs.declared.declaration.Mark.{Mark}
use Rattle.rows.specs.declared.declaration.Mark.TheVariants.{NotNull, PrimaryKey}
use Rattle.rows.specs.declared.declaration.Side.{Side}
use Rattle.rows.specs.declared.declaration.Side.TheVariants.{Start, End}
use Rattle.rows.specs.declared.declaration.UserColumn.{UserColumn}
use Rattle.rows.specs.declared.declaration.GeneratedColumn.{GeneratedColumn}
use Rattle.rows.specs.declared.declaration.PeriodNames.{PeriodNames}
use Rattle.rows.specs.declared.declaration.ApplicationPeriod.{ApplicationPeriod}
use Rattle.rows.specs.declared.declaration.KeyClause.{KeyClause}
use Rattle.rows.specs.declared.declaration.Entry.{Entry}
use Rattle.rows.specs.declared.declaration.Entry.TheVariants.{User, Generated, Period, Application, Key}
use Rattle.std.specs.Cmp.Lexicographic.{bytes_decides}
use Rattle.values.specs.Names.{same_name}
use Rattle.rows.specs.SchemaTable.{is_not_null, is_primary_key, same_side, is_of_period, user_column, declared_name, side_name, period_names, application_period, is_application, marked_key, keys_in, is_good_type, is_good_precision, is_good_entry, are_distinct, only, number_in}
use Rattle.values.specs.Each.{Each}
use Rattle.rows.specs.GoodTable.{IsElement, IsTheOne, NoTwo, SameName, is_user, IsGenerated, IsPeriod, IsApplication, HasApplication, GivesKeys, GivesOneKey, Declares, ShareAName, HasUserColumn, IsOfPeriod, IsColumnOf, IsNumberOf, AreColumnsOf, AreNumbersOf, TypeIsGood, DigitsAreGood, EntryIsGood}
use Rattle.rows.proofs.SchemaPlaces.{each_placed, each_at, each_to, Apart, apart_no_two, no_two_apart, one_same, only_is, flat_of, Tells, none_given, none_stands, one_stands, one_given}

pub le_from : (a b : ℕ) → nat_le a b ≡ true → a ≤ b
le_from a b e = grind (arith, nat_tests)

pub le_to : (a b : ℕ) → a ≤ b → nat_le a b ≡ true
le_to a b h = grind (arith, nat_tests)

pub not_from : (t : Bool) → not t ≡ true → t ≡ false
not_from true e = sym e
not_from false e = refl

pub not_to : (t : Bool) → t ≡ false → not t ≡ true
not_to t e = ap not e

pub or_parts : (a b : Bool) → (a || b) ≡ false → (a ≡ false) × (b ≡ false)
or_parts true b e = (e, absurd (true_no_false e))
  where
    true_no_false : true ≡ false → ⊥
    true_no_false e = cc
or_parts false b e = (refl, e)

pub or_from : (a b : Bool) → a ≡ false → b ≡ false → (a || b) ≡ false
or_from a b e f = ap (λ t. t || b) e ∙ f

-- names in any case
abbrev lower : List ℕ → List ℕ
lower name = map to_ascii_lowercase name

pub same_to : (x y : List ℕ) → same_name x y ≡ true → SameName x y
same_to x y e = (bytes_decides (lower x) (lower y)).0 e

pub same_from : (x y : List ℕ) → SameName x y → same_name x y ≡ true
same_from x y e = (bytes_decides (lower x) (lower y)).1 e

-- a test that none passes
module _ {A : Type 0} (p : A → Bool) (P : A → Type 0) where
  pub any_none : ((x : A) → P x → p x ≡ true) → (xs : List A) → list_any p xs ≡ false → Each (λ x. P x → ⊥) xs
  any_none h [] e = tt
  any_none h (x ∷ xs) e = let parts = or_parts (p x) (list_any p xs) e in (λ q. clash (h x q) parts.0, any_none h xs parts.1)
    where
      clash : {t : Bool} → t ≡ true → t ≡ false → ⊥
      clash e f = let no : true ≡ false = sym e ∙ f in cc

  pub none_any : ((x : A) → p x ≡ true → P x) → (xs : List A) → Each (λ x. P x → ⊥) xs → list_any p xs ≡ false
  none_any h [] e = refl
  none_any h (x ∷ xs) (f, e) = or_from (p x) (list_any p xs) (fails (p x) refl) (none_any h xs e)
    where
      fails : (t : Bool) → p x ≡ t → t ≡ false
      fails true q = absurd (f (h x q))
      fails false q = refl

distinct_apart : (names : List (List ℕ)) → are_distinct names ≡ true → Apart SameName names
distinct_apart [] e = tt
distinct_apart (name ∷ names) e =
    let p = and_parts (not (list_any (same_name name) names)) (are_distinct names) e in
    (any_none (same_name name) (SameName name) (same_from name) names (not_from (list_any (same_name name) names) p.0), distinct_apart names p.1)

apart_distinct : (names : List (List ℕ)) → Apart SameName names → are_distinct names ≡ true
apart_distinct [] a = refl
apart_distinct (name ∷ names) (e, a) =
    and_from (not (list_any (same_name name) names)) (are_distinct names)
    (not_to (list_any (same_name name) names) (none_any (same_name name) (SameName name) (same_to name) names e)) (apart_distinct names a)

pub distinct_differ : (names : List (List ℕ)) → are_distinct names ≡ true → NoTwo SameName names
distinct_differ names e = apart_no_two SameName names (distinct_apart names e)

pub differ_distinct : (names : List (List ℕ)) → NoTwo SameName names → are_distinct names ≡ true
differ_distinct names n = apart_distinct names (no_two_apart SameName names n)

-- the columns of the period
sides : (a b : Side) → ((a ≡ b) × (same_side a b ≡ true)) ⊎ ((a ≡ b → ⊥) × (same_side a b ≡ false))
sides Start Start = inl (refl, refl)
sides End End = inl (refl, refl)
sides Start End = inr (λ e. cc, refl)
sides End Start = inr (λ e. cc, refl)

abbrev side_given : Side → Entry → List (List ℕ)
side_given side x = cons_option (side_name side x) []

abbrev named_if : List ℕ → Bool → List (List ℕ)
named_if name t = cons_option (if t then Some name else None) []

side_nothing : (side : Side) (x : Entry) → (IsGenerated side x → ⊥) → side_given side x ≡ []
side_nothing side (User c) f = refl
side_nothing side (Period p) f = refl
side_nothing side (Application p) f = refl
side_nothing side (Key names) f = refl
side_nothing side (Generated g) f = elim (sides g.side side) [ inl s ↦ absurd (f s.0) | inr s ↦ ap (named_if g.name) s.1 ]

side_something : (side : Side) (x : Entry) → IsGenerated side x → side_given side x ≡ [] → ⊥
side_something side (User c) p e = p
side_something side (Period q) p e = p
side_something side (Application q) p e = p
side_something side (Key names) p e = p
side_something side (Generated g) p e = elim (sides g.side side) [ inl s ↦ one (sym (ap (named_if g.name) s.1) ∙ e) | inr s ↦ s.0 p ]
  where
    one : g.name ∷ [] ≡ [] → ⊥
    one e = cc

side_decided : (side : Side) (x : Entry) → IsGenerated side x ⊎ (IsGenerated side x → ⊥)
side_decided side (User c) = inr (λ p. p)
side_decided side (Period q) = inr (λ p. p)
side_decided side (Application q) = inr (λ p. p)
side_decided side (Key names) = inr (λ p. p)
side_decided side (Generated g) = elim (sides g.side side) [ inl s ↦ inl s.0 | inr s ↦ inr s.0 ]

side_tells : (side : Side) → Tells (side_given side) (IsGenerated side)
side_tells side = record { nothing = side_nothing side; something = side_something side; decided = side_decided side }

side_named : (side : Side) (g : GeneratedColumn) → g.side ≡ side → side_given side (Generated g) ≡ g.name ∷ []
side_named side g p = elim (sides g.side side) [ inl s ↦ ap (named_if g.name) s.1 | inr s ↦ absurd (s.0 p) ]

pub side_stands : (side : Side) (entries : List Entry) (name : List ℕ) → only (filter_map (side_name side) entries) ≡ Some name
    → (g : GeneratedColumn) × ((g.name ≡ name) × IsTheOne (IsGenerated side) (Generated g) entries)
side_stands side entries name e =
    let one = one_stands (side_given side) (IsGenerated side) (side_tells side) entries name (sym (flat_of (side_name side) entries) ∙ only_is _ name e) in
    found one.0 one.1.0 one.1.1
  where
    found : (x : Entry) → side_given side x ≡ name ∷ [] → IsTheOne (IsGenerated side) x entries → (g : GeneratedColumn) × ((g.name ≡ name) × IsTheOne (IsGenerated side) (Generated g) entries)
    found (User c) e one = absurd one.is_so
    found (Period p) e one = absurd one.is_so
    found (Application p) e one = absurd one.is_so
    found (Key names) e one = absurd one.is_so
    found (Generated g) e one = (g, (one_same g.name name (sym (side_named side g one.is_so) ∙ e), one))

pub side_only : (side : Side) (entries : List Entry) (g : GeneratedColumn) → IsTheOne (IsGenerated side) (Generated g) entries → only (filter_map (side_name side) entries) ≡ Some g.name
side_only side entries g one =
    ap only (flat_of (side_name side) entries ∙ one_given (side_given side) (IsGenerated side) (side_tells side) (Generated g) entries g.name (side_named side g one.is_so) one)

-- the clause of the period
abbrev period_given : Entry → List PeriodNames
period_given x = cons_option (period_names x) []

period_nothing : (x : Entry) → (IsPeriod x → ⊥) → period_given x ≡ []
period_nothing (User c) f = refl
period_nothing (Generated g) f = refl
period_nothing (Application p) f = refl
period_nothing (Key names) f = refl
period_nothing (Period p) f = absurd (f tt)

period_something : (x : Entry) → IsPeriod x → period_given x ≡ [] → ⊥
period_something (User c) p e = p
period_something (Generated g) p e = p
period_something (Application q) p e = p
period_something (Key names) p e = p
period_something (Period q) p e = cc

period_decided : (x : Entry) → IsPeriod x ⊎ (IsPeriod x → ⊥)
period_decided (User c) = inr (λ p. p)
period_decided (Generated g) = inr (λ p. p)
period_decided (Application q) = inr (λ p. p)
period_decided (Key names) = inr (λ p. p)
period_decided (Period q) = inl tt

period_tells : Tells period_given IsPeriod
period_tells = record { nothing = period_nothing; something = period_something; decided = period_decided }

pub period_stands : (entries : List Entry) (names : PeriodNames) → only (filter_map period_names entries) ≡ Some names → IsTheOne IsPeriod (Period names) entries
period_stands entries names e =
    let one = one_stands period_given IsPeriod period_tells entries names (sym (flat_of period_names entries) ∙ only_is _ names e) in found one.0 one.1.0 one.1.1
  where
    found : (x : Entry) → period_given x ≡ names ∷ [] → IsTheOne IsPeriod x entries → IsTheOne IsPeriod (Period names) entries
    found (User c) e one = absurd one.is_so
    found (Generated g) e one = absurd one.is_so
    found (Key k) e one = absurd one.is_so
    found (Application q) e one = absurd one.is_so
    found (Period p) e one = subst (λ q. IsTheOne IsPeriod (Period q) entries) (one_same p names e) one

pub period_only : (entries : List Entry) (names : PeriodNames) → IsTheOne IsPeriod (Period names) entries → only (filter_map period_names entries) ≡ Some names
period_only entries names one = ap only (flat_of period_names entries ∙ one_given period_given IsPeriod period_tells (Period names) entries names refl one)

-- the period of application time
abbrev application_given : Entry → List ApplicationPeriod
application_given x = cons_option (application_period x) []

application_nothing : (x : Entry) → (IsApplication x → ⊥) → application_given x ≡ []
application_nothing (User c) f = refl
application_nothing (Generated g) f = refl
application_nothing (Period p) f = refl
application_nothing (Key clause) f = refl
application_nothing (Application p) f = absurd (f tt)

application_something : (x : Entry) → IsApplication x → application_given x ≡ [] → ⊥
application_something (User c) p e = p
application_something (Generated g) p e = p
application_something (Period q) p e = p
application_something (Key clause) p e = p
application_something (Application q) p e = cc

application_decided : (x : Entry) → IsApplication x ⊎ (IsApplication x → ⊥)
application_decided (User c) = inr (λ p. p)
application_decided (Generated g) = inr (λ p. p)
application_decided (Period q) = inr (λ p. p)
application_decided (Key clause) = inr (λ p. p)
application_decided (Application q) = inl tt

application_tells : Tells application_given IsApplication
application_tells = record { nothing = application_nothing; something = application_something; decided = application_decided }

application_stands : (entries : List Entry) (p : ApplicationPeriod) → filter_map application_period entries ≡ p ∷ [] → IsTheOne IsApplication (Application p) entries
application_stands entries p e =
    let one = one_stands application_given IsApplication application_tells entries p (sym (flat_of application_period entries) ∙ e) in found one.0 one.1.0 one.1.1
  where
    found : (x : Entry) → application_given x ≡ p ∷ [] → IsTheOne IsApplication x entries → IsTheOne IsApplication (Application p) entries
    found (User c) e one = absurd one.is_so
    found (Generated g) e one = absurd one.is_so
    found (Key clause) e one = absurd one.is_so
    found (Period q) e one = absurd one.is_so
    found (Application q) e one = subst (λ r. IsTheOne IsApplication (Application r) entries) (one_same q p e) one

application_tested : (x : Entry) → IsApplication x → is_application x ≡ true
application_tested (User c) p = absurd p
application_tested (Generated g) p = absurd p
application_tested (Period q) p = absurd p
application_tested (Key clause) p = absurd p
application_tested (Application q) p = refl

tested_application : (x : Entry) → is_application x ≡ true → IsApplication x
tested_application (User c) e = cc
tested_application (Generated g) e = cc
tested_application (Period q) e = cc
tested_application (Key clause) e = cc
tested_application (Application q) e = tt

pub application_one : (entries : List Entry) (p : ApplicationPeriod) → only (filter_map application_period entries) ≡ Some p → HasApplication entries (Some p)
application_one entries p e = application_stands entries p (only_is _ p e)

pub application_none : (entries : List Entry) → list_any is_application entries ≡ false → HasApplication entries None
application_none entries e = any_none is_application IsApplication application_tested entries e

pub none_application : (entries : List Entry) → HasApplication entries None → list_any is_application entries ≡ false
none_application entries is = none_any is_application IsApplication tested_application entries is

application_list : (entries : List Entry) (o : Option ApplicationPeriod) → HasApplication entries o → filter_map application_period entries ≡ cons_option o []
application_list entries None is = flat_of application_period entries ∙ none_given application_given IsApplication application_tells entries is
application_list entries (Some p) is = flat_of application_period entries ∙ one_given application_given IsApplication application_tells (Application p) entries p refl is

pub application_only : (entries : List Entry) (o : Option ApplicationPeriod) → HasApplication entries o → only (filter_map application_period entries) ≡ o
application_only entries o is = ap only (application_list entries o is) ∙ back o
  where
    back : (o : Option ApplicationPeriod) → only (cons_option o []) ≡ o
    back None = refl
    back (Some p) = refl

-- keys
abbrev IsPrimary : Mark → Type 0
IsPrimary mark = mark ≡ PrimaryKey

abbrev primary_given : Mark → List Mark
primary_given mark = if is_primary_key mark then mark ∷ [] else []

primary_nothing : (mark : Mark) → (IsPrimary mark → ⊥) → primary_given mark ≡ []
primary_nothing NotNull f = refl
primary_nothing PrimaryKey f = absurd (f refl)

primary_something : (mark : Mark) → IsPrimary mark → primary_given mark ≡ [] → ⊥
primary_something NotNull p e = cc
primary_something PrimaryKey p e = cc

primary_decided : (mark : Mark) → IsPrimary mark ⊎ (IsPrimary mark → ⊥)
primary_decided NotNull = inr (λ e. cc)
primary_decided PrimaryKey = inl refl

primary_tells : Tells primary_given IsPrimary
primary_tells = record { nothing = primary_nothing; something = primary_something; decided = primary_decided }

filtered : (marks : List Mark) → filter is_primary_key marks ≡ flat_map primary_given marks
filtered [] = refl
filtered (NotNull ∷ marks) = filtered marks
filtered (PrimaryKey ∷ marks) = ap (λ l. PrimaryKey ∷ l) (filtered marks)

none_primary : (marks : List Mark) → (IsElement PrimaryKey marks → ⊥) → filter is_primary_key marks ≡ []
none_primary marks f =
    filtered marks
    ∙ none_given primary_given IsPrimary primary_tells marks
    (each_placed (λ m. IsPrimary m → ⊥) marks (λ before after m place p. f (before, (after, place ∙ ap (λ n. before ++ n ∷ after) p))))

some_primary : (marks : List Mark) → IsElement PrimaryKey marks → filter is_primary_key marks ≡ [] → ⊥
some_primary marks (before, (after, place)) e =
    let none = none_stands primary_given IsPrimary primary_tells marks (sym (filtered marks) ∙ e) in
    each_at (λ m. IsPrimary m → ⊥) before after PrimaryKey (subst (Each (λ m. IsPrimary m → ⊥)) place none) refl

stands_or_none : (marks : List Mark) → IsElement PrimaryKey marks ⊎ (IsElement PrimaryKey marks → ⊥)
stands_or_none marks = by_filter (filter is_primary_key marks) refl
  where
    behind : (m : Mark) (marks : List Mark) → IsElement PrimaryKey marks → IsElement PrimaryKey (m ∷ marks)
    behind m marks (before, (after, place)) = (m ∷ before, (after, ap (λ l. m ∷ l) place))

    found : (m : Mark) (ms marks : List Mark) → filter is_primary_key marks ≡ m ∷ ms → IsElement PrimaryKey marks
    found m ms [] e = cc
    found m ms (PrimaryKey ∷ marks) e = ([], (marks, refl))
    found m ms (NotNull ∷ marks) e = behind NotNull marks (found m ms marks e)

    by_filter : (l : List Mark) → filter is_primary_key marks ≡ l → IsElement PrimaryKey marks ⊎ (IsElement PrimaryKey marks → ⊥)
    by_filter [] e = inr (λ s. some_primary marks s e)
    by_filter (m ∷ ms) e = inl (found m ms marks e)

map_none : {A B : Type 0} (f : A → B) (xs : List A) → map f xs ≡ [] → xs ≡ []
map_none f [] e = refl
map_none f (x ∷ xs) e = cc

map_one : {A B : Type 0} (f : A → B) (xs : List A) (y : B) → map f xs ≡ y ∷ [] → (x : A) × ((xs ≡ x ∷ []) × (f x ≡ y))
map_one f [] y e = cc
map_one f (x ∷ []) y e = (x, (refl, one_same (f x) y e))
map_one f (x ∷ z ∷ xs) y e = cc

key_nothing : (x : Entry) → (GivesKeys x → ⊥) → keys_in x ≡ []
key_nothing (Key names) f = absurd (f tt)
key_nothing (User c) f = ap (map (λ mark. marked_key c.name)) (none_primary c.marks f)
key_nothing (Generated g) f = refl
key_nothing (Period p) f = refl
key_nothing (Application p) f = refl

key_something : (x : Entry) → GivesKeys x → keys_in x ≡ [] → ⊥
key_something (Key names) p e = cc
key_something (User c) p e = some_primary c.marks p (map_none (λ mark. marked_key c.name) (filter is_primary_key c.marks) e)
key_something (Generated g) p e = p
key_something (Period q) p e = p
key_something (Application q) p e = p

key_decided : (x : Entry) → GivesKeys x ⊎ (GivesKeys x → ⊥)
key_decided (Key names) = inl tt
key_decided (User c) = stands_or_none c.marks
key_decided (Generated g) = inr (λ p. p)
key_decided (Period q) = inr (λ p. p)
key_decided (Application q) = inr (λ p. p)

key_tells : Tells keys_in GivesKeys
key_tells = record { nothing = key_nothing; something = key_something; decided = key_decided }

gives_one : (x : Entry) (key : KeyClause) → keys_in x ≡ key ∷ [] → GivesOneKey x key
gives_one (Key names) key e = one_same names key e
gives_one (User c) key e =
    let one = map_one (λ mark. marked_key c.name) (filter is_primary_key c.marks) key e in
    let mark = one_stands primary_given IsPrimary primary_tells c.marks one.0 (sym (filtered c.marks) ∙ one.1.0) in
    (one.1.1, subst (λ m. IsTheOne IsPrimary m c.marks) mark.1.1.is_so mark.1.1)
gives_one (Generated g) key e = cc
gives_one (Period p) key e = cc
gives_one (Application p) key e = cc

one_gives : (x : Entry) (key : KeyClause) → GivesOneKey x key → keys_in x ≡ key ∷ []
one_gives (Key names) key e = ap (λ k. k ∷ []) e
one_gives (User c) key (e, one) =
    ap (map (λ mark. marked_key c.name)) (filtered c.marks ∙ one_given primary_given IsPrimary primary_tells PrimaryKey c.marks PrimaryKey refl one) ∙ ap (λ k. k ∷ []) e
one_gives (Generated g) key e = absurd e
one_gives (Period p) key e = absurd e
one_gives (Application p) key e = absurd e

pub key_stands : (entries : List Entry) (key : KeyClause) → only (flat_map keys_in entries) ≡ Some key → (x : Entry) × (GivesOneKey x key × IsTheOne GivesKeys x entries)
key_stands entries key e =
    let one = one_stands keys_in GivesKeys key_tells entries key (only_is _ key e) in (one.0, (gives_one one.0 key one.1.0, one.1.1))

pub key_only : (entries : List Entry) (x : Entry) (key : KeyClause) → GivesOneKey x key → IsTheOne GivesKeys x entries → only (flat_map keys_in entries) ≡ Some key
key_only entries x key gives one = ap only (one_given keys_in GivesKeys key_tells x entries key (one_gives x key gives) one)

-- user columns by name
abbrev is_named : List ℕ → Column → Bool
is_named name c = same_name c.name name

module _ (o : Option ApplicationPeriod) where
  abbrev is_unknown : List ℕ → ℕ → List Entry → Bool
  is_unknown name n entries = unwrap_or (position_from (is_named name) n (filter_map (user_column o) entries)) 0 == 0

  behind : (x : Entry) (entries : List Entry) (name : List ℕ) → HasUserColumn entries name → HasUserColumn (x ∷ entries) name
  behind x entries name (c, ((before, (after, place)), same)) = (c, ((x ∷ before, (after, ap (λ l. x ∷ l) place)), same))

  known_stands : (name : List ℕ) (entries : List Entry) (n : ℕ) → is_unknown name n entries ≡ false → HasUserColumn entries name
  known_stands name [] n e = cc
  known_stands name (User c ∷ entries) n e = one (same_name c.name name) refl e (known_stands name entries (n + 1))
    where
      one : (t : Bool) → same_name c.name name ≡ t → (unwrap_or (cond t (Some n) (position_from (is_named name) (n + 1) (filter_map (user_column o) entries))) 0 == 0) ≡ false
          → (is_unknown name (n + 1) entries ≡ false → HasUserColumn entries name) → HasUserColumn (User c ∷ entries) name
      one true same e others = (c, (([], (entries, refl)), same_to c.name name same))
      one false same e others = behind (User c) entries name (others e)
  known_stands name (Generated g ∷ entries) n e = behind (Generated g) entries name (known_stands name entries n e)
  known_stands name (Period p ∷ entries) n e = behind (Period p) entries name (known_stands name entries n e)
  known_stands name (Application p ∷ entries) n e = behind (Application p) entries name (known_stands name entries n e)
  known_stands name (Key names ∷ entries) n e = behind (Key names) entries name (known_stands name entries n e)

  not_zero : (n : ℕ) → 1 ≤ n → (n == 0) ≡ false
  not_zero n h = grind (arith, nat_tests)

  stands_known : (name : List ℕ) (c : UserColumn) (after : List Entry) → SameName c.name name → (before : List Entry) (n : ℕ) → 1 ≤ n → is_unknown name n (before ++ User c ∷ after) ≡ false
  stands_known name c after same [] n h =
      ap (λ t. unwrap_or (cond t (Some n) (position_from (is_named name) (n + 1) (filter_map (user_column o) after))) 0 == 0) (same_from c.name name same) ∙ not_zero n h
  stands_known name c after same (User d ∷ before) n h = one (same_name d.name name) (stands_known name c after same before (n + 1) (omega arith))
    where
      one : (t : Bool) → is_unknown name (n + 1) (before ++ User c ∷ after) ≡ false
          → (unwrap_or (cond t (Some n) (position_from (is_named name) (n + 1) (filter_map (user_column o) (before ++ User c ∷ after)))) 0 == 0) ≡ false
      one true others = not_zero n h
      one false others = others
  stands_known name c after same (Generated g ∷ before) n h = stands_known name c after same before n h
  stands_known name c after same (Period p ∷ before) n h = stands_known name c after same before n h
  stands_known name c after same (Application p ∷ before) n h = stands_known name c after same before n h
  stands_known name c after same (Key names ∷ before) n h = stands_known name c after same before n h

  abbrev unknown_in : List Entry → List (List ℕ) → Bool
  unknown_in entries names = list_any (λ n. n == 0) (map (number_in (filter_map (user_column o) entries)) names)

  pub all_known : (entries : List Entry) (names : List (List ℕ)) → unknown_in entries names ≡ false → Each (HasUserColumn entries) names
  all_known entries [] e = tt
  all_known entries (name ∷ names) e =
      let parts = or_parts (is_unknown name 1 entries) (unknown_in entries names) e in (known_stands name entries 1 parts.0, all_known entries names parts.1)

  pub known_all : (entries : List Entry) (names : List (List ℕ)) → Each (HasUserColumn entries) names → unknown_in entries names ≡ false
  known_all entries [] e = refl
  known_all entries (name ∷ names) ((c, ((before, (after, place)), same)), e) =
      or_from (is_unknown name 1 entries) (unknown_in entries names)
      (ap (is_unknown name 1) place ∙ stands_known name c after same before 1 (omega arith)) (known_all entries names e)

-- the number that a name has
abbrev number_from : List ℕ → ℕ → List Column → ℕ
number_from name n columns = unwrap_or (position_from (is_named name) n columns) 0

-- its column stands so many places on
record At (name : List ℕ) (n : ℕ) (columns : List Column) (number : ℕ) : Type 0 where
  before : List Column
  column : Column
  after : List Column
  place : columns ≡ before ++ column ∷ after
  counted : number ≡ length before + n
  named : SameName column.name name

numbered : (name : List ℕ) (columns : List Column) (n : ℕ) → (number_from name n columns == 0) ≡ false → At name n columns (number_from name n columns)
numbered name [] n e = cc
numbered name (c ∷ columns) n e = one (same_name c.name name) refl e (numbered name columns (n + 1))
  where
    one : (t : Bool) → same_name c.name name ≡ t → (unwrap_or (cond t (Some n) (position_from (is_named name) (n + 1) columns)) 0 == 0) ≡ false
        → ((number_from name (n + 1) columns == 0) ≡ false → At name (n + 1) columns (number_from name (n + 1) columns))
        → At name n (c ∷ columns) (unwrap_or (cond t (Some n) (position_from (is_named name) (n + 1) columns)) 0)
    one true same e others = record { before = []; column = c; after = columns; place = refl; counted = omega arith; named = same_to c.name name same }
    one false same e others =
        let a = others e in
        record { before = c ∷ a.before; column = a.column; after = a.after; place = ap (λ l. c ∷ l) a.place; counted = omega (arith, a.counted); named = a.named }

pub numbers_are : (columns : List Column) (names : List (List ℕ)) → list_any (λ n. n == 0) (map (number_in columns) names) ≡ false → AreNumbersOf columns names (map (number_in columns) names)
numbers_are columns [] e = tt
numbers_are columns (name ∷ names) e =
    let parts = or_parts (number_in columns name == 0) (list_any (λ n. n == 0) (map (number_in columns) names)) e in
    let a = numbered name columns 1 parts.0 in
    (record { before = a.before; column = a.column; after = a.after; place = a.place; counted = a.counted; named = a.named }, numbers_are columns names parts.1)

-- where no two columns have one name, a name has one number
abbrev pub OneName : Column → Column → Type 0
OneName c e = SameName c.name e.name

number_at : (name : List ℕ) (c : Column) (after : List Column) → SameName c.name name → (before : List Column) (n : ℕ) → Apart OneName (before ++ c ∷ after)
    → position_from (is_named name) n (before ++ c ∷ after) ≡ Some (length before + n)
number_at name c after named [] n a =
    ap (λ t. cond t (Some n) (position_from (is_named name) (n + 1) after)) (same_from c.name name named) ∙ ap (λ k. Some k) (nothing_before n)
  where
    nothing_before : (n : ℕ) → n ≡ length {A = Column} [] + n
    nothing_before n = omega arith
number_at name c after named (e ∷ before) n (f, a) =
    ap (λ t. cond t (Some n) (position_from (is_named name) (n + 1) (before ++ c ∷ after))) (other (same_name e.name name) refl)
    ∙ number_at name c after named before (n + 1) a ∙ ap (λ k. Some k) (one_before n)
  where
    one_before : (n : ℕ) → length before + (n + 1) ≡ length (e ∷ before) + n
    one_before n = omega arith

    other : (t : Bool) → same_name e.name name ≡ t → t ≡ false
    other false q = refl
    other true q = absurd (each_at (λ x. OneName e x → ⊥) before after c f (same_to e.name name q ∙ sym named))

pub number_same : (columns : List Column) (name : List ℕ) (number : ℕ) → Apart OneName columns → IsNumberOf columns name number → number_in columns name ≡ number
number_same columns name number a is =
    ap (λ l. unwrap_or (position_from (is_named name) 1 l) 0) is.place
    ∙ ap (λ o. unwrap_or o 0) (number_at name is.column is.after is.named is.before 1 (subst (Apart OneName) is.place a)) ∙ sym is.counted

pub numbers_same : (columns : List Column) (names : List (List ℕ)) (numbers : List ℕ) → Apart OneName columns → AreNumbersOf columns names numbers → map (number_in columns) names ≡ numbers
numbers_same columns [] [] a e = refl
numbers_same columns [] (k ∷ numbers) a e = absurd e
numbers_same columns (name ∷ names) [] a e = absurd e
numbers_same columns (name ∷ names) (k ∷ numbers) a (is, e) =
    ap (λ n. n ∷ map (number_in columns) names) (number_same columns name k a is) ∙ ap (λ l. k ∷ l) (numbers_same columns names numbers a e)

module _ (o : Option ApplicationPeriod) where
  one_name_apart : (u : UserColumn) (entries : List Entry) → Each (λ y. ShareAName (User u) y → ⊥) entries → Each (λ (c : Column). SameName u.name c.name → ⊥) (filter_map (user_column o) entries)
  one_name_apart u [] e = tt
  one_name_apart u (User d ∷ entries) (f, e) = (λ s. f (u.name, (d.name, (refl, (refl, s)))), one_name_apart u entries e)
  one_name_apart u (Generated g ∷ entries) (f, e) = one_name_apart u entries e
  one_name_apart u (Period p ∷ entries) (f, e) = one_name_apart u entries e
  one_name_apart u (Application p ∷ entries) (f, e) = one_name_apart u entries e
  one_name_apart u (Key names ∷ entries) (f, e) = one_name_apart u entries e

  user_apart : (entries : List Entry) → Apart ShareAName entries → Apart OneName (filter_map (user_column o) entries)
  user_apart [] a = tt
  user_apart (User u ∷ entries) (e, a) = (one_name_apart u entries e, user_apart entries a)
  user_apart (Generated g ∷ entries) (e, a) = user_apart entries a
  user_apart (Period p ∷ entries) (e, a) = user_apart entries a
  user_apart (Application p ∷ entries) (e, a) = user_apart entries a
  user_apart (Key names ∷ entries) (e, a) = user_apart entries a

  pub users_differ : (entries : List Entry) → NoTwo ShareAName entries → Apart OneName (filter_map (user_column o) entries)
  users_differ entries n = user_apart entries (no_two_apart ShareAName entries n)

-- columns as they are declared
marked_stands : (marks : List Mark) → list_any is_not_null marks ≡ true → IsElement NotNull marks
marked_stands [] e = cc
marked_stands (NotNull ∷ marks) e = ([], (marks, refl))
marked_stands (PrimaryKey ∷ marks) e =
    let s = marked_stands marks e in (PrimaryKey ∷ s.0, (s.1.0, ap (λ l. PrimaryKey ∷ l) s.1.1))

stands_marked : (before after : List Mark) → list_any is_not_null (before ++ NotNull ∷ after) ≡ true
stands_marked [] after = refl
stands_marked (NotNull ∷ before) after = refl
stands_marked (PrimaryKey ∷ before) after = stands_marked before after

-- NOT NULL is given, or the column is one of the period
pub either_so : (a b : Bool) → (a || b) ≡ true → (a ≡ true) ⊎ (b ≡ true)
either_so true b e = inl refl
either_so false b e = inr e

left_so : (a b : Bool) → a ≡ true → (a || b) ≡ true
left_so a b e = ap (λ t. t || b) e

right_so : (a b : Bool) → b ≡ true → (a || b) ≡ true
right_so true b e = refl
right_so false b e = e

of_period_to : (o : Option ApplicationPeriod) (name : List ℕ) → is_of_period o name ≡ true → IsOfPeriod o name
of_period_to None name e = cc
of_period_to (Some p) name e = elim (either_so (same_name p.columns.start name) (same_name p.columns.end name) e) [
  | inl a ↦ inl (same_to p.columns.start name a)
  | inr b ↦ inr (same_to p.columns.end name b)
]

of_period_from : (o : Option ApplicationPeriod) (name : List ℕ) → IsOfPeriod o name → is_of_period o name ≡ true
of_period_from None name is = absurd is
of_period_from (Some p) name (inl a) = left_so (same_name p.columns.start name) (same_name p.columns.end name) (same_from p.columns.start name a)
of_period_from (Some p) name (inr b) = right_so (same_name p.columns.start name) (same_name p.columns.end name) (same_from p.columns.end name b)

not_null_to : (o : Option ApplicationPeriod) (u : UserColumn) → (list_any is_not_null u.marks || is_of_period o u.name) ≡ true → IsElement NotNull u.marks ⊎ IsOfPeriod o u.name
not_null_to o u e = elim (either_so (list_any is_not_null u.marks) (is_of_period o u.name) e) [
  | inl a ↦ inl (marked_stands u.marks a)
  | inr b ↦ inr (of_period_to o u.name b)
]

not_null_from : (o : Option ApplicationPeriod) (u : UserColumn) → IsElement NotNull u.marks ⊎ IsOfPeriod o u.name → (list_any is_not_null u.marks || is_of_period o u.name) ≡ true
not_null_from o u (inl s) = left_so (list_any is_not_null u.marks) (is_of_period o u.name) (ap (list_any is_not_null) s.1.1 ∙ stands_marked s.0 s.1.0)
not_null_from o u (inr is) = right_so (list_any is_not_null u.marks) (is_of_period o u.name) (of_period_from o u.name is)

same_truth : (a b : Bool) → (a ≡ true → b ≡ true) → (b ≡ true → a ≡ true) → a ≡ b
same_truth true b f g = sym (f refl)
same_truth false true f g = g refl
same_truth false false f g = refl

module _ (o : Option ApplicationPeriod) where
  pub columns_are : (entries : List Entry) → AreColumnsOf o entries (filter_map (user_column o) entries)
  columns_are [] = tt
  columns_are (User u ∷ entries) = (
    record { named = refl; of_type = refl; marked = (not_null_to o u, not_null_from o u) },
    columns_are entries,
  )
  columns_are (Generated g ∷ entries) = columns_are entries
  columns_are (Period p ∷ entries) = columns_are entries
  columns_are (Application p ∷ entries) = columns_are entries
  columns_are (Key names ∷ entries) = columns_are entries

  column_same : (u : UserColumn) (c : Column) → IsColumnOf o u c → record { name = u.name; of = u.of; not_null = list_any is_not_null u.marks || is_of_period o u.name } ≡ c
  column_same u c is =
      let marked = list_any is_not_null u.marks || is_of_period o u.name in
      ap (λ n. record { name = n; of = u.of; not_null = marked }) (sym is.named) ∙ ap (λ t. record { name = c.name; of = t; not_null = marked }) (sym is.of_type)
      ∙ ap (λ b. record { name = c.name; of = c.of; not_null = b }) (same_truth marked c.not_null (λ e. is.marked.1 (not_null_to o u e)) (λ e. not_null_from o u (is.marked.0 e)))

  pub columns_same : (entries : List Entry) (cs : List Column) → AreColumnsOf o entries cs → filter_map (user_column o) entries ≡ cs
  columns_same [] [] e = refl
  columns_same [] (c ∷ cs) e = absurd e
  columns_same (User u ∷ entries) [] e = absurd e
  columns_same (User u ∷ entries) (c ∷ cs) (is, e) =
      ap (λ x. x ∷ filter_map (user_column o) entries) (column_same u c is) ∙ ap (λ l. c ∷ l) (columns_same entries cs e)
  columns_same (Generated g ∷ entries) cs e = columns_same entries cs e
  columns_same (Period p ∷ entries) cs e = columns_same entries cs e
  columns_same (Application p ∷ entries) cs e = columns_same entries cs e
  columns_same (Key names ∷ entries) cs e = columns_same entries cs e

  -- how many user columns
  pub user_count : (entries : List Entry) → length (filter_map (user_column o) entries) ≡ count_by is_user entries
  user_count [] = refl
  user_count (x ∷ entries) = one x (user_count entries) ∙ sym (sum_by-cons (λ y. cond (is_user y) 1 0) x entries)
    where
      one : (x : Entry) → length (filter_map (user_column o) entries) ≡ count_by is_user entries → length (filter_map (user_column o) (x ∷ entries)) ≡ cond (is_user x) 1 0 + count_by is_user entries
      one (User c) h = omega (arith, h)
      one (Generated g) h = omega (arith, h)
      one (Period p) h = omega (arith, h)
      one (Application p) h = omega (arith, h)
      one (Key names) h = omega (arith, h)

-- the names of columns
clash_from : (x : Entry) (a : List ℕ) → Declares x a → (entries : List Entry) → Each (λ y. ShareAName x y → ⊥) entries → Each (λ b. SameName a b → ⊥) (filter_map declared_name entries)
clash_from x a d [] e = tt
clash_from x a d (User c ∷ entries) (f, e) = (λ s. f (a, (c.name, (d, (refl, s)))), clash_from x a d entries e)
clash_from x a d (Generated g ∷ entries) (f, e) = (λ s. f (a, (g.name, (d, (refl, s)))), clash_from x a d entries e)
clash_from x a d (Application p ∷ entries) (f, e) = (λ s. f (a, (p.name, (d, (refl, s)))), clash_from x a d entries e)
clash_from x a d (Period p ∷ entries) (f, e) = clash_from x a d entries e
clash_from x a d (Key names ∷ entries) (f, e) = clash_from x a d entries e

clash_to : (x : Entry) (n : List ℕ) → ((a : List ℕ) → Declares x a → n ≡ a) → (entries : List Entry) → Each (λ b. SameName n b → ⊥) (filter_map declared_name entries) → Each (λ y. ShareAName x y → ⊥) entries
clash_to x n d [] e = tt
clash_to x n d (User c ∷ entries) (f, e) =
    (λ s. f (ap lower (d s.0 s.1.1.0) ∙ s.1.1.1.1 ∙ ap lower (sym s.1.1.1.0)), clash_to x n d entries e)
clash_to x n d (Generated g ∷ entries) (f, e) =
    (λ s. f (ap lower (d s.0 s.1.1.0) ∙ s.1.1.1.1 ∙ ap lower (sym s.1.1.1.0)), clash_to x n d entries e)
clash_to x n d (Application p ∷ entries) (f, e) =
    (λ s. f (ap lower (d s.0 s.1.1.0) ∙ s.1.1.1.1 ∙ ap lower (sym s.1.1.1.0)), clash_to x n d entries e)
clash_to x n d (Period p ∷ entries) e = (λ s. s.1.1.1.0, clash_to x n d entries e)
clash_to x n d (Key names ∷ entries) e = (λ s. s.1.1.1.0, clash_to x n d entries e)

names_apart : (entries : List Entry) → Apart ShareAName entries → Apart SameName (filter_map declared_name entries)
names_apart [] a = tt
names_apart (User c ∷ entries) (e, a) = (clash_from (User c) c.name refl entries e, names_apart entries a)
names_apart (Generated g ∷ entries) (e, a) = (clash_from (Generated g) g.name refl entries e, names_apart entries a)
names_apart (Application p ∷ entries) (e, a) = (clash_from (Application p) p.name refl entries e, names_apart entries a)
names_apart (Period p ∷ entries) (e, a) = names_apart entries a
names_apart (Key names ∷ entries) (e, a) = names_apart entries a

apart_names : (entries : List Entry) → Apart SameName (filter_map declared_name entries) → Apart ShareAName entries
apart_names [] a = tt
apart_names (User c ∷ entries) (e, a) = (clash_to (User c) c.name (λ n p. p) entries e, apart_names entries a)
apart_names (Generated g ∷ entries) (e, a) = (clash_to (Generated g) g.name (λ n p. p) entries e, apart_names entries a)
apart_names (Application p ∷ entries) (e, a) = (clash_to (Application p) p.name (λ n p. p) entries e, apart_names entries a)
apart_names (Period p ∷ entries) a = (each_placed (λ y. ShareAName (Period p) y → ⊥) entries (λ before after y place s. s.1.1.0), apart_names entries a)
apart_names (Key names ∷ entries) a = (each_placed (λ y. ShareAName (Key names) y → ⊥) entries (λ before after y place s. s.1.1.0), apart_names entries a)

pub columns_differ : (entries : List Entry) → are_distinct (filter_map declared_name entries) ≡ true → NoTwo ShareAName entries
columns_differ entries e = apart_no_two ShareAName entries (apart_names entries (distinct_apart (filter_map declared_name entries) e))

pub differ_columns : (entries : List Entry) → NoTwo ShareAName entries → are_distinct (filter_map declared_name entries) ≡ true
differ_columns entries n = apart_distinct (filter_map declared_name entries) (names_apart entries (no_two_apart ShareAName entries n))

-- NOT NULL once at most
abbrev BothNotNull : Mark → Mark → Type 0
BothNotNull a b = (a ≡ NotNull) × (b ≡ NotNull)

abbrev count : List Mark → ℕ
count marks = count_by is_not_null marks

counted : (m : Mark) (marks : List Mark) → count (m ∷ marks) ≡ cond (is_not_null m) 1 0 + count marks
counted m marks = sum_by-cons (λ m. cond (is_not_null m) 1 0) m marks

none_counted : (marks : List Mark) → count marks ≤ 0 → Each (λ m. m ≡ NotNull → ⊥) marks
none_counted [] h = tt
none_counted (NotNull ∷ marks) h = absurd (omega (arith, h, counted NotNull marks))
none_counted (PrimaryKey ∷ marks) h = (λ e. cc, none_counted marks (omega (arith, h, counted PrimaryKey marks)))

counted_none : (marks : List Mark) → Each (λ m. m ≡ NotNull → ⊥) marks → count marks ≤ 0
counted_none [] e = omega arith
counted_none (NotNull ∷ marks) (f, e) = absurd (f refl)
counted_none (PrimaryKey ∷ marks) (f, e) = omega (arith, counted PrimaryKey marks, counted_none marks e)

few_apart : (marks : List Mark) → count marks ≤ 1 → Apart BothNotNull marks
few_apart [] h = tt
few_apart (NotNull ∷ marks) h =
    let left : count marks ≤ 0 = omega (arith, h, counted NotNull marks) in
    (each_to (λ m. m ≡ NotNull → ⊥) (λ m. BothNotNull NotNull m → ⊥) (λ m f both. f both.1) marks (none_counted marks left), few_apart marks (omega (arith, left)))
few_apart (PrimaryKey ∷ marks) h =
    (each_placed (λ m. BothNotNull PrimaryKey m → ⊥) marks (λ before after m place both. other both.0), few_apart marks (omega (arith, h, counted PrimaryKey marks)))
  where
    other : ◌≡◌ {A = Mark} PrimaryKey NotNull → ⊥
    other e = cc

apart_few : (marks : List Mark) → Apart BothNotNull marks → count marks ≤ 1
apart_few [] a = omega arith
apart_few (NotNull ∷ marks) (e, a) =
    omega (arith, counted NotNull marks, counted_none marks (each_to (λ m. BothNotNull NotNull m → ⊥) (λ m. m ≡ NotNull → ⊥) (λ m f n. f (refl, n)) marks e))
apart_few (PrimaryKey ∷ marks) (e, a) = omega (arith, counted PrimaryKey marks, apart_few marks a)

-- what stands in one entry
type_good : (of : ColumnType) → is_good_type of ≡ true → TypeIsGood of
type_good (Varchar n) e = let p = and_parts (nat_le 1 n) (nat_le n 1000) e in (le_from 1 n p.0, le_from n 1000 p.1)
type_good Int e = tt
type_good Text e = tt
type_good Boolean e = tt

good_type : (of : ColumnType) → TypeIsGood of → is_good_type of ≡ true
good_type (Varchar n) (a, b) = and_from (nat_le 1 n) (nat_le n 1000) (le_to 1 n a) (le_to n 1000 b)
good_type Int e = refl
good_type Text e = refl
good_type Boolean e = refl

digits_good : (digits : Option ℕ) → is_good_precision digits ≡ true → DigitsAreGood digits
digits_good None e = tt
digits_good (Some n) e = le_from n 12 e

good_digits : (digits : Option ℕ) → DigitsAreGood digits → is_good_precision digits ≡ true
good_digits None e = refl
good_digits (Some n) e = le_to n 12 e

not_both : (a b : Bool) → not (a && b) ≡ true → a ≡ true → b ≡ true → ⊥
not_both true true e p q = cc
not_both true false e p q = cc
not_both false b e p q = cc

both_not : (a b : Bool) → (a ≡ true → b ≡ true → ⊥) → not (a && b) ≡ true
both_not true true f = absurd (f refl refl)
both_not true false f = refl
both_not false b f = refl

entry_good : (x : Entry) → is_good_entry x ≡ true → EntryIsGood x
entry_good (User c) e =
    let p = and_parts (is_good_type c.of) (nat_le (count c.marks) 1) e in
    (type_good c.of p.0, apart_no_two BothNotNull c.marks (few_apart c.marks (le_from (count c.marks) 1 p.1)))
entry_good (Generated g) e =
    let p = and_parts (is_good_precision g.digits) (not (g.not_null_before && g.not_null_after)) e in
    (digits_good g.digits p.0, not_both g.not_null_before g.not_null_after p.1)
entry_good (Period p) e = tt
entry_good (Application p) e = tt
entry_good (Key names) e = tt

good_entry : (x : Entry) → EntryIsGood x → is_good_entry x ≡ true
good_entry (User c) (type, once) =
    and_from (is_good_type c.of) (nat_le (count c.marks) 1) (good_type c.of type) (le_to (count c.marks) 1 (apart_few c.marks (no_two_apart BothNotNull c.marks once)))
good_entry (Generated g) (digits, once) =
    and_from (is_good_precision g.digits) (not (g.not_null_before && g.not_null_after)) (good_digits g.digits digits) (both_not g.not_null_before g.not_null_after once)
good_entry (Period p) e = refl
good_entry (Application p) e = refl
good_entry (Key names) e = refl

pub entries_good : (entries : List Entry) → list_all is_good_entry entries ≡ true → Each EntryIsGood entries
entries_good [] e = tt
entries_good (x ∷ entries) e = let p = and_parts (is_good_entry x) (list_all is_good_entry entries) e in (entry_good x p.0, entries_good entries p.1)

pub good_entries : (entries : List Entry) → Each EntryIsGood entries → list_all is_good_entry entries ≡ true
good_entries [] e = refl
good_entries (x ∷ entries) (g, e) = and_from (is_good_entry x) (list_all is_good_entry entries) (good_entry x g) (good_entries entries e)
