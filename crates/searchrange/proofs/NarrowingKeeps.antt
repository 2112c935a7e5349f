-- Each key that meets the comparisons stays in the range as they narrow it.
use Rattle.std.proofs.Common.{◌≡◌, ℕ, ◌+◌, List, [], ◌∷◌, ◌++◌, ◌==◌, ◌&&◌, Bool, true, false, Option, Some, None, length, get_or, refl, sym, subst, ap, ◌∙◌, arith, if◌then◌else◌, suc, append_assoc, All}
use Rattle.std.specs.Prelude.{position, option_and_then}
use Rattle.std.proofs.lemmas.Bool.{and_parts}
use Rattle.std.proofs.lemmas.Bool.Decides.{nat_tests}
use Rattle.std.proofs.lemmas.List.Elements.{All-head, All-tail, All-cons, All-nil}
use Rattle.std.proofs.lemmas.List.Quantifiers.{position-Some}
use Rattle.std.proofs.lemmas.Option.{get_or_from_slice_get}
use Rattle.std.specs.List.{slice_get, list_all, flat_map}
use Rattle.std.specs.declared.cmp.Ordering.{Ordering}
use Rattle.std.specs.declared.cmp.Ordering.TheVariants.{Less, Equal, Greater}
use Rattle.values.specs.declared.value.Value.{Value}
use Rattle.values.specs.declared.table.Table.{Table}
use Rattle.values.specs.declared.table.Column.{Column}
use Rattle.values.specs.declared.key.Key.{Key}
use Rattle.values.specs.declared.query.Operator.{Operator}
use Rattle.values.specs.declared.query.Operator.TheVariants.{Equal as IsEqual, Below, AtMost, Above, AtLeast}
use Rattle.values.specs.declared.query.Comparison.{Comparison}
use Rattle.values.specs.Order.{value_cmp}
use Rattle.values.specs.Tables.{column_at, is_key_column}
use Rattle.values.specs.Fit.{can_compare, parts_fault, part_fault, comparison_fault, comparisons_fault}
use Rattle.values.specs.KeyEncoding.{part_bytes}
use Rattle.values.specs.KeyEncodingLaw.{IsStorable}
use Rattle.values.specs.Versions.{compares, part_of, holds}
use Rattle.values.proofs.KeyLengths.{FitsColumn, part_fits, first_none}
use Rattle.values.proofs.OrderTotal.{value_cmp-IsAntisymmetric}
use Rattle.keyrange.specs.declared.range.KeyRange.{KeyRange}
use Rattle.keyrange.specs.Range.{is_key_in}
use Rattle.searchrange.specs.SearchRange.{narrowed, is_equality, is_place, is_at, narrowed_at, equal_at, narrowed_from}
use Rattle.searchrange.proofs.PrefixBytes.{AreBytes, behind, bytes_cmp}
use Rattle.searchrange.proofs.NarrowingInRange.{Compared, in_narrowed}
use Rattle.searchrange.proofs.PrefixValueBytes.{compared_cmp}

equal : (a b : ℕ) → (a == b) ≡ true → a ≡ b
equal a b e = grind (arith, nat_tests)

-- a comparison that the table does not refuse, with a value that a program holds, and that a key meets
pub record IsMet (table : Table) (key : Key) (c : Comparison) : Type 0 where
  pub held : holds table key c ≡ true
  pub good : comparison_fault table c ≡ None
  pub stored : IsStorable c.value

pub all_met : (table : Table) (key : Key) (cs : List Comparison) → list_all (holds table key) cs ≡ true → comparisons_fault table cs ≡ None → All (λ c. IsStorable c.value) cs
    → All (IsMet table key) cs
all_met table key [] h f s = All-nil (IsMet table key)
all_met table key (c ∷ cs) h f s =
    let both = and_parts (holds table key c) (list_all (holds table key) cs) h in
    let none = first_none (comparison_fault table c) (comparisons_fault table cs) f in
    All-cons (IsMet table key) c cs (record { held = both.0; good = none.0; stored = All-head (λ (c : Comparison). IsStorable c.value) c cs s })
    (all_met table key cs both.1 none.1 (All-tail (λ (c : Comparison). IsStorable c.value) c cs s))

-- what follows for each
pub every : {A B : Comparison → Type 0} → ((c : Comparison) → A c → B c) → (cs : List Comparison) → All A cs → All B cs
every {A} {B} f [] h = All-nil B
every {A} {B} f (c ∷ cs) h = All-cons B c cs (f c (All-head A c cs h)) (every f cs (All-tail A c cs h))

-- the column that a comparison names, where the table does not refuse it
pub record Named (table : Table) (c : Comparison) : Type 0 where
  pub column : Column
  pub found : column_at table c.column ≡ Some column
  pub comparable : can_compare column.of c.value ≡ true

pub named : (table : Table) (c : Comparison) → comparison_fault table c ≡ None → Named table c
named table c e = by (column_at table c.column) refl e
  where
    tested : (t u : Bool) → ◌≡◌ {A = Option ℕ} (if t && u then None else Some c.column) None → u ≡ true
    tested true true e = refl
    tested true false e = cc
    tested false u e = cc

    by : (o : Option Column) → column_at table c.column ≡ o
        → ◌≡◌ {A = Option ℕ} (elim o [ None ↦ Some 0 | Some column ↦ if is_key_column table c.column && can_compare column.of c.value then None else Some c.column ]) None → Named table c
    by None at e = cc
    by (Some column) at e = record { column = column; found = at; comparable = tested (is_key_column table c.column) (can_compare column.of c.value) e }

-- what stands at a place of the key, and what its bytes go on with
pub record StandsAt (table : Table) (key : Key) (b : List ℕ) (place : ℕ) (prefix : List ℕ) : Type 0 where
  pub number : ℕ
  pub value : Value
  pub rest : List ℕ
  pub number_is : slice_get table.key place ≡ Some number
  pub value_is : slice_get key.parts place ≡ Some value
  pub fits : FitsColumn table number value
  pub stored : IsStorable value
  pub spelled : b ≡ prefix ++ (part_bytes value ++ rest)
  pub are_bytes : AreBytes b

pub placed : (place : ℕ) (o : Option ℕ) → is_place place o ≡ true → o ≡ Some place
placed place None e = cc
placed place (Some n) e = ap Some (equal n place e)

pub is_equal : (o : Ordering) → compares IsEqual o ≡ true → o ≡ Equal
is_equal Equal e = refl
is_equal Less e = cc
is_equal Greater e = cc

pub equality : (op : Operator) → is_equality op ≡ true → op ≡ IsEqual
equality IsEqual e = refl
equality Below e = cc
equality AtMost e = cc
equality Above e = cc
equality AtLeast e = cc

module _ (table : Table) (key : Key) (b : List ℕ) (place : ℕ) (prefix : List ℕ) (s : StandsAt table key b place prefix) where
  position_is : (c : Comparison) → is_at table place c ≡ true → position (λ k. k == c.column) table.key ≡ Some place
  position_is c e = placed place (position (λ k. k == c.column) table.key) e

  -- the comparison holds just where the value compares so
  pub holds_by_value : (c : Comparison) → is_at table place c ≡ true → holds table key c ≡ compares c.operator (value_cmp s.value c.value)
  holds_by_value c e =
      let at : part_of table key c.column ≡ Some s.value = ap (option_and_then (slice_get key.parts)) (position_is c e) ∙ s.value_is in
      ap (λ (o : Option Value). elim o [ None ↦ false | Some value ↦ compares c.operator (value_cmp value c.value) ]) at

  compares_so : (c : Comparison) → IsMet table key c → is_at table place c ≡ true → compares c.operator (value_cmp s.value c.value) ≡ true
  compares_so c h e = sym (holds_by_value c e) ∙ h.held

  -- where a comparison is of this place, it holds
  abbrev pub Agrees : Comparison → Type 0
  Agrees c = is_at table place c ≡ true → holds table key c ≡ true

  same_column : (c : Comparison) → is_at table place c ≡ true → s.number ≡ c.column
  same_column c e =
      let at = position-Some (λ k. k == c.column) table.key place 0 (position_is c e) in
      sym (get_or_from_slice_get table.key place s.number 0 s.number_is) ∙ equal (get_or table.key place 0) c.column at.1

  pub compared : (c : Comparison) → comparison_fault table c ≡ None → IsStorable c.value → is_at table place c ≡ true → Compared (value_cmp s.value c.value) b (prefix ++ part_bytes c.value) s.rest
  compared c good stored e =
      let n = named table c good in
      let one : Some s.fits.column ≡ Some n.column = sym s.fits.found ∙ ap (column_at table) (same_column c e) ∙ n.found in
      let same : s.fits.column ≡ n.column = cc in
      let comparable : can_compare s.fits.column.of c.value ≡ true = subst (λ (x : Column). can_compare x.of c.value ≡ true) (sym same) n.comparable in
      record {
        compare = λ ys.
            ap (λ k. bytes_cmp k ((prefix ++ part_bytes c.value) ++ ys)) s.spelled
            ∙ ap (bytes_cmp (prefix ++ (part_bytes s.value ++ s.rest))) (append_assoc prefix (part_bytes c.value) ys)
            ∙ behind prefix (part_bytes s.value ++ s.rest) (part_bytes c.value ++ ys)
            ∙ compared_cmp s.fits.column.of s.value c.value s.rest ys s.fits.typed comparable s.stored stored;
        begins = λ t.
            s.spelled ∙ ap (λ v. prefix ++ (part_bytes v ++ s.rest)) (value_cmp-IsAntisymmetric s.value c.value t) ∙ sym (append_assoc prefix (part_bytes c.value) s.rest);
        are_bytes = s.are_bytes;
      }

  in_narrowed_at : (cs : List Comparison) (range : KeyRange) → All (IsMet table key) cs → is_key_in range b ≡ true → is_key_in (narrowed_at table place prefix cs range) b ≡ true
  in_narrowed_at [] range h k = k
  in_narrowed_at (c ∷ cs) range h k =
      in_narrowed_at cs (if is_at table place c then narrowed c.operator (prefix ++ part_bytes c.value) range else range) (All-tail (IsMet table key) c cs h)
      (by (is_at table place c) refl)
    where
      by : (t : Bool) → is_at table place c ≡ t → is_key_in (if t then narrowed c.operator (prefix ++ part_bytes c.value) range else range) b ≡ true
      by false e = k
      by true e =
          let met = All-head (IsMet table key) c cs h in
          in_narrowed c.operator (value_cmp s.value c.value) b (prefix ++ part_bytes c.value) s.rest range (compared c met.good met.stored e) (compares_so c met e) k

  -- the value that it is to be equal to is its own
  pub own_value : (cs : List Comparison) (w : Value) → All Agrees cs → equal_at table place cs ≡ Some w → s.value ≡ w
  own_value [] w h e = cc
  own_value (c ∷ cs) w h e = by (is_at table place c && is_equality c.operator) refl e (own_value cs w (All-tail Agrees c cs h))
    where
      by : (t : Bool) → (is_at table place c && is_equality c.operator) ≡ t → (if t then Some c.value else equal_at table place cs) ≡ Some w → (equal_at table place cs ≡ Some w → s.value ≡ w)
          → s.value ≡ w
      by false at e rest = rest e
      by true at e rest =
          let both = and_parts (is_at table place c) (is_equality c.operator) at in
          let is : c.value ≡ w = cc in
          let so = sym (holds_by_value c both.0) ∙ All-head Agrees c cs h both.0 in
          value_cmp-IsAntisymmetric s.value c.value (is_equal (value_cmp s.value c.value) (subst (λ op. compares op (value_cmp s.value c.value) ≡ true) (equality c.operator both.1) so)) ∙ is

module _ (table : Table) (key : Key) (b : List ℕ) (cs : List Comparison) (met : All (IsMet table key) cs) (bytes : AreBytes b) where
  pub in_narrowed_from : (columns : List ℕ) (vs : List Value) (place : ℕ) (prefix : List ℕ) (range : KeyRange) → length columns ≡ length vs → parts_fault table columns vs ≡ None → All IsStorable vs
      → ((i : ℕ) → slice_get columns i ≡ slice_get table.key (place + i)) → ((i : ℕ) → slice_get vs i ≡ slice_get key.parts (place + i)) → b ≡ prefix ++ flat_map part_bytes vs
      → is_key_in range b ≡ true → is_key_in (narrowed_from table cs place prefix columns range) b ≡ true
  in_narrowed_from [] vs place prefix range l f g p q e k = k
  in_narrowed_from (n ∷ ns) [] place prefix range l f g p q e k = absurd (omega (arith, l))
  in_narrowed_from (n ∷ ns) (v ∷ vs) place prefix range l f g p q e k =
      let none = first_none (part_fault table n v) (parts_fault table ns vs) f in
      let here : place + 0 ≡ place = omega arith in
      let s : StandsAt table key b place prefix = record {
        number = n;
        value = v;
        rest = flat_map part_bytes vs;
        number_is = ap (slice_get table.key) (sym here) ∙ sym (p 0);
        value_is = ap (slice_get key.parts) (sym here) ∙ sym (q 0);
        fits = part_fits table n v none.0;
        stored = All-head IsStorable v vs g;
        spelled = e;
        are_bytes = bytes;
      } in
      let inside = in_narrowed_at table key b place prefix s cs range met k in
      by s inside (equal_at table place cs) refl
      (λ w is. in_narrowed_from ns vs (place + 1) (prefix ++ part_bytes w) (narrowed_at table place prefix cs range) (omega (arith, l)) none.1 (All-tail IsStorable v vs g)
      (λ i. p (suc i) ∙ ap (slice_get table.key) (omega arith)) (λ i. q (suc i) ∙ ap (slice_get key.parts) (omega arith))
      (e ∙ ap (λ x. prefix ++ (part_bytes x ++ flat_map part_bytes vs)) (own_value table key b place prefix s cs w (every {A = IsMet table key} {B = Agrees table key b place prefix s} (λ c h e. h.held) cs met) is) ∙ sym (append_assoc prefix (part_bytes w) (flat_map part_bytes vs))) inside)
    where
      by : StandsAt table key b place prefix → is_key_in (narrowed_at table place prefix cs range) b ≡ true → (o : Option Value) → equal_at table place cs ≡ o
          → ((w : Value) → equal_at table place cs ≡ Some w → is_key_in (narrowed_from table cs (place + 1) (prefix ++ part_bytes w) ns (narrowed_at table place prefix cs range)) b ≡ true)
          → is_key_in
          (elim o [
            | None ↦ narrowed_at table place prefix cs range
            | Some value ↦ narrowed_from table cs (place + 1) (prefix ++ part_bytes value) ns (narrowed_at table place prefix cs range)
          ]) b ≡ true
      by s inside None is more = inside
      by s inside (Some w) is more = more w is
