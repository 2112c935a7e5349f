-- Keys in the range meet the comparisons of the columns that narrow it.
use Rattle.std.proofs.Common.{◌≡◌, ◌⊎◌, ⊎_elim, inl, inr, ℕ, ◌+◌, ◌*◌, ◌<◌, ◌≤◌, List, [], ◌∷◌, ◌++◌, ◌==◌, ◌&&◌, Bool, true, false, not, Option, Some, None, length, nat_le, nat_lt, refl, sym, subst, ap, ◌∙◌, arith, if◌then◌else◌, suc, append_assoc, length-append, All, IfSome}
use Rattle.std.specs.Prelude.{position}
use Rattle.std.proofs.lemmas.Bool.{and_parts}
use Rattle.std.proofs.lemmas.Bool.Decides.{nat_tests}
use Rattle.std.proofs.lemmas.List.Elements.{All-head, All-tail, All-cons, All-nil}
use Rattle.std.specs.List.{slice_get, list_all, flat_map}
use Rattle.std.specs.Ordering.{is_lt}
use Rattle.std.specs.declared.cmp.Ordering.{Ordering}
use Rattle.std.specs.declared.cmp.Ordering.TheVariants.{Less, Equal, Greater}
use Rattle.values.specs.declared.value.Value.{Value}
use Rattle.values.specs.declared.table.Table.{Table}
use Rattle.values.specs.declared.key.Key.{Key}
use Rattle.values.specs.declared.query.Operator.{Operator}
use Rattle.values.specs.declared.query.Operator.TheVariants.{Equal as IsEqual, Below, AtMost, Above, AtLeast}
use Rattle.values.specs.declared.query.Comparison.{Comparison}
use Rattle.values.specs.declared.query.Keys.{Keys}
use Rattle.values.specs.Order.{value_cmp}
use Rattle.values.specs.TableRules.{IsTable}
use Rattle.values.specs.Fit.{parts_fault, part_fault, comparison_fault, comparisons_fault}
use Rattle.values.specs.KeyEncoding.{part_bytes, bytes_of_key}
use Rattle.values.specs.KeyEncodingLaw.{IsStorable}
use Rattle.values.specs.Versions.{compares, holds}
use Rattle.values.proofs.KeyLengths.{FitsKey, key_fits, part_fits, first_none, part_bytes_length}
use Rattle.keyrange.specs.declared.range.KeyRange.{KeyRange}
use Rattle.keyrange.specs.Range.{is_below, is_before_end, is_key_in}
use Rattle.keyrange.proofs.RangeOrder.{above as below_other}
use Rattle.searchrange.specs.SearchRange.{next_prefix, is_bound, from_bytes, before_bytes, after_prefix, upto_prefix, narrowed, is_place, is_at, narrowed_at, equal_at, narrowed_from, narrowing_end, is_before_place, range_of_table, all_narrow, search_range, TakesAll}
use Rattle.searchrange.proofs.PrefixBytes.{AreBytes, none_above, past, not_below_none}
use Rattle.searchrange.proofs.NarrowingInRange.{Compared, low, high, tied_low, less, greater_low, tied_high, less_high, above, not_true}
use Rattle.searchrange.proofs.NarrowingWithin.{upto_within, at_within, from_place_within}
use Rattle.searchrange.proofs.PrefixValueBytes.{compared_short, fitting_short, key_are_bytes}
use Rattle.searchrange.proofs.NarrowingCovers.{all_storable}
use Rattle.searchrange.proofs.NarrowingKeeps.{StandsAt, named, every, compared, holds_by_value, own_value, Agrees}

-- ---- what a narrowed range says of its keys

out_from : (e b : List ℕ) (range : KeyRange) → is_bound e ≡ true → is_key_in (from_bytes e range) b ≡ true → is_below b e ≡ false
out_from e b range bound h = by (is_bound e) (is_below range.lo e) bound refl h
  where
    not_lower : is_below range.lo e ≡ false → is_below b range.lo ≡ false → (t : Bool) → is_below b e ≡ t → t ≡ false
    not_lower k l false at = refl
    not_lower k l true at = let m : is_below range.lo e ≡ true = below_other b range.lo e l at in cc

    by : (s t : Bool) → s ≡ true → is_below range.lo e ≡ t → is_key_in (if s && t then record { lo = e; hi = range.hi } else range) b ≡ true → is_below b e ≡ false
    by true true d k h = not_true (is_below b e) ((and_parts (not (is_below b e)) (is_before_end b range.hi) h).0)
    by true false d k h = not_lower k (low range b h) (is_below b e) refl
    by false t d k h = cc

out_before : (e b : List ℕ) (range : KeyRange) → is_bound e ≡ true → is_key_in (before_bytes e range) b ≡ true → is_below b e ≡ true
out_before e b range bound h = by (is_bound e) (is_before_end e range.hi) bound refl h
  where
    not_higher : (end : List ℕ) → is_below e end ≡ false → is_below b end ≡ true → (t : Bool) → is_below b e ≡ t → t ≡ true
    not_higher end k l true at = refl
    not_higher end k l false at = let m : is_below e end ≡ true = below_other b e end at l in cc

    by_end : (end : Option (List ℕ)) → is_before_end e end ≡ false → is_before_end b end ≡ true → is_below b e ≡ true
    by_end None k l = cc
    by_end (Some end) k l = not_higher end k l (is_below b e) refl

    by : (s t : Bool) → s ≡ true → is_before_end e range.hi ≡ t → is_key_in (if s && t then record { lo = range.lo; hi = Some e } else range) b ≡ true → is_below b e ≡ true
    by true true d k h = (and_parts (not (is_below b range.lo)) (is_below b e) h).1
    by true false d k h = by_end range.hi k (high range b h)
    by false t d k h = cc

next_length : (e : List ℕ) → IfSome (next_prefix e) (λ n. length n ≤ length e)
next_length [] = tt
next_length (c ∷ cs) = by (next_prefix cs) (next_length cs)
  where
    by_byte : (t : Bool) → IfSome (if t then None else Some ((c + 1) ∷ [])) (λ n. length n ≤ suc (length cs))
    by_byte true = tt
    by_byte false = omega arith

    by : (o : Option (List ℕ)) → IfSome o (λ m. length m ≤ length cs) → IfSome (elim o [ Some more ↦ Some (c ∷ more) | None ↦ if c == 255 then None else Some ((c + 1) ∷ []) ]) (λ n. length n ≤ suc (length cs))
    by (Some m) h = omega (arith, h)
    by None h = by_byte (c == 255)

at_most : (n : ℕ) → n ≤ 1609 → nat_le n 1609 ≡ true
at_most n h = grind (arith, nat_tests, h)

module _ (o : Ordering) (b e rest : List ℕ) (range : KeyRange) (h : Compared o b e rest) (short : length e ≤ 1609) where
  bound : is_bound e ≡ true
  bound = at_most (length e) short

  not_greater : is_key_in (upto_prefix e range) b ≡ true → o ≡ Greater → ⊥
  not_greater k g = by (next_prefix e) refl k (past e b h.are_bytes (above o b e rest h g)) (next_length e)
    where
      by : (p : Option (List ℕ)) → next_prefix e ≡ p → is_key_in (elim p [ None ↦ range | Some next ↦ before_bytes next range ]) b ≡ true → IfSome p (λ n. is_below b n ≡ false)
          → IfSome p (λ n. length n ≤ length e) → ⊥
      by None at k f l = none_above e b at h.are_bytes (above o b e rest h g)
      by (Some n) at k f l = let t : is_below b n ≡ true = out_before n b range (at_most (length n) (omega (arith, l, short))) k in cc

  not_upto : is_key_in (after_prefix e range) b ≡ true → IfSome (next_prefix e) (λ n. is_below b n ≡ true) → ⊥
  not_upto k f = by (next_prefix e) k f (next_length e)
    where
      by : (p : Option (List ℕ)) → is_key_in (elim p [ None ↦ before_bytes [] range | Some next ↦ from_bytes next range ]) b ≡ true → IfSome p (λ n. is_below b n ≡ true)
          → IfSome p (λ n. length n ≤ length e) → ⊥
      by None k f l = let t : is_below b [] ≡ true = out_before [] b range refl k in let u : is_below b [] ≡ false = not_below_none b in cc
      by (Some n) k f l = let t : is_below b n ≡ false = out_from n b range (at_most (length n) (omega (arith, l, short))) k in cc

  not_less : is_key_in (from_bytes e range) b ≡ true → o ≡ Less → ⊥
  not_less k t = let x : is_below b e ≡ false = out_from e b range bound k in let y : is_below b e ≡ true = ap is_lt (less o b e rest h t) in cc

  is_less : is_key_in (before_bytes e range) b ≡ true → is_below b e ≡ false → ⊥
  is_less k x = let y : is_below b e ≡ true = out_before e b range bound k in cc

compared_back : (op : Operator) (o p : Ordering) (b e rest : List ℕ) (range : KeyRange) → o ≡ p → Compared o b e rest → length e ≤ 1609 → is_key_in (narrowed op e range) b ≡ true → compares op p ≡ true
compared_back IsEqual o Equal b e rest range t h l k = refl
compared_back IsEqual o Less b e rest range t h l k = absurd (not_less o b e rest range h l (upto_within e (from_bytes e range) b k) t)
compared_back IsEqual o Greater b e rest range t h l k = absurd (not_greater o b e rest (from_bytes e range) h l k t)
compared_back Below o Less b e rest range t h l k = refl
compared_back Below o Equal b e rest range t h l k = absurd (is_less o b e rest range h l k (tied_low o b e rest h t))
compared_back Below o Greater b e rest range t h l k = absurd (is_less o b e rest range h l k (greater_low o b e rest h t))
compared_back AtMost o Less b e rest range t h l k = refl
compared_back AtMost o Equal b e rest range t h l k = refl
compared_back AtMost o Greater b e rest range t h l k = absurd (not_greater o b e rest range h l k t)
compared_back Above o Less b e rest range t h l k = absurd (not_upto o b e rest range h l k (less_high o b e rest h t))
compared_back Above o Equal b e rest range t h l k = absurd (not_upto o b e rest range h l k (tied_high o b e rest h t))
compared_back Above o Greater b e rest range t h l k = refl
compared_back AtLeast o Less b e rest range t h l k = absurd (not_less o b e rest range h l k t)
compared_back AtLeast o Equal b e rest range t h l k = refl
compared_back AtLeast o Greater b e rest range t h l k = refl

-- ---- place by place

-- a comparison that the table does not refuse, with a value that a program holds
pub record IsGood (table : Table) (c : Comparison) : Type 0 where
  pub good : comparison_fault table c ≡ None
  pub stored : IsStorable c.value

same_number : (a : ℕ) → (a == a) ≡ true
same_number a = grind (arith, nat_tests)

module _ (table : Table) (key : Key) (b : List ℕ) (place : ℕ) (prefix : List ℕ) (s : StandsAt table key b place prefix) (few : place ≤ 3) (short : length prefix ≤ 1 + 402 * place) where
  one_back : (c : Comparison) (range : KeyRange) → IsGood table c → is_at table place c ≡ true → is_key_in (narrowed c.operator (prefix ++ part_bytes c.value) range) b ≡ true → holds table key c ≡ true
  one_back c range g e k =
      let n = named table c g.good in
      let small = part_bytes_length c.value (compared_short n.column.of c.value n.comparable) in
      holds_by_value table key b place prefix s c e
      ∙ compared_back c.operator (value_cmp s.value c.value) (value_cmp s.value c.value) b (prefix ++ part_bytes c.value) s.rest range refl (compared table key b place prefix s c g.good g.stored e)
      (omega (arith, few, short, small, length-append prefix (part_bytes c.value))) k

  pub at_back : (cs : List Comparison) (range : KeyRange) → All (IsGood table) cs → is_key_in (narrowed_at table place prefix cs range) b ≡ true → All (Agrees table key b place prefix s) cs
  at_back [] range h k = All-nil (Agrees table key b place prefix s)
  at_back (c ∷ cs) range h k =
      All-cons (Agrees table key b place prefix s) c cs (by (is_at table place c) refl k)
      (at_back cs (if is_at table place c then narrowed c.operator (prefix ++ part_bytes c.value) range else range) (All-tail (IsGood table) c cs h) k)
    where
      by : (t : Bool) → is_at table place c ≡ t → is_key_in (narrowed_at table place prefix cs (if t then narrowed c.operator (prefix ++ part_bytes c.value) range else range)) b ≡ true
          → is_at table place c ≡ true → holds table key c ≡ true
      by false e k f = cc
      by true e k f =
          one_back c range (All-head (IsGood table) c cs h) e (at_within table place prefix cs (narrowed c.operator (prefix ++ part_bytes c.value) range) b k)

-- where a comparison is at a place from one on and before an end, it holds
abbrev pub HoldsIn : Table → Key → ℕ → ℕ → Comparison → Type 0
HoldsIn table key place end c = (p : ℕ) → position (λ k. k == c.column) table.key ≡ Some p → place ≤ p → p < end → holds table key c ≡ true

both : {A B C : Comparison → Type 0} → ((c : Comparison) → A c → B c → C c) → (cs : List Comparison) → All A cs → All B cs → All C cs
both {A} {B} {C} f [] h k = All-nil C
both {A} {B} {C} f (c ∷ cs) h k = All-cons C c cs (f c (All-head A c cs h) (All-head B c cs k)) (both f cs (All-tail A c cs h) (All-tail B c cs k))

here_or_behind : (place p : ℕ) → place ≤ p → (p ≡ place) ⊎ (place + 1 ≤ p)
here_or_behind place p h = by (nat_le (place + 1) p) refl
  where
    by : (t : Bool) → nat_le (place + 1) p ≡ t → (p ≡ place) ⊎ (place + 1 ≤ p)
    by true e = inr (grind (arith, nat_tests))
    by false e = inl (let l : p < place + 1 = grind (arith, nat_tests) in omega (arith, l, h))

module _ (table : Table) (key : Key) (b : List ℕ) (cs : List Comparison) (goods : All (IsGood table) cs) (bytes : AreBytes b) where
  pub from_back : (columns : List ℕ) (vs : List Value) (place : ℕ) (prefix : List ℕ) (range : KeyRange) → length columns ≡ length vs → parts_fault table columns vs ≡ None → All IsStorable vs
      → ((i : ℕ) → slice_get columns i ≡ slice_get table.key (place + i)) → ((i : ℕ) → slice_get vs i ≡ slice_get key.parts (place + i)) → b ≡ prefix ++ flat_map part_bytes vs
      → place + length columns ≤ 4 → length prefix ≤ 1 + 402 * place → is_key_in (narrowed_from table cs place prefix columns range) b ≡ true
      → All (HoldsIn table key place (narrowing_end table cs place columns)) cs
  from_back [] vs place prefix range l f g p q e few short k = every {A = IsGood table} {B = HoldsIn table key place place} (λ c h i at from to. absurd (omega (arith, from, to))) cs goods
  from_back (n ∷ ns) [] place prefix range l f g p q e few short k = absurd (omega (arith, l))
  from_back (n ∷ ns) (v ∷ vs) place prefix range l f g p q e few short k =
      let none = first_none (part_fault table n v) (parts_fault table ns vs) f in
      let here : place + 0 ≡ place = omega arith in
      let s : StandsAt table key b place prefix = record {
        number = n;
        value = v;
        rest = flat_map part_bytes vs;
        number_is = ap (slice_get table.key) (sym here) ∙ sym (p 0);
        value_is = ap (slice_get key.parts) (sym here) ∙ sym (q 0);
        fits = part_fits table n v none.0;
        stored = All-head IsStorable v vs g;
        spelled = e;
        are_bytes = bytes;
      } in
      by s refl (omega (arith, few)) (equal_at table place cs) refl k
      (λ w own small k. from_back ns vs (place + 1) (prefix ++ part_bytes w) (narrowed_at table place prefix cs range) (omega (arith, l)) none.1 (All-tail IsStorable v vs g)
      (λ i. p (suc i) ∙ ap (slice_get table.key) (omega arith)) (λ i. q (suc i) ∙ ap (slice_get key.parts) (omega arith))
      (e ∙ ap (λ x. prefix ++ (part_bytes x ++ flat_map part_bytes vs)) own ∙ sym (append_assoc prefix (part_bytes w) (flat_map part_bytes vs))) (omega (arith, few))
      (omega (arith, short, small, length-append prefix (part_bytes w))) k)
    where
      at_place : (c : Comparison) (i : ℕ) → position (λ k. k == c.column) table.key ≡ Some i → i ≡ place → is_at table place c ≡ true
      at_place c i at is = ap (is_place place) (at ∙ ap Some is) ∙ same_number place

      by : (s : StandsAt table key b place prefix) → s.value ≡ v → place ≤ 3 → (o : Option Value) → equal_at table place cs ≡ o
          → is_key_in
          (elim o [
            | None ↦ narrowed_at table place prefix cs range
            | Some value ↦ narrowed_from table cs (place + 1) (prefix ++ part_bytes value) ns (narrowed_at table place prefix cs range)
          ]) b ≡ true
          → ((w : Value) → v ≡ w → length (part_bytes w) ≤ 402 → is_key_in (narrowed_from table cs (place + 1) (prefix ++ part_bytes w) ns (narrowed_at table place prefix cs range)) b ≡ true
          → All (HoldsIn table key (place + 1) (narrowing_end table cs (place + 1) ns)) cs)
          → All (HoldsIn table key place (elim o [ None ↦ place + 1 | Some _ ↦ narrowing_end table cs (place + 1) ns ])) cs
      by s same few None is k more =
          every {A = Agrees table key b place prefix s} {B = HoldsIn table key place (place + 1)} (λ c a i at from to. a (at_place c i at (omega (arith, from, to)))) cs
          (at_back table key b place prefix s few short cs range goods k)
      by s same few (Some w) is k more =
          let inside = from_place_within table cs (place + 1) (prefix ++ part_bytes w) ns (narrowed_at table place prefix cs range) b k in
          let agree = at_back table key b place prefix s few short cs range goods inside in
          let own = own_value table key b place prefix s cs w agree is in
          let small = part_bytes_length s.value (fitting_short s.fits.column.of s.value s.fits.typed) in
          both {A = Agrees table key b place prefix s} {B = HoldsIn table key (place + 1) (narrowing_end table cs (place + 1) ns)}
          {C = HoldsIn table key place (narrowing_end table cs (place + 1) ns)}
          (λ c a r i at from to. ⊎_elim (λ here. a (at_place c i at here)) (λ behind. r i at behind to) (here_or_behind place i from)) cs agree
          (more w (sym same ∙ own) (subst (λ (x : Value). length (part_bytes x) ≤ 402) own small) k)

all_good : (table : Table) (cs : List Comparison) → comparisons_fault table cs ≡ None → All (λ c. IsStorable c.value) cs → All (IsGood table) cs
all_good table [] f s = All-nil (IsGood table)
all_good table (c ∷ cs) f s =
    let none = first_none (comparison_fault table c) (comparisons_fault table cs) f in
    All-cons (IsGood table) c cs (record { good = none.0; stored = All-head (λ (c : Comparison). IsStorable c.value) c cs s })
    (all_good table cs none.1 (All-tail (λ (c : Comparison). IsStorable c.value) c cs s))

below : (p end : ℕ) → nat_lt p end ≡ true → p < end
below p end e = grind (arith, nat_tests)

all_hold : (table : Table) (key : Key) (end : ℕ) (cs : List Comparison) → list_all (λ c. is_before_place end (position (λ k. k == c.column) table.key)) cs ≡ true
    → All (HoldsIn table key 0 end) cs → list_all (holds table key) cs ≡ true
all_hold table key end [] e h = refl
all_hold table key end (c ∷ cs) e h =
    let two = and_parts (is_before_place end (position (λ k. k == c.column) table.key)) (list_all (λ c. is_before_place end (position (λ k. k == c.column) table.key)) cs) e in
    ap (λ t. t && list_all (holds table key) cs) (by (position (λ k. k == c.column) table.key) refl two.0) ∙ all_hold table key end cs two.1 (All-tail (HoldsIn table key 0 end) c cs h)
  where
    by : (o : Option ℕ) → position (λ k. k == c.column) table.key ≡ o → is_before_place end o ≡ true → holds table key c ≡ true
    by None at t = cc
    by (Some p) at t = All-head (HoldsIn table key 0 end) c cs h p at (omega arith) (below p end t)

pub is_exact : (table : Table) (keys : Keys) → table.number < 256 → IsTable table.number table → keys.table ≡ table.number → comparisons_fault table keys.comparisons ≡ None → All (λ c. IsStorable c.value) keys.comparisons
    → all_narrow table keys.comparisons ≡ true → TakesAll table keys (search_range table keys)
is_exact table keys small is_table its none stored narrow key own inside =
    ap (λ t. t && list_all (holds table key) cs) same
    ∙ all_hold table key (narrowing_end table cs 0 table.key) cs narrow
    (from_back table key (bytes_of_key key) cs (all_good table cs none stored) (key_are_bytes key (subst (λ n. n < 256) (sym own.own) small) own.held) table.key key.parts 0 (table.number ∷ [])
    (range_of_table table.number) f.same_width f.no_fault (all_storable key.parts own.held) (λ i. ap (slice_get table.key) (omega arith)) (λ i. ap (slice_get key.parts) (omega arith))
    (ap (λ n. n ∷ flat_map part_bytes key.parts) own.own) (omega (arith, is_table.few_key_columns)) (omega arith) inside)
  where
    cs : List Comparison
    cs = keys.comparisons

    f : FitsKey table key.parts
    f = key_fits table key.parts own.fits

    same : (key.table == keys.table) ≡ true
    same = numbers key.table keys.table table.number own.own its
      where
        numbers : (a b n : ℕ) → a ≡ n → b ≡ n → (a == b) ≡ true
        numbers a b n e h = grind (arith, nat_tests)
