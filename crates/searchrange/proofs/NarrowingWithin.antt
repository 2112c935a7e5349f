-- A narrowed range has no key that the range had not.
use Rattle.std.proofs.Common.{◌≡◌, ℕ, ◌+◌, List, [], ◌∷◌, ◌++◌, ◌&&◌, Bool, true, false, not, Option, Some, None, refl, ap, if◌then◌else◌}
use Rattle.std.proofs.lemmas.Bool.{and_parts}
use Rattle.std.specs.Ordering.{is_lt}
use Rattle.std.specs.Cmp.Lexicographic.{nat_list_cmp_total}
use Rattle.values.specs.declared.value.Value.{Value}
use Rattle.values.specs.declared.table.Table.{Table}
use Rattle.values.specs.declared.query.Keys.{Keys}
use Rattle.values.specs.declared.query.Comparison.{Comparison}
use Rattle.values.specs.declared.query.Operator.{Operator}
use Rattle.values.specs.declared.query.Operator.TheVariants.{Equal, Below, AtMost, Above, AtLeast}
use Rattle.values.specs.KeyEncoding.{part_bytes}
use Rattle.keyrange.specs.declared.range.KeyRange.{KeyRange}
use Rattle.keyrange.specs.Range.{is_below, is_before_end, is_key_in}
use Rattle.keyrange.proofs.RangeOrder.{is_less, under}
use Rattle.searchrange.specs.SearchRange.{range_of_table, next_prefix, is_bound, from_bytes, before_bytes, after_prefix, upto_prefix, narrowed, is_at, narrowed_at, equal_at, narrowed_from, search_range, IsWithin}
use Rattle.searchrange.proofs.PrefixBytes.{bytes_cmp}
use Rattle.searchrange.proofs.NarrowingInRange.{joined, not_true}

same : (range : KeyRange) → IsWithin range range
same range key h = h

chained : (a b c : KeyRange) → IsWithin a b → IsWithin b c → IsWithin a c
chained a b c f g key h = g key (f key h)

before : (a b : List ℕ) (end : Option (List ℕ)) → is_below a b ≡ true → is_before_end b end ≡ true → is_before_end a end ≡ true
before a b None h k = refl
before a b (Some end) h k = ap is_lt (nat_list_cmp_total.trans a b end (is_less (bytes_cmp a b) h) (is_less (bytes_cmp b end) k))

from_within : (bytes : List ℕ) (range : KeyRange) → IsWithin (from_bytes bytes range) range
from_within bytes range key h = by (is_bound bytes) (is_below range.lo bytes) refl h
  where
    by : (s t : Bool) → is_below range.lo bytes ≡ t → is_key_in (if s && t then record { lo = bytes; hi = range.hi } else range) key ≡ true → is_key_in range key ≡ true
    by false t e h = h
    by true false e h = h
    by true true e h =
        let both = and_parts (not (is_below key bytes)) (is_before_end key range.hi) h in
        joined (is_below key range.lo) (is_before_end key range.hi) (under key range.lo bytes e (not_true (is_below key bytes) both.0)) both.1

before_within : (bytes : List ℕ) (range : KeyRange) → IsWithin (before_bytes bytes range) range
before_within bytes range key h = by (is_bound bytes) (is_before_end bytes range.hi) refl h
  where
    by : (s t : Bool) → is_before_end bytes range.hi ≡ t → is_key_in (if s && t then record { lo = range.lo; hi = Some bytes } else range) key ≡ true → is_key_in range key ≡ true
    by false t e h = h
    by true false e h = h
    by true true e h =
        let both = and_parts (not (is_below key range.lo)) (is_below key bytes) h in
        joined (is_below key range.lo) (is_before_end key range.hi) (not_true (is_below key range.lo) both.0) (before key bytes range.hi both.1 e)

after_within : (bytes : List ℕ) (range : KeyRange) → IsWithin (after_prefix bytes range) range
after_within bytes range = by (next_prefix bytes)
  where
    by : (o : Option (List ℕ)) → IsWithin (elim o [ None ↦ before_bytes [] range | Some next ↦ from_bytes next range ]) range
    by None = before_within [] range
    by (Some n) = from_within n range

pub upto_within : (bytes : List ℕ) (range : KeyRange) → IsWithin (upto_prefix bytes range) range
upto_within bytes range = by (next_prefix bytes)
  where
    by : (o : Option (List ℕ)) → IsWithin (elim o [ None ↦ range | Some next ↦ before_bytes next range ]) range
    by None = same range
    by (Some n) = before_within n range

narrowed_within : (op : Operator) (bytes : List ℕ) (range : KeyRange) → IsWithin (narrowed op bytes range) range
narrowed_within Equal bytes range = chained (upto_prefix bytes (from_bytes bytes range)) (from_bytes bytes range) range (upto_within bytes (from_bytes bytes range)) (from_within bytes range)
narrowed_within Below bytes range = before_within bytes range
narrowed_within AtMost bytes range = upto_within bytes range
narrowed_within Above bytes range = after_within bytes range
narrowed_within AtLeast bytes range = from_within bytes range

pub at_within : (table : Table) (place : ℕ) (prefix : List ℕ) (cs : List Comparison) (range : KeyRange) → IsWithin (narrowed_at table place prefix cs range) range
at_within table place prefix [] range = same range
at_within table place prefix (c ∷ cs) range =
    let one : KeyRange = if is_at table place c then narrowed c.operator (prefix ++ part_bytes c.value) range else range in
    chained (narrowed_at table place prefix cs one) one range (at_within table place prefix cs one) (by (is_at table place c))
  where
    by : (t : Bool) → IsWithin (if t then narrowed c.operator (prefix ++ part_bytes c.value) range else range) range
    by true = narrowed_within c.operator (prefix ++ part_bytes c.value) range
    by false = same range

pub from_place_within : (table : Table) (cs : List Comparison) (place : ℕ) (prefix columns : List ℕ) (range : KeyRange) → IsWithin (narrowed_from table cs place prefix columns range) range
from_place_within table cs place prefix [] range = same range
from_place_within table cs place prefix (n ∷ columns) range =
    by (equal_at table place cs) (λ w. from_place_within table cs (place + 1) (prefix ++ part_bytes w) columns (narrowed_at table place prefix cs range))
  where
    here : IsWithin (narrowed_at table place prefix cs range) range
    here = at_within table place prefix cs range

    by : (o : Option Value) → ((w : Value) → IsWithin (narrowed_from table cs (place + 1) (prefix ++ part_bytes w) columns (narrowed_at table place prefix cs range)) (narrowed_at table place prefix cs range))
        → IsWithin
        (elim o [
          | None ↦ narrowed_at table place prefix cs range
          | Some value ↦ narrowed_from table cs (place + 1) (prefix ++ part_bytes value) columns (narrowed_at table place prefix cs range)
        ]) range
    by None more = here
    by (Some w) more =
        chained (narrowed_from table cs (place + 1) (prefix ++ part_bytes w) columns (narrowed_at table place prefix cs range)) (narrowed_at table place prefix cs range) range (more w) here

pub within_table : (table : Table) (keys : Keys) → IsWithin (search_range table keys) (range_of_table table.number)
within_table table keys = from_place_within table keys.comparisons 0 (table.number ∷ []) table.key (range_of_table table.number)
