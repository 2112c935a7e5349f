-- The search range has each key of the table that meets the comparisons.
use Rattle.std.proofs.Common.{◌≡◌, ℕ, ◌+◌, ◌<◌, List, [], ◌∷◌, ◌++◌, ◌==◌, ◌&&◌, Bool, true, false, not, Some, None, refl, sym, subst, ap, ◌∙◌, arith, if◌then◌else◌, All}
use Rattle.std.proofs.lemmas.Bool.{and_parts}
use Rattle.std.proofs.lemmas.List.Elements.{All-head, All-tail, All-cons, All-nil}
use Rattle.std.specs.List.{slice_get, list_all, flat_map}
use Rattle.std.specs.Ordering.{nat_cmp, ordering_then, is_lt}
use Rattle.std.specs.Cmp.{nat_cmp_is, nat_cmp_total}
use Rattle.std.proofs.lemmas.Cmp.{tied_itself}
use Rattle.std.specs.declared.cmp.Ordering.TheVariants.{Less}
use Rattle.values.specs.declared.value.Value.{Value}
use Rattle.values.specs.declared.table.Table.{Table}
use Rattle.values.specs.declared.query.Keys.{Keys}
use Rattle.values.specs.Fit.{comparisons_fault}
use Rattle.values.specs.RowEncoding.{IsHeld}
use Rattle.values.specs.KeyEncoding.{part_bytes, bytes_of_key}
use Rattle.values.specs.KeyEncodingLaw.{IsStorable}
use Rattle.values.specs.Versions.{holds}
use Rattle.values.proofs.KeyLengths.{key_fits}
use Rattle.keyrange.specs.Range.{is_before_end, is_key_in}
use Rattle.searchrange.specs.SearchRange.{range_of_table, search_range, Covers}
use Rattle.searchrange.proofs.PrefixBytes.{bytes_cmp, not_below_none}
use Rattle.searchrange.proofs.NarrowingKeeps.{all_met, in_narrowed_from}
use Rattle.searchrange.proofs.PrefixValueBytes.{storable, key_are_bytes}

pub all_storable : (vs : List Value) → All IsHeld vs → All IsStorable vs
all_storable [] h = All-nil IsStorable
all_storable (v ∷ vs) h = All-cons IsStorable v vs (storable v (All-head IsHeld v vs h)) (all_storable vs (All-tail IsHeld v vs h))

-- what begins with a table's number is in its range
in_table : (number : ℕ) (bytes : List ℕ) → is_key_in (range_of_table number) (number ∷ bytes) ≡ true
in_table number bytes = ap (λ t. not t && is_before_end (number ∷ bytes) (range_of_table number).hi) not_low ∙ by (number == 255)
  where
    not_low : is_lt (ordering_then (nat_cmp number number) (bytes_cmp bytes [])) ≡ false
    not_low = ap (λ o. is_lt (ordering_then o (bytes_cmp bytes []))) (tied_itself nat_cmp_total number) ∙ not_below_none bytes

    by : (t : Bool) → is_before_end (number ∷ bytes) (if t then None else Some ((number + 1) ∷ [])) ≡ true
    by true = refl
    by false = ap (λ o. is_lt (ordering_then o (bytes_cmp bytes []))) (sym (nat_cmp_is number (number + 1) Less (omega arith)))

pub covers : (table : Table) (keys : Keys) → table.number < 256 → comparisons_fault table keys.comparisons ≡ None → All (λ c. IsStorable c.value) keys.comparisons → Covers table keys (search_range table keys)
covers table keys small none stored key own meets =
    let f = key_fits table key.parts own.fits in
    in_narrowed_from table key (bytes_of_key key) keys.comparisons
    (all_met table key keys.comparisons ((and_parts (key.table == keys.table) (list_all (holds table key) keys.comparisons) meets).1) none stored)
    (key_are_bytes key (subst (λ n. n < 256) (sym own.own) small) own.held) table.key key.parts 0 (table.number ∷ []) (range_of_table table.number) f.same_width f.no_fault
    (all_storable key.parts own.held) (λ i. ap (slice_get table.key) (omega arith)) (λ i. ap (slice_get key.parts) (omega arith)) spelled first
  where
    spelled : bytes_of_key key ≡ (table.number ∷ []) ++ flat_map part_bytes key.parts
    spelled = ap (λ n. n ∷ flat_map part_bytes key.parts) own.own

    first : is_key_in (range_of_table table.number) (bytes_of_key key) ≡ true
    first = ap (is_key_in (range_of_table table.number)) spelled ∙ in_table table.number (flat_map part_bytes key.parts)
