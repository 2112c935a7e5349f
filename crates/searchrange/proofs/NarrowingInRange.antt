-- Keys that stay in a range as it is narrowed.
use Rattle.std.proofs.Common.{◌≡◌, ℕ, List, [], ◌++◌, Bool, true, false, ◌&&◌, not, Option, Some, None, refl, sym, subst, ap, ◌∙◌, if◌then◌else◌, append-nil, IfSome}
use Rattle.std.proofs.lemmas.Bool.{and_parts}
use Rattle.std.specs.Ordering.{ordering_then, is_lt}
use Rattle.std.specs.Cmp.Lexicographic.{nat_list_cmp_total}
use Rattle.std.specs.declared.cmp.Ordering.{Ordering}
use Rattle.std.specs.declared.cmp.Ordering.TheVariants.{Less, Equal, Greater}
use Rattle.values.specs.declared.query.Operator.{Operator}
use Rattle.values.specs.declared.query.Operator.TheVariants.{Equal as IsEqual, Below, AtMost, Above, AtLeast}
use Rattle.values.specs.Versions.{compares}
use Rattle.keyrange.specs.declared.range.KeyRange.{KeyRange}
use Rattle.keyrange.specs.Range.{is_below, is_before_end, is_key_in}
use Rattle.keyrange.proofs.RangeOrder.{is_less}
use Rattle.searchrange.specs.SearchRange.{next_prefix, is_bound, from_bytes, before_bytes, after_prefix, upto_prefix, narrowed}
use Rattle.searchrange.proofs.PrefixBytes.{bytes_cmp, AreBytes, AreAbove, begins_below, none_above, past, not_below_none}

pub joined : (low high : Bool) → low ≡ false → high ≡ true → (not low && high) ≡ true
joined low high d e = ap (λ t. not t && high) d ∙ e

pub not_true : (low : Bool) → not low ≡ true → low ≡ false
not_true false e = refl
not_true true e = sym e

module _ (range : KeyRange) (b : List ℕ) (inside : is_key_in range b ≡ true) where
  pub low : is_below b range.lo ≡ false
  low = not_true (is_below b range.lo) ((and_parts (not (is_below b range.lo)) (is_before_end b range.hi) inside).0)

  pub high : is_before_end b range.hi ≡ true
  high = (and_parts (not (is_below b range.lo)) (is_before_end b range.hi) inside).1

  pub in_from : (bytes : List ℕ) → is_below b bytes ≡ false → is_key_in (from_bytes bytes range) b ≡ true
  in_from bytes e = by (is_bound bytes && is_below range.lo bytes)
    where
      by : (t : Bool) → is_key_in (if t then record { lo = bytes; hi = range.hi } else range) b ≡ true
      by true = joined (is_below b bytes) (is_before_end b range.hi) e high
      by false = inside

  pub in_before : (bytes : List ℕ) → is_below b bytes ≡ true → is_key_in (before_bytes bytes range) b ≡ true
  in_before bytes e = by (is_bound bytes && is_before_end bytes range.hi)
    where
      by : (t : Bool) → is_key_in (if t then record { lo = range.lo; hi = Some bytes } else range) b ≡ true
      by true = joined (is_below b range.lo) (is_below b bytes) low e
      by false = inside

  pub in_after : (bytes : List ℕ) → AreBytes b → AreAbove b bytes → is_key_in (after_prefix bytes range) b ≡ true
  in_after bytes h above = by (next_prefix bytes) refl (past bytes b h above)
    where
      by : (o : Option (List ℕ)) → next_prefix bytes ≡ o → IfSome o (λ n. is_below b n ≡ false) → is_key_in (elim o [ None ↦ before_bytes [] range | Some next ↦ from_bytes next range ]) b ≡ true
      by None e k = absurd (none_above bytes b e h above)
      by (Some n) e k = in_from n k

  pub in_upto : (bytes : List ℕ) → IfSome (next_prefix bytes) (λ n. is_below b n ≡ true) → is_key_in (upto_prefix bytes range) b ≡ true
  in_upto bytes h = by (next_prefix bytes) h
    where
      by : (o : Option (List ℕ)) → IfSome o (λ n. is_below b n ≡ true) → is_key_in (elim o [ None ↦ range | Some next ↦ before_bytes next range ]) b ≡ true
      by None h = inside
      by (Some n) h = in_before n h

-- a key's bytes against those of a comparison: they compare as the values do, and after equal values
-- by what the key goes on with
pub record Compared (o : Ordering) (b e rest : List ℕ) : Type 0 where
  pub compare : (ys : List ℕ) → bytes_cmp b (e ++ ys) ≡ ordering_then o (bytes_cmp rest ys)
  pub begins : o ≡ Equal → b ≡ e ++ rest
  pub are_bytes : AreBytes b

module _ (o : Ordering) (b e rest : List ℕ) (h : Compared o b e rest) where
  alone : bytes_cmp b e ≡ ordering_then o (bytes_cmp rest [])
  alone = ap (bytes_cmp b) (sym (append-nil e)) ∙ h.compare []

  pub tied_low : o ≡ Equal → is_below b e ≡ false
  tied_low t = ap is_lt (alone ∙ ap (λ p. ordering_then p (bytes_cmp rest [])) t) ∙ not_below_none rest

  pub less : o ≡ Less → bytes_cmp b e ≡ Less
  less t = alone ∙ ap (λ p. ordering_then p (bytes_cmp rest [])) t

  pub greater_low : o ≡ Greater → is_below b e ≡ false
  greater_low t = ap is_lt (alone ∙ ap (λ p. ordering_then p (bytes_cmp rest [])) t)

  pub tied_high : o ≡ Equal → IfSome (next_prefix e) (λ n. is_below b n ≡ true)
  tied_high t = subst (λ k. IfSome (next_prefix e) (λ n. is_below k n ≡ true)) (sym (h.begins t)) (begins_below e rest)

  pub less_high : o ≡ Less → IfSome (next_prefix e) (λ n. is_below b n ≡ true)
  less_high t = by (next_prefix e) (subst (λ k. IfSome (next_prefix e) (λ n. is_below k n ≡ true)) (append-nil e) (begins_below e []))
    where
      by : (p : Option (List ℕ)) → IfSome p (λ n. is_below e n ≡ true) → IfSome p (λ n. is_below b n ≡ true)
      by None k = tt
      by (Some n) k = ap is_lt (nat_list_cmp_total.trans b e n (less t) (is_less (bytes_cmp e n) k))

  pub above : o ≡ Greater → AreAbove b e
  above t = λ ys. h.compare ys ∙ ap (λ p. ordering_then p (bytes_cmp rest ys)) t

in_narrowed_by : (op : Operator) (o p : Ordering) (b e rest : List ℕ) (range : KeyRange) → o ≡ p → Compared o b e rest → compares op p ≡ true → is_key_in range b ≡ true
    → is_key_in (narrowed op e range) b ≡ true
in_narrowed_by IsEqual o Equal b e rest range t h c k = in_upto (from_bytes e range) b (in_from range b k e (tied_low o b e rest h t)) e (tied_high o b e rest h t)
in_narrowed_by Below o Less b e rest range t h c k = in_before range b k e (ap is_lt (less o b e rest h t))
in_narrowed_by AtMost o Less b e rest range t h c k = in_upto range b k e (less_high o b e rest h t)
in_narrowed_by AtMost o Equal b e rest range t h c k = in_upto range b k e (tied_high o b e rest h t)
in_narrowed_by Above o Greater b e rest range t h c k = in_after range b k e h.are_bytes (above o b e rest h t)
in_narrowed_by AtLeast o Equal b e rest range t h c k = in_from range b k e (tied_low o b e rest h t)
in_narrowed_by AtLeast o Greater b e rest range t h c k = in_from range b k e (greater_low o b e rest h t)
in_narrowed_by IsEqual o Less b e rest range t h c k = cc
in_narrowed_by IsEqual o Greater b e rest range t h c k = cc
in_narrowed_by Below o Equal b e rest range t h c k = cc
in_narrowed_by Below o Greater b e rest range t h c k = cc
in_narrowed_by AtMost o Greater b e rest range t h c k = cc
in_narrowed_by Above o Less b e rest range t h c k = cc
in_narrowed_by Above o Equal b e rest range t h c k = cc
in_narrowed_by AtLeast o Less b e rest range t h c k = cc

pub in_narrowed : (op : Operator) (o : Ordering) (b e rest : List ℕ) (range : KeyRange) → Compared o b e rest → compares op o ≡ true → is_key_in range b ≡ true
    → is_key_in (narrowed op e range) b ≡ true
in_narrowed op o b e rest range h c k = in_narrowed_by op o o b e rest range refl h c k
