-- Events of a range of keys stand together.
use Rattle.std.proofs.Common.{◌≡◌, ℕ, ◌≤◌, Bool, true, false, ◌&&◌, List, [], ◌∷◌, refl, sym, ap, subst, ◌∙◌, arith, zero, suc, length, drop, not, filter, if◌then◌else◌, get_or, min}
use Rattle.std.specs.Ordering.{nat_cmp, ordering_then, is_lt}
use Rattle.std.specs.declared.cmp.Ordering.{Ordering}
use Rattle.std.specs.declared.cmp.Ordering.TheVariants.{Less, Equal, Greater}
use Rattle.std.specs.List.{AllWithin, slice_get}
use Rattle.std.proofs.lemmas.Option.{slice_get-get_or}
use Rattle.std.specs.List.Sorted.{IsStrictlySortedBy, IsPartitionedBy}
use Rattle.values.specs.Event.{Event}
use Rattle.values.specs.Events.{bytes_cmp, event_cmp}
use Rattle.keyrange.specs.Range.{is_below}
use Rattle.keyrange.proofs.RangeOrder.{is_less}
use Rattle.eventlist.specs.KeyGroup.{is_below_key}
use Rattle.eventlist.proofs.PlaceOrder.{bytes_total, bytes_exact, partitioned, within_rest, within_head}

-- ---- a range

module _ (p : Event → Bool) where
  pub none_pass : (low : Event → Bool) (b : Bool) → ((e : Event) → low e ≡ b → p e ≡ false) → (es : List Event) → AllWithin (λ e. low e ≡ b) es 0 (length es) → filter p es ≡ []
  none_pass low b fails [] h = refl
  none_pass low b fails (e ∷ es) h =
      ap (λ c. if c then e ∷ filter p es else filter p es) (fails e (within_head (λ e. low e ≡ b) e es (length es) h)) ∙ none_pass low b fails es (within_rest (λ e. low e ≡ b) e es (length es) h)

  pub front_dropped : (low : Event → Bool) → ((e : Event) → low e ≡ true → p e ≡ false) → (es : List Event) (n : ℕ) → AllWithin (λ e. low e ≡ true) es 0 n → n ≤ length es → filter p es ≡ filter p (drop n es)
  front_dropped low fails es zero h le = refl
  front_dropped low fails [] (suc n) h le = absurd (omega arith)
  front_dropped low fails (e ∷ es) (suc n) h le =
      ap (λ c. if c then e ∷ filter p es else filter p es) (fails e (within_head (λ e. low e ≡ true) e es n h)) ∙ front_dropped low fails es n (within_rest (λ e. low e ≡ true) e es n h) (omega arith)

-- ---- places of keys

abbrev pub below_key : List ℕ → Event → Bool
below_key key e = is_below e.key key

pub below_parts : (key : List ℕ) (es : List Event) → IsStrictlySortedBy event_cmp es → IsPartitionedBy (below_key key) es
below_parts key es h = partitioned event_cmp (below_key key) down es h
  where
    down : (x y : Event) → event_cmp x y ≡ Less → is_below y.key key ≡ true → is_below x.key key ≡ true
    down x y h is = by (bytes_cmp x.key y.key) refl h
      where
        by : (o : Ordering) → bytes_cmp x.key y.key ≡ o → ordering_then o (nat_cmp x.at y.at) ≡ Less → is_below x.key key ≡ true
        by Less p q = ap is_lt (bytes_total.trans x.key y.key key p (is_less (bytes_cmp y.key key) is))
        by Equal p q = ap is_lt (bytes_total.congr x.key y.key key p) ∙ is
        by Greater p q = cc

abbrev pub not_above : List ℕ → Event → Bool
not_above key e = not (is_below key e.key)

pub not_above_parts : (key : List ℕ) (es : List Event) → IsStrictlySortedBy event_cmp es → IsPartitionedBy (not_above key) es
not_above_parts key es h = partitioned event_cmp (not_above key) down es h
  where
    kept : (b c : Bool) → (c ≡ true → b ≡ true) → not b ≡ true → not c ≡ true
    kept b false h e = refl
    kept true true h e = cc
    kept false true h e = cc (h refl)

    up : (x y : Event) → event_cmp x y ≡ Less → is_below key x.key ≡ true → is_below key y.key ≡ true
    up x y h is = by (bytes_cmp x.key y.key) refl h
      where
        by : (o : Ordering) → bytes_cmp x.key y.key ≡ o → ordering_then o (nat_cmp x.at y.at) ≡ Less → is_below key y.key ≡ true
        by Less p q = ap is_lt (bytes_total.trans key x.key y.key (is_less (bytes_cmp key x.key) is) p)
        by Equal p q = subst (λ k. is_below key k ≡ true) (bytes_exact x.key y.key p) is
        by Greater p q = cc

    down : (x y : Event) → event_cmp x y ≡ Less → not_above key y ≡ true → not_above key x ≡ true
    down x y h is = kept (is_below key y.key) (is_below key x.key) (up x y h) is

-- those of a range that pass another test
pub both_tests : (p q : Event → Bool) (es : List Event) → filter q (filter p es) ≡ filter (λ e. p e && q e) es
both_tests p q [] = refl
both_tests p q (e ∷ es) = by (p e) (both_tests p q es)
  where
    by : (b : Bool) → filter q (filter p es) ≡ filter (λ e. p e && q e) es → filter q (if b then e ∷ filter p es else filter p es) ≡ (if b && q e then e ∷ filter (λ e. p e && q e) es else filter (λ e. p e && q e) es)
    by true more = ap (λ l. if q e then e ∷ l else l) more
    by false more = more

-- from a place on that is past the lesser keys there is none of them
pub below_none : (key : List ℕ) (es : List Event) (reach r : ℕ) → IsStrictlySortedBy event_cmp es → is_below_key key (slice_get es reach) ≡ false → r ≡ min reach (length es) → AllWithin (λ e. is_below e.key key ≡ false) es r (length es)
below_none key es reach r sorted is least k d low high = by (below_key key (get_or es k d)) refl
  where
    inside : reach ≤ k
    inside = grind (arith, least)

    there : below_key key (get_or es reach d) ≡ false
    there = ap (is_below_key key) (sym (slice_get-get_or es reach d (omega (arith, inside)))) ∙ is

    by : (b : Bool) → below_key key (get_or es k d) ≡ b → b ≡ false
    by false e = refl
    by true e = sym (below_parts key es sorted reach k d inside high e) ∙ there
