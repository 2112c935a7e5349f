-- An event is put in its place.
use Rattle.std.proofs.Common.{◌≡◌, ℕ, ◌≤◌, Bool, true, false, List, [], ◌∷◌, refl, sym, ap, subst, ◌∙◌, arith, zero, suc, length, if◌then◌else◌}
use Rattle.std.specs.Prelude.{slice_set}
use Rattle.std.specs.Ordering.{ordering_reverse, is_lt, is_eq, match_ordering}
use Rattle.std.specs.declared.cmp.Ordering.{Ordering}
use Rattle.std.specs.declared.cmp.Ordering.TheVariants.{Less, Equal, Greater}
use Rattle.std.specs.List.{AllByRecursion, slice_get, insert}
use Rattle.std.specs.List.Sorted.{IsStrictlySortedBy, IsPartitionedBy}
use Rattle.values.specs.Event.{Event}
use Rattle.values.specs.Events.{event_cmp, put_event}
use Rattle.eventlist.specs.Place.{AreFirst, is_before}
use Rattle.eventlist.specs.Put.{is_same}
use Rattle.values.specs.EventOrder.{event_total}
use Rattle.keyrange.proofs.RangeOrder.{is_less}
use Rattle.eventlist.proofs.PlaceOrder.{sorted_head, sorted_tail, sorted_cons, sorted_none, partitioned, within_tail, within_rest, within_head}

before_before : (e x y : Event) → event_cmp x y ≡ Less → is_before e y ≡ true → is_before e x ≡ true
before_before e x y h is = ap is_lt (event_total.trans x y e h (is_less (event_cmp y e) is))

pub before_parts : (e : Event) (es : List Event) → IsStrictlySortedBy event_cmp es → IsPartitionedBy (is_before e) es
before_parts e es h = partitioned event_cmp (is_before e) (before_before e) es h

turned : (e d : Event) (o : Ordering) → event_cmp d e ≡ o → event_cmp e d ≡ ordering_reverse o
turned e d o is = event_total.antisymm e d ∙ ap ordering_reverse is

pub put_at : (e : Event) (es : List Event) (n : ℕ) → n ≤ length es → AreFirst (is_before e) es n → put_event e es ≡ (if is_same e (slice_get es n) then slice_set es n e else insert es n e)
put_at e [] zero le h = refl
put_at e [] (suc n) le h = absurd (omega arith)
put_at e (d ∷ ds) zero le h = by (event_cmp d e) refl (within_head (λ x. is_before e x ≡ false) d ds (length ds) h.1)
  where
    by : (o : Ordering) → event_cmp d e ≡ o → is_lt (event_cmp d e) ≡ false → put_event e (d ∷ ds) ≡ (if is_eq (event_cmp e d) then e ∷ ds else e ∷ d ∷ ds)
    by Less is h = let never : ◌≡◌ {A = Bool} true false = sym (ap is_lt is) ∙ h in cc
    by Equal is h = subst (λ o. match_ordering o (e ∷ d ∷ ds) (e ∷ ds) (d ∷ put_event e ds) ≡ (if is_eq o then e ∷ ds else e ∷ d ∷ ds)) (sym (turned e d Equal is)) refl
    by Greater is h = subst (λ o. match_ordering o (e ∷ d ∷ ds) (e ∷ ds) (d ∷ put_event e ds) ≡ (if is_eq o then e ∷ ds else e ∷ d ∷ ds)) (sym (turned e d Greater is)) refl
put_at e (d ∷ ds) (suc n) le h =
    ap (λ o. match_ordering o (e ∷ d ∷ ds) (e ∷ ds) (d ∷ put_event e ds)) (turned e d Less (is_less (event_cmp d e) (within_head (λ x. is_before e x ≡ true) d ds n h.0)))
    ∙ ap (λ l. d ∷ l) (put_at e ds n (omega arith) (within_rest (λ x. is_before e x ≡ true) d ds n h.0, within_tail (λ x. is_before e x ≡ false) d ds n (length ds) h.1))
    ∙ moved (is_same e (slice_get ds n))
  where
    moved : (b : Bool) → d ∷ (if b then slice_set ds n e else insert ds n e) ≡ (if b then slice_set (d ∷ ds) (suc n) e else insert (d ∷ ds) (suc n) e)
    moved true = refl
    moved false = refl

pub put_by : (e : Event) (es ds fs : List Event) (n : ℕ) → ds ≡ es → fs ≡ es → n ≤ length ds → AreFirst (is_before e) ds n → (b : Bool) → b ≡ is_same e (slice_get fs n)
    → put_event e es ≡ (if b then slice_set es n e else insert es n e)
put_by e es ds fs n is_d is_f le h b is =
    put_at e es n (subst (λ l. n ≤ length l) is_d le) (subst (λ l. AreFirst (is_before e) l n) is_d h)
    ∙ ap (λ (b : Bool). if b then slice_set es n e else insert es n e) (sym (is ∙ ap (λ l. is_same e (slice_get l n)) is_f))

-- ---- what is in order stays so

pub all_put : (P : Event → Type 0) (e : Event) (es : List Event) → P e → AllByRecursion P es → AllByRecursion P (put_event e es)
all_put P e [] p h = (p, tt)
all_put P e (d ∷ ds) p h =
    elim (event_cmp e d) as (λ o. AllByRecursion P (match_ordering o (e ∷ d ∷ ds) (e ∷ ds) (d ∷ put_event e ds))) [
      | Less ↦ (p, h)
      | Equal ↦ (p, h.1)
      | Greater ↦ (h.0, all_put P e ds p h.1)
    ]

pub sorted_put : (e : Event) (es : List Event) → IsStrictlySortedBy event_cmp es → IsStrictlySortedBy event_cmp (put_event e es)
sorted_put e [] h = sorted_cons event_cmp e [] tt (sorted_none event_cmp)
sorted_put e (d ∷ ds) h = by (event_cmp e d) refl (sorted_put e ds (sorted_tail event_cmp d ds h))
  where
    above : (x : Event) (ys : List Event) → event_cmp e x ≡ Less → AllByRecursion (λ y. event_cmp x y ≡ Less) ys → AllByRecursion (λ y. event_cmp e y ≡ Less) ys
    above x [] is k = tt
    above x (y ∷ ys) is k = (event_total.trans e x y is k.0, above x ys is k.1)

    level : (x : Event) (ys : List Event) → event_cmp e x ≡ Equal → AllByRecursion (λ y. event_cmp x y ≡ Less) ys → AllByRecursion (λ y. event_cmp e y ≡ Less) ys
    level x [] is k = tt
    level x (y ∷ ys) is k = (event_total.congr e x y is ∙ k.0, level x ys is k.1)

    by : (o : Ordering) → event_cmp e d ≡ o → IsStrictlySortedBy event_cmp (put_event e ds) → IsStrictlySortedBy event_cmp (match_ordering o (e ∷ d ∷ ds) (e ∷ ds) (d ∷ put_event e ds))
    by Less is rest = sorted_cons event_cmp e (d ∷ ds) (is, above d ds is (sorted_head event_cmp d ds h)) h
    by Equal is rest = sorted_cons event_cmp e ds (level d ds is (sorted_head event_cmp d ds h)) (sorted_tail event_cmp d ds h)
    by Greater is rest = sorted_cons event_cmp d (put_event e ds) (all_put (λ y. event_cmp d y ≡ Less) e ds (turned d e Greater is) (sorted_head event_cmp d ds h)) rest
