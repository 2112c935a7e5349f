-- Events in order: what stands at places, and what a key parts.
use Rattle.std.proofs.Common.{◌≡◌, ℕ, zero, suc, ◌<◌, Bool, true, false, not, cond, List, [], ◌∷◌, ◌++◌, length, get_or, refl, sym, ap, ◌∙◌, subst, inl, inr, arith}
use Rattle.std.specs.List.{filter, AllByRecursion}
use Rattle.std.specs.declared.cmp.Ordering.TheVariants.{Less}
use Rattle.std.proofs.lemmas.Bool.{false≢true}
use Rattle.values.specs.Event.{Event}
use Rattle.values.specs.Events.{event_cmp}
use Rattle.keyrange.specs.Range.{is_below}
use Rattle.eventlist.proofs.PlaceOrder.{sorted_head, sorted_tail, is_lower}
use Rattle.eventlist.proofs.ListingRanges.{below_parts}
use Rattle.datanode.specs.Cut.{IsMap}
use Rattle.datanode.proofs.CutMembers.{In, none_kept, all_kept}

pub In_place : {X : Type 0} (x d : X) (xs : List X) → In x xs → (j : ℕ) × (j < length xs) × (get_or xs j d ≡ x)
In_place x d [] i = absurd i
In_place x d (y ∷ ys) (inl e) = (0, omega arith, e)
In_place x d (y ∷ ys) (inr i) = let r = In_place x d ys i in let l : r.0 < length ys = r.1 in (suc r.0, omega arith, r.2)

pub at_In : {X : Type 0} (d : X) (xs : List X) (i : ℕ) → i < length xs → In (get_or xs i d) xs
at_In d [] i h = absurd (omega arith)
at_In d (y ∷ ys) zero h = inl refl
at_In d (y ∷ ys) (suc i) h = inr (at_In d ys i (omega arith))

pub each : {X : Type 0} (P : X → Type 0) (xs : List X) → AllByRecursion P xs → (x : X) → In x xs → P x
each P [] a x i = absurd i
each P (y ∷ ys) a x (inl e) = subst P e a.0
each P (y ∷ ys) a x (inr i) = each P ys a.1 x i

pub all_of : {X : Type 0} (P : X → Type 0) (xs : List X) → ((x : X) → In x xs → P x) → AllByRecursion P xs
all_of P [] h = tt
all_of P (y ∷ ys) h = (h y (inl refl), all_of P ys (λ x i. h x (inr i)))

pub head_below : (d : Event) (ds : List Event) → IsMap (d ∷ ds) → (x : Event) → In x ds → event_cmp d x ≡ Less
head_below d ds h = each (λ y. event_cmp d y ≡ Less) ds (sorted_head event_cmp d ds h)

-- ---- the events below a key stand before the others

pub parted : (k : List ℕ) (es : List Event) → IsMap es → filter (λ e. is_below e.key k) es ++ filter (λ e. not (is_below e.key k)) es ≡ es
parted k [] h = refl
parted k (e ∷ es) h = by (is_below e.key k) refl (parted k es (sorted_tail event_cmp e es h))
  where
    low : Event → Bool
    low x = is_below x.key k

    -- from an event that is not below the key on, none is
    behind : low e ≡ false → (x : Event) → In x (e ∷ es) → low x ≡ false
    behind is x i = not_low (low x) refl
      where
        not_low : (t : Bool) → low x ≡ t → low x ≡ false
        not_low false q = q
        not_low true q =
            let r = In_place x e (e ∷ es) i in
            let front : low e ≡ true = below_parts k (e ∷ es) h 0 r.0 e (omega arith) r.1 (ap low r.2 ∙ q) in
            absurd (false≢true (sym is ∙ front))

    by : (t : Bool) → low e ≡ t → filter low es ++ filter (λ x. not (low x)) es ≡ es → filter low (e ∷ es) ++ filter (λ x. not (low x)) (e ∷ es) ≡ e ∷ es
    by true is rest =
        (λ i. cond (is i) (e ∷ filter low es) (filter low es) ++ cond (not (is i)) (e ∷ filter (λ x. not (low x)) es) (filter (λ x. not (low x)) es))
        ∙ ap (λ l. e ∷ l) rest
    by false is rest = (λ i. none_kept low (e ∷ es) (behind is) i ++ all_kept (λ x. not (low x)) (e ∷ es) (λ x j. ap not (behind is x j)) i)

-- of one key and one instant there is one event
pub one_event : (m : List Event) → IsMap m → (x e : Event) → x.key ≡ e.key → x.at ≡ e.at → In x m → In e m → x ≡ e
one_event [] map x e key at i j = absurd i
one_event (d ∷ ds) map x e key at (inl p) (inl q) = sym p ∙ q
one_event (d ∷ ds) map x e key at (inl p) (inr j) =
    absurd (let lower : d.at < e.at = (is_lower d e (head_below d ds map e j)).same (ap (λ (z : Event). z.key) p ∙ key) in let same : d.at ≡ x.at = ap (λ (z : Event). z.at) p in omega arith)
one_event (d ∷ ds) map x e key at (inr i) (inl q) =
    absurd (let lower : d.at < x.at = (is_lower d x (head_below d ds map x i)).same (ap (λ (z : Event). z.key) q ∙ sym key) in let same : d.at ≡ e.at = ap (λ (z : Event). z.at) q in omega arith)
one_event (d ∷ ds) map x e key at (inr i) (inr j) = one_event ds (sorted_tail event_cmp d ds map) x e key at i j
