-- Lists in order that have the same members are the same.
use Rattle.std.proofs.Common.{◌≡◌, List, [], ◌∷◌, refl, sym, subst, ◌∙◌, ◌⊎◌, inl, inr}
use Rattle.std.specs.Ordering.{match_ordering}
use Rattle.std.specs.declared.cmp.Ordering.{Ordering}
use Rattle.std.specs.declared.cmp.Ordering.TheVariants.{Less, Equal, Greater}
use Rattle.values.specs.Event.{Event}
use Rattle.values.specs.Events.{event_cmp, put_event}
use Rattle.eventlist.proofs.PlaceOrder.{sorted_tail}
use Rattle.eventlist.proofs.PutPlaced.{sorted_put}
use Rattle.datanode.specs.Cut.{IsMap}
use Rattle.datanode.proofs.CutMembers.{In}
use Rattle.datanode.proofs.CutOrder.{head_below}
use Rattle.datanode.proofs.NodeInsert.{In-from_put, In-put_new}
use Rattle.datanode.proofs.LawLast.{not_below_itself, not_below_back}
use Rattle.treenodes.specs.Map.{put_all}

same_heads : (x y : Event) (xs ys : List Event) → IsMap (x ∷ xs) → IsMap (y ∷ ys) → In x (y ∷ ys) → In y (x ∷ xs) → x ≡ y
same_heads x y xs ys mx my (inl e) j = sym e
same_heads x y xs ys mx my (inr i) (inl e) = e
same_heads x y xs ys mx my (inr i) (inr j) = absurd (not_below_back x y (head_below x xs mx y j) (head_below y ys my x i))

rest_in : (x y : Event) (xs ys : List Event) → IsMap (x ∷ xs) → x ≡ y → ((z : Event) → In z (x ∷ xs) → In z (y ∷ ys)) → (z : Event) → In z xs → In z ys
rest_in x y xs ys mx same all z i = elim (all z (inr i)) [
  | inl e ↦ absurd (not_below_itself x z (same ∙ e) (head_below x xs mx z i))
  | inr j ↦ j
]

pub same_members : (xs ys : List Event) → IsMap xs → IsMap ys → ((z : Event) → In z xs → In z ys) → ((z : Event) → In z ys → In z xs) → xs ≡ ys
same_members [] [] mx my to from = refl
same_members [] (y ∷ ys) mx my to from = absurd (from y (inl refl))
same_members (x ∷ xs) [] mx my to from = absurd (to x (inl refl))
same_members (x ∷ xs) (y ∷ ys) mx my to from =
    let same = same_heads x y xs ys mx my (to x (inl refl)) (from y (inl refl)) in
    let tails : xs ≡ ys = same_members xs ys (sorted_tail event_cmp x xs mx) (sorted_tail event_cmp y ys my) (rest_in x y xs ys mx same to) (rest_in y x ys xs my (sym same) from) in
    (λ i. same i ∷ tails i)

-- ---- events that are put one after the other

kept_by : (e d : Event) (ds : List Event) (x : Event) (o : Ordering) → (o ≡ Equal → e ≡ d) → (In x ds → In x (put_event e ds)) → In x (d ∷ ds) → In x (match_ordering o (e ∷ d ∷ ds) (e ∷ ds) (d ∷ put_event e ds))
kept_by e d ds x Less tie rest i = inr i
kept_by e d ds x Equal tie rest (inl h) = inl (tie refl ∙ h)
kept_by e d ds x Equal tie rest (inr i) = inr i
kept_by e d ds x Greater tie rest (inl h) = inl h
kept_by e d ds x Greater tie rest (inr i) = inr (rest i)

-- what was there stays, where an event of the same point is the same event
pub In-put_kept : (e : Event) (ds : List Event) → ((d : Event) → In d ds → event_cmp e d ≡ Equal → e ≡ d) → (x : Event) → In x ds → In x (put_event e ds)
In-put_kept e [] tie x i = absurd i
In-put_kept e (d ∷ ds) tie x i = kept_by e d ds x (event_cmp e d) (tie d (inl refl)) (In-put_kept e ds (λ y j. tie y (inr j)) x) i

pub sorted_all : (es m : List Event) → IsMap m → IsMap (put_all es m)
sorted_all [] m h = h
sorted_all (e ∷ es) m h = sorted_put e (put_all es m) (sorted_all es m h)

pub In-from_all : (es m : List Event) (x : Event) → In x (put_all es m) → In x es ⊎ In x m
In-from_all [] m x i = inr i
In-from_all (e ∷ es) m x i = elim (In-from_put e (put_all es m) x i) [
  | inl h ↦ inl (inl h)
  | inr j ↦ elim (In-from_all es m x j) [ inl k ↦ inl (inr k) | inr k ↦ inr k ]
]

pub In-all : (P : Event → Type 0) → ((d e : Event) → P d → P e → event_cmp d e ≡ Equal → d ≡ e) → (es m : List Event) → ((x : Event) → In x es → P x) → ((x : Event) → In x m → P x) → (x : Event) → In x es ⊎ In x m → In x (put_all es m)
In-all P tie [] m pes pm x (inl i) = absurd i
In-all P tie [] m pes pm x (inr i) = i
In-all P tie (e ∷ es) m pes pm x i = by (In-all P tie es m (λ y k. pes y (inr k)) pm x) i
  where
    all : (y : Event) → In y (put_all es m) → P y
    all y j = elim (In-from_all es m y j) [ inl k ↦ pes y (inr k) | inr k ↦ pm y k ]

    ties : (d : Event) → In d (put_all es m) → event_cmp e d ≡ Equal → e ≡ d
    ties d j h = tie e d (pes e (inl refl)) (all d j) h

    by : (In x es ⊎ In x m → In x (put_all es m)) → In x (e ∷ es) ⊎ In x m → In x (put_event e (put_all es m))
    by rest (inl (inl h)) = subst (λ y. In y (put_event e (put_all es m))) h (In-put_new e (put_all es m))
    by rest (inl (inr j)) = In-put_kept e (put_all es m) ties x (rest (inl j))
    by rest (inr j) = In-put_kept e (put_all es m) ties x (rest (inr j))
