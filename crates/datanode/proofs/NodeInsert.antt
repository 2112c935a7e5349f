-- What a list holds once an event was put, and that filters pass it.
use Rattle.std.proofs.Common.{◌≡◌, ℕ, zero, suc, ◌+◌, ◌<◌, ◌≤◌, Bool, true, false, ◌&&◌, cond, List, [], ◌∷◌, length, get_or, set, refl, sym, ap, ◌∙◌, subst, ◌⊎◌, inl, inr, arith}
use Rattle.std.specs.List.{filter, insert}
use Rattle.std.specs.Ordering.{match_ordering, ordering_reverse}
use Rattle.std.specs.declared.cmp.Ordering.{Ordering}
use Rattle.std.specs.declared.cmp.Ordering.TheVariants.{Less, Equal, Greater}
use Rattle.values.specs.Event.{Event}
use Rattle.values.specs.Events.{event_cmp, put_event}
use Rattle.values.specs.EventOrder.{event_total}
use Rattle.eventlist.proofs.PlaceOrder.{sorted_tail}
use Rattle.datanode.specs.Cut.{IsMap}
use Rattle.datanode.proofs.CutMembers.{In, filter_alike, filter_twice, In-from_filter, all_kept}
use Rattle.datanode.proofs.CutOrder.{In_place, head_below}

pub greater : (d e : Event) → event_cmp d e ≡ Less → event_cmp e d ≡ Greater
greater d e h = event_total.antisymm e d ∙ ap ordering_reverse h

module _ (e : Event) where
  pub put_below : (xs : List Event) → ((x : Event) → In x xs → event_cmp e x ≡ Less) → put_event e xs ≡ e ∷ xs
  put_below [] h = refl
  put_below (d ∷ ds) h = ap (λ o. match_ordering o (e ∷ d ∷ ds) (e ∷ ds) (d ∷ put_event e ds)) (h d (inl refl))

  from_by : (d : Event) (ds : List Event) (x : Event) (o : Ordering) → (In x (put_event e ds) → (e ≡ x) ⊎ In x ds) → In x (match_ordering o (e ∷ d ∷ ds) (e ∷ ds) (d ∷ put_event e ds)) → (e ≡ x) ⊎ In x (d ∷ ds)
  from_by d ds x Less rest (inl h) = inl h
  from_by d ds x Less rest (inr i) = inr i
  from_by d ds x Equal rest (inl h) = inl h
  from_by d ds x Equal rest (inr i) = inr (inr i)
  from_by d ds x Greater rest (inl h) = inr (inl h)
  from_by d ds x Greater rest (inr i) = elim (rest i) [ inl h ↦ inl h | inr j ↦ inr (inr j) ]

  pub In-from_put : (m : List Event) (x : Event) → In x (put_event e m) → (e ≡ x) ⊎ In x m
  In-from_put [] x (inl h) = inl h
  In-from_put [] x (inr i) = absurd i
  In-from_put (d ∷ ds) x i = from_by d ds x (event_cmp e d) (In-from_put ds x) i

  pub In-put_new : (m : List Event) → In e (put_event e m)
  In-put_new [] = inl refl
  In-put_new (d ∷ ds) = elim (event_cmp e d) as (λ o. In e (match_ordering o (e ∷ d ∷ ds) (e ∷ ds) (d ∷ put_event e ds))) [ Less ↦ inl refl | Equal ↦ inl refl | Greater ↦ inr (In-put_new ds) ]

  abbrev pub NoTie : List Event → Type 0
  NoTie m = (d : Event) → In d m → event_cmp e d ≡ Equal → ⊥

  old_by : (d : Event) (ds : List Event) (x : Event) (o : Ordering) → (o ≡ Equal → ⊥) → (In x ds → In x (put_event e ds)) → In x (d ∷ ds) → In x (match_ordering o (e ∷ d ∷ ds) (e ∷ ds) (d ∷ put_event e ds))
  old_by d ds x Less apart rest i = inr i
  old_by d ds x Equal apart rest i = absurd (apart refl)
  old_by d ds x Greater apart rest (inl h) = inl h
  old_by d ds x Greater apart rest (inr i) = inr (rest i)

  pub In-put_old : (m : List Event) → NoTie m → (x : Event) → In x m → In x (put_event e m)
  In-put_old [] apart x i = absurd i
  In-put_old (d ∷ ds) apart x i = old_by d ds x (event_cmp e d) (apart d (inl refl)) (In-put_old ds (λ y j. apart y (inr j)) x) i

  below_rest : (d : Event) (ds : List Event) → IsMap (d ∷ ds) → event_cmp e d ≡ Less → (x : Event) → In x (d ∷ ds) → event_cmp e x ≡ Less
  below_rest d ds sorted h x (inl q) = subst (λ y. event_cmp e y ≡ Less) q h
  below_rest d ds sorted h x (inr i) = event_total.trans e d x h (head_below d ds sorted x i)

  pub flipped : (d : Event) → event_cmp e d ≡ Greater → event_cmp d e ≡ Less
  flipped d h = event_total.antisymm d e ∙ ap ordering_reverse h

  -- a filter before the insertion and one after it are one filter
  module _ (p p' q : Event → Bool) (new : p e ≡ true) (new' : p' e ≡ true) where
    pass_by : (d : Event) (ds : List Event) → IsMap (d ∷ ds) → ((x : Event) → In x (d ∷ ds) → (q x && p x) ≡ p' x)
        → filter p (put_event e (filter q ds)) ≡ filter p' (put_event e ds) → (o : Ordering) → event_cmp e d ≡ o → (o ≡ Equal → ⊥)
        → filter p (put_event e (filter q (d ∷ ds))) ≡ filter p' (match_ordering o (e ∷ d ∷ ds) (e ∷ ds) (d ∷ put_event e ds))
    pass_by d ds s agree rest Less h apart =
        ap (filter p) (put_below (filter q (d ∷ ds)) (λ x i. below_rest d ds s h x (In-from_filter q (d ∷ ds) x i).0))
        ∙ ap (λ b. cond b (e ∷ filter p (filter q (d ∷ ds))) (filter p (filter q (d ∷ ds)))) new
        ∙ ap (λ l. e ∷ l) (filter_twice q p (d ∷ ds) ∙ filter_alike (λ x. q x && p x) p' (d ∷ ds) agree)
        ∙ sym (ap (λ b. cond b (e ∷ filter p' (d ∷ ds)) (filter p' (d ∷ ds))) new')
    pass_by d ds s agree rest Equal h apart = absurd (apart refl)
    pass_by d ds s agree rest Greater h apart = elim (q d) as (λ b. (b && p d) ≡ p' d → filter p (put_event e (cond b (d ∷ filter q ds) (filter q ds))) ≡ cond (p' d) (d ∷ filter p' (put_event e ds)) (filter p' (put_event e ds))) [
      | true ↦ λ a. ap (λ o. filter p (match_ordering o (e ∷ d ∷ filter q ds) (e ∷ filter q ds) (d ∷ put_event e (filter q ds)))) h
          ∙ (λ i. cond (a i) (d ∷ rest i) (rest i))
      | false ↦ λ a. rest ∙ ap (λ b. cond b (d ∷ filter p' (put_event e ds)) (filter p' (put_event e ds))) a
    ] (agree d (inl refl))

    pub filter-put : (m : List Event) → IsMap m → NoTie m → ((x : Event) → In x m → (q x && p x) ≡ p' x) → filter p (put_event e (filter q m)) ≡ filter p' (put_event e m)
    filter-put [] s apart agree = ap (λ b. cond b (e ∷ []) []) new ∙ sym (ap (λ b. cond b (e ∷ []) []) new')
    filter-put (d ∷ ds) s apart agree = pass_by d ds s agree (filter-put ds (sorted_tail event_cmp d ds s) (λ y j. apart y (inr j)) (λ x i. agree x (inr i))) (event_cmp e d) refl (apart d (inl refl))

  -- ---- by places
  pub insert_is : (m : List Event) (j : ℕ) → j ≤ length m → ((k : ℕ) (x : Event) → k < j → event_cmp (get_or m k x) e ≡ Less) → ((k : ℕ) (x : Event) → j ≤ k → k < length m → event_cmp e (get_or m k x) ≡ Less)
      → insert m j e ≡ put_event e m
  insert_is [] zero w f b = refl
  insert_is [] (suc j) w f b = absurd (omega arith)
  insert_is (d ∷ ds) zero w f b = sym (ap (λ o. match_ordering o (e ∷ d ∷ ds) (e ∷ ds) (d ∷ put_event e ds)) (b 0 d (omega arith) (omega arith)))
  insert_is (d ∷ ds) (suc j) w f b = ap (λ l. d ∷ l) (insert_is ds j (omega arith) (λ k x h. f (suc k) x (omega arith)) (λ k x h g. b (suc k) x (omega arith) (omega arith)))
      ∙ sym (ap (λ o. match_ordering o (e ∷ d ∷ ds) (e ∷ ds) (d ∷ put_event e ds)) (greater d e (f 0 d (omega arith))))

  -- the event at j gives its place up, all others pass
  pub replace_is : (p : Event → Bool) → p e ≡ true → (m : List Event) (j : ℕ) → j < length m → ((k : ℕ) (x : Event) → k < j + 1 → event_cmp (get_or m k x) e ≡ Less) → ((k : ℕ) (x : Event) → j + 1 ≤ k → k < length m → event_cmp e (get_or m k x) ≡ Less)
      → ((x : Event) → p (get_or m j x) ≡ false) → ((k : ℕ) (x : Event) → k < length m → (k ≡ j → ⊥) → p (get_or m k x) ≡ true) → set m j e ≡ filter p (put_event e m)
  replace_is p new [] j w f b gone kept = absurd (omega arith)
  replace_is p new (d ∷ ds) zero w f b gone kept =
      sym (ap (filter p) (ap (λ o. match_ordering o (e ∷ d ∷ ds) (e ∷ ds) (d ∷ put_event e ds)) (greater d e (f 0 d (omega arith)))
      ∙ ap (λ l. d ∷ l) (put_below ds (λ x i. let r = In_place x e ds i in let l : r.0 < length ds = r.1 in subst (λ y. event_cmp e y ≡ Less) r.2 (b (suc r.0) e (omega arith) (omega arith)))))
      ∙ ap (λ c. cond c (d ∷ filter p (e ∷ ds)) (filter p (e ∷ ds))) (gone d)
      ∙ all_kept p (e ∷ ds) (λ x i. elim i [ inl q ↦ subst (λ y. p y ≡ true) q new | inr i ↦ let r = In_place x e ds i in let l : r.0 < length ds = r.1 in subst (λ y. p y ≡ true) r.2 (kept (suc r.0) e (omega arith) (λ z. omega arith)) ]))
  replace_is p new (d ∷ ds) (suc j) w f b gone kept =
      ap (λ l. d ∷ l) (replace_is p new ds j (omega arith) (λ k x h. f (suc k) x (omega arith)) (λ k x h g. b (suc k) x (omega arith) (omega arith)) (λ x. gone x) (λ k x h ne. kept (suc k) x (omega arith) (λ z. ne (omega arith))))
      ∙ sym (ap (λ c. cond c (d ∷ filter p (put_event e ds)) (filter p (put_event e ds))) (kept 0 d (omega arith) (λ z. omega arith)))
      ∙ sym (ap (filter p) (ap (λ o. match_ordering o (e ∷ d ∷ ds) (e ∷ ds) (d ∷ put_event e ds)) (greater d e (f 0 d (omega arith)))))
