-- An event that is put elsewhere changes no cut.
use Rattle.std.proofs.Common.{◌≡◌, ℕ, ◌<◌, ◌≤◌, Bool, true, false, ◌&&◌, ◌||◌, not, cond, List, [], ◌∷◌, Option, Some, None, refl, sym, ap, subst, ◌∙◌, inl, inr, arith}
use Rattle.std.specs.Prelude.{nat_lt, is_some}
use Rattle.std.specs.List.{filter, list_any}
use Rattle.std.specs.Ordering.{match_ordering}
use Rattle.std.specs.declared.cmp.Ordering.{Ordering}
use Rattle.std.specs.declared.cmp.Ordering.TheVariants.{Less, Equal, Greater}
use Rattle.std.proofs.lemmas.Bool.{ltb-true, lt-ltb, cases_lt}
use Rattle.values.specs.Event.{Event}
use Rattle.values.specs.Events.{event_cmp, put_event}
use Rattle.keyrange.specs.Range.{is_early, is_key_in, is_time_in}
use Rattle.keyrange.specs.Rect.{Area, IsArea}
use Rattle.keyrange.proofs.RectInside.{facts_of}
use Rattle.eventlist.specs.Overtaking.{overtakes}
use Rattle.eventlist.proofs.OvertakingNext.{overtakes_is, never}
use Rattle.datanode.specs.Cut.{is_carried, in_cut, cut}
use Rattle.datanode.specs.Law.{IsElsewhere}
use Rattle.datanode.proofs.CutMembers.{filter_alike}
use Rattle.datanode.proofs.CutLaws.{in_cut_decides, IsInCut}
use Rattle.datanode.proofs.NodePut.{event_equal}

-- ---- a test that neither the event passes, nor any of its key and instant

module _ (p : Event → Bool) (e : Event) (fails : p e ≡ false) (tied : (d : Event) → event_cmp e d ≡ Equal → p d ≡ false) where
  any_by : (d : Event) (ds : List Event) (o : Ordering) → event_cmp e d ≡ o → list_any p (put_event e ds) ≡ list_any p ds → list_any p (match_ordering o (e ∷ d ∷ ds) (e ∷ ds) (d ∷ put_event e ds)) ≡ list_any p (d ∷ ds)
  any_by d ds Less is rest = ap (λ b. b || list_any p (d ∷ ds)) fails
  any_by d ds Equal is rest = ap (λ b. b || list_any p ds) (fails ∙ sym (tied d is))
  any_by d ds Greater is rest = ap (λ b. p d || b) rest

  pub any_put : (m : List Event) → list_any p (put_event e m) ≡ list_any p m
  any_put [] = ap (λ b. b || false) fails
  any_put (d ∷ ds) = any_by d ds (event_cmp e d) refl (any_put ds)

  filter_by : (d : Event) (ds : List Event) (o : Ordering) → event_cmp e d ≡ o → filter p (put_event e ds) ≡ filter p ds → filter p (match_ordering o (e ∷ d ∷ ds) (e ∷ ds) (d ∷ put_event e ds)) ≡ filter p (d ∷ ds)
  filter_by d ds Less is rest = ap (λ b. cond b (e ∷ filter p (d ∷ ds)) (filter p (d ∷ ds))) fails
  filter_by d ds Equal is rest = ap (λ b. cond b (e ∷ filter p ds) (filter p ds)) fails ∙ sym (ap (λ b. cond b (d ∷ filter p ds) (filter p ds)) (tied d is))
  filter_by d ds Greater is rest = ap (λ l. cond (p d) (d ∷ l) l) rest

  pub filter_put : (m : List Event) → filter p (put_event e m) ≡ filter p m
  filter_put [] = ap (λ b. cond b (e ∷ []) []) fails
  filter_put (d ∷ ds) = filter_by d ds (event_cmp e d) refl (filter_put ds)

-- ---- what is elsewhere

not_both : (b : Bool) → b ≡ true → b ≡ false → ⊥
not_both b e f = cc

-- an end that an instant has passed is after the start
past_end : (to : Option ℕ) (from at : ℕ) → is_early from to ≡ true → is_early at to ≡ false → from < at
past_end None from at h f = cc
past_end (Some end) from at h f = elim (cases_lt from at) [
  | inl lt ↦ lt
  | inr le ↦ absurd (not_both (is_early at (Some end)) (let lower : from < end = ltb-true from end h in lt-ltb at end (omega arith)) f)
]

module _ (r : Area) (area : IsArea r) where
  alike : (e d : Event) → event_cmp e d ≡ Equal → IsElsewhere r e → IsElsewhere r d
  alike e d tie away = elim away [
    | inl key ↦ inl (subst (λ k. is_key_in r.keys k ≡ false) (event_equal e d tie).0 key)
    | inr late ↦ inr (subst (λ t. is_early t r.time.to ≡ false) (event_equal e d tie).1 late)
  ]

  -- the rectangle does not hold it
  out : (m : List Event) (e : Event) → IsElsewhere r e → in_cut r m e ≡ false
  out m e away = never (in_cut r m e) (λ held. by ((in_cut_decides r m e).0 held))
    where
      by : IsInCut r m e → ⊥
      by h = elim away [
        | inl key ↦ not_both (is_key_in r.keys e.key) h.0 key
        | inr late ↦ elim h.1 [
          | inl w ↦ not_both (is_early e.at r.time.to) w.1 late
          | inr c ↦ (let past : r.time.from < e.at = past_end r.time.to r.time.from e.at (facts_of r area).has_instant late in let before : e.at < r.time.from = c.0 in absurd (omega arith))
        ]
      ]

  -- and it overtakes nothing that is carried to the start
  free : (x e : Event) → is_key_in r.keys x.key ≡ true → IsElsewhere r e → overtakes x r.time.from e ≡ false
  free x e key away = never (overtakes x r.time.from e) (λ h. (let o = overtakes_is x r.time.from e h in elim away [
    | inl other ↦ not_both (is_key_in r.keys e.key) (ap (is_key_in r.keys) (sym o.of_key) ∙ key) other
    | inr late ↦ (let past : r.time.from < e.at = past_end r.time.to r.time.from e.at (facts_of r area).has_instant late in let until : e.at ≤ r.time.from = o.until in absurd (omega arith))
  ]))

  module _ (m : List Event) (e : Event) (away : IsElsewhere r e) where
    same_by : (x : Event) (b : Bool) → is_key_in r.keys x.key ≡ b → (b && (is_time_in r.time x.at || is_carried (put_event e m) r.time.from x)) ≡ (b && (is_time_in r.time x.at || is_carried m r.time.from x))
    unfolding is_carried
    same_by x false key = refl
    same_by x true key =
        ap (λ b. is_time_in r.time x.at || (nat_lt x.at r.time.from && (is_some x.row && not b)))
        (any_put (overtakes x r.time.from) e (free x e key away) (λ d tie. free x d key (alike e d tie away)) m)

    same : (x : Event) → in_cut r (put_event e m) x ≡ in_cut r m x
    unfolding in_cut
    same x = same_by x (is_key_in r.keys x.key) refl

    pub cut_stays : cut r (put_event e m) ≡ cut r m
    cut_stays = filter_alike (in_cut r (put_event e m)) (in_cut r m) (put_event e m) (λ x i. same x)
        ∙ filter_put (in_cut r m) e (out m e away) (λ d tie. out m d (alike e d tie away)) m
