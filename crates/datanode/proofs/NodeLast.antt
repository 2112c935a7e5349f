-- A key's last event, and which events a node accepts.
use Rattle.std.proofs.Common.{◌↔◌, IsTrue, ◌≡◌, ℕ, ◌-◌, ◌<◌, Bool, true, false, ◌&&◌, List, [], ◌∷◌, Option, Some, None, refl, sym, ap, ◌∙◌, subst, inl, inr, arith, get_or, if◌then◌else◌}
use Rattle.std.specs.Prelude.{is_none}
use Rattle.std.proofs.lemmas.Bool.{ltb-true, lt-ltb, cases_lt, and_parts, and_from}
use Rattle.values.specs.Event.{Event}
use Rattle.values.specs.Events.{is_bytes, later}
use Rattle.keyrange.specs.Rect.{Area, has_point, IsArea}
use Rattle.keyrange.specs.Range.{is_early, is_key_in}
use Rattle.eventlist.specs.Place.{last_event}
use Rattle.eventlist.proofs.PlaceOrder.{is_own, same_bytes}
use Rattle.datanode.specs.Cut.{IsMap, in_cut, cut}
use Rattle.datanode.specs.Node.{Node, IsLast, Accepts, last_before, kept_from, is_after, accepts}
use Rattle.datanode.proofs.CutMembers.{In, In-from_filter}
use Rattle.keyrange.proofs.RectInside.{facts_of}
use Rattle.datanode.proofs.CutOrder.{In_place, at_In}
use Rattle.datanode.proofs.CutLaws.{IsInCut, in_cut_decides, ends_earlier}
use Rattle.datanode.proofs.LawLast.{last_such, found_such, none_passes, later_is_above, before_such, latest_in_cut}

abbrev of : List ℕ → Event → Bool
of key e = is_bytes key e.key && true

-- as there is no end, none is looked at
pub last_event_is : (es : List Event) (key : List ℕ) → last_event es key ≡ last_before None es key
last_event_is [] key = refl
last_event_is (e ∷ es) key = λ i. later (last_event_is es key i) (if and_true (is_bytes key e.key) i then Some e else None)
  where
    and_true : (b : Bool) → b ≡ (b && true)
    and_true true = refl
    and_true false = refl

-- ---- of a node, and of its map

early_last : (end : Option ℕ) (es : List Event) (key : List ℕ) → ((x : Event) → In x es → is_early x.at end ≡ true) → last_before None es key ≡ last_before end es key
early_last end [] key h = refl
early_last end (e ∷ es) key h = λ i. later (early_last end es key (λ x j. h x (inr j)) i) (if is_bytes key e.key && sym (h e (inl refl)) i then Some e else None)

pub latest_of_map : (r : Area) (es m : List Event) (key : List ℕ) → IsArea r → IsMap m → es ≡ cut r m → is_key_in r.keys key ≡ true → last_before None es key ≡ kept_from r.time.from (last_before r.time.to m key)
latest_of_map r es m key area map is in_range =
    ap (λ l. last_before None l key) is ∙ early_last r.time.to (cut r m) key (λ x i. early x ((in_cut_decides r m x).0 (In-from_filter (in_cut r m) m x i).1)) ∙ latest_in_cut r m key map area in_range
  where
    early : (x : Event) → IsInCut r m x → is_early x.at r.time.to ≡ true
    early x h = elim h.1 [ inl w ↦ w.1 | inr c ↦ (let a : x.at < r.time.from = c.0 in ends_earlier r.time.to x.at r.time.from (omega arith) (facts_of r area).has_instant) ]

-- ---- which events a node accepts

is_last_of : (es : List Event) (e : Event) → IsMap es → is_after e (last_before None es e.key) ≡ true → IsLast e es
is_last_of es e map h j d lt same = by (last_such (of e.key) es) refl (subst (λ o. is_after e o ≡ true) (before_such None es e.key) h)
  where
    mine : of e.key (get_or es j d) ≡ true
    mine = and_from _ _ (subst (λ k. is_bytes e.key k ≡ true) (sym same) (is_own e.key)) refl

    by : (o : Option Event) → last_such (of e.key) es ≡ o → is_after e o ≡ true → (get_or es j d).at < e.at
    by None at after = absurd (none_passes (of e.key) es (get_or es j d) (at_In d es j lt) mine at)
    by (Some x) at after =
        let l = found_such (of e.key) es x map at in
        let before : x.at < e.at = ltb-true x.at e.at after in
        elim (cases_lt x.at (get_or es j d).at) [
          | inl lower ↦ absurd (l.top (get_or es j d) (at_In d es j lt) mine (later_is_above x (get_or es j d) (sym (same_bytes e.key x.key (and_parts _ _ l.passes).0) ∙ sym same) lower))
          | inr not_lower ↦ omega arith
        ]

is_after_last : (es : List Event) (e : Event) → IsMap es → IsLast e es → is_after e (last_before None es e.key) ≡ true
is_after_last es e map h = subst (λ o. is_after e o ≡ true) (sym (before_such None es e.key)) (by (last_such (of e.key) es) refl)
  where
    by : (o : Option Event) → last_such (of e.key) es ≡ o → is_after e o ≡ true
    by None at = refl
    by (Some x) at =
        let l = found_such (of e.key) es x map at in
        let r = In_place x x es l.there in
        lt-ltb x.at e.at (subst (λ (z : Event). z.key ≡ e.key → z.at < e.at) r.2 (h r.0 x r.1) (sym (same_bytes e.key x.key (and_parts _ _ l.passes).0)))

pub accepts_is : (n : Node) (e : Event) → IsMap n.events → IsTrue (accepts n e) ↔ Accepts n e
accepts_is n e map = (to, from)
  where
    ended : (o : Option ℕ) → is_none o ≡ true → o ≡ None
    ended None h = refl
    ended (Some x) h = cc

    to : accepts n e ≡ true → Accepts n e
    to h =
        let rest = (and_parts (is_none n.rect.time.to) _ h).1 in
        record { current = ended n.rect.time.to (and_parts _ _ h).0; inside = (and_parts _ _ rest).0; last = is_last_of n.events e map (subst (λ o. is_after e o ≡ true) (last_event_is n.events e.key) (and_parts (has_point n.rect e.key e.at) _ rest).1) }

    from : Accepts n e → accepts n e ≡ true
    from h = and_from _ _ (ap is_none h.current) (and_from _ _ h.inside (subst (λ o. is_after e o ≡ true) (sym (last_event_is n.events e.key)) (is_after_last n.events e map h.last)))
