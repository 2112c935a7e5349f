-- One more event in a node.
use Rattle.std.proofs.Common.{◌≡◌, ℕ, ◌+◌, ◌-◌, ◌<◌, ◌≤◌, Bool, true, false, List, length, get_or, set, refl, sym, ap, ◌∙◌, subst, inl, inr, arith}
use Rattle.std.specs.Prelude.{nat_le}
use Rattle.std.specs.List.{insert}
use Rattle.std.specs.Ordering.{nat_cmp, ordering_then, is_lt}
use Rattle.std.specs.declared.cmp.Ordering.{Ordering}
use Rattle.std.specs.declared.cmp.Ordering.TheVariants.{Less, Equal, Greater}
use Rattle.std.proofs.lemmas.Cmp.{ranked}
use Rattle.std.proofs.lemmas.Bool.{cases_order, false_from_ne_true, false≢true, and_parts, leb-true}
use Rattle.std.proofs.lemmas.Bool.Decides.{Decides-and, Decides-like, same_from_decides}
use Rattle.std.proofs.lemmas.Map.Keys.{Less-from_sorted}
use Rattle.values.specs.Event.{Event}
use Rattle.values.specs.Events.{bytes_cmp, is_bytes, event_cmp, put_event}
use Rattle.keyrange.specs.Rect.{Area, has_point}
use Rattle.keyrange.specs.Range.{is_early, is_key_in}
use Rattle.keyrange.proofs.RangeOrder.{is_less}
use Rattle.eventlist.specs.Overtaking.{overtakes}
use Rattle.eventlist.specs.Place.{AreFirst, is_before}
use Rattle.eventlist.proofs.PlaceOrder.{bytes_total, bytes_exact, bytes_tie, same_bytes, is_own, is_lower}
use Rattle.eventlist.proofs.OvertakingNext.{Overtakes, overtakes_is, is_overtakes}
use Rattle.eventlist.proofs.PutPlaced.{sorted_put}
use Rattle.datanode.specs.Cut.{IsMap, in_cut, cut}
use Rattle.datanode.specs.Node.{Node, IsNode, IsCutOf, IsLast}
use Rattle.datanode.proofs.CutMembers.{In, In-filter, In-from_filter, all_kept}
use Rattle.datanode.proofs.CutOrder.{In_place, at_In}
use Rattle.datanode.proofs.CutLaws.{IsInCut, in_cut_decides}
use Rattle.datanode.proofs.CutParts.{cut_is_map, cut_of_itself}
use Rattle.datanode.proofs.NodeInsert.{insert_is, replace_is, filter-put, NoTie, In-from_put, In-put_new, In-put_old, flipped}

equal_by : (d e : Event) (o : Ordering) → bytes_cmp d.key e.key ≡ o → ordering_then o (nat_cmp d.at e.at) ≡ Equal → (d.key ≡ e.key) × (d.at ≡ e.at)
equal_by d e Less p h = cc
equal_by d e Equal p h = (bytes_exact d.key e.key p, ranked d.at e.at Equal (sym h))
equal_by d e Greater p h = cc

pub event_equal : (d e : Event) → event_cmp d e ≡ Equal → (d.key ≡ e.key) × (d.at ≡ e.at)
event_equal d e h = equal_by d e (bytes_cmp d.key e.key) refl h

less_same : (d e : Event) → event_cmp d e ≡ Less → d.key ≡ e.key → d.at < e.at
less_same d e h same = (is_lower d e h).same same

not_less_by : (d e : Event) (o : Ordering) → event_cmp d e ≡ o → is_lt o ≡ false → (d.key ≡ e.key → d.at < e.at) → event_cmp e d ≡ Less
not_less_by d e Less p h later = cc
not_less_by d e Equal p h later = absurd (let q = event_equal d e p in let a : d.at < e.at = later q.0 in let b : d.at ≡ e.at = q.1 in omega arith)
not_less_by d e Greater p h later = flipped d e p

-- of three in order, whose first and last are of one key, so is the one between
between : (d e f : Event) → event_cmp d e ≡ Less → event_cmp e f ≡ Less → d.key ≡ f.key → (d.key ≡ e.key) × (d.at < e.at) × (e.at < f.at)
between d e f p q same = by (is_bytes d.key e.key) refl
  where
    by : (t : Bool) → is_bytes d.key e.key ≡ t → (d.key ≡ e.key) × (d.at < e.at) × (e.at < f.at)
    by true is = let one = same_bytes d.key e.key is in (one, less_same d e p one, less_same e f q (sym one ∙ same))
    by false is = absurd (
        let apart : d.key ≡ e.key → ⊥ = λ h. false≢true (sym is ∙ subst (λ k. is_bytes d.key k ≡ true) h (is_own d.key)) in
        let up = (is_lower d e p).other apart in
        let on = (is_lower e f q).other (λ h. apart (same ∙ sym h)) in
        let round : bytes_cmp d.key d.key ≡ Less = subst (λ k. bytes_cmp d.key k ≡ Less) (sym same) (bytes_total.trans d.key e.key f.key up on) in
        let tie = bytes_tie d.key in cc)

-- the event's place: those before it are below, those from it on above
pub record IsPlace (m : List Event) (e : Event) (i : ℕ) : Type 0 where
  pub within : i ≤ length m
  pub before : (k : ℕ) (d : Event) → k < i → event_cmp (get_or m k d) e ≡ Less
  pub behind : (k : ℕ) (d : Event) → i ≤ k → k < length m → event_cmp e (get_or m k d) ≡ Less

pub place_of : (m : List Event) (e : Event) (i : ℕ) → IsLast e m → i ≤ length m → AreFirst (is_before e) m i → IsPlace m e i
place_of m e i last within first = record {
  within = within;
  before = λ k d lt. is_less _ (first.0 k d (omega arith) lt);
  behind = λ k d le lt. not_less_by (get_or m k d) e (event_cmp (get_or m k d) e) refl (first.1 k d le lt) (last k d lt);
}

-- the event's point lies in the rectangle
pub record IsPointOf (r : Area) (e : Event) : Type 0 where
  pub keys : is_key_in r.keys e.key ≡ true
  pub start : r.time.from ≤ e.at
  pub end : is_early e.at r.time.to ≡ true

pub point_of : (r : Area) (e : Event) → has_point r e.key e.at ≡ true → IsPointOf r e
point_of r e h = record {
  keys = (and_parts _ _ h).0;
  start = leb-true r.time.from e.at (and_parts _ _ (and_parts (is_key_in r.keys e.key) _ h).1).0;
  end = (and_parts (nat_le r.time.from e.at) _ (and_parts (is_key_in r.keys e.key) _ h).1).1;
}

-- what a node holds is in the cut of it
in_cut_of : (r : Area) (n : List Event) → IsNode r n → (e : Event) → In e n → IsInCut r n e
in_cut_of r n node e i = (in_cut_decides r n e).0 (In-from_filter (in_cut r n) n e (subst (In e) node.whole i)).1

module _ (r : Area) (n : List Event) (e : Event) (node : IsNode r n) (point : IsPointOf r e) where
  new_in : (m : List Event) → in_cut r m e ≡ true
  new_in m = (in_cut_decides r m e).1 (point.keys, inl (point.start, point.end))

  -- the law: the cut of the map with the event is the cut of the node with it
  module _ (m : List Event) (whole : n ≡ cut r m) (apart : NoTie e n) where
    apart_map : NoTie e m
    apart_map d i h =
        let q = event_equal e d h in
        let at : e.at ≡ d.at = q.1 in
        let starts : r.time.from ≤ e.at = point.start in
        let inside : IsInCut r m d = (ap (is_key_in r.keys) (sym q.0) ∙ point.keys, inl (omega arith, ap (λ t. is_early t r.time.to) (sym at) ∙ point.end)) in
        apart d (subst (In d) (sym whole) (In-filter (in_cut r m) m d i ((in_cut_decides r m d).1 inside))) h

    agree_to : (d : Event) → In d m → IsInCut r m d × IsInCut r (put_event e (cut r m)) d → IsInCut r (put_event e m) d
    agree_to d i h = (
      h.0.0,
      elim h.1.1 [
        | inl w ↦ inl w
        | inr c ↦ elim h.0.1 [
          | inl w ↦ inl w
          | inr c' ↦ inr (
            c.0,
            (
              c.1.0,
              λ o. elim (In-from_put e m o.0 o.1) [
                | inl q ↦ c.1.1 (o.0, subst (λ x. In x (put_event e (cut r m))) q (In-put_new e (cut r m)), o.2)
                | inr j ↦ c'.1.1 (o.0, j, o.2)
              ],
            ),
          )
        ]
      ],
    )

    agree_from : (d : Event) → In d m → IsInCut r (put_event e m) d → IsInCut r m d × IsInCut r (put_event e (cut r m)) d
    agree_from d i h = elim h.1 [
      | inl w ↦ ((h.0, inl w), (h.0, inl w))
      | inr c ↦ (
        (h.0, inr (c.0, (c.1.0, λ o. c.1.1 (o.0, In-put_old e m apart_map o.0 o.1, o.2)))),
        (
          h.0,
          inr (
            c.0,
            (
              c.1.0,
              λ o. c.1.1 (
                o.0,
                elim (In-from_put e (cut r m) o.0 o.1) [
                  | inl q ↦ subst (λ x. In x (put_event e m)) q (In-put_new e m)
                  | inr j ↦ In-put_old e m apart_map o.0 (In-from_filter (in_cut r m) m o.0 j).0
                ],
                o.2,
              ),
            ),
          ),
        ),
      )
    ]

    pub cut_put : IsMap m → cut r (put_event e n) ≡ cut r (put_event e m)
    cut_put sorted =
        ap (λ l. cut r (put_event e l)) whole
        ∙ filter-put e (in_cut r (put_event e (cut r m))) (in_cut r (put_event e m)) (in_cut r m) (new_in (put_event e (cut r m))) (new_in (put_event e m)) m sorted apart_map
        (λ d i. same_from_decides _ _ (Decides-like _ (agree_to d i) (agree_from d i) (Decides-and _ _ (in_cut_decides r m d) (in_cut_decides r (put_event e (cut r m)) d))) (in_cut_decides r (put_event e m) d))

  -- ---- what the code does
  module _ (i : ℕ) (place : IsPlace n e i) where
    kept : (d : Event) → In d n → (Overtakes d r.time.from e → ⊥) → in_cut r (put_event e n) d ≡ true
    kept d j free = let h = in_cut_of r n node d j in (in_cut_decides r (put_event e n) d).1 (
      h.0,
      elim h.1 [
        | inl w ↦ inl w
        | inr c ↦ inr (
          c.0,
          (
            c.1.0,
            λ o. elim (In-from_put e n o.0 o.1) [
              | inl q ↦ free (subst (Overtakes d r.time.from) (sym q) o.2)
              | inr k ↦ c.1.1 (o.0, k, o.2)
            ],
          ),
        )
      ],
    )

    only_last : (k : ℕ) (x : Event) → k < length n → Overtakes (get_or n k x) r.time.from e → k + 1 ≡ i
    only_last k x within o =
        let d = get_or n k x in
        let same : d.key ≡ e.key = o.of_key in
        let later : d.at < e.at = o.after in
        let by : e.at ≤ r.time.from = o.until in
        elim (cases_order (k + 1) i) [
          | inl eq ↦ eq
          | inr (inr gt) ↦ absurd (let a : e.at < d.at = less_same e d (place.behind k x (omega arith) within) (sym same) in omega arith)
          | inr (inl lt) ↦ absurd (
              let p : i - 1 < length n = (let w : i ≤ length n = place.within in omega arith) in
              let y = get_or n (i - 1) x in
              let b = between d y e (Less-from_sorted event_cmp n k (i - 1) x node.ordered (omega arith) p) (place.before (i - 1) x (omega arith)) same in
              let u : y.at < e.at = b.2 in
              elim (in_cut_of r n node d (at_In x n k within)).1 [
                | inl w ↦ (let z : r.time.from ≤ d.at = w.0 in omega arith)
                | inr c ↦ c.1.1 (y, at_In x n (i - 1) p, record { of_key = b.0; after = b.1; until = omega arith })
              ])
        ]

    pub put_plain : ((x : Event) → 0 < i → Overtakes (get_or n (i - 1) x) r.time.from e → ⊥) → insert n i e ≡ cut r (put_event e n)
    put_plain free = insert_is e n i place.within place.before place.behind ∙ sym (all_kept (in_cut r (put_event e n)) (put_event e n) (λ x j. elim (In-from_put e n x j) [
      | inl q ↦ subst (λ z. in_cut r (put_event e n) z ≡ true) q (new_in (put_event e n))
      | inr l ↦ kept x l (λ o.
          let s = In_place x e n l in
          let last = only_last s.0 e s.1 (subst (λ z. Overtakes z r.time.from e) (sym s.2) o) in
          let at : s.0 ≡ i - 1 = omega arith in
          free e (omega arith) (subst (λ z. Overtakes z r.time.from e) (sym s.2 ∙ ap (λ k. get_or n k e) at) o))
    ]))

    pub put_replaced : 0 < i → ((x : Event) → Overtakes (get_or n (i - 1) x) r.time.from e) → set n (i - 1) e ≡ cut r (put_event e n)
    put_replaced some o =
        let w : i ≤ length n = place.within in
        replace_is e (in_cut r (put_event e n)) (new_in (put_event e n)) n (i - 1) (omega arith)
        (λ k x h. place.before k x (omega arith)) (λ k x h g. place.behind k x (omega arith) g)
        (λ x. false_from_ne_true _ (λ y.
        let a : (get_or n (i - 1) x).at < e.at = (o x).after in
        let b : e.at ≤ r.time.from = (o x).until in
        elim ((in_cut_decides r (put_event e n) (get_or n (i - 1) x)).0 y).1 [
          | inl w ↦ (let z : r.time.from ≤ (get_or n (i - 1) x).at = w.0 in omega arith)
          | inr c ↦ c.1.1 (e, In-put_new e n, o x)
        ]))
        (λ k x h other. kept (get_or n k x) (at_In x n k h) (λ q. let eq = only_last k x h q in other (omega arith)))

-- ---- over the code's terms: the event is put at the place that was found for it
module _ (r : Area) (n k : List Event) (e shown : Event) (i t : ℕ) (node : IsNode r n) (point : has_point r e.key e.at ≡ true) (last : IsLast e n) (shows : shown ≡ e) (same : k ≡ n) (start : t ≡ r.time.from) (within : i ≤ length k)
    (first : AreFirst (is_before shown) k i) where
  place : IsPlace n e i
  place = place_of n e i last (subst (λ l. i ≤ length l) same within) (subst (λ x. AreFirst (is_before x) n i) shows (subst (λ l. AreFirst (is_before shown) l i) same first))

  at_point : IsPointOf r e
  at_point = point_of r e point

  to_node : (b : Bool) (d : Event) → overtakes (get_or k (i - 1) d) t e ≡ b → overtakes (get_or n (i - 1) d) r.time.from e ≡ b
  to_node b d h = (λ j. overtakes (get_or (sym same j) (i - 1) d) (sym start j) e) ∙ h

  pub replaced_is : 0 < i → ((d : Event) → overtakes (get_or k (i - 1) d) t e ≡ true) → set n (i - 1) e ≡ cut r (put_event e n)
  replaced_is some o = put_replaced r n e node at_point i place some (λ x. overtakes_is (get_or n (i - 1) x) r.time.from e (to_node true x (o x)))

  pub plain_is : (0 < i → (d : Event) → overtakes (get_or k (i - 1) d) t e ≡ false) → insert n i e ≡ cut r (put_event e n)
  plain_is free = put_plain r n e node at_point i place (λ x some o. false≢true (sym (to_node false x (free some x)) ∙ is_overtakes (get_or n (i - 1) x) r.time.from e o))

-- ---- what a node is then

pub node_with : (r : Area) (n : List Event) (e : Event) (new : List Event) → IsNode r n → new ≡ cut r (put_event e n) → IsNode r new
node_with r n e new node is = subst (IsNode r) (sym is) (record { area = node.area; ordered = cut_is_map r (put_event e n) (sorted_put e n node.ordered); whole = cut_of_itself r (put_event e n) node.area })

no_tie : (n : List Event) (e : Event) → IsLast e n → NoTie e n
no_tie n e last d i h =
    let q = event_equal e d h in
    let r = In_place d d n i in
    let earlier : d.at < e.at = subst (λ (z : Event). z.key ≡ e.key → z.at < e.at) r.2 (last r.0 d r.1) (sym q.0) in
    let same : e.at ≡ d.at = q.1 in
    omega arith

pub cut_with : (n p : Node) (e : Event) → IsNode n.rect n.events → has_point n.rect e.key e.at ≡ true → IsLast e n.events → p ≡ record { rect = n.rect; events = cut n.rect (put_event e n.events) } → (m : List Event) → IsCutOf n m → IsCutOf p (put_event e m)
cut_with n p e node point last is m h = subst (λ p. IsCutOf p (put_event e m)) (sym is) (record {
  ordered = sorted_put e m h.ordered;
  events_are = cut_put n.rect n.events e node (point_of n.rect e point) m h.events_are (no_tie n.events e last) h.ordered;
})
