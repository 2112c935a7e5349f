-- The last event of a key, in a cut and in the map.
use Rattle.std.proofs.Common.{◌≡◌, ℕ, ◌<◌, ◌≤◌, Bool, true, false, ◌&&◌, ◌||◌, List, [], ◌∷◌, Option, Some, None, refl, sym, ap, ◌∙◌, subst, inl, inr, arith, if◌then◌else◌, option_and_then}
use Rattle.std.specs.Prelude.{is_some, nat_le}
use Rattle.std.specs.declared.cmp.Ordering.TheVariants.{Less, Equal}
use Rattle.std.specs.Ordering.{ordering_reverse, ordering_then, nat_cmp}
use Rattle.std.specs.Cmp.{nat_cmp_is}
use Rattle.std.proofs.lemmas.Bool.{cases_lt, cases_order, and_parts, and_from, leb-true, false≢true, false_from_ne_true}
use Rattle.std.proofs.lemmas.Bool.Decides.{nat_tests}
use Rattle.std.proofs.lemmas.Cmp.{tied_itself}
use Rattle.std.proofs.lemmas.List.Kept.{IsStrictlySortedBy-filter}
use Rattle.values.specs.Event.{Event}
use Rattle.values.specs.Log.{Row}
use Rattle.values.specs.Events.{bytes_cmp, is_bytes, event_cmp, later, event_until}
use Rattle.keyrange.specs.Rect.{Area, IsArea}
use Rattle.keyrange.specs.Range.{is_early, is_key_in}
use Rattle.values.specs.EventOrder.{event_total}
use Rattle.eventlist.proofs.PlaceOrder.{sorted_tail, same_bytes, is_own, bytes_tie}
use Rattle.datanode.specs.Cut.{IsMap, in_cut, cut}
use Rattle.datanode.specs.Node.{last_before, kept_from}
use Rattle.datanode.specs.Law.{ShownByCut}
use Rattle.datanode.proofs.CutMembers.{In, In-filter, In-from_filter}
use Rattle.datanode.proofs.CutOrder.{head_below, one_event}
use Rattle.keyrange.proofs.RectInside.{facts_of}
use Rattle.datanode.proofs.CutLaws.{IsInCut, in_cut_decides, ends_earlier}

-- the last that passes a test
abbrev pub last_such : (Event → Bool) → List Event → Option Event
last_such p [] = None
last_such p (e ∷ es) = later (last_such p es) (if p e then Some e else None)

-- an event of the list that passes, above which none does
pub record IsLastSuch (p : Event → Bool) (es : List Event) (e : Event) : Type 0 where
  pub there : In e es
  pub passes : p e ≡ true
  pub top : (x : Event) → In x es → p x ≡ true → event_cmp e x ≡ Less → ⊥

pub not_below_itself : (e x : Event) → e ≡ x → event_cmp e x ≡ Less → ⊥
not_below_itself e x q less = let t = ap (event_cmp e) (sym q) ∙ tied_itself event_total e in cc

pub not_below_back : (d e : Event) → event_cmp d e ≡ Less → event_cmp e d ≡ Less → ⊥
not_below_back d e h g = let back = event_total.antisymm e d ∙ ap ordering_reverse h in cc

module _ (p : Event → Bool) where
  pub none_such : (es : List Event) → ((x : Event) → In x es → p x ≡ true → ⊥) → last_such p es ≡ None
  none_such [] h = refl
  none_such (e ∷ es) h =
      (λ i. later (none_such es (λ x i. h x (inr i)) i) (if false_from_ne_true (p e) (h e (inl refl)) i then Some e else None))

  pub is_last_such : (es : List Event) (e : Event) → IsMap es → IsLastSuch p es e → last_such p es ≡ Some e
  is_last_such [] e s l = absurd l.there
  is_last_such (d ∷ ds) e s l = by l.there (λ i. is_last_such ds e (sorted_tail event_cmp d ds s) (record { there = i; passes = l.passes; top = λ x i. l.top x (inr i) }))
    where
      by : In e (d ∷ ds) → (In e ds → last_such p ds ≡ Some e) → last_such p (d ∷ ds) ≡ Some e
      by (inl q) rest =
          let none = none_such ds (λ x i passes. l.top x (inr i) passes (subst (λ z. event_cmp z x ≡ Less) q (head_below d ds s x i))) in
          (λ i. later (none i) (if p d then Some d else None)) ∙ ap (λ b. if b then Some d else None) (ap p q ∙ l.passes) ∙ ap Some q
      by (inr i) rest = ap (λ o. later o (if p d then Some d else None)) (rest i)

  found_by : (d : Event) (ds : List Event) (e : Event) (o : Option Event) (b : Bool) → IsMap (d ∷ ds) → last_such p ds ≡ o → p d ≡ b → ((e : Event) → last_such p ds ≡ Some e → IsLastSuch p ds e) → ((x : Event) → In x ds → p x ≡ true → last_such p ds ≡ None → ⊥)
      → later o (if b then Some d else None) ≡ Some e → IsLastSuch p (d ∷ ds) e
  found_by d ds e (Some x) b s at is rest none h =
      let l = rest e (at ∙ h) in
      record {
        there = inr l.there;
        passes = l.passes;
        top = λ y i passes less. elim i [
          | inl q ↦ not_below_back d e (head_below d ds s e l.there) (subst (λ z. event_cmp e z ≡ Less) (sym q) less)
          | inr j ↦ l.top y j passes less
        ];
      }
  found_by d ds e None true s at is rest none h =
      let same : d ≡ e = cc in
      record {
        there = inl same;
        passes = subst (λ z. p z ≡ true) same is;
        top = λ y i passes less. elim i [ inl q ↦ not_below_itself e y (sym same ∙ q) less | inr j ↦ none y j passes at ];
      }
  found_by d ds e None false s at is rest none h = cc

  none_by : (d : Event) (ds : List Event) (x : Event) (o : Option Event) (b : Bool) → last_such p ds ≡ o → p d ≡ b → ((x : Event) → In x ds → p x ≡ true → last_such p ds ≡ None → ⊥) → In x (d ∷ ds) → p x ≡ true
      → later o (if b then Some d else None) ≡ None → ⊥
  none_by d ds x (Some y) b at is rest i passes h = cc
  none_by d ds x None true at is rest i passes h = cc
  none_by d ds x None false at is rest (inl q) passes h = false≢true (sym is ∙ ap p q ∙ passes)
  none_by d ds x None false at is rest (inr i) passes h = rest x i passes at

  pub none_passes : (es : List Event) (x : Event) → In x es → p x ≡ true → last_such p es ≡ None → ⊥
  none_passes [] x i passes h = i
  none_passes (d ∷ ds) x i passes h = none_by d ds x (last_such p ds) (p d) refl refl (none_passes ds) i passes h

  pub found_such : (es : List Event) (e : Event) → IsMap es → last_such p es ≡ Some e → IsLastSuch p es e
  found_such [] e s h = cc
  found_such (d ∷ ds) e s h = found_by d ds e (last_such p ds) (p d) s refl refl (λ e h. found_such ds e (sorted_tail event_cmp d ds s) h) (none_passes ds) h

-- ---- both look-ups are of this kind

pub until_such : (es : List Event) (key : List ℕ) (t : ℕ) → event_until es key t ≡ last_such (λ e. is_bytes key e.key && nat_le e.at t) es
until_such [] key t = refl
until_such (e ∷ es) key t = ap (λ o. later o (if is_bytes key e.key && nat_le e.at t then Some e else None)) (until_such es key t)

pub before_such : (end : Option ℕ) (es : List Event) (key : List ℕ) → last_before end es key ≡ last_such (λ e. is_bytes key e.key && is_early e.at end) es
before_such end [] key = refl
before_such end (e ∷ es) key = ap (λ o. later o (if is_bytes key e.key && is_early e.at end then Some e else None)) (before_such end es key)

pub later_is_above : (e d : Event) → e.key ≡ d.key → e.at < d.at → event_cmp e d ≡ Less
later_is_above e d same h =
    ap (λ o. ordering_then o (nat_cmp e.at d.at)) (subst (λ k. bytes_cmp e.key k ≡ Equal) same (bytes_tie e.key))
    ∙ sym (nat_cmp_is e.at d.at Less h)

-- ---- in a cut

module _ (r : Area) (m : List Event) (map : IsMap m) (key : List ℕ) (in_range : is_key_in r.keys key ≡ true) (c : ℕ → Bool) (from_passes : c r.time.from ≡ true) (down : (t u : ℕ) → t ≤ u → c u ≡ true → c t ≡ true)
    (ends : (t : ℕ) → c t ≡ true → is_early t r.time.to ≡ true) where
  abbrev pub such : Event → Bool
  such e = is_bytes key e.key && c e.at

  of_key : (e : Event) → such e ≡ true → key ≡ e.key
  of_key e h = same_bytes key e.key (and_parts _ _ h).0

  in_time : (e : Event) → such e ≡ true → c e.at ≡ true
  in_time e h = (and_parts (is_bytes key e.key) _ h).1

  is_such : (e : Event) → key ≡ e.key → c e.at ≡ true → such e ≡ true
  is_such e same t = and_from _ _ (subst (λ k. is_bytes key k ≡ true) same (is_own key)) t

  -- the last one is in the cut, or it is a deletion from before the first instant
  in_or_gone : (e : Event) → IsLastSuch such m e → (nat_le r.time.from e.at || is_some e.row) ≡ true → IsInCut r m e
  in_or_gone e l h = (
    subst (λ k. is_key_in r.keys k ≡ true) (of_key e l.passes) in_range,
    elim (cases_lt e.at r.time.from) [
      | inl early ↦ inr (
        early,
        (
          row_of (nat_le r.time.from e.at) (is_some e.row) (λ z. let late : r.time.from ≤ e.at = leb-true r.time.from e.at z in omega arith) h,
          λ o. let later_one : e.at < o.0.at = o.2.after in
              l.top o.0 o.1 (is_such o.0 (of_key e l.passes ∙ o.2.of_key) (down o.0.at r.time.from o.2.until from_passes)) (later_is_above e o.0 o.2.of_key later_one),
        ),
      )
      | inr late ↦ inl (late, ends e.at (in_time e l.passes))
    ],
  )
    where
      row_of : (a b : Bool) → (a ≡ true → ⊥) → (a || b) ≡ true → b ≡ true
      row_of true b apart h = absurd (apart refl)
      row_of false b apart h = h

  -- a deletion from before the first instant: no event of the key is in the cut
  gone : (e : Event) → (nat_le r.time.from e.at || is_some e.row) ≡ false → IsLastSuch such m e → (x : Event) → In x m → such x ≡ true → IsInCut r m x → ⊥
  gone e is l x i passes held =
      let same : x.key ≡ e.key = sym (of_key x passes) ∙ of_key e l.passes in
      let early : e.at < r.time.from = earlier r.time.from e.at (parts (nat_le r.time.from e.at) _ is).0 in
      let no_row : is_some e.row ≡ false = (parts (nat_le r.time.from e.at) (is_some e.row) is).1 in
      elim held.1 [
        | inl w ↦ l.top x i passes (later_is_above e x (sym same) (let a : r.time.from ≤ x.at = w.0 in omega arith))
        | inr c ↦ elim (cases_order x.at e.at) [
          | inl eq ↦ (let one = one_event m map x e same eq i l.there in false≢true (sym no_row ∙ subst (λ (z : Event). is_some z.row ≡ true) one c.1.0))
          | inr (inl lt) ↦ c.1.1 (e, l.there, record { of_key = same; after = lt; until = omega arith })
          | inr (inr gt) ↦ l.top x i passes (later_is_above e x (sym same) gt)
        ]
      ]
    where
      parts : (a b : Bool) → (a || b) ≡ false → (a ≡ false) × (b ≡ false)
      parts true b h = cc
      parts false b h = (refl, h)

      earlier : (a b : ℕ) → nat_le a b ≡ false → b < a
      earlier a b h = grind (arith, nat_tests)

  pub last_in_cut : last_such such (cut r m) ≡ kept_from r.time.from (last_such such m)
  last_in_cut = by (last_such such m) refl
    where
      kept : (e : Event) (b : Bool) → (nat_le r.time.from e.at || is_some e.row) ≡ b → IsLastSuch such m e → last_such such (cut r m) ≡ (if b then Some e else None)
      kept e true is l = is_last_such such (cut r m) e (IsStrictlySortedBy-filter event_cmp (in_cut r m) m map) (record {
        there = In-filter (in_cut r m) m e l.there ((in_cut_decides r m e).1 (in_or_gone e l is));
        passes = l.passes;
        top = λ x i passes less. l.top x (In-from_filter (in_cut r m) m x i).0 passes less;
      })
      kept e false is l = none_such such (cut r m) (λ x i passes. (let held = In-from_filter (in_cut r m) m x i in gone e is l x held.0 passes ((in_cut_decides r m x).0 held.1)))

      by : (o : Option Event) → last_such such m ≡ o → last_such such (cut r m) ≡ kept_from r.time.from o
      by None at = none_such such (cut r m) (λ x i passes. none_passes such m x (In-from_filter (in_cut r m) m x i).0 passes at)
      by (Some e) at = kept e (nat_le r.time.from e.at || is_some e.row) refl (found_such such m e map at)

-- ---- the laws

pub shown_by_cut : ShownByCut
shown_by_cut r m key t map point =
    ap (option_and_then (λ (e : Event). e.row)) (until_such (cut r m) key t ∙ last_in_cut r m map key (and_parts _ _ point).0 (λ u. nat_le u t) start (λ u v le h. earlier u v t le h) (λ u h. ends_earlier r.time.to u t (leb-true u t h) (and_parts (nat_le r.time.from t) _ (and_parts (is_key_in r.keys key) _ point).1).1))
    ∙ no_rows r.time.from (last_such (λ e. is_bytes key e.key && nat_le e.at t) m)
    ∙ ap (option_and_then (λ (e : Event). e.row)) (sym (until_such m key t))
  where
    start : nat_le r.time.from t ≡ true
    start = (and_parts _ _ (and_parts (is_key_in r.keys key) _ point).1).0

    earlier : (u v t : ℕ) → u ≤ v → nat_le v t ≡ true → nat_le u t ≡ true
    earlier u v t le h = grind (arith, nat_tests)

    -- a deletion shows no row
    no_rows : (from : ℕ) (o : Option Event) → option_and_then (λ (e : Event). e.row) (kept_from from o) ≡ option_and_then (λ (e : Event). e.row) o
    no_rows from None = refl
    no_rows from (Some e) = by (nat_le from e.at) e.row refl
      where
        by : (a : Bool) (row : Option Row) → e.row ≡ row → option_and_then (λ (e : Event). e.row) (if a || is_some row then Some e else None) ≡ e.row
        by true row is = refl
        by false (Some x) is = refl
        by false None is = sym is

pub latest_in_cut : (r : Area) (m : List Event) (key : List ℕ) → IsMap m → IsArea r → is_key_in r.keys key ≡ true → last_before r.time.to (cut r m) key ≡ kept_from r.time.from (last_before r.time.to m key)
latest_in_cut r m key map area in_range =
    before_such r.time.to (cut r m) key
    ∙ last_in_cut r m map key in_range (λ u. is_early u r.time.to) (facts_of r area).has_instant (λ u v le h. ends_earlier r.time.to u v le h) (λ u h. h)
    ∙ ap (kept_from r.time.from) (sym (before_such r.time.to m key))
