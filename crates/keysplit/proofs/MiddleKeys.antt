-- A middle key is above the first one, so both halves have an event.
use Rattle.std.proofs.Common.{◌≡◌, ℕ, zero, suc, ◌<◌, ◌≤◌, Bool, true, false, not, List, [], ◌∷◌, Option, Some, None, IfSome, IsTrue, ◌↔◌, length, get_or, refl, sym, ap, subst, ◌∙◌, inl, inr, arith, if◌then◌else◌, option_map}
use Rattle.std.specs.Ordering.{is_lt}
use Rattle.std.proofs.lemmas.Bool.{and_parts, and_from, false≢true, cases_order}
use Rattle.std.proofs.lemmas.Option.{slice_get_read}
use Rattle.std.proofs.lemmas.List.{get_or_default}
use Rattle.std.proofs.lemmas.Map.Keys.{Less-from_sorted}
use Rattle.values.specs.Event.{Event}
use Rattle.values.specs.Events.{is_bytes, event_cmp}
use Rattle.keyrange.specs.Rect.{Area}
use Rattle.keyrange.specs.Range.{is_below, is_key_in}
use Rattle.keyrange.specs.Cut.{is_key_inside, halves_by_key}
use Rattle.keyrange.proofs.RangeOrder.{above, not_itself}
use Rattle.eventlist.specs.Place.{AreFirst}
use Rattle.eventlist.proofs.PlaceOrder.{same_bytes, is_own, is_lower, within_tail, within_rest, within_head}
use Rattle.datanode.specs.Cut.{in_cut, cut}
use Rattle.datanode.specs.Node.{IsNode}
use Rattle.datanode.proofs.CutMembers.{In, In-filter, In-from_filter}
use Rattle.datanode.proofs.CutOrder.{In_place, at_In}
use Rattle.datanode.proofs.CutLaws.{in_cut_decides}
use Rattle.datanode.proofs.LawHalves.{halves_at_key}
use Rattle.keysplit.specs.Middle.{key_at, next_key, middle_or_next, middle_key, IsOfOneKey}

not_false : (b : Bool) → not b ≡ true → b ≡ false
not_false true h = cc
not_false false h = refl

not_true : (b : Bool) → not b ≡ false → b ≡ true
not_true true h = refl
not_true false h = cc

-- ---- by places

pub next_at : (key : List ℕ) (es : List Event) (n : ℕ) → n ≤ length es → AreFirst (λ e. not (is_below key e.key)) es n → next_key key es ≡ key_at es n
next_at key [] zero le h = refl
next_at key [] (suc n) le h = absurd (omega arith)
next_at key (e ∷ es) zero le h =
    ap (λ b. if b then Some e.key else next_key key es) (not_true _ (within_head (λ e. not (is_below key e.key) ≡ false) e es (length es) h.1))
next_at key (e ∷ es) (suc n) le h =
    ap (λ b. if b then Some e.key else next_key key es) (not_false _ (within_head (λ e. not (is_below key e.key) ≡ true) e es n h.0))
    ∙ next_at key es n (omega arith) (within_rest (λ e. not (is_below key e.key) ≡ true) e es n h.0, within_tail (λ e. not (is_below key e.key) ≡ false) e es n (length es) h.1)

key_read : (es : List Event) (i : ℕ) (e : Event) → i < length es → e ≡ get_or es i e → key_at es i ≡ Some e.key
key_read es i e lt at = ap (option_map (λ e. e.key)) (slice_get_read es (length es) i e refl lt at)

-- over the code's terms: e and d are the events at places 0 and 32
pub middle_is : (es : List Event) (e d : Event) (b : Bool) → 33 ≤ length es → e ≡ get_or es 0 e → d ≡ get_or es 32 d → b ≡ is_bytes e.key d.key → (if b then next_key e.key es else Some d.key) ≡ middle_key es
middle_is es e d b enough first place is =
    ap (λ b. if b then next_key e.key es else Some d.key) is
    ∙ sym (λ i. middle_or_next (key_read es 0 e (omega arith) first i) (key_read es 32 d (omega arith) place i) es)

-- ---- what the middle key is

next_some : (key : List ℕ) (es : List Event) (k : List ℕ) → next_key key es ≡ Some k → (e : Event) × In e es × (e.key ≡ k) × (is_below key e.key ≡ true)
next_some key [] k h = cc
next_some key (e ∷ es) k h = by (is_below key e.key) refl h (next_some key es k)
  where
    by : (b : Bool) → is_below key e.key ≡ b → (if b then Some e.key else next_key key es) ≡ Some k → (next_key key es ≡ Some k → (e : Event) × In e es × (e.key ≡ k) × (is_below key e.key ≡ true))
        → (d : Event) × In d (e ∷ es) × (d.key ≡ k) × (is_below key d.key ≡ true)
    by true is h rest = (e, inl refl, cc, is)
    by false is h rest = let r = rest h in (r.0, inr r.1, r.2, r.3)

next_none : (key : List ℕ) (es : List Event) → next_key key es ≡ None → (e : Event) → In e es → is_below key e.key ≡ false
next_none key [] h e i = absurd i
next_none key (d ∷ ds) h e i = by (is_below key d.key) refl h i (next_none key ds)
  where
    by : (b : Bool) → is_below key d.key ≡ b → (if b then Some d.key else next_key key ds) ≡ None → In e (d ∷ ds) → (next_key key ds ≡ None → (e : Event) → In e ds → is_below key e.key ≡ false) → is_below key e.key ≡ false
    by true is h i rest = cc
    by false is h (inl q) rest = ap (λ (x : Event). is_below key x.key) (sym q) ∙ is
    by false is h (inr i) rest = rest h e i

module _ (r : Area) (es : List Event) (node : IsNode r es) (enough : 33 ≤ length es) (d : Event) where
  first_in : In (get_or es 0 d) es
  first_in = at_In d es 0 (omega arith)

  key_in : (x : Event) → In x es → is_key_in r.keys x.key ≡ true
  key_in x i = ((in_cut_decides r es x).0 (In-from_filter (in_cut r es) es x (subst (In x) node.whole i)).1).0

  -- a key of an event above the first one
  IsAbove : List ℕ → Type 0
  IsAbove k = (x : Event) × In x es × (x.key ≡ k) × (is_below (get_or es 0 d).key x.key ≡ true)

  -- events of other keys are above the first one
  later_is_above : (j : ℕ) → j < length es → ((get_or es 0 d).key ≡ (get_or es j d).key → ⊥) → is_below (get_or es 0 d).key (get_or es j d).key ≡ true
  later_is_above j lt apart = elim (cases_order 0 j) [
    | inl eq ↦ absurd (apart (ap (λ k. (get_or es k d).key) eq))
    | inr (inl on) ↦ ap is_lt ((is_lower (get_or es 0 d) (get_or es j d) (Less-from_sorted event_cmp es 0 j d node.ordered on lt)).other apart)
    | inr (inr back) ↦ absurd (omega arith)
  ]

  middle_by : (b : Bool) → is_bytes (get_or es 0 d).key (get_or es 32 d).key ≡ b → (k : List ℕ) → (if b then next_key (get_or es 0 d).key es else Some (get_or es 32 d).key) ≡ Some k → IsAbove k
  unfolding IsAbove
  middle_by true is k h = next_some (get_or es 0 d).key es k h
  middle_by false is k h = (
    get_or es 32 d,
    at_In d es 32 (omega arith),
    cc,
    later_is_above 32 (omega arith) (λ same. false≢true (sym is ∙ subst (λ x. is_bytes (get_or es 0 d).key x ≡ true) same (is_own (get_or es 0 d).key))),
  )

  middle_of : middle_key es ≡ (if is_bytes (get_or es 0 d).key (get_or es 32 d).key then next_key (get_or es 0 d).key es else Some (get_or es 32 d).key)
  middle_of = sym (middle_is es (get_or es 0 d) (get_or es 32 d) _ enough (get_or_default es 0 d (get_or es 0 d) (omega arith)) (get_or_default es 32 d (get_or es 32 d) (omega arith)) refl)

  above_first : (k : List ℕ) → middle_key es ≡ Some k → IsAbove k
  above_first k h = middle_by (is_bytes (get_or es 0 d).key (get_or es 32 d).key) refl k (sym middle_of ∙ h)

  pub inside_of : (k : List ℕ) → middle_key es ≡ Some k → is_key_inside r k ≡ true
  unfolding IsAbove
  inside_of k h =
      let a = above_first k h in
      let first = key_in (get_or es 0 d) first_in in
      subst (λ x. is_key_inside r x ≡ true) a.2
      (and_from _ _ (above (get_or es 0 d).key r.keys.lo a.0.key (not_false _ (and_parts _ _ first).0) a.3) (and_parts (not (is_below a.0.key r.keys.lo)) _ (key_in a.0 a.1)).1)

  some_in : (x : Event) (xs : List Event) → In x xs → 0 < length xs
  some_in x [] i = absurd i
  some_in x (y ∷ ys) i = omega arith

  pub both_of : (k : List ℕ) → middle_key es ≡ Some k → (h : Area × Area) → halves_by_key r k ≡ Some h → (0 < length (cut h.0 es)) × (0 < length (cut h.1 es))
  unfolding IsAbove
  both_of k h halves is =
      let a = above_first k h in
      let law = halves_at_key r halves.0 halves.1 k es node.area is in
      let below : is_below (get_or es 0 d).key k ≡ true = subst (λ x. is_below (get_or es 0 d).key x ≡ true) a.2 a.3 in
      let whole = subst (λ l. (x : Event) → In x es → In x l) node.whole (λ x i. i) in (
        subst (λ l. 0 < length l) (sym law.lower) (some_in (get_or es 0 d) _ (In-filter (λ e. is_below e.key k) (cut r es) (get_or es 0 d) (whole (get_or es 0 d) first_in) below)),
        subst (λ l. 0 < length l) (sym law.upper) (some_in a.0 _ (In-filter (λ e. not (is_below e.key k)) (cut r es) a.0 (whole a.0 a.1) (subst (λ x. not (is_below x k) ≡ true) (sym a.2) (ap not (not_itself k))))),
      )

  none_by : (b : Bool) → is_bytes (get_or es 0 d).key (get_or es 32 d).key ≡ b → (if b then next_key (get_or es 0 d).key es else Some (get_or es 32 d).key) ≡ None → (j : ℕ) (x : Event) → j < length es → (get_or es j x).key ≡ (get_or es 0 d).key
  none_by false is h j x lt = cc
  none_by true is h j x lt = by (is_bytes (get_or es 0 d).key (get_or es j d).key) refl
    where
      at : (get_or es j x).key ≡ (get_or es j d).key
      at = ap (λ (e : Event). e.key) (get_or_default es j x d lt)

      by : (t : Bool) → is_bytes (get_or es 0 d).key (get_or es j d).key ≡ t → (get_or es j x).key ≡ (get_or es 0 d).key
      by true same = at ∙ sym (same_bytes (get_or es 0 d).key (get_or es j d).key same)
      by false other = absurd (false≢true (sym (next_none (get_or es 0 d).key es h (get_or es j d) (at_In d es j lt))
          ∙ later_is_above j lt (λ same. false≢true (sym other ∙ subst (λ x. is_bytes (get_or es 0 d).key x ≡ true) same (is_own (get_or es 0 d).key)))))

  pub one_key_of : middle_key es ≡ None → IsOfOneKey es
  one_key_of h = ((get_or es 0 d).key, none_by (is_bytes (get_or es 0 d).key (get_or es 32 d).key) refl (sym middle_of ∙ h))

  next_of_one : (key : List ℕ) (xs : List Event) → ((x : Event) → In x xs → x.key ≡ key) → next_key key xs ≡ None
  next_of_one key [] h = refl
  next_of_one key (x ∷ xs) h =
      ap (λ b. if b then Some x.key else next_key key xs) (ap (λ k. is_below key k) (h x (inl refl)) ∙ not_itself key) ∙ next_of_one key xs (λ y i. h y (inr i))

  pub none_of_one : IsOfOneKey es → middle_key es ≡ None
  none_of_one h =
      let first = h.1 0 d (omega arith) in
      let same = first ∙ sym (h.1 32 d (omega arith)) in
      middle_of
      ∙ ap (λ b. if b then next_key (get_or es 0 d).key es else Some (get_or es 32 d).key) (subst (λ x. is_bytes (get_or es 0 d).key x ≡ true) same (is_own (get_or es 0 d).key))
      ∙ next_of_one (get_or es 0 d).key es (λ x i. (let r = In_place x x es i in ap (λ (z : Event). z.key) (sym r.2) ∙ h.1 r.0 x r.1 ∙ sym first))

-- ---- over the code's terms

module _ (r : Area) (es fs : List Event) (o : Option (List ℕ)) (node : IsNode r es) (enough : 33 ≤ length es) (is : o ≡ middle_key fs) (same : fs ≡ es) where
  at_node : o ≡ middle_key es
  at_node = is ∙ ap middle_key same

  any : Event
  any = record { key = []; at = 0; row = None }

  pub is_none_of : o ≡ None ↔ IsOfOneKey es
  is_none_of = (λ h. one_key_of r es node enough any (sym at_node ∙ h), λ h. at_node ∙ none_of_one r es node enough any h)

  pub is_inside_of : IfSome o (λ k. IsTrue (is_key_inside r k))
  is_inside_of = by o at_node
    where
      by : (o : Option (List ℕ)) → o ≡ middle_key es → IfSome o (λ k. IsTrue (is_key_inside r k))
      by None h = tt
      by (Some k) h = inside_of r es node enough any k (sym h)

  pub is_both_of : IfSome o (λ k. IfSome (halves_by_key r k) (λ h. (0 < length (cut h.0 es)) × (0 < length (cut h.1 es))))
  is_both_of = by o at_node
    where
      halves_by : (k : List ℕ) → middle_key es ≡ Some k → (h : Option (Area × Area)) → halves_by_key r k ≡ h → IfSome h (λ h. (0 < length (cut h.0 es)) × (0 < length (cut h.1 es)))
      halves_by k at None q = tt
      halves_by k at (Some h) q = both_of r es node enough any k at h q

      by : (o : Option (List ℕ)) → o ≡ middle_key es → IfSome o (λ k. IfSome (halves_by_key r k) (λ h. (0 < length (cut h.0 es)) × (0 < length (cut h.1 es))))
      by None h = tt
      by (Some k) h = halves_by k (sym h) (halves_by_key r k) refl
