-- What is listed in place is what the node has.
use Rattle.std.proofs.Common.{◌≡◌, ℕ, ◌&&◌, not, nat_le, List, [], ◌∷◌, ◌++◌, Bool, true, false, Option, Some, None, length, refl, sym, subst, ap, ◌∙◌, if◌then◌else◌, All, filter, inl, inr}
use Rattle.std.specs.Ordering.{is_lt}
use Rattle.std.specs.declared.cmp.Ordering.TheVariants.{Less}
use Rattle.std.proofs.lemmas.List.Elements.{All-head, All-tail}
use Rattle.values.specs.Event.{Event}
use Rattle.values.specs.Events.{bytes_cmp, is_bytes, event_cmp}
use Rattle.values.specs.RowReading.{Parsed}
use Rattle.values.proofs.RowReads.{same_taken}
use Rattle.keyrange.specs.declared.range.KeyRange.{KeyRange}
use Rattle.keyrange.specs.Range.{is_below, is_before_end}
use Rattle.keyrange.proofs.RangeOrder.{is_less}
use Rattle.eventlist.specs.Listing.{events_in}
use Rattle.eventlist.proofs.PlaceOrder.{bytes_total, same_bytes, is_own, is_lower, sorted_tail}
use Rattle.datanode.specs.Cut.{IsMap}
use Rattle.datanode.specs.Node.{Node}
use Rattle.datanode.proofs.CutMembers.{In}
use Rattle.datanode.proofs.CutOrder.{head_below}
use Rattle.blocks.specs.Field.{taken_then}
use Rattle.blocks.specs.Event.{row_field, event_field, event_fields, point_from, event_from}
use Rattle.blocks.specs.Block.{IsBlockOf}
use Rattle.blocks.specs.Lookup.{past_row_field, events_place}
use Rattle.blocks.specs.Listing.{is_asked, made, passed, next_asked, asked_of, events_asked}
use Rattle.blocks.proofs.EventReads.{IsWritten, point_back, regroup, event_back}
use Rattle.blocks.proofs.BlockReads.{written}
use Rattle.blocks.proofs.LookupFinds.{past_row_back, count_of_block}

module _ (range : KeyRange) (from to : ℕ) where
  abbrev asked : Event → Bool
  asked e = is_asked range from to (e.key, e.at)

  abbrev one_of : Event → List ℕ → Parsed (Option Event)
  one_of e rest = if asked e then made (Some (e, rest)) else if is_before_end e.key range.hi then passed (Some rest) else None

  one_asked : (e : Event) (rest : List ℕ) → IsWritten e → next_asked range from to (event_field e ++ rest) ≡ one_of e rest
  unfolding next_asked
  one_asked e rest w =
      let bytes : List ℕ = event_field e ++ rest in
      let f : (List ℕ × ℕ) → List ℕ → Parsed (Option Event) = λ point left.
      if is_asked range from to point then made (event_from bytes)
      else if is_before_end point.0 range.hi then passed (past_row_field left)
      else None in
      let g : Option (List ℕ) → Parsed (Option Event) = λ o.
      if asked e then made (Some (e, rest)) else if is_before_end e.key range.hi then passed o else None in
      let h : Parsed Event → Parsed (Option Event) = λ o.
      if asked e then made o
      else if is_before_end e.key range.hi then passed (past_row_field (row_field e.row ++ rest))
      else None in
      ap (λ l. taken_then (point_from l) f) (regroup e rest)
      ∙ ap (λ x. taken_then x f) (point_back e.key e.at (row_field e.row ++ rest) w.kept.short_key w.fits)
      ∙ ap h (event_back e rest w)
      ∙ ap g (past_row_back e.row rest w.kept.stored)

  -- ---- from the end of the range on

  end_next : (end : List ℕ) (e x : Event) → event_cmp e x ≡ Less → is_below x.key end ≡ true → is_below e.key end ≡ true
  end_next end e x less h = by (is_bytes e.key x.key) refl
    where
      by : (t : Bool) → is_bytes e.key x.key ≡ t → is_below e.key end ≡ true
      by true is = subst (λ k. is_below k end ≡ true) (sym (same_bytes e.key x.key is)) h
      by false is = ap is_lt (bytes_total.trans e.key x.key end ((is_lower e x less).other (λ q.
          let own : is_bytes e.key x.key ≡ true = subst (λ k. is_bytes e.key k ≡ true) q (is_own e.key) in
          let never : ◌≡◌ {A = Bool} false true = sym is ∙ own in cc)) (is_less (bytes_cmp x.key end) h))

  ended_next : (end : Option (List ℕ)) (e x : Event) → event_cmp e x ≡ Less → is_before_end e.key end ≡ false → is_before_end x.key end ≡ false
  ended_next None e x less h = h
  ended_next (Some end) e x less h = by (is_below x.key end) refl
    where
      by : (t : Bool) → is_below x.key end ≡ t → t ≡ false
      by true is = let never : ◌≡◌ {A = Bool} false true = sym h ∙ end_next end e x less is in cc
      by false is = refl

  unasked : (e : Event) → is_before_end e.key range.hi ≡ false → asked e ≡ false
  unfolding is_asked
  unasked e h = ap (λ b. (not (is_below e.key range.lo) && b) && (nat_le from e.at && nat_le e.at to)) h ∙ by (not (is_below e.key range.lo))
    where
      by : (b : Bool) → ((b && false) && (nat_le from e.at && nat_le e.at to)) ≡ false
      by true = refl
      by false = refl

  none_asked : (es : List Event) → ((x : Event) → In x es → is_before_end x.key range.hi ≡ false) → filter asked es ≡ []
  none_asked [] h = refl
  none_asked (e ∷ es) h =
      ap (λ (t : Bool). if t then e ∷ filter asked es else filter asked es) (unasked e (h e (inl refl)))
      ∙ none_asked es (λ x i. h x (inr i))

  -- ---- lists of events

  all_asked : (es : List Event) → IsMap es → All IsWritten es → events_asked (length es) (event_fields es) range from to ≡ filter asked es
  all_asked [] map w = refl
  all_asked (e ∷ es) map w =
      ap next (one_asked e (event_fields es) (All-head IsWritten e es w))
      ∙ by (asked e) refl (is_before_end e.key range.hi) refl (all_asked es (sorted_tail event_cmp e es map) (All-tail IsWritten e es w))
    where
      next : Parsed (Option Event) → List Event
      next t = elim t [
        | None ↦ []
        | Some (found, left) ↦ asked_of found ++ events_asked (length es) left range from to
      ]

      by : (t : Bool) → asked e ≡ t → (b : Bool) → is_before_end e.key range.hi ≡ b → events_asked (length es) (event_fields es) range from to ≡ filter asked es
          → next (if t then made (Some (e, event_fields es)) else if b then passed (Some (event_fields es)) else None) ≡ (if t then e ∷ filter asked es else filter asked es)
      by true is b before more = ap (λ l. e ∷ l) more
      by false is true before more = more
      by false is false before more = sym (none_asked es (λ x i. ended_next range.hi e x (head_below e es map x i) before))

  are_in : (es : List Event) → filter asked es ≡ events_in es range from to
  unfolding is_asked
  are_in es = refl

  pub listed : (bytes : List ℕ) (k : ℕ) (rest : List ℕ) → events_place bytes ≡ Some (k, rest) → (n : Node) → IsBlockOf bytes n
      → events_asked k rest range from to ≡ events_in n.events range from to
  listed bytes k rest is n b =
      let parts = same_taken k (length n.events) rest (event_fields n.events) (sym is ∙ count_of_block bytes n b) in
      ap (λ j. events_asked j rest range from to) parts.0
      ∙ ap (λ l. events_asked (length n.events) l range from to) parts.1
      ∙ all_asked n.events b.held.node.ordered (written n b.held b.has_block)
      ∙ are_in n.events

  -- bytes that have no place for events are no block
  pub nothing_listed : (bytes : List ℕ) → events_place bytes ≡ None → (n : Node) → IsBlockOf bytes n → [] ≡ events_in n.events range from to
  nothing_listed bytes none n b = let never = sym none ∙ count_of_block bytes n b in cc
