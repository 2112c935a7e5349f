-- The first event that is found in place is the first of the node.
use Rattle.std.proofs.Common.{◌≡◌, ℕ, suc, ◌≤◌, Bool, true, false, ◌&&◌, List, [], ◌∷◌, ◌++◌, Option, Some, None, length, refl, sym, ap, ◌∙◌, subst, arith, if◌then◌else◌, nat_lt, All, inr, inl}
use Rattle.std.specs.Prelude.{option_map}
use Rattle.std.proofs.lemmas.Bool.{le-leb}
use Rattle.std.proofs.lemmas.List.Elements.{All-head, All-tail}
use Rattle.values.specs.Event.{Event}
use Rattle.values.specs.Events.{is_bytes, event_cmp}
use Rattle.values.specs.RowReading.{Parsed}
use Rattle.keyrange.specs.Range.{is_below}
use Rattle.eventlist.proofs.PlaceOrder.{sorted_tail}
use Rattle.datanode.specs.Cut.{IsMap}
use Rattle.datanode.specs.Node.{Node}
use Rattle.datanode.specs.NextChange.{event_after}
use Rattle.datanode.proofs.CutMembers.{In}
use Rattle.blocks.specs.Field.{taken_then}
use Rattle.blocks.specs.Event.{row_field, event_field, event_fields, point_from}
use Rattle.blocks.specs.Block.{IsBlockOf}
use Rattle.blocks.specs.Lookup.{past_row_field, is_wanted, first_place, first_in}
use Rattle.blocks.proofs.EventReads.{IsWritten, point_back, regroup}
use Rattle.blocks.proofs.BlockReads.{written}
use Rattle.blocks.proofs.LookupFinds.{past_row_back, wanted, IsPlaceOf, unwanted, all_below, count_of_block, and_true, at_found}

module _ (key : List ℕ) (low high : ℕ) where
  abbrev first_wanted : List Event → Option Event
  first_wanted [] = None
  first_wanted (e ∷ es) = if wanted key low high e then Some e else first_wanted es

  none_wanted : (es : List Event) → ((x : Event) → In x es → is_below key x.key ≡ true) → first_wanted es ≡ None
  none_wanted [] h = refl
  none_wanted (e ∷ es) h =
      ap (λ (t : Bool). if t then Some e else first_wanted es) (unwanted key low high e (h e (inl refl)))
      ∙ none_wanted es (λ x i. h x (inr i))

  -- an event and those after it
  abbrev first_of : (e : Event) (es : List Event) → Bool → Bool → Parsed ℕ
  first_of e es w t =
      if w then Some (e.at, row_field e.row ++ event_fields es) else if t then None else first_place (length es) (event_fields es) key low high

  step : (e : Event) (es : List Event) → IsWritten e
      → first_place (suc (length es)) (event_field e ++ event_fields es) key low high ≡ first_of e es (wanted key low high e) (is_below key e.key)
  step e es w =
      let after : (List ℕ × ℕ) → List ℕ → Option (List ℕ) → Parsed ℕ = λ point row o. if is_wanted key low high point then Some (point.1, row) else if is_below key point.0 then None else elim o [
        | None ↦ None
        | Some left ↦ first_place (length es) left key low high
      ] in
      let f : (List ℕ × ℕ) → List ℕ → Parsed ℕ = λ point row. after point row (past_row_field row) in
      ap (λ l. taken_then (point_from l) f) (regroup e (event_fields es))
      ∙ ap (λ x. taken_then x f) (point_back e.key e.at (row_field e.row ++ event_fields es) w.kept.short_key w.fits)
      ∙ ap (after (e.key, e.at) (row_field e.row ++ event_fields es)) (past_row_back e.row (event_fields es) w.kept.stored)

  firsts : (es : List Event) → IsMap es → All IsWritten es → IsPlaceOf key low high (first_wanted es) (first_place (length es) (event_fields es) key low high)
  firsts [] map w = refl
  firsts (e ∷ es) map w =
      subst (IsPlaceOf key low high (first_wanted (e ∷ es))) (sym (step e es (All-head IsWritten e es w)))
      (by (wanted key low high e) (is_below key e.key) refl (firsts es (sorted_tail event_cmp e es map) (All-tail IsWritten e es w)))
    where
      by : (t u : Bool) → is_below key e.key ≡ u → IsPlaceOf key low high (first_wanted es) (first_place (length es) (event_fields es) key low high)
          → IsPlaceOf key low high (if t then Some e else first_wanted es) (first_of e es t u)
      by true u is more = (event_fields es, refl)
      by false false is more = more
      by false true is more =
          subst (λ o. IsPlaceOf key low high o None) (sym (none_wanted es (λ x i. all_below key low high e es map is x (inr i)))) refl

  first_of_block : (bytes : List ℕ) (n : Node) → IsBlockOf bytes n → IsPlaceOf key low high (first_wanted n.events) (first_in bytes key low high)
  unfolding first_in
  first_of_block bytes n b =
      subst (IsPlaceOf key low high (first_wanted n.events))
      (sym (ap (λ t. taken_then t (λ k events. first_place k events key low high)) (count_of_block bytes n b)))
      (firsts n.events b.held.node.ordered (written n b.held b.has_block))

-- no instant is above the last number
after_is : (key : List ℕ) (after : ℕ) (es : List Event) → All IsWritten es → option_map (λ (e : Event). e.at) (first_wanted key after 18446744073709551615 es) ≡ event_after es after key
unfolding is_wanted
after_is key after [] w = refl
after_is key after (e ∷ es) w =
    let one = All-head IsWritten e es w in
    let fits : e.at ≤ 18446744073709551615 = (let h = one.fits in omega arith) in
    at_first (is_wanted key after 18446744073709551615 (e.key, e.at)) (first_wanted key after 18446744073709551615 es)
    ∙ ap (λ o. if is_wanted key after 18446744073709551615 (e.key, e.at) then Some e.at else o) (after_is key after es (All-tail IsWritten e es w))
    ∙ ap (λ b. if is_bytes key e.key && (nat_lt after e.at && b) then Some e.at else event_after es after key) (le-leb e.at 18446744073709551615 fits)
    ∙ ap (λ b. if is_bytes key e.key && b then Some e.at else event_after es after key) (and_true (nat_lt after e.at))
  where
    at_first : (t : Bool) (o : Option Event) → option_map (λ (e : Event). e.at) (if t then Some e else o) ≡ (if t then Some e.at else option_map (λ (e : Event). e.at) o)
    at_first true o = refl
    at_first false o = refl

pub next_found : (bytes key : List ℕ) (after : ℕ) (n : Node) → IsBlockOf bytes n → option_map (λ (x : ℕ × List ℕ). x.0) (first_in bytes key after 18446744073709551615) ≡ event_after n.events after key
next_found bytes key after n b =
    at_found (first_wanted key after 18446744073709551615 n.events) (first_in bytes key after 18446744073709551615) key after 18446744073709551615 (first_of_block key after 18446744073709551615 bytes n b)
    ∙ after_is key after n.events (written n b.held b.has_block)
