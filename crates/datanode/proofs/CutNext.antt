-- The next event shows whether an event is is_carried.
use Rattle.std.proofs.Common.{◌≡◌, ℕ, ◌+◌, ◌<◌, Bool, true, false, ◌&&◌, List, Option, Some, refl, sym, ap, ◌∙◌, arith, length, get_or, nat_le, nat_lt, not, is_some, slice_index_or}
use Rattle.std.specs.List.{slice_get, list_any}
use Rattle.std.proofs.lemmas.Bool.Decides.{nat_tests}
use Rattle.std.proofs.lemmas.Option.{slice_get_read}
use Rattle.std.proofs.lemmas.List.{get_or_read}
use Rattle.values.specs.Event.{Event}
use Rattle.eventlist.specs.Overtaking.{overtakes, is_overtaken}
use Rattle.eventlist.specs.Listing.{stands_at}
use Rattle.eventlist.proofs.OvertakingNext.{stands_is}
use Rattle.datanode.specs.Cut.{IsMap, is_carried, stays_to}

early : (t u : ℕ) → nat_lt t u ≡ true → nat_le t u ≡ true
early t u h = grind (arith, nat_tests)

carried_next : (es : List Event) (i : ℕ) (e : Event) (t : ℕ) → IsMap es → slice_get es i ≡ Some e → is_carried es t e ≡ stays_to e t (slice_get es (i + 1))
unfolding is_carried stands_at
carried_next es i e t map at = by (nat_lt e.at t) refl (stands_is es i e t map at)
  where
    by : (b : Bool) → nat_lt e.at t ≡ b → (nat_le e.at t && (is_some e.row && not (list_any (overtakes e t) es))) ≡ (nat_le e.at t && (is_some e.row && not (is_overtaken e t (slice_get es (i + 1)))))
        → (b && (is_some e.row && not (list_any (overtakes e t) es))) ≡ (b && (is_some e.row && not (is_overtaken e t (slice_get es (i + 1)))))
    by true is h = ap (λ c. c && (is_some e.row && not (list_any (overtakes e t) es))) (sym (early e.at t is)) ∙ h ∙ ap (λ c. c && (is_some e.row && not (is_overtaken e t (slice_get es (i + 1))))) (early e.at t is)
    by false is h = refl

-- over the code's terms: e is the event at a place, and next the one after it
pub is_carried_by : (es : List Event) (i : ℕ) (e : Event) (t : ℕ) (next : Option Event) (b : Bool) → IsMap es → i < length es → e ≡ get_or es i e → next ≡ slice_get es (i + 1) → b ≡ stays_to e t next
    → (d : Event) → b ≡ is_carried es t (slice_index_or es i d)
is_carried_by es i e t next b map lt at is_next is d =
    is ∙ ap (stays_to e t) is_next ∙ sym (carried_next es i e t map (slice_get_read es (length es) i e refl lt at))
    ∙ ap (is_carried es t) (get_or_read es i e lt at d)
