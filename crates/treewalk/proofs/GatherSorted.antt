-- What was found, put in order.
use Rattle.std.proofs.Common.{◌≡◌, Bool, true, List, refl, sym, subst}
use Rattle.std.specs.Prelude.{Contains}
use Rattle.std.specs.List.{filter}
use Rattle.std.specs.Ordering.{is_eq}
use Rattle.std.specs.declared.cmp.Ordering.{Ordering}
use Rattle.std.specs.declared.cmp.Ordering.TheVariants.{Less, Equal, Greater}
use Rattle.std.proofs.lemmas.List.Kept.{IsStrictlySortedBy-filter}
use Rattle.values.specs.Event.{Event}
use Rattle.values.specs.Events.{event_cmp}
use Rattle.eventlist.specs.Sort.{HasTie}
use Rattle.datanode.specs.Cut.{IsMap}
use Rattle.datanode.proofs.CutMembers.{In, In-filter, In-from_filter}
use Rattle.datanode.proofs.CutOrder.{one_event}
use Rattle.datanode.proofs.NodePut.{event_equal}
use Rattle.treenodes.proofs.MapMembers.{same_members}
use Rattle.treewalk.proofs.ListingMembers.{contained, member}

equal_of : (o : Ordering) → is_eq o ≡ true → o ≡ Equal
equal_of Less h = cc
equal_of Equal h = refl
equal_of Greater h = cc

-- what was found in any order, and put in order with one of each point, is what of a map passes a test, where exactly
-- that was found
pub sorted_out : (m : List Event) (p : Event → Bool) → IsMap m → (found es : List Event) → IsMap es
    → ((e : Event) → Contains es e → Contains found e) → ((e : Event) → Contains found e → HasTie e es)
    → ((e : Event) → In e found → In e m × (p e ≡ true)) → ((e : Event) → In e m → p e ≡ true → In e found) → es ≡ filter p m
sorted_out m p map found es sorted from kept sound whole =
    same_members es (filter p m) sorted (IsStrictlySortedBy-filter event_cmp p m map)
    (λ z i. (let s = sound z (member found z (from z (contained es z i))) in In-filter p m z s.0 s.1))
    (λ z i. (let k = In-from_filter p m z i in back z k.0 (whole z k.0 k.1)))
  where
    back : (z : Event) → In z m → In z found → In z es
    back z i j =
        let tie = kept z (contained found z j) in
        let d = tie.1 in
        let there : In d es = member es d (tie.0, tie.2, tie.3) in
        let in_map : In d m = (sound d (member found d (from d (tie.0, tie.2, tie.3)))).0 in
        let points = event_equal z d (equal_of (event_cmp z d) tie.4) in
        let same : z ≡ d = one_event m map z d points.0 points.1 i in_map in
        subst (λ w. In w es) (sym same) there
