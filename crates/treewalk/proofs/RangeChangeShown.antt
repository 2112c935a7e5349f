-- When a key of a range was last changed, as the leaves show it.
use Rattle.std.proofs.Common.{◌≡◌, ℕ, ◌+◌, ◌<◌, ◌≤◌, Bool, true, List, Option, Some, None, sym, subst, ◌∙◌, inl, inr, arith, nat_lt, nat_le}
use Rattle.std.specs.Prelude.{◌&&◌, IsSome}
use Rattle.std.specs.List.{filter, flat_map}
use Rattle.std.proofs.lemmas.Bool.{and_parts, and_from, leb-true, le-leb, ltb-true, false≢true}
use Rattle.values.specs.Event.{Event}
use Rattle.values.specs.Commits.{max_instant}
use Rattle.keyrange.specs.declared.range.KeyRange.{KeyRange}
use Rattle.keyrange.specs.Range.{is_key_in, is_early, is_before_end}
use Rattle.keyrange.specs.Rect.{Area, IsArea, is_instant_end}
use Rattle.keyrange.proofs.RectInside.{facts_of}
use Rattle.eventlist.specs.Listing.{events_in}
use Rattle.datanode.specs.Cut.{in_cut}
use Rattle.datanode.specs.Node.{IsNode}
use Rattle.datanode.proofs.CutMembers.{In, In-filter, In-from_filter}
use Rattle.datanode.proofs.CutLaws.{IsInCut, in_cut_decides}
use Rattle.treenodes.specs.Node.{TreeNode}
use Rattle.treenodes.specs.Tree.{IsTree}
use Rattle.treenodes.specs.Map.{HoldsMap}
use Rattle.treenodes.proofs.MapRead.{held}
use Rattle.treewalk.specs.Level.{AreMeeting}
use Rattle.treewalk.specs.Gather.{area_between, events_at}
use Rattle.treewalk.specs.RangeChange.{latest_among, event_since_in}
use Rattle.treewalk.proofs.GatherArea.{Asked, area_of, asked_area, asked_point, area_is}
use Rattle.treewalk.proofs.GatherLeaves.{all_sound, all_whole}
use Rattle.treewalk.proofs.ListingRead.{in_time}
use Rattle.treewalk.proofs.RangeChangeLatest.{same_latest, none_latest}

abbrev pub counts : KeyRange → ℕ → Event → Bool
counts range start e = is_key_in range e.key && nat_lt start e.at

-- ---- one leaf

-- of a list it is that of the range's events
pub of_range_latest : (range : KeyRange) (start : ℕ) (es : List Event) → latest_among (λ e. nat_lt start e.at) (filter (λ e. is_key_in range e.key) es) ≡ event_since_in es start range
of_range_latest range start es = same_latest (λ e. nat_lt start e.at) (counts range start) (filter (λ e. is_key_in range e.key) es) es
    (λ x i k. (let f = In-from_filter (λ e. is_key_in range e.key) es x i in (f.0, and_from _ _ f.1 k)))
    (λ x i k. (let parts = and_parts (is_key_in range x.key) _ k in (In-filter (λ e. is_key_in range e.key) es x i parts.0, parts.1)))

end_of : (r : Area) → IsArea r → is_instant_end r.time.to ≡ true
end_of r h =
    (and_parts (is_early r.time.from r.time.to) _ (and_parts (nat_le r.time.from max_instant) _ (and_parts (nat_le 1 r.time.from) _ (and_parts (is_before_end r.keys.lo r.keys.hi) _ h).1).1).1).1

-- a node that has ended has no event after the greatest instant
upto_end : (rect : Area) (es : List Event) → IsNode rect es → IsSome rect.time.to → (x : Event) → In x es → x.at ≤ max_instant
upto_end rect es node past x i = elim held_there.1 [
  | inl w ↦ before rect.time.to past w.1 (end_of rect node.area)
  | inr c ↦ (let low : x.at < rect.time.from = c.0 in let high = leb-true rect.time.from max_instant (facts_of rect node.area).to_last in omega arith)
]
  where
    held_there : IsInCut rect es x
    held_there = (in_cut_decides rect es x).0 (In-from_filter (in_cut rect es) es x (subst (In x) node.whole i)).1

    before : (to : Option ℕ) → IsSome to → is_early x.at to ≡ true → is_instant_end to ≡ true → x.at ≤ max_instant
    before None some early end = absurd (false≢true some)
    before (Some to) some early end = let lt : x.at < to = ltb-true x.at to early in let le : to ≤ max_instant = leb-true to max_instant end in omega arith

abbrev asked : KeyRange → ℕ → Event → Bool
asked range start e = is_key_in range e.key && (nat_le (start + 1) e.at && nat_le e.at max_instant)

pub of_block_latest : (range : KeyRange) (start : ℕ) (rect : Area) (es : List Event) → IsNode rect es → IsSome rect.time.to
    → latest_among (λ e. nat_lt start e.at) (events_in es range (start + 1) max_instant) ≡ event_since_in es start range
of_block_latest range start rect es node past = same_latest (λ e. nat_lt start e.at) (counts range start) (events_in es range (start + 1) max_instant) es
    (λ x i k. (let f = In-from_filter (asked range start) es x i in (f.0, and_from _ _ (and_parts (is_key_in range x.key) _ f.1).0 k)))
    (λ x i k. (let parts = and_parts (is_key_in range x.key) _ k in
    let above : start < x.at = ltb-true start x.at parts.1 in
    (In-filter (asked range start) es x i (and_from _ _ parts.0 (and_from _ _ (le-leb (start + 1) x.at (omega arith)) (le-leb x.at max_instant (upto_end rect es node past x i)))), parts.1)))

-- ---- the map

module _ (nodes : List TreeNode) (tree : IsTree nodes) (m : List Event) (holds : HoldsMap nodes m) (range : KeyRange) (start : ℕ) where
  -- no event is after the greatest instant
  pub none_above : max_instant ≤ start → None ≡ event_since_in m start range
  none_above high = none_latest (counts range start) m (λ x i k. (let above : start < x.at = ltb-true start x.at (and_parts (is_key_in range x.key) _ k).1 in let low = (in_time nodes tree m holds x i).1 in omega arith))

  point_asked : (x : Event) → In x m → counts range start x ≡ true → Asked range (start + 1) max_instant x.key x.at
  point_asked x i k =
      let parts = and_parts (is_key_in range x.key) _ k in
      let above : start < x.at = ltb-true start x.at parts.1 in
      record { in_range = parts.0; started = omega arith; not_ended = (in_time nodes tree m holds x i).1; is_first = (in_time nodes tree m holds x i).0; is_last = (in_time nodes tree m holds x i).1 }

  -- where there is no point in question there is no change
  pub none_asked : area_between range (start + 1) max_instant ≡ None → None ≡ event_since_in m start range
  none_asked none = none_latest (counts range start) m (λ x i k. (let some : None ≡ Some (area_of range (start + 1) max_instant) = sym none ∙ asked_area range (start + 1) max_instant x.key x.at (point_asked x i k) in cc))

  -- the leaves of the rectangle show the latest of the map
  pub leaves_latest : (area : Area) → area_between range (start + 1) max_instant ≡ Some area → (numbers : List ℕ) → AreMeeting nodes 0 area numbers
      → event_since_in (flat_map (events_at nodes) numbers) start range ≡ event_since_in m start range
  leaves_latest area is numbers are = same_latest (counts range start) (counts range start) (flat_map (events_at nodes) numbers) m
      (λ x i k. (all_sound nodes tree m holds (area_of range (start + 1) max_instant) numbers meeting (λ start es. es) (λ e. In e m) (λ r common e j. (In-from_filter (in_cut r m) m e j).0) x i, k))
      (λ x i k. (
        all_whole nodes tree m holds (area_of range (start + 1) max_instant) numbers meeting (λ start es. es) x (record {
          instant = x.at;
          is_first = (in_time nodes tree m holds x i).0;
          is_last = (in_time nodes tree m holds x i).1;
          inside = asked_point range (start + 1) max_instant x.key x.at (point_asked x i k);
          shown = λ r point. held r m x i point;
        }),
        k,
      ))
    where
      meeting : AreMeeting nodes 0 (area_of range (start + 1) max_instant) numbers
      meeting = subst (λ a. AreMeeting nodes 0 a numbers) (area_is range (start + 1) max_instant area is) are
