-- What was gathered of the leaves, put in order, is what is asked of the map.
use Rattle.std.proofs.Common.{◌≡◌, ℕ, ◌≤◌, Bool, true, List, Option, Some, None, refl, sym, ap, subst, ◌∙◌, arith, nat_le, min, max}
use Rattle.std.specs.Prelude.{Contains, ◌&&◌}
use Rattle.std.specs.List.{filter}
use Rattle.std.proofs.lemmas.Bool.{and_parts, and_from, leb-true, le-leb}
use Rattle.std.proofs.lemmas.Bool.Decides.{Decides-like, same_from_decides}
use Rattle.values.specs.Event.{Event}
use Rattle.values.specs.Commits.{max_instant}
use Rattle.keyrange.specs.declared.range.KeyRange.{KeyRange}
use Rattle.keyrange.specs.Range.{is_key_in}
use Rattle.keyrange.specs.Rect.{Area, has_point, Common}
use Rattle.eventlist.specs.Listing.{events_in, stands_at, standing}
use Rattle.eventlist.specs.Sort.{HasTie}
use Rattle.datanode.specs.Cut.{IsMap, in_cut, cut}
use Rattle.datanode.proofs.CutMembers.{In, In-filter, In-from_filter, filter_alike}
use Rattle.datanode.proofs.CutOrder.{In_place}
use Rattle.datanode.proofs.CutLaws.{IsTimeIn, in_cut_decides, time_decides}
use Rattle.datanode.proofs.NodePut.{point_of}
use Rattle.treenodes.specs.Node.{TreeNode}
use Rattle.treenodes.specs.Tree.{IsTree}
use Rattle.treenodes.specs.Map.{HoldsMap}
use Rattle.treewalk.specs.Level.{AreMeeting}
use Rattle.treewalk.specs.Gather.{instants, area_between, asked, leaf_query, AreGathered}
use Rattle.treewalk.specs.declared.gather.Query.{Query}
use Rattle.treewalk.specs.declared.gather.Query.TheVariants.{Between, At}
use Rattle.treenodes.proofs.MapRead.{held}
use Rattle.treewalk.proofs.GatherSorted.{sorted_out}
use Rattle.treewalk.proofs.GatherArea.{Asked, area_of, asked_area, asked_point, area_is, at_instant}
use Rattle.treewalk.proofs.GatherLeaves.{IsShownAt, all_sound, all_whole}
use Rattle.treewalk.proofs.ListingStanding.{Stands, stands_decides, to_cut, from_cut}

-- what is asked of a leaf, by its start and its events
abbrev of_leaf : Query → KeyRange → ℕ → List Event → List Event
of_leaf query range start = asked (leaf_query query start) range

-- an event that passes is at a point in question, and a leaf that has the point shows it
pub record IsSeen (query : Query) (range : KeyRange) (m : List Event) (e : Event) : Type 0 where
  pub area : area_between range (instants query).0 (instants query).1 ≡ Some (area_of range (instants query).0 (instants query).1)
  pub shown : IsShownAt (area_of range (instants query).0 (instants query).1) m (of_leaf query range) e

module _ (nodes : List TreeNode) (tree : IsTree nodes) (m : List Event) (holds : HoldsMap nodes m) (query : Query) (range : KeyRange) (p : Event → Bool)
    (sound : (r : Area) → Common r (area_of range (instants query).0 (instants query).1) → (e : Event) → In e (of_leaf query range r.time.from (cut r m)) → In e m × (p e ≡ true))
    (seen : (e : Event) → In e m → p e ≡ true → IsSeen query range m e) where
  listed_by : (o : Option Area) → area_between range (instants query).0 (instants query).1 ≡ o → (found es : List Event) → AreGathered query range nodes found → IsMap es
      → ((e : Event) → Contains es e → Contains found e) → ((e : Event) → Contains found e → HasTie e es) → es ≡ filter p m
  listed_by None is found es are sorted from kept =
      sorted_out m p holds.ordered found es sorted from kept
      (λ e i. absurd (subst (In e) (are.none is) i))
      (λ e i passes. (let none : None ≡ Some (area_of range (instants query).0 (instants query).1) = sym is ∙ (seen e i passes).area in cc))
  listed_by (Some area) is found es are sorted from kept =
      let some = are.some area is in
      let one : area ≡ area_of range (instants query).0 (instants query).1 = area_is range (instants query).0 (instants query).1 area is in
      let meeting = subst (λ a. AreMeeting nodes 0 a some.0) one some.1 in
      sorted_out m p holds.ordered found es sorted from kept
      (λ e i. all_sound nodes tree m holds (area_of range (instants query).0 (instants query).1) some.0 meeting (of_leaf query range) (λ x. In x m × (p x ≡ true)) sound e (subst (In e) some.2 i))
      (λ e i passes. subst (In e) (sym some.2) (all_whole nodes tree m holds (area_of range (instants query).0 (instants query).1) some.0 meeting (of_leaf query range) e (seen e i passes).shown))

  listed : (found es : List Event) → AreGathered query range nodes found → IsMap es
      → ((e : Event) → Contains es e → Contains found e) → ((e : Event) → Contains found e → HasTie e es) → es ≡ filter p m
  listed = listed_by (area_between range (instants query).0 (instants query).1) refl

module _ (nodes : List TreeNode) (tree : IsTree nodes) (m : List Event) (holds : HoldsMap nodes m) where
  pub in_time : (x : Event) → In x m → (1 ≤ x.at) × (x.at ≤ max_instant)
  in_time x i = let r = In_place x x m i in subst (λ (y : Event). (1 ≤ y.at) × (y.at ≤ max_instant)) r.2 (holds.instants r.0 x r.1)

  module _ (range : KeyRange) (from to : ℕ) (found es : List Event) (are : AreGathered (Between from to) range nodes found) (sorted : IsMap es)
      (out : (e : Event) → Contains es e → Contains found e) (kept : (e : Event) → Contains found e → HasTie e es) where
    abbrev passes : Event → Bool
    passes e = is_key_in range e.key && (nat_le from e.at && nat_le e.at to)

    -- it passes, and is not from before a leaf's start
    abbrev passes_from : ℕ → Event → Bool
    passes_from start e = is_key_in range e.key && (nat_le (max from start) e.at && nat_le e.at to)

    own_passes : (start : ℕ) (e : Event) → passes_from start e ≡ true → passes e ≡ true
    own_passes start e h =
        let key = and_parts (is_key_in range e.key) _ h in
        let time = and_parts (nat_le (max from start) e.at) _ key.1 in
        let late : max from start ≤ e.at = leb-true (max from start) e.at time.0 in
        and_from _ _ key.0 (and_from _ _ (le-leb from e.at (omega arith)) time.1)

    passes_own : (start : ℕ) (e : Event) → start ≤ e.at → passes e ≡ true → passes_from start e ≡ true
    passes_own start e late h =
        let key = and_parts (is_key_in range e.key) _ h in
        let time = and_parts (nat_le from e.at) _ key.1 in
        let first : from ≤ e.at = leb-true from e.at time.0 in
        and_from _ _ key.0 (and_from _ _ (le-leb (max from start) e.at (omega arith)) time.1)

    between : (e : Event) → In e m → passes e ≡ true → Asked range from to e.key e.at
    between e i h =
        let time = and_parts (nat_le from e.at) _ (and_parts (is_key_in range e.key) _ h).1 in
        record { in_range = (and_parts _ _ h).0; started = leb-true from e.at time.0; not_ended = leb-true e.at to time.1; is_first = (in_time e i).0; is_last = (in_time e i).1 }

    pub events_listed : es ≡ events_in m range from to
    events_listed = listed nodes tree m holds (Between from to) range passes
        (λ r common e i. (let k = In-from_filter (passes_from r.time.from) (cut r m) e i in ((In-from_filter (in_cut r m) m e k.0).0, own_passes r.time.from e k.1)))
        (λ e i h. (let b = between e i h in record {
          area = asked_area range from to e.key e.at b;
          shown = record {
            instant = e.at;
            is_first = (in_time e i).0;
            is_last = (in_time e i).1;
            inside = asked_point range from to e.key e.at b;
            shown = λ r point. In-filter (passes_from r.time.from) (cut r m) e (held r m e i point) (passes_own r.time.from e (point_of r e point).start h);
          };
        }))
        found es are sorted out kept

  module _ (range : KeyRange) (instant : ℕ) (found es : List Event) (are : AreGathered (At (min instant max_instant)) range nodes found) (sorted : IsMap es)
      (out : (e : Event) → Contains es e → Contains found e) (kept : (e : Event) → Contains found e → HasTie e es) where
    abbrev t : ℕ
    t = min instant max_instant

    upto : min instant max_instant ≤ max_instant
    upto = omega arith

    abbrev shows : List Event → Event → Bool
    shows xs e = is_key_in range e.key && stands_at xs t e

    time_of : (r : Area) (key : List ℕ) (u : ℕ) → has_point r key u ≡ true → IsTimeIn r u
    time_of r key u h = (time_decides r u).0 (and_parts (is_key_in r.keys key) _ h).1

    stood : (e : Event) → In e m → shows m e ≡ true → Asked range t t e.key t
    stood e i h =
        let s = (stands_decides m t e).0 (and_parts (is_key_in range e.key) _ h).1 in
        let until : e.at ≤ min instant max_instant = s.until in
        let first = (in_time e i).0 in
        record { in_range = (and_parts _ _ h).0; started = omega arith; not_ended = omega arith; is_first = omega arith; is_last = upto }

    stands_sound : (r : Area) → Common r (area_of range t t) → (e : Event) → In e (asked (At t) range (cut r m)) → In e m × (shows m e ≡ true)
    stands_sound r common e i =
        let k = In-from_filter (shows (cut r m)) (cut r m) e i in
        let h = In-from_filter (in_cut r m) m e k.0 in
        let now : common.instant ≡ t = at_instant range t common.key common.instant upto common.is_last common.in_second in
        let time = subst (IsTimeIn r) now (time_of r common.key common.instant common.in_first) in
        let parts = and_parts (is_key_in range e.key) _ k.1 in
        (h.0, and_from _ _ parts.0 ((stands_decides m t e).1 (from_cut r m t time e ((in_cut_decides r m e).0 h.1) ((stands_decides (cut r m) t e).0 parts.1))))

    stands_shown : (e : Event) → In e m → shows m e ≡ true → (r : Area) → has_point r e.key t ≡ true → In e (asked (At t) range (cut r m))
    stands_shown e i h r point =
        let parts = and_parts (is_key_in range e.key) _ h in
        let c = to_cut r m t (time_of r e.key t point) e (and_parts _ _ point).0 ((stands_decides m t e).0 parts.1) in
        In-filter (shows (cut r m)) (cut r m) e (In-filter (in_cut r m) m e i ((in_cut_decides r m e).1 c.0)) (and_from _ _ parts.0 ((stands_decides (cut r m) t e).1 c.1))

    -- after the greatest instant all is as it is then
    as_then : filter (shows m) m ≡ standing m (is_key_in range) instant
    as_then = filter_alike (shows m) (λ e. is_key_in range e.key && stands_at m instant e) m (λ e i. ap (λ b. is_key_in range e.key && b)
        (same_from_decides _ _ (stands_decides m t e) (Decides-like _ (sooner e i) (later e) (stands_decides m instant e))))
      where
        sooner : (e : Event) → In e m → Stands m instant e → Stands m (min instant max_instant) e
        sooner e i s =
            let a = s.until in
            let b = (in_time e i).1 in
            record { until = omega arith; row = s.row; last = λ o. s.last (o.0, o.1, (let c : o.0.at ≤ min instant max_instant = o.2.until in record { of_key = o.2.of_key; after = o.2.after; until = omega arith })) }

        later : (e : Event) → Stands m (min instant max_instant) e → Stands m instant e
        later e s =
            let a : e.at ≤ min instant max_instant = s.until in
            record { until = omega arith; row = s.row; last = λ o. s.last (o.0, o.1, (let c : o.0.at ≤ instant = o.2.until in let d = (in_time o.0 o.1).1 in record { of_key = o.2.of_key; after = o.2.after; until = omega arith })) }

    pub standing_listed : es ≡ standing m (is_key_in range) instant
    standing_listed = listed nodes tree m holds (At t) range (shows m) stands_sound
        (λ e i h. (let b = stood e i h in record {
          area = asked_area range t t e.key t b;
          shown = record { instant = t; is_first = b.is_first; is_last = upto; inside = asked_point range t t e.key t b; shown = stands_shown e i h };
        }))
        found es are sorted out kept
        ∙ as_then
