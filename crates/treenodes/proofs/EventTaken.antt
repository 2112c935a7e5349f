-- An event that the current data node takes: the tree holds the map with it.
use Rattle.std.proofs.Common.{◌≡◌, ◌≢◌, ℕ, ◌<◌, ◌≤◌, Bool, true, false, List, set, Option, Some, None, refl, sym, ap, subst, ◌∙◌, ◌⊎◌, inl, inr, arith}
use Rattle.std.specs.Prelude.{nat_le}
use Rattle.std.proofs.lemmas.Bool.{and_parts, and_from, leb-true, le-leb, ltb-true, cases_lt}
use Rattle.std.proofs.lemmas.List.Elements.{All-filter, All-from_recursion, recursion_from_All}
use Rattle.values.specs.Event.{Event}
use Rattle.values.specs.Commits.{max_instant}
use Rattle.values.specs.Events.{put_event}
use Rattle.keyrange.specs.Rect.{Area, has_point, Common, IsArea}
use Rattle.keyrange.specs.Range.{is_key_in, is_early, is_before_end}
use Rattle.eventlist.proofs.PutPlaced.{sorted_put, all_put}
use Rattle.datanode.specs.Cut.{in_cut, cut}
use Rattle.datanode.specs.Node.{Node, IsNode, IsLast}
use Rattle.datanode.specs.Law.{IsElsewhere}
use Rattle.datanode.proofs.LawElsewhere.{cut_stays}
use Rattle.datanode.proofs.CutParts.{map_of_cut, whole_of_cut}
use Rattle.keyrange.proofs.RectInside.{facts_of}
use Rattle.datanode.proofs.NodePut.{point_of, cut_with}
use Rattle.treenodes.specs.Node.{Content, Events, References, TreeNode, IsAt, IsDataNode, events_of}
use Rattle.treenodes.specs.Tree.{IsTree}
use Rattle.treenodes.specs.Map.{HoldsMap, IsCut, AreInstants, EndsBy, latest, IsNext}
use Rattle.treenodes.specs.Lookup.{IsLeafAt}
use Rattle.treenodes.specs.Event.{AcceptsEvent, with_put}
use Rattle.treenodes.proofs.NodeNumbers.{at_set}
use Rattle.treenodes.proofs.TreeFrames.{still_tree}
use Rattle.treenodes.proofs.MapLatest.{latest_put}

-- ---- the data node at the event's point is current

endless : (to : Option ℕ) (es : List Event) (at : ℕ) (l : ℕ) → l ≤ at → EndsBy l (Events es) to → is_early at to ≡ true → to ≡ None
endless None es at l le h early = refl
endless (Some end) es at l le h early = absurd (let a : at < end = ltb-true at end early in let b : end ≤ l = h in omega arith)

module _ (nodes : List TreeNode) (m : List Event) (tree : IsTree nodes) (holds : HoldsMap nodes m) (e : Event) (next : IsNext m e) (i level : ℕ) (rect : Area) (es : List Event) (packed : Option (List ℕ)) (at : IsAt nodes i (record { level = level; rect = rect; content = Events es; packed = packed })) (has : has_point rect e.key e.at ≡ true) where
  abbrev old : TreeNode
  old = record { level = level; rect = rect; content = Events es; packed = packed }

  abbrev n : Node
  n = record { rect = rect; events = es }

  bottom : level ≡ 0
  bottom = tree.contents i old at

  area_n : IsArea rect
  area_n = tree.areas i old at

  are : es ≡ cut rect m
  are = holds.cuts i old at

  is_current : rect.time.to ≡ None
  is_current = endless rect.time.to es e.at (latest m) next.latest_before (holds.ended i old at) (point_of rect e has).end

  last_of : IsLast e es
  last_of = subst (IsLast e) (sym are) (All-filter (in_cut rect m) (λ d. d.key ≡ e.key → d.at < e.at) m next.last)

  pub takes_it : AcceptsEvent old e
  takes_it = record { is_data = tt; accepted = record { current = is_current; inside = has; last = last_of } }

  -- ---- all others lie away from it

  bounds : (r : Area) → IsArea r → (1 ≤ r.time.from) × (r.time.from ≤ max_instant)
  bounds r h =
      let rest = (and_parts (is_before_end r.keys.lo r.keys.hi) _ h).1 in
      (leb-true 1 r.time.from (and_parts _ _ rest).0, leb-true r.time.from max_instant (and_parts _ _ (and_parts (nat_le 1 r.time.from) _ rest).1).0)

  early_in : (t : ℕ) → is_early t n.rect.time.to ≡ true
  early_in t = ap (is_early t) is_current

  beyond_by : (j : ℕ) (p : TreeNode) → IsAt nodes j p → p.level ≡ 0 → j ≢ i → (a b : Bool) → is_key_in p.rect.keys e.key ≡ a → is_early e.at p.rect.time.to ≡ b → IsElsewhere p.rect e
  beyond_by j p there level_p other false b key end = inl key
  beyond_by j p there level_p other true false key end = inr end
  beyond_by j p there level_p other true true key end = absurd (other (tree.apart j i p old there at (level_p ∙ sym bottom) (common (cases_lt e.at p.rect.time.from))))
    where
      area : IsArea p.rect
      area = tree.areas j p there

      mine : (t : ℕ) → e.at ≤ t → has_point n.rect e.key t ≡ true
      mine t le = let q = point_of n.rect e has in let start : n.rect.time.from ≤ e.at = q.start in and_from _ _ q.keys (and_from _ _ (le-leb n.rect.time.from t (omega arith)) (early_in t))

      common : (e.at < p.rect.time.from) ⊎ (p.rect.time.from ≤ e.at) → Common p.rect n.rect
      common (inl before) = let b = bounds p.rect area in record {
        key = e.key;
        instant = p.rect.time.from;
        is_first = b.0;
        is_last = b.1;
        in_first = and_from _ _ key (and_from _ _ (le-leb p.rect.time.from p.rect.time.from (omega arith)) (facts_of p.rect area).has_instant);
        in_second = mine p.rect.time.from (omega arith);
      }
      common (inr after) = record { key = e.key; instant = e.at; is_first = next.first; is_last = next.upto; in_first = and_from _ _ key (and_from _ _ (le-leb p.rect.time.from e.at after) end); in_second = has }

  beyond : (j : ℕ) (p : TreeNode) → IsAt nodes j p → p.level ≡ 0 → j ≢ i → IsElsewhere p.rect e
  beyond j p there level_p other = beyond_by j p there level_p other _ _ refl refl

  stays : (j : ℕ) (p : TreeNode) → IsAt nodes j p → p.level ≡ 0 → j ≢ i → cut p.rect m ≡ cut p.rect (put_event e m)
  stays j p there level_p other = sym (cut_stays p.rect (tree.areas j p there) m e (beyond j p there level_p other))

  cut_kept : (j l : ℕ) (r : Area) (c : Content) (pk : Option (List ℕ)) → IsAt nodes j (record { level = l; rect = r; content = c; packed = pk }) → j ≢ i → IsCut m r c → IsCut (put_event e m) r c
  cut_kept j l r (Events fs) pk there other h = h ∙ stays j _ there (tree.contents j _ there) other
  cut_kept j l r (References rs) pk there other h = tt

  ends_kept : (c : Content) (to : Option ℕ) → EndsBy (latest m) c to → EndsBy (latest (put_event e m)) c to
  ends_kept (Events es) (Some end) h = let more : latest m ≤ latest (put_event e m) = latest_put e m in let by : end ≤ latest m = h in omega arith
  ends_kept (Events es) None h = tt
  ends_kept (References rs) to h = tt

  ends_new : (es : List Event) (to : Option ℕ) → to ≡ None → EndsBy (latest (put_event e m)) (Events es) to
  ends_new es None h = tt
  ends_new es (Some end) h = absurd (cc)

  instants : AreInstants (put_event e m)
  instants =
      let P : Event → Type 0 = λ d. (1 ≤ d.at) × (d.at ≤ max_instant) in
      All-from_recursion P (put_event e m) (all_put P e m (next.first, next.upto) (recursion_from_All P m holds.instants))

  -- the node with the event has its number
  abbrev pub new : TreeNode
  new = with_put old e

  pub still : IsTree (set nodes i new)
  still = still_tree nodes i old new at refl refl (λ ns. bottom) tree

  new_cut : cut rect (put_event e es) ≡ cut rect (put_event e m)
  new_cut =
      let is_node : IsNode rect es = record { area = area_n; ordered = map_of_cut rect m es holds.ordered are; whole = whole_of_cut rect m es area_n are } in
      (cut_with n (record { rect = rect; events = cut rect (put_event e es) }) e is_node has last_of refl m (record { ordered = holds.ordered; events_are = are })).events_are

  pub holds_more : HoldsMap (set nodes i new) (put_event e m)
  holds_more = record {
    ordered = sorted_put e m holds.ordered;
    instants = instants;
    cuts = λ j p here. elim (at_set nodes i new j p here) [
      | inl q ↦ subst (λ (p : TreeNode). IsCut (put_event e m) p.rect p.content) (sym q.1) new_cut
      | inr q ↦ cut_kept j p.level p.rect p.content p.packed q.1 q.0 (holds.cuts j p q.1)
    ];
    ended = λ j p here. elim (at_set nodes i new j p here) [
      | inl q ↦ subst (λ (p : TreeNode). EndsBy (latest (put_event e m)) p.content p.rect.time.to) (sym q.1) (ends_new (cut rect (put_event e es)) rect.time.to is_current)
      | inr q ↦ ends_kept p.content p.rect.time.to (holds.ended j p q.1)
    ];
  }

-- ---- over any data node

data_is : (c : Content) → IsDataNode c → c ≡ Events (events_of c)
data_is (Events es) h = refl
data_is (References rs) h = absurd h

module _ (nodes : List TreeNode) (m : List Event) (tree : IsTree nodes) (holds : HoldsMap nodes m) (e : Event) (next : IsNext m e) (i : ℕ) (leaf : IsLeafAt nodes e.key e.at i) where
  abbrev node : TreeNode
  node = leaf.leaf.node

  abbrev shown : TreeNode
  shown = record { level = node.level; rect = node.rect; content = Events (events_of node.content); packed = node.packed }

  shown_is : node ≡ shown
  shown_is = λ t. record { level = node.level; rect = node.rect; content = data_is node.content leaf.leaf.is_data t; packed = node.packed }

  there : IsAt nodes i shown
  there = leaf.leaf.there ∙ ap Some shown_is

  pub takes_next : AcceptsEvent node e
  takes_next = subst (λ (n : TreeNode). AcceptsEvent n e) (sym shown_is) (takes_it nodes m tree holds e next i node.level node.rect (events_of node.content) node.packed there leaf.holds)

  pub tree_next : IsTree (set nodes i (with_put node e))
  tree_next = still nodes m tree holds e next i node.level node.rect (events_of node.content) node.packed there leaf.holds

  pub holds_next : HoldsMap (set nodes i (with_put node e)) (put_event e m)
  holds_next = holds_more nodes m tree holds e next i node.level node.rect (events_of node.content) node.packed there leaf.holds
