-- What is asked of all leaves in question is what is asked of the map.
use Rattle.std.proofs.Common.{◌≡◌, ℕ, ◌≤◌, true, List, [], get_or, Option, Some, None, sym, ap, subst, ◌∙◌, arith}
use Rattle.std.specs.List.{flat_map}
use Rattle.std.proofs.lemmas.List.Elements.{All-contains}
use Rattle.values.specs.Event.{Event}
use Rattle.values.specs.Commits.{max_instant}
use Rattle.keyrange.specs.Rect.{Area, has_point, Common}
use Rattle.datanode.specs.Cut.{cut}
use Rattle.datanode.proofs.CutMembers.{In}
use Rattle.treenodes.specs.Node.{Content, Events, References, TreeNode, IsAt, IsDataNode, events_of}
use Rattle.treenodes.specs.Tree.{IsTree}
use Rattle.treenodes.specs.Map.{HoldsMap, IsCut}
use Rattle.treewalk.specs.Level.{MeetsAt, AreMeeting, AreLeaves}
use Rattle.treewalk.specs.Gather.{events_at, start_at}
use Rattle.treewalk.proofs.ListingMembers.{contained, member, In-flat_map, In-from_flat_map}
use Rattle.treewalk.proofs.LevelNodes.{NodeAt, at_level, is_listed}

-- ---- one leaf

pub cut_of : (m : List Event) (rect : Area) (content : Content) → IsDataNode content → IsCut m rect content → events_of content ≡ cut rect m
cut_of m rect (Events es) h is = is
cut_of m rect (References rs) h is = absurd h

module _ (nodes : List TreeNode) (tree : IsTree nodes) where
  pub are_leaves : (area : Area) (numbers : List ℕ) → AreMeeting nodes 0 area numbers → AreLeaves nodes numbers
  are_leaves area numbers are k d lt =
      let m : MeetsAt nodes 0 area (get_or numbers k d) = are.each k d lt in
      record { node = m.node; there = m.there; bottom = m.of_level; is_data = is_listed nodes tree (get_or numbers k d) m.node.level m.node.rect m.node.content m.node.packed m.there m.of_level }

  pub events_are : (number : ℕ) (n : TreeNode) → IsAt nodes number n → events_at nodes number ≡ events_of n.content
  events_are number n at = ap (λ (o : Option TreeNode). elim o [ None ↦ [] | Some n ↦ events_of n.content ]) at

  pub start_is : (number : ℕ) (n : TreeNode) → IsAt nodes number n → start_at nodes number ≡ n.rect.time.from
  start_is number n at = ap (λ (o : Option TreeNode). elim o [ None ↦ 0 | Some n ↦ n.rect.time.from ]) at

  -- the events of a leaf are the cut of the map
  pub leaf_cut : (m : List Event) → HoldsMap nodes m → (number : ℕ) (n : TreeNode) → IsAt nodes number n → n.level ≡ 0 → events_at nodes number ≡ cut n.rect m
  leaf_cut m holds number n at level =
      events_are number n at ∙ cut_of m n.rect n.content (is_listed nodes tree number n.level n.rect n.content n.packed at level) (holds.cuts number n at)

-- ---- all leaves of a rectangle

-- a point of the rectangle, at which the leaf shows an event; what it shows is told by its start and its events
pub record IsShownAt (area : Area) (m : List Event) (f : ℕ → List Event → List Event) (e : Event) : Type 0 where
  pub instant : ℕ
  pub is_first : 1 ≤ instant
  pub is_last : instant ≤ max_instant
  pub inside : has_point area e.key instant ≡ true
  pub shown : (r : Area) → has_point r e.key instant ≡ true → In e (f r.time.from (cut r m))

module _ (nodes : List TreeNode) (tree : IsTree nodes) (m : List Event) (holds : HoldsMap nodes m) (area : Area) (numbers : List ℕ) (are : AreMeeting nodes 0 area numbers) (f : ℕ → List Event → List Event) where
  abbrev found_at : ℕ → List Event
  found_at number = f (start_at nodes number) (events_at nodes number)

  abbrev all_found : List Event
  all_found = flat_map found_at numbers

  leaf_shows : (number : ℕ) (n : TreeNode) → IsAt nodes number n → n.level ≡ 0 → found_at number ≡ f n.rect.time.from (cut n.rect m)
  leaf_shows number n at level = ap (λ t. f t (events_at nodes number)) (start_is nodes tree number n at) ∙ ap (f n.rect.time.from) (leaf_cut nodes tree m holds number n at level)

  -- what leaves show is the map's
  pub all_sound : (P : Event → Type 0) → ((r : Area) → Common r area → (e : Event) → In e (f r.time.from (cut r m)) → P e) → (e : Event) → In e all_found → P e
  all_sound P each e i =
      let s = In-from_flat_map found_at numbers e i in
      let meets : MeetsAt nodes 0 area s.0 = All-contains (MeetsAt nodes 0 area) numbers s.0 are.each (contained numbers s.0 s.1) in
      each meets.node.rect meets.common e (subst (In e) (leaf_shows s.0 meets.node meets.there meets.of_level) s.2)

  -- and what some leaf shows is found
  pub all_whole : (e : Event) → IsShownAt area m f e → In e all_found
  all_whole e h =
      let leaf : NodeAt nodes e.key h.instant 0 = at_level nodes tree e.key h.instant 0 (omega arith) h.is_first in
      let meets : MeetsAt nodes 0 area leaf.number = record {
        node = leaf.node;
        there = leaf.there;
        of_level = leaf.of_level;
        common = record { key = e.key; instant = h.instant; is_first = h.is_first; is_last = h.is_last; in_first = leaf.holds; in_second = h.inside };
      } in
      In-flat_map found_at numbers leaf.number e (member numbers leaf.number (are.whole leaf.number meets))
      (subst (In e) (sym (leaf_shows leaf.number leaf.node leaf.there leaf.of_level)) (h.shown leaf.node.rect leaf.holds))
