-- The children of nodes that meet a rectangle, as they are listed.
use Rattle.std.proofs.Common.{◌≡◌, ℕ, ◌+◌, ◌<◌, ◌≤◌, List, [], ◌∷◌, ◌++◌, length, get_or, take, map, Option, Some, None, refl, sym, ap, subst, ◌∙◌, arith}
use Rattle.std.specs.Prelude.{slice_get, Contains, ◌↔◌}
use Rattle.std.specs.List.{filter, flat_map}
use Rattle.std.specs.Borrow.{Bor}
use Rattle.std.proofs.lemmas.List.{take_all, take_more, append-nil}
use Rattle.std.proofs.lemmas.Grind.{flat_map-append}
use Rattle.std.proofs.lemmas.Option.{slice_get_within}
use Rattle.keyrange.proofs.RectMeeting.{both, first, second, common_point, keys_of_common, times_of_common}
use Rattle.std.proofs.lemmas.List.Elements.{All-contains}
use Rattle.keyrange.specs.Rect.{Area, Common, IsArea}
use Rattle.indexnode.specs.declared.reference.Reference.{Reference}
use Rattle.indexnode.specs.declared.node.IndexNode.{IndexNode}
use Rattle.indexnode.specs.Node.{meet}
use Rattle.treenodes.specs.Node.{Content, Events, References, TreeNode, IsAt, references_of, IsIndexNode}
use Rattle.treenodes.specs.Tree.{RefersTo, IsIndex, IsTree}
use Rattle.datanode.proofs.CutMembers.{In, In-filter, In-from_filter}
use Rattle.treewalk.specs.Level.{AreIndexes, AreMeeting, MeetsAt}
use Rattle.treewalk.proofs.ListingMembers.{contained, member, In-flat_map, In-from_flat_map, In-map, In-from_map}
use Rattle.treenodes.proofs.NodeNumbers.{one_at}
use Rattle.treewalk.proofs.LevelNodes.{is_indexed}
use Rattle.treewalk.proofs.LevelSteps.{AreChildren}

map_of_now : (xs : List (Bor (Reference ℕ))) → map (λ r. r.now.child) xs ≡ map (λ (r : Reference ℕ). r.child) (map (λ r. r.now) xs)
map_of_now [] = refl
map_of_now (x ∷ xs) = ap (λ l. x.now.child ∷ l) (map_of_now xs)

pub added : (new old : List ℕ) (found : List (Bor (Reference ℕ))) (i : ℕ) (kept : List (Reference ℕ)) → new ≡ old ++ map (λ r. r.now.child) (take i found) → length found ≤ i → map (λ r. r.now) found ≡ kept → new ≡ old ++ map (λ r. r.child) kept
added new old found i kept is le are = is ∙ ap (λ l. old ++ map (λ (r : Bor (Reference ℕ)). r.now.child) l) (take_all i found le) ∙ ap (λ l. old ++ l) (map_of_now found ∙ ap (map (λ (r : Reference ℕ). r.child)) are)

-- ---- the children of a node that meet a rectangle

abbrev pub meeting_of : Area → Content → List ℕ
meeting_of area content = map (λ r. r.child) (filter (λ r. meet r.rect area) (references_of content))

abbrev pub children_in : List TreeNode → Area → ℕ → List ℕ
children_in nodes area number = elim (slice_get nodes number) [ None ↦ [] | Some n ↦ meeting_of area n.content ]

pub children_at : (nodes : List TreeNode) (area : Area) (number : ℕ) (n : TreeNode) → IsAt nodes number n → children_in nodes area number ≡ meeting_of area n.content
children_at nodes area number n at = ap (λ (o : Option TreeNode). elim o [ None ↦ [] | Some n ↦ meeting_of area n.content ]) at

-- one node more
pub children_more : (nodes : List TreeNode) (area : Area) (numbers old new : List ℕ) (i : ℕ) (n : TreeNode) (x : IndexNode ℕ) → i < length numbers → IsAt nodes (get_or numbers i 0) n → n.content ≡ References x.references.items
    → old ≡ flat_map (children_in nodes area) (take i numbers) → new ≡ old ++ map (λ r. r.child) (filter (λ r. meet r.rect area) x.references.items) → new ≡ flat_map (children_in nodes area) (take (i + 1) numbers)
children_more nodes area numbers old new i n x lt at is before more =
    more
    ∙ (λ j. before j ++ meeting_is j)
    ∙ sym (flat_map-append (children_in nodes area) (take i numbers) (get_or numbers i 0 ∷ []) ∙ ap (λ l. flat_map (children_in nodes area) (take i numbers) ++ l) (append-nil (children_in nodes area (get_or numbers i 0))))
    ∙ ap (flat_map (children_in nodes area)) (sym (take_more numbers i 0 lt))
  where
    meeting_is : meeting_of area (References x.references.items) ≡ children_in nodes area (get_or numbers i 0)
    meeting_is = ap (meeting_of area) (sym is) ∙ sym (children_at nodes area (get_or numbers i 0) n at)

module _ (nodes : List TreeNode) (tree : IsTree nodes) (area : Area) (is_area : IsArea area) where
  -- references have rectangles
  referred_area : (number level : ℕ) (rect : Area) (content : Content) (pk : Option (List ℕ)) (r : Reference ℕ) → IsAt nodes number (record { level = level; rect = rect; content = content; packed = pk }) → Contains (references_of content) r → IsArea r.rect
  referred_area number level rect (Events es) pk r at among = absurd (let lt : among.0 < 0 = among.1 in omega arith)
  referred_area number level rect (References rs) pk r at among =
      let index : IsIndex nodes level rect rs = tree.contents number _ at in
      let refers : RefersTo nodes level r = All-contains (RefersTo nodes level) rs r index.below among in
      subst IsArea (sym refers.same) (tree.areas r.child refers.node refers.there)

  found_child : (i number : ℕ) (o : Option TreeNode) → slice_get nodes number ≡ o → In i (elim o [ None ↦ [] | Some n ↦ meeting_of area n.content ])
      → (n : TreeNode) × (r : Reference ℕ) × IsAt nodes number n × Contains (references_of n.content) r × Common r.rect area × (r.child ≡ i)
  found_child i number None at h = absurd h
  found_child i number (Some n) at h =
      let s = In-from_map (λ (r : Reference ℕ). r.child) (filter (λ r. meet r.rect area) (references_of n.content)) i h in
      let k = In-from_filter (λ (r : Reference ℕ). meet r.rect area) (references_of n.content) s.0 s.1 in
      let among = contained (references_of n.content) s.0 k.0 in
      (n, s.0, at, among, common_point s.0.rect area (referred_area number n.level n.rect n.content n.packed s.0 at among) is_area (first _ _ k.1) (second _ _ k.1), s.2)

  pub children_are : (numbers found next : List ℕ) → found ≡ flat_map (children_in nodes area) numbers → ((i : ℕ) → Contains next i ↔ Contains found i) → AreChildren nodes area numbers next
  children_are numbers found next is same = record {
    reached = λ p n r c at among common. (same r.child).1 (contained found r.child (subst (In r.child) (sym is)
        (In-flat_map (children_in nodes area) numbers p r.child (member numbers p c) (subst (In r.child) (sym (children_at nodes area p n at))
        (In-map (λ (r : Reference ℕ). r.child) (filter (λ r. meet r.rect area) (references_of n.content)) r
        (In-filter (λ (r : Reference ℕ). meet r.rect area) (references_of n.content) r (member (references_of n.content) r among) (both _ _ (keys_of_common r.rect area common) (times_of_common r.rect area common))))))));
    only = λ i c. (let o = In-from_flat_map (children_in nodes area) numbers i (subst (In i) is (member found i ((same i).0 c))) in
        let f = found_child i o.0 (slice_get nodes o.0) refl o.2 in
        (o.0, f.0, f.1, contained numbers o.0 o.1, f.2, f.3, f.4, f.5));
  }

-- ---- the numbers of index nodes

pub index_there : (nodes : List TreeNode) (numbers : List ℕ) (k : ℕ) → AreIndexes nodes numbers → k < length numbers → get_or numbers k 0 < length nodes
index_there nodes numbers k h lt = let n = h k 0 lt in slice_get_within nodes (get_or numbers k 0) n.0 n.1.0

pub index_is : (nodes : List TreeNode) (numbers : List ℕ) (k : ℕ) (top : TreeNode) → AreIndexes nodes numbers → k < length numbers → IsAt nodes (get_or numbers k 0) top → IsIndexNode top.content
index_is nodes numbers k top h lt at = let n = h k 0 lt in subst (λ (q : TreeNode). IsIndexNode q.content) (one_at nodes (get_or numbers k 0) n.0 top n.1.0 at) n.1.1

pub are_indexes : (nodes : List TreeNode) (tree : IsTree nodes) (level : ℕ) (area : Area) (numbers : List ℕ) → AreMeeting nodes (level + 1) area numbers → AreIndexes nodes numbers
are_indexes nodes tree level area numbers are k d lt =
    let m : MeetsAt nodes (level + 1) area (get_or numbers k d) = are.each k d lt in
    (m.node, (m.there, is_indexed nodes tree (get_or numbers k d) m.node.level level m.node.rect m.node.content m.node.packed m.there m.of_level))
