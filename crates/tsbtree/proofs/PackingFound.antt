-- The unpacked data node of history of a rectangle: there is one at most, and it is the leaf at the rectangle's first point.
use Rattle.std.proofs.Common.{◌≡◌, ℕ, ◌≤◌, Bool, true, false, List, Option, Some, None, refl, sym, ap, subst, ◌∙◌}
use Rattle.std.specs.Prelude.{IsTrue, IsSome, All, ◌&&◌, is_some}
use Rattle.std.proofs.lemmas.List.Elements.{All-filter, All-weaker}
use Rattle.std.proofs.lemmas.Bool.{and_from, leb-true}
use Rattle.values.specs.Commits.{max_instant}
use Rattle.keyrange.specs.Rect.{Area, IsArea, has_point}
use Rattle.keyrange.proofs.RectInside.{first_key_in, first_instant_in, facts_of}
use Rattle.datanode.specs.Node.{Node}
use Rattle.blocks.specs.Block.{HasBlock}
use Rattle.datanode.specs.Cut.{in_cut}
use Rattle.treenodes.specs.declared.node.Child.TheVariants.{Data}
use Rattle.treenodes.specs.Node.{seen, TreeNode, IsAt, data_node, events_of}
use Rattle.treenodes.specs.Tree.{IsTree, HasContent}
use Rattle.treenodes.specs.Lookup.{IsLeafAt}
use Rattle.treenodes.specs.Map.{changes}
use Rattle.treenodes.specs.Sound.{IsSound}
use Rattle.treenodes.specs.Backlog.{is_unpacked, IsFirstWaiting}
use Rattle.treenodes.proofs.LookupNodes.{point_in}
use Rattle.treenodes.proofs.NodeNumbers.{one_at}
use Rattle.tsbtree.specs.Packing.{IsHistoricalAt, IsHistorical}

pub starts_at : (r : Area) → IsArea r → 1 ≤ r.time.from
starts_at r area = leb-true 1 r.time.from (facts_of r area).from_first

first_point : (r : Area) → IsArea r → has_point r r.keys.lo r.time.from ≡ true
first_point r area = and_from _ _ (first_key_in r area) (first_instant_in r area)

pub past_unpacked : (n : Node) → IsSome n.rect.time.to → IsTrue (is_unpacked (data_node n))
past_unpacked n past = by n.rect.time.to past
  where
    by : (to : Option ℕ) → IsSome to → (true && (is_some to && true)) ≡ true
    by None h = absurd (cc)
    by (Some end) h = refl

-- two of one rectangle are one
pub one_of : (nodes : List TreeNode) → IsTree nodes → (rect : Area) → IsArea rect → (i j : ℕ) (n p : TreeNode) → IsAt nodes i n → IsAt nodes j p → n.level ≡ 0 → p.level ≡ 0 → has_point n.rect rect.keys.lo rect.time.from ≡ true → p.rect ≡ rect → n ≡ p
one_of nodes tree rect area i j n p at_i at_j level_n level_p point same =
    let here : i ≡ j = tree.apart i j n p at_i at_j (level_n ∙ sym level_p) (record {
      key = rect.keys.lo;
      instant = rect.time.from;
      is_first = starts_at rect area;
      is_last = leb-true rect.time.from max_instant (facts_of rect area).to_last;
      in_first = point;
      in_second = subst (λ r. has_point r rect.keys.lo rect.time.from ≡ true) (sym same) (first_point rect area);
    }) in
    one_at nodes j n p (subst (λ k. IsAt nodes k n) here at_i) at_j

module _ (nodes : List TreeNode) (tree : IsTree nodes) (rect : Area) (area : IsArea rect) (number : ℕ) (leaf : IsLeafAt nodes rect.keys.lo rect.time.from number) (n : TreeNode) (at : IsAt nodes number n) where
  level : n.level ≡ 0
  level = sym (ap (λ (q : TreeNode). q.level) (one_at nodes number leaf.leaf.node n leaf.leaf.there at)) ∙ leaf.leaf.bottom

  only : (p : Node) → IsHistorical nodes rect p → n ≡ data_node p
  only p h = one_of nodes tree rect area number h.number n (data_node p) at h.there level refl (point_in nodes rect.keys.lo rect.time.from number n leaf at) h.same

  pub not_unpacked : is_unpacked n ≡ false → (p : Node) → IsHistorical nodes rect p → ⊥
  not_unpacked none p h = let never : ◌≡◌ {A = Bool} false true = sym none ∙ ap is_unpacked (only p h) ∙ h.unpacked in cc

  pub not_same : (n.rect ≡ rect → ⊥) → (p : Node) → IsHistorical nodes rect p → ⊥
  not_same other p h = other (ap (λ (q : TreeNode). q.rect) (only p h) ∙ h.same)

-- a node of the rectangle is the one that was found
pub is_found : (nodes : List TreeNode) → IsTree nodes → (rect : Area) → IsArea rect → (number : ℕ) → (h : IsHistoricalAt nodes rect number) → (j : ℕ) (p : Node) → IsAt nodes j (data_node p) → p.rect ≡ rect → h.node ≡ p
is_found nodes tree rect area number h j p at same =
    let one : data_node h.node ≡ data_node p = one_of nodes tree rect area number j (data_node h.node) (data_node p) h.there at refl refl (subst (λ r. has_point r rect.keys.lo rect.time.from ≡ true) (sym h.same) (first_point rect area)) same in
    λ t. record { rect = (one t).rect; events = events_of (one t).content }

-- an unpacked node of a sound tree has a block
pub has_block : (nodes : List TreeNode) (last : ℕ) → IsSound nodes last → (n : Node) (after : Option Area) → IsFirstWaiting nodes after (data_node n) → HasBlock n
has_block nodes last sound n after first = record {
  is_past = past n.rect.time.to first.waiting.unpacked;
  few = sound.kept.small first.waiting.number (data_node n) first.waiting.there;
  instants = All-weaker (λ e. (1 ≤ e.at) × (e.at ≤ max_instant)) (λ e. 1 ≤ e.at) (λ e h. h.0) n.events
      (subst (All (λ e. (1 ≤ e.at) × (e.at ≤ max_instant))) (sym (sound.kept.holds.cuts first.waiting.number (data_node n) first.waiting.there))
      (All-filter (in_cut n.rect (changes nodes)) (λ e. (1 ≤ e.at) × (e.at ≤ max_instant)) (changes nodes) sound.kept.holds.instants));
}
  where
    past : (to : Option ℕ) → (true && (is_some to && true)) ≡ true → IsSome to
    past None h = let never : ◌≡◌ {A = Bool} false true = h in absurd (cc)
    past (Some end) h = refl

-- the first unpacked node is a data node
pub first_data : (nodes : List TreeNode) → IsTree nodes → (after : Option Area) (s : TreeNode) (n : Node) → IsFirstWaiting nodes after s → s ≡ seen s.level (Data n) → IsFirstWaiting nodes after (data_node n)
first_data nodes tree after s n first is = subst (IsFirstWaiting nodes after) (is ∙ ap (λ l. seen l (Data n)) level) first
  where
    level : s.level ≡ 0
    level = subst (λ (q : TreeNode). HasContent nodes s.level q.rect q.content) is (tree.contents first.waiting.number s first.waiting.there)
