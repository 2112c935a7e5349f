-- The way from the root down to the data node at a point.
use Rattle.std.proofs.Common.{◌≡◌, ℕ, ◌+◌, ◌<◌, ◌≤◌, List, [], ◌∷◌, length, true, Some, None, refl, sym, ap, subst, ◌∙◌, arith}
use Rattle.std.specs.Prelude.{slice_get, Contains}
use Rattle.std.proofs.lemmas.Bool.{le-leb}
use Rattle.std.proofs.lemmas.List.Elements.{All-contains}
use Rattle.keyrange.specs.Rect.{Area, has_point}
use Rattle.keyrange.proofs.RectMeeting.{both}
use Rattle.indexnode.specs.declared.reference.Reference.{Reference}
use Rattle.indexnode.specs.declared.node.IndexNode.{IndexNode}
use Rattle.treenodes.specs.declared.node.Child.{Child}
use Rattle.treenodes.specs.declared.node.Child.TheVariants.{Data, Packed, Index}
use Rattle.treenodes.specs.Node.{Content, Events, References, TreeNode, IsAt, IsDataNode, seen, content_of}
use Rattle.treenodes.specs.Tree.{RefersTo, HasContent, IsIndex, whole, IsTree}
use Rattle.treenodes.specs.Lookup.{IsLeafAt}

pub record WalkedTo (nodes : List TreeNode) (key : List ℕ) (instant number visits : ℕ) : Type 0 where
  pub root : TreeNode
  pub first : IsAt nodes 0 root
  pub node : TreeNode
  pub there : IsAt nodes number node
  pub holds : has_point node.rect key instant ≡ true
  pub counted : visits + node.level ≡ root.level + 1
  pub height : root.level < length nodes

pub whole_holds : (key : List ℕ) (instant : ℕ) → 1 ≤ instant → has_point whole key instant ≡ true
whole_holds [] instant h = both _ _ refl (both _ _ (le-leb 1 instant h) refl)
whole_holds (k ∷ ks) instant h = both _ _ refl (both _ _ (le-leb 1 instant h) refl)

pub start : (nodes : List TreeNode) → IsTree nodes → (key : List ℕ) (instant : ℕ) → 1 ≤ instant → WalkedTo nodes key instant 0 1
start nodes tree key instant h = record {
  root = tree.root.root;
  first = tree.root.first;
  node = tree.root.root;
  there = tree.root.first;
  holds = subst (λ a. has_point a key instant ≡ true) (sym tree.root.covers) (whole_holds key instant h);
  counted = omega arith;
  height = tree.height;
}

-- the node at the number, where it is known
pub at_walked : (nodes : List TreeNode) (key : List ℕ) (instant number visits : ℕ) (n : TreeNode) → IsAt nodes number n → WalkedTo nodes key instant number visits → has_point n.rect key instant ≡ true
at_walked nodes key instant number visits n at w =
    let same : w.node ≡ n = cc in
    subst (λ (p : TreeNode). has_point p.rect key instant ≡ true) same w.holds

pub index_at : (nodes : List TreeNode) → IsTree nodes → (number level : ℕ) (rect : Area) (rs : List (Reference ℕ)) → IsAt nodes number (record { level = level; rect = rect; content = References rs; packed = None }) → IsIndex nodes level rect rs
index_at nodes tree number level rect rs at = tree.contents number _ at

pub step : (nodes : List TreeNode) → IsTree nodes → (key : List ℕ) (instant number visits level : ℕ) (rect : Area) (rs : List (Reference ℕ)) → IsAt nodes number (record { level = level; rect = rect; content = References rs; packed = None })
    → WalkedTo nodes key instant number visits → (r : Reference ℕ) → Contains rs r → has_point r.rect key instant ≡ true → WalkedTo nodes key instant r.child (visits + 1)
step nodes tree key instant number visits level rect rs at w r among holds =
    let index = index_at nodes tree number level rect rs at in
    let refers : RefersTo nodes level r = All-contains (RefersTo nodes level) rs r index.below among in
    let same : w.node ≡ record { level = level; rect = rect; content = References rs; packed = None } = cc in
    let here : w.node.level ≡ level = ap (λ (p : TreeNode). p.level) same in
    let below : level ≡ refers.node.level + 1 = refers.below in
    record {
      root = w.root;
      first = w.first;
      node = refers.node;
      there = refers.there;
      holds = subst (λ a. has_point a key instant ≡ true) refers.same holds;
      counted = omega (arith, w.counted);
      height = w.height;
    }

-- ---- what the code knows of a node that it looks at

pub shown_at : (nodes : List TreeNode) (number : ℕ) (n : TreeNode) (seen_is : Child) (child : Child) → slice_get nodes number ≡ Some n → n ≡ seen n.level seen_is → seen_is ≡ child → IsAt nodes number (seen n.level child)
shown_at nodes number n seen_is child at is same = at ∙ ap Some (is ∙ ap (seen n.level) same)

module _ (nodes : List TreeNode) (key : List ℕ) (instant number visits : ℕ) (n : TreeNode) (shown : Child) (x : IndexNode ℕ) (at : slice_get nodes number ≡ Some n) (is : n ≡ seen n.level shown) (same : shown ≡ Index x) (w : WalkedTo nodes key instant number visits) where
  pub inside_index : has_point x.rect key instant ≡ true
  inside_index = at_walked nodes key instant number visits (seen n.level (Index x)) (shown_at nodes number n shown (Index x) at is same) w

  module _ (tree : IsTree nodes) where
    pub index_of : IsIndex nodes n.level x.rect x.references.items
    index_of = index_at nodes tree number n.level x.rect x.references.items (shown_at nodes number n shown (Index x) at is same)

    pub step_down : (r : Reference ℕ) → Contains x.references.items r → has_point r.rect key instant ≡ true → WalkedTo nodes key instant r.child (visits + 1)
    step_down r among holds = step nodes tree key instant number visits n.level x.rect x.references.items (shown_at nodes number n shown (Index x) at is same) w r among holds

-- what is no index node is a data node, packed or not
pub is_data : (shown : Child) → ((x : IndexNode ℕ) → shown ≡ Index x → ⊥) → IsDataNode (content_of shown)
is_data (Data n) other = tt
is_data (Packed b) other = tt
is_data (Index x) other = absurd (other x refl)

pub bottom_of : (nodes : List TreeNode) (level : ℕ) (rect : Area) (content : Content) → IsDataNode content → HasContent nodes level rect content → level ≡ 0
bottom_of nodes level rect (Events es) h has = has
bottom_of nodes level rect (References rs) h has = absurd h

module _ (nodes : List TreeNode) (key : List ℕ) (instant number visits : ℕ) (n : TreeNode) (shown : Child) (at : slice_get nodes number ≡ Some n) (is : n ≡ seen n.level shown) (other : (x : IndexNode ℕ) → shown ≡ Index x → ⊥) (tree : IsTree nodes) (w : WalkedTo nodes key instant number visits) where
  data_here : IsDataNode n.content
  data_here = subst (λ (p : TreeNode). IsDataNode p.content) (sym is) (is_data shown other)

  bottom : n.level ≡ 0
  bottom = bottom_of nodes n.level n.rect n.content data_here (tree.contents number n at)

  pub leaf_found : IsLeafAt nodes key instant number
  leaf_found = record { leaf = record { node = n; there = at; bottom = bottom; is_data = data_here }; holds = at_walked nodes key instant number visits n at w }

  -- a data node is of level 0, and all levels above were visited
  pub all_visited : (root : TreeNode) → IsAt nodes 0 root → visits ≡ root.level + 1
  all_visited root first =
      let one : w.node ≡ n = cc (at) in
      let zero_level : w.node.level ≡ 0 = ap (λ (p : TreeNode). p.level) one ∙ bottom in
      let same_root : w.root ≡ root = cc in
      let levels : w.root.level ≡ root.level = ap (λ (p : TreeNode). p.level) same_root in
      omega (arith, w.counted)
