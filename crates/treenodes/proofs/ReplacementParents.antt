-- A parent and the node below it.
use Rattle.std.proofs.Common.{◌≡◌, ℕ, ◌<◌, List, [], ◌∷◌, ◌++◌, length, set, Some, None, refl, sym, ap, subst, ◌∙◌, arith}
use Rattle.std.specs.Prelude.{slice_get, IfOk, All}
use Rattle.std.proofs.lemmas.List.Elements.{All-nil}
use Rattle.std.specs.List.{Any}
use Rattle.std.specs.declared.result.Result.{Result}
use Rattle.std.specs.declared.result.Result.TheVariants.{Ok, Err}
use Rattle.std.proofs.lemmas.Option.{slice_get_within}
use Rattle.keyrange.specs.Rect.{Area, IsInside, IsArea}
use Rattle.indexnode.specs.declared.reference.Reference.{Reference}
use Rattle.indexnode.specs.Replacement.{HasRect, Replaced}
use Rattle.treenodes.specs.Node.{Content, Events, References, TreeNode, IsIndexNode, IsAt, seen, references_of}
use Rattle.treenodes.specs.Tree.{RefersTo, IsIndex, HasContent, IsTree}
use Rattle.treenodes.specs.Lookup.{IsParent}
use Rattle.indexnode.specs.declared.node.IndexNode.{IndexNode}
use Rattle.indexnode.specs.Node.{Tiles, AllMeet}
use Rattle.indexnode.specs.Split.{AreCurrentIn}
use Rattle.treenodes.specs.declared.node.Child.TheVariants.{Index}
use Rattle.keyrange.specs.Cut.{AreHalves}
use Rattle.treenodes.specs.Split.{AreSplit, HasHalves}
use Rattle.treenodes.proofs.ReplacementTree.{in_parent, split_tree, split_holds, halved, history}
use Rattle.treenodes.proofs.NodeNumbers.{one_at}

-- what holds of the value that a call gives
pub given : {T E : Type 0} (r : Result T E) (v : T) (P : T → Type 0) → IfOk r (λ x. x ≡ v) → P v → IfOk r P
given (Ok x) v P is h = subst P (sym is) h
given (Err e) v P is h = tt

pub weaker : {T E : Type 0} (r : Result T E) (P Q : T → Type 0) → ((x : T) → P x → Q x) → IfOk r P → IfOk r Q
weaker (Ok x) P Q f h = f x h
weaker (Err e) P Q f h = tt

index_of : {c : ℕ} (content : Content) → Any (λ (r : Reference ℕ). r.child ≡ c) (references_of content) → IsIndexNode content
index_of (Events es) h = absurd (let lt : h.0 < 0 = h.2 in omega arith)
index_of (References rs) h = tt

all_below : (nodes : List TreeNode) (level : ℕ) (rect : Area) (content : Content) → HasContent nodes level rect content → All (RefersTo nodes level) (references_of content)
all_below nodes level rect (Events es) h = All-nil (RefersTo nodes level)
all_below nodes level rect (References rs) h = h.below

module _ (nodes : List TreeNode) (tree : IsTree nodes) (p c : ℕ) (h : IsParent nodes p c) where
  pub parent_within : p < length nodes
  parent_within = slice_get_within nodes p h.node h.there

  pub refers : RefersTo nodes h.node.level h.refers.1
  refers = subst (RefersTo nodes h.node.level) h.refers.3 (all_below nodes h.node.level h.node.rect h.node.content (tree.contents p h.node h.there) h.refers.0 h.refers.1 h.refers.2)

  pub below_there : IsAt nodes c refers.node
  below_there = ap (slice_get nodes) (sym h.refers.4) ∙ refers.there

  pub below_within : c < length nodes
  below_within = slice_get_within nodes c refers.node below_there

  pub is_above : (q : TreeNode) → IsAt nodes p q → q ≡ h.node
  is_above q at = one_at nodes p q h.node at h.there

  pub is_index : (q : TreeNode) → IsAt nodes p q → IsIndexNode q.content
  is_index q at = subst (λ (q : TreeNode). IsIndexNode q.content) (sym (is_above q at)) (index_of h.node.content h.refers)

  pub has_rect : (n : TreeNode) → IsAt nodes c n → HasRect n.rect (references_of h.node.content)
  has_rect n at = (h.refers.0, h.refers.1, h.refers.2, h.refers.3, refers.same ∙ ap (λ (q : TreeNode). q.rect) (one_at nodes c refers.node n below_there at))

-- ---- what the code knows of a node that it splits

module _ (nodes : List TreeNode) (tree : IsTree nodes) (p c : ℕ) (h : IsParent nodes p c) (slot top : TreeNode) (at_c : IsAt nodes c slot) (at_top : IsAt nodes p top) (x : IndexNode ℕ) (is : top ≡ seen top.level (Index x)) (first second : TreeNode)
    (split : AreSplit nodes slot first second) where
  at_p : IsAt nodes p (record { level = top.level; rect = x.rect; content = References x.references.items; packed = None })
  at_p = at_top ∙ ap Some is

  references_are : x.references.items ≡ references_of h.node.content
  references_are = ap (λ (q : TreeNode). references_of q.content) (is_above nodes tree p c h _ at_p)

  names_it : Any (λ (r : Reference ℕ). r.child ≡ c) x.references.items
  names_it = subst (Any (λ (r : Reference ℕ). r.child ≡ c)) (sym references_are) h.refers

  module _ (whole lo hi : Area) (whole_is : whole ≡ slot.rect) (lo_is : lo ≡ first.rect) (hi_is : hi ≡ second.rect) where
    pub halves_of : AreHalves whole lo hi
    halves_of = subst (λ a. AreHalves a lo hi) (sym whole_is) (subst (λ b. AreHalves slot.rect b hi) (sym lo_is) (subst (AreHalves slot.rect first.rect) (sym hi_is) split.halves))

    pub has_whole : HasRect whole x.references.items
    has_whole = subst (HasRect whole) (sym references_are) (subst (λ a. HasRect a (references_of h.node.content)) (sym whole_is) (has_rect nodes tree p c h slot at_c))

    module _ (area_first : IsArea first.rect) (area_second : IsArea second.rect) (n : ℕ) (n_is : n ≡ length nodes) (rs' : List (Reference ℕ)) (replaced : Replaced whole (record { rect = lo; child = c } ∷ record { rect = hi; child = n } ∷ []) x.references.items rs')
        (tiled : Tiles x.rect x.references.items → Tiles x.rect rs') (current : whole.time.to ≡ None → AreCurrentIn x.rect x.references.items → AreCurrentIn x.rect rs') (meet : IsInside whole x.rect → AllMeet x.rect x.references.items → AllMeet x.rect rs') where
      index : IsIndex nodes top.level x.rect x.references.items
      index = tree.contents p _ at_p

      lies : IsInside whole x.rect
      lies = subst (λ a. IsInside a x.rect) (sym whole_is) (in_parent nodes tree c p slot first second at_c split top.level x.rect x.references.items rs' at_p names_it)

      placed_as : Replaced slot.rect (record { rect = first.rect; child = c } ∷ record { rect = second.rect; child = length nodes } ∷ []) x.references.items rs'
      placed_as = subst (λ k. Replaced slot.rect (record { rect = first.rect; child = c } ∷ record { rect = second.rect; child = k } ∷ []) x.references.items rs') n_is
          (subst (λ b. Replaced slot.rect (record { rect = first.rect; child = c } ∷ record { rect = b; child = n } ∷ []) x.references.items rs') hi_is
          (subst (λ b. Replaced slot.rect (record { rect = b; child = c } ∷ record { rect = hi; child = n } ∷ []) x.references.items rs') lo_is
          (subst (λ a. Replaced a (record { rect = lo; child = c } ∷ record { rect = hi; child = n } ∷ []) x.references.items rs') whole_is replaced)))

      abbrev pub split_nodes : List TreeNode
      split_nodes = set (set nodes c first) p (record { level = top.level; rect = x.rect; content = References rs'; packed = None }) ++ second ∷ []

      tree_after : IsTree split_nodes
      tree_after = split_tree nodes tree c p slot first second at_c split top.level x.rect x.references.items rs' at_p names_it area_first area_second
          (tiled index.tiled) (meet lies index.meet) (current (ap (λ (a : Area). a.time.to) whole_is ∙ split.current) index.inside) placed_as

      has_halves : HasHalves nodes p c first second split_nodes
      has_halves = record {
        tree = tree_after;
        holds = λ m holds cuts. split_holds nodes tree c p slot first second at_c split top.level x.rect x.references.items rs' at_p names_it m holds cuts;
        halved = halved nodes tree c p slot first second at_c split top.level x.rect x.references.items rs' at_p names_it _ refl placed_as;
        history = history nodes tree c p slot first second at_c split top.level x.rect x.references.items rs' at_p names_it;
      }

      -- with the index node of the code
      pub comes : (y : IndexNode ℕ) → y.rect ≡ x.rect → rs' ≡ y.references.items → HasHalves nodes p c first second (set (set nodes c first) p (seen top.level (Index y)) ++ second ∷ [])
      comes y rect_is same = subst (HasHalves nodes p c first second) (λ t. set (set nodes c first) p (record { level = top.level; rect = sym rect_is t; content = References (same t); packed = None }) ++ second ∷ []) has_halves
