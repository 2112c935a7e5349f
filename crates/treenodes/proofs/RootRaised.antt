-- A tree stays one where a new root stands over the old one.
use Rattle.std.proofs.Common.{true, ◌≡◌, ◌≢◌, ℕ, ◌+◌, ◌≤◌, List, [], ◌∷◌, ◌++◌, length, set, None, refl, sym, ap, subst, ◌∙◌, ◌⊎◌, inl, inr, arith, length-set, length-append}
use Rattle.std.specs.Prelude.{IsTrue, slice_get, All}
use Rattle.std.proofs.lemmas.List.Elements.{All-weaker, All-nil, All-cons}
use Rattle.std.specs.List.{Any}
use Rattle.values.specs.Event.{Event}
use Rattle.keyrange.specs.Rect.{Area, has_point, Common, IsArea, IsInside}
use Rattle.indexnode.specs.declared.reference.Reference.{Reference}
use Rattle.indexnode.specs.Node.{Tiles, AllMeet}
use Rattle.indexnode.specs.Split.{is_current}
use Rattle.treenodes.specs.Node.{Content, Events, References, TreeNode, IsAt}
use Rattle.treenodes.specs.Tree.{RefersTo, IsIndex, HasContent, HasRoot, IsTree}
use Rattle.treenodes.specs.Map.{HoldsMap, IsCut, EndsBy, latest}
use Rattle.treenodes.specs.Lookup.{IsParent}
use Rattle.treenodes.specs.Root.{root_over}
use Rattle.treenodes.proofs.NodeNumbers.{at_set, set_other, set_same, at_push, push_old, push_new, one_at}
use Rattle.keyrange.proofs.RectInside.{common_either_way}

module _ (nodes : List TreeNode) (tree : IsTree nodes) (root : TreeNode) (at_root : IsAt nodes 0 root) (rs : List (Reference ℕ)) where
  abbrev pub top : TreeNode
  top = record { level = root.level + 1; rect = root.rect; content = References rs; packed = None }

  abbrev pub raised : List TreeNode
  raised = set nodes 0 top ++ root ∷ []

  same_root : tree.root.root ≡ root
  same_root = one_at nodes 0 tree.root.root root tree.root.first at_root

  root_level : tree.root.root.level ≡ root.level
  root_level = ap (λ (q : TreeNode). q.level) same_root

  below_root : (j : ℕ) (q : TreeNode) → IsAt nodes j q → q.level ≤ root.level
  below_root j q at = let le : q.level ≤ tree.root.root.level = tree.levels j q at in omega (arith, root_level)

  long : length (set nodes 0 top) ≡ length nodes
  long = length-set nodes 0 top

  pub at_top : IsAt raised 0 top
  at_top = push_old (set nodes 0 top) root 0 top (set_same nodes 0 top root at_root)

  pub at_old : IsAt raised (length nodes) root
  at_old = subst (λ k. IsAt raised k root) long (push_new (set nodes 0 top) root)

  abbrev Where : ℕ → TreeNode → Type 0
  Where j q = ((j ≡ length nodes) × (q ≡ root)) ⊎ (((j ≡ 0) × (q ≡ top)) ⊎ ((j ≢ 0) × IsAt nodes j q))

  where_is : (j : ℕ) (q : TreeNode) → IsAt raised j q → Where j q
  where_is j q here = elim (at_push (set nodes 0 top) root j q here) [
    | inl e ↦ inl (e.0 ∙ long, e.1)
    | inr h ↦ elim (at_set nodes 0 top j q h) [ inl e ↦ inr (inl e) | inr g ↦ inr (inr g) ]
  ]

  -- none refers to the root
  not_root : (level : ℕ) (r : Reference ℕ) → level ≤ root.level → RefersTo nodes level r → r.child ≢ 0
  not_root level r le h e =
      let same : h.node ≡ root = one_at nodes 0 h.node root (ap (slice_get nodes) (sym e) ∙ h.there) at_root in
      let levels : h.node.level ≡ root.level = ap (λ (q : TreeNode). q.level) same in
      absurd (let b : level ≡ h.node.level + 1 = h.below in omega arith)

  still_refers : (level : ℕ) (r : Reference ℕ) → level ≤ root.level → RefersTo nodes level r → RefersTo raised level r
  still_refers level r le h = record { node = h.node; there = push_old (set nodes 0 top) root r.child h.node (set_other nodes 0 top r.child h.node (not_root level r le h) h.there); below = h.below; same = h.same }

  kept : (level : ℕ) (rect : Area) (content : Content) → level ≤ root.level → HasContent nodes level rect content → HasContent raised level rect content
  kept level rect (Events es) le h = h
  kept level rect (References ts) le h = record { tiled = h.tiled; meet = h.meet; inside = h.inside; below = All-weaker (RefersTo nodes level) (RefersTo raised level) (λ r refers. still_refers level r le refers) ts h.below }

  module _ (are : rs ≡ record { rect = root.rect; child = length nodes } ∷ []) (tiled : Tiles root.rect rs) (inside : All (λ r. IsInside r.rect root.rect) rs) (meet : AllMeet root.rect rs) where
    to_old : RefersTo raised (root.level + 1) (record { rect = root.rect; child = length nodes })
    to_old = record { node = root; there = at_old; below = refl; same = refl }

    index : IsIndex raised (root.level + 1) root.rect rs
    index = record {
      tiled = tiled;
      meet = meet;
      inside = All-weaker (λ r. IsInside r.rect root.rect) (λ r. IsTrue (is_current r) → IsInside r.rect root.rect) (λ r lies _. lies) rs inside;
      below = subst (All (RefersTo raised (root.level + 1))) (sym are) (All-cons (RefersTo raised (root.level + 1)) (record { rect = root.rect; child = length nodes }) [] to_old (All-nil (RefersTo raised (root.level + 1))));
    }

    area_by : (j : ℕ) (q : TreeNode) → Where j q → IsArea q.rect
    area_by j q (inl e) = subst (λ (q : TreeNode). IsArea q.rect) (sym e.1) (tree.areas 0 root at_root)
    area_by j q (inr (inl e)) = subst (λ (q : TreeNode). IsArea q.rect) (sym e.1) (tree.areas 0 root at_root)
    area_by j q (inr (inr h)) = tree.areas j q h.1

    has_by : (j : ℕ) (q : TreeNode) → Where j q → HasContent raised q.level q.rect q.content
    has_by j q (inl e) = subst (λ (q : TreeNode). HasContent raised q.level q.rect q.content) (sym e.1) (kept root.level root.rect root.content (omega arith) (tree.contents 0 root at_root))
    has_by j q (inr (inl e)) = subst (λ (q : TreeNode). HasContent raised q.level q.rect q.content) (sym e.1) index
    has_by j q (inr (inr h)) = kept q.level q.rect q.content (below_root j q h.1) (tree.contents j q h.1)

    level_by : (j : ℕ) (q : TreeNode) → Where j q → q.level ≤ root.level + 1
    level_by j q (inl e) = let is : q.level ≡ root.level = ap (λ (q : TreeNode). q.level) e.1 in omega arith
    level_by j q (inr (inl e)) = let is : q.level ≡ root.level + 1 = ap (λ (q : TreeNode). q.level) e.1 in omega arith
    level_by j q (inr (inr h)) = let le = below_root j q h.1 in omega (arith, le)

    -- the new root alone is of its level, and the old one still the only one of its
    alone_top : (k : ℕ) (q : TreeNode) → q.level ≡ root.level + 1 → Where k q → k ≡ 0
    alone_top k q level (inl e) = absurd (let is : q.level ≡ root.level = ap (λ (q : TreeNode). q.level) e.1 in omega arith)
    alone_top k q level (inr (inl e)) = e.0
    alone_top k q level (inr (inr h)) = absurd (let le = below_root k q h.1 in omega (arith, le))

    alone_old : (k : ℕ) (q : TreeNode) → q.level ≡ root.level → Common root.rect q.rect → Where k q → k ≡ length nodes
    alone_old k q level meets (inl e) = e.0
    alone_old k q level meets (inr (inl e)) = absurd (let is : q.level ≡ root.level + 1 = ap (λ (q : TreeNode). q.level) e.1 in omega arith)
    alone_old k q level meets (inr (inr h)) = absurd (h.0 (sym (tree.apart 0 k root q at_root h.1 (sym level) meets)))

    apart_by : (j k : ℕ) (q r : TreeNode) → q.level ≡ r.level → Common q.rect r.rect → Where j q → Where k r → j ≡ k
    apart_by j k q r level meets (inl e) w = e.0 ∙ sym (alone_old k r (sym level ∙ ap (λ (q : TreeNode). q.level) e.1) (subst (λ (q : TreeNode). Common q.rect r.rect) e.1 meets) w)
    apart_by j k q r level meets (inr (inl e)) w = e.0 ∙ sym (alone_top k r (sym level ∙ ap (λ (q : TreeNode). q.level) e.1) w)
    apart_by j k q r level meets (inr (inr h)) (inl e) = alone_old j q (level ∙ ap (λ (q : TreeNode). q.level) e.1) (subst (λ (r : TreeNode). Common r.rect q.rect) e.1 (common_either_way q.rect r.rect meets)) (inr (inr h)) ∙ sym e.0
    apart_by j k q r level meets (inr (inr h)) (inr (inl e)) = alone_top j q (level ∙ ap (λ (q : TreeNode). q.level) e.1) (inr (inr h)) ∙ sym e.0
    apart_by j k q r level meets (inr (inr h)) (inr (inr g)) = tree.apart j k q r h.1 g.1 level meets

    abbrev new_root : HasRoot raised
    new_root = record { root = top; first = at_top; covers = ap (λ (q : TreeNode). q.rect) (sym same_root) ∙ tree.root.covers }

    pub raised_tree : IsTree raised
    raised_tree = record {
      root = new_root;
      areas = λ j q here. area_by j q (where_is j q here);
      contents = λ j q here. has_by j q (where_is j q here);
      levels = λ j q here. level_by j q (where_is j q here);
      height = omega (arith, tree.height, root_level, long, length-append (set nodes 0 top) (root ∷ []));
      apart = λ j k q r at_j at_k level meets. apart_by j k q r level meets (where_is j q at_j) (where_is k r at_k);
    }

    pub raised_parent : IsParent raised 0 (length nodes)
    raised_parent = record { node = top; there = at_top; refers = named rs are }
      where
        named : (ts : List (Reference ℕ)) → ts ≡ record { rect = root.rect; child = length nodes } ∷ [] → Any (λ (r : Reference ℕ). r.child ≡ length nodes) ts
        named ts e = subst (Any (λ (r : Reference ℕ). r.child ≡ length nodes)) (sym e) (0, record { rect = root.rect; child = length nodes }, omega arith, refl, refl)

  module _ (m : List Event) (holds : HoldsMap nodes m) where
    cut_by : (j : ℕ) (q : TreeNode) → Where j q → IsCut m q.rect q.content
    cut_by j q (inl e) = subst (λ (q : TreeNode). IsCut m q.rect q.content) (sym e.1) (holds.cuts 0 root at_root)
    cut_by j q (inr (inl e)) = subst (λ (q : TreeNode). IsCut m q.rect q.content) (sym e.1) tt
    cut_by j q (inr (inr h)) = holds.cuts j q h.1

    ends_by : (j : ℕ) (q : TreeNode) → Where j q → EndsBy (latest m) q.content q.rect.time.to
    ends_by j q (inl e) = subst (λ (q : TreeNode). EndsBy (latest m) q.content q.rect.time.to) (sym e.1) (holds.ended 0 root at_root)
    ends_by j q (inr (inl e)) = subst (λ (q : TreeNode). EndsBy (latest m) q.content q.rect.time.to) (sym e.1) tt
    ends_by j q (inr (inr h)) = holds.ended j q h.1

    pub raised_holds : HoldsMap raised m
    raised_holds = record { ordered = holds.ordered; instants = holds.instants; cuts = λ j q here. cut_by j q (where_is j q here); ended = λ j q here. ends_by j q (where_is j q here) }

-- ---- over the code's terms

pub record IsRaised (nodes result : List TreeNode) : Type 0 where
  pub tree : IsTree result
  pub parent : IsParent result 0 (length nodes)
  pub holds : (m : List Event) → HoldsMap nodes m → HoldsMap result m
  pub exactly : (r : TreeNode) → IsAt nodes 0 r → result ≡ set nodes 0 (root_over r (length nodes)) ++ r ∷ []

module _ (nodes : List TreeNode) (tree : IsTree nodes) (root : TreeNode) (at_root : IsAt nodes 0 root) (lower : Area) (number : ℕ) (rs : List (Reference ℕ)) (rect_is : lower ≡ root.rect) (number_is : number ≡ length nodes)
    (are : rs ≡ record { rect = lower; child = number } ∷ []) (tiled : Tiles lower rs) (inside : All (λ r. IsInside r.rect lower) rs) (meet : (outer : Area) → IsInside lower outer → AllMeet outer rs) (l : ℕ) (area : Area) (items : List (Reference ℕ)) (made : TreeNode) (result : List TreeNode)
    (level_is : l ≡ root.level) (area_is : area ≡ root.rect) (items_are : items ≡ rs) (made_is : made ≡ record { level = l + 1; rect = area; content = References items; packed = None }) (result_is : result ≡ set nodes 0 made ++ root ∷ []) where
  same : result ≡ raised nodes tree root at_root rs
  same = result_is ∙ ap (λ q. set nodes 0 q ++ root ∷ []) (made_is ∙ (λ t. record { level = level_is t + 1; rect = area_is t; content = References (items_are t); packed = None }))

  are_so : rs ≡ record { rect = root.rect; child = length nodes } ∷ []
  are_so = are ∙ (λ t. record { rect = rect_is t; child = number_is t } ∷ [])

  new_tree : IsTree result
  new_tree = subst IsTree (sym same) (raised_tree nodes tree root at_root rs are_so (subst (λ a. Tiles a rs) rect_is tiled) (subst (λ a. All (λ r. IsInside r.rect a) rs) rect_is inside) (meet root.rect (λ key instant h. subst (λ a. has_point a key instant ≡ true) rect_is h)))

  new_parent : IsParent result 0 (length nodes)
  new_parent = subst (λ s. IsParent s 0 (length nodes)) (sym same) (raised_parent nodes tree root at_root rs are_so (subst (λ a. Tiles a rs) rect_is tiled) (subst (λ a. All (λ r. IsInside r.rect a) rs) rect_is inside) (meet root.rect (λ key instant h. subst (λ a. has_point a key instant ≡ true) rect_is h)))

  new_holds : (m : List Event) → HoldsMap nodes m → HoldsMap result m
  new_holds m holds = subst (λ s. HoldsMap s m) (sym same) (raised_holds nodes tree root at_root rs m holds)

  exactly : (r : TreeNode) → IsAt nodes 0 r → result ≡ set nodes 0 (root_over r (length nodes)) ++ r ∷ []
  exactly r at =
      same ∙ ap (λ ts. set nodes 0 (record { level = root.level + 1; rect = root.rect; content = References ts; packed = None }) ++ root ∷ []) are_so
      ∙ ap (λ q. set nodes 0 (root_over q (length nodes)) ++ q ∷ []) (one_at nodes 0 root r at_root at)

  pub is_raised : IsRaised nodes result
  is_raised = record { tree = new_tree; parent = new_parent; holds = new_holds; exactly = exactly }
