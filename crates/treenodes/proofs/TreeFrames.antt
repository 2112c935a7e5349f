-- A tree stays one where a data node takes the place of another of the same level and rectangle.
use Rattle.std.proofs.Common.{◌≡◌, ◌≢◌, ℕ, ◌+◌, ◌≤◌, List, set, refl, sym, ap, subst, ◌∙◌, ◌⊎◌, inl, inr, arith, length-set}
use Rattle.std.specs.Prelude.{slice_get}
use Rattle.std.proofs.lemmas.List.Elements.{All-weaker}
use Rattle.keyrange.specs.Rect.{Area, Common, IsArea}
use Rattle.indexnode.specs.declared.reference.Reference.{Reference}
use Rattle.treenodes.specs.Node.{Content, Events, References, TreeNode, IsAt}
use Rattle.treenodes.specs.Tree.{RefersTo, HasContent, HasRoot, IsTree}
use Rattle.treenodes.proofs.NodeNumbers.{at_set, set_other, set_same, one_at, same_or_not}

module _ (nodes : List TreeNode) (i : ℕ) (old new : TreeNode) (at : IsAt nodes i old) (level_same : new.level ≡ old.level) (same : new.rect ≡ old.rect) (has : (ns : List TreeNode) → HasContent ns new.level new.rect new.content) where
  abbrev pub changed : List TreeNode
  changed = set nodes i new

  -- each node was there before, with its level and its rectangle
  pub record Was (j : ℕ) (n : TreeNode) : Type 0 where
    pub before : TreeNode
    pub there : IsAt nodes j before
    pub level : n.level ≡ before.level
    pub rect : n.rect ≡ before.rect

  pub was : (j : ℕ) (n : TreeNode) → IsAt changed j n → Was j n
  was j n here = elim (at_set nodes i new j n here) [
    | inl e ↦ record { before = old; there = ap (slice_get nodes) e.0 ∙ at; level = ap (λ (p : TreeNode). p.level) e.1 ∙ level_same; rect = ap (λ (p : TreeNode). p.rect) e.1 ∙ same }
    | inr e ↦ record { before = n; there = e.1; level = refl; rect = refl }
  ]

  -- each node that was there has one of its level and its rectangle
  pub record Is (j : ℕ) (n : TreeNode) : Type 0 where
    pub after : TreeNode
    pub there : IsAt changed j after
    pub level : after.level ≡ n.level
    pub rect : after.rect ≡ n.rect

  at_i : (j : ℕ) (n : TreeNode) → IsAt nodes j n → j ≡ i → n ≡ old
  at_i j n there e = one_at nodes i n old (sym (ap (slice_get nodes) e) ∙ there) at

  pub is : (j : ℕ) (n : TreeNode) → IsAt nodes j n → (j ≡ i) ⊎ (j ≢ i) → Is j n
  is j n there (inl e) =
      let was_old = at_i j n there e in
      record {
        after = new;
        there = ap (slice_get changed) e ∙ set_same nodes i new old at;
        level = level_same ∙ sym (ap (λ (p : TreeNode). p.level) was_old);
        rect = same ∙ sym (ap (λ (p : TreeNode). p.rect) was_old);
      }
  is j n there (inr other) = record { after = n; there = set_other nodes i new j n other there; level = refl; rect = refl }

  refers : (level : ℕ) (r : Reference ℕ) → RefersTo nodes level r → RefersTo changed level r
  refers level r h = let now = is r.child h.node h.there (same_or_not r.child i) in
      record { node = now.after; there = now.there; below = h.below ∙ ap (λ l. l + 1) (sym now.level); same = h.same ∙ sym now.rect }

  content : (level : ℕ) (rect : Area) (c : Content) → HasContent nodes level rect c → HasContent changed level rect c
  content level rect (Events es) h = h
  content level rect (References rs) h = record { tiled = h.tiled; meet = h.meet; inside = h.inside; below = All-weaker (RefersTo nodes level) (RefersTo changed level) (refers level) rs h.below }

  common : (a b c d : Area) → a ≡ c → b ≡ d → Common a b → Common c d
  common a b c d e f h = subst (λ x. Common x d) e (subst (λ x. Common a x) f h)

  pub still_tree : IsTree nodes → IsTree changed
  still_tree tree = record {
    root = root;
    areas = λ j n here. let w = was j n here in subst IsArea (sym w.rect) (tree.areas j w.before w.there);
    contents = λ j n here. elim (at_set nodes i new j n here) [
      | inl e ↦ subst (λ (p : TreeNode). HasContent changed p.level p.rect p.content) (sym e.1) (has changed)
      | inr e ↦ content n.level n.rect n.content (tree.contents j n e.1)
    ];
    levels = λ j n here. let w = was j n here in let le : w.before.level ≤ tree.root.root.level = tree.levels j w.before w.there in omega (arith, w.level, first.level);
    height = omega (arith, tree.height, first.level, length-set nodes i new);
    apart = λ j k n p here there level meet.
        let w = was j n here in
        let v = was k p there in
        tree.apart j k w.before v.before w.there v.there (sym w.level ∙ level ∙ v.level) (common n.rect p.rect w.before.rect v.before.rect w.rect v.rect meet);
  }
    where
      first : Is 0 tree.root.root
      first = is 0 tree.root.root tree.root.first (same_or_not 0 i)

      root : HasRoot changed
      root = record { root = first.after; first = first.there; covers = first.rect ∙ tree.root.covers }
