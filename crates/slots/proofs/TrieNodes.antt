-- What is known of a node with children.
use Rattle.std.proofs.Common.{◌≡◌, ℕ, List, sym, ap, subst, ◌∙◌}
use Rattle.slots.specs.declared.trie.Node.{Node}
use Rattle.slots.specs.declared.trie.Body.{Body}
use Rattle.slots.specs.Trie.{items_of, view_of, IsBody, IsShape}

module _ {T : Type 0} where
  -- v is the node as it was opened, n and m the same node as it was read
  pub body_at : (v n m : Node T) (b : Body T) → IsShape v → n ≡ v → m ≡ v → m.body ≡ b → IsBody n.each b
  body_at v n m b h e1 e2 is =
      let at : v.body ≡ b = ap (λ (x : Node T). x.body) (sym e2) ∙ is in
      subst (λ (x : Node T). IsBody x.each b) (sym e1) (subst (λ c. IsBody v.each c) at h.1)

  pub items_at : (v m : Node T) (b : Body T) → m ≡ v → m.body ≡ b → items_of v.body ≡ items_of b
  items_at v m b e is = ap (λ (x : Node T). items_of x.body) (sym e) ∙ ap items_of is

  pub under : (l : List T) (v : Node T) (w : ℕ × List T) → items_of v.body ≡ l → view_of v ≡ w → w.1 ≡ l
  under l v w e is = sym (ap (λ (p : ℕ × List T). p.1) is) ∙ e
