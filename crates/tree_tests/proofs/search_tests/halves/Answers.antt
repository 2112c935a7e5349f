use Rattle.std.proofs.Common.{◌≡◌, ℕ, List, [], ◌∷◌, sym, ap, subst, ◌∙◌}
use Rattle.std.specs.List.{All, swap}
use Rattle.std.proofs.lemmas.List.Elements.{All-nil, All-cons, All-head, All-tail}
use Rattle.keyrange.specs.Rect.{IsInside}
use Rattle.indexnode.specs.declared.reference.Reference.{Reference}
use Rattle.tree_tests.proofs.search_tests.halves.Goals as goal

exchanged : {X : Type 0} (P : X → Type 0) (a b : X) (before after : List X) → before ≡ a ∷ b ∷ [] → after ≡ swap before 0 1 → All P before → All P after
exchanged P a b before after were are all =
    let both = subst (All P) were all in
    subst (All P) (sym (are ∙ ap (λ xs. swap xs 0 1) were)) (All-cons P b (a ∷ []) (All-head P b [] (All-tail P a (b ∷ []) both)) (All-cons P a [] (All-head P a (b ∷ []) both) (All-nil P)))

pub returns-then-not-is_ordered-clause-inside : goal.returns-then-not-is_ordered-clause-inside
returns-then-not-is_ordered-clause-inside g c =
    exchanged (λ (r : Reference ℕ). IsInside r.rect c.args.area.now) _ _ c.in-Ok.references.items c.swap.new.self.items c.in-Ok.ensures.are c.swap.ensures.items (c.in-Ok.ensures.halves c.args.area.now c.requires).1

pub returns-else-not-is_ordered-clause-inside : goal.returns-else-not-is_ordered-clause-inside
returns-else-not-is_ordered-clause-inside g c = (c.in-Ok.ensures.halves c.args.area.now c.requires).1
