use Rattle.std.proofs.Common.{◌≡◌, ◌++◌, ◌∷◌, [], Some, sym, ap, ◌∙◌}
use Rattle.slots.specs.Slots.{all_of}
use Rattle.slots.specs.Beside.{over, placed_of}
use Rattle.slots.proofs.BesidePlaces.{pushed}
use Rattle.slots.proofs.TrieOutcomes.{on_ok}
use Rattle.slots.proofs.slots.Slots.push.Goals as goal

pub returns-in_ok-root-in-None-clause-ok : goal.returns-in_ok-root-in-None-clause-ok
returns-in_ok-root-in-None-clause-ok g c =
    pushed c.self.inside.root (Some c.in_ok-root-in-None.root) c.args.self.now (placed_of c.self.inside.beside) c.args.item
    (ap (λ t. t.1) c.in_ok-root-in-None.ensures.ok ∙ ap (λ r. all_of r ++ c.args.item ∷ []) (sym c.in-None.is))
    c.self.invariant c.self.view_is

pub returns-in-Some-clause-ok : goal.returns-in-Some-clause-ok
returns-in-Some-clause-ok g c =
    on_ok (c.push.new.self.1 ≡ c.in-Some.root.1 ++ c.args.item ∷ []) (over c.push.new.self.1 (placed_of c.self.inside.beside) ≡ c.args.self.now ++ c.args.item ∷ []) c.push.result
    (λ e. pushed c.self.inside.root (Some c.push.new.self) c.args.self.now (placed_of c.self.inside.beside) c.args.item
    (e ∙ ap (λ r. all_of r ++ c.args.item ∷ []) (sym c.in-Some.is))
    c.self.invariant c.self.view_is)
    c.push.ensures.ok
