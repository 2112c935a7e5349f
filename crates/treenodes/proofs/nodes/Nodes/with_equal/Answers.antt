use Rattle.std.proofs.Common.{◌≡◌, ◌∙◌, Some, sym, subst}
use Rattle.std.proofs.lemmas.Option.{slice_get_within}
use Rattle.std.specs.Prelude.{slice_get}
use Rattle.treenodes.specs.Backlog.{IsBacklog}
use Rattle.treenodes.proofs.NodeNumbers.{set_alike}
use Rattle.treenodes.proofs.nodes.Nodes.with_equal.Goals as goal
use Rattle.treenodes.proofs.nodes.Nodes.with_equal.Goals.{In_ok-set}

pub set-requires : goal.set-requires
set-requires c = slice_get_within c.self.inside.slots c.args.number c.args.slot (subst (λ ns. slice_get ns c.args.number ≡ Some c.args.slot) (sym c.self.view_is) c.requires)

-- the list with the equal node
alike : (c : In_ok-set) → c.set.new.self ≡ c.self.inside.slots
alike c = c.in_ok-set.ensures.ok ∙ set_alike c.self.inside.slots c.args.number c.args.slot (subst (λ ns. slice_get ns c.args.number ≡ Some c.args.slot) (sym c.self.view_is) c.requires)

pub invariant_of-result : goal.invariant_of-result
invariant_of-result c = subst (λ ns. IsBacklog ns c.self.inside.backlog) (sym (alike c)) c.self.invariant

pub returns-clause-ok : goal.returns-clause-ok
returns-clause-ok c = alike c ∙ c.self.view_is
