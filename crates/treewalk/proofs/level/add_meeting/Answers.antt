use Rattle.std.proofs.Common.{ℕ, map, ap, ◌∙◌}
use Rattle.std.specs.List.{filter}
use Rattle.std.specs.Borrow.{Bor}
use Rattle.indexnode.specs.declared.reference.Reference.{Reference}
use Rattle.indexnode.specs.Node.{meet}
use Rattle.treewalk.proofs.LevelChildren.{added}
use Rattle.treewalk.proofs.level.add_meeting.Goals as goal

pub returns-clause-ok : goal.returns-clause-ok
returns-clause-ok c =
    added c.loop-reference.numbers.items c.args.numbers.now.items c.deref-reference-items.result.now c.loop-reference.reference-index (filter (λ r. meet r.rect c.args.rect.now) c.args.node.now.references.items)
    c.loop-reference.invariant c.loop-reference-test.false (ap (map (λ (r : Bor (Reference ℕ)). r.now)) c.deref-reference-items.ensures.value ∙ c.in_ok-found.ensures.are)
