use Rattle.std.proofs.Common.{subst}
use Rattle.std.specs.Prelude.{Contains}
use Rattle.keyrange.specs.Rect.{has_point}
use Rattle.indexnode.proofs.NodeAlone.{alone}
use Rattle.indexnode.proofs.node.IndexNode.find.Goals as goal

pub returns-in-Some-clause-only : goal.returns-in-Some-clause-only
returns-in-Some-clause-only g c =
    alone (λ r. has_point r.rect c.args.key.now c.args.instant) c.args.self.now.references.items c.in-Some.found.now
    (subst (λ rs. Contains rs c.in-Some.found.now) c.deref-2.ensures.value c.in-Some.ensures.among) c.in-Some.ensures.holds (c.requires.tiled.once c.args.key.now c.args.instant c.requires.inside)

pub returns-clause-only : goal.returns-clause-only
returns-clause-only g c =
    alone (λ r. has_point r.rect c.args.key.now c.args.instant) c.args.self.now.references.items c.in-Some-find_before.found.now
    (subst (λ rs. Contains rs c.in-Some-find_before.found.now) c.deref-3.ensures.value c.in-Some-find_before.ensures.among) c.in-Some-find_before.ensures.holds (c.requires.tiled.once c.args.key.now c.args.instant c.requires.inside)
