use Rattle.std.proofs.Common.{rules, true, sym, subst}
use Rattle.treenodes.specs.Sound.{IsSound}
use Rattle.tsbtree.specs.Packing.{Installs}
use Rattle.tsbtree.proofs.PackingPast.{past_installed}
use Rattle.tsbtree.proofs.tree.Tree.install.Goals as goal

pub of-requires : goal.of-requires
of-requires c =
    let same = c.in_ok-nodes.ensures.ok in
    record {
      sound = c.in_ok-nodes-2.ensures.sound c.last-last.result (subst (λ l. IsSound l c.last-last.result) (sym same) (subst (IsSound c.nodes-2.result.now) (sym c.last-last.ensures.last) c.nodes-2.ensures.sound));
      within = c.last-last.ensures.in_range;
    }

pub returns-clause-past : goal.returns-clause-past
returns-clause-past c =
    let is : Installs c.args.self.now c.of.result c.args.block = search rules in
    past_installed true c.args.self.now c.of.result c.args.block is
