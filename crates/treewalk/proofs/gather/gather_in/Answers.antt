use Rattle.std.proofs.Common.{◌≡◌, sym, subst}
use Rattle.std.proofs.lemmas.Option.{slice_get_within}
use Rattle.std.proofs.lemmas.Result.{IfOk-weaker}
use Rattle.treewalk.specs.Gather.{asked, leaf_query, AreGatheredIn}
use Rattle.treewalk.specs.Leaf.{node_in}
use Rattle.treewalk.specs.Level.{AreLeaves}
use Rattle.treewalk.proofs.GatherAlone.{alone_asked}
use Rattle.treewalk.proofs.GatherLeaves.{are_leaves}
use Rattle.treewalk.proofs.gather.gather_in.Goals as goal

pub at-requires : goal.at-requires
at-requires g c = slice_get_within c.args.nodes.now c.node_around-number.result c.node_around-number.ensures.node c.node_around-number.ensures.there

pub leaves_below-requires-clause-around : goal.leaves_below-requires-clause-around
leaves_below-requires-clause-around g c = c.node_around-number.ensures

pub gathered_of-requires : goal.gathered_of-requires
gathered_of-requires g c =
    subst (AreLeaves c.args.nodes.now) (sym c.deref.ensures.value) (are_leaves c.args.nodes.now c.requires _ c.in_ok-leaves.leaves.items c.in_ok-leaves.ensures.ok)

pub returns-clause-ok : goal.returns-clause-ok
returns-clause-ok g c =
    IfOk-weaker c.asked_of.result (λ v. v.items ≡ asked (leaf_query c.args.query (node_in c.child-child.result.now).rect.time.from) c.args.range.now (node_in c.child-child.result.now).events) (λ v. AreGatheredIn c.args.query c.args.range.now c.args.nodes.now c.args.rect.now v.items)
    (λ v are. alone_asked c.args.nodes.now c.requires c.args.rect.now c.time-time.ensures.area c.node_around-number.result c.node_around-number.ensures c.at.result.now c.child-child.result.now c.at.ensures c.child-child.ensures c.in_default.not-Index c.args.query c.args.range.now v.items are)
    c.asked_of.ensures.ok
