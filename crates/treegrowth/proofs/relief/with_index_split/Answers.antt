use Rattle.std.proofs.Common.{◌≡◌, ◌∙◌, sym, subst, true, arith}
use Rattle.std.specs.Prelude.{IfSome, IfNone, IsTrue}
use Rattle.std.specs.List.{filter}
use Rattle.keyrange.specs.Cut.{is_key_inside}
use Rattle.indexnode.specs.Choice.{AreSmaller, current_count}
use Rattle.indexnode.specs.Split.{IsUncrossed, starts_before, ends_after, reaches_below, reaches_up}
use Rattle.treenodes.specs.Split.{Halved, part_of}
use Rattle.treenodes.proofs.ReplacementParents.{weaker}
use Rattle.treegrowth.specs.Growth.{IsIndexSplit}
use Rattle.treegrowth.proofs.ReliefSplit.{full_of, n, times, keys, has_current, two_currents, currents, can_time, can_key, made_time, made_keys, time_split, key_split}
use Rattle.treegrowth.proofs.relief.with_index_split.Goals as goal

pub unreachable-requires : goal.unreachable-requires
unreachable-requires c =
    let nodes = c.args.nodes in
    let number = c.args.number in
    let level = c.at.result.now.level in
    let x = c.index-node.result.now in
    let f = full_of c.args.nodes c.requires.tree c.args.number c.requires.grown c.at.result.now.level c.index-node.result.now c.at.result.now c.at.ensures c.index-node.ensures in
    has_current nodes number level x f c.in_default.ensures.least

pub with_index_time_split-requires-clause-can : goal.with_index_time_split-requires-clause-can
with_index_time_split-requires-clause-can c =
    let nodes = c.args.nodes in
    let number = c.args.number in
    let level = c.at.result.now.level in
    let x = c.index-node.result.now in
    let f = full_of c.args.nodes c.requires.tree c.args.number c.requires.grown c.at.result.now.level c.index-node.result.now c.at.result.now c.at.ensures c.index-node.ensures in
    let start = c.in-Some.start in
    let yes = sym c.is_split_by_time.ensures ∙ c.if-is_split_by_time.true in
    let e = c.in-Some.ensures in
    can_time nodes number level x f start e.least e.in_range e.smaller e.alone yes

pub returns-then-is_split_by_time-clause-split : goal.returns-then-is_split_by_time-clause-split
returns-then-is_split_by_time-clause-split c =
    let nodes = c.args.nodes in
    let number = c.args.number in
    let level = c.at.result.now.level in
    let x = c.index-node.result.now in
    let f = full_of c.args.nodes c.requires.tree c.args.number c.requires.grown c.at.result.now.level c.index-node.result.now c.at.result.now c.at.ensures c.index-node.ensures in
    let start = c.in-Some.start in
    let yes = sym c.is_split_by_time.ensures ∙ c.if-is_split_by_time.true in
    let e = c.in-Some.ensures in
    let whole = n nodes number level x f in
    let h = times nodes number level x f start e.least e.in_range e.smaller e.alone yes in
    weaker c.with_index_time_split.result
    (λ s. Halved nodes s c.args.parent number (part_of whole h.0 (filter (λ r. starts_before start r.rect))) (part_of whole h.1 (filter (λ r. ends_after start r.rect))))
    (λ s. IsIndexSplit nodes s c.args.parent number)
    (λ s halved. time_split nodes number level x f start e.least e.in_range e.smaller e.alone yes s c.args.parent halved)
    (c.with_index_time_split.ensures.halved whole h f.there (made_time nodes number level x f start e.least e.in_range e.smaller e.alone yes))

pub unreachable-requires-in_default-2 : goal.unreachable-requires-in_default-2
unreachable-requires-in_default-2 c =
    let nodes = c.args.nodes in
    let number = c.args.number in
    let level = c.at.result.now.level in
    let x = c.index-node.result.now in
    let f = full_of c.args.nodes c.requires.tree c.args.number c.requires.grown c.at.result.now.level c.index-node.result.now c.at.result.now c.at.ensures c.index-node.ensures in
    has_current nodes number level x f (subst (λ o. IfNone o (current_count x.references.items ≡ 0)) c.in_default-2.is c.in_ok-key.ensures.none)

pub with_index_keys_split-requires-clause-can : goal.with_index_keys_split-requires-clause-can
with_index_keys_split-requires-clause-can c =
    let nodes = c.args.nodes in
    let number = c.args.number in
    let level = c.at.result.now.level in
    let x = c.index-node.result.now in
    let f = full_of c.args.nodes c.requires.tree c.args.number c.requires.grown c.at.result.now.level c.index-node.result.now c.at.result.now c.at.ensures c.index-node.ensures in
    let start = c.in-Some.start in
    let two = two_currents nodes number level x f start (sym c.is_split_by_time.ensures ∙ c.if-is_split_by_time.false) in
    let key = c.in-Some-2.key in
    let inside : is_key_inside x.rect key ≡ true = subst (λ o. IfSome o (λ k. IsTrue (is_key_inside x.rect k))) c.in-Some-2.is (c.in_ok-key.ensures.inside two) in
    let uncrossed : IsUncrossed key x.references.items = subst (λ o. IfSome o (λ k. IsUncrossed k x.references.items)) c.in-Some-2.is (c.in_ok-key.ensures.uncrossed (currents nodes number level x f 0 (omega arith))) in
    let smaller : AreSmaller key x.references.items = subst (λ o. IfSome o (λ k. AreSmaller k x.references.items)) c.in-Some-2.is (c.in_ok-key.ensures.smaller two) in
    can_key nodes number level x f key inside uncrossed smaller

pub returns-clause-split : goal.returns-clause-split
returns-clause-split c =
    let nodes = c.args.nodes in
    let number = c.args.number in
    let level = c.at.result.now.level in
    let x = c.index-node.result.now in
    let f = full_of c.args.nodes c.requires.tree c.args.number c.requires.grown c.at.result.now.level c.index-node.result.now c.at.result.now c.at.ensures c.index-node.ensures in
    let start = c.in-Some.start in
    let two = two_currents nodes number level x f start (sym c.is_split_by_time.ensures ∙ c.if-is_split_by_time.false) in
    let key = c.in-Some-2.key in
    let inside : is_key_inside x.rect key ≡ true = subst (λ o. IfSome o (λ k. IsTrue (is_key_inside x.rect k))) c.in-Some-2.is (c.in_ok-key.ensures.inside two) in
    let uncrossed : IsUncrossed key x.references.items = subst (λ o. IfSome o (λ k. IsUncrossed k x.references.items)) c.in-Some-2.is (c.in_ok-key.ensures.uncrossed (currents nodes number level x f 0 (omega arith))) in
    let smaller : AreSmaller key x.references.items = subst (λ o. IfSome o (λ k. AreSmaller k x.references.items)) c.in-Some-2.is (c.in_ok-key.ensures.smaller two) in
    let whole = n nodes number level x f in
    let h = keys nodes number level x f key inside uncrossed smaller in
    weaker c.with_index_keys_split.result
    (λ s. Halved nodes s c.args.parent number (part_of whole h.0 (filter (λ r. reaches_below key r.rect))) (part_of whole h.1 (filter (λ r. reaches_up key r.rect))))
    (λ s. IsIndexSplit nodes s c.args.parent number)
    (λ s halved. key_split nodes number level x f key inside uncrossed smaller s c.args.parent halved)
    (c.with_index_keys_split.ensures.halved whole h f.there (made_keys nodes number level x f key inside uncrossed smaller))
