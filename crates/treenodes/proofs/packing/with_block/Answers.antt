use Rattle.std.proofs.Common.{◌≡◌, set, sym, ap, subst, ◌∙◌}
use Rattle.std.specs.Prelude.{IfOk}
use Rattle.treenodes.specs.Node.{packed_node}
use Rattle.treenodes.specs.Tree.{IsTree}
use Rattle.treenodes.specs.Map.{HoldsMap, changes}
use Rattle.treenodes.specs.Sound.{IsSound}
use Rattle.treenodes.proofs.ReplacementParents.{weaker}
use Rattle.treenodes.proofs.PackingKept.{packed_tree, packed_holds, packed_changes, packed_sound}
use Rattle.treenodes.proofs.packing.with_block.Goals as goal

made : (c : goal.After-with_slot) → IfOk c.with_slot.result (λ s. s ≡ set c.args.nodes c.args.number (packed_node c.args.block))
made c = weaker c.with_slot.result (λ s. s ≡ set c.args.nodes c.args.number c.in_ok-slot.slot) (λ s. s ≡ set c.args.nodes c.args.number (packed_node c.args.block)) (λ s is. is ∙ ap (set c.args.nodes c.args.number) c.in_ok-slot.ensures.ok) c.with_slot.ensures.ok

pub returns-clause-tree : goal.returns-clause-tree
returns-clause-tree c = λ tree.
    weaker c.with_slot.result (λ s. s ≡ set c.args.nodes c.args.number (packed_node c.args.block)) IsTree
    (λ s is. subst IsTree (sym is) (packed_tree c.args.nodes c.args.number c.args.block c.requires.node tree)) (made c)

pub returns-clause-holds : goal.returns-clause-holds
returns-clause-holds c = λ m holds.
    weaker c.with_slot.result (λ s. s ≡ set c.args.nodes c.args.number (packed_node c.args.block)) (λ s. HoldsMap s m)
    (λ s is. subst (λ s. HoldsMap s m) (sym is) (packed_holds c.args.nodes c.args.number c.args.block c.requires.node m holds)) (made c)

pub returns-clause-changes : goal.returns-clause-changes
returns-clause-changes c =
    weaker c.with_slot.result (λ s. s ≡ set c.args.nodes c.args.number (packed_node c.args.block)) (λ s. changes s ≡ changes c.args.nodes)
    (λ s is. ap changes is ∙ packed_changes c.args.nodes c.args.number c.args.block c.requires.node) (made c)

pub returns-clause-sound : goal.returns-clause-sound
returns-clause-sound c = λ last sound.
    weaker c.with_slot.result (λ s. s ≡ set c.args.nodes c.args.number (packed_node c.args.block)) (λ s. IsSound s last)
    (λ s is. subst (λ s. IsSound s last) (sym is) (packed_sound c.args.nodes c.args.number c.args.block c.requires.node last sound)) (made c)
