use Rattle.std.proofs.Common.{◌≡◌, set, refl, sym, subst}
use Rattle.std.specs.Prelude.{IfOk}
use Rattle.std.proofs.lemmas.Option.{slice_get_within, get_or_from_slice_get}
use Rattle.values.specs.Events.{put_event}
use Rattle.treenodes.specs.Node.{TreeNode, IsAt}
use Rattle.treenodes.specs.Tree.{IsTree}
use Rattle.treenodes.specs.Map.{HoldsMap, changes}
use Rattle.treenodes.specs.Event.{AcceptsEvent, with_put}
use Rattle.treenodes.specs.History.{KeepsHistory}
use Rattle.treenodes.proofs.HistoryKept.{keeps_set}
use Rattle.treenodes.proofs.NodeNumbers.{one_at}
use Rattle.treenodes.proofs.ReplacementParents.{weaker}
use Rattle.treenodes.proofs.EventTaken.{takes_next, tree_next, holds_next}
use Rattle.treenodes.proofs.event.with_event.Goals as goal

pub with_event-requires-clause-inside : goal.with_event-requires-clause-inside
with_event-requires-clause-inside c = slice_get_within c.args.nodes c.args.number c.requires.leaf.leaf.node c.requires.leaf.leaf.there

pub with_event-requires-clause-can : goal.with_event-requires-clause-can
with_event-requires-clause-can c = λ d.
    subst (λ (n : TreeNode). AcceptsEvent n c.args.event) (sym (get_or_from_slice_get c.args.nodes c.args.number c.requires.leaf.leaf.node d c.requires.leaf.leaf.there))
    (takes_next c.args.nodes (changes c.args.nodes) c.requires.tree c.requires.holds c.args.event c.requires.next c.args.number c.requires.leaf)

-- the nodes with the event, whatever stands at the number
made : (c : goal.After-with_event) (n : TreeNode) → IsAt c.args.nodes c.args.number n → IfOk c.with_event.result (λ s. s ≡ set c.args.nodes c.args.number (with_put n c.args.event))
made c n at =
    subst (λ (q : TreeNode). IfOk c.with_event.result (λ s. s ≡ set c.args.nodes c.args.number (with_put q c.args.event))) (get_or_from_slice_get c.args.nodes c.args.number n n at) (c.with_event.ensures.ok n)

pub returns-clause-tree : goal.returns-clause-tree
returns-clause-tree c =
    let leaf = c.requires.leaf.leaf in
    weaker c.with_event.result (λ s. s ≡ set c.args.nodes c.args.number (with_put leaf.node c.args.event)) IsTree
    (λ s is. subst IsTree (sym is) (tree_next c.args.nodes (changes c.args.nodes) c.requires.tree c.requires.holds c.args.event c.requires.next c.args.number c.requires.leaf))
    (made c leaf.node leaf.there)

pub returns-clause-holds : goal.returns-clause-holds
returns-clause-holds c =
    let leaf = c.requires.leaf.leaf in
    let m = put_event c.args.event (changes c.args.nodes) in
    weaker c.with_event.result (λ s. s ≡ set c.args.nodes c.args.number (with_put leaf.node c.args.event)) (λ s. HoldsMap s m)
    (λ s is. subst (λ s. HoldsMap s m) (sym is) (holds_next c.args.nodes (changes c.args.nodes) c.requires.tree c.requires.holds c.args.event c.requires.next c.args.number c.requires.leaf))
    (made c leaf.node leaf.there)

pub returns-clause-taken : goal.returns-clause-taken
returns-clause-taken c = made c

pub returns-clause-accepted : goal.returns-clause-accepted
returns-clause-accepted c = λ n at.
    let leaf = c.requires.leaf.leaf in
    weaker c.with_event.result (λ s. s ≡ set c.args.nodes c.args.number (with_put n c.args.event)) (λ s. AcceptsEvent n c.args.event)
    (λ s is. subst (λ (n : TreeNode). AcceptsEvent n c.args.event) (one_at c.args.nodes c.args.number leaf.node n leaf.there at)
    (takes_next c.args.nodes (changes c.args.nodes) c.requires.tree c.requires.holds c.args.event c.requires.next c.args.number c.requires.leaf))
    (made c n at)

pub returns-clause-history : goal.returns-clause-history
returns-clause-history c =
    let leaf = c.requires.leaf.leaf in
    let takes = takes_next c.args.nodes (changes c.args.nodes) c.requires.tree c.requires.holds c.args.event c.requires.next c.args.number c.requires.leaf in
    weaker c.with_event.result (λ s. s ≡ set c.args.nodes c.args.number (with_put leaf.node c.args.event)) (KeepsHistory c.args.nodes)
    (λ s is. subst (KeepsHistory c.args.nodes) (sym is) (keeps_set c.args.nodes c.args.number leaf.node (with_put leaf.node c.args.event) leaf.there takes.accepted.current refl))
    (made c leaf.node leaf.there)
