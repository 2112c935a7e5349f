use Rattle.std.proofs.Common.{◌≡◌, ℕ, ◌++◌, ◌∷◌, [], length, set, Some, refl, sym, ap, subst, ◌∙◌}
use Rattle.std.specs.Prelude.{IfOk}
use Rattle.std.proofs.lemmas.Option.{slice_get_within}
use Rattle.indexnode.specs.declared.reference.Reference.{Reference}
use Rattle.indexnode.proofs.SplitMeeting.{one_meets}
use Rattle.indexnode.proofs.ListPairs.{one_tiles, one_inside}
use Rattle.keyrange.specs.Rect.{Area}
use Rattle.treenodes.specs.Node.{TreeNode}
use Rattle.treenodes.specs.Tree.{IsTree}
use Rattle.treenodes.specs.History.{KeepsHistory}
use Rattle.treenodes.specs.Map.{HoldsMap}
use Rattle.treenodes.specs.Lookup.{IsParent}
use Rattle.treenodes.specs.Root.{root_over}
use Rattle.treenodes.proofs.HistoryKept.{keeps_raised}
use Rattle.treenodes.proofs.NodeNumbers.{one_at}
use Rattle.treenodes.proofs.ReplacementParents.{weaker}
use Rattle.treenodes.proofs.RootRaised.{IsRaised, is_raised}
use Rattle.treenodes.proofs.root.with_new_root.Goals as goal

pub at-requires : goal.at-requires
at-requires c = slice_get_within c.args.nodes 0 c.requires.root.root c.requires.root.first

pub above-requires-clause-current : goal.above-requires-clause-current
above-requires-clause-current c =
    ap (λ (q : TreeNode). q.rect.time.to) (c.in_ok-root.ensures.ok ∙ one_at c.args.nodes 0 c.at.result.now c.requires.root.root c.at.ensures c.requires.root.first)
    ∙ ap (λ (a : Area). a.time.to) c.requires.root.covers

facts : (c : goal.After-with_last) → IfOk c.with_last.result (IsRaised c.args.nodes)
facts c =
    let root = c.in_ok-root.root in
    let whole : Reference ℕ = record { rect = root.rect; child = c.len-number.result } in
    let at_root = c.at.ensures ∙ ap Some (sym c.in_ok-root.ensures.ok) in
    weaker c.with_last.result (λ s. s ≡ c.in_ok-with_slot.field-0 ++ root ∷ []) (IsRaised c.args.nodes)
    (λ s made. is_raised c.args.nodes c.requires root at_root root.rect c.len-number.result (whole ∷ []) refl c.len-number.ensures
    refl (one_tiles whole (whole ∷ []) refl) (one_inside whole (whole ∷ []) refl) (λ outer lies. one_meets outer whole (whole ∷ []) (c.requires.areas 0 root at_root) lies refl)
    root.level root.rect (whole ∷ []) c.in_ok-top.top s refl refl refl c.in_ok-top.ensures.ok
    (made ∙ ap (λ l. l ++ root ∷ []) c.in_ok-with_slot.ensures.ok))
    c.with_last.ensures.ok

pub returns-clause-tree : goal.returns-clause-tree
returns-clause-tree c = weaker c.with_last.result (IsRaised c.args.nodes) IsTree (λ s r. r.tree) (facts c)

pub returns-clause-parent : goal.returns-clause-parent
returns-clause-parent c = weaker c.with_last.result (IsRaised c.args.nodes) (λ s. IsParent s 0 (length c.args.nodes)) (λ s r. r.parent) (facts c)

pub returns-clause-holds : goal.returns-clause-holds
returns-clause-holds c = λ m holds. weaker c.with_last.result (IsRaised c.args.nodes) (λ s. HoldsMap s m) (λ s r. r.holds m holds) (facts c)

pub returns-clause-raised : goal.returns-clause-raised
returns-clause-raised c = λ root at. weaker c.with_last.result (IsRaised c.args.nodes) (λ s. s ≡ set c.args.nodes 0 (root_over root (length c.args.nodes)) ++ root ∷ []) (λ s r. r.exactly root at) (facts c)

pub returns-clause-history : goal.returns-clause-history
returns-clause-history c =
    let root = c.in_ok-root.root in
    let at_root = c.at.ensures ∙ ap Some (sym c.in_ok-root.ensures.ok) in
    let current =
    ap (λ (q : TreeNode). q.rect.time.to) (one_at c.args.nodes 0 root c.requires.root.root at_root c.requires.root.first)
    ∙ ap (λ (a : Area). a.time.to) c.requires.root.covers in
    weaker c.with_last.result (IsRaised c.args.nodes) (KeepsHistory c.args.nodes)
    (λ s r. subst (KeepsHistory c.args.nodes) (sym (r.exactly root at_root)) (keeps_raised c.args.nodes root at_root current c.in_ok-top.ensures.unpacked)) (facts c)
