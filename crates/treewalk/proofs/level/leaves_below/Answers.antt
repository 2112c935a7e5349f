use Rattle.std.proofs.Common.{◌≡◌, ℕ, ◌+◌, ◌-◌, ◌<◌, ◌≤◌, [], ◌∷◌, ◌++◌, List, subst, sym, ap, ◌∙◌, arith}
use Rattle.keyrange.specs.Rect.{Area}
use Rattle.std.proofs.lemmas.Option.{slice_get_within}
use Rattle.treenodes.specs.Node.{TreeNode, IsAt}
use Rattle.treenodes.specs.Tree.{IsTree}
use Rattle.treewalk.specs.Level.{AreMeeting}
use Rattle.treenodes.proofs.NodeNumbers.{one_at}
use Rattle.treewalk.proofs.LevelChildren.{are_indexes}
use Rattle.treewalk.proofs.LevelSteps.{from_around}
use Rattle.treewalk.proofs.level.leaves_below.Goals as goal

pub at-requires : goal.at-requires
at-requires c = slice_get_within c.args.nodes.now c.args.number c.requires.around.node c.requires.around.there

node_level : (c : goal.After-level-level) → c.level-level.result ≡ c.requires.around.node.level
node_level c = c.level-level.ensures ∙ ap (λ (n : TreeNode). n.level) (one_at c.args.nodes.now c.args.number c.at.result.now c.requires.around.node c.at.ensures c.requires.around.there)

upto_root : (nodes : List TreeNode) (tree : IsTree nodes) (number : ℕ) (n root : TreeNode) → IsAt nodes number n → IsAt nodes 0 root → n.level ≤ root.level
upto_root nodes tree number n root there at = subst (λ (p : TreeNode). n.level ≤ p.level) (one_at nodes 0 tree.root.root root tree.root.first at) (tree.levels number n there)

pub loop-level-init : goal.loop-level-init
loop-level-init c = record {
  upto = λ root at. (let is = node_level c in let le = upto_root c.args.nodes.now c.requires.tree c.args.number c.requires.around.node root c.requires.around.there at in omega arith);
  meeting = subst (λ l. AreMeeting c.args.nodes.now l c.args.rect.now c.push.new.self.items) (sym (node_level c))
      (from_around c.args.nodes.now c.requires.tree c.args.rect.now c.time-time.ensures.area c.args.number c.requires.around c.push.new.self.items (c.in_ok-push.ensures.items ∙ ap (λ (l : List ℕ). l ++ c.args.number ∷ []) c.new-numbers.ensures.items));
}

up_again : (nodes : List TreeNode) (area : Area) (level : ℕ) (old numbers : List ℕ) → 0 < level → numbers ≡ old → AreMeeting nodes level area old → AreMeeting nodes ((level - 1) + 1) area numbers
up_again nodes area level old numbers lt is are =
    let same : level ≡ (level - 1) + 1 = omega arith in
    subst (λ l. AreMeeting nodes l area numbers) same (subst (AreMeeting nodes level area) (sym is) are)

pub level_below-requires-clause-indexes : goal.level_below-requires-clause-indexes
level_below-requires-clause-indexes c = are_indexes c.args.nodes.now c.requires.tree (c.loop-level.level - 1) c.args.rect.now c.deref.result.now
    (up_again c.args.nodes.now c.args.rect.now c.loop-level.level c.loop-level.numbers.items c.deref.result.now c.loop-level-test.true c.deref.ensures.value c.loop-level.invariant.meeting)

lower : (level top : ℕ) → 0 < level → level ≤ top → level - 1 < top
lower level top h k = omega arith

pub loop-level-preserved : goal.loop-level-preserved
loop-level-preserved c = record {
  upto = λ root at. (let le = c.loop-level.invariant.upto root at in omega arith);
  meeting = c.in_ok-numbers.ensures.ok (c.loop-level.level - 1) (λ root at. lower c.loop-level.level root.level c.loop-level-test.true (c.loop-level.invariant.upto root at))
      (up_again c.args.nodes.now c.args.rect.now c.loop-level.level c.loop-level.numbers.items c.deref.result.now c.loop-level-test.true c.deref.ensures.value c.loop-level.invariant.meeting);
}
