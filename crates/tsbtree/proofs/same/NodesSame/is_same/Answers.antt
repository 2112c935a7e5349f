use Rattle.std.proofs.Common.{refl, sym, ◌∙◌, arith}
use Rattle.tsbtree.proofs.SameLists.{all_same}
use Rattle.tsbtree.proofs.same.NodesSame.is_same.Goals as goal

pub returns : goal.returns
returns c =
    (λ _. all_same c.args.self.now c.args.other.now (sym c.len.ensures ∙ c.if-len.false ∙ c.len-2.ensures) (λ k lt. c.loop-number.invariant k (omega arith)), λ _. refl)
