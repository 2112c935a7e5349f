use Rattle.std.proofs.Common.{◌≡◌, true, false, sym, ap, subst, ◌∙◌}
use Rattle.std.specs.Prelude.{is_some}
use Rattle.keyrange.specs.Rect.{IsInside}
use Rattle.keyrange.proofs.RectInside.{inside_outer, halves_inside}
use Rattle.indexnode.specs.Node.{AllMeet}
use Rattle.indexnode.specs.Split.{AreCurrentIn}
use Rattle.indexnode.specs.Replacement.{HasRect, Replaced}
use Rattle.indexnode.proofs.node.IndexNode.with_references.Goals as goal

pub replace-requires-clause-tiles : goal.replace-requires-clause-tiles
replace-requires-clause-tiles g c = (c.in_ok-halves.ensures.halves c.args.whole.now c.requires.halves).0

pub replace-requires-clause-inside : goal.replace-requires-clause-inside
replace-requires-clause-inside g c = (c.in_ok-halves.ensures.halves c.args.whole.now c.requires.halves).1

pub returns-clause-replaced : goal.returns-clause-replaced
returns-clause-replaced g c =
    let whole = c.args.whole.now in
    let olds = c.in_ok-node.ensures.references in
    let done = c.in_ok-_replaced.ensures.answer.1 (subst (HasRect whole) (sym olds) c.requires.there) in
    let is = c.in_ok-_replaced.ensures.replaced done in
    subst (λ l. Replaced whole l c.args.self.now.references.items c.replace.new.self.references.items) c.in_ok-halves.ensures.are
    (subst (λ l. Replaced whole c.in_ok-halves.halves.items l c.replace.new.self.references.items) olds is)

pub returns-clause-current : goal.returns-clause-current
returns-clause-current g c = λ current inside.
    let same : c.replace.new.self.rect ≡ c.args.self.now.rect = c.in_ok-_replaced.ensures.rect ∙ c.in_ok-node.ensures.rect in
    let before : AreCurrentIn c.in_ok-node.node.rect c.in_ok-node.node.references.items =
    subst (λ a. AreCurrentIn a c.in_ok-node.node.references.items) (sym c.in_ok-node.ensures.rect) (subst (AreCurrentIn c.args.self.now.rect) (sym c.in_ok-node.ensures.references) inside) in
    subst (λ a. AreCurrentIn a c.replace.new.self.references.items) same
    (c.in_ok-_replaced.ensures.current before (λ some. absurd (ends (ap is_some (sym current) ∙ some))))
  where
    ends : false ≡ true → ⊥
    ends e = cc

pub returns-clause-meet : goal.returns-clause-meet
returns-clause-meet g c = λ lies meet.
    let area = c.args.self.now.rect in
    let whole = c.args.whole.now in
    let same : c.replace.new.self.rect ≡ area = c.in_ok-_replaced.ensures.rect ∙ c.in_ok-node.ensures.rect in
    let old_area = c.in_ok-node.ensures.rect in
    let before : AllMeet c.in_ok-node.node.rect c.in_ok-node.node.references.items =
    subst (λ a. AllMeet a c.in_ok-node.node.references.items) (sym old_area) (subst (AllMeet area) (sym c.in_ok-node.ensures.references) meet) in
    let halves = halves_inside whole c.args.first.rect c.args.second.rect c.requires.halves in
    let one : IsInside c.args.first.rect area = inside_outer c.args.first.rect whole area halves.0 lies in
    let other : IsInside c.args.second.rect area = inside_outer c.args.second.rect whole area halves.1 lies in
    let given : AllMeet c.in_ok-node.node.rect c.in_ok-halves.halves.items = subst (λ a. AllMeet a c.in_ok-halves.halves.items) (sym old_area) (c.in_ok-halves.ensures.meet area one other) in
    subst (λ a. AllMeet a c.replace.new.self.references.items) same (c.in_ok-_replaced.ensures.meet before given)
