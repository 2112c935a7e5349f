use Rattle.std.proofs.Common.{◌≡◌, ◌/◌, length, sym, subst, ◌∙◌, arith}
use Rattle.std.specs.Prelude.{IsTrue}
use Rattle.std.specs.List.{All}
use Rattle.keyrange.specs.Rect.{is_area}
use Rattle.keyrange.specs.Cut.{is_key_inside}
use Rattle.indexnode.specs.Split.{IsUncrossed}
use Rattle.indexnode.specs.Choice.{current_count, AreOrdered, AreSmaller}
use Rattle.indexnode.proofs.ChoiceCrossing.{uncrossed}
use Rattle.indexnode.proofs.ChoiceMiddle.{strictly_inside, smaller, counted_in_order}
use Rattle.indexnode.proofs.node.IndexNode.middle_key.Goals as goal

pub returns-then-middle-len-clause-uncrossed : goal.returns-then-middle-len-clause-uncrossed
returns-then-middle-len-clause-uncrossed g c = λ h.
    let references = c.args.self.now.references.items in
    let are = subst (λ l. AreOrdered l c.in_ok-keys.keys.items) c.deref.ensures.value c.in_ok-keys.ensures.ordered in
    let areas = subst (λ l. All (λ r. IsTrue (is_area r.rect.keys r.rect.time)) l) c.deref.ensures.value c.in_ok-keys.ensures.areas in
    subst (λ key. IsUncrossed key references) (sym c.swap_remove.ensures.value)
    (uncrossed c.args.self.now.rect references c.in_ok-keys.keys.items h.tiled h.inside areas are _ c.swap_remove.result (omega (arith, c.in_ok-keys.keys.ok.0)))

pub returns-then-middle-len-clause-inside : goal.returns-then-middle-len-clause-inside
returns-then-middle-len-clause-inside g c = λ h.
    let references = c.args.self.now.references.items in
    let are = subst (λ l. AreOrdered l c.in_ok-keys.keys.items) c.deref.ensures.value c.in_ok-keys.ensures.ordered in
    let areas = subst (λ l. All (λ r. IsTrue (is_area r.rect.keys r.rect.time)) l) c.deref.ensures.value c.in_ok-keys.ensures.areas in
    let count : length c.in_ok-keys.keys.items ≡ current_count references = counted_in_order references _ are in
    subst (λ key. IsTrue (is_key_inside c.args.self.now.rect key)) (sym c.swap_remove.ensures.value)
    (strictly_inside c.args.self.now.rect references _ h.tiled h.inside areas are (c.len-middle.result / 2) c.swap_remove.result (omega (arith, c.in_ok-keys.keys.ok.0)) (omega (arith, c.in_ok-keys.keys.ok.0)))

pub returns-then-middle-len-clause-smaller : goal.returns-then-middle-len-clause-smaller
returns-then-middle-len-clause-smaller g c = λ h.
    let references = c.args.self.now.references.items in
    let are = subst (λ l. AreOrdered l c.in_ok-keys.keys.items) c.deref.ensures.value c.in_ok-keys.ensures.ordered in
    let areas = subst (λ l. All (λ r. IsTrue (is_area r.rect.keys r.rect.time)) l) c.deref.ensures.value c.in_ok-keys.ensures.areas in
    let count : length c.in_ok-keys.keys.items ≡ current_count references = counted_in_order references _ are in
    let apart = uncrossed c.args.self.now.rect references c.in_ok-keys.keys.items h.tiled h.inside areas are (c.len-middle.result / 2) c.swap_remove.result (omega (arith, c.in_ok-keys.keys.ok.0)) in
    subst (λ key. AreSmaller key references) (sym c.swap_remove.ensures.value)
    (smaller c.args.self.now.rect references _ h.tiled h.inside areas are (c.len-middle.result / 2) c.swap_remove.result (omega (arith, c.in_ok-keys.keys.ok.0)) (omega (arith, c.in_ok-keys.keys.ok.0)) apart)

pub returns-clause-none : goal.returns-clause-none
returns-clause-none g c =
    let nothing : length c.in_ok-keys.keys.items ≡ 0 = omega (arith, c.in_ok-keys.keys.ok.0) in
    let are = subst (λ l. AreOrdered l c.in_ok-keys.keys.items) c.deref.ensures.value c.in_ok-keys.ensures.ordered in
    sym (counted_in_order c.args.self.now.references.items _ are) ∙ nothing
