use Rattle.std.proofs.Common.{◌++◌, ◌∷◌, [], sym, ap, ◌∙◌}
use Rattle.std.specs.Prelude.{IsTrue}
use Rattle.keyrange.specs.declared.range.KeyRange.{KeyRange}
use Rattle.keyrange.specs.Rect.{is_area}
use Rattle.indexnode.specs.Split.{is_current}
use Rattle.indexnode.proofs.NodeFound.{took_made, left_made, more_hold}
use Rattle.indexnode.proofs.choice.current_keys.Goals as goal
use Rattle.indexnode.proofs.choice.current_keys.Goals.{then-is_current+in_ok-copy+in_ok-push, else-is_current}

pub loop-reference-preserved : goal.loop-reference-preserved
loop-reference-preserved g c =
    let i = c.loop-reference.reference-index in
    let items = c.args.references.now in
    let r = c.reference-item.result in
    let areas = more_hold (λ s. IsTrue (is_area s.rect.keys s.rect.time)) items i r c.loop-reference-test.true c.reference-item.is c.loop-reference.invariant.areas c.keys-range.ensures.area in
    elim c.if-is_current.branch [
      | then-is_current+in_ok-copy+in_ok-push w ↦ record {
        keys = took_made is_current (λ s. s.rect.keys.lo) items i r c.loop-reference.keys.items c.if-is_current.keys.items c.loop-reference-test.true c.reference-item.is (sym c.is_current.ensures ∙ w.if-is_current.true)
            (ap (λ v. v.items) w.keys-is ∙ w.in_ok-push.ensures.items ∙ ap (λ x. c.loop-reference.keys.items ++ x ∷ []) (w.in_ok-copy.ensures.ok ∙ ap (λ (k : KeyRange). k.lo) c.keys-range.ensures.keys)) c.loop-reference.invariant.keys;
        areas = areas;
      }
      | else-is_current w ↦ record {
        keys = left_made is_current (λ s. s.rect.keys.lo) items i r c.loop-reference.keys.items c.if-is_current.keys.items c.loop-reference-test.true c.reference-item.is (sym c.is_current.ensures ∙ w.if-is_current.false) (ap (λ v. v.items) w.keys-is) c.loop-reference.invariant.keys;
        areas = areas;
      }
    ]
