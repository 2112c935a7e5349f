use Rattle.std.proofs.Common.{◌≡◌, ◌+◌, ◌++◌, ◌∷◌, [], take, sym, ap, subst, ◌∙◌, arith}
use Rattle.std.specs.Prelude.{IsTrue, MatchOption, IfSome, None, nat_lt, cond}
use Rattle.keyrange.specs.declared.range.TimeRange.{TimeRange}
use Rattle.std.proofs.lemmas.List.{take_more, take_all}
use Rattle.keyrange.specs.Rect.{is_area}
use Rattle.indexnode.specs.Choice.{HasNoCurrent, IsLeastStart}
use Rattle.indexnode.proofs.NodeFound.{more_hold}
use Rattle.indexnode.proofs.ChoiceLeastStart.{with_current, with_historical, as_count, in_range, smaller}
use Rattle.indexnode.proofs.ChoiceOnlyCurrent.{alone}
use Rattle.indexnode.proofs.node.IndexNode.least_current_start.Goals as goal
use Rattle.indexnode.proofs.node.IndexNode.least_current_start.Goals.{then-is_current, else-is_current}

pub loop-reference-preserved : goal.loop-reference-preserved
loop-reference-preserved g c =
    let i = c.loop-reference.reference-index in
    let items = c.deref-reference-items.result.now in
    let r = c.reference-item.result in
    let grown : take (i + 1) items ≡ take i items ++ r ∷ [] = take_more items i r c.loop-reference-test.true ∙ ap (λ x. take i items ++ x ∷ []) (sym c.reference-item.is) in
    let areas = more_hold (λ s. IsTrue (is_area s.rect.keys s.rect.time)) items i r c.loop-reference-test.true c.reference-item.is c.loop-reference.invariant.areas c.time-time.ensures.area in
    elim c.if-is_current.branch [
      | then-is_current w ↦ record {
        least = subst (λ o. MatchOption o (HasNoCurrent (take (i + 1) items)) (IsLeastStart (take (i + 1) items))) (sym w.least-is)
            (subst (λ l. IsLeastStart l w.earlier.result) (sym grown)
            (with_current (take i items) r c.loop-reference.least w.earlier.result c.loop-reference.invariant.least (sym c.is_current.ensures ∙ w.if-is_current.true)
            (subst (λ (t : TimeRange). c.loop-reference.least ≡ None → w.earlier.result ≡ t.from) c.time-time.ensures.time w.earlier.ensures.none)
            (subst (λ (t : TimeRange). IfSome c.loop-reference.least (λ s. w.earlier.result ≡ cond (nat_lt s t.from) s t.from)) c.time-time.ensures.time w.earlier.ensures.some)));
        areas = areas;
      }
      | else-is_current w ↦ record {
        least = subst (λ o. MatchOption o (HasNoCurrent (take (i + 1) items)) (IsLeastStart (take (i + 1) items))) (sym w.least-is)
            (subst (λ l. MatchOption c.loop-reference.least (HasNoCurrent l) (IsLeastStart l)) (sym grown)
            (with_historical (take i items) r c.loop-reference.least c.loop-reference.invariant.least (sym c.is_current.ensures ∙ w.if-is_current.false)));
        areas = areas;
      }
    ]

pub returns-clause-least : goal.returns-clause-least
returns-clause-least g c =
    let xs = c.args.self.now.references.items in
    let whole : take c.loop-reference.reference-index c.deref-reference-items.result.now ≡ xs = take_all c.loop-reference.reference-index c.deref-reference-items.result.now (omega arith) ∙ c.deref-reference-items.ensures.value in
    as_count xs c.loop-reference.least (subst (λ l. MatchOption c.loop-reference.least (HasNoCurrent l) (IsLeastStart l)) whole c.loop-reference.invariant.least)

pub returns-clause-in_range : goal.returns-clause-in_range
returns-clause-in_range g c = in_range (take c.loop-reference.reference-index c.deref-reference-items.result.now) c.loop-reference.least c.loop-reference.invariant.areas c.loop-reference.invariant.least

pub returns-clause-smaller : goal.returns-clause-smaller
returns-clause-smaller g c =
    let xs = c.args.self.now.references.items in
    let whole : take c.loop-reference.reference-index c.deref-reference-items.result.now ≡ xs = take_all c.loop-reference.reference-index c.deref-reference-items.result.now (omega arith) ∙ c.deref-reference-items.ensures.value in
    smaller xs c.loop-reference.least (subst (λ l. MatchOption c.loop-reference.least (HasNoCurrent l) (IsLeastStart l)) whole c.loop-reference.invariant.least)

pub returns-clause-alone : goal.returns-clause-alone
returns-clause-alone g c = λ h.
    let xs = c.args.self.now.references.items in
    let whole : take c.loop-reference.reference-index c.deref-reference-items.result.now ≡ xs = take_all c.loop-reference.reference-index c.deref-reference-items.result.now (omega arith) ∙ c.deref-reference-items.ensures.value in
    alone c.args.self.now.rect xs c.loop-reference.least h.tiled h.meet h.endless h.one (subst (λ l. MatchOption c.loop-reference.least (HasNoCurrent l) (IsLeastStart l)) whole c.loop-reference.invariant.least)
