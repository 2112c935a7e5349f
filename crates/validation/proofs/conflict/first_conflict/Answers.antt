use Rattle.std.proofs.Common.{rules, ◌≡◌, ◌<◌, ◌≤◌, ◌+◌, suc, Some, None, sym, ap, ◌∙◌, arith, length, get_or, drop}
use Rattle.std.specs.List.{slice_get}
use Rattle.values.specs.ChangedSince.{conflicts}
use Rattle.values.specs.Period.{periods_of}
use Rattle.validation.specs.Conflict.{conflict_of}
use Rattle.validation.proofs.ConflictNone.{none_since}
use Rattle.validation.proofs.ConflictUnits.{next_of}
use Rattle.validation.proofs.conflict.first_conflict.Goals as goal

pub returns-then-last-start-clause-ok : goal.returns-then-last-start-clause-ok
returns-then-last-start-clause-ok c = λ m held keys.
    let before : c.last.result ≤ c.args.start = search rules in
    none_since c.args.schema.now (periods_of c.args.schema.now) c.args.view.now m c.last.result c.args.start c.args.net.now c.last.ensures.upto before held

pub returns-in-Some-clause-ok : goal.returns-in-Some-clause-ok
returns-in-Some-clause-ok c = λ m held keys.
    let schema = c.args.schema.now in
    let net = c.args.net.now in
    let i = c.loop-change.change-index in
    let item = c.change-item.result in
    let within : i < length net = search rules in
    let is : item ≡ get_or net i item = search rules in
    let next = next_of schema (periods_of schema) m c.args.start net i item within is keys in
    let found : Some c.in-Some.conflict ≡ conflict_of (periods_of schema) m c.args.start item.0 = sym c.in-Some.is ∙ c.in_ok-conflict.ensures.ok m held next.0 (c.loop-change.invariant.none_before m held keys) in
    ap (λ o. elim o [ Some x ↦ Some x | None ↦ slice_get (conflicts (periods_of schema) m c.args.start (drop (suc i) net)) 0 ]) found
    ∙ sym next.1 ∙ c.loop-change.invariant.left m held keys

pub loop-change-preserved : goal.loop-change-preserved
loop-change-preserved c = record {
  left = λ m held keys.
      let schema = c.args.schema.now in
      let net = c.args.net.now in
      let i = c.loop-change.change-index in
      let item = c.change-item.result in
      let within : i < length net = search rules in
      let is : item ≡ get_or net i item = search rules in
      let next = next_of schema (periods_of schema) m c.args.start net i item within is keys in
      let none : conflict_of (periods_of schema) m c.args.start item.0 ≡ None = sym (c.in_ok-conflict.ensures.ok m held next.0 (c.loop-change.invariant.none_before m held keys)) ∙ c.in_default.is in
      let on : i + 1 ≡ suc i = omega arith in
      ap (λ k. slice_get (conflicts (periods_of schema) m c.args.start (drop k net)) 0) on
      ∙ ap (λ o. elim o [ Some x ↦ Some x | None ↦ slice_get (conflicts (periods_of schema) m c.args.start (drop (suc i) net)) 0 ]) (sym none)
      ∙ sym next.1 ∙ c.loop-change.invariant.left m held keys;
  none_before = λ m held keys k at.
      let schema = c.args.schema.now in
      let net = c.args.net.now in
      let item = c.change-item.result in
      let within : c.loop-change.change-index < length net = search rules in
      let is : item ≡ get_or net c.loop-change.change-index item = search rules in
      let next = next_of schema (periods_of schema) m c.args.start net c.loop-change.change-index item within is keys in
      let none : conflict_of (periods_of schema) m c.args.start item.0 ≡ None = sym (c.in_ok-conflict.ensures.ok m held next.0 (c.loop-change.invariant.none_before m held keys)) ∙ c.in_default.is in
      let key_is : k ≡ item.0 = cc c.key.ensures in
      ap (conflict_of (periods_of schema) m c.args.start) key_is ∙ none;
}
