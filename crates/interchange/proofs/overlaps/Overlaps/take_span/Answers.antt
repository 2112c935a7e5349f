use Rattle.std.proofs.Common.{rules, ◌≡◌, true, List, ap, subst, sym, ◌∙◌}
use Rattle.std.specs.BTreeMap.{get}
use Rattle.values.specs.declared.period.Span.{Span}
use Rattle.values.specs.Entity.{entity_of}
use Rattle.values.specs.Order.{key_cmp}
use Rattle.interchange.specs.ApartSpans.{AreInTurn, HasOneMore, spans_in}
use Rattle.interchange.specs.Overlaps.{spans_at}
use Rattle.interchange.proofs.OverlapsFound.{kept_in, put_back, taken_out}
use Rattle.interchange.proofs.overlaps.Overlaps.take_span.Goals as goal

pub returns-clause-kept : goal.returns-clause-kept
returns-clause-kept c = λ none proper turn entity.
    let old = c.args.self.now in
    let own = c.in_ok-entity.entity in
    let spans = c.unwrap_or-spans.result in
    let were : spans_in spans ≡ spans_at old own = taken_out c.remove.result c.new.result spans c.new.ensures c.unwrap_or-spans.ensures ∙ ap kept_in c.remove.ensures.value in
    let in_turn : AreInTurn (spans_in spans) = subst AreInTurn (ap (spans_at old) (sym c.in_ok-entity.ensures.ok) ∙ sym were) turn in
    let is_apart : c.in_ok-add.field-0 ≡ true = search rules in
    let more = subst (λ (l : List Span). HasOneMore l c.args.span (spans_in c.add.new.self)) were (c.in_ok-add.ensures.added is_apart proper in_turn) in
    put_back own (entity_of c.args.key.now) c.args.span (get key_cmp old.spans) (get key_cmp c.remove.new.self) (get key_cmp c.insert.new.self) c.add.new.self c.remove.ensures.updates.0 c.in_ok-insert.ensures.updates.0 more c.in_ok-entity.ensures.ok entity
