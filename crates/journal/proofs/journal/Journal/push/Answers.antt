use Rattle.std.proofs.Common.{◌≡◌, ap, ◌∙◌, arith, length, reverse, ◌++◌, ◌∷◌, [], false, slice_get}
use Rattle.std.proofs.lemmas.List.{with_items_is}
use Rattle.std.specs.Vec.{vec_len}
use Rattle.journal.specs.JournalState.{JournalState, marked}
use Rattle.journal.proofs.JournalPushing.{pushed}
use Rattle.journal.proofs.journal.Journal.push.Goals as goal

pub invariant_of-self : goal.invariant_of-self
invariant_of-self g c =
    let seen : reverse c.self.inside.entries.items ≡ c.args.self.now.entries = ap (λ (v : JournalState). v.entries) c.self.view_is in
    let value : c.as_mut_slice.result.now ≡ c.self.inside.ended.items = c.as_mut_slice.ensures.value in
    let same : length c.mark.new.ended ≡ length c.as_mut_slice.result.now = c.mark.auto.ended in
    let lens : length c.as_mut_slice.result.now ≡ vec_len c.self.inside.ended = c.as_mut_slice.ensures.len in
    let wide = c.push_reserved-2.ensures.items ∙ ap (λ xs. xs ++ false ∷ []) (with_items_is c.self.inside.ended c.mark.new.ended (same ∙ lens)) in
    pushed c.self.inside.entries.items c.self.inside.prefix c.grow.new.prefix c.push_reserved.new.self.items c.args.kept c.args.entry c.entry.result.now c.begin.result
    c.self.inside.ended.items c.mark.new.ended c.push_reserved-2.new.self.items c.args.self.now.entries c.len-number.result c.self.invariant
    seen c.requires.same c.entry.ensures c.push_reserved.ensures.items wide (omega (arith, c.self.inside.entries.ok, c.len-number.ensures))
    (same ∙ ap length value) (λ n h. c.mark.ensures n (omega (arith, h, ap length value)) ∙ ap (λ xs. marked c.begin.result n (slice_get xs n)) value) c.begin.ensures c.requires.fresh c.grow.ensures
