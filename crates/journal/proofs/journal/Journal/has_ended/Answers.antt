use Rattle.std.proofs.Common.{◌≡◌, sym, ap, ◌∙◌, arith, ◌<◌, ◌+◌, ◌-◌, length, refl, reverse, Some, slice_get}
use Rattle.std.proofs.lemmas.List.{length-reverse}
use Rattle.std.proofs.lemmas.Option.{slice_get_read}
use Rattle.journal.specs.Entries.{has_ended}
use Rattle.journal.specs.JournalState.{JournalState}
use Rattle.journal.proofs.JournalNumbering.{IsWithin, entry_within}
use Rattle.journal.proofs.journal.Journal.has_ended.Goals as goal

pub overflow_sub-number : goal.overflow_sub-number
overflow_sub-number g c =
    let within : IsWithin c.args.self.now.entries c.args.number = entry_within c.args.self.now.entries c.args.number c.requires.0 c.requires.1 in
    omega arith

pub index-requires : goal.index-requires
index-requires g c =
    let within : IsWithin c.args.self.now.entries c.args.number = entry_within c.args.self.now.entries c.args.number c.requires.0 c.requires.1 in
    let len : length (reverse c.self.inside.entries.items) ≡ length c.args.self.now.entries = ap (λ (v : JournalState). length v.entries) c.self.view_is in
    let same : length (reverse c.self.inside.entries.items) ≡ length c.self.inside.entries.items = length-reverse c.self.inside.entries.items in
    let wide : length c.self.inside.ended.items ≡ length c.self.inside.entries.items = c.self.invariant.wide in
    omega (arith, c.self.inside.ended.ok)

pub returns : goal.returns
returns g c =
    let within : IsWithin c.args.self.now.entries c.args.number = entry_within c.args.self.now.entries c.args.number c.requires.0 c.requires.1 in
    let len : length (reverse c.self.inside.entries.items) ≡ length c.args.self.now.entries = ap (λ (v : JournalState). length v.entries) c.self.view_is in
    let same : length (reverse c.self.inside.entries.items) ≡ length c.self.inside.entries.items = length-reverse c.self.inside.entries.items in
    let wide : length c.self.inside.ended.items ≡ length c.self.inside.entries.items = c.self.invariant.wide in
    let lt : c.args.number - 1 < length c.self.inside.ended.items = omega arith in
    let read : slice_get c.self.inside.ended.items (c.args.number - 1) ≡ Some c.index.result.now = slice_get_read c.self.inside.ended.items (length c.self.inside.ended.items) (c.args.number - 1) c.index.result.now refl lt c.index.ensures in
    let flag : slice_get c.self.inside.ended.items (c.args.number - 1) ≡ Some (has_ended (reverse c.self.inside.entries.items) ((c.args.number - 1) + 1)) = c.self.invariant.ended (c.args.number - 1) (omega arith) in
    let is : c.index.result.now ≡ has_ended (reverse c.self.inside.entries.items) ((c.args.number - 1) + 1) = cc (sym read ∙ flag) in
    let number : (c.args.number - 1) + 1 ≡ c.args.number = omega arith in
    is ∙ ap (has_ended (reverse c.self.inside.entries.items)) number ∙ ap (λ (v : JournalState). has_ended v.entries c.args.number) c.self.view_is
