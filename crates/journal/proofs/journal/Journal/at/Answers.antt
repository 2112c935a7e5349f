use Rattle.std.proofs.Common.{sym, ap, ◌∙◌, arith, Some, ◌<◌, ◌-◌, length, refl, slice_get}
use Rattle.std.proofs.lemmas.Option.{slice_get_past, slice_get_read}
use Rattle.journal.specs.Entries.{entry_at}
use Rattle.journal.specs.JournalState.{JournalState}
use Rattle.journal.proofs.JournalNumbering.{entry_found, entry_zero}
use Rattle.journal.proofs.journal.Journal.at.Goals as goal

pub returns-then-number-eq0 : goal.returns-then-number-eq0
returns-then-number-eq0 g c = ap (entry_at c.args.self.now.entries) c.if-number-eq0.true ∙ entry_zero c.args.self.now.entries

pub returns-in-None : goal.returns-in-None
returns-in-None g c =
    let counts : 0 < c.args.number = omega (arith, c.if-number-eq0.false) in
    ap (λ (v : JournalState). entry_at v.entries c.args.number) (sym c.self.view_is) ∙ entry_found c.self.inside.entries.items c.args.number counts
    ∙ ap (λ xs. slice_get xs (c.args.number - 1)) (sym c.deref.ensures.value) ∙ slice_get_past c.deref.result.now (c.args.number - 1) c.in-None.ensures.lookup.3

pub returns-in-Some : goal.returns-in-Some
returns-in-Some g c =
    let counts : 0 < c.args.number = omega (arith, c.if-number-eq0.false) in
    ap (λ (v : JournalState). entry_at v.entries c.args.number) (sym c.self.view_is) ∙ entry_found c.self.inside.entries.items c.args.number counts
    ∙ ap (λ xs. slice_get xs (c.args.number - 1)) (sym c.deref.ensures.value)
    ∙ slice_get_read c.deref.result.now (length c.deref.result.now) (c.args.number - 1) c.in-Some.shared.now refl c.in-Some.ensures.lookup.3.0 c.in-Some.ensures.lookup.1
    ∙ ap (λ e. Some e) (sym c.entry.ensures)
