use Rattle.std.proofs.Common.{sym, ap, ◌∙◌, arith, ◌<◌, ◌≤◌, ◌-◌, length}
use Rattle.journal.specs.Entries.{entry_at}
use Rattle.journal.specs.JournalState.{JournalState}
use Rattle.journal.proofs.JournalNumbering.{entry_found}
use Rattle.journal.proofs.journal.Journal.has.Goals as goal

pub returns : goal.returns
returns g c = λ t.
    let counts : 1 ≤ c.args.receipt.now.number = c.args.receipt.now.counts in
    let reaches : c.args.receipt.now.number ≤ length c.self.inside.prefix = c.is_in.ensures.reaches t in
    let lt : c.args.receipt.now.number - 1 < length c.self.inside.prefix = omega arith in
    ap (λ (v : JournalState). entry_at v.entries c.args.receipt.now.number) (sym c.self.view_is) ∙ entry_found c.self.inside.entries.items c.args.receipt.now.number (omega arith)
    ∙ sym (c.self.invariant.seen (c.args.receipt.now.number - 1) lt) ∙ c.is_in.ensures.has t
