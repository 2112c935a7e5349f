use Rattle.std.proofs.Common.{sym, ◌∙◌, ap}
use Rattle.growlog.proofs.PrefixAdding.{adds_moves}
use Rattle.growlog.proofs.prefix.Prefix.add.Goals as goal

pub compare_exchange-found-requires : goal.compare_exchange-found-requires
compare_exchange-found-requires g c =
    let h = c.args.log.now.head_is in
    let again = c.again-seen.ensures in
    let offer = c.plain-offer.ensures in
    let pen = c.no_pen-pen.ensures in
    let books = c.self.invariant.1 ∙ sym (ap (λ w. w.book) h) in (
      ap (λ w. w.tracked) h,
      ap (λ s. s.book) again ∙ books,
      pen.0 ∙ (ap (λ s. s.book) again ∙ books),
      offer.0,
      rw (ap (λ w. w.key) h, pen.1, offer.1, offer.3, again) (adds_moves c.self.inside.seen.log c.args.entry.now c.self.inside.count (sym c.self.invariant.0)),
    )
