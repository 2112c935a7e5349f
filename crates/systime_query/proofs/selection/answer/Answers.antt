use Rattle.std.proofs.Common.{◌≡◌, false, ℕ, Option, sym, subst}
use Rattle.values.specs.declared.query.Form.{Form}
use Rattle.values.specs.Versions.{selects}
use Rattle.systime_query.proofs.SelectionAnswered.{nothing_is, empty_from, empty_between}
use Rattle.systime_query.proofs.selection.answer.Goals as goal

pub returns-else-from-to-clause-ok : goal.returns-else-from-to-clause-ok
returns-else-from-to-clause-ok g c =
    nothing_is c.args.view.now c.args.search.now.table c.args.search.now.keys c.args.form c.new.result.items c.new.ensures.items
    (subst (λ (f : Form). (from : ℕ) (to : Option ℕ) → selects f from to ≡ false) (sym c.in-FromTo.is) (empty_from c.in-FromTo.from c.in-FromTo.to c.if-from-to.false))

pub returns-else-from-to-2-clause-ok : goal.returns-else-from-to-2-clause-ok
returns-else-from-to-2-clause-ok g c =
    nothing_is c.args.view.now c.args.search.now.table c.args.search.now.keys c.args.form c.new-else-from-to-2.result.items c.new-else-from-to-2.ensures.items
    (subst (λ (f : Form). (from : ℕ) (to : Option ℕ) → selects f from to ≡ false) (sym c.in-Between.is) (empty_between c.in-Between.from c.in-Between.to c.if-from-to-2.false))
