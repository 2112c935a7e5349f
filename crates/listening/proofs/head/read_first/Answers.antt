use Rattle.std.proofs.Common.{◌∙◌, ap, sym}
use Rattle.listening.specs.Request.{is_foreign}
use Rattle.listening.proofs.HeadShown.{not_foreign, with_line}
use Rattle.listening.proofs.head.read_first.Goals as goal

pub returns-clause-foreign : goal.returns-clause-foreign
returns-clause-foreign g c =
    not_foreign _ (g.I.Read.remaining c.args.reader.now) is_foreign (is_foreign c.in-Ok.head.items) c.in-Ok.ensures.shown
    (ap is_foreign (sym c.as_slice.ensures.value) ∙ sym c.is_foreign.ensures ∙ c.if-is_foreign.false)
