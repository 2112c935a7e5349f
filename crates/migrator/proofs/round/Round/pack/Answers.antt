use Rattle.std.proofs.Common.{ap, length, subst, sym, ◌∙◌}
use Rattle.migrator.specs.Round.{IsUnderWay}
use Rattle.migrator.proofs.RoundSteps.{finishes}
use Rattle.migrator.proofs.round.Round.pack.Goals as goal

pub returns-then-len-eq0 : goal.returns-then-len-eq0
returns-then-len-eq0 g c =
    finishes g.N.RoundName.begin g.N.RoundName.shown _ (subst (IsUnderWay g.N.RoundName.begin g.N.RoundName.shown) c.self.view_is c.self.invariant)
    (ap (λ r. length r.asked) (sym c.self.view_is) ∙ sym c.len.ensures ∙ c.if-len-eq0.true) (c.in_ok-ask_within.ensures c.if-branch.false)
