use Rattle.std.proofs.Common.{Option, ap, length, subst, sym, ◌∙◌}
use Rattle.std.specs.Prelude.{MatchOption}
use Rattle.datanode.specs.Node.{Node}
use Rattle.migrator.specs.Round.{IsOver, IsUnderWay}
use Rattle.migrator.proofs.RoundSteps.{finishes}
use Rattle.migrator.proofs.round.Round.pack_next.Goals as goal

pub returns-then-len-eq0 : goal.returns-then-len-eq0
returns-then-len-eq0 g c = λ _.
    finishes g.N.RoundName.begin g.N.RoundName.shown _ (subst (IsUnderWay g.N.RoundName.begin g.N.RoundName.shown) c.self.view_is c.self.invariant)
    (ap (λ r. length r.asked) (sym c.self.view_is) ∙ sym c.len.ensures ∙ c.if-len-eq0.true)
    (λ _. subst (λ (found : Option Node). MatchOption found (IsOver g.N.RoundName.shown c.next.new.self.after) (λ _. Unit {0})) c.in_default.is c.in_ok-task.ensures)
