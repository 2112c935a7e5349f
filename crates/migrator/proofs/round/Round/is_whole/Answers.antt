use Rattle.std.proofs.Common.{◌≡◌, Option, ap, arith, length, subst, sym, ◌∙◌}
use Rattle.std.proofs.lemmas.Bool.Decides.{nat_tests}
use Rattle.std.specs.Prelude.{MatchOption}
use Rattle.datanode.specs.Node.{Node}
use Rattle.migrator.specs.Round.{IsOver, IsUnderWay}
use Rattle.migrator.proofs.RoundSteps.{finishes}
use Rattle.migrator.proofs.round.Round.is_whole.Goals as goal

pub returns : goal.returns
returns g c = λ h.
    let none : c.len.result ≡ 0 = grind (arith, nat_tests) in
    finishes g.N.RoundName.begin g.N.RoundName.shown _ (subst (IsUnderWay g.N.RoundName.begin g.N.RoundName.shown) c.self.view_is c.self.invariant)
    (ap (λ r. length r.asked) (sym c.self.view_is) ∙ sym c.len.ensures ∙ none)
    (λ _. subst (λ (found : Option Node). MatchOption found (IsOver g.N.RoundName.shown c.next.new.self.after) (λ _. Unit {0})) c.in-None.is c.in_ok-next.ensures)
