use Rattle.std.proofs.Common.{ap, sym, ◌∙◌, is_none}
use Rattle.std.specs.List.{list_all}
use Rattle.steps.specs.Idle.{is_idle}
use Rattle.histories.specs.Stands.{is_open_at}
use Rattle.interleaving.specs.SystemState.{world}
use Rattle.interleaving.proofs.AlterIdle.{idle_alike_by}
use Rattle.interleaving.proofs.AlterKeeps.{idle_is}
use Rattle.interleaving.proofs.system.System.is_idle.Goals as goal

pub returns : goal.returns
returns c = λ first h stands.
    c.is_idle.ensures
    ∙ ap (list_all is_none) c.deref.ensures.value
    ∙ sym (idle_is c.self.inside.schema c.self.inside.engine c.self.inside.sessions.items c.self.invariant)
    ∙ ap (λ w. is_idle (is_open_at w)) (ap world c.self.view_is)
    ∙ idle_alike_by first (world c.args.self.now) h stands
