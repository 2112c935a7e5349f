use Rattle.std.proofs.Common.{[], ap, ◌∙◌}
use Rattle.values.specs.Events.{put_net}
use Rattle.staging.proofs.NetEvents.{net_adds, net_commit, net_some, weaker}
use Rattle.staging.proofs.keyed_net.KeyedNet.into_events.Goals as goal

pub returns-clause-adds : goal.returns-clause-adds
returns-clause-adds c =
    weaker c.events_of.result (λ v is. net_adds c.args.instant c.args.self v.items (is ∙ ap (λ n. put_net c.args.instant n []) c.self.view_is)) c.events_of.ensures.ok

pub returns-clause-commit : goal.returns-clause-commit
returns-clause-commit c =
    weaker c.events_of.result (λ v is. net_commit c.args.instant c.args.self v.items (is ∙ ap (λ n. put_net c.args.instant n []) c.self.view_is)) c.events_of.ensures.ok

pub returns-clause-some : goal.returns-clause-some
returns-clause-some c =
    weaker c.events_of.result (λ v is. net_some c.args.instant c.args.self v.items (is ∙ ap (λ n. put_net c.args.instant n []) c.self.view_is)) c.events_of.ensures.ok
