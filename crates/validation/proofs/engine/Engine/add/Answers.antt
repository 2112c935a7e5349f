use Rattle.std.proofs.Common.{rules, []}
use Rattle.staging.specs.treegrowth.Places.{SplitsOverfull}
use Rattle.staging.specs.View.{Adds}
use Rattle.validation.proofs.EngineAdding.{added_holds}
use Rattle.validation.proofs.engine.Engine.add.Goals as goal

pub returns-clause-holds : goal.returns-clause-holds
returns-clause-holds c =
    let adds : Adds c.args.instant c.args.net c.args.self.now c.apply.new.self = search rules in
    added_holds c.args.instant c.args.net c.args.self.now c.apply.new.self adds

pub returns-clause-splits : goal.returns-clause-splits
returns-clause-splits c =
    let splits : SplitsOverfull c.in_ok-events.events.items [] c.args.self.now.nodes c.apply.new.self.nodes = search rules in
    record { es = c.in_ok-events.events.items; commit = c.in_ok-events.ensures.commit; adds = c.in_ok-events.ensures.adds; splits = splits }
