use Rattle.std.proofs.Common.{◌∙◌, ap}
use Rattle.histories.proofs.HistoryIdle.{fits_table}
use Rattle.interleaving.specs.SystemState.{world}
use Rattle.interleaving.proofs.SystemListed.{shows_in, shows_now}
use Rattle.interleaving.proofs.system.System.select.Goals as goal
use Rattle.interleaving.proofs.system.System.select.Goals.{in-Some-index+in_ok-listing-in-Some-index, in-None+in_ok-listing-in-None}

pub returns-clause-ok : goal.returns-clause-ok
returns-clause-ok c =
    elim c.match-index.branch [
      | in-Some-index+in_ok-listing-in-Some-index w ↦
          shows_in c.self.inside.schema c.self.inside.engine c.self.inside.sessions.items (world c.args.self.now) c.args.session c.in-Some.table.now c.args.form c.args.keys.now (ap world c.self.view_is) c.in-Some.ensures.is c.in-Some.ensures.good
          c.index.result.now w.in-Some-index.transaction c.match-index.listing c.self.invariant (fits_table _ c.args.session c.args.keys.now.table _ c.requires).0 c.index.ensures w.in-Some-index.is
          (λ schema m reads. w.listing-is ∙ w.in_ok-listing-in-Some-index.ensures.ok schema m reads)
      | in-None+in_ok-listing-in-None w ↦
          shows_now c.self.inside.schema c.self.inside.engine c.self.inside.sessions.items (world c.args.self.now) c.args.session c.in-Some.table.now c.args.form c.args.keys.now (ap world c.self.view_is) c.in-Some.ensures.is c.in-Some.ensures.good
          c.index.result.now w.current-view.result.now c.match-index.listing c.self.invariant (fits_table _ c.args.session c.args.keys.now.table _ c.requires).0 c.index.ensures w.in-None.is (w.current-view.ensures.is ∙ w.tree.ensures.is)
          (λ schema m holds there same. w.listing-is ∙ w.in_ok-listing-in-None.ensures.ok schema m holds there same)
    ]
