use Rattle.std.proofs.Common.{sym, ◌∙◌}
use Rattle.serving.proofs.MigrateIdle.{none_packed, of_none}
use Rattle.serving.proofs.migrate.pack_first.Goals as goal

pub returns-in-None : goal.returns-in-None
returns-in-None g c = none_packed _ c.args.receipt.now.entry c.in-Begin.session c.in-Begin.earlier c.in-Begin.view (sym c.entry.ensures ∙ c.in-Begin.is) (of_none _ _ _ c.in-None.is c.in_ok-find_job.ensures.ok)
