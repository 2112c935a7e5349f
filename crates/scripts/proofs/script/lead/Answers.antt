use Rattle.std.proofs.Common.{[]}
use Rattle.scripts.proofs.script.lead.Goals as goal

pub returns-in-Ok-take_all-clause-stands : goal.returns-in-Ok-take_all-clause-stands
returns-in-Ok-take_all-clause-stands c = (c.in-Ok-take_all.ensures.all c.args.schema [] c.in-Ok.ensures.empty).1
