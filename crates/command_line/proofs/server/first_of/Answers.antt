use Rattle.std.proofs.Common.{Some, ap, option_map, refl, subst, sym}
use Rattle.command_line.specs.Server.{IsFirst}
use Rattle.command_line.proofs.server.first_of.Goals as goal

pub returns-in-Ok-clause-ok : goal.returns-in-Ok-clause-ok
returns-in-Ok-clause-ok g c = subst (λ text. IsFirst c.args.schema.now text (Some c.in-Ok.first)) (sym (ap (option_map (λ text. text.now)) c.in-Some.is)) (c.in-Ok.first, refl, c.in-Ok.ensures.ok)
