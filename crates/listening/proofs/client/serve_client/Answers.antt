use Rattle.std.proofs.Common.{subst}
use Rattle.std.specs.Prelude.{◌≢◌, IfErr, IfOk}
use Rattle.listening.specs.declared.client.Unserved.TheVariants.{Memory}
use Rattle.listening.specs.Request.{has_line, is_foreign}
use Rattle.listening.proofs.ClientServed.{turned_away, unasked}
use Rattle.listening.proofs.client.serve_client.Goals as goal

pub returns-in-Ok-clause-foreign : goal.returns-in-Ok-clause-foreign
returns-in-Ok-clause-foreign g c =
    turned_away (g.I.Read.remaining c.args.reader) is_foreign c.serve_lines.ensures.foreign
    (λ away. absurd (subst (λ r. IfOk r (λ _. ⊥)) c.in-Ok.is away.0))

pub returns-in-Ok-clause-no_line : goal.returns-in-Ok-clause-no_line
returns-in-Ok-clause-no_line g c = λ awaits.
    unasked (g.I.Read.remaining c.args.reader) has_line (c.serve_lines.ensures.no_line awaits)
    (λ away. absurd (subst (λ r. IfOk r (λ _. ⊥)) c.in-Ok.is away.0))

pub returns-in-Err-Memory-clause-foreign : goal.returns-in-Err-Memory-clause-foreign
returns-in-Err-Memory-clause-foreign g c =
    turned_away (g.I.Read.remaining c.args.reader) is_foreign c.serve_lines.ensures.foreign
    (λ away. absurd (subst (λ r. IfErr r (λ why. why ≢ Memory)) c.in-Err-Memory.is away.1 c.in-Err-Memory.field-0-is))

pub returns-in-Err-Memory-clause-no_line : goal.returns-in-Err-Memory-clause-no_line
returns-in-Err-Memory-clause-no_line g c = λ awaits.
    unasked (g.I.Read.remaining c.args.reader) has_line (c.serve_lines.ensures.no_line awaits)
    (λ away. absurd (subst (λ r. IfErr r (λ why. why ≢ Memory)) c.in-Err-Memory.is away.1 c.in-Err-Memory.field-0-is))
