use Rattle.std.proofs.Common.{◌∙◌, Some, ap, subst}
use Rattle.std.specs.Fmt.{option_append}
use Rattle.std.specs.Prelude.{IfOk}
use Rattle.listening.specs.Request.{has_line, is_foreign}
use Rattle.listening.proofs.ClientServed.{broken_off, handed, turned_away, unasked, whole}
use Rattle.listening.proofs.client.serve_lines.Goals as goal

pub returns-clause-closed : goal.returns-clause-closed
returns-clause-closed g c =
    handed c.begun_session.result c.serve_session-served.result _ c.begun_session.ensures.ok
    (λ is. whole g.C.Readings.may_give g.J.StoreName.origin.schema c.args.number _ c.in-Ok-session.session _ _ (g.I.Read.remaining c.args.reader) (g.I.Read.remaining c.read_first.new.reader) _ _ _ _ c.in-Ok.first.items c.in-Ok-session.ensures.ok c.in-Ok.ensures.took
    (c.chain-whole.ensures.bytes ∙ ap (λ bytes. option_append (Some bytes) (g.I.Read.remaining c.read_first.new.reader)) c.as_slice.ensures.value)
    (c.serve_session-served.ensures.closed is))

pub returns-clause-in_part : goal.returns-clause-in_part
returns-clause-in_part g c =
    handed c.begun_session.result c.serve_session-served.result _ c.begun_session.ensures.ok
    (λ other. broken_off g.C.Readings.may_give g.J.StoreName.origin.schema c.args.number _ c.in-Ok-session.session _ _ (g.I.Read.remaining c.args.reader) (g.I.Read.remaining c.read_first.new.reader) _ _ _ _ c.in-Ok.first.items c.in-Ok-session.ensures.ok c.in-Ok.ensures.took
    (c.chain-whole.ensures.bytes ∙ ap (λ bytes. option_append (Some bytes) (g.I.Read.remaining c.read_first.new.reader)) c.as_slice.ensures.value)
    (c.serve_session-served.ensures.in_part other))

pub returns-clause-foreign : goal.returns-clause-foreign
returns-clause-foreign g c =
    turned_away (g.I.Read.remaining c.args.reader) is_foreign c.read_first.ensures.foreign
    (λ away. absurd (subst (λ r. IfOk r (λ _. ⊥)) c.in-Ok.is away))

pub returns-clause-no_line : goal.returns-clause-no_line
returns-clause-no_line g c = λ awaits.
    unasked (g.I.Read.remaining c.args.reader) has_line (c.read_first.ensures.line awaits)
    (λ away. absurd (subst (λ r. IfOk r (λ _. ⊥)) c.in-Ok.is away))

pub returns-in_default-clause-foreign : goal.returns-in_default-clause-foreign
returns-in_default-clause-foreign g c =
    turned_away (g.I.Read.remaining c.args.reader) is_foreign c.read_first.ensures.foreign
    (λ away. absurd (subst (λ r. IfOk r (λ _. ⊥)) c.in-Ok.is away))

pub returns-in_default-clause-no_line : goal.returns-in_default-clause-no_line
returns-in_default-clause-no_line g c = λ awaits.
    unasked (g.I.Read.remaining c.args.reader) has_line (c.read_first.ensures.line awaits)
    (λ away. absurd (subst (λ r. IfOk r (λ _. ⊥)) c.in-Ok.is away))
