use Rattle.std.proofs.Common.{map, ap, ◌∙◌}
use Rattle.serving.proofs.ServeStarting.{same_number, same_tables, served, served_in_part}
use Rattle.serving.proofs.serve.serve_session.Goals as goal

pub returns-clause-closed : goal.returns-clause-closed
returns-clause-closed g c = λ e. served g.C.Readings.may_give c.args.session.now c.serve-end.new.session c.new-account.result c.serve-end.new.account (map (λ r. record { number = r.number; entry = r.entry }) c.into_parts-receipts.result.0.items) c.requires.none c.new-account.ensures.given c.into_parts-receipts.ensures.given c.rollback.new.self.receipt (ap (λ s. s.receipt) c.rollback.ensures.ok) c.into_parts-receipts.result.1 c.into_parts-receipts.ensures.refused (g.I.Read.remaining c.args.reader.now) (g.I.Read.remaining c.serve-end.new.reader) (g.W.Write.contents c.args.writer.now) (g.W.Write.contents c.serve-end.new.writer) (c.serve-end.ensures.closed e)

pub returns-clause-in_part : goal.returns-clause-in_part
returns-clause-in_part g c = λ e. served_in_part g.C.Readings.may_give c.args.session.now c.serve-end.new.session c.new-account.result c.serve-end.new.account (map (λ r. record { number = r.number; entry = r.entry }) c.into_parts-receipts.result.0.items) c.requires.none c.new-account.ensures.given c.into_parts-receipts.ensures.given c.rollback.new.self.receipt (ap (λ s. s.receipt) c.rollback.ensures.ok) c.into_parts-receipts.result.1 c.into_parts-receipts.ensures.refused (g.I.Read.remaining c.args.reader.now) (g.I.Read.remaining c.serve-end.new.reader) (g.W.Write.contents c.args.writer.now) (g.W.Write.contents c.serve-end.new.writer) (c.serve-end.ensures.in_part e)

pub returns-clause-number : goal.returns-clause-number
returns-clause-number g c = ap (λ s. s.number) c.rollback.ensures.ok ∙ same_number g.C.Readings.may_give c.args.session.now c.serve-end.new.session c.new-account.result c.serve-end.new.account c.serve-end.result (g.I.Read.remaining c.args.reader.now) (g.I.Read.remaining c.serve-end.new.reader) (g.W.Write.contents c.args.writer.now) (g.W.Write.contents c.serve-end.new.writer) c.serve-end.ensures.closed c.serve-end.ensures.in_part

pub returns-clause-same_tables : goal.returns-clause-same_tables
returns-clause-same_tables g c = ap (λ s. s.schema) c.rollback.ensures.ok ∙ same_tables g.C.Readings.may_give c.args.session.now c.serve-end.new.session c.new-account.result c.serve-end.new.account c.serve-end.result (g.I.Read.remaining c.args.reader.now) (g.I.Read.remaining c.serve-end.new.reader) (g.W.Write.contents c.args.writer.now) (g.W.Write.contents c.serve-end.new.writer) c.serve-end.ensures.closed c.serve-end.ensures.in_part

pub returns-clause-unserved : goal.returns-clause-unserved
returns-clause-unserved g c = λ e. record {
  takes_nothing = c.into_parts-receipts.ensures.given ∙ (c.serve-end.ensures.unserved e).0 ∙ c.new-account.ensures.given;
  has_not_begun = (c.serve-end.ensures.unserved e).1;
}
