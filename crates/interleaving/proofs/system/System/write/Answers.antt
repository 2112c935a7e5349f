use Rattle.std.proofs.Common.{◌≤◌, ap, ◌∙◌, sym, subst}
use Rattle.values.specs.Tables.{table_at}
use Rattle.values.specs.TableRules.{IsTable}
use Rattle.values.specs.Fitting.{table_of}
use Rattle.steps.specs.Reply.{written_reply}
use Rattle.steps.specs.Misfit.{max_session}
use Rattle.steps.specs.StepOf.{step_of}
use Rattle.histories.proofs.HistoryIdle.{fits_table}
use Rattle.histories.proofs.TurnWritten.{turn_is}
use Rattle.steps.proofs.WriteStep.{misfit_is}
use Rattle.interleaving.specs.SystemState.{world}
use Rattle.interleaving.proofs.SystemWritten.{written_turn, found, none_turn}
use Rattle.interleaving.proofs.system.System.write.Goals as goal
use Rattle.interleaving.proofs.system.System.write.Goals.{in-Ok, in-Err}

pub returns-in_default-clause-answered : goal.returns-in_default-clause-answered
returns-in_default-clause-answered c = λ _.
    let small : c.args.session ≤ max_session = (fits_table _ c.args.session (table_of c.args.write) _ (sym (misfit_is _ c.args.session c.args.write) ∙ c.requires)).0 in
    none_turn c.self.inside.schema c.self.inside.engine c.self.inside.sessions.items (world c.args.self.now) c.args.session (step_of c.args.session c.args.write) c.index_mut.result.now (ap world c.self.view_is) c.self.invariant small c.index_mut.ensures.value c.in_default.is
    ∙ sym (turn_is (world c.args.self.now) c.args.session c.args.write)

pub returns-clause-answered : goal.returns-clause-answered
returns-clause-answered c =
    let small : c.args.session ≤ max_session = (fits_table _ c.args.session (table_of c.args.write) _ (sym (misfit_is _ c.args.session c.args.write) ∙ c.requires)).0 in
    let opened = found c.self.inside.schema c.self.inside.engine c.self.inside.sessions.items c.args.session c.index_mut.result.now c.in-Some.transaction c.self.invariant small c.index_mut.ensures.value c.in-Some.is in
    written_turn c.self.inside.schema c.self.inside.engine c.self.inside.sessions.items (world c.args.self.now) c.args.session c.in-Some.transaction c.write.new.self c.in-Some-table_at.table.now (ap world c.self.view_is) opened c.write.ensures.view
    c.args.write c.write.result c.match-write.result (c.in-Some-table_at.ensures.is ∙ ap (table_at c.self.inside.schema) c.table.ensures) (subst (λ n. IsTable n c.in-Some-table_at.table.now) c.table.ensures c.in-Some-table_at.ensures.good) c.write.ensures.answers
    (elim c.match-write.branch [ in-Ok w ↦ w.result-is ∙ w.of_write.ensures c.args.session ∙ sym (ap (written_reply (step_of c.args.session c.args.write)) w.in-Ok.is) | in-Err w ↦ w.result-is ∙ sym (ap (written_reply (step_of c.args.session c.args.write)) w.in-Err.is) ])
