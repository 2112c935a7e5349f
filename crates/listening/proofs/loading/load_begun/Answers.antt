use Rattle.std.proofs.Common.{◌++◌, ◌∷◌, [], ◌∙◌, ap, map}
use Rattle.serving.specs.Progress.{Given}
use Rattle.listening.proofs.LoadingCalls.{if_err, if_ok, loads_by, insert_refused, unended_unloaded}
use Rattle.listening.proofs.loading.load_begun.Goals as goal

pub returns-in-Ok-clause-ok : goal.returns-in-Ok-clause-ok
returns-in-Ok-clause-ok g c =
    if_ok c.commit_begun.result _ _ (λ l. loads_by g.J.StoreName.origin.schema c.args.table c.args.rows.now c.args.session.now c.write.new.self c.args.begun.number c.in-Ok.field-0 c.args.begun.entry _ l.instant c.requires.begun c.in-Ok.ensures.answers c.in-Ok.ensures.rest)
    c.commit_begun.ensures.ok

pub returns-in-Ok-clause-err : goal.returns-in-Ok-clause-err
returns-in-Ok-clause-err g c =
    if_err c.commit_begun.result _ _ (λ u. unended_unloaded g.J.StoreName.origin.schema c.args.table c.args.rows.now c.args.session.now c.args.begun.number c.args.begun.entry u.refusal _ c.requires.begun)
    c.commit_begun.ensures.err

pub returns-in-Err-clause-err : goal.returns-in-Err-clause-err
returns-in-Err-clause-err g c =
    insert_refused g.J.StoreName.origin.schema c.args.table c.args.rows.now c.args.session.now c.write.new.self c.args.begun.number c.args.begun.entry c.in-Err.refusal _ c.requires.begun c.in-Err.ensures.answers
    (ap (map {B = Given} (λ r. record { number = r.number; entry = r.entry })) (c.push_reserved.ensures.items ∙ ap (λ rs. rs ++ c.args.begun ∷ []) c.requires.none))
