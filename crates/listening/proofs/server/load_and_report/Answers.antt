use Rattle.std.proofs.Common.{List, ap, length, map, refl, subst}
use Rattle.statement.specs.Writer.{AppendsPrefix}
use Rattle.interchange.specs.Report.{loaded_text}
use Rattle.serving.specs.Progress.{Given}
use Rattle.listening.specs.Loading.{IsLoadedAt}
use Rattle.listening.proofs.server.load_and_report.Goals as goal

pub returns-in-Err-report_loaded-clause-err : goal.returns-in-Err-report_loaded-clause-err
returns-in-Err-report_loaded-clause-err g c =
    let given : List Given = map (λ r. record { number = r.number; entry = r.entry }) c.in-Ok.loaded.receipts.items in
    record {
      rows = c.args.first.now;
      first_is = refl;
      receipts = given;
      instant = c.in-Ok.loaded.instant;
      loaded = subst (λ rows. IsLoadedAt g.J.StoreName.origin.schema c.args.first.now.number rows given c.in-Ok.loaded.instant) c.as_slice-rows.ensures.value c.in-Ok.ensures.ok;
      wrote = subst (AppendsPrefix (g.O.Write.contents c.args.out.now) (g.O.Write.contents c.report_loaded.new.out))
          (ap (λ rows. loaded_text (length rows) c.in-Ok.loaded.instant) c.as_slice-rows.ensures.value)
          c.in-Err-report_loaded.ensures;
    }
