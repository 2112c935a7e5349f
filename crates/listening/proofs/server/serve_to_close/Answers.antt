use Rattle.std.proofs.Common.{◌∙◌}
use Rattle.std.specs.Prelude.{◌≡◌, Some}
use Rattle.std.proofs.lemmas.List.Elements.{All-map}
use Rattle.sessions.specs.journal.Entries.{entry_at}
use Rattle.serving.specs.Progress.{Given}
use Rattle.listening.proofs.server.serve_to_close.Goals as goal

pub returns-in-Ok-listen-clause-ok : goal.returns-in-Ok-listen-clause-ok
returns-in-Ok-listen-clause-ok g c = (
  (c.from.result, (λ some. c.from.ensures ∙ c.in-Ok.ensures some), c.in-Ok-report.ensures.ok),
  record {
    is_book = c.in-Ok-listen.ensures.book;
    stand = All-map (λ (g : Given). entry_at c.in-Ok-listen.closed.entries g.number ≡ Some g.entry) (λ r. record { number = r.number; entry = r.entry }) c.args.receipts.items c.in-Ok-listen.ensures.stand;
  },
)
