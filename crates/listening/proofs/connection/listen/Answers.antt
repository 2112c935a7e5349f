use Rattle.std.proofs.Common.{◌≡◌, ◌++◌, ◌∙◌, true, not, map, ap, sym, subst, if◌then◌else◌}
use Rattle.std.specs.Prelude.{All, Some}
use Rattle.std.specs.Result.{is_ok}
use Rattle.sessions.specs.journal.Entries.{entry_at}
use Rattle.serving.specs.Progress.{Given}
use Rattle.listening.proofs.ConnectionPrefixes.{all_front}
use Rattle.listening.proofs.ConnectionRun.{confirmed, each_one, of_receipts}
use Rattle.listening.proofs.PileParts.{both}
use Rattle.listening.proofs.connection.listen.Goals as goal

pub returns-in-Ok-close-clause-book : goal.returns-in-Ok-close-clause-book
returns-in-Ok-close-clause-book g c = confirmed c.confirm.result c.in-Ok-close.closed _ _ c.confirm.ensures.same c.confirm.ensures.full (λ full. c.in-Ok-close.ensures.book)

-- room for more receipts leaves those that are there
pub returns-in-Ok-close-clause-stand : goal.returns-in-Ok-close-clause-stand
returns-in-Ok-close-clause-stand g c =
    confirmed c.confirm.result c.in-Ok-close.closed _ _ c.confirm.ensures.same c.confirm.ensures.full (λ full.
    subst (All (λ r. entry_at c.in-Ok-close.closed.entries r.number ≡ Some r.entry)) c.reserve.ensures.items
    (all_front (λ r. entry_at c.in-Ok-close.closed.entries r.number ≡ Some r.entry) _ c.reserve.new.self.items _ _ c.append.ensures.items c.in-Ok-close.ensures.stand))

-- those that were handed over stand behind those of before
pub returns-in-Ok-close-clause-run : goal.returns-in-Ok-close-clause-run
returns-in-Ok-close-clause-run g c =
    confirmed c.confirm.result c.in-Ok-close.closed _ _ c.confirm.ensures.same c.confirm.ensures.full (λ full table rows loaded.
    let later = c.into_receipts-others.result.0.items in
    let well : is_ok c.append.result ≡ true = c.is_err-else-is_err-2.ensures.negation ∙ ap not c.if-is_err-3.false in
    let are : c.append.new.self.items ≡ c.args.before.items ++ later =
    c.append.ensures.items ∙ (λ k. if well k then c.reserve.new.self.items ++ later else c.reserve.new.self.items) ∙ ap (λ rs. rs ++ later) c.reserve.ensures.items in
    let run = both c.into_inner.result.is_run _ (sym c.into_receipts-others.ensures.run ∙ c.if-not-is_run.false) in
    of_receipts g.J.StoreName.origin c.in-Ok-close.closed c.args.limit table rows
    (map {B = Given} (λ r. record { number = r.number; entry = r.entry }) c.args.before.items) c.into_inner.result
    (λ r. record { number = r.number; entry = r.entry }) c.append.new.self.items c.args.before.items later are (λ k. map {B = Given} (λ r. record { number = r.number; entry = r.entry }) c.args.before.items) (sym c.into_receipts-others.ensures.given)
    c.in-Ok-close.ensures.book loaded (c.into_receipts-others.ensures.parts run.0) (λ e. full (c.into_receipts-others.ensures.full ∙ e) ∙ c.most_entries-most_entries.ensures) run.1 c.in-Ok-close.ensures.stand c.in-Ok-close.ensures.once)

pub returns-in-Ok-close-clause-history : goal.returns-in-Ok-close-clause-history
returns-in-Ok-close-clause-history g c =
    each_one c.served_runs_are_histories.ensures.histories g.J.StoreName.origin c.args.limit
    (map {B = Given} (λ r. record { number = r.number; entry = r.entry }) c.args.before.items) c.confirm.result (returns-in-Ok-close-clause-run g c)
