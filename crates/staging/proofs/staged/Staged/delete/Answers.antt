use Rattle.std.proofs.Common.{rules, ◌≡◌, length, All, sym, subst, ap, ◌∙◌}
use Rattle.values.specs.KeyEncoding.{IsShortKey}
use Rattle.values.specs.Versions.{matches}
use Rattle.values.specs.Events.{IsKeyIn}
use Rattle.staging.specs.Staged.{put_answer}
use Rattle.staging.proofs.StagedEntries.{sorted_from}
use Rattle.staging.proofs.StagedAnswered.{deleted_entries, delete_done, keys_after, seen_keys}
use Rattle.staging.proofs.StagedTaken.{found_by}
use Rattle.staging.proofs.staged.Staged.delete.Goals as goal

pub put-requires : goal.put-requires
put-requires c = subst (All (λ w. IsShortKey w.0)) (sym c.in_ok-changes.ensures) (deleted_entries IsShortKey c.in_ok-found.found.items c.in_ok-found.ensures.short)

pub returns-clause-answers : goal.returns-clause-answers
returns-clause-answers c = λ schema m reads ok.
    let count : c.len-count.result ≡ length c.in_ok-found.found.items = search rules in
    delete_done c.args.keys.table.now c.args.keys.keys.now m c.args.self.now c.put.new.self c.put.result c.in_ok-changes.changes.items c.in_ok-found.found.items (found_by c.args.view.now c.args.self.now c.in_ok-found.found.items c.in_ok-search.search.table c.args.keys.table.now c.in_ok-search.search.keys c.args.keys.keys.now c.in_ok-search.ensures.table c.in_ok-search.ensures.keys c.in_ok-found.ensures.ok schema m reads) c.in_ok-changes.ensures
    (sorted_from c.args.self.now c.put.ensures.ordered) (c.put.ensures.answer ok ∙ ap (λ n. put_answer n c.in_ok-changes.changes.items c.args.self.now) count) c.put.ensures.ok c.put.ensures.err

pub returns-clause-keys : goal.returns-clause-keys
returns-clause-keys c = λ schema m reads.
    keys_after schema c.in_ok-changes.changes.items c.args.self.now c.put.new.self c.put.result c.put.ensures.ok c.put.ensures.err reads.keys
    (subst (All (λ w. IsKeyIn schema w.0)) (sym c.in_ok-changes.ensures)
    (deleted_entries (IsKeyIn schema) c.in_ok-found.found.items
    (subst (All (λ e. IsKeyIn schema e.0)) (sym (found_by c.args.view.now c.args.self.now c.in_ok-found.found.items c.in_ok-search.search.table c.args.keys.table.now c.in_ok-search.search.keys c.args.keys.keys.now c.in_ok-search.ensures.table c.in_ok-search.ensures.keys c.in_ok-found.ensures.ok schema m reads))
    (seen_keys schema c.args.keys.table.now c.args.view.now m c.args.self.now (λ e. matches c.args.keys.table.now c.args.keys.keys.now e.0) reads))))
