use Rattle.std.proofs.Common.{rules, ◌≡◌, length, All, sym, subst, ap, ◌∙◌}
use Rattle.values.specs.KeyEncoding.{IsShortKey}
use Rattle.values.specs.Versions.{matches}
use Rattle.values.specs.Events.{IsKeyIn}
use Rattle.values.specs.Writes.{full_rows}
use Rattle.staging.proofs.StagedWide.{full_keys}
use Rattle.staging.specs.Staged.{put_answer}
use Rattle.staging.proofs.StagedEntries.{sorted_from}
use Rattle.staging.proofs.StagedAnswered.{updated_entries, update_done, keys_after, seen_keys}
use Rattle.staging.proofs.StagedTaken.{found_by}
use Rattle.staging.proofs.staged.Staged.update.Goals as goal

pub updates-requires : goal.updates-requires
updates-requires c = record { few = c.args.keys.good.few_columns; fit = c.requires }

pub put-requires : goal.put-requires
put-requires c = subst (All (λ w. IsShortKey w.0)) (sym c.in_ok-changes.ensures.ok) (updated_entries IsShortKey c.args.sets.now (full_rows c.args.keys.table.now c.in_ok-found.found.items) (full_keys IsShortKey c.args.keys.table.now c.in_ok-found.found.items c.in_ok-found.ensures.short))

pub returns-clause-answers : goal.returns-clause-answers
returns-clause-answers c = λ schema m reads ok.
    let count : c.len-count.result ≡ length c.in_ok-found.found.items = search rules in
    update_done c.args.keys.table.now c.args.keys.keys.now c.args.sets.now m c.args.self.now c.put.new.self c.put.result c.in_ok-changes.changes.items c.in_ok-found.found.items (found_by c.args.view.now c.args.self.now c.in_ok-found.found.items c.in_ok-search.search.table c.args.keys.table.now c.in_ok-search.search.keys c.args.keys.keys.now c.in_ok-search.ensures.table c.in_ok-search.ensures.keys c.in_ok-found.ensures.ok schema m reads) c.in_ok-changes.ensures.ok
    (sorted_from c.args.self.now c.put.ensures.ordered) (c.put.ensures.answer ok ∙ ap (λ n. put_answer n c.in_ok-changes.changes.items c.args.self.now) count) c.put.ensures.ok c.put.ensures.err

pub returns-clause-keys : goal.returns-clause-keys
returns-clause-keys c = λ schema m reads.
    keys_after schema c.in_ok-changes.changes.items c.args.self.now c.put.new.self c.put.result c.put.ensures.ok c.put.ensures.err reads.keys
    (subst (All (λ w. IsKeyIn schema w.0)) (sym c.in_ok-changes.ensures.ok)
    (updated_entries (IsKeyIn schema) c.args.sets.now (full_rows c.args.keys.table.now c.in_ok-found.found.items)
    (full_keys (IsKeyIn schema) c.args.keys.table.now c.in_ok-found.found.items
    (subst (All (λ e. IsKeyIn schema e.0)) (sym (found_by c.args.view.now c.args.self.now c.in_ok-found.found.items c.in_ok-search.search.table c.args.keys.table.now c.in_ok-search.search.keys c.args.keys.keys.now c.in_ok-search.ensures.table c.in_ok-search.ensures.keys c.in_ok-found.ensures.ok schema m reads))
    (seen_keys schema c.args.keys.table.now c.args.view.now m c.args.self.now (λ e. matches c.args.keys.table.now c.args.keys.keys.now e.0) reads)))))
