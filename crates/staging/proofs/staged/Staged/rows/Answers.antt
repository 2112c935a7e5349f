use Rattle.std.proofs.Common.{◌∙◌, ap, sym, subst, All}
use Rattle.values.specs.KeyEncoding.{IsShortKey}
use Rattle.values.specs.Writes.{full_rows}
use Rattle.staging.proofs.StagedWide.{full_keys}
use Rattle.staging.proofs.staged.Staged.rows.Goals as goal

pub full_rows-requires : goal.full_rows-requires
full_rows-requires c = c.table.ensures.good.few_columns

pub returns-clause-ok : goal.returns-clause-ok
returns-clause-ok c = λ schema m reads.
    c.in_ok-full_rows.ensures.ok
    ∙ ap (λ t. full_rows t c.in_ok-found.found.items) c.table.ensures.table
    ∙ ap (full_rows c.args.search.now.table) (c.in_ok-found.ensures.ok schema m reads)

pub returns-clause-short : goal.returns-clause-short
returns-clause-short c =
    subst (All (λ e. IsShortKey e.0)) (sym c.in_ok-full_rows.ensures.ok)
    (full_keys IsShortKey c.table.result.now c.in_ok-found.found.items c.in_ok-found.ensures.short)
