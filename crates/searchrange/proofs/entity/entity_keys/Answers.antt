use Rattle.std.proofs.Common.{rules, ◌≡◌, ap, ◌∙◌}
use Rattle.values.specs.Entity.{entity_of}
use Rattle.values.specs.Fit.{comparisons_fault}
use Rattle.periods.specs.EntityKeys.{equalities}
use Rattle.searchrange.proofs.EntityRanges.{condition_fits}
use Rattle.searchrange.proofs.entity.entity_keys.Goals as goal

pub returns-clause-fits : goal.returns-clause-fits
returns-clause-fits c = λ own.
    let table = c.args.table.now in
    let key = c.args.key.now in
    let are : c.new.result ≡ equalities table.key (entity_of key).parts = search rules in
    ap (comparisons_fault table) are ∙ condition_fits table key own
