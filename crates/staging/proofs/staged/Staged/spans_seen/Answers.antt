use Rattle.std.proofs.Common.{◌≡◌, ap, ◌∙◌, filter, map}
use Rattle.values.specs.Versions.{matches}
use Rattle.values.specs.Period.{span_of}
use Rattle.values.specs.Entity.{entity_of}
use Rattle.periods.specs.EntityKeys.{entity_keys}
use Rattle.staging.specs.Own.{rows_seen}
use Rattle.staging.proofs.OverlapSeen.{overlap_seen}
use Rattle.staging.proofs.StagedTaken.{found_by}
use Rattle.staging.proofs.staged.Staged.spans_seen.Goals as goal

pub returns-clause-ok : goal.returns-clause-ok
returns-clause-ok c = λ schema m reads span.
    let table = c.args.table.now in
    let p = c.args.period.now in
    let condition : c.in_ok-search.search.keys ≡ entity_keys table (entity_of c.args.key.now) = c.in_ok-search.ensures.keys ∙ c.in_ok-keys.ensures.ok in
    let found : c.in_ok-found.found.items ≡ filter (λ e. matches table (entity_keys table (entity_of c.args.key.now)) e.0) (rows_seen m c.args.self.now) =
    found_by c.args.view.now c.args.self.now c.in_ok-found.found.items c.in_ok-search.search.table table c.in_ok-search.search.keys (entity_keys table (entity_of c.args.key.now)) c.in_ok-search.ensures.table condition c.in_ok-found.ensures.ok schema m reads in
    overlap_seen schema table p c.requires.good c.requires.has c.args.key.now c.requires.own span c.args.view.now m c.args.self.now c.in_ok-spans_of.field-0.items reads (c.in_ok-spans_of.ensures ∙ ap (map (λ e. span_of p e.1)) (c.deref.ensures.value ∙ found))
