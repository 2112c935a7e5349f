use Rattle.std.proofs.Common.{◌≡◌, ◌≤◌, ◌++◌, length, filter, All, sym, ap, subst, ◌∙◌}
use Rattle.std.specs.Option.{option_map}
use Rattle.std.proofs.lemmas.List.Elements.{All-weaker}
use Rattle.std.specs.List.{flat_map}
use Rattle.values.specs.KeyEncoding.{IsShortKey}
use Rattle.values.specs.KeyReading.{IsKeyOf}
use Rattle.values.specs.Events.{IsKeyIn}
use Rattle.values.specs.Versions.{matches}
use Rattle.values.specs.Portion.{pieces}
use Rattle.staging.specs.Own.{rows_seen}
use Rattle.staging.specs.Staged.{deletions, puts, overlap_rows}
use Rattle.staging.proofs.StagedEntries.{sorted_from}
use Rattle.staging.proofs.StagedAnswered.{keys_after}
use Rattle.staging.proofs.StagedTaken.{found_by}
use Rattle.staging.proofs.StagedWide.{all_full_wide}
use Rattle.staging.proofs.ViewBridge.{key_in}
use Rattle.staging.proofs.PortionDone.{portion_done, taken_own, taken_short}
use Rattle.staging.proofs.staged.Staged.change_portion.Goals as goal

pub invariant_of-portion : goal.invariant_of-portion
invariant_of-portion c = record { has = c.args.keys.good.own_period c.in-Some.period c.in-Some.is; few = c.args.keys.good.few_columns; fits = c.requires }

pub changes-requires : goal.changes-requires
changes-requires c =
    let table = c.args.keys.table.now in
    subst (All (λ e. length table.columns ≤ length e.1)) (sym (c.deref.ensures.value ∙ c.in_ok-taken.ensures.ok)) (all_full_wide table (overlap_rows c.in-Some.period c.args.span c.in_ok-found.found.items))

pub put-requires : goal.put-requires
put-requires c =
    c.in_ok-changes.ensures.keys.short
    (subst (All (λ e. IsShortKey e.0)) (sym (c.deref.ensures.value ∙ c.in_ok-taken.ensures.ok)) (taken_short c.args.keys.table.now c.in-Some.period c.args.span c.in_ok-found.found.items c.in_ok-found.ensures.short))

pub returns-clause-answers : goal.returns-clause-answers
returns-clause-answers c = λ schema m reads ok.
    let table = c.args.keys.table.now in
    let keys = c.args.keys.keys.now in
    let p = c.in-Some.period in
    let sets = option_map (λ s. s.now) c.args.sets in
    let es = c.in_ok-taken.taken.items in
    let w = c.args.self.now in
    portion_done table p keys c.args.span sets m w c.put.new.self c.put.result c.in_ok-changes.changes.items c.len.result c.in_ok-found.found.items es c.in-Some.is
    (found_by c.args.view.now w c.in_ok-found.found.items c.in_ok-search.search.table table c.in_ok-search.search.keys keys c.in_ok-search.ensures.table c.in_ok-search.ensures.keys c.in_ok-found.ensures.ok schema m reads)
    c.in_ok-taken.ensures.ok
    (c.in_ok-changes.ensures.ok ∙ ap (λ es. deletions es ++ puts (flat_map (pieces p c.args.span sets) es)) c.deref.ensures.value)
    (c.len.ensures ∙ sym c.deref.ensures.len ∙ ap length c.deref.ensures.value)
    (sorted_from w c.put.ensures.ordered) (c.put.ensures.answer ok) c.put.ensures.ok c.put.ensures.err

pub returns-clause-keys : goal.returns-clause-keys
returns-clause-keys c = λ schema m reads.
    let table = c.args.keys.table.now in
    let keys = c.args.keys.keys.now in
    let w = c.args.self.now in
    let cs = c.in_ok-changes.changes.items in
    let found : c.in_ok-found.found.items ≡ filter (λ e. matches table keys e.0) (rows_seen m w) =
    found_by c.args.view.now w c.in_ok-found.found.items c.in_ok-search.search.table table c.in_ok-search.search.keys keys c.in_ok-search.ensures.table c.in_ok-search.ensures.keys c.in_ok-found.ensures.ok schema m reads in
    let own : All (λ e. IsKeyOf table e.0) c.deref.result.now =
    subst (All (λ e. IsKeyOf table e.0)) (sym (c.deref.ensures.value ∙ c.in_ok-taken.ensures.ok)) (taken_own schema table c.in-Some.period c.args.span keys c.args.view.now m w c.in_ok-found.found.items reads c.args.keys.own found) in
    keys_after schema cs w c.put.new.self c.put.result c.put.ensures.ok c.put.ensures.err reads.keys
    (All-weaker (λ c. IsKeyOf table c.0) (λ c. IsKeyIn schema c.0) (λ c is. key_in schema table c.0 reads.is_table is) cs (c.in_ok-changes.ensures.keys.own own))
