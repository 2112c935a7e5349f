use Rattle.std.proofs.Common.{rules, ◌≡◌, ◌<◌, sym, subst, ap, ◌∙◌}
use Rattle.std.proofs.lemmas.Result.{IfOk-weaker}
use Rattle.values.specs.Entity.{entity_of}
use Rattle.periods.specs.EntityKeys.{entity_keys}
use Rattle.keyrange.specs.declared.range.KeyRange.{KeyRange}
use Rattle.searchrange.specs.Entity.{IsEntityRange}
use Rattle.searchrange.specs.SearchRange.{search_range, range_of_table, IsWithin}
use Rattle.searchrange.proofs.EntityRanges.{is_entity_range}
use Rattle.searchrange.proofs.NarrowingWithin.{within_table}
use Rattle.searchrange.proofs.entity.entity_range.Goals as goal

pub returns-clause-of : goal.returns-clause-of
returns-clause-of c =
    let table = c.args.table.now in
    let key = c.args.key.now in
    let small : table.number < 256 = search rules in
    let condition : c.in_ok-keys.keys ≡ entity_keys table (entity_of key) = c.in_ok-keys.ensures.ok in
    IfOk-weaker c.range_of_keys.result (λ range. range ≡ search_range table c.in_ok-keys.keys) (IsEntityRange table key)
    (λ range e. subst (IsEntityRange table key) (sym (e ∙ ap (search_range table) condition)) (is_entity_range table key small)) c.range_of_keys.ensures.ok

pub returns-clause-within : goal.returns-clause-within
returns-clause-within c =
    let table = c.args.table.now in
    IfOk-weaker c.range_of_keys.result (λ range. range ≡ search_range table c.in_ok-keys.keys) (λ range. IsWithin range (range_of_table table.number))
    (λ range e. subst (λ (range : KeyRange). IsWithin range (range_of_table table.number)) (sym e) (within_table table c.in_ok-keys.keys)) c.range_of_keys.ensures.ok
