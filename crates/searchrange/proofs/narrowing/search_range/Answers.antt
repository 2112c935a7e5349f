use Rattle.std.proofs.Common.{rules, ◌≡◌, ◌<◌, All, sym, subst}
use Rattle.std.proofs.lemmas.Result.{IfOk-weaker}
use Rattle.values.specs.declared.query.Comparison.{Comparison}
use Rattle.values.specs.KeyEncodingLaw.{IsStorable}
use Rattle.keyrange.specs.declared.range.KeyRange.{KeyRange}
use Rattle.searchrange.specs.SearchRange.{search_range, range_of_table, Covers, IsWithin}
use Rattle.searchrange.proofs.NarrowingCovers.{covers}
use Rattle.searchrange.proofs.NarrowingWithin.{within_table}
use Rattle.searchrange.proofs.narrowing.search_range.Goals as goal

pub returns-clause-covers : goal.returns-clause-covers
returns-clause-covers c =
    let small : c.args.table.now.number < 256 = search rules in
    let stored : All (λ (c : Comparison). IsStorable c.value) c.args.keys.now.comparisons =
    subst (All (λ (c : Comparison). IsStorable c.value)) c.items.ensures c.read_values.ensures in
    IfOk-weaker c.range_of_keys.result (λ range. range ≡ search_range c.args.table.now c.args.keys.now) (Covers c.args.table.now c.args.keys.now)
    (λ range e. subst (Covers c.args.table.now c.args.keys.now) (sym e) (covers c.args.table.now c.args.keys.now small c.requires.fits stored)) c.range_of_keys.ensures.ok

pub returns-clause-within : goal.returns-clause-within
returns-clause-within c =
    IfOk-weaker c.range_of_keys.result (λ range. range ≡ search_range c.args.table.now c.args.keys.now) (λ range. IsWithin range (range_of_table c.args.table.now.number))
    (λ range e. subst (λ (range : KeyRange). IsWithin range (range_of_table c.args.table.now.number)) (sym e) (within_table c.args.table.now c.args.keys.now)) c.range_of_keys.ensures.ok
