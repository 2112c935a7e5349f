use Rattle.std.proofs.Common.{rules, ◌≡◌, ◌<◌, All, subst, true}
use Rattle.values.specs.declared.query.Comparison.{Comparison}
use Rattle.values.specs.KeyEncodingLaw.{IsStorable}
use Rattle.searchrange.specs.SearchRange.{all_narrow}
use Rattle.searchrange.proofs.NarrowingExact.{is_exact}
use Rattle.searchrange.proofs.narrowing.is_exact.Goals as goal

pub returns-clause-exact : goal.returns-clause-exact
returns-clause-exact c = λ is.
    let table = c.args.table.now in
    let keys = c.args.keys.now in
    let small : table.number < 256 = search rules in
    let stored : All (λ (c : Comparison). IsStorable c.value) keys.comparisons =
    subst (All (λ (c : Comparison). IsStorable c.value)) c.items.ensures c.read_values.ensures in
    let narrow : all_narrow table keys.comparisons ≡ true = search rules in
    is_exact table keys small c.requires.good c.requires.own c.requires.fits stored narrow
