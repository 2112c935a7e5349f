use Rattle.std.proofs.Common.{rules, ◌≡◌, None, Some, true, All}
use Rattle.values.specs.Fit.{key_fault}
use Rattle.values.specs.RowEncoding.{IsHeld}
use Rattle.values.specs.Versions.{matches}
use Rattle.searchrange.specs.OnlyKey.{equal_parts, with_parts}
use Rattle.searchrange.proofs.OnlyKeyTaken.{is_only}
use Rattle.searchrange.proofs.only_key.only_key.Goals as goal

pub returns-then-matches-clause-only : goal.returns-then-matches-clause-only
returns-then-matches-clause-only c =
    let table = c.args.table.now in
    let keys = c.args.keys.now in
    let parts = c.new.result in
    let are : equal_parts table keys.comparisons 0 table.key ≡ Some parts = search rules in
    let fits : key_fault table parts ≡ None = search rules in
    let met : matches table keys (with_parts table parts) ≡ true = search rules in
    let held : All IsHeld parts = search rules in
    is_only table keys parts are fits met held
