use Rattle.std.proofs.Common.{sym, ◌∙◌}
use Rattle.searchrange.proofs.OnlyKeyNarrows.{narrow_where_one}
use Rattle.searchrange.proofs.narrowing.all_narrow_with.Goals as goal

pub returns-then-is_some : goal.returns-then-is_some
returns-then-is_some c =
    c.if-is_some.true
    ∙ sym (narrow_where_one c.args.table.now c.args.keys.now c.requires.fits c.args.key c.requires.key (sym c.is_some.ensures ∙ c.if-is_some.true))
