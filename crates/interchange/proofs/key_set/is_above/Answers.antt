use Rattle.std.proofs.Common.{◌∙◌, ap, option_copied, sym}
use Rattle.std.specs.Cmp.Lexicographic.{nat_list_cmp_total}
use Rattle.values.specs.Events.{bytes_cmp}
use Rattle.interchange.proofs.KeySetOrder.{above_last, last_below}
use Rattle.interchange.proofs.key_set.is_above.Goals as goal

pub returns-in-Some : goal.returns-in-Some
returns-in-Some c = λ sorted.
    c.lt.ensures
    ∙ ap (λ l. last_below bytes_cmp l c.args.key.now) (ap option_copied (sym c.in-Some.is) ∙ c.last.ensures.value)
    ∙ above_last nat_list_cmp_total c.args.keys.now c.args.key.now sorted
