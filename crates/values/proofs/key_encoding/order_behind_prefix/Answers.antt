use Rattle.std.proofs.Common.{◌≤◌, length, min, ap₂, ◌∙◌, arith}
use Rattle.values.proofs.KeyOrder.{bytes_cmp}
use Rattle.values.proofs.KeyPrefixOrder.{lengths_decide, rests_decide}
use Rattle.values.proofs.key_encoding.order_behind_prefix.Goals as goal

pub returns-then-min-le-PREFIX : goal.returns-then-min-le-PREFIX
returns-then-min-le-PREFIX c =
    let few : min (length c.args.bytes.now) (length c.args.others.now) ≤ 16 = omega arith in
    λ p f g. c.cmp.ensures ∙ lengths_decide p c.args.bytes.now c.args.others.now f g few

pub returns : goal.returns
returns c =
    let more : 16 ≤ length c.args.bytes.now = omega arith in
    let more_others : 16 ≤ length c.args.others.now = omega arith in
    λ p f g. c.cmp-2.ensures ∙ ap₂ bytes_cmp c.split_at.ensures.back c.split_at-2.ensures.back ∙ rests_decide p c.args.bytes.now c.args.others.now f g more more_others
