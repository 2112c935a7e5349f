use Rattle.keyrange.proofs.RectInside.{inside_outer, halves_inside, now_inside}
use Rattle.tree_tests.proofs.datanode_tests.area_between.Goals as goal

pub returns : goal.returns
returns g c =
    let low = c.key_halves-below.result in
    let high = c.key_halves-between.result in
    let times = c.time_halves-past.result in
    inside_outer times.1 high.0 c.args.area.now
    (now_inside high.0 times.0 times.1 c.args.from c.time_halves-past.ensures)
    (inside_outer high.0 low.1 c.args.area.now (halves_inside low.1 high.0 high.1 c.key_halves-between.ensures).0 (halves_inside c.args.area.now low.0 low.1 c.key_halves-below.ensures).1)
