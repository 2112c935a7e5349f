use Rattle.std.proofs.Common.{ap, ◌∙◌, nat_lt}
use Rattle.treewalk.specs.RangeChange.{latest_among}
use Rattle.treewalk.proofs.RangeChangeShown.{of_block_latest}
use Rattle.treewalk.proofs.range_change.change_in_block.Goals as goal

pub returns-clause-ok : goal.returns-clause-ok
returns-clause-ok c =
    let block = c.bytes-bytes.ensures.block in
    let node = c.args.block.now.node in
    c.latest_above.ensures
    ∙ ap (latest_among (λ e. nat_lt c.args.start e.at)) (c.deref.ensures.value ∙ c.in_ok-events.ensures.ok)
    ∙ of_block_latest c.args.range.now c.args.start node.rect node.events block.held.node block.has_block.is_past
