use Rattle.std.proofs.Common.{◌≡◌, length, ap, ◌∙◌, rules}
use Rattle.datanode.specs.Cut.{in_cut, cut}
use Rattle.blocks.proofs.GatherSteps.{all_if_long}
use Rattle.blocks.proofs.gather.node_in.Goals as goal

pub returns-then-events-len-clause-some : goal.returns-then-events-len-clause-some
returns-then-events-len-clause-some c =
    let r = c.args.rect in
    let es = c.args.node.now.events in
    let is : c.in_ok-part.part ≡ record { rect = r; events = cut r es } = search rules in
    let long : length (cut r es) ≡ length es = search rules in
    is ∙ ap (λ l. record { rect = r; events = l }) (all_if_long (in_cut r es) es long)
