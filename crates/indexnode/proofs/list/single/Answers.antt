use Rattle.std.proofs.Common.{◌++◌, ◌∷◌, [], ap, ◌∙◌}
use Rattle.indexnode.proofs.SplitMeeting.{one_meets}
use Rattle.indexnode.proofs.ListPairs.{one_tiles, one_inside}
use Rattle.indexnode.proofs.list.single.Goals as goal

pub returns-clause-tiles : goal.returns-clause-tiles
returns-clause-tiles g c = one_tiles c.args.reference c.push.new.self.items (c.in_ok-push.ensures.items ∙ ap (λ l. l ++ c.args.reference ∷ []) c.new-references.ensures.items)

pub returns-clause-inside : goal.returns-clause-inside
returns-clause-inside g c = one_inside c.args.reference c.push.new.self.items (c.in_ok-push.ensures.items ∙ ap (λ l. l ++ c.args.reference ∷ []) c.new-references.ensures.items)

pub returns-clause-meet : goal.returns-clause-meet
returns-clause-meet g c = λ outer lies. one_meets outer c.args.reference c.push.new.self.items c.time-time.ensures.area lies (c.in_ok-push.ensures.items ∙ ap (λ l. l ++ c.args.reference ∷ []) c.new-references.ensures.items)
