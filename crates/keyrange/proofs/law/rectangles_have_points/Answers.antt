use Rattle.keyrange.proofs.RectInside.{inner_is_common, common_to_outer, common_either_way}
use Rattle.keyrange.proofs.law.rectangles_have_points.Goals as goal

pub returns-clause-inner : goal.returns-clause-inner
returns-clause-inner c = inner_is_common

pub returns-clause-outer : goal.returns-clause-outer
returns-clause-outer c = common_to_outer

pub returns-clause-turned : goal.returns-clause-turned
returns-clause-turned c = common_either_way
