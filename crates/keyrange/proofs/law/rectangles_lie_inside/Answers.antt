use Rattle.keyrange.proofs.RectInside.{inside_itself, inside_outer}
use Rattle.keyrange.proofs.law.rectangles_lie_inside.Goals as goal

pub returns-clause-itself : goal.returns-clause-itself
returns-clause-itself c = inside_itself

pub returns-clause-outer : goal.returns-clause-outer
returns-clause-outer c = inside_outer
