use Rattle.keyrange.proofs.RectInside.{halves_inside, halves_apart}
use Rattle.keyrange.proofs.law.halves_part_their_whole.Goals as goal

pub returns-clause-inside : goal.returns-clause-inside
returns-clause-inside c = halves_inside

pub returns-clause-apart : goal.returns-clause-apart
returns-clause-apart c = halves_apart
