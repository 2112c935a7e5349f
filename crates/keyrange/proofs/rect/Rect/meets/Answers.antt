use Rattle.std.proofs.Common.{sym, ◌∙◌}
use Rattle.keyrange.proofs.RectMeeting.{common_point, keys_of_common, times_of_common}
use Rattle.keyrange.proofs.rect.Rect.meets.Goals as goal

pub returns-then-meets-clause-common : goal.returns-then-meets-clause-common
returns-then-meets-clause-common c = λ met.
    rw (← c.self.view_is, ← c.other.view_is) (common_point (record { keys = c.self.inside.keys; time = c.self.inside.time }) (record { keys = c.other.inside.keys; time = c.other.inside.time }) c.self.invariant c.other.invariant (sym c.meets-then-meets.ensures ∙ met) (sym c.meets.ensures ∙ c.if-meets.true))

pub returns-then-meets-clause-apart : goal.returns-then-meets-clause-apart
returns-then-meets-clause-apart c = λ common.
    c.meets-then-meets.ensures ∙ keys_of_common (record { keys = c.self.inside.keys; time = c.self.inside.time }) (record { keys = c.other.inside.keys; time = c.other.inside.time }) (rw (c.self.view_is, c.other.view_is) common)

pub returns-else-meets-clause-apart : goal.returns-else-meets-clause-apart
returns-else-meets-clause-apart c = λ common.
    c.meets.ensures ∙ times_of_common (record { keys = c.self.inside.keys; time = c.self.inside.time }) (record { keys = c.other.inside.keys; time = c.other.inside.time }) (rw (c.self.view_is, c.other.view_is) common)
