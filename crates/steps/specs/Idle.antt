-- That no session has a transaction open, by a test of each.
use Rattle.std.specs.Prelude.{ℕ, Bool, not, ◌+◌}
use Rattle.std.specs.List.{list_all, range_with_len}
use Rattle.steps.specs.Misfit.{max_session}

-- none of the sessions, from 0 on, has
abbrev pub is_idle : (ℕ → Bool) → Bool
is_idle has_open = list_all (λ i. not (has_open i)) (range_with_len 0 (max_session + 1))
