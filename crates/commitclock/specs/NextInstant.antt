-- The instant of a commit.
use Rattle.std.specs.Prelude.{ℕ, ◌+◌, max, nat_lt, Result, Ok, Err, if◌then◌else◌}
use Rattle.values.specs.declared.refusal.Refusal.{Refusal}
use Rattle.values.specs.declared.refusal.Refusal.TheVariants.{ClockEnd}
use Rattle.values.specs.Commits.{max_instant}

-- the larger of the reading and the instant after the last one, up to the last that there is
abbrev pub next_instant : ℕ → ℕ → Result ℕ Refusal
next_instant last reading =
    let instant = max reading (last + 1) in
    if nat_lt max_instant instant then Err ClockEnd else Ok instant
