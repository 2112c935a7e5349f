-- Refusals of what does not fit.
use Rattle.std.specs.Prelude.{ℕ, Option}
use Rattle.std.specs.Option.{option_map}
use Rattle.values.specs.declared.refusal.Refusal.{Refusal}
use Rattle.values.specs.declared.refusal.Refusal.TheVariants.{BadRow}

-- the refusal that names the column at fault
abbrev pub bad_row : Option ℕ → Option Refusal
bad_row fault = option_map BadRow fault
