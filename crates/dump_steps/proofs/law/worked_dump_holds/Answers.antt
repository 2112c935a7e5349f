use Rattle.std.proofs.Common.{Bool, true, false, Option, Some, None, ap, refl}
use Rattle.std.specs.List.{list_any}
use Rattle.values.specs.declared.value.Value.{Value}
use Rattle.values.specs.declared.value.Value.TheVariants.{Int, Text, Bool as Truth, Null}
use Rattle.values.specs.Log.{Log, Row}
use Rattle.values.specs.Tables.{value_at}
use Rattle.dump_steps.proofs.law.worked_dump_holds.Goals as goal

pub returns-clause-steps : goal.returns-clause-steps
returns-clause-steps c = refl

pub returns-clause-leaves : goal.returns-clause-leaves
returns-clause-leaves c = (refl, refl, (refl, (refl, (refl, (refl, (refl, (refl, (refl, (refl, (refl, (refl, (refl, (refl, (refl, (refl, (refl, tt))))))))))))))))

is_text : Value → Bool
is_text (Text text) = true
is_text (Int x) = false
is_text (Truth x) = false
is_text Null = false

abbrev has_text : Option Row → Bool
has_text None = false
has_text (Some row) = is_text (value_at row 3)

-- a row has a city
abbrev cities : Log → Bool
cities log = list_any (λ t. list_any (λ c. has_text c.1) t.net) log

pub returns-clause-columns : goal.returns-clause-columns
unfolding is_text
returns-clause-columns c = λ e. absurd (cc (ap cities e))

pub returns-clause-texts : goal.returns-clause-texts
unfolding is_text
returns-clause-texts c = λ e. absurd (cc (ap cities e))

pub returns-clause-turned : goal.returns-clause-turned
unfolding is_text
returns-clause-turned c = λ e. absurd (cc (ap cities e))
