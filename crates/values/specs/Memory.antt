-- Want of memory.
use Rattle.std.specs.Prelude.{◌≡◌, IfErr}
use Rattle.std.specs.declared.result.Result.{Result}
use Rattle.values.specs.declared.refusal.Refusal.{Refusal}
use Rattle.values.specs.declared.refusal.Refusal.TheVariants.{Memory}

-- no refusal but out of memory
abbrev pub OnlyMemory : {T : Type 0} → Result T Refusal → Type 0
OnlyMemory r = IfErr r (λ e. e ≡ Memory)
