-- A commit's instant is above the last one.
use Rattle.std.proofs.Common.{◌≡◌, ℕ, ◌+◌, ◌<◌, Bool, true, false, List, [], ◌∷◌, Option, Some, arith}
use Rattle.std.specs.Prelude.{Result, Ok, Err, if◌then◌else◌, nat_lt, max}
use Rattle.values.specs.declared.key.Key.{Key}
use Rattle.values.specs.declared.refusal.Refusal.{Refusal}
use Rattle.values.specs.declared.refusal.Refusal.TheVariants.{Conflict, ClockEnd}
use Rattle.values.specs.Log.{Net, Changes}
use Rattle.values.specs.Period.{Periods}
use Rattle.values.specs.Commits.{outcome, max_instant}
use Rattle.values.specs.ChangedSince.{conflicts}

late : (b : Bool) (n i : ℕ) (e : Refusal) → ◌≡◌ {A = Result (Option ℕ) Refusal} (if b then Err e else Ok (Some n)) (Ok (Some i)) → i ≡ n
late true n i e h = cc
late false n i e h = cc

settled : (xs : List (Key × ℕ)) (latest reading i : ℕ) → ◌≡◌ {A = Result (Option ℕ) Refusal} (elim xs [
  | first ∷ others ↦ Err (Conflict first.0 first.1)
  | [] ↦ if nat_lt max_instant (max reading (latest + 1)) then Err ClockEnd else Ok (Some (max reading (latest + 1)))
]) (Ok (Some i)) → latest < i
settled [] latest reading i e =
    let is : i ≡ max reading (latest + 1) = late _ _ _ ClockEnd e in
    omega arith
settled (x ∷ xs) latest reading i e = cc

pub outcome_above : (periods : Periods) (m : Changes) (latest start : ℕ) (net : Net) (reading i : ℕ) → outcome periods m latest start net reading ≡ Ok (Some i) → latest < i
outcome_above periods m latest start [] reading i e = cc
outcome_above periods m latest start (change ∷ net) reading i e = settled (conflicts periods m start (change ∷ net)) latest reading i e
