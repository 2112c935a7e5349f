-- The instant of a commit is within the clock.
use Rattle.std.proofs.Common.{◌≡◌, ℕ, ◌+◌, ◌≤◌, Bool, true, false, List, [], ◌∷◌, arith, refl, subst, max, nat_lt}
use Rattle.std.specs.Prelude.{Option, Some, Result, Ok, Err, if◌then◌else◌}
use Rattle.std.proofs.lemmas.Bool.Decides.{nat_tests}
use Rattle.values.specs.declared.key.Key.{Key}
use Rattle.values.specs.declared.refusal.Refusal.{Refusal}
use Rattle.values.specs.declared.refusal.Refusal.TheVariants.{ClockEnd, Conflict}
use Rattle.values.specs.Commits.{by_unit, conflicts_by, max_instant, outcome, unit_changed_since}
use Rattle.values.specs.Log.{Changes, Net}
use Rattle.values.specs.Period.{Periods}

end_within : (cs : List (Key × ℕ)) (latest reading i : ℕ) → ◌≡◌ {A = Result (Option ℕ) Refusal} (elim cs [
  | first ∷ others ↦ Err (Conflict first.0 first.1)
  | [] ↦ if nat_lt max_instant (max reading (latest + 1)) then Err ClockEnd else Ok (Some (max reading (latest + 1)))
]) (Ok (Some i)) → i ≤ max_instant
end_within (c ∷ cs) latest reading i e = cc
end_within [] latest reading i e = by (nat_lt max_instant (max reading (latest + 1))) refl e
  where
    not_over : (n : ℕ) → nat_lt max_instant n ≡ false → n ≤ max_instant
    not_over n e = grind (arith, nat_tests)

    by : (b : Bool) → nat_lt max_instant (max reading (latest + 1)) ≡ b → ◌≡◌ {A = Result (Option ℕ) Refusal} (if b then Err ClockEnd else Ok (Some (max reading (latest + 1)))) (Ok (Some i)) → i ≤ max_instant
    by true over e = cc
    by false over e = let same : max reading (latest + 1) ≡ i = cc in subst (λ n. n ≤ max_instant) same (not_over (max reading (latest + 1)) over)

-- so is a commit's
pub outcome_within : (periods : Periods) (m : Changes) (latest start : ℕ) (net : Net) (reading i : ℕ) → outcome periods m latest start net reading ≡ Ok (Some i) → i ≤ max_instant
outcome_within periods m latest start [] reading i e = cc
outcome_within periods m latest start (c ∷ net) reading i e = end_within (conflicts_by (unit_changed_since periods m start) (by_unit periods (c ∷ net))) latest reading i e
