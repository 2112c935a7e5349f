use Rattle.std.proofs.Common.{◌≡◌, ℕ, List, sym, subst, nat_eq}
use Rattle.std.specs.Prelude.{Contains}
use Rattle.std.specs.List.{dedup}
use Rattle.std.specs.List.Sorted.{IsStrictlyIncreasing}
use Rattle.std.proofs.lemmas.List.Filters.{dedup_is}
use Rattle.std.proofs.lemmas.List.Kept.{Contains-from_dedup, Contains-dedup_nat}
use Rattle.std.proofs.lemmas.List.Sorted.{Contains-permutation, IsPermutation-sym}
use Rattle.std.proofs.lemmas.Map.Keys.{IsStrictlyIncreasing-dedup}
use Rattle.treewalk.proofs.level.sort_numbers.Goals as goal

deduped : (c : goal.After-dedup) → c.dedup.new.self.items ≡ dedup nat_eq c.sort_unstable.new.self.items
deduped c = dedup_is nat_eq c.sort_unstable.new.self.items c.dedup.new.self.items c.dedup.ensures.filtered

pub returns-clause-ordered : goal.returns-clause-ordered
returns-clause-ordered c =
    subst IsStrictlyIncreasing (sym (deduped c)) (IsStrictlyIncreasing-dedup c.sort_unstable.new.self.items c.sort_unstable.ensures.sorted)

pub returns-clause-same : goal.returns-clause-same
returns-clause-same c n = (
  λ h. Contains-permutation c.sort_unstable.new.self.items c.args.numbers.now.items n (IsPermutation-sym _ _ c.sort_unstable.ensures.permutation)
      (Contains-from_dedup nat_eq c.sort_unstable.new.self.items n (subst (λ (l : List ℕ). Contains l n) (deduped c) h)),
  λ h. subst (λ (l : List ℕ). Contains l n) (sym (deduped c))
      (Contains-dedup_nat c.sort_unstable.new.self.items n (Contains-permutation c.args.numbers.now.items c.sort_unstable.new.self.items n c.sort_unstable.ensures.permutation h)),
)
