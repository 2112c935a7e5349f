-- A table of four columns, whose key is the first two and whose period is the second and the third.
use Rattle.std.proofs.Common.{◌≡◌, ◌≢◌, ◌≤◌, ◌||◌, ◌==◌, ◌-◌, ℕ, zero, suc, Bool, true, Option, None, if◌then◌else◌, List, [], ◌∷◌, ◌++◌, length, Some, false, refl, sym, subst, ap, ◌∙◌, arith, All}
use Rattle.std.specs.List.{list_any, slice_get, AllByRecursion}
use Rattle.std.specs.Option.{ForSome}
use Rattle.std.proofs.lemmas.List.Elements.{All-nil, All-cons, recursion_from_All}
use Rattle.values.specs.declared.period.Period.{Period}
use Rattle.values.specs.declared.table.Column.{Column}
use Rattle.values.specs.declared.table.Table.{Table}
use Rattle.values.specs.Tables.{column_at, but_last}
use Rattle.values.specs.TableRules.{IsTable, IsColumnOf, HasInstants, HasPeriod, IsOutside}

distinct_two : (before after : List ℕ) (n : ℕ) → 1 ∷ 2 ∷ [] ≡ before ++ n ∷ after → list_any (λ c. c == n) before ≡ false
distinct_two [] after n e = refl
distinct_two (b ∷ []) after n e =
    let one : 1 ≡ b = cc in
    let two : 2 ≡ n = cc in
    λ i. (sym one i == sym two i) || false
distinct_two (b ∷ c ∷ []) after n e = cc
distinct_two (b ∷ c ∷ x ∷ rest) after n e = cc

column : (t : Table) (n : ℕ) → length t.columns ≡ 4 → 1 ≤ n → n ≤ 4 → IsColumnOf t n
column t n wide low high = record { from_1 = low; within = subst (λ m. n ≤ m) (sym wide) high }

instants : (t : Table) (n : ℕ) → All HasInstants t.columns → ForSome (column_at t n) HasInstants
instants t n whole c at = by (n == 0) at
  where
    there : (cs : List Column) (i : ℕ) → AllByRecursion HasInstants cs → slice_get cs i ≡ Some c → HasInstants c
    there [] i h is = cc
    there (d ∷ cs) zero h is = let same : d ≡ c = cc in subst HasInstants same h.0
    there (d ∷ cs) (suc i) h is = there cs i h.1 is

    by : (b : Bool) → ◌≡◌ {A = Option Column} (if b then None else slice_get t.columns (n - 1)) (Some c) → HasInstants c
    by true is = cc
    by false is = there t.columns (n - 1) (recursion_from_All HasInstants t.columns whole) is

period : (t : Table) (p : Period) → All HasInstants t.columns → length t.columns ≡ 4 → t.key ≡ 1 ∷ 2 ∷ [] → p.from ≡ 2 → p.to ≡ 3 → HasPeriod t p
period t p whole wide key from to = record {
  start = column t p.from wide (omega (arith, from)) (omega (arith, from));
  end = column t p.to wide (omega (arith, to)) (omega (arith, to));
  start_instants = instants t p.from whole;
  end_instants = instants t p.to whole;
  differ = (let other : p.from ≢ p.to = omega (arith, from, to) in other);
  entity = subst (λ k. All (IsOutside p) (but_last k)) (sym key) (All-cons (IsOutside p) 1 [] outside (All-nil (IsOutside p)));
  start_last = key ∙ (λ i. 1 ∷ sym from i ∷ []) ∙ sym (ap (λ k. but_last k ++ p.from ∷ []) key);
  distinct = λ before after n e. distinct_two before after n (sym key ∙ e);
}
  where
    outside : IsOutside p 1
    outside = record {
      from_1 = omega arith;
      no_start = (let other : 1 ≢ p.from = omega (arith, from) in other);
      no_end = (let other : 1 ≢ p.to = omega (arith, to) in other);
    }

pub good : (t : Table) (p : Period) → All HasInstants t.columns → length t.columns ≡ 4 → t.key ≡ 1 ∷ 2 ∷ [] → t.number ≡ 1 → t.period ≡ Some p → p.from ≡ 2 → p.to ≡ 3 → IsTable 1 t
good t p whole wide key number has from to = record {
  numbered = number;
  small = (let low : 1 ≤ 16 = omega arith in low);
  some_columns = omega (arith, wide);
  few_columns = omega (arith, wide);
  few_key_columns = subst (λ k. length k ≤ 4) (sym key) (let few : 2 ≤ 4 = omega arith in few);
  own_key_columns = subst (All (IsColumnOf t)) (sym key)
      (All-cons (IsColumnOf t) 1 (2 ∷ []) (column t 1 wide (omega arith) (omega arith))
      (All-cons (IsColumnOf t) 2 [] (column t 2 wide (omega arith) (omega arith)) (All-nil (IsColumnOf t))));
  own_period = λ q is. let same : p ≡ q = cc (sym has ∙ is) in subst (HasPeriod t) same (period t p whole wide key from to);
}
