-- Good tables stand at the places of their numbers.
use Rattle.std.proofs.Common.{◌≡◌, ℕ, ◌+◌, ◌-◌, ◌<◌, ◌≤◌, List, [], ◌∷◌, ◌==◌, Bool, true, false, Option, Some, None, IfSome, length, refl, sym, subst, ap, ◌∙◌, arith, nat_lt, if◌then◌else◌, zero, suc, get_or}
use Rattle.std.specs.Prelude.{is_some}
use Rattle.std.specs.List.{slice_get}
use Rattle.std.specs.Borrow.{Bor}
use Rattle.std.proofs.lemmas.Option.{slice_get_read}
use Rattle.std.proofs.lemmas.Bool.Decides.{nat_tests}
use Rattle.values.specs.declared.table.Table.{Table}
use Rattle.values.specs.Tables.{table_at}
use Rattle.values.specs.TableRules.{IsTable, AreTables, IsNumberIn}

at_place : (ts : List Table) (n i : ℕ) → AreTables n ts → IfSome (slice_get ts i) (IsTable (n + i))
at_place [] n i h = tt
at_place (t ∷ ts) n zero h = subst (λ m. IsTable m t) (omega arith) h.0
at_place (t ∷ ts) n (suc i) h =
    let e : (n + 1) + i ≡ n + suc i = omega arith in subst (λ m. IfSome (slice_get ts i) (IsTable m)) e (at_place ts (n + 1) i h.1)

-- the table that is found by its number has it
pub is_at_place : (ts : List Table) (number : ℕ) (found : Option (Bor Table)) → AreTables 1 ts → ¬ (number ≡ 0) → is_some found ≡ nat_lt (number - 1) (length ts)
    → IfSome found (λ t. t.now ≡ get_or ts (number - 1) t.now) → IfSome found (λ t. IsTable number t.now)
is_at_place ts number None h some within is = tt
is_at_place ts number (Some t) h some within is =
    let at : slice_get ts (number - 1) ≡ Some t.now = slice_get_read ts (length ts) (number - 1) t.now refl (below (number - 1) (length ts) (sym within)) is in
    let here : IsTable (1 + (number - 1)) t.now = subst (λ o. IfSome o (IsTable (1 + (number - 1)))) at (at_place ts 1 (number - 1) h) in
    subst (λ m. IsTable m t.now) (one_up number some) here
  where
    below : (n m : ℕ) → nat_lt n m ≡ true → n < m
    below n m e = grind (arith, nat_tests)

    one_up : (n : ℕ) → ¬ (n ≡ 0) → 1 + (n - 1) ≡ n
    one_up n h = omega (arith, h)

-- a schema's tables are known by their numbers
pub is_known : (ts : List Table) (i : ℕ) (t : Table) → AreTables 1 ts → i < length ts → t ≡ get_or ts i t → IsNumberIn (record { tables = ts }) t.number
is_known ts i t h lt is =
    let at : slice_get ts i ≡ Some t = slice_get_read ts (length ts) i t refl lt is in
    let good : IsTable (1 + i) t = subst (λ o. IfSome o (IsTable (1 + i))) at (at_place ts 1 i h) in
    (t, numbered t.number i good.numbered at)
  where
    by_zero : (n : ℕ) (z : Bool) → (n == 0) ≡ z → 1 ≤ n → slice_get ts (n - 1) ≡ Some t → (if z then None else slice_get ts (n - 1)) ≡ Some t
    by_zero n true e h is = let never : ⊥ = grind (arith, nat_tests) in absurd never
    by_zero n false e h is = is

    numbered : (n i : ℕ) → n ≡ 1 + i → slice_get ts i ≡ Some t → table_at (record { tables = ts }) n ≡ Some t
    numbered n i e is =
        let back : n - 1 ≡ i = omega arith in
        by_zero n (n == 0) refl (omega arith) (ap (slice_get ts) back ∙ is)
