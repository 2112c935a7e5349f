-- The tables of the worked examples with a period are good ones.
use Rattle.std.proofs.Common.{◌≡◌, ◌≢◌, ◌≤◌, ◌==◌, ◌||◌, ℕ, List, [], ◌∷◌, ◌++◌, Some, false, refl, sym, subst, ◌∙◌, arith, length, All}
use Rattle.std.specs.List.{list_any}
use Rattle.std.specs.Prelude.{codes}
use Rattle.std.proofs.lemmas.List.Elements.{All-nil, All-cons}
use Rattle.values.specs.declared.period.Period.{Period}
use Rattle.values.specs.declared.table.Column.{Column}
use Rattle.values.specs.declared.table.Table.{Table}
use Rattle.values.specs.Tables.{column_at}
use Rattle.values.specs.TableRules.{AreTables, IsTable, IsColumnOf, HasInstants, HasPeriod, IsOutside}
use Rattle.histories.specs.WorkedPeriods.{policies, plain, both}

abbrev valid : Period
valid = record { name = codes "valid"; from = 2; to = 3 }

distinct_two : (before after : List ℕ) (n : ℕ) → 1 ∷ 2 ∷ [] ≡ before ++ n ∷ after → list_any (λ c. c == n) before ≡ false
distinct_two [] after n e = refl
distinct_two (b ∷ []) after n e =
    let one : 1 ≡ b = cc in
    let two : 2 ≡ n = cc in
    λ i. (sym one i == sym two i) || false
distinct_two (b ∷ c ∷ []) after n e = cc
distinct_two (b ∷ c ∷ x ∷ rest) after n e = cc

column : (t : Table) (n : ℕ) → t.columns ≡ policies.columns → 1 ≤ n → n ≤ 4 → IsColumnOf t n
column t n is low high = record { from_1 = low; within = subst (λ (cs : List Column). n ≤ length cs) (sym is) high }

keys : (t : Table) → t.columns ≡ policies.columns → All (IsColumnOf t) (1 ∷ 2 ∷ [])
keys t is =
    All-cons (IsColumnOf t) 1 (2 ∷ []) (column t 1 is (omega arith) (omega arith))
    (All-cons (IsColumnOf t) 2 [] (column t 2 is (omega arith) (omega arith)) (All-nil (IsColumnOf t)))

instants : (n : ℕ) (x c : Column) → column_at policies n ≡ Some x → HasInstants x → column_at policies n ≡ Some c → HasInstants c
instants n x c there has is = let same : x ≡ c = cc (sym there ∙ is) in subst HasInstants same has

outside : IsOutside valid 1
outside = record {
  from_1 = omega arith;
  no_start = (let other : 1 ≢ 2 = omega arith in other);
  no_end = (let other : 1 ≢ 3 = omega arith in other);
}

has_valid : HasPeriod policies valid
has_valid = record {
  start = column policies 2 refl (omega arith) (omega arith);
  end = column policies 3 refl (omega arith) (omega arith);
  start_instants = λ c is. instants 2 _ c refl (record { whole = refl; never_null = refl }) is;
  end_instants = λ c is. instants 3 _ c refl (record { whole = refl; never_null = refl }) is;
  differ = (let other : 2 ≢ 3 = omega arith in other);
  entity = All-cons (IsOutside valid) 1 [] outside (All-nil (IsOutside valid));
  start_last = refl;
  distinct = λ before after n e. distinct_two before after n e;
}

policies_good : IsTable 1 policies
policies_good = record {
  numbered = refl;
  small = (let low : 1 ≤ 16 = omega arith in low);
  some_columns = (let low : 1 ≤ 4 = omega arith in low);
  few_columns = (let low : 4 ≤ 16 = omega arith in low);
  few_key_columns = (let low : 2 ≤ 4 = omega arith in low);
  own_key_columns = keys policies refl;
  own_period = λ p is. let same : valid ≡ p = the_period p is in subst (HasPeriod policies) same has_valid;
}
  where
    the_period : (p : Period) → policies.period ≡ Some p → valid ≡ p
    the_period p is = cc

plain_good : IsTable 2 plain
plain_good = record {
  numbered = refl;
  small = (let low : 2 ≤ 16 = omega arith in low);
  some_columns = (let low : 1 ≤ 4 = omega arith in low);
  few_columns = (let low : 4 ≤ 16 = omega arith in low);
  few_key_columns = (let low : 2 ≤ 4 = omega arith in low);
  own_key_columns = keys plain refl;
  own_period = λ p is. cc;
}

pub both_good : AreTables 1 both.tables
both_good = (policies_good, (plain_good, tt))
