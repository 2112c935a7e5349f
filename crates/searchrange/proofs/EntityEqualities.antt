-- The comparisons of an entity's condition, one after another.
use Rattle.std.proofs.Common.{◌≡◌, ℕ, ◌<◌, ◌≤◌, zero, suc, List, [], ◌∷◌, ◌++◌, refl, ap, ◌∙◌, arith, length, take, get_or}
use Rattle.values.specs.declared.value.Value.{Value}
use Rattle.values.specs.declared.query.Operator.TheVariants.{Equal as Equals}
use Rattle.periods.specs.EntityKeys.{equalities}

-- with one column more, that has a value
pub one_more : (ns : List ℕ) (vs : List Value) (i n : ℕ) (v : Value) → i < length ns → i < length vs → n ≡ get_or ns i n → v ≡ get_or vs i v
    → equalities (take (suc i) ns) vs ≡ equalities (take i ns) vs ++ record { column = n; operator = Equals; value = v } ∷ []
one_more [] vs i n v a b column value = absurd (omega arith)
one_more (m ∷ ns) [] i n v a b column value = absurd (omega arith)
one_more (m ∷ ns) (w ∷ vs) zero n v a b column value = ends ns vs ∙ (λ k. record { column = (let is : m ≡ n = cc in is) k; operator = Equals; value = (let is : w ≡ v = cc in is) k } ∷ [])
  where
    ends : (ns : List ℕ) (vs : List Value) → equalities (take 1 (m ∷ ns)) (w ∷ vs) ≡ record { column = m; operator = Equals; value = w } ∷ []
    ends ns [] = refl
    ends ns (x ∷ vs) = refl
one_more (m ∷ ns) (w ∷ vs) (suc i) n v a b column value =
    ap (λ l. record { column = m; operator = Equals; value = w } ∷ l) (one_more ns vs i n v (lower i (length ns) a) (lower i (length vs) b) column value)
  where
    lower : (a b : ℕ) → suc a < suc b → a < b
    lower a b h = omega arith

-- columns behind the values have none
pub no_more : (ns : List ℕ) (vs : List Value) (i : ℕ) → length vs ≤ i → equalities (take i ns) vs ≡ equalities ns vs
no_more [] vs zero past = refl
no_more [] vs (suc i) past = refl
no_more (n ∷ ns) [] zero past = refl
no_more (n ∷ ns) [] (suc i) past = refl
no_more (n ∷ ns) (v ∷ vs) zero past = absurd (omega arith)
no_more (n ∷ ns) (v ∷ vs) (suc i) past =
    ap (λ l. record { column = n; operator = Equals; value = v } ∷ l) (no_more ns vs i (lower (length vs) i past))
  where
    lower : (a b : ℕ) → suc a ≤ suc b → a ≤ b
    lower a b h = omega arith
