-- A log up to its last instant, and with one transaction more.
use Rattle.std.proofs.Common.{◌≡◌, ℕ, ◌<◌, ◌≤◌, true, cond, [], ◌∷◌, ◌++◌, refl, arith, nat_le}
use Rattle.std.proofs.lemmas.Bool.Decides.{nat_tests}
use Rattle.values.specs.declared.key.Transaction.{Transaction}
use Rattle.values.specs.Log.{Log, Changes, add_all, add_net, upto, last_from}
use Rattle.values.specs.Law.{Rises}

pub last_above : (log : Log) (n : ℕ) → Rises n log → n ≤ last_from n log
last_above [] n r = omega arith
last_above (u ∷ log) n r = let lt : n < u.instant = r.0 in omega (arith, last_above log u.instant r.1)

pub upto_all : (log : Log) (n t : ℕ) → Rises n log → last_from n log ≤ t → upto log t ≡ log
upto_all [] n t r h = refl
upto_all (u ∷ log) n t r h = λ i. cond (early i) (u ∷ upto_all log u.instant t r.1 h i) (upto_all log u.instant t r.1 h i)
  where
    early : nat_le u.instant t ≡ true
    early = let le : u.instant ≤ t = omega (arith, last_above log u.instant r.1) in grind (arith, nat_tests)

pub Rises-push : (log : Log) (n : ℕ) (t : Transaction) → Rises n log → last_from n log < t.instant → Rises n (log ++ t ∷ [])
Rises-push [] n t r h = (h, tt)
Rises-push (u ∷ log) n t r h = (r.0, Rises-push log u.instant t r.1 h)

pub add_all-push : (log : Log) (m : Changes) (t : Transaction) → add_all m (log ++ t ∷ []) ≡ add_net t.instant (add_all m log) t.net
add_all-push [] m t = refl
add_all-push (u ∷ log) m t = add_all-push log (add_net u.instant m u.net) t
