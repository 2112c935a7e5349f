-- What readers leave: nothing, or what else is so of all that they leave.
use Rattle.std.proofs.Common.{◌≡◌, ℕ, Bool, true, false, List, [], Ok, Err, if◌then◌else◌}
use Rattle.std.specs.Prelude.{Result}
use Rattle.tokens.specs.Token.{After, Read, ◌>>=◌}

abbrev IsLeft : (List ℕ → Type 0) → {A : Type 0} → Read A → Type 0
IsLeft Q (Ok x) = Q x.1
IsLeft Q (Err at) = Unit {0}

pub record Leaving (Q : List ℕ → Type 0) {A : Type 0} (r : Read A) : Type 0 where
  pub it : IsLeft Q r

abbrev pub All : {A : Type 0} → Read A → Type 0
All r = Leaving (λ rest. rest ≡ []) r

module _ {Q : List ℕ → Type 0} where
  pub all_then : {X B : Type 0} (r : Result X (List ℕ)) (f : X → Read B) → ((x : X) → Leaving Q (f x)) → Leaving Q (r >>= f)
  all_then (Ok x) f go = go x
  all_then (Err at) f go = record { it = tt }

  pub all_either : {B : Type 0} (r : After) (f g : List ℕ → Read B) → ((m : List ℕ) → Leaving Q (f m)) → ((at : List ℕ) → Leaving Q (g at)) → Leaving Q (elim r [ Ok m ↦ f m | Err at ↦ g at ])
  all_either (Ok m) f g one two = one m
  all_either (Err at) f g one two = two at

  pub all_cases : {B : Type 0} (r : After) (f : List ℕ → Read B) → ((m : List ℕ) → Leaving Q (f m)) → Leaving Q (elim r [ Ok m ↦ f m | Err at ↦ Err at ])
  all_cases (Ok m) f go = go m
  all_cases (Err at) f go = record { it = tt }

  pub all_if : {B : Type 0} (t : Bool) (r u : Read B) → Leaving Q r → Leaving Q u → Leaving Q (if t then r else u)
  all_if true r u one two = one
  all_if false r u one two = two
