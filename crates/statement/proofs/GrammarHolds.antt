-- What holds of a value that was read and of the bytes after it.
use Rattle.std.proofs.Common.{◌≡◌, List, ℕ, Ok, Err, subst}
use Rattle.std.specs.Prelude.{Option, Some, None}
use Rattle.tokens.specs.Token.{After, Read, ◌>>=◌}

abbrev HoldsOf : {A : Type 0} → Read A → (A → List ℕ → Type 0) → Type 0
HoldsOf (Ok x) P = P x.0 x.1
HoldsOf (Err at) P = Unit {0}

pub record Holds {A : Type 0} (r : Read A) (P : A → List ℕ → Type 0) : Type 0 where
  pub it : HoldsOf r P

abbrev LeavesOf : After → (List ℕ → Type 0) → Type 0
LeavesOf (Ok rest) P = P rest
LeavesOf (Err at) P = Unit {0}

pub record Leaves (r : After) (P : List ℕ → Type 0) : Type 0 where
  pub it : LeavesOf r P

pub holds : {A : Type 0} {P : A → List ℕ → Type 0} (x : A) (rest : List ℕ) → P x rest → Holds (Ok (x, rest)) P
holds x rest h = record { it = h }

pub holds_then : {A B : Type 0} {P : A → List ℕ → Type 0} {Q : B → List ℕ → Type 0} (r : Read A) (f : A × List ℕ → Read B)
    → Holds r P → ((x : A) (rest : List ℕ) → P x rest → Holds (f (x, rest)) Q) → Holds (r >>= f) Q
holds_then (Ok x) f h g = g x.0 x.1 h.it
holds_then (Err at) f h g = record { it = tt }

pub leaves_then : {B : Type 0} {P : List ℕ → Type 0} {Q : B → List ℕ → Type 0} (r : After) (f : List ℕ → Read B)
    → Leaves r P → ((rest : List ℕ) → P rest → Holds (f rest) Q) → Holds (r >>= f) Q
leaves_then (Ok rest) f h g = g rest h.it
leaves_then (Err at) f h g = record { it = tt }

-- by whether a token stands
pub leaves_either : {B : Type 0} {P : List ℕ → Type 0} {Q : B → List ℕ → Type 0} (r : After) (f g : List ℕ → Read B)
    → Leaves r P → ((rest : List ℕ) → P rest → Holds (f rest) Q) → ((at : List ℕ) → Holds (g at) Q) → Holds (elim r [ Ok rest ↦ f rest | Err at ↦ g at ]) Q
leaves_either (Ok rest) f g h stands else = stands rest h.it
leaves_either (Err at) f g h stands else = else at

pub holds_at : {A : Type 0} {P : A → List ℕ → Type 0} {x : A} {rest : List ℕ} {r : Read A} → Holds r P → r ≡ Ok (x, rest) → P x rest
holds_at {A} {P} {x} {rest} {r} h is = let Q : Read A → Type 0 = λ r. HoldsOf r P in subst Q is h.it

pub holds_weaker : {A : Type 0} {P Q : A → List ℕ → Type 0} {r : Read A} → Holds r P → ((x : A) (rest : List ℕ) → P x rest → Q x rest) → Holds r Q
holds_weaker {r = Ok x} h f = record { it = f x.0 x.1 h.it }
holds_weaker {r = Err at} h f = record { it = tt }

abbrev FoundOf : {A : Type 0} → Option (A × List ℕ) → (A → List ℕ → Type 0) → Type 0
FoundOf None P = Unit {0}
FoundOf (Some x) P = P x.0 x.1

pub record Found {A : Type 0} (o : Option (A × List ℕ)) (P : A → List ℕ → Type 0) : Type 0 where
  pub it : FoundOf o P

-- what is found may be read, and else nothing is
pub holds_found : {A B : Type 0} {P : A → List ℕ → Type 0} {Q : B → List ℕ → Type 0} (o : Option (A × List ℕ)) (at : List ℕ) (f : A × List ℕ → Read B)
    → Found o P → ((x : A) (rest : List ℕ) → P x rest → Holds (f (x, rest)) Q) → Holds (elim o [ None ↦ Err at | Some x ↦ f x ]) Q
holds_found None at f h g = record { it = tt }
holds_found (Some x) at f h g = g x.0 x.1 h.it

pub found_weaker : {A : Type 0} {P Q : A → List ℕ → Type 0} (o : Option (A × List ℕ)) → Found o P → ((x : A) (rest : List ℕ) → P x rest → Q x rest) → Found o Q
found_weaker None h f = record { it = tt }
found_weaker (Some x) h f = record { it = f x.0 x.1 h.it }
