-- A text without a quote is printed as it is.
use Rattle.std.proofs.Common.{◌≡◌, ℕ, ◌==◌, Bool, true, false, List, [], ◌∷◌, ◌++◌, refl, ap}
use Rattle.std.specs.Prelude.{if◌then◌else◌, ◌||◌}
use Rattle.std.specs.List.{list_any}
use Rattle.statement.specs.Print.{quoted}

step : (b : ℕ) (rest text : List ℕ) (is : Bool) (others : Bool) → (is || others) ≡ false → (others ≡ false → text ≡ rest) → (if is then 39 ∷ 39 ∷ [] else b ∷ []) ++ text ≡ b ∷ rest
step b rest text true others e same = cc
step b rest text false others e same = ap (λ l. b ∷ l) (same e)

pub quoted-plain : (text : List ℕ) → list_any (λ b. b == 39) text ≡ false → quoted text ≡ text
quoted-plain [] e = refl
quoted-plain (b ∷ text) e = step b text (quoted text) (b == 39) (list_any (λ b. b == 39) text) e (quoted-plain text)
