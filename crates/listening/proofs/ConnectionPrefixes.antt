-- Of two lists, what holds of each of the first.
use Rattle.std.proofs.Common.{Bool, true, false, if◌then◌else◌, ◌≡◌, List, ◌++◌, subst, arith, length-append}
use Rattle.std.proofs.lemmas.List.{get_or_append_left}
use Rattle.std.specs.Prelude.{All}

-- what holds of each of two lists holds of each of the first
pub all_before : {X : Type 0} (P : X → Type 0) (zs xs ys : List X) → zs ≡ xs ++ ys → All P zs → All P xs
all_before P zs xs ys is all k d below = subst P (get_or_append_left xs ys d k below) (subst (All P) is all k d (omega (arith, length-append xs ys, below)))

-- the same where the second list may be left out
pub all_front : {X : Type 0} (P : X → Type 0) (zs xs ys : List X) (is_longer : Bool) → zs ≡ (if is_longer then xs ++ ys else xs) → All P zs → All P xs
all_front P zs xs ys true is all = all_before P zs xs ys is all
all_front P zs xs ys false is all = subst (All P) is all
