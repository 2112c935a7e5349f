-- The history after events, and then others.
use Rattle.std.proofs.Common.{◌≡◌, List, [], ◌∷◌, ◌++◌, refl}
use Rattle.histories.specs.History.{History}
use Rattle.runs.specs.Event.{Event, history_after, with_step}

pub after_both : (h : History) (xs ys : List Event) → history_after h (xs ++ ys) ≡ history_after (history_after h xs) ys
after_both h [] ys = refl
after_both h (x ∷ xs) ys = after_both (with_step x.step h) xs ys
