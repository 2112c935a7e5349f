-- That no session has a transaction open, by the list of what each has, and by the history.
use Rattle.std.proofs.Common.{◌≡◌, ℕ, zero, suc, ◌+◌, Bool, List, [], ◌∷◌, Option, Some, None, refl, sym, ap, ◌∙◌, length, get_or, arith}
use Rattle.std.specs.Prelude.{◌&&◌, not, is_some, is_none}
use Rattle.std.specs.List.{list_all, range_with_len}
use Rattle.values.specs.Tables.{Schema}
use Rattle.steps.specs.Idle.{is_idle}
use Rattle.steps.specs.Misfit.{max_session}
use Rattle.histories.specs.History.{History, has_open}
use Rattle.histories.specs.Stands.{Stands, is_open_at}
use Rattle.histories.specs.World.{World}
use Rattle.histories.proofs.Memory.{idle_alike, is_open}
use Rattle.histories.proofs.StandsAltered.{begun_alike}

closed : {A : Type 0} (o : Option A) → is_none o ≡ not (is_some o)
closed None = refl
closed (Some x) = refl

-- the numbers from the next one on
shifted : (test : ℕ → Bool) (a b n : ℕ) → b ≡ suc a → list_all test (range_with_len b n) ≡ list_all (λ i. test (suc i)) (range_with_len a n)
shifted test a b zero is = refl
shifted test a b (suc n) is = λ k. test (is k) && shifted test (a + 1) (b + 1) n (omega (arith, is)) k

each_none : {A : Type 0} (xs : List (Option A)) (n : ℕ) → length xs ≡ n → list_all is_none xs ≡ list_all (λ i. not (is_some (get_or xs i None))) (range_with_len 0 n)
each_none [] zero wide = refl
each_none [] (suc n) wide = absurd (omega (arith, wide))
each_none (x ∷ xs) zero wide = absurd (omega (arith, wide))
each_none (x ∷ xs) (suc n) wide =
    (λ k. closed x k && each_none xs n (omega (arith, wide)) k)
    ∙ ap (λ b. not (is_some x) && b) (sym (shifted (λ i. not (is_some (get_or (x ∷ xs) i None))) 0 1 n (omega arith)))

pub all_none : {A : Type 0} (xs : List (Option A)) (n : ℕ) → length xs ≡ suc n → list_all is_none xs ≡ list_all (λ i. not (is_some (get_or xs i None))) (range_with_len 0 (n + 1))
all_none xs n wide = each_none xs (n + 1) (omega (arith, wide))

-- the system and the history have the same sessions' transactions open
pub idle_alike_by : (first : Schema) (w : World) (h : History) → Stands first w h → is_idle (is_open_at w) ≡ is_idle (has_open h)
idle_alike_by first w h stands = idle_alike max_session (is_open_at w) (has_open h) (λ j small. is_open first w h j small stands ∙ begun_alike first h j)
