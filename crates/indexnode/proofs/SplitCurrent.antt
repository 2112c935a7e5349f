-- The current references of a half lie in it.
use Rattle.std.proofs.Common.{◌≡◌, ℕ, ◌≤◌, List, Bool, true, false, Option, Some, None, refl, sym, subst, ◌∙◌, arith}
use Rattle.std.specs.Prelude.{IsTrue, ◌&&◌, not, nat_lt, nat_le}
use Rattle.std.specs.List.{filter, All}
use Rattle.std.proofs.lemmas.Bool.Decides.{nat_tests}
use Rattle.std.proofs.lemmas.List.Elements.{All-filter, filter_passes}
use Rattle.keyrange.specs.Rect.{Area, has_point, IsInside}
use Rattle.keyrange.specs.Range.{is_key_in, is_below, is_before_end}
use Rattle.keyrange.specs.Cut.{is_key_inside, PartsKeys, PartsTime}
use Rattle.keyrange.proofs.RectMeeting.{both, first, second}
use Rattle.keyrange.proofs.RangeOrder.{above}
use Rattle.indexnode.specs.declared.reference.Reference.{Reference}
use Rattle.indexnode.proofs.SplitTiling.{denied, negated}
use Rattle.indexnode.specs.Split.{reaches_below, reaches_up, starts_before, ends_after, is_current, IsUncrossed, IsBeforeCurrent, AreCurrentIn}

-- what follows for those that pass from what holds of all
pub all_taken : {X : Type 0} (P Q R : X → Type 0) (q : X → Bool) (xs ys : List X) → ys ≡ filter q xs → ((x : X) → P x → Q x → q x ≡ true → R x) → All P xs → All Q xs → All R ys
all_taken P Q R q xs ys are each ps qs =
    subst (All R) (sym are) (λ k d lt. each _ (All-filter q P xs ps k d lt) (All-filter q Q xs qs k d lt) (filter_passes q xs k d lt))

-- the half's points are the whole's that pass a test
module _ (area half : Area) (test : List ℕ → ℕ → Bool) (parts : (key : List ℕ) (instant : ℕ) → has_point half key instant ≡ (has_point area key instant && test key instant)) where
  pub lies_in_half : (r : Area) → IsInside r area → ((key : List ℕ) (instant : ℕ) → IsTrue (has_point r key instant) → test key instant ≡ true) → IsInside r half
  lies_in_half r inside passes key instant holds = parts key instant ∙ both _ _ (inside key instant holds) (passes key instant holds)

-- ---- by key

by_end : (key cut : List ℕ) (end : Option (List ℕ)) → is_before_end key end ≡ true → is_before_end cut end ≡ false → is_below key cut ≡ true
by_end key cut None e f = cc
by_end key cut (Some end) e f = by (is_below key cut) refl
  where
    by : (t : Bool) → is_below key cut ≡ t → is_below key cut ≡ true
    by true h = h
    by false h = let up : is_below cut end ≡ true = above key cut end h e in cc

by_start : (key lo cut : List ℕ) → is_below key lo ≡ false → is_below lo cut ≡ false → is_below key cut ≡ false
by_start key lo cut e f = by (is_below key cut) refl
  where
    by : (t : Bool) → is_below key cut ≡ t → is_below key cut ≡ false
    by false h = h
    by true h = let up : is_below lo cut ≡ true = above key lo cut e h in cc

other_false : (a b : Bool) → (a && b) ≡ false → a ≡ true → b ≡ false
other_false true b e f = e
other_false false b e f = cc

pub one_false : (a b : Bool) → (a && b) ≡ false → b ≡ true → a ≡ false
one_false true b e f = sym f ∙ e
one_false false b e f = refl

module _ {C : Type 0} (area one other : Area) (cut : List ℕ) (parts : PartsKeys area one other cut) (references taken : List (Reference C)) (uncrossed : IsUncrossed cut references) (inside : AreCurrentIn area references) where
  pub below_in : taken ≡ filter (λ r. reaches_below cut r.rect) references → AreCurrentIn one taken
  below_in are = all_taken
      (λ r. IsTrue (is_current r) → is_key_inside r.rect cut ≡ false) (λ r. IsTrue (is_current r) → IsInside r.rect area) (λ r. IsTrue (is_current r) → IsInside r.rect one)
      (λ r. reaches_below cut r.rect) references taken are
      (λ r crossed lies reaches current. lies_in_half area one (λ key _. is_below key cut) parts.below r.rect (lies current)
      (λ key instant holds. by_end key cut r.rect.keys.hi (second (not (is_below key r.rect.keys.lo)) _ (first (is_key_in r.rect.keys key) _ holds)) (other_false _ _ (crossed current) reaches)))
      uncrossed inside

  pub above_in : taken ≡ filter (λ r. reaches_up cut r.rect) references → AreCurrentIn other taken
  above_in are = all_taken
      (λ r. IsTrue (is_current r) → is_key_inside r.rect cut ≡ false) (λ r. IsTrue (is_current r) → IsInside r.rect area) (λ r. IsTrue (is_current r) → IsInside r.rect other)
      (λ r. reaches_up cut r.rect) references taken are
      (λ r crossed lies reaches current. lies_in_half area other (λ key _. not (is_below key cut)) parts.above r.rect (lies current)
      (λ key instant holds. negated _ (by_start key r.rect.keys.lo cut (denied _ (first _ _ (first (is_key_in r.rect.keys key) _ holds))) (one_false _ _ (crossed current) reaches))))
      uncrossed inside

-- ---- by time

not_before : (cut from : ℕ) → cut ≤ from → nat_lt from cut ≡ true → ⊥
not_before cut from le e = grind (arith, nat_tests)

from_there : (cut from instant : ℕ) → cut ≤ from → nat_le from instant ≡ true → nat_lt instant cut ≡ false
from_there cut from instant le e = grind (arith, nat_tests)

module _ {C : Type 0} (area one other : Area) (cut : ℕ) (parts : PartsTime area one other cut) (references taken : List (Reference C)) (later : IsBeforeCurrent cut references) (inside : AreCurrentIn area references) where
  pub past_in : taken ≡ filter (λ r. starts_before cut r.rect) references → AreCurrentIn one taken
  past_in are = all_taken
      (λ r. IsTrue (is_current r) → cut ≤ r.rect.time.from) (λ r. IsTrue (is_current r) → IsInside r.rect area) (λ r. IsTrue (is_current r) → IsInside r.rect one)
      (λ r. starts_before cut r.rect) references taken are
      (λ r starts lies before current. absurd (not_before cut r.rect.time.from (starts current) before))
      later inside

  pub now_in : taken ≡ filter (λ r. ends_after cut r.rect) references → AreCurrentIn other taken
  now_in are = all_taken
      (λ r. IsTrue (is_current r) → cut ≤ r.rect.time.from) (λ r. IsTrue (is_current r) → IsInside r.rect area) (λ r. IsTrue (is_current r) → IsInside r.rect other)
      (λ r. ends_after cut r.rect) references taken are
      (λ r starts lies after current. lies_in_half area other (λ _ instant. not (nat_lt instant cut)) parts.after r.rect (lies current)
      (λ key instant holds. negated _ (from_there cut r.rect.time.from instant (starts current) (first _ _ (second (is_key_in r.rect.keys key) _ holds)))))
      later inside
