-- The changes at an instant, by their places and by their keys.
use Rattle.std.proofs.Common.{◌≡◌, ℕ, ◌+◌, ◌==◌, Bool, true, false, cond, List, [], ◌∷◌, ◌++◌, Option, Some, None, refl, sym, subst, ap, ◌∙◌, arith, length, length-append, append_assoc, filter, map}
use Rattle.std.specs.List.{flat_map, range_with_len}
use Rattle.std.specs.Ordering.{eq_by_cmp, nat_cmp}
use Rattle.std.specs.FinMap.{nat_cmp-IsAntisymmetric}
use Rattle.std.proofs.lemmas.Bool.Decides.{nat_tests}
use Rattle.std.proofs.lemmas.List.{length-map}
use Rattle.values.specs.declared.key.Key.{Key}
use Rattle.values.specs.declared.key.Point.{Point}
use Rattle.values.specs.Event.{Event}
use Rattle.values.specs.Events.{event_of, events_of}
use Rattle.values.specs.Log.{Changes, Net, Row}
use Rattle.values.specs.Tables.{Schema}
use Rattle.values.proofs.OrderSorted.{is_equal}
use Rattle.restoring.specs.FromChanges.{net_at}
use Rattle.dump_steps.specs.Widths.{Widths, wider, widths_after}
use Rattle.dumping.specs.History.{places_at}
use Rattle.dumping.specs.Order.{instant_at}
use Rattle.dumping.specs.Change.{widened, widening_text}
use Rattle.dumping.specs.Transaction.{all_widened, widenings_text}
use Rattle.dumping.proofs.ChangeBefore.{event_at}

-- ---- a change at a place

instant_is : (front rest : Changes) (c : Point × Option Row) → instant_at (events_of (front ++ c ∷ rest)) (length front) ≡ c.0.instant
instant_is front rest c = ap (λ (o : Option Event). elim o [ None ↦ 0 | Some e ↦ e.at ]) (event_at front rest c)

same_test : (a i : ℕ) → (a == i) ≡ eq_by_cmp nat_cmp i a
same_test a i = grind (arith, nat_tests)

-- the places from one on
abbrev places_from : Changes → ℕ → (n k : ℕ) → List ℕ
places_from m i n k = filter (λ place. instant_at (events_of m) place == i) (range_with_len n k)

-- what is written of net changes, with the widths that each leaves
abbrev pub texts_of : (Widths → (Key × Option Row) → List ℕ) → Widths → Net → List ℕ
texts_of text w [] = []
texts_of text w (c ∷ net) = text w c ++ texts_of text (wider w c.0 c.1) net

module _ (i : ℕ) where
  tested : {m : Changes} (front rest : Changes) (c : Point × Option Row) → m ≡ front ++ c ∷ rest → (instant_at (events_of m) (length front) == i) ≡ eq_by_cmp nat_cmp i c.0.instant
  tested front rest c is = ap (λ a. a == i) (ap (λ (l : Changes). instant_at (events_of l) (length front)) is ∙ instant_is front rest c) ∙ same_test c.0.instant i

  -- ---- a list for each

  module _ {X : Type 0} (f : Changes → ℕ → List X) (h : (Key × Option Row) → List X) where
    -- what is at a place is what its change has
    abbrev pub AreAlike : Changes → Type 0
    AreAlike m = (front rest : Changes) (c : Point × Option Row) → m ≡ front ++ c ∷ rest → c.0.instant ≡ i → f m (length front) ≡ h (c.0.key, c.1)

    alike_from : (m front rest : Changes) → m ≡ front ++ rest → AreAlike m → flat_map (f m) (places_from m i (length front) (length rest)) ≡ flat_map h (net_at i rest)
    alike_from m front [] is alike = refl
    alike_from m front (c ∷ rest) is alike =
        by (instant_at (events_of m) (length front) == i) (eq_by_cmp nat_cmp i c.0.instant) (tested front rest c is)
        (λ e. sym (nat_cmp-IsAntisymmetric i c.0.instant (is_equal (nat_cmp i c.0.instant) e)))
        (ap (λ n. flat_map (f m) (places_from m i n (length rest))) (sym (length-append front (c ∷ [])))
        ∙ alike_from m (front ++ c ∷ []) rest (is ∙ sym (append_assoc front (c ∷ []) rest)) alike)
      where
        by : (a b : Bool) → a ≡ b → (b ≡ true → c.0.instant ≡ i) → flat_map (f m) (places_from m i (length front + 1) (length rest)) ≡ flat_map h (net_at i rest)
            → flat_map (f m) (cond a (length front ∷ places_from m i (length front + 1) (length rest)) (places_from m i (length front + 1) (length rest)))
            ≡ flat_map h (map (λ d. (d.0.key, d.1)) (cond b (c ∷ filter (λ d. eq_by_cmp nat_cmp i d.0.instant) rest) (filter (λ d. eq_by_cmp nat_cmp i d.0.instant) rest)))
        by true true e here others = λ k. alike front rest c is (here refl) k ++ others k
        by true false e here others = cc
        by false true e here others = cc
        by false false e here others = others

    pub all_alike : (m : Changes) → AreAlike m → flat_map (f m) (places_at (events_of m) i) ≡ flat_map h (net_at i m)
    all_alike m alike = ap (λ n. flat_map (f m) (places_from m i 0 n)) (length-map m event_of) ∙ alike_from m [] m refl alike

  -- ---- what each does to the widths, and what is written then

  module _ (tables : Schema) (text : Widths → (Key × Option Row) → List ℕ) where
    -- with the widths at hand
    pub record WidensAlike (m : Changes) : Type 0 where
      pub texts : (front rest : Changes) (c : Point × Option Row) (w : Widths) → m ≡ front ++ c ∷ rest → widening_text tables (events_of m) w (length front) ≡ text w (c.0.key, c.1)
      pub widths : (front rest : Changes) (c : Point × Option Row) (w : Widths) → m ≡ front ++ c ∷ rest → widened tables (events_of m) w (length front) ≡ wider w c.0.key c.1

    abbrev pub AreWidened : Changes → Widths → Net → (places : List ℕ) → Type 0
    AreWidened m w net places = (widenings_text tables (events_of m) w places ≡ texts_of text w net) × (all_widened tables (events_of m) w places ≡ widths_after w net)

    widened_from : (m front rest : Changes) (w : Widths) → m ≡ front ++ rest → WidensAlike m → AreWidened m w (net_at i rest) (places_from m i (length front) (length rest))
    widened_from m front [] w is alike = (refl, refl)
    widened_from m front (c ∷ rest) w is alike =
        by (instant_at (events_of m) (length front) == i) (eq_by_cmp nat_cmp i c.0.instant) (tested front rest c is)
        (λ v. subst (AreWidened m v (net_at i rest)) (ap (λ n. places_from m i n (length rest)) (length-append front (c ∷ []))) (widened_from m (front ++ c ∷ []) rest v (is ∙ sym (append_assoc front (c ∷ []) rest)) alike))
      where
        by : (a b : Bool) → a ≡ b → ((v : Widths) → AreWidened m v (net_at i rest) (places_from m i (length front + 1) (length rest)))
            → AreWidened m w (map (λ d. (d.0.key, d.1)) (cond b (c ∷ filter (λ d. eq_by_cmp nat_cmp i d.0.instant) rest) (filter (λ d. eq_by_cmp nat_cmp i d.0.instant) rest)))
            (cond a (length front ∷ places_from m i (length front + 1) (length rest)) (places_from m i (length front + 1) (length rest)))
        by true true e others =
            let here = alike.widths front rest c w is in
            let next = others (wider w c.0.key c.1) in (
              λ k. alike.texts front rest c w is k ++ (ap (λ (v : Widths). widenings_text tables (events_of m) v (places_from m i (length front + 1) (length rest))) here ∙ next.0) k,
              ap (λ (v : Widths). all_widened tables (events_of m) v (places_from m i (length front + 1) (length rest))) here ∙ next.1,
            )
        by true false e others = cc
        by false true e others = cc
        by false false e others = others w

    pub all_widened_alike : (m : Changes) (w : Widths) → WidensAlike m → AreWidened m w (net_at i m) (places_at (events_of m) i)
    all_widened_alike m w alike = subst (λ n. AreWidened m w (net_at i m) (places_from m i 0 n)) (sym (length-map m event_of)) (widened_from m [] m w refl alike)
