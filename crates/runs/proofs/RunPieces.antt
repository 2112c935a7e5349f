-- The events of all parts, put in turn.
use Rattle.std.proofs.Common.{◌≡◌, ℕ, ◌==◌, Bool, true, false, cond, List, [], ◌∷◌, ◌++◌, None, refl, sym, ap, subst, ◌∙◌, arith, append-nil}
use Rattle.std.specs.List.{AllByRecursion}
use Rattle.std.proofs.lemmas.Bool.Decides.{nat_tests}
use Rattle.std.proofs.lemmas.List.Elements.{filter-append}
use Rattle.values.specs.Tables.{Schema}
use Rattle.runs.specs.Event.{Event, of_part}
use Rattle.runs.proofs.RunAlong.{Chain, same_number}
use Rattle.runs.proofs.OneHistoryBeside.{Held, Moves}
use Rattle.runs.proofs.TellsFacts.{number_of}
use Rattle.runs.proofs.RunInTurn.{in_turn}

pub record Piece : Type 0 where
  pub part : ℕ
  pub events : List Event

abbrev pub all_events : List Piece → List Event
all_events [] = []
all_events (p ∷ pieces) = p.events ++ all_events pieces

abbrev pub Apart : List Piece → Type 0
Apart [] = Unit {0}
Apart (p ∷ pieces) = AllByRecursion (λ q. (q.part == p.part) ≡ false) pieces × Apart pieces

-- what a part comes to by its events in turn
pub record IsPiece (schema : Schema) (p : Piece) : Type 0 where
  pub its : AllByRecursion (λ e. e.part ≡ p.part) p.events
  pub end : Held
  pub goes : Chain (Moves schema) None (in_turn number_of p.events) end

pub mine : (i : ℕ) (xs : List Event) → AllByRecursion (λ e. e.part ≡ i) xs → of_part i xs ≡ xs
mine i [] its = refl
mine i (x ∷ xs) its =
    let is : x.part ≡ i = its.0 in
    let h : (x.part == i) ≡ true = grind (arith, nat_tests) in
    (λ k. cond (h k) (x ∷ of_part i xs) (of_part i xs)) ∙ ap (λ zs. x ∷ zs) (mine i xs its.1)

pub not_mine : (i j : ℕ) (xs : List Event) → (j == i) ≡ false → AllByRecursion (λ e. e.part ≡ j) xs → of_part i xs ≡ []
not_mine i j [] other its = refl
not_mine i j (x ∷ xs) other its =
    (λ k. cond ((ap (λ n. n == i) its.0 ∙ other) k) (x ∷ of_part i xs) (of_part i xs)) ∙ not_mine i j xs other its.1

flip : (a b : ℕ) → (a == b) ≡ false → (b == a) ≡ false
flip a b h = grind (arith, nat_tests)

module _ (schema : Schema) where
  pub none_of : (i : ℕ) (pieces : List Piece) → AllByRecursion (IsPiece schema) pieces → AllByRecursion (λ p. (p.part == i) ≡ false) pieces → of_part i (all_events pieces) ≡ []
  none_of i [] are apart = refl
  none_of i (p ∷ pieces) are apart =
      filter-append (λ e. e.part == i) p.events (all_events pieces)
      ∙ (λ k. not_mine i p.part p.events apart.0 are.0.its k ++ none_of i pieces are.1 apart.1 k)

  pub first_of : (p : Piece) (pieces : List Piece) → AllByRecursion (IsPiece schema) (p ∷ pieces) → Apart (p ∷ pieces) → of_part p.part (p.events ++ all_events pieces) ≡ p.events
  first_of p pieces are apart =
      filter-append (λ e. e.part == p.part) p.events (all_events pieces)
      ∙ (λ k. mine p.part p.events are.0.its k ++ none_of p.part pieces are.1 apart.0 k)
      ∙ append-nil p.events

  -- of the events of a part that is not the first
  pub later_of : (i : ℕ) (p : Piece) (pieces : List Piece) → IsPiece schema p → (p.part == i) ≡ false → of_part i (p.events ++ all_events pieces) ≡ of_part i (all_events pieces)
  later_of i p pieces is other =
      filter-append (λ e. e.part == i) p.events (all_events pieces)
      ∙ ap (λ xs. xs ++ of_part i (all_events pieces)) (not_mine i p.part p.events other is.its)

  all_later : (p : Piece) (pieces more : List Piece) → IsPiece schema p → AllByRecursion (λ q. (q.part == p.part) ≡ false) more
      → AllByRecursion (λ q. of_part q.part (all_events pieces) ≡ q.events) more → AllByRecursion (λ q. of_part q.part (p.events ++ all_events pieces) ≡ q.events) more
  all_later p pieces [] is apart each = tt
  all_later p pieces (q ∷ more) is apart each = (later_of q.part p pieces is (flip q.part p.part apart.0) ∙ each.0, all_later p pieces more is apart.1 each.1)

  pub each_of : (pieces : List Piece) → AllByRecursion (IsPiece schema) pieces → Apart pieces → AllByRecursion (λ p. of_part p.part (all_events pieces) ≡ p.events) pieces
  each_of [] are apart = tt
  each_of (p ∷ pieces) are apart = (first_of p pieces are apart, all_later p pieces pieces are.0 apart.0 (each_of pieces are.1 apart.1))

  abbrev Comes : List Event → Type 0
  Comes xs = (t : Held) × Chain (Moves schema) None (in_turn number_of xs) t

  -- whatever the part, it goes by its events in turn
  pub goes_of : (i : ℕ) (pieces : List Piece) → AllByRecursion (IsPiece schema) pieces → Apart pieces → Comes (of_part i (all_events pieces))
  goes_of i [] are apart = (None, refl)
  goes_of i (p ∷ pieces) are apart = by (p.part == i) refl (goes_of i pieces are.1 apart.1)
    where
      by : (b : Bool) → (p.part == i) ≡ b → Comes (of_part i (all_events pieces)) → Comes (of_part i (p.events ++ all_events pieces))
      by true is rest =
          subst (λ i. Comes (of_part i (p.events ++ all_events pieces))) (same_number p.part i is)
          (subst Comes (sym (first_of p pieces are apart)) (are.0.end, are.0.goes))
      by false is rest = subst Comes (sym (later_of i p pieces are.0 is)) rest
