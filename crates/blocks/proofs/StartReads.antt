-- What a block begins with reads back, and nothing else is read.
use Rattle.std.proofs.Common.{◌≡◌, ℕ, List, [], ◌∷◌, ◌++◌, Bool, true, false, Option, Some, None, take, drop, refl, sym, ap, ◌∙◌, arith, if◌then◌else◌}
use Rattle.std.specs.Prelude.{nat_eq}
use Rattle.std.specs.Cmp.Lexicographic.{pointwise}
use Rattle.std.proofs.lemmas.Bool.{and_parts}
use Rattle.std.proofs.lemmas.Bool.Decides.{nat_tests}
use Rattle.std.proofs.lemmas.List.{take-append-drop}
use Rattle.values.specs.RowReading.{Parsed}
use Rattle.values.proofs.RowReads.{same_taken}
use Rattle.blocks.specs.Start.{first_mark, second_mark, start_field, mark_from, width_from, start_from}

pub start_back : (stated : Option ℕ) (rest : List ℕ) → start_from (start_field stated ++ rest) ≡ Some (stated, rest)
unfolding start_from mark_from
start_back None rest = refl
start_back (Some width) rest = refl

same_number : (a b : ℕ) → nat_eq a b ≡ true → a ≡ b
same_number a b e = grind (arith, nat_tests)

same_lists : (xs ys : List ℕ) → pointwise nat_eq xs ys ≡ true → xs ≡ ys
same_lists [] [] e = refl
same_lists [] (y ∷ ys) e = cc
same_lists (x ∷ xs) [] e = cc
same_lists (x ∷ xs) (y ∷ ys) e =
    let two = and_parts (nat_eq x y) (pointwise nat_eq xs ys) e in
    ap (λ n. n ∷ xs) (same_number x y two.0) ∙ ap (λ l. y ∷ l) (same_lists xs ys two.1)

mark_by : (mark bytes rest : List ℕ) (t : Bool) → pointwise nat_eq (take 4 bytes) mark ≡ t → ◌≡◌ {A = Option (List ℕ)} (if t then Some (drop 4 bytes) else None) (Some rest) → bytes ≡ mark ++ rest
mark_by mark bytes rest false e is = cc
mark_by mark bytes rest true e is =
    let left : drop 4 bytes ≡ rest = cc in
    sym (take-append-drop 4 bytes) ∙ ap (λ l. l ++ drop 4 bytes) (same_lists (take 4 bytes) mark e) ∙ ap (λ l. mark ++ l) left

mark_only : (mark bytes rest : List ℕ) → mark_from mark bytes ≡ Some rest → bytes ≡ mark ++ rest
unfolding mark_from
mark_only mark bytes rest is = mark_by mark bytes rest (pointwise nat_eq (take 4 bytes) mark) refl is

width_only : (o : Option (List ℕ)) (stated : Option ℕ) (rest : List ℕ) → width_from o ≡ Some (stated, rest) → (width : ℕ) × ((o ≡ Some (width ∷ rest)) × (stated ≡ Some width))
width_only None stated rest is = cc
width_only (Some []) stated rest is = cc
width_only (Some (b ∷ bs)) stated rest is =
    let parts = same_taken (Some b) stated bs rest is in
    (b, (ap (λ l. Some (b ∷ l)) parts.1, sym parts.0))

start_by : (bytes : List ℕ) (o p : Option (List ℕ)) → mark_from first_mark bytes ≡ o → mark_from second_mark bytes ≡ p → (stated : Option ℕ) (rest : List ℕ)
    → ◌≡◌ {A = Parsed (Option ℕ)} (elim o [ Some left ↦ Some (None, left) | None ↦ width_from p ]) (Some (stated, rest)) → bytes ≡ start_field stated ++ rest
start_by bytes (Some left) p first second stated rest is =
    let parts = same_taken None stated left rest is in
    mark_only first_mark bytes left first ∙ (λ k. start_field (parts.0 k) ++ parts.1 k)
start_by bytes None p first second stated rest is =
    let parts = width_only p stated rest is in
    mark_only second_mark bytes (parts.0 ∷ rest) (second ∙ parts.1.0) ∙ sym (ap (λ s. start_field s ++ rest) parts.1.1)

pub start_only : (bytes : List ℕ) (stated : Option ℕ) (rest : List ℕ) → start_from bytes ≡ Some (stated, rest) → bytes ≡ start_field stated ++ rest
unfolding start_from
start_only bytes stated rest is = start_by bytes (mark_from first_mark bytes) (mark_from second_mark bytes) refl refl stated rest is
