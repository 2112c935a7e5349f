-- The test of a row that can be stored, and the fact.
use Rattle.std.proofs.Common.{◌≡◌, List, [], ◌∷◌, ◌&&◌, true, length, refl, ap, ◌∙◌, arith, nat_le, All}
use Rattle.std.proofs.lemmas.Bool.{and_parts}
use Rattle.std.specs.List.{list_all}
use Rattle.std.proofs.lemmas.Bool.Decides.{nat_tests}
use Rattle.std.proofs.lemmas.List.Elements.{All-cons, All-nil, All-head, All-tail}
use Rattle.values.specs.declared.value.Value.{Value}
use Rattle.values.specs.Log.{Row}
use Rattle.values.specs.RowEncoding.{IsStored, IsStoredRow, is_stored, is_stored_row, is_width}

all_stored : (vs : List Value) → list_all is_stored vs ≡ true → All IsStored vs
all_stored [] e = All-nil IsStored
all_stored (v ∷ vs) e = All-cons IsStored v vs (and_parts _ _ e).0 (all_stored vs (and_parts (is_stored v) _ e).1)

pub all_are : (vs : List Value) → All IsStored vs → list_all is_stored vs ≡ true
all_are [] h = refl
all_are (v ∷ vs) h = ap (λ t. t && list_all is_stored vs) (All-head IsStored v vs h) ∙ all_are vs (All-tail IsStored v vs h)

pub stored_row : (row : Row) → is_stored_row row ≡ true → IsStoredRow row
stored_row row e =
    let width = (and_parts (is_width (length row)) _ e).0 in
    let low = (and_parts (nat_le 1 (length row)) _ width).0 in
    let high = (and_parts (nat_le 1 (length row)) _ width).1 in
    record { some = grind (arith, nat_tests); few = grind (arith, nat_tests); stored = all_stored row ((and_parts (is_width (length row)) _ e).1) }

pub is_stored_row_of : (row : Row) → IsStoredRow row → is_stored_row row ≡ true
is_stored_row_of row s =
    let low : nat_le 1 (length row) ≡ true = grind (arith, nat_tests, s.some) in
    let high : nat_le (length row) 16 ≡ true = grind (arith, nat_tests, s.few) in
    ap (λ t. (t && nat_le (length row) 16) && list_all is_stored row) low ∙ ap (λ t. t && list_all is_stored row) high ∙ all_are row s.stored
