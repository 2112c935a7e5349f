-- The fields of a record, one after another.
use Rattle.std.proofs.Common.{◌≡◌, ◌<◌, ◌+◌, ℕ, zero, suc, List, [], ◌∷◌, ◌++◌, refl, sym, ◌∙◌, ap, drop, length, get_or, append_assoc, map}
use Rattle.std.specs.Prelude.{unwrap_or}
use Rattle.std.proofs.lemmas.List.{at_drop_more}
use Rattle.csv.specs.Records.{field_at}

pub unwrapped : (fields : List (List ℕ)) (i : ℕ) → unwrap_or (field_at fields i) [] ≡ get_or fields i []
unfolding field_at
unwrapped [] i = refl
unwrapped (f ∷ fs) zero = refl
unwrapped (f ∷ fs) (suc i) = unwrapped fs i

-- one more item of a list that was made of the fields in front
pub one_more : {A : Type 0} (g : List ℕ → A) (fields : List (List ℕ)) (i : ℕ) (front : List A) (x : A) → i < length fields → x ≡ g (unwrap_or (field_at fields i) [])
    → (front ++ x ∷ []) ++ map g (drop (i + 1) fields) ≡ front ++ map g (drop i fields)
one_more g fields i front x less is =
    append_assoc front (x ∷ []) (map g (drop (i + 1) fields))
    ∙ ap (λ y. front ++ y ∷ map g (drop (i + 1) fields)) (is ∙ ap g (unwrapped fields i))
    ∙ ap (λ l. front ++ map g l) (sym (at_drop_more (λ (l : List (List ℕ)). l) fields i [] less))
