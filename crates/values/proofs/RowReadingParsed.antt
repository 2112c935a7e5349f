-- Values that are taken one after the other.
use Rattle.std.proofs.Common.{◌≡◌, ℕ, ◌+◌, ◌-◌, ◌<◌, List, [], ◌∷◌, ◌++◌, Some, None, suc, refl, sym, ap, ◌∙◌, append_assoc, arith}
use Rattle.values.specs.declared.value.Value.{Value}
use Rattle.values.specs.RowReading.{Parsed, value_from, values_from, after}

pub left : (n i : ℕ) → i < n → n - i ≡ suc (n - (i + 1))
left n i h = omega arith

pub after-after : {A : Type 0} (xs ys : List A) (r : Parsed (List A)) → after xs (after ys r) ≡ after (xs ++ ys) r
after-after xs ys None = refl
after-after xs ys (Some x) = ap (λ l. Some (l, x.1)) (sym (append_assoc xs ys x.0))

abbrev turned : ℕ → Parsed Value → Parsed (List Value)
turned n r = elim r [ None ↦ None | Some x ↦ after (x.0 ∷ []) (values_from n x.1) ]

turns : (n i : ℕ) (xs : List Value) (bytes : List ℕ) (r : Parsed Value) → i < n → value_from bytes ≡ r
    → after xs (values_from (n - i) bytes) ≡ after xs (turned (n - (i + 1)) r)
turns n i xs bytes r h is = ap (λ k. after xs (values_from k bytes)) (left n i h) ∙ ap (λ r. after xs (turned (n - (i + 1)) r)) is

pub values_none : (n i : ℕ) (xs : List Value) (bytes : List ℕ) → i < n → value_from bytes ≡ None → after xs (values_from (n - i) bytes) ≡ None
values_none n i xs bytes h is = turns n i xs bytes None h is

pub values_more : (n i : ℕ) (xs : List Value) (x : Value) (bytes rest : List ℕ) → i < n → value_from bytes ≡ Some (x, rest)
    → after xs (values_from (n - i) bytes) ≡ after (xs ++ x ∷ []) (values_from (n - (i + 1)) rest)
values_more n i xs x bytes rest h is = turns n i xs bytes (Some (x, rest)) h is ∙ after-after xs (x ∷ []) (values_from (n - (i + 1)) rest)
