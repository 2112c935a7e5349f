-- A row is widened value by value.
use Rattle.std.proofs.Common.{◌≡◌, ℕ, ◌+◌, ◌-◌, ◌<◌, ◌≤◌, [], ◌∷◌, ◌++◌, length, replicate, max, refl, sym, ap, ◌∙◌, append_assoc, append-nil, arith}
use Rattle.std.proofs.lemmas.List.{length-append, length-replicate, replicate_more}
use Rattle.std.proofs.lemmas.List.Elements.{All-append, All-replicate}
use Rattle.values.specs.declared.value.Value.TheVariants.{Null}
use Rattle.values.specs.Log.{Row}
use Rattle.values.specs.RowEncoding.{IsStored, IsStoredRow}
use Rattle.values.specs.Tables.{widest, widened}

-- so far
pub record IsWidened (row : Row) (width i : ℕ) (values : Row) : Type 0 where
  pub spelled : values ≡ row ++ replicate (i - length row) Null
  pub from : length row ≤ i
  pub upto : i ≤ max (length row) width

pub widened_none : (row values : Row) (width i : ℕ) → values ≡ row → i ≡ length row → IsWidened row width i values
widened_none row values width i is at = record {
  spelled = is ∙ sym (append-nil row) ∙ ap (λ n. row ++ replicate n Null) zero_is;
  from = omega (arith, at);
  upto = omega (arith, at);
}
  where
    zero_is : 0 ≡ i - length row
    zero_is = omega (arith, at)

pub widened_more : (row old new : Row) (width i : ℕ) → i < width → new ≡ old ++ Null ∷ [] → IsWidened row width i old → IsWidened row width (i + 1) new
widened_more row old new width i below is h = record {
  spelled = is ∙ ap (λ l. l ++ Null ∷ []) h.spelled ∙ append_assoc row (replicate (i - length row) Null) (Null ∷ []) ∙ ap (λ l. row ++ l) (replicate_more (i - length row) Null) ∙ ap (λ n. row ++ replicate n Null) one;
  from = omega (arith, h.from);
  upto = omega (arith, below);
}
  where
    one : (i - length row) + 1 ≡ (i + 1) - length row
    one = omega (arith, h.from)

pub widened_all : (row values : Row) (width i : ℕ) → width ≤ i → IsWidened row width i values → values ≡ widened width row
widened_all row values width i past h = h.spelled ∙ ap (λ n. row ++ replicate n Null) same
  where
    same : i - length row ≡ width - length row
    same = omega (arith, past, h.from, h.upto)

pub widened_stored : (row : Row) (width : ℕ) → width ≤ widest → IsStoredRow row → IsStoredRow (widened width row)
widened_stored row width few h =
    let long : length (widened width row) ≡ length row + (width - length row) = length-append row (replicate (width - length row) Null) ∙ ap (λ n. length row + n) (length-replicate (width - length row) Null) in
    record {
      some = omega (arith, long, h.some);
      few = omega (arith, long, h.few, few);
      stored = All-append IsStored row (replicate (width - length row) Null) h.stored (All-replicate IsStored (width - length row) Null refl);
    }
