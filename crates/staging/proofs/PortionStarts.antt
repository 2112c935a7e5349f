-- The keys of what a portion leaves.
use Rattle.std.proofs.Common.{◌≡◌, ℕ, ◌≤◌, ◌<◌, ℤ, get_or, Bool, true, List, [], ◌∷◌, ◌++◌, Option, Some, None, Result, Ok, Err, OnOk, refl, sym, ap, subst, ◌∙◌, arith, suc, length, All, if◌then◌else◌, length-append}
use Rattle.std.specs.Prelude.{◌==◌}
use Rattle.std.proofs.lemmas.Bool.Decides.{nat_tests}
use Rattle.std.proofs.lemmas.List.Elements.{All-head, All-tail, All-cons, All-nil, All-append, All-push, All-get_or}
use Rattle.values.specs.declared.period.Period.{Period}
use Rattle.values.specs.declared.value.Value.{Value}
use Rattle.values.specs.declared.value.Value.TheVariants.{Int}
use Rattle.values.specs.declared.table.ColumnType.{ColumnType}
use Rattle.values.specs.declared.table.Column.{Column}
use Rattle.values.specs.declared.table.Table.{Table}
use Rattle.values.specs.declared.key.Key.{Key}
use Rattle.values.specs.Tables.{column_at, but_last}
use Rattle.values.specs.TableRules.{HasPeriod}
use Rattle.values.specs.Fit.{fits_type, fits_value, part_fault, parts_fault, first_of}
use Rattle.values.specs.KeyEncoding.{IsShort, IsShortKey}
use Rattle.values.specs.KeyReading.{IsKeyOf}
use Rattle.values.specs.RowEncoding.{IsHeld}
use Rattle.values.specs.Log.{State, Net, Row}
use Rattle.values.specs.Portion.{with_start}
use Rattle.staging.specs.Staged.{KeepsKeys, KeepsAllKeys}
use Rattle.values.proofs.KeyLengths.{FitsColumn, FitsKey, part_fits, key_fits, first_none}

module _ (P : Value → Type 0) where
  all_but_last : (vs : List Value) → All P vs → All P (but_last vs)
  all_but_last [] all = All-nil P
  all_but_last (v ∷ []) all = All-nil P
  all_but_last (v ∷ w ∷ vs) all = All-cons P v (but_last (w ∷ vs)) (All-head P v (w ∷ vs) all) (all_but_last (w ∷ vs) (All-tail P v (w ∷ vs) all))

  -- what holds of all values holds of them with another last one
  all_with_last : (vs : List Value) (v : Value) → All P vs → P v → All P (but_last vs ++ v ∷ [])
  all_with_last vs v all is = All-append P (but_last vs) (v ∷ []) (all_but_last vs all) (All-cons P v [] is (All-nil P))

same_width : (vs : List Value) (v : Value) → 1 ≤ length vs → length (but_last vs ++ v ∷ []) ≡ length vs
same_width [] v some = absurd (omega arith)
same_width (w ∷ []) v some = refl
same_width (w ∷ x ∷ vs) v some = ap suc (same_width (x ∷ vs) v (omega arith))

with_last_length : (vs : List Value) (v : Value) (n : ℕ) → 1 ≤ n → length vs ≤ n → length (but_last vs ++ v ∷ []) ≤ n
with_last_length [] v n some few = some
with_last_length (w ∷ vs) v n some few = subst (λ m. m ≤ n) (sym (same_width (w ∷ vs) v (omega arith))) few

pub start_short : (k : Key) (start : ℤ) → IsShortKey k → IsShortKey (with_start k start)
start_short k start is = record {
  few_parts = with_last_length k.parts (Int start) 4 (omega arith) is.few_parts;
  short_parts = all_with_last IsShort k.parts (Int start) is.short_parts tt;
}

-- ---- a key that fits, with another start

module _ (table : Table) (p : Period) (has : HasPeriod table p) (start : ℤ) where
  whole : (c : Column) → column_at table p.from ≡ Some c → fits_value true c (Int start) ≡ true
  whole c found = ap (λ (of : ColumnType). fits_type 200 of (Int start)) (has.start_instants c found).whole

  start_fits : (v : Value) → part_fault table p.from v ≡ None → part_fault table p.from (Int start) ≡ None
  start_fits v fits =
      ap (λ (o : Option Column). elim o [ None ↦ Some 0 | Some c ↦ if fits_value true c (Int start) then None else Some p.from ]) is.found
      ∙ ap (λ (b : Bool). if b then None else Some p.from) (whole is.column is.found)
    where
      is : FitsColumn table p.from v
      is = part_fits table p.from v fits

  last_fits : (ns : List ℕ) (vs : List Value) → length (ns ++ p.from ∷ []) ≡ length vs → parts_fault table (ns ++ p.from ∷ []) vs ≡ None → parts_fault table (ns ++ p.from ∷ []) (but_last vs ++ Int start ∷ []) ≡ None
  last_fits [] [] same fits = absurd (omega arith)
  last_fits [] (v ∷ []) same fits =
      ap (λ (o : Option ℕ). first_of o None) (start_fits v (first_none (part_fault table p.from v) None fits).0)
  last_fits [] (v ∷ w ∷ vs) same fits = absurd (omega arith)
  last_fits (n ∷ ns) [] same fits = absurd (omega arith)
  last_fits (n ∷ ns) (v ∷ []) same fits = absurd (omega (arith, length-append ns (p.from ∷ [])))
  last_fits (n ∷ ns) (v ∷ w ∷ vs) same fits =
      let both : (part_fault table n v ≡ None) × (parts_fault table (ns ++ p.from ∷ []) (w ∷ vs) ≡ None) = first_none (part_fault table n v) (parts_fault table (ns ++ p.from ∷ []) (w ∷ vs)) fits in
      ap (λ (o : Option ℕ). first_of o (parts_fault table (ns ++ p.from ∷ []) (but_last (w ∷ vs) ++ Int start ∷ []))) both.0
      ∙ last_fits ns (w ∷ vs) (omega arith) both.1

  pub start_own : (k : Key) → IsKeyOf table k → IsHeld (Int start) → IsKeyOf table (with_start k start)
  start_own k is held = record {
    own = is.own;
    fits =
        ap (λ (b : Bool). if b then parts_fault table table.key (but_last k.parts ++ Int start ∷ []) else Some 0) width
        ∙ subst (λ ns. parts_fault table ns (but_last k.parts ++ Int start ∷ []) ≡ None) (sym has.start_last)
        (last_fits (but_last table.key) k.parts (ap length (sym has.start_last) ∙ fitting.same_width)
        (subst (λ ns. parts_fault table ns k.parts ≡ None) has.start_last fitting.no_fault));
    held = all_with_last IsHeld k.parts (Int start) is.held held;
  }
    where
      fitting : FitsKey table k.parts
      fitting = key_fits table k.parts is.fits

      some : 1 ≤ length k.parts
      some = omega (arith, ap length has.start_last, length-append (but_last table.key) (p.from ∷ []), fitting.same_width)

      equal : (a b : ℕ) → a ≡ b → (a == b) ≡ true
      equal a b e = grind (arith, nat_tests)

      width : (length table.key == length (but_last k.parts ++ Int start ∷ [])) ≡ true
      width = equal _ _ (fitting.same_width ∙ sym (same_width k.parts (Int start) some))

-- ---- changes with more keys

pub keeps_same : (table : Table) (key : Key) (old new : Net) → new ≡ old → KeepsKeys table key old new
keeps_same table key old new same = record {
  own = λ is all. subst (All (λ c. IsKeyOf table c.0)) (sym same) all;
  short = λ is all. subst (All (λ c. IsShortKey c.0)) (sym same) all;
}

pub keeps_pushed : (table : Table) (p : Period) → HasPeriod table p → (key : Key) (start : ℤ) (row : Option Row) (old new : Net) → IsHeld (Int start) → new ≡ old ++ (with_start key start, row) ∷ [] → KeepsKeys table key old new
keeps_pushed table p has key start row old new held is = record {
  own = λ own all. subst (All (λ c. IsKeyOf table c.0)) (sym is) (All-push (λ (c : Key × Option Row). IsKeyOf table c.0) old (with_start key start, row) all (start_own table p has start key own held));
  short = λ short all. subst (All (λ c. IsShortKey c.0)) (sym is) (All-push (λ (c : Key × Option Row). IsShortKey c.0) old (with_start key start, row) all (start_short key start short));
}

pub keeps_both : (table : Table) (key : Key) (old now new : Net) → KeepsKeys table key old now → KeepsKeys table key now new → KeepsKeys table key old new
keeps_both table key old now new one two = record {
  own = λ is all. two.own is (one.own is all);
  short = λ is all. two.short is (one.short is all);
}

-- the changes of one row after those of others
pub keeps_more : (table : Table) (rows : State) (i : ℕ) (e : Key × Row) (old new : Net) → i < length rows → e ≡ get_or rows i e → KeepsKeys table e.0 old new → KeepsAllKeys table rows old → KeepsAllKeys table rows new
keeps_more table rows i e old new lt at keeps all = record {
  own = λ own. keeps.own (subst (λ (d : Key × Row). IsKeyOf table d.0) (sym at) (All-get_or (λ (d : Key × Row). IsKeyOf table d.0) rows i e lt own)) (all.own own);
  short = λ short. keeps.short (subst (λ (d : Key × Row). IsShortKey d.0) (sym at) (All-get_or (λ (d : Key × Row). IsShortKey d.0) rows i e lt short)) (all.short short);
}

pub keeps_key : (table : Table) (key : Key) (row : Option Row) (old new : Net) → new ≡ old ++ (key, row) ∷ [] → KeepsKeys table key old new
keeps_key table key row old new is = record {
  own = λ own all. subst (All (λ c. IsKeyOf table c.0)) (sym is) (All-push (λ (c : Key × Option Row). IsKeyOf table c.0) old (key, row) all own);
  short = λ short all. subst (All (λ c. IsShortKey c.0)) (sym is) (All-push (λ (c : Key × Option Row). IsShortKey c.0) old (key, row) all short);
}

pub on_ok : {X E A B : Type 0} (r : Result X E) → OnOk r A → (A → B) → OnOk r B
on_ok (Ok x) a f = f a
on_ok (Err e) a f = tt
