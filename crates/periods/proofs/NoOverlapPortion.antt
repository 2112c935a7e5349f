-- A portion of rows that have their own keys leaves what it leaves by these; so no two of them overlap.
use Rattle.std.proofs.Common.{◌≡◌, ℕ, ◌≤◌, Bool, true, false, List, [], ◌∷◌, ◌++◌, Option, Some, None, refl, sym, ap, subst, ◌∙◌, map, length, if◌then◌else◌}
use Rattle.std.proofs.lemmas.List.{map-append}
use Rattle.std.specs.List.{flat_map}
use Rattle.values.specs.declared.period.Period.{Period}
use Rattle.values.specs.declared.period.Span.{Span}
use Rattle.values.specs.declared.value.Value.{Value}
use Rattle.values.specs.declared.value.Value.TheVariants.{Int}
use Rattle.values.specs.declared.key.Key.{Key}
use Rattle.values.specs.declared.table.Table.{Table}
use Rattle.values.specs.declared.query.Keys.{Keys}
use Rattle.values.specs.declared.query.Set.{Set}
use Rattle.values.specs.Log.{State, Row}
use Rattle.values.specs.Writes.{key_of, keyed, full_rows, insert_all}
use Rattle.values.specs.Period.{Periods, span_of, is_span, common, before, behind, with_span}
use Rattle.values.specs.Portion as by_key
use Rattle.values.specs.Portion.{changed, taken, not_taken, with_start}
use Rattle.values.specs.Tables.{value_at, but_last}
use Rattle.values.specs.TableRules.{HasPeriod}
use Rattle.values.specs.Each.{Each}
use Rattle.periods.specs.NoOverlap.{NoOverlap, Tables, AreKeyed}
use Rattle.periods.proofs.NoOverlapColumns.{but_last_map, entity_with_span, start_with_span}
use Rattle.periods.proofs.NoOverlapKeyed.{piece, piece_of, pieces, all_pieces, change_portion}
use Rattle.periods.proofs.NoOverlapPieces as own

-- the key with the span's start is that of the row with the span
pub with_start_is : (table : Table) (p : Period) (s : Span) (row : Row) (k : Key) → HasPeriod table p → p.from ≤ length row → k ≡ key_of table row → with_start k s.from ≡ key_of table (with_span p s row)
with_start_is table p s row k has within is = λ i. record { table = number i; parts = parts i }
  where
    now : ℕ → Value
    now = value_at (with_span p s row)

    number : k.table ≡ table.number
    number = ap (λ (k : Key). k.table) is

    parts : but_last k.parts ++ Int s.from ∷ [] ≡ map now table.key
    parts =
        ap (λ (k : Key). but_last k.parts ++ Int s.from ∷ []) is
        ∙ ap (λ (k : Key). k.parts ++ Int s.from ∷ []) (sym (entity_with_span table p s row has))
        ∙ (λ i. but_last_map now table.key i ++ sym (start_with_span table p s row has within) i ∷ [])
        ∙ sym (map-append now (but_last table.key) (p.from ∷ []))
        ∙ ap (map now) (sym has.start_last)

same_piece : (table : Table) (p : Period) (s : Span) (row : Row) (k : Key) → HasPeriod table p → p.from ≤ length row → k ≡ key_of table row → by_key.piece p k row s ≡ piece table p row s
same_piece table p s row k has within is = by (is_span s)
  where
    by : (b : Bool) → (if b then (with_start k s.from, with_span p s row) ∷ [] else []) ≡ (if b then keyed table (with_span p s row) ∷ [] else [])
    by true = ap (λ (k : Key). (k, with_span p s row) ∷ []) (with_start_is table p s row k has within is)
    by false = refl

module _ (tables : Tables) (periods : Periods) (table : Table) (p : Period) (is_table : tables table.number ≡ Some table) (at : periods table.number ≡ Some p) (has : HasPeriod table p) (cut : Span) (good : is_span cut ≡ true) (sets : Option (List Set)) (keeps : own.Keeps table p sets) where
  Hit : Key × Row → Type 0
  Hit e = own.IsHit tables periods table p is_table at has cut good sets keeps e

  New : Key × Row → Option Row → Type 0
  New e new = own.IsNewOf tables periods table p is_table at has cut good sets keeps e new

  same_new : (e : Key × Row) (new : Option Row) (s : Span) → Hit e → New e new → (elim new as (λ _. State) [ None ↦ [] | Some row ↦ by_key.piece p e.0 row s ]) ≡ piece_of table p new s
  unfolding Hit New
  same_new e None s hit is = refl
  same_new e (Some row) s hit is = same_piece table p s row e.0 has (subst (λ n. p.from ≤ n) (sym is.width) hit.is_keyed.start_within) (hit.is_keyed.key_is ∙ sym is.same)

  same_pieces : (e : Key × Row) → Hit e → by_key.pieces p cut sets e ≡ pieces table p cut sets e.1
  unfolding Hit New
  same_pieces e hit =
      λ i. same_piece table p (before (span_of p e.1) cut) e.1 e.0 has hit.is_keyed.start_within hit.is_keyed.key_is i
      ++ (same_new e (changed sets e.1) (common (span_of p e.1) cut) hit (own.new_is tables periods table p is_table at has cut good sets keeps e sets keeps) i
      ++ same_piece table p (behind (span_of p e.1) cut) e.1 e.0 has hit.is_keyed.start_within hit.is_keyed.key_is i)

  same_all : (es : State) → Each Hit es → flat_map (by_key.pieces p cut sets) es ≡ all_pieces table p cut sets es
  same_all [] hits = refl
  same_all (e ∷ es) hits = λ i. same_pieces e hits.0 i ++ same_all es hits.1 i

  pub same_portion : (keys : Keys) (m : State) → keys.table ≡ table.number → AreKeyed tables periods m → by_key.change_portion table p keys cut sets m ≡ change_portion table p keys cut sets m
  unfolding Hit
  same_portion keys m same keyed =
      ap (insert_all (not_taken table p keys cut m))
      (same_all (full_rows table (taken table p keys cut m)) (own.hits_left tables periods table p is_table at has cut good sets keeps keys m same keyed))

  -- a portion of rows that do not clash leaves such
  pub portion_apart : (keys : Keys) (m : State) → keys.table ≡ table.number → AreKeyed tables periods m → NoOverlap periods m → NoOverlap periods (by_key.change_portion table p keys cut sets m)
  portion_apart keys m same keyed apart =
      subst (NoOverlap periods) (sym (same_portion keys m same keyed))
      (own.portion_apart tables periods table p is_table at has cut good sets keeps keys m same keyed apart)

  -- and rows that have their own keys
  pub portion_keyed : (keys : Keys) (m : State) → keys.table ≡ table.number → AreKeyed tables periods m → AreKeyed tables periods (by_key.change_portion table p keys cut sets m)
  portion_keyed keys m same keyed =
      subst (AreKeyed tables periods) (sym (same_portion keys m same keyed))
      (own.portion_keyed tables periods table p is_table at has cut good sets keeps keys m same keyed)
