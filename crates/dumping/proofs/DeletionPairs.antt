-- The comparisons that take a key, written one after another.
use Rattle.std.proofs.Common.{◌≡◌, ℕ, ◌+◌, ◌<◌, ◌≤◌, List, [], ◌∷◌, ◌++◌, Option, codes, refl, sym, ap, ◌∙◌, subst, ◌⊎◌, inl, inr, Bool, true, false, nat_le, arith, drop, length, get_or, suc, append_assoc, add-one}
use Rattle.std.specs.Prelude.{Result, IsErrAnd, min}
use Rattle.std.specs.Io.KnownBytes.{Appends}
use Rattle.std.specs.List.{flat_map}
use Rattle.std.proofs.Math.Seq.{drop-cons}
use Rattle.std.proofs.lemmas.List.{drop_all}
use Rattle.std.proofs.lemmas.Bool.Decides.{nat_tests}
use Rattle.values.specs.declared.query.Comparison.{Comparison}
use Rattle.values.specs.declared.table.Table.{Table}
use Rattle.values.specs.declared.value.Value.{Value}
use Rattle.statement.specs.Print.{line}
use Rattle.statement.specs.Writer.{AppendsPrefix, Prints}
use Rattle.statement.proofs.WriterPrefixes.{Left, left_taken, left_front}
use Rattle.dump_steps.specs.Dump.{comparisons_of}
use Rattle.dumping.specs.DumpText.{next_pair, pair_text, where_text}
use Rattle.dumping.specs.Deletion.{pair_of}
use Rattle.dumping.proofs.DumpTextPieces.{failed, printed_left}

-- comparisons behind a label, the others behind AND
abbrev pub pairs_behind : List ℕ → Table → List Comparison → List ℕ
pairs_behind label table [] = []
pairs_behind label table (c ∷ cs) = label ++ (pair_text table c ++ flat_map (next_pair table) cs)

next_pairs : (table : Table) (cs : List Comparison) → flat_map (next_pair table) cs ≡ pairs_behind (codes " AND ") table cs
next_pairs table [] = refl
next_pairs table (c ∷ cs) = append_assoc (codes " AND ") (pair_text table c) (flat_map (next_pair table) cs)

pub all_pairs : (table : Table) (cs : List Comparison) → where_text table cs ≡ pairs_behind (codes " WHERE ") table cs
all_pairs table [] = refl
all_pairs table (c ∷ cs) = refl

module _ (table : Table) (columns : List ℕ) (parts : List Value) where
  -- what is left from a place on
  abbrev pub pairs_left : List ℕ → ℕ → List ℕ
  pairs_left label n = line (pairs_behind label table (comparisons_of (drop n columns) (drop n parts)))

  one_pair : (label : List ℕ) (n column : ℕ) (value : Value) → n < length columns → n < length parts → column ≡ get_or columns n column → value ≡ get_or parts n value
      → pairs_left label n ≡ (label ++ pair_of table column value) ++ pairs_left (codes " AND ") (n + 1)
  one_pair label n column value in_columns in_parts is_column is_value =
      (λ i. line (pairs_behind label table (comparisons_of (columns_are i) (parts_are i))))
      ∙ ap (λ l. line (label ++ (pair_of table column value ++ l))) (next_pairs table (comparisons_of (drop (n + 1) columns) (drop (n + 1) parts)))
      ∙ simp append_assoc
    where
      columns_are : drop n columns ≡ column ∷ drop (n + 1) columns
      columns_are = rw add-one (drop-cons columns n column in_columns ∙ ap (λ c. c ∷ drop (suc n) columns) (sym is_column))

      parts_are : drop n parts ≡ value ∷ drop (n + 1) parts
      parts_are = rw add-one (drop-cons parts n value in_parts ∙ ap (λ v. v ∷ drop (suc n) parts) (sym is_value))

  pub pair_taken : (a b c : Option (List ℕ)) (text label : List ℕ) (n column : ℕ) (value : Value) → n < length columns → n < length parts → column ≡ get_or columns n column → value ≡ get_or parts n value
      → Left a b text (pairs_left label n) → Appends b c (label ++ pair_of table column value) → Left a c text (pairs_left (codes " AND ") (n + 1))
  pair_taken a b c text label n column value in_columns in_parts is_column is_value l p =
      left_taken a b c text (label ++ pair_of table column value) (pairs_left (codes " AND ") (n + 1)) (subst (Left a b text) (one_pair label n column value in_columns in_parts is_column is_value) l) p

  pub pair_stopped : {E : Type 0} (P : E → Type 0) (a b c : Option (List ℕ)) (r : Result (Unit {0}) E) (text label : List ℕ) (n column : ℕ) (value : Value) → IsErrAnd r P
      → n < length columns → n < length parts → column ≡ get_or columns n column → value ≡ get_or parts n value
      → Left a b text (pairs_left label n) → AppendsPrefix b c (label ++ pair_of table column value) → Prints a c r text
  pair_stopped P a b c r text label n column value e in_columns in_parts is_column is_value l f =
      failed P a c r text e (left_front a b c text (label ++ pair_of table column value) (pairs_left (codes " AND ") (n + 1)) (subst (Left a b text) (one_pair label n column value in_columns in_parts is_column is_value) l) f)

  no_pair : (n : ℕ) → n ≡ min (length columns) (length parts) → (label : List ℕ) → pairs_left label n ≡ line []
  no_pair n is label = by (drop n columns) (drop n parts) (ends (nat_le (length columns) (length parts)) refl)
    where
      ends : (b : Bool) → nat_le (length columns) (length parts) ≡ b → (drop n columns ≡ []) ⊎ (drop n parts ≡ [])
      ends true e = inl (drop_all n columns (let h : length columns ≤ length parts = grind (arith, nat_tests) in omega arith))
      ends false e = inr (drop_all n parts (let h : length parts < length columns = grind (arith, nat_tests) in omega arith))

      by : (cs : List ℕ) (vs : List Value) → (cs ≡ []) ⊎ (vs ≡ []) → line (pairs_behind label table (comparisons_of cs vs)) ≡ line []
      by cs vs (inl e) = ap (λ l. line (pairs_behind label table (comparisons_of l vs))) e
      by [] vs (inr e) = refl
      by (c ∷ cs) vs (inr e) = ap (λ l. line (pairs_behind label table (comparisons_of (c ∷ cs) l))) e

  pub pairs_end : {E : Type 0} (a b c : Option (List ℕ)) (r : Result (Unit {0}) E) (text label : List ℕ) (n : ℕ) → n ≡ min (length columns) (length parts)
      → Left a b text (pairs_left label n) → Prints b c r (line []) → Prints a c r text
  pairs_end a b c r text label n is l p = printed_left a b c r text (line []) (subst (Left a b text) (no_pair n is label) l) p
