-- The values of a row, written one after another.
use Rattle.std.proofs.Common.{◌≡◌, ℕ, ◌+◌, ◌<◌, ◌≤◌, List, [], ◌∷◌, ◌++◌, Bool, Option, codes, refl, sym, ap, ◌∙◌, subst, drop, length, get_or, suc, append_assoc, add-one}
use Rattle.std.specs.Prelude.{Result, IsErrAnd}
use Rattle.std.specs.Io.KnownBytes.{Appends}
use Rattle.std.specs.List.{flat_map}
use Rattle.std.proofs.Math.Seq.{drop-cons}
use Rattle.std.proofs.lemmas.List.{drop_all}
use Rattle.values.specs.declared.key.Key.{Key}
use Rattle.values.specs.declared.table.Table.{Table}
use Rattle.values.specs.declared.value.Value.{Value}
use Rattle.values.specs.Log.{Row}
use Rattle.statement.specs.Print.{next_text, value_text}
use Rattle.statement.specs.Writer.{AppendsPrefix, Prints}
use Rattle.statement.proofs.WriterPrefixes.{Left, left_taken, left_front}
use Rattle.dumping.specs.Row.{setting_text, settings_text, shown_row, shown_value, values_end}
use Rattle.dumping.proofs.DumpTextPieces.{failed, printed_left, unwritten}

-- the value at a place, and those behind it
dropped : (row : Row) (i : ℕ) (v : Value) → i < length row → v ≡ get_or row i v → drop i row ≡ v ∷ drop (i + 1) row
dropped row i v here is = rw add-one (drop-cons row i v here ∙ ap (λ x. x ∷ drop (suc i) row) (sym is))

-- values behind a label, the others behind commas
abbrev pub values_behind : List ℕ → Row → List ℕ
values_behind label [] = codes ")\n"
values_behind label (v ∷ row) = label ++ (value_text v ++ (flat_map next_text row ++ codes ")\n"))

others : (row : Row) → flat_map next_text row ++ codes ")\n" ≡ values_behind (codes ", ") row
others [] = refl
others (v ∷ row) = append_assoc (next_text v) (flat_map next_text row) (codes ")\n") ∙ append_assoc (codes ", ") (value_text v) (flat_map next_text row ++ codes ")\n")

unlabelled : (row : Row) → values_end row ≡ values_behind [] row
unlabelled [] = refl
unlabelled (v ∷ row) = refl

module _ (is_short : Bool) (table : Table) (row : Row) where
  -- what is left from a place on
  abbrev pub values_left : List ℕ → ℕ → List ℕ
  values_left label i = values_behind label (shown_row is_short table (i + 1) (drop i row))

  pub values_begun : (a : Option (List ℕ)) → Left a a (values_end (shown_row is_short table 1 row)) (values_left [] 0)
  values_begun a = subst (Left a a (values_end (shown_row is_short table 1 row))) (unlabelled (shown_row is_short table 1 row)) (unwritten a _)

  one_value : (label : List ℕ) (i : ℕ) (v : Value) → i < length row → v ≡ get_or row i v
      → values_left label i ≡ (label ++ value_text (shown_value is_short table (i + 1) v)) ++ values_left (codes ", ") (i + 1)
  one_value label i v here is =
      ap (λ l. values_behind label (shown_row is_short table (i + 1) l)) (dropped row i v here is)
      ∙ ap (λ l. label ++ (value_text (shown_value is_short table (i + 1) v) ++ l)) (others (shown_row is_short table (i + 1 + 1) (drop (i + 1) row)))
      ∙ sym (append_assoc label (value_text (shown_value is_short table (i + 1) v)) (values_left (codes ", ") (i + 1)))

  pub value_taken : (a b c : Option (List ℕ)) (text label : List ℕ) (i : ℕ) (v : Value) → i < length row → v ≡ get_or row i v
      → Left a b text (values_left label i) → Appends b c (label ++ value_text (shown_value is_short table (i + 1) v)) → Left a c text (values_left (codes ", ") (i + 1))
  value_taken a b c text label i v here is l p = left_taken a b c text _ (values_left (codes ", ") (i + 1)) (subst (Left a b text) (one_value label i v here is) l) p

  pub value_stopped : {E : Type 0} (P : E → Type 0) (a b c : Option (List ℕ)) (r : Result (Unit {0}) E) (text label : List ℕ) (i : ℕ) (v : Value) → IsErrAnd r P → i < length row → v ≡ get_or row i v
      → Left a b text (values_left label i) → AppendsPrefix b c (label ++ value_text (shown_value is_short table (i + 1) v)) → Prints a c r text
  value_stopped P a b c r text label i v e here is l f = failed P a c r text e (left_front a b c text _ (values_left (codes ", ") (i + 1)) (subst (Left a b text) (one_value label i v here is) l) f)

  pub values_done : {E : Type 0} (a b c : Option (List ℕ)) (r : Result (Unit {0}) E) (text label : List ℕ) (i : ℕ) → length row ≤ i → Left a b text (values_left label i) → Prints b c r (codes ")\n") → Prints a c r text
  values_done a b c r text label i past l p = printed_left a b c r text (codes ")\n") (subst (Left a b text) (ap (λ l. values_behind label (shown_row is_short table (i + 1) l)) (drop_all i row past)) l) p

module _ (table : Table) (key : Key) (row : Row) where
  -- the lines that are left from a place on
  abbrev pub settings_left : ℕ → List ℕ
  settings_left i = settings_text table key (i + 1) (drop i row)

  one_setting : (i : ℕ) (v : Value) → i < length row → v ≡ get_or row i v → settings_left i ≡ setting_text table key (i + 1) v ++ settings_left (i + 1)
  one_setting i v here is = ap (settings_text table key (i + 1)) (dropped row i v here is)

  pub setting_taken : (a b c : Option (List ℕ)) (text : List ℕ) (i : ℕ) (v : Value) → i < length row → v ≡ get_or row i v → Left a b text (settings_left i) → Appends b c (setting_text table key (i + 1) v) → Left a c text (settings_left (i + 1))
  setting_taken a b c text i v here is l p = left_taken a b c text _ (settings_left (i + 1)) (subst (Left a b text) (one_setting i v here is) l) p

  pub setting_stopped : {E : Type 0} (P : E → Type 0) (a b c : Option (List ℕ)) (r : Result (Unit {0}) E) (text : List ℕ) (i : ℕ) (v : Value) → IsErrAnd r P → i < length row → v ≡ get_or row i v
      → Left a b text (settings_left i) → AppendsPrefix b c (setting_text table key (i + 1) v) → Prints a c r text
  setting_stopped P a b c r text i v e here is l f = failed P a c r text e (left_front a b c text _ (settings_left (i + 1)) (subst (Left a b text) (one_setting i v here is) l) f)
