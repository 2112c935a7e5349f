-- What is kept of a record is the row that the record is, or has its first fault.
use Rattle.std.proofs.Common.{◌≡◌, ◌≤◌, ◌<◌, ◌+◌, ◌==◌, ◌&&◌, ℕ, zero, suc, Bool, true, false, not, List, [], ◌∷◌, ◌++◌, Option, Some, None, Result, Ok, Err, refl, sym, ap, ◌∙◌, subst, inl, inr, arith, length, map, append-nil, append_assoc, if◌then◌else◌}
use Rattle.std.specs.Prelude.{◌⊎◌, codes, nat_le, unwrap_or}
use Rattle.std.specs.List.{list_any}
use Rattle.std.specs.Str.{is_utf8}
use Rattle.std.proofs.lemmas.Bool.{eq-eqb, leb-true}
use Rattle.std.proofs.lemmas.Bool.Decides.{nat_tests}
use Rattle.std.proofs.lemmas.List.{length-map, length-take-le, take_all}
use Rattle.csv.specs.Records.{field_at}
use Rattle.values.specs.declared.refusal.Refusal.{Refusal}
use Rattle.values.specs.declared.refusal.Refusal.TheVariants.{BadRow}
use Rattle.values.specs.declared.value.Value.{Value}
use Rattle.values.specs.declared.value.Value.TheVariants.{Int, Text, Bool as Truth, Null}
use Rattle.values.specs.declared.table.Column.{Column}
use Rattle.values.specs.declared.table.ColumnType.{ColumnType}
use Rattle.values.specs.declared.table.ColumnType.TheVariants.{Int as IsInt, Text as IsText, Varchar as IsVarchar, Boolean as IsBoolean}
use Rattle.values.specs.declared.table.Table.{Table}
use Rattle.values.specs.Fit.{character_count, first_fault, fits_text, fits_type, fits_value, is_line_break, longest_text, text_limit}
use Rattle.values.specs.Log.{Row}
use Rattle.values.specs.Names.{same_name}
use Rattle.values.specs.Tables.{is_key_column, widest}
use Rattle.statement.specs.Meaning.{place_of, row_in}
use Rattle.interchange.specs.Field.{field_value, misfit_of, number_of, number_value, text_value, truth_value}
use Rattle.interchange.specs.KeptField.{kept_field, kept_fields, longest_field, most_fields}
use Rattle.interchange.specs.Load.{Record, row_of, value_in, values_from}
use Rattle.interchange.proofs.KeptFieldBytes.{AreAlike, kept_alike}
use Rattle.interchange.proofs.KeptFieldHeader.{other_length, texts_within}
use Rattle.interchange.proofs.KeptFieldNumber.{same_number}

-- ---- values

-- the column takes no such value, in a key or elsewhere
abbrev IsMisfit : Column → Value → Type 0
IsMisfit column value = (in_key : Bool) → fits_value in_key column value ≡ false

-- two values are the same, or the column takes neither
abbrev AreAlikeIn : Column → Value → Value → Type 0
AreAlikeIn column v w = (v ≡ w) ⊎ (IsMisfit column v × IsMisfit column w)

no_room : (in_key : Bool) (text : List ℕ) → longest_text < length text → fits_text (text_limit in_key) text ≡ false
no_room true text long =
    let over : nat_le (length text) 200 ≡ false = grind (arith, nat_tests) in
    ap (λ t. t && not (list_any is_line_break text)) over
no_room false text long =
    let over : nat_le (length text) 1000 ≡ false = grind (arith, nat_tests) in
    ap (λ t. t && not (list_any is_line_break text)) over

long_text : (column : Column) (text : List ℕ) → column.of ≡ IsText → longest_text < length text → IsMisfit column (text_value text)
long_text column text is long in_key = by (is_utf8 text)
  where
    by : (t : Bool) → fits_value in_key column (if t then Text text else misfit_of IsText) ≡ false
    by true = ap (λ of. fits_type (text_limit in_key) of (Text text)) is ∙ no_room in_key text long
    by false = ap (λ of. fits_type (text_limit in_key) of (Truth false)) is

long_varchar : (column : Column) (n : ℕ) (text : List ℕ) → column.of ≡ IsVarchar n → longest_text < length text → IsMisfit column (text_value text)
long_varchar column n text is long in_key = by (is_utf8 text)
  where
    by : (t : Bool) → fits_value in_key column (if t then Text text else misfit_of IsText) ≡ false
    by true =
        ap (λ of. fits_type (text_limit in_key) of (Text text)) is
        ∙ ap (λ t. t && nat_le (character_count text) n) (no_room in_key text long)
    by false = ap (λ of. fits_type (text_limit in_key) of (Truth false)) is

-- both are empty, or neither is
empty_alike : (longest : ℕ) (x y : List ℕ) → AreAlike longest x y → (length x == 0) ≡ (length y == 0)
empty_alike longest x y (inl same) = ap (λ z. length z == 0) same
empty_alike longest x y (inr (long, too)) =
    let some : (length x == 0) ≡ false = grind (arith, nat_tests) in
    let more : (length y == 0) ≡ false = grind (arith, nat_tests) in
    some ∙ sym more

no_truth : (text : List ℕ) → 5 < length text → truth_value text ≡ misfit_of IsBoolean
no_truth text long =
    ap (λ t. if t then Truth true else if same_name text (codes "false") then Truth false else misfit_of IsBoolean) (other_length text (codes "true") (λ same. omega (arith, same)))
    ∙ ap (λ t. if t then Truth false else misfit_of IsBoolean) (other_length text (codes "false") (λ same. omega (arith, same)))

truth_alike : (longest : ℕ) (x y : List ℕ) → 5 ≤ longest → AreAlike longest x y → truth_value x ≡ truth_value y
truth_alike longest x y room (inl same) = ap truth_value same
truth_alike longest x y room (inr (long, too)) = no_truth x (omega arith) ∙ sym (no_truth y (omega arith))

value_alike : (column : Column) (longest : ℕ) (x y : List ℕ) → longest_text ≤ longest → AreAlike longest x y → number_of x ≡ number_of y
    → AreAlikeIn column (field_value column.of x) (field_value column.of y)
value_alike column longest x y room alike number = by column.of refl alike
  where
    by : (of : ColumnType) → column.of ≡ of → AreAlike longest x y → AreAlikeIn column (field_value of x) (field_value of y)
    by IsInt is either = inl
        (ap (λ t. if t then Null else number_value x) (empty_alike longest x y either)
        ∙ ap (λ n. if length y == 0 then Null else (elim n [ Some n ↦ Int n | None ↦ misfit_of IsInt ])) number)
    by IsText is (inl same) = inl (ap text_value same)
    by IsText is (inr (long, too)) = inr (long_text column x is (omega arith), long_text column y is (omega arith))
    by (IsVarchar n) is (inl same) = inl (ap text_value same)
    by (IsVarchar n) is (inr (long, too)) = inr (long_varchar column n x is (omega arith), long_varchar column n y is (omega arith))
    by IsBoolean is either = inl
        (ap (λ t. if t then Null else truth_value x) (empty_alike longest x y either)
        ∙ ap (λ v. if length y == 0 then Null else v) (truth_alike longest x y (omega arith) either))

-- ---- rows

-- the values that a record gives columns
abbrev values : List ℕ → Record → ℕ → List Column → Row
values columns fields number [] = []
values columns fields number (column ∷ rest) = value_in columns fields number column ∷ values columns fields (number + 1) rest

values_are : (columns : List ℕ) (fields : Record) (front : Row) (number : ℕ) (rest : List Column)
    → values_from columns fields front number rest ≡ front ++ values columns fields number rest
values_are columns fields front number [] = sym (append-nil front)
values_are columns fields front number (column ∷ rest) =
    values_are columns fields (front ++ value_in columns fields number column ∷ []) (number + 1) rest
    ∙ append_assoc front (value_in columns fields number column ∷ []) (values columns fields (number + 1) rest)

values_length : (columns : List ℕ) (fields : Record) (number : ℕ) (rest : List Column) → length (values columns fields number rest) ≡ length rest
values_length columns fields number [] = refl
values_length columns fields number (column ∷ rest) = omega (arith, values_length columns fields (number + 1) rest)

-- each column gets the same value of two records, or takes neither
abbrev AreAlikeRecords : List ℕ → Record → Record → Type 0
AreAlikeRecords columns x y = (number : ℕ) (column : Column) → AreAlikeIn column (value_in columns x number column) (value_in columns y number column)

-- the first fault is the same, and where there is none so are the values
alike_faults : (table : Table) (columns : List ℕ) (x y : Record) (number : ℕ) (rest : List Column) → AreAlikeRecords columns x y
    → (first_fault table number rest (values columns x number rest) ≡ first_fault table number rest (values columns y number rest))
    × (first_fault table number rest (values columns x number rest) ≡ None → values columns x number rest ≡ values columns y number rest)
alike_faults table columns x y number [] alike = (refl, λ fits. refl)
alike_faults table columns x y number (column ∷ rest) alike = by (alike number column) (alike_faults table columns x y (number + 1) rest alike)
  where
    v : Value
    v = value_in columns x number column

    w : Value
    w = value_in columns y number column

    vs : Row
    vs = values columns x (number + 1) rest

    ws : Row
    ws = values columns y (number + 1) rest

    fault : Bool → Row → Option ℕ
    fault t row = if t then first_fault table (number + 1) rest row else Some number

    by : AreAlikeIn column v w → (first_fault table (number + 1) rest vs ≡ first_fault table (number + 1) rest ws) × (first_fault table (number + 1) rest vs ≡ None → vs ≡ ws)
        → (fault (fits_value (is_key_column table number) column v) vs ≡ fault (fits_value (is_key_column table number) column w) ws)
        × (fault (fits_value (is_key_column table number) column v) vs ≡ None → (v ∷ vs) ≡ (w ∷ ws))
    by (inl same) (faults, rows) = (
      ap (λ u. fault (fits_value (is_key_column table number) column u) vs) same
          ∙ ap (λ f. if fits_value (is_key_column table number) column w then f else Some number) faults,
      λ fits. fitting (fits_value (is_key_column table number) column v) fits,
    )
      where
        fitting : (t : Bool) → fault t vs ≡ None → (v ∷ vs) ≡ (w ∷ ws)
        fitting true fits = ap (λ u. u ∷ vs) same ∙ ap (λ r. w ∷ r) (rows fits)
        fitting false fits = cc fits
    by (inr (none, neither)) later =
        let here : fault (fits_value (is_key_column table number) column v) vs ≡ Some number = ap (λ t. fault t vs) (none (is_key_column table number)) in (
          here ∙ sym (ap (λ t. fault t ws) (neither (is_key_column table number))),
          λ fits. cc (here, fits),
        )

alike_rows : (table : Table) (columns : List ℕ) (x y : Record) → AreAlikeRecords columns x y
    → row_in table (values columns x 1 table.columns) ≡ row_in table (values columns y 1 table.columns)
alike_rows table columns x y alike = by (alike_faults table columns x y 1 table.columns alike) (first_fault table 1 table.columns vs) refl
  where
    vs : Row
    vs = values columns x 1 table.columns

    ws : Row
    ws = values columns y 1 table.columns

    answer : Row → Option ℕ → Result Row Refusal
    answer row fault = elim (if length table.columns == length row then fault else Some 0) [ Some column ↦ Err (BadRow column) | None ↦ Ok row ]

    refused : (row : Row) (n : ℕ) → length row ≡ length table.columns → answer row (Some n) ≡ Err (BadRow n)
    refused row n same = ap (λ t. elim (if t then Some n else Some 0) [ Some column ↦ Err (BadRow column) | None ↦ Ok row ]) (eq-eqb (length table.columns) (length row) (sym same))

    by : (first_fault table 1 table.columns vs ≡ first_fault table 1 table.columns ws) × (first_fault table 1 table.columns vs ≡ None → vs ≡ ws)
        → (f : Option ℕ) → first_fault table 1 table.columns vs ≡ f → row_in table vs ≡ row_in table ws
    by (faults, rows) None is = ap (row_in table) (rows is)
    by (faults, rows) (Some n) is =
        ap (answer vs) is ∙ refused vs n (values_length columns x 1 table.columns)
        ∙ sym (ap (answer ws) (sym faults ∙ is) ∙ refused ws n (values_length columns y 1 table.columns))

-- ---- what is kept

field_kept : (longest : ℕ) (fields : Record) (i : ℕ) → unwrap_or (field_at (map (kept_field longest) fields) i) [] ≡ kept_field longest (unwrap_or (field_at fields i) [])
unfolding field_at
field_kept longest [] i = refl
field_kept longest (field ∷ fields) zero = refl
field_kept longest (field ∷ fields) (suc i) = field_kept longest fields i

kept_alike_in : (table : Table) (columns : List ℕ) (fields : Record) → AreAlikeRecords columns (map (kept_field (longest_field table)) fields) fields
kept_alike_in table columns fields number column = by (place_of columns number)
  where
    longest : ℕ
    longest = longest_field table

    value : Record → Option ℕ → Value
    value record_ place = elim place [ None ↦ Null | Some i ↦ field_value column.of (unwrap_or (field_at record_ i) []) ]

    by : (place : Option ℕ) → AreAlikeIn column (value (map (kept_field longest) fields) place) (value fields place)
    by None = inl refl
    by (Some i) =
        subst (λ field. AreAlikeIn column (field_value column.of field) (value fields (Some i))) (sym (field_kept longest fields i))
        (value_alike column longest _ _ (texts_within table) (kept_alike longest (unwrap_or (field_at fields i) []))
        (same_number longest (unwrap_or (field_at fields i) []) (omega (arith, texts_within table))))

-- a record of so many fields is no row, and of fewer each is kept
pub row_same : (table : Table) (columns : List ℕ) (fields : Record) → length columns ≤ widest → row_of table columns (kept_fields table fields) ≡ row_of table columns fields
row_same table columns fields few = by (nat_le (length fields) most_fields) refl
  where
    all : Record
    all = map (kept_field (longest_field table)) fields

    by : (t : Bool) → nat_le (length fields) most_fields ≡ t → row_of table columns (kept_fields table fields) ≡ row_of table columns fields
    by true e =
        let short : length fields ≤ most_fields = leb-true (length fields) most_fields e in
        ap (row_of table columns) (take_all most_fields all (omega (arith, length-map fields (kept_field (longest_field table)))))
        ∙ ap (λ n. if length columns == n then row_in table (values_from columns all [] 1 table.columns) else Err (BadRow 0)) (length-map fields (kept_field (longest_field table)))
        ∙ ap (λ r. if length columns == length fields then r else Err (BadRow 0))
        (ap (row_in table) (values_are columns all [] 1 table.columns) ∙ alike_rows table columns all fields (kept_alike_in table columns fields)
        ∙ sym (ap (row_in table) (values_are columns fields [] 1 table.columns)))
    by false e =
        let many : most_fields < length fields = grind (arith, nat_tests) in
        other (kept_fields table fields) (omega (arith, length-take-le most_fields all (omega (arith, length-map fields (kept_field (longest_field table))))))
        ∙ sym (other fields (omega arith))
      where
        other : (record_ : Record) → widest < length record_ → row_of table columns record_ ≡ Err (BadRow 0)
        other record_ wide =
            let differs : (length columns == length record_) ≡ false = grind (arith, nat_tests) in
            ap (λ t. if t then row_in table (values_from columns record_ [] 1 table.columns) else Err (BadRow 0)) differs
