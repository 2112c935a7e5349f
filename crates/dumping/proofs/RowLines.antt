-- The lines of a row, and how long the first of them is.
use Rattle.std.proofs.Common.{◌≡◌, ℕ, ◌+◌, ◌<◌, ◌≤◌, List, [], ◌∷◌, ◌++◌, true, false, codes, refl, sym, ap, ◌∙◌, length, length-append, append_assoc, arith, cond}
use Rattle.std.proofs.lemmas.Bool.Decides.{nat_tests}
use Rattle.values.specs.declared.table.Table.{Table}
use Rattle.values.specs.KeyReading.{key_from}
use Rattle.values.specs.Log.{Row}
use Rattle.statement.specs.Print.{line, values_text}
use Rattle.dump_steps.specs.Pieces.{cut_short}
use Rattle.dumping.specs.DumpText.{insert_text, is_long}
use Rattle.dumping.specs.Name.{named}
use Rattle.dumping.specs.Row.{insert_line, pieces_text, row_text, shown_row, shown_value, values_end}

-- all values, and those of a short line
whole_row : (table : Table) (column : ℕ) (row : Row) → shown_row false table column row ≡ row
whole_row table column [] = refl
whole_row table column (v ∷ row) = ap (λ l. v ∷ l) (whole_row table (column + 1) row)

pub short_row : (table : Table) (column : ℕ) (row : Row) → shown_row true table column row ≡ cut_short table column row
short_row table column [] = refl
short_row table column (v ∷ row) = ap (λ l. shown_value true table column v ∷ l) (short_row table (column + 1) row)

values_line : (row : Row) → line (values_text row) ≡ codes "(" ++ values_end row
values_line [] = refl
values_line (v ∷ row) = simp append_assoc

line_of_values : (table : Table) (row : Row) → line (insert_text table row) ≡ named (codes "1: INSERT INTO ") table.name (codes " VALUES (") ++ values_end row
line_of_values table row =
    ap (λ l. codes "1: INSERT INTO " ++ l) (append_assoc table.name (codes " VALUES " ++ values_text row) (codes "\n")
    ∙ ap (λ l. table.name ++ (codes " VALUES " ++ l)) (values_line row)
    ∙ sym (append_assoc table.name (codes " VALUES (") (values_end row)))

pub whole_line : (table : Table) (row : Row) → line (insert_text table row) ≡ insert_line false table row
whole_line table row = line_of_values table row ∙ ap (λ r. named (codes "1: INSERT INTO ") table.name (codes " VALUES (") ++ values_end r) (sym (whole_row table 1 row))

pub short_line : (table : Table) (row : Row) → line (insert_text table (cut_short table 1 row)) ≡ insert_line true table row
short_line table row = line_of_values table (cut_short table 1 row) ∙ ap (λ r. named (codes "1: INSERT INTO ") table.name (codes " VALUES (") ++ values_end r) (sym (short_row table 1 row))

-- ---- by the length of the line

length_of : (table : Table) (row : Row) (text : List ℕ) → text ≡ insert_line false table row → length text ≡ length (insert_text table row) + 1
length_of table row text is = ap length (is ∙ sym (whole_line table row)) ∙ length-append (insert_text table row) (codes "\n")

pub row_fits : (table : Table) (bytes : List ℕ) (row : Row) (text : List ℕ) → text ≡ insert_line false table row → length text ≤ 8193 → row_text table bytes row ≡ text
row_fits table bytes row text is fits = ap (λ b. cond b (pieces_text table (key_from table bytes) row) (insert_line false table row)) short ∙ sym is
  where
    short : is_long table row ≡ false
    short = let lengths = length_of table row text is in grind (arith, nat_tests)

pub row_long : (table : Table) (bytes : List ℕ) (row : Row) (text : List ℕ) → text ≡ insert_line false table row → 8193 < length text → row_text table bytes row ≡ pieces_text table (key_from table bytes) row
row_long table bytes row text is over = ap (λ b. cond b (pieces_text table (key_from table bytes) row) (insert_line false table row)) long
  where
    long : is_long table row ≡ true
    long = let lengths = length_of table row text is in grind (arith, nat_tests)
