-- The steps that add columns: none is refused, and the tables are then as wide as the widths say.
use Rattle.std.proofs.Common.{◌≡◌, ℕ, ◌+◌, ◌-◌, ◌≤◌, ◌<◌, zero, suc, Bool, true, false, List, [], ◌∷◌, Option, Some, None, refl, sym, ap, subst, ◌∙◌, arith, length, map, max, drop, take, nat_le}
use Rattle.std.specs.Prelude.{◌==◌, slice_set}
use Rattle.std.proofs.lemmas.Bool.Decides.{nat_tests}
use Rattle.std.specs.List.{flat_map, slice_get}
use Rattle.std.specs.Option.{ForSome}
use Rattle.std.proofs.Math.Seq.{drop-nil}
use Rattle.std.proofs.lemmas.Option.{slice_get_within}
use Rattle.values.specs.declared.key.Key.{Key}
use Rattle.values.specs.declared.refusal.Refusal.{Refusal}
use Rattle.values.specs.declared.refusal.Refusal.TheVariants.{NoTable}
use Rattle.values.specs.declared.table.Column.{Column}
use Rattle.values.specs.declared.table.Table.{Table}
use Rattle.values.specs.Columns.{addition_fault, add_column}
use Rattle.values.specs.Each.{Each}
use Rattle.values.specs.Faults.{bad_row}
use Rattle.values.specs.Log.{Log, Net, Row}
use Rattle.values.specs.TableRules.{HasPeriod}
use Rattle.values.specs.Tables.{Schema}
use Rattle.periods.proofs.NoOverlapPieces.{the_table}
use Rattle.steps.specs.declared.step.Step.{Step}
use Rattle.steps.specs.declared.step.Step.TheVariants.{AddColumn}
use Rattle.histories.specs.World.{World}
use Rattle.dump_steps.specs.Widths.{Widths, additions, last_additions, widen_all, widening, wider, widths_after, width_at}
use Rattle.dump_steps.proofs.DumpRows.{AreKeyColumns, narrow}
use Rattle.dump_steps.proofs.DumpTurns.{Goes, Turns, column_turns, goes_on, goes_one, system}
use Rattle.dump_steps.proofs.DumpWrites.{IsRowIn}
use Rattle.dump_steps.proofs.WidthsGrown.{IsAddition}
use Rattle.dump_steps.proofs.WidthsTables.{AreBetween, IsTableAt, column_added, narrowed_all, place, set_between, set_else, set_here, set_same, set_twice, table_is, table_then, tables_at}

-- the table at a place: its key is of its first columns, and those behind them were added in turn
pub record IsLaidOut (first : Widths) (i : ℕ) (t : Table) : Type 0 where
  pub numbered : t.number ≡ suc i
  pub columns : AreKeyColumns t (place first i) t.key
  pub wider : place first i ≤ length t.columns
  pub has : ForSome t.period (HasPeriod t)
  pub added : (k : ℕ) (c : Column) → place first i ≤ k → slice_get t.columns k ≡ Some c → IsAddition (narrow k t) c

-- ---- columns from one width up to another

none_behind : {A : Type 0} (xs : List A) (from to : ℕ) → to ≤ from → drop from (take to xs) ≡ []
none_behind xs from zero le = drop-nil from
none_behind [] from (suc to) le = drop-nil from
none_behind (x ∷ xs) zero (suc to) le = absurd (omega arith)
none_behind (x ∷ xs) (suc from) (suc to) le = none_behind xs from to (omega arith)

one_behind : {A : Type 0} (xs : List A) (from to : ℕ) → from < to → to ≤ length xs → (x : A) × ((slice_get xs from ≡ Some x) × (drop from (take to xs) ≡ x ∷ drop (suc from) (take to xs)))
one_behind xs from zero lt le = absurd (omega arith)
one_behind [] from (suc to) lt le = absurd (omega arith)
one_behind (x ∷ xs) zero (suc to) lt le = (x, (refl, refl))
one_behind (x ∷ xs) (suc from) (suc to) lt le = one_behind xs from to (omega arith) (omega arith)

module _ (tables : Schema) (first : Widths) (laid_out : (i : ℕ) (t : Table) → slice_get tables.tables i ≡ Some t → IsLaidOut first i t) (log : Log) where
  -- nobody has a transaction open, and the tables are as wide as this
  abbrev pub wide : Widths → World
  wide w = system (tables_at tables.tables w) log None

  abbrev Between : Widths → Type 0
  Between w = AreBetween first tables.tables w

  column_goes : (w : Widths) (number : ℕ) (t : Table) (c : Column) → Between w → IsTableAt tables.tables number t → slice_get t.columns (width_at w number) ≡ Some c
      → Goes (wide w) (AddColumn 1 number c.name c.of ∷ []) (wide (slice_set w (number - 1) (suc (width_at w number))))
  column_goes w number t c between is at =
      let addition = (laid_out (number - 1) t is.found).added (width_at w number) c (between.above (number - 1)) at in
      goes_one (wide w) (wide (slice_set w (number - 1) (suc (width_at w number)))) (AddColumn 1 number c.name c.of)
      (subst (λ now. Turns (wide w) (AddColumn 1 number c.name c.of) (system now log None))
      (ap (λ d. add_column number d (tables_at tables.tables w)) (sym addition.new) ∙ column_added tables.tables w number t c between.long is at)
      (column_turns (tables_at tables.tables w) log number c.name c.of
      (ap (λ (o : Option Table). let f : Option Refusal = elim o [ None ↦ Some NoTable | Some u ↦ bad_row (addition_fault c.name c.of u) ] in f) (table_then tables.tables w number t between.long is)
      ∙ ap bad_row addition.fits)))

  inside : (w : Widths) (number : ℕ) (t : Table) → Between w → IsTableAt tables.tables number t → number - 1 < length w
  inside w number t between is = let lt : number - 1 < length tables.tables = slice_get_within tables.tables (number - 1) t is.found in omega (arith, between.long)

  -- up to a width
  up_to : (n : ℕ) (w : Widths) (t : Table) (to : ℕ) → to ≡ width_at w t.number + n → to ≤ length t.columns → Between w → IsTableAt tables.tables t.number t
      → Goes (wide w) (additions t (width_at w t.number) to) (wide (slice_set w (t.number - 1) to))
  up_to zero w t to is le between at =
      subst (λ steps. Goes (wide w) (map (λ (c : Column). AddColumn 1 t.number c.name c.of) steps) (wide (slice_set w (t.number - 1) to)))
      (sym (none_behind t.columns (width_at w t.number) to (omega arith)))
      (ap wide (sym (set_same w (t.number - 1))) ∙ ap (λ n. wide (slice_set w (t.number - 1) n)) (let same : width_at w t.number ≡ to = omega arith in same))
  up_to (suc n) w t to is le between at =
      let from = width_at w t.number in
      let next = one_behind t.columns from to (omega arith) le in
      let c = next.0 in
      let more : Widths = slice_set w (t.number - 1) (suc from) in
      let now : width_at more t.number ≡ suc from = set_here w (t.number - 1) (suc from) (inside w t.number t between at) in
      subst (λ steps. Goes (wide w) (map (λ (c : Column). AddColumn 1 t.number c.name c.of) steps) (wide (slice_set w (t.number - 1) to))) (sym next.1.1)
      (goes_on (wide w) (wide more) (wide (slice_set w (t.number - 1) to)) (AddColumn 1 t.number c.name c.of ∷ []) (additions t (suc from) to)
      (column_goes w t.number t c between at next.1.0)
      (subst (λ k. Goes (wide more) (additions t k to) (wide (slice_set w (t.number - 1) to))) now
      (subst (λ v. Goes (wide more) (additions t (width_at more t.number) to) (wide v)) (set_twice w (t.number - 1) (suc from) to)
      (up_to n more t to (one_less to from n (width_at more t.number) is now) le (set_between first tables.tables w (t.number - 1) (suc from) t at.found (omega arith) (omega (arith, is, le)) between) at))))
    where
      one_less : (to from n k : ℕ) → to ≡ from + suc n → k ≡ suc from → to ≡ k + n
      one_less to from n k a b = omega arith

  additions_go : (w : Widths) (t : Table) (to : ℕ) → to ≤ length t.columns → Between w → IsTableAt tables.tables t.number t
      → Goes (wide w) (additions t (width_at w t.number) to) (wide (slice_set w (t.number - 1) (max (width_at w t.number) to)))
  additions_go w t to le between at = by (nat_le to (width_at w t.number)) refl
    where
      not_wider : (a b : ℕ) → nat_le a b ≡ true → a ≤ b
      not_wider a b e = grind (arith, nat_tests)

      wider : (a b : ℕ) → nat_le a b ≡ false → b < a
      wider a b e = grind (arith, nat_tests)

      by : (b : Bool) → nat_le to (width_at w t.number) ≡ b → Goes (wide w) (additions t (width_at w t.number) to) (wide (slice_set w (t.number - 1) (max (width_at w t.number) to)))
      by true e =
          let under : to ≤ width_at w t.number = not_wider to (width_at w t.number) e in
          let same : width_at w t.number ≡ max (width_at w t.number) to = omega arith in
          subst (λ steps. Goes (wide w) (map (λ (c : Column). AddColumn 1 t.number c.name c.of) steps) (wide (slice_set w (t.number - 1) (max (width_at w t.number) to))))
          (sym (none_behind t.columns (width_at w t.number) to under))
          (ap wide (sym (set_same w (t.number - 1))) ∙ ap (λ n. wide (slice_set w (t.number - 1) n)) same)
      by false e =
          let over : width_at w t.number < to = wider to (width_at w t.number) e in
          let same : to ≡ max (width_at w t.number) to = omega arith in
          let apart : to ≡ width_at w t.number + (to - width_at w t.number) = omega arith in
          subst (λ n. Goes (wide w) (additions t (width_at w t.number) to) (wide (slice_set w (t.number - 1) n))) same
          (up_to (to - width_at w t.number) w t to apart le between at)

  -- ---- the columns that a row has

  pub record Wider (key : Key) (v : Option Row) (w : Widths) : Type 0 where
    pub goes : Goes (wide w) (widening tables w key v) (wide (wider w key v))
    pub between : Between (wider w key v)

  pub widens : (key : Key) (v : Option Row) (w : Widths) → ((row : Row) → v ≡ Some row → IsRowIn tables (key, row)) → Between w → Wider key v w
  widens key None w rows between = record { goes = refl; between = between }
  widens key (Some row) w rows between =
      let is = rows row refl in
      let t : Table = is.0 in
      let its : key.table ≡ t.number = ap (λ (k : Key). k.table) is.1.1.key_is in
      let at : IsTableAt tables.tables key.table t = table_is tables key.table t is.1.0 in
      let own : IsTableAt tables.tables t.number t = subst (λ n. IsTableAt tables.tables n t) its at in
      record {
        goes =
            subst (λ (o : Option Table). Goes (wide w) (elim o [ None ↦ [] | Some u ↦ additions u (width_at w key.table) (length row) ]) (wide (slice_set w (key.table - 1) (max (width_at w key.table) (length row))))) (sym is.1.0)
            (subst (λ n. Goes (wide w) (additions t (width_at w n) (length row)) (wide (slice_set w (n - 1) (max (width_at w n) (length row))))) (sym its)
            (additions_go w t (length row) is.1.1.within between own));
        between =
            let under : place w (key.table - 1) ≤ length t.columns = between.within (key.table - 1) t at.found in
            set_between first tables.tables w (key.table - 1) (max (width_at w key.table) (length row)) t at.found (omega arith) (omega (arith, under, is.1.1.within)) between;
      }

  pub record AllWider (net : Net) (w : Widths) : Type 0 where
    pub goes : Goes (wide w) (widen_all tables w net) (wide (widths_after w net))
    pub between : Between (widths_after w net)

  -- each row's columns are added before it
  pub all_widen : (net : Net) (w : Widths) → Each (λ c. (row : Row) → c.1 ≡ Some row → IsRowIn tables (c.0, row)) net → Between w → AllWider net w
  all_widen [] w rows between = record { goes = refl; between = between }
  all_widen (c ∷ net) w rows between =
      let now = widens c.0 c.1 w rows.0 between in
      let rest = all_widen net (wider w c.0 c.1) rows.1 now.between in
      record {
        goes = goes_on (wide w) (wide (wider w c.0 c.1)) (wide (widths_after w (c ∷ net))) (widening tables w c.0 c.1) (widen_all tables (wider w c.0 c.1) net) now.goes rest.goes;
        between = rest.between;
      }

  -- ---- the columns that no row has

  abbrev last_of : Widths → List Table → List Step
  last_of w ts = flat_map (λ t. additions t (width_at w t.number) (length t.columns)) ts

  -- the widths in which the tables behind some have not got all columns yet
  record IsUpTo (i : ℕ) (w now : Widths) : Type 0 where
    between : Between now
    done : (j : ℕ) (t : Table) → j < i → slice_get tables.tables j ≡ Some t → place now j ≡ length t.columns
    ahead : (j : ℕ) → i ≤ j → place now j ≡ place w j

  rest_goes : (ts : List Table) (i : ℕ) (w now : Widths) → ((j : ℕ) → slice_get tables.tables (i + j) ≡ slice_get ts j) → i + length ts ≡ length tables.tables → IsUpTo i w now
      → Goes (wide now) (last_of w ts) (system tables log None)
  rest_goes [] i w now same long up =
      λ k. system (record { tables = narrowed_all tables.tables now up.between.long (λ j t at. up.done j t (let lt : j < length tables.tables = slice_get_within tables.tables j t at in omega (arith, long)) at) k }) log None
  rest_goes (t ∷ ts) i w now same long up =
      let found : slice_get tables.tables i ≡ Some t = ap (slice_get tables.tables) (let here : i ≡ i + 0 = omega arith in here) ∙ same 0 in
      let number : t.number ≡ suc i = (laid_out i t found).numbered in
      let back : t.number - 1 ≡ i = omega arith in
      let at : IsTableAt tables.tables t.number t = record { from_1 = omega arith; found = ap (slice_get tables.tables) back ∙ found } in
      let width : width_at now t.number ≡ width_at w t.number = ap (place now) back ∙ up.ahead i (let le : i ≤ i = omega arith in le) ∙ ap (place w) (sym back) in
      let under : place now i ≤ length t.columns = up.between.within i t found in
      let most : max (width_at now t.number) (length t.columns) ≡ length t.columns = ap (λ j. max (place now j) (length t.columns)) back ∙ (let is : max (place now i) (length t.columns) ≡ length t.columns = omega arith in is) in
      let later : Widths = slice_set now i (length t.columns) in
      goes_on (wide now) (wide later) (system tables log None) (additions t (width_at w t.number) (length t.columns)) (last_of w ts)
      (subst (λ n. Goes (wide now) (additions t n (length t.columns)) (wide later)) width
      (subst (λ v. Goes (wide now) (additions t (width_at now t.number) (length t.columns)) (wide v)) (λ k. slice_set now (back k) (most k))
      (additions_go now t (length t.columns) (let le : length t.columns ≤ length t.columns = omega arith in le) up.between at)))
      (rest_goes ts (suc i) w later (λ j. ap (slice_get tables.tables) (next i j) ∙ same (suc j)) (one_on i (length ts) (length tables.tables) long)
      (record {
        between = set_between first tables.tables now i (length t.columns) t found under (let le : length t.columns ≤ length t.columns = omega arith in le) up.between;
        done = λ j u lt there. by_done j u lt there found (i == j) refl;
        ahead = λ j le. set_else now i j (length t.columns) (not_same i j le) ∙ up.ahead j (omega arith);
      }))
    where
      next : (i j : ℕ) → suc i + j ≡ i + suc j
      next i j = omega arith

      one_on : (i n m : ℕ) → i + suc n ≡ m → suc i + n ≡ m
      one_on i n m e = omega arith

      not_same : (i j : ℕ) → suc i ≤ j → (i == j) ≡ false
      not_same i j le = grind (arith, nat_tests)

      same_number : (i j : ℕ) → (i == j) ≡ true → i ≡ j
      same_number i j e = grind (arith, nat_tests)

      less : (i j : ℕ) → j < suc i → (i == j) ≡ false → j < i
      less i j lt e = grind (arith, nat_tests)

      by_done : (j : ℕ) (u : Table) → j < suc i → slice_get tables.tables j ≡ Some u → slice_get tables.tables i ≡ Some t → (b : Bool) → (i == j) ≡ b → place (slice_set now i (length t.columns)) j ≡ length u.columns
      by_done j u lt there found true e =
          let is : i ≡ j = same_number i j e in
          let one : t ≡ u = the_table t u (sym found ∙ ap (slice_get tables.tables) is ∙ there) in
          ap (place (slice_set now i (length t.columns))) (sym is)
          ∙ set_here now i (length t.columns) (let within : i < length tables.tables = slice_get_within tables.tables i t found in omega (arith, up.between.long))
          ∙ ap (λ (t : Table). length t.columns) one
      by_done j u lt there found false e = set_else now i j (length t.columns) e ∙ up.done j u (less i j lt e) there

  pub last_goes : (w : Widths) → Between w → Goes (wide w) (last_additions tables w) (system tables log None)
  last_goes w between =
      rest_goes tables.tables 0 w w (λ j. ap (slice_get tables.tables) (let none : 0 + j ≡ j = omega arith in none)) (let none : 0 + length tables.tables ≡ length tables.tables = omega arith in none)
      (record { between = between; done = λ j t lt at. absurd (omega arith); ahead = λ j le. refl })
