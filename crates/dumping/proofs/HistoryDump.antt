-- What is written is the text of the log.
use Rattle.std.proofs.Common.{◌≡◌, ℕ, ◌+◌, ◌-◌, ◌<◌, T, List, [], ◌∷◌, ◌++◌, Option, Some, None, refl, sym, subst, ap, ◌∙◌, arith, codes, cond, length, append_assoc, ◌==◌, false, suc, take}
use Rattle.std.specs.Prelude.{is_some}
use Rattle.std.specs.List.{AllByRecursion, flat_map, slice_get}
use Rattle.std.specs.Map.{keys_of}
use Rattle.std.specs.FinMap.{is_sorted}
use Rattle.std.specs.Option.{option_flatten}
use Rattle.std.proofs.lemmas.Bool.Decides.{nat_tests}
use Rattle.std.proofs.Math.Seq.{take-append_seam}
use Rattle.std.proofs.lemmas.Grind.{flat_map-append}
use Rattle.std.proofs.lemmas.List.Elements.{All-head, All-tail}
use Rattle.values.specs.Event.{Event}
use Rattle.values.specs.declared.key.Point.{Point}
use Rattle.values.specs.declared.key.Transaction.{Transaction}
use Rattle.values.specs.declared.table.Table.{Table}
use Rattle.values.specs.Events.{AreChangesIn, IsKeyIn, events_of}
use Rattle.values.specs.KeyEncoding.{bytes_of_key}
use Rattle.values.specs.Law.{IsLog}
use Rattle.values.specs.Log.{Changes, Log, Net, Row, State, changes, last, point_cmp, row_at, state}
use Rattle.values.specs.TableRules.{AreTables}
use Rattle.values.specs.Tables.{Schema, table_at}
use Rattle.values.proofs.LogLatest.{latest}
use Rattle.values.proofs.LogStates.{state_matches}
use Rattle.steps.specs.declared.step.Step.{Step}
use Rattle.steps.specs.declared.step.Step.TheVariants.{Commit}
use Rattle.statement.specs.Print.{numbered}
use Rattle.restoring.specs.FromChanges.{AreNets, net_at}
use Rattle.dump_steps.specs.Dump.{delete, insert, write_steps}
use Rattle.dump_steps.specs.Widths.{Widths, additions, last_additions, widen_all, wider, widening, widths_after, widths_of, width_at}
use Rattle.dumping.specs.Change.{delete_text, deletion_text, event_before, insert_row, insertion_text, leaves_row, widen, widen_text, widened, widening_text}
use Rattle.dumping.specs.DumpText.{dump_text, is_long, steps_text, step_text, text_from}
use Rattle.dumping.specs.DumpText as text
use Rattle.tsbtree.specs.View.{TreeState, events}
use Rattle.dumping.specs.History.{AreRuns, HoldsLog, last_columns_text, instants_text, places_at, widths_behind}
use Rattle.dumping.specs.Order.{AreByInstant}
use Rattle.dumping.specs.Transaction.{all_widened, begin_text, transaction_text, widenings_text}
use Rattle.dumping.proofs.ChangeBefore.{event_at, row_before}
use Rattle.dumping.proofs.ChangeSteps.{added, deleted, inserted, widths_taken}
use Rattle.dumping.proofs.ColumnSteps.{addition_steps}
use Rattle.dumping.proofs.HistoryLog.{HaveNets, covers, each_some, nets_are, rises_to, row_then, times, times_rise}
use Rattle.dumping.proofs.HistoryPlaces.{AreAlike, WidensAlike, all_alike, all_widened_alike, texts_of}
use Rattle.dumping.proofs.OrderRuns.{runs_are}

-- ---- keys of the tables

all_keys : (tables : Schema) (m : Changes) → AreChangesIn tables m → AllByRecursion (λ x. IsKeyIn tables x.0.key) m
all_keys tables [] h = tt
all_keys tables (c ∷ m) h = (All-head (λ (p : Point). IsKeyIn tables p.key) c.0 (keys_of m) h, all_keys tables m (All-tail (λ (p : Point). IsKeyIn tables p.key) c.0 (keys_of m) h))

all_front : {X : Type 0} (P : X → Type 0) (front rest : List X) → AllByRecursion P (front ++ rest) → AllByRecursion P front
all_front P [] rest h = tt
all_front P (x ∷ front) rest h = (h.0, all_front P front rest h.1)

that_one : {X : Type 0} (P : X → Type 0) (front : List X) (x : X) (rest : List X) → AllByRecursion P (front ++ x ∷ rest) → P x
that_one P [] x rest h = h.0
that_one P (y ∷ front) x rest h = that_one P front x rest h.1

-- ---- tables by their numbers

number_of : (front rest : List Table) (n : ℕ) (table : Table) → AreTables n (front ++ table ∷ rest) → table.number ≡ n + length front
number_of [] rest n table h = let same : n ≡ n + 0 = omega arith in h.0.numbered ∙ same
number_of (t ∷ front) rest n table h = let same : (n + 1) + length front ≡ n + suc (length front) = omega arith in number_of front rest (n + 1) table h.1 ∙ same

at_place : (front rest : List Table) (table : Table) → slice_get (front ++ table ∷ rest) (length front) ≡ Some table
at_place [] rest table = refl
at_place (t ∷ front) rest table = at_place front rest table

by_number : (tables : Schema) (front rest : List Table) (table : Table) → tables.tables ≡ front ++ table ∷ rest → AreTables 1 tables.tables → table_at tables table.number ≡ Some table
by_number tables front rest table is good =
    let number : table.number ≡ 1 + length front = number_of front rest 1 table (subst (AreTables 1) is good) in
    let some : (table.number == 0) ≡ false = grind (arith, nat_tests) in
    let place : table.number - 1 ≡ length front = omega arith in
    (λ k. cond (some k) None (slice_get (is k) (place k))) ∙ at_place front rest table

module _ (tables : Schema) where
  steps_of : {X : Type 0} (f : X → List Step) (xs : List X) → steps_text tables (flat_map f xs) ≡ flat_map (λ x. steps_text tables (f x)) xs
  steps_of f [] = refl
  steps_of f (x ∷ xs) = flat_map-append (step_text tables) (f x) (flat_map f xs) ∙ ap (λ l. steps_text tables (f x) ++ l) (steps_of f xs)

  -- ---- columns

  added_texts : (w : Widths) (net : Net) → texts_of (λ w c. steps_text tables (widening tables w c.0 c.1)) w net ≡ steps_text tables (widen_all tables w net)
  added_texts w [] = refl
  added_texts w (c ∷ net) =
      ap (λ l. steps_text tables (widening tables w c.0 c.1) ++ l) (added_texts (wider w c.0 c.1) net)
      ∙ sym (flat_map-append (step_text tables) (widening tables w c.0 c.1) (widen_all tables (wider w c.0 c.1) net))

  last_from_table : (w : Widths) (front rest : List Table) → tables.tables ≡ front ++ rest → AreTables 1 tables.tables
      → flat_map (λ table. steps_text tables (additions table (width_at w table.number) (length table.columns))) rest ≡ flat_map (last_columns_text w) rest
  last_from_table w front [] is good = refl
  last_from_table w front (table ∷ rest) is good =
      let others = last_from_table w (front ++ table ∷ []) rest (is ∙ sym (append_assoc front (table ∷ []) rest)) good in
      λ k. addition_steps tables table (by_number tables front rest table is good) (width_at w table.number) (length table.columns) k ++ others k

  last_steps : (w : Widths) → AreTables 1 tables.tables → steps_text tables (last_additions tables w) ≡ flat_map (last_columns_text w) tables.tables
  last_steps w good = steps_of (λ table. additions table (width_at w table.number) (length table.columns)) tables.tables ∙ last_from_table w [] tables.tables refl good

  -- ---- a transaction

  abbrev deletions : State → Net → List ℕ
  deletions m net = flat_map (λ c. steps_text tables (delete tables is_long m c.0)) net

  abbrev insertions : Net → List ℕ
  insertions net = flat_map (λ c. steps_text tables (insert tables is_long c.0 c.1)) net

  write_text : (m : State) (net : Net) → steps_text tables (write_steps tables is_long m net) ≡ deletions m net ++ insertions net
  write_text m net =
      flat_map-append (step_text tables) (flat_map (λ c. delete tables is_long m c.0) net) (flat_map (λ c. insert tables is_long c.0 c.1) net)
      ∙ (λ k. steps_of (λ c. delete tables is_long m c.0) net k ++ steps_of (λ c. insert tables is_long c.0 c.1) net k)

  transaction_is : (m : State) (t : Transaction) → begin_text t.instant ++ (deletions m t.net ++ (insertions t.net ++ codes "1: COMMIT\n")) ≡ text.transaction_text tables m t
  transaction_is m t =
      append_assoc (numbered (codes "clock: ") t.instant) (codes "1: BEGIN\n") (deletions m t.net ++ (insertions t.net ++ codes "1: COMMIT\n"))
      ∙ ap (λ l. numbered (codes "clock: ") t.instant ++ (codes "1: BEGIN\n" ++ l)) (sym (append_assoc (deletions m t.net) (insertions t.net) (codes "1: COMMIT\n"))
      ∙ ap (λ l. l ++ codes "1: COMMIT\n") (sym (write_text m t.net))
      ∙ sym (flat_map-append (step_text tables) (write_steps tables is_long m t.net) (Commit 1 t.instant ∷ [])))

-- ---- of a log

module _ (tables : Schema) (log : Log) (rises : IsLog log) (keys : AreChangesIn tables (changes log)) where
  abbrev m : Changes
  m = changes log

  abbrev es : List Event
  es = events_of (changes log)

  key_in : (front rest : Changes) (c : Point × Option Row) → m ≡ front ++ c ∷ rest → IsKeyIn tables c.0.key
  key_in front rest c is = that_one (λ x. IsKeyIn tables x.0.key) front c rest (subst (AllByRecursion (λ x. IsKeyIn tables x.0.key)) is (all_keys tables m keys))

  -- the row that a change's key had when its transaction began
  row_is : (done todo : Log) (t : Transaction) → done ++ t ∷ todo ≡ log → (front rest : Changes) (c : Point × Option Row) → m ≡ front ++ c ∷ rest → c.0.instant ≡ t.instant
      → leaves_row (event_before (events_of (front ++ c ∷ rest)) (length front)) (bytes_of_key c.0.key) ≡ is_some (row_at (state done (last done)) c.0.key)
  row_is done todo t whole front rest c is here =
      row_before tables front rest c.0.key c.0.instant c.1 (subst (λ l. T (is_sorted point_cmp l)) is (state_matches log 0 rises).in_order) (key_in front rest c is)
      (all_front (λ x. IsKeyIn tables x.0.key) front (c ∷ rest) (subst (AllByRecursion (λ x. IsKeyIn tables x.0.key)) is (all_keys tables m keys)))
      (let later : 0 < t.instant = rises_to done t todo 0 (subst IsLog (sym whole) rises) in omega arith)
      ∙ ap is_some ((λ k. option_flatten (latest (is_back k) (here k - 1) c.0.key))
      ∙ row_then done t todo c.0.key (subst IsLog (sym whole) rises))
    where
      is_back : front ++ c ∷ rest ≡ changes (done ++ t ∷ todo)
      is_back = sym is ∙ ap changes (sym whole)

  deletions_alike : (done todo : Log) (t : Transaction) → done ++ t ∷ todo ≡ log
      → AreAlike t.instant (λ m place. deletion_text tables (events_of m) place) (λ c. steps_text tables (delete tables is_long (state done (last done)) c.0)) m
  deletions_alike done todo t whole front rest c is here =
      ap (λ (l : Changes). deletion_text tables (events_of l) (length front)) is
      ∙ ap (λ (o : Option Event). elim o [ None ↦ [] | Some e ↦ cond (leaves_row (event_before (events_of (front ++ c ∷ rest)) (length front)) e.key) (delete_text tables e.key) [] ]) (event_at front rest c)
      ∙ deleted tables (state done (last done)) c.0.key (leaves_row (event_before (events_of (front ++ c ∷ rest)) (length front)) (bytes_of_key c.0.key)) (key_in front rest c is)
      (row_is done todo t whole front rest c is here)

  insertions_alike : (i : ℕ) → AreAlike i (λ m place. insertion_text tables (events_of m) place) (λ c. steps_text tables (insert tables is_long c.0 c.1)) m
  insertions_alike i front rest c is here =
      ap (λ (l : Changes). insertion_text tables (events_of l) (length front)) is
      ∙ ap (λ (o : Option Event). elim o [ None ↦ [] | Some e ↦ insert_row tables e.key e.row ]) (event_at front rest c)
      ∙ inserted tables c.0.key c.1 (key_in front rest c is)

  widens_alike : (i : ℕ) → WidensAlike i tables (λ w c. steps_text tables (widening tables w c.0 c.1)) m
  widens_alike i = record {
    texts = λ front rest c w is.
        ap (λ (l : Changes). widening_text tables (events_of l) w (length front)) is
        ∙ ap (λ (o : Option Event). elim o [ None ↦ [] | Some e ↦ widen_text tables w e.key e.row ]) (event_at front rest c)
        ∙ added tables w c.0.key c.1 (key_in front rest c is);
    widths = λ front rest c w is.
        ap (λ (l : Changes). widened tables (events_of l) w (length front)) is
        ∙ ap (λ (o : Option Event). elim o [ None ↦ w | Some e ↦ widen tables w e.key e.row ]) (event_at front rest c)
        ∙ widths_taken tables w c.0.key c.1 (key_in front rest c is);
  }

  one_transaction : (done todo : Log) (t : Transaction) → done ++ t ∷ todo ≡ log → t.net ≡ net_at t.instant m
      → transaction_text tables es t.instant (places_at es t.instant) ≡ text.transaction_text tables (state done (last done)) t
  one_transaction done todo t whole net_is =
      (λ k. begin_text t.instant ++ (deleted_by k ++ (inserted_by k ++ codes "1: COMMIT\n")))
      ∙ transaction_is tables (state done (last done)) t
    where
      deleted_by : flat_map (deletion_text tables es) (places_at es t.instant) ≡ deletions tables (state done (last done)) t.net
      deleted_by = all_alike t.instant (λ m place. deletion_text tables (events_of m) place) (λ c. steps_text tables (delete tables is_long (state done (last done)) c.0)) m (deletions_alike done todo t whole)
          ∙ ap (deletions tables (state done (last done))) (sym net_is)

      inserted_by : flat_map (insertion_text tables es) (places_at es t.instant) ≡ insertions tables t.net
      inserted_by = all_alike t.instant (λ m place. insertion_text tables (events_of m) place) (λ c. steps_text tables (insert tables is_long c.0 c.1)) m (insertions_alike t.instant)
          ∙ ap (insertions tables) (sym net_is)

  -- from some transactions on
  from_there : (good : AreTables 1 tables.tables) (w : Widths) (done todo : Log) → done ++ todo ≡ log → HaveNets m todo
      → text_from tables w done todo ≡ instants_text tables es w (times todo) ++ flat_map (last_columns_text (widths_behind tables es w (times todo))) tables.tables
  from_there good w done [] whole have = last_steps tables w good
  from_there good w done (t ∷ todo) whole have =
      let wide = all_widened_alike t.instant tables (λ w c. steps_text tables (widening tables w c.0 c.1)) m w (widens_alike t.instant) in
      let texts : widenings_text tables es w (places_at es t.instant) ≡ steps_text tables (widen_all tables w t.net) = wide.0 ∙ added_texts tables w (net_at t.instant m) ∙ ap (λ net. steps_text tables (widen_all tables w net)) (sym have.0) in
      let widths : all_widened tables es w (places_at es t.instant) ≡ widths_after w t.net = wide.1 ∙ ap (widths_after w) (sym have.0) in
      let rest = from_there good (widths_after w t.net) (done ++ t ∷ []) todo (append_assoc done (t ∷ []) todo ∙ whole) have.1 in
      ap (λ l. steps_text tables (widen_all tables w t.net) ++ (text.transaction_text tables (state done (last done)) t ++ l)) rest
      ∙ (λ k. sym texts k ++ (sym (one_transaction done todo t whole have.0) k ++ (instants_text tables es (sym widths k) (times todo) ++ flat_map (last_columns_text (widths_behind tables es (sym widths k) (times todo))) tables.tables)))
      ∙ sym (append_assoc (widenings_text tables es w (places_at es t.instant)) (transaction_text tables es t.instant (places_at es t.instant)) _)
      ∙ sym (append_assoc (widenings_text tables es w (places_at es t.instant) ++ transaction_text tables es t.instant (places_at es t.instant)) _ _)

  pub dump_is : (good : AreTables 1 tables.tables) (first : Schema) → HaveNets m log
      → dump_text first tables log ≡ instants_text tables es (widths_of first) (times log) ++ flat_map (last_columns_text (widths_behind tables es (widths_of first) (times log))) tables.tables
  dump_is good first have = from_there good (widths_of first) [] log refl have

-- ---- by the lists that the program has

runs_of : (log : Log) → IsLog log → AreNets log → (listed : List Event) (places : List ℕ) → listed ≡ events_of (changes log) → AreByInstant listed places → AreRuns listed (times log) places
runs_of log rises nets listed places is h = subst (λ (l : List Event). AreByInstant l places → AreRuns l (times log) places) (sym is)
    (λ h. record {
      rising = times_rise log 0 rises;
      some = each_some (changes log) log (nets_are log rises nets) nets;
      places_are = runs_are (events_of (changes log)) (times log) places h (times_rise log 0 rises) (covers log rises nets);
    }) h

pub take_whole : {X : Type 0} (n : ℕ) (xs ys : List X) → n ≡ length xs → take n (xs ++ ys) ≡ xs
take_whole n xs ys is = ap (λ (k : ℕ). take k (xs ++ ys)) is ∙ take-append_seam xs ys

-- the transactions of a log, and then the columns that no row has
pub record AreParts (first tables : Schema) (log : Log) (listed : List Event) (places : List ℕ) (w : Widths) (last_tables : List Table) : Type 0 where
  pub runs : AreRuns listed (times log) places
  pub text_is : (v : Widths) → v ≡ widths_behind tables listed w (times log) → dump_text first tables log ≡ instants_text tables listed w (times log) ++ flat_map (last_columns_text v) last_tables

module _ (first tables : Schema) (view : TreeState) (log : Log) (rises : IsLog log) (nets : AreNets log) (holds : HoldsLog tables view log) where
  -- of the lists at hand, each of which is read as a slice
  pub parts_of : (last_tables : List Table) → last_tables ≡ tables.tables → AreTables 1 last_tables
      → (items ordered listed : List Event) → items ≡ events view → ordered ≡ items → listed ≡ items
      → (order places : List ℕ) → AreByInstant ordered order → places ≡ order
      → (widths w : Widths) → widths ≡ widths_of first → w ≡ widths
      → AreParts first tables log listed places w last_tables
  parts_of last_tables tables_are good items ordered listed all is_ordered is_listed order places by_instant are_places widths w of_first are_widths = record {
    runs = runs_of log rises nets listed places listed_is (subst (AreByInstant listed) (sym are_places) (subst (λ (l : List Event). AreByInstant l order) (is_ordered ∙ sym is_listed) by_instant));
    text_is = λ v v_is.
        dump_is tables log rises holds.keys (subst (AreTables 1) tables_are good) first (nets_are log rises nets)
        ∙ sym ((λ k. instants_text tables (listed_is k) (w_is k) (times log) ++ flat_map (last_columns_text v) (tables_are k))
        ∙ ap (λ (u : Widths). instants_text tables (events_of (changes log)) (widths_of first) (times log) ++ flat_map (last_columns_text u) tables.tables)
        (v_is ∙ (λ k. widths_behind tables (listed_is k) (w_is k) (times log))));
  }
    where
      listed_is : listed ≡ events_of (changes log)
      listed_is = is_listed ∙ all ∙ holds.events_are

      w_is : w ≡ widths_of first
      w_is = are_widths ∙ of_first
