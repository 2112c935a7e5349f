-- The steps of a transaction make it again.
use Rattle.std.proofs.Common.{◌≡◌, ◌≤◌, ◌<◌, Bool, true, false, cond, ◌||◌, T, List, [], ◌∷◌, ◌++◌, Option, Some, None, refl, sym, ap, subst, ◌∙◌, length}
use Rattle.std.specs.Prelude.{Err, if◌then◌else◌, is_some}
use Rattle.std.specs.BTreeMap.{is_at}
use Rattle.std.specs.BTreeSet.{insert_key}
use Rattle.std.specs.Map.{lookup}
use Rattle.std.specs.FinMap.{is_sorted}
use Rattle.std.specs.FinMap.Entries.{below_all}
use Rattle.std.specs.List.{AllByRecursion, flat_map, list_any}
use Rattle.std.specs.Option.{ForSome, option_and_then}
use Rattle.std.specs.Ordering.{is_eq, is_lt}
use Rattle.std.specs.declared.cmp.Ordering.{Ordering}
use Rattle.std.specs.declared.cmp.Ordering.TheVariants.{Less, Equal, Greater}
use Rattle.std.proofs.lemmas.List.{length-map}
use Rattle.values.specs.declared.key.Key.{Key}
use Rattle.values.specs.declared.key.Transaction.{Transaction}
use Rattle.values.specs.declared.refusal.Refusal.{Refusal}
use Rattle.values.specs.declared.refusal.Refusal.TheVariants.{NoTable}
use Rattle.values.specs.declared.table.Table.{Table}
use Rattle.values.specs.Commits.{max_instant}
use Rattle.values.specs.Each.{Each}
use Rattle.values.specs.Entity.{clash_by}
use Rattle.values.specs.Faults.{bad_row}
use Rattle.values.specs.Fit.{comparisons_fault}
use Rattle.values.specs.Law.{IsLog}
use Rattle.values.specs.Log.{Log, Net, Row, State, apply_net, last, row_at, set_row, state}
use Rattle.values.specs.Order.{key_cmp, is_key}
use Rattle.values.specs.Period.{periods_of}
use Rattle.values.specs.TableRules.{HasPeriod}
use Rattle.values.specs.Tables.{Schema, table_at, value_at}
use Rattle.values.specs.Writes.{Own, Written, delete_from, key_of, most_written}
use Rattle.values.proofs.LogStates.{row_at-set_row, sorted_set_row, state_matches}
use Rattle.values.proofs.LogLatest.{later, later_none}
use Rattle.values.proofs.OrderTotal.{first, second}
use Rattle.periods.specs.NoOverlap.{NoOverlap}
use Rattle.periods.proofs.NoOverlapApart.{is_key_turned, one_key, or_none}
use Rattle.periods.proofs.NoOverlapColumns.{each_to}
use Rattle.periods.proofs.NoOverlapMerge.{free_from, itself, net_last, over, row_at_net}
use Rattle.periods.proofs.NoOverlapNets.{each_net}
use Rattle.periods.proofs.NoOverlapPieces.{each_inserted, the_table}
use Rattle.steps.specs.declared.step.Step.TheVariants.{Begin, Commit, Delete}
use Rattle.steps.specs.Misfit.{misfit}
use Rattle.histories.specs.World.{World}
use Rattle.restoring.specs.Rebuilt.{IsNetOver, clear, fill, rebuilt, untouched, with_change, with_row, without}
use Rattle.restoring.specs.Room.{HasRoomToClear, HasRoomToFill}
use Rattle.restoring.specs.OneKey.{MayWrite}
use Rattle.restoring.proofs.OneKeyWrites.{one_key_is_deleted}
use Rattle.restoring.proofs.RebuiltNet.{net_is_rebuilt}
use Rattle.restoring.proofs.RebuiltRows.{cleared, cleared_order, is_in, none_left}
use Rattle.dump_steps.specs.Dump.{comparisons_of, delete, insert, keys_of, row_steps, transaction_steps, write_steps}
use Rattle.dump_steps.specs.Widths.{Widths, width_at}
use Rattle.dump_steps.proofs.DumpKeys.{IsOwn, takes_one}
use Rattle.dump_steps.proofs.DumpRows.{AreKeyColumns, IsRowOf, comparisons_fit, narrow}
use Rattle.dump_steps.proofs.DumpTurns.{Goes, begin_goes, commit_goes, delete_goes, goes_on, system, with}
use Rattle.dump_steps.proofs.PiecesInserted.{row_goes}
use Rattle.dump_steps.proofs.WidthsTables.{tables_at}

-- the row is of a table of the schema
abbrev pub IsRowIn : Schema → (Key × Row) → Type 0
IsRowIn tables e = (t : Table) × ((table_at tables e.0.table ≡ Some t) × IsRowOf t e)

-- the row of a key among such
pub row_found : (tables : Schema) (m : State) (k : Key) (row : Row) → Each (IsRowIn tables) m → row_at m k ≡ Some row → IsRowIn tables (k, row)
row_found tables [] k row rows at = cc
row_found tables (e ∷ m) k row rows at = by (is_key k e.0) refl at (λ at. row_found tables m k row rows.1 at)
  where
    the_row : (r s : Row) → ◌≡◌ {A = Option Row} (Some r) (Some s) → r ≡ s
    the_row r s e = cc

    by : (b : Bool) → is_key k e.0 ≡ b → cond b (Some e.1) (row_at m k) ≡ Some row → (row_at m k ≡ Some row → IsRowIn tables (k, row)) → IsRowIn tables (k, row)
    by true is at rest = subst (IsRowIn tables) (λ i. (sym (one_key k e.0 is) i, the_row e.1 row at i)) rows.0
    by false is at rest = rest at

-- ---- rows in order

pub other_by : (o : Ordering) → T (is_lt o) → is_eq o ≡ false
other_by Less h = refl
other_by Equal h = absurd h
other_by Greater h = absurd h

module _ {V : Type 0} where
  abbrev found_at : Key → List (Key × V) → Option V
  found_at q es = lookup (is_at (key_cmp q)) es

  -- what is above a key is not that key
  pub none_above : (k : Key) (es : List (Key × V)) → T (below_all key_cmp k es) → found_at k es ≡ None
  none_above k [] below = refl
  none_above k (e ∷ es) below = ap (λ b. cond b (Some e.1) (found_at k es)) (other_by (key_cmp k e.0) (first (is_lt (key_cmp k e.0)) _ below)) ∙ none_above k es (second (is_lt (key_cmp k e.0)) _ below)

  pub each_above : (k : Key) (es : List (Key × V)) → T (below_all key_cmp k es) → Each (λ e. is_key e.0 k ≡ false) es
  each_above k [] below = tt
  each_above k (e ∷ es) below = (is_key_turned e.0 k ∙ other_by (key_cmp k e.0) (first (is_lt (key_cmp k e.0)) _ below), each_above k es (second (is_lt (key_cmp k e.0)) _ below))

  behind_it : (e : Key × V) (es more : List (Key × V)) → Each (λ d. is_key d.0 e.0 ≡ false) more → Each (λ d. found_at d.0 es ≡ Some d.1) more → Each (λ d. found_at d.0 (e ∷ es) ≡ Some d.1) more
  behind_it e es [] others found = tt
  behind_it e es (d ∷ more) others found = (ap (λ b. cond b (Some e.1) (found_at d.0 es)) others.0 ∙ found.0, behind_it e es more others.1 found.1)

  -- each is found by its key
  pub all_found : (es : List (Key × V)) → T (is_sorted key_cmp es) → Each (λ e. found_at e.0 es ≡ Some e.1) es
  all_found [] sorted = tt
  all_found (e ∷ es) sorted = (
    ap (λ b. cond b (Some e.1) (found_at e.0 es)) (itself e.0),
    behind_it e es es (each_above e.0 es (first (below_all key_cmp e.0 es) _ sorted)) (all_found es (second (below_all key_cmp e.0 es) _ sorted)),
  )

-- what keys have after net changes that are in order
last_is : (net : Net) (q : Key) → T (is_sorted key_cmp net) → net_last net q ≡ found_at q net
last_is [] q sorted = refl
last_is (c ∷ net) q sorted = by (is_key q c.0) refl (last_is net q (second (below_all key_cmp c.0 net) _ sorted))
  where
    by : (b : Bool) → is_key q c.0 ≡ b → net_last net q ≡ found_at q net → later (net_last net q) (cond b (Some c.1) None) ≡ cond b (Some c.1) (found_at q net)
    by true is rest =
        ap (λ (o : Option (Option Row)). later o (Some c.1)) (rest ∙ ap (λ k. found_at k net) (one_key q c.0 is) ∙ none_above c.0 net (first (below_all key_cmp c.0 net) _ sorted))
    by false is rest = later_none (net_last net q) ∙ rest

in_is : (net : Net) (q : Key) → is_in net q ≡ is_some (found_at q net)
in_is [] q = refl
in_is (c ∷ net) q = ap (λ r. is_key q c.0 || r) (in_is net q) ∙ by (is_key q c.0)
  where
    by : (b : Bool) → (b || is_some (found_at q net)) ≡ is_some (cond b (Some c.1) (found_at q net))
    by true = refl
    by false = refl

-- ---- a table as it is then

pub record IsHere (tables : Schema) (w : Widths) (t : Table) : Type 0 where
  pub table_is : table_at (tables_at tables.tables w) t.number ≡ Some (narrow (width_at w t.number) t)
  pub columns : AreKeyColumns t (width_at w t.number) t.key
  pub within : width_at w t.number ≤ length t.columns
  pub has : ForSome t.period (HasPeriod t)

-- a row that is as wide as its table is then
pub record IsNew (tables : Schema) (w : Widths) (key : Key) (row : Row) : Type 0 where
  pub t : Table
  pub found : table_at tables key.table ≡ Some t
  pub row_is : IsRowOf t (key, row)
  pub wide : length row ≡ width_at w key.table

abbrev pub AreNew : Schema → Widths → Net → Type 0
AreNew tables w net = Each (λ c. (row : Row) → c.1 ≡ Some row → IsNew tables w c.0 row) net

module _ (tables : Schema) (is_long : Table → Row → Bool) (w : Widths) (here : (t : Table) → table_at tables t.number ≡ Some t → IsHere tables w t) (log : Log) where
  abbrev now : Schema
  now = tables_at tables.tables w

  abbrev at : Own → World
  at o = with now log o

  abbrev AreRows : State → Type 0
  AreRows m = Each (IsRowIn tables) m

  numbered : (t : Table) (e : Key × Row) → IsRowOf t e → e.0.table ≡ t.number
  numbered t e row = ap (λ (k : Key). k.table) row.key_is

  its_own : (t : Table) (m : State) → table_at tables t.number ≡ Some t → AreRows m → Each (IsOwn t) m
  its_own t m found rows =
      each_to (IsRowIn tables) (IsOwn t)
      (λ e is its. subst (λ (t : Table). e.0 ≡ key_of t e.1) (the_table is.0 t (sym is.1.0 ∙ ap (table_at tables) its ∙ found)) is.1.1.key_is)
      m rows

  rows_without : (k : Key) (m : State) → AreRows m → AreRows (set_row k None m)
  rows_without k m rows = each_net (IsRowIn tables) ((k, None) ∷ []) m ((λ row at. cc), tt) rows

  -- ---- one deletion

  compared : (t : Table) (key : Key) (row : Row) → IsHere tables w t → IsRowOf t (key, row) → misfit now (Delete 1 (keys_of t key)) ≡ None
  compared t key row is of =
      ap (λ (o : Option Table). let f : Option Refusal = elim o [ None ↦ Some NoTable | Some u ↦ bad_row (comparisons_fault u (comparisons_of t.key key.parts)) ] in f) is.table_is
      ∙ ap bad_row
      (ap (λ (k : Key). comparisons_fault (narrow (width_at w t.number) t) (comparisons_of t.key k.parts)) of.key_is
      ∙ comparisons_fit t row (width_at w t.number) t.key is.within of.fits is.columns)

  key_deleted : (t : Table) (key : Key) (row : Row) (o : Own) → table_at tables t.number ≡ Some t → IsRowOf t (key, row) → T (is_sorted key_cmp o.rows) → AreRows o.rows → length o.written ≤ most_written → MayWrite o key
      → Goes (at o) (Delete 1 (keys_of t key) ∷ []) (at (without key o))
  key_deleted t key row o found of sorted rows small room =
      let is = here t found in
      let u : Table = narrow (width_at w t.number) t in
      let one = takes_one t key (numbered t (key, row) of) (ap (λ (k : Key). length k.parts) of.key_is ∙ length-map t.key (value_at row)) o.rows (its_own t o.rows found rows) in
      let did = one_key_is_deleted u (keys_of t key) key o sorted one small room in
      delete_goes now log o (without key o) did.0 (keys_of t key) (compared t key row is of)
      (ap (λ (o' : Option Table). let d : Written = elim o' [ None ↦ (Err NoTable, o) | Some u ↦ delete_from u (keys_of t key) o ] in d) is.table_is ∙ did.1)

  gone_already : (k : Key) (o : Own) → row_at o.rows k ≡ None → o ≡ without k o
  gone_already k o none =
      λ i. record {
        rows = sym (removed o.rows none) i;
        written = (if is_some (sym none i) then insert_key key_cmp o.written k else o.written);
      }
    where
      removed : (m : State) → row_at m k ≡ None → set_row k None m ≡ m
      removed [] none = refl
      removed (e ∷ m) none = by (is_key k e.0) none (removed m)
        where
          by : (b : Bool) → ◌≡◌ {A = Option Row} (cond b (Some e.1) (row_at m k)) None → (row_at m k ≡ None → set_row k None m ≡ m) → cond b m (e ∷ set_row k None m) ≡ e ∷ m
          by true none rest = cc
          by false none rest = ap (λ l. e ∷ l) (rest none)

  one_deleted : (m : State) (key : Key) (o : Own) → AreRows m → T (is_sorted key_cmp o.rows) → AreRows o.rows → (row_at m key ≡ None → row_at o.rows key ≡ None) → length o.written ≤ most_written → MayWrite o key
      → Goes (at o) (delete tables is_long m key) (at (without key o))
  one_deleted m key o seen sorted rows gone small room = by (row_at m key) refl
    where
      by : (v : Option Row) → row_at m key ≡ v → Goes (at o) (if is_some v then elim (table_at tables key.table) [ None ↦ [] | Some t ↦ Delete 1 (keys_of t key) ∷ [] ] else []) (at (without key o))
      by None none = ap at (gone_already key o (gone none))
      by (Some row) there =
          let is = row_found tables m key row seen there in
          let own : table_at tables is.0.number ≡ Some is.0 = ap (table_at tables) (sym (numbered is.0 (key, row) is.1.1)) ∙ is.1.0 in
          subst (λ (o' : Option Table). Goes (at o) (elim o' [ None ↦ [] | Some t ↦ Delete 1 (keys_of t key) ∷ [] ]) (at (without key o))) (sym is.1.0)
          (key_deleted is.0 key row o own is.1.1 sorted rows small room)

  all_deleted : (m : State) (net : Net) (o : Own) → AreRows m → T (is_sorted key_cmp o.rows) → AreRows o.rows → ((q : Key) → row_at m q ≡ None → row_at o.rows q ≡ None) → HasRoomToClear net o
      → Goes (at o) (flat_map (λ c. delete tables is_long m c.0) net) (at (clear net o))
  all_deleted m [] o seen sorted rows gone room = refl
  all_deleted m (c ∷ net) o seen sorted rows gone room =
      goes_on (at o) (at (without c.0 o)) (at (clear net (without c.0 o))) (delete tables is_long m c.0) (flat_map (λ c. delete tables is_long m c.0) net)
      (one_deleted m c.0 o seen sorted rows (gone c.0) room.0.0 room.0.1)
      (all_deleted m net (without c.0 o) seen (sorted_set_row c.0 None o.rows sorted) (rows_without c.0 o.rows rows)
      (λ q none. row_at-set_row q c.0 None o.rows sorted ∙ by (is_key q c.0) (gone q none)) room.1)
    where
      by : (b : Bool) {x : Option Row} → x ≡ None → cond b None x ≡ None
      by true none = refl
      by false none = none

  -- ---- insertions

  -- the rows that stand in the end are apart
  module _ (end : State) (apart : NoOverlap (periods_of tables) end) where
    record IsPartly (rest : Net) (o : Own) : Type 0 where
      sorted : T (is_sorted key_cmp o.rows)
      rows : AreRows o.rows
      part : (q : Key) (r : Row) → row_at o.rows q ≡ Some r → row_at end q ≡ Some r
      absent : Each (λ c. row_at o.rows c.0 ≡ None) rest

    none_of : (t : Table) (key : Key) (row : Row) → periods_of tables key.table ≡ t.period → row_at end key ≡ Some row → (m : State) → Each (λ e. (row_at end e.0 ≡ Some e.1) × (is_key key e.0 ≡ false)) m → list_any (clash_by t.period (key, row)) m ≡ false
    none_of t key row period last [] each = refl
    none_of t key row period last (e ∷ m) each =
        or_none _ _
        (ap (λ p. clash_by p (key, row) e) (sym period) ∙ free_from (periods_of tables) end apart key e.0 row e.1 last each.0.0 each.0.1)
        (none_of t key row period last m each.1)

    others : (o : Own) (key : Key) → T (is_sorted key_cmp o.rows) → ((q : Key) (r : Row) → row_at o.rows q ≡ Some r → row_at end q ≡ Some r) → row_at o.rows key ≡ None
        → Each (λ e. (row_at end e.0 ≡ Some e.1) × (is_key key e.0 ≡ false)) o.rows
    others o key sorted part none =
        each_to (λ e. found_at e.0 o.rows ≡ Some e.1) (λ e. (row_at end e.0 ≡ Some e.1) × (is_key key e.0 ≡ false))
        (λ e at. (part e.0 e.1 at, other e at (is_key key e.0) refl)) o.rows (all_found o.rows sorted)
      where
        other : (e : Key × Row) → row_at o.rows e.0 ≡ Some e.1 → (b : Bool) → is_key key e.0 ≡ b → is_key key e.0 ≡ false
        other e at true is = let never : ◌≡◌ {A = Option Row} (Some e.1) None = sym at ∙ ap (row_at o.rows) (sym (one_key key e.0 is)) ∙ none in cc
        other e at false is = is

    one_inserted : (key : Key) (row : Row) (rest : Net) (o : Own) → IsNew tables w key row → row_at end key ≡ Some row → IsPartly ((key, Some row) ∷ rest) o → MayWrite o key
        → Goes (at o) (insert tables is_long key (Some row)) (at (with_row key row o))
    one_inserted key row rest o new last partly room =
        subst (λ (o' : Option Table). Goes (at o) (elim o' [ None ↦ [] | Some t ↦ row_steps tables is_long t key row ]) (at (with_row key row o))) (sym new.found)
        (row_goes now log new.t key row o
        (record {
          table_is = is.table_is ∙ ap (λ n. Some (narrow n new.t)) (sym wide);
          row_is = new.row_is;
          columns = subst (λ n. AreKeyColumns new.t n new.t.key) (sym wide) is.columns;
          has = is.has;
          own = its_own new.t o.rows own partly.rows;
          absent = partly.absent.0;
          free = none_of new.t key row (ap (option_and_then (λ t. t.period)) new.found) last o.rows (others o key partly.sorted partly.part partly.absent.0);
          room = room;
        })
        tables is_long)
      where
        its : key.table ≡ new.t.number
        its = numbered new.t (key, row) new.row_is

        own : table_at tables new.t.number ≡ Some new.t
        own = ap (table_at tables) (sym its) ∙ new.found

        is : IsHere tables w new.t
        is = here new.t own

        wide : length row ≡ width_at w new.t.number
        wide = new.wide ∙ ap (width_at w) its

    still_absent : (key : Key) (row : Row) (rest : Net) (m : State) → T (is_sorted key_cmp m) → Each (λ c. is_key c.0 key ≡ false) rest → Each (λ c. row_at m c.0 ≡ None) rest → Each (λ c. row_at (set_row key (Some row) m) c.0 ≡ None) rest
    still_absent key row [] m sorted other absent = tt
    still_absent key row (c ∷ rest) m sorted other absent = (
      row_at-set_row c.0 key (Some row) m sorted ∙ ap (λ b. cond b (Some row) (row_at m c.0)) other.0 ∙ absent.0,
      still_absent key row rest m sorted other.1 absent.1,
    )

    all_inserted : (net : Net) (o : Own) → T (is_sorted key_cmp net) → AreNew tables w net → Each (λ c. row_at end c.0 ≡ c.1) net → IsPartly net o → HasRoomToFill net o
        → Goes (at o) (flat_map (λ c. insert tables is_long c.0 c.1) net) (at (fill net o))
    all_inserted [] o sorted new last partly room = refl
    all_inserted (c ∷ net) o sorted new last partly room = by c.1 new.0 last.0 room.1 (λ o' partly room. all_inserted net o' (second (below_all key_cmp c.0 net) _ sorted) new.1 last.1 partly room)
      where
        apart_from_it : Each (λ d. is_key d.0 c.0 ≡ false) net
        apart_from_it = each_above c.0 net (first (below_all key_cmp c.0 net) _ sorted)

        by : (v : Option Row) → ((row : Row) → v ≡ Some row → IsNew tables w c.0 row) → row_at end c.0 ≡ v → HasRoomToFill net (with_change c.0 v o)
            → ((o' : Own) → IsPartly net o' → HasRoomToFill net o' → Goes (at o') (flat_map (λ c. insert tables is_long c.0 c.1) net) (at (fill net o')))
            → Goes (at o) (insert tables is_long c.0 v ++ flat_map (λ c. insert tables is_long c.0 c.1) net) (at (fill net (with_change c.0 v o)))
        by None new last room rest =
            rest o (record { sorted = partly.sorted; rows = partly.rows; part = partly.part; absent = partly.absent.1 }) room
        by (Some row) new last more rest =
            let is = new row refl in
            goes_on (at o) (at (with_row c.0 row o)) (at (fill net (with_row c.0 row o))) (insert tables is_long c.0 (Some row)) (flat_map (λ c. insert tables is_long c.0 c.1) net)
            (one_inserted c.0 row net o is last (record { sorted = partly.sorted; rows = partly.rows; part = partly.part; absent = partly.absent }) room.0)
            (rest (with_row c.0 row o)
            (record {
              sorted = sorted_set_row c.0 (Some row) o.rows partly.sorted;
              rows = each_inserted (IsRowIn tables) o.rows c.0 row (is.t, (is.found, is.row_is)) partly.rows;
              part = λ q r at. there q r (is_key q c.0) refl (sym (row_at-set_row q c.0 (Some row) o.rows partly.sorted) ∙ at);
              absent = still_absent c.0 row net o.rows partly.sorted apart_from_it partly.absent.1;
            })
            more)
          where
            there : (q : Key) (r : Row) (b : Bool) → is_key q c.0 ≡ b → cond b (Some row) (row_at o.rows q) ≡ Some r → row_at end q ≡ Some r
            there q r true is at = ap (row_at end) (one_key q c.0 is) ∙ last ∙ at
            there q r false is at = partly.part q r at

  -- ---- the transaction

  rows_cleared : (net : Net) (o : Own) → AreRows o.rows → AreRows (clear net o).rows
  rows_cleared [] o rows = rows
  rows_cleared (c ∷ net) o rows = rows_cleared net (without c.0 o) (rows_without c.0 o.rows rows)

  end_is : (net : Net) (m : State) (q : Key) → T (is_sorted key_cmp net) → T (is_sorted key_cmp m) → row_at (apply_net m net) q ≡ over (found_at q net) (row_at m q)
  end_is net m q in_order sorted = row_at_net net m q sorted ∙ ap (λ (o : Option (Option Row)). over o (row_at m q)) (last_is net q in_order)

  part_cleared : (net : Net) (m : State) (q : Key) (r : Row) → T (is_sorted key_cmp net) → T (is_sorted key_cmp m) → row_at (clear net (untouched m)).rows q ≡ Some r → row_at (apply_net m net) q ≡ Some r
  part_cleared net m q r in_order sorted at =
      end_is net m q in_order sorted
      ∙ by (found_at q net) (sym (cleared net (untouched m) q sorted ∙ ap (λ b. cond b None (row_at m q)) (in_is net q)) ∙ at)
    where
      by : (o : Option (Option Row)) → cond (is_some o) None (row_at m q) ≡ Some r → over o (row_at m q) ≡ Some r
      by None at = at
      by (Some v) at = cc

  pub transaction_goes : (t : Transaction) → IsLog log → last log < t.instant → t.instant ≤ max_instant → 0 < length t.net → IsNetOver (state log (last log)) t.net
      → HasRoomToClear t.net (untouched (state log (last log))) × HasRoomToFill t.net (clear t.net (untouched (state log (last log))))
      → AreRows (state log (last log)) → AreNew tables w t.net → NoOverlap (periods_of tables) (apply_net (state log (last log)) t.net)
      → Goes (system now log None) (transaction_steps tables is_long (state log (last log)) t) (system now (log ++ t ∷ []) None)
  transaction_goes t rises above within some is_over room rows new apart =
      let m = state log (last log) in
      let sorted : T (is_sorted key_cmp m) = (state_matches log (last log) rises).by_key in
      let o : Own = clear t.net (untouched m) in
      let deletes = flat_map (λ c. delete tables is_long m c.0) t.net in
      let inserts = flat_map (λ c. insert tables is_long c.0 c.1) t.net in
      goes_on (system now log None) (at (untouched m)) (system now (log ++ t ∷ []) None) (Begin 1 ∷ []) (write_steps tables is_long m t.net ++ Commit 1 t.instant ∷ [])
      (begin_goes now log rises)
      (goes_on (at (untouched m)) (at (rebuilt m t.net)) (system now (log ++ t ∷ []) None) (write_steps tables is_long m t.net) (Commit 1 t.instant ∷ [])
      (goes_on (at (untouched m)) (at o) (at (rebuilt m t.net)) deletes inserts
      (all_deleted m t.net (untouched m) rows sorted rows (λ q none. none) room.0)
      (all_inserted (apply_net m t.net) apart t.net o is_over.in_order new
      (each_to (λ c. found_at c.0 t.net ≡ Some c.1) (λ c. row_at (apply_net m t.net) c.0 ≡ c.1)
      (λ c at. end_is t.net m c.0 is_over.in_order sorted ∙ ap (λ (o : Option (Option Row)). over o (row_at m c.0)) at) t.net (all_found t.net is_over.in_order))
      (record {
        sorted = cleared_order t.net (untouched m) sorted;
        rows = rows_cleared t.net (untouched m) rows;
        part = λ q r at. part_cleared t.net m q r is_over.in_order sorted at;
        absent = each_is (λ c. row_at o.rows c.0 ≡ None) t.net (none_left t.net (untouched m) sorted);
      })
      room.1))
      (commit_goes now log (rebuilt m t.net) t rises above within some (net_is_rebuilt m t.net sorted is_over)))
    where
      each_is : (P : Key × Option Row → Type 0) (net : Net) → AllByRecursion P net → Each P net
      each_is P [] all = tt
      each_is P (c ∷ net) all = (all.0, each_is P net all.1)
