-- What a transaction wrote is a set in order, and not too many keys; and so are the net changes of each in a log.
use Rattle.std.proofs.Common.{◌≡◌, ℕ, ◌<◌, ◌≤◌, Bool, true, false, cond, ◌||◌, T, List, [], ◌∷◌, ◌++◌, Option, Some, None, refl, sym, ap, subst, map, filter, length, arith, is_some}
use Rattle.std.specs.Prelude.{nat_lt, Result, Ok, Err, if◌then◌else◌, suc}
use Rattle.std.specs.List.{AllByRecursion}
use Rattle.std.specs.BTreeSet.{insert_key}
use Rattle.std.specs.FinMap.{is_sorted}
use Rattle.std.specs.FinMap.Entries.{below_all}
use Rattle.std.proofs.lemmas.Bool.Decides.{nat_tests}
use Rattle.values.specs.declared.key.Key.{Key}
use Rattle.values.specs.declared.key.Transaction.{Transaction}
use Rattle.values.specs.declared.query.Keys.{Keys}
use Rattle.values.specs.declared.query.Set.{Set}
use Rattle.values.specs.declared.period.Period.{Period}
use Rattle.values.specs.declared.period.Span.{Span}
use Rattle.values.specs.declared.refusal.Refusal.{Refusal}
use Rattle.values.specs.declared.refusal.Refusal.TheVariants.{NoTable, TooManyWrites}
use Rattle.values.specs.declared.table.Table.{Table}
use Rattle.values.specs.Order.{key_cmp}
use Rattle.values.specs.Tables.{Schema, table_at}
use Rattle.values.specs.Log.{Changes, Log, Net, Row, State, last, row_at, changes}
use Rattle.values.specs.Period.{Periods, periods_of}
use Rattle.values.specs.Commits.{after, log_after, outcome}
use Rattle.values.specs.Writes.{Own, Written, add_keys, insert_into, insert_refusal, update_in, update_rows, delete_from, delete_rows, matching_keys, most_written, net_of, write_keys, key_of, insert_rows}
use Rattle.values.specs.Portion.{change_portion, portion_in, portion_keys, taken}
use Rattle.values.proofs.OrderTotal.{key_cmp_total, key_cmp-IsAntisymmetric, first, second, both}
use Rattle.steps.specs.declared.step.Step.{Step}
use Rattle.steps.specs.declared.step.Step.TheVariants.{Begin, Insert, Update, Delete, UpdatePortion, DeletePortion, Select, Commit, Rollback, AddColumn, SplitKey, SplitTime, Migrate}
use Rattle.steps.specs.Write.{write, write_table}
use Rattle.histories.specs.History.{History, schema_after, log, log_at_begin, own, own_of, rewrite_all, net_change_of, seen_of}
use Rattle.histories.proofs.HistoryGrowth.{log_rises}
use Rattle.restoring.specs.FromChanges.{AreNets}
use Rattle.restoring.specs.OfHistories.{LogsHaveNets, HistoriesAreOfChanges}
use Rattle.restoring.proofs.RebuiltSets.{InOrder, in_order_inserted, units}
use Rattle.restoring.proofs.FromChanges.{log_is_of_changes}

abbrev KeysInOrder : List Key → Type 0
KeysInOrder ks = InOrder key_cmp key_cmp_total key_cmp-IsAntisymmetric ks

-- ---- own writes

pub record IsNeat (o : Own) : Type 0 where
  in_order : KeysInOrder o.written
  few : length o.written ≤ most_written

added : (keys ls : List Key) → KeysInOrder ls → KeysInOrder (add_keys keys ls)
added [] ls h = h
added (k ∷ keys) ls h = added keys (insert_key key_cmp ls k) (in_order_inserted key_cmp key_cmp_total key_cmp-IsAntisymmetric ls k h)

keys_neat : (keys : List Key) (count : ℕ) (rows : State) (o : Own) → IsNeat o → IsNeat (write_keys keys count rows o).1
keys_neat keys count rows o neat = by (nat_lt most_written (length (add_keys keys o.written))) refl
  where
    by : (b : Bool) → nat_lt most_written (length (add_keys keys o.written)) ≡ b
        → IsNeat (if◌then◌else◌ {A = Written} b (Err TooManyWrites, o) (Ok count, record { rows = rows; written = add_keys keys o.written })).1
    by true e = neat
    by false e = record { in_order = added keys o.written neat.in_order; few = grind (arith, nat_tests, e) }

abbrev refused_or : Own → Written → Option Refusal → Written
refused_or o w r = elim r [ Some refusal ↦ (Err refusal, o) | None ↦ w ]

insert_neat : (table : Table) (rows : List Row) (o : Own) → IsNeat o → IsNeat (insert_into table rows o).1
insert_neat table rows o neat =
    elim (insert_refusal table rows o.rows) as (λ (r : Option Refusal). IsNeat (refused_or o (write_keys (map (key_of table) rows) (length rows) (insert_rows table rows o.rows) o) r).1) [
      | Some refusal ↦ neat
      | None ↦ keys_neat (map (key_of table) rows) (length rows) (insert_rows table rows o.rows) o neat
    ]

abbrev in_period : Table → Keys → Span → Option (List Set) → Own → Option Period → Written
in_period table keys cut sets o p = elim p [ None ↦ (Ok 0, o) | Some p ↦ write_keys (portion_keys table p keys cut sets o.rows) (length (taken table p keys cut o.rows)) (change_portion table p keys cut sets o.rows) o ]

portion_neat : (table : Table) (keys : Keys) (cut : Span) (sets : Option (List Set)) (o : Own) → IsNeat o → IsNeat (portion_in table keys cut sets o).1
portion_neat table keys cut sets o neat =
    elim table.period as (λ (p : Option Period). IsNeat (in_period table keys cut sets o p).1) [
      | None ↦ neat
      | Some p ↦ keys_neat (portion_keys table p keys cut sets o.rows) (length (taken table p keys cut o.rows)) (change_portion table p keys cut sets o.rows) o neat
    ]

abbrev in_table : (Table → Own → Written) → Own → Option Table → Written
in_table by o t = elim t [ None ↦ (Err NoTable, o) | Some table ↦ by table o ]

through : (schema : Schema) (number : ℕ) (by : Table → Own → Written) (o : Own) → IsNeat o → ((table : Table) → IsNeat (by table o).1) → IsNeat (write_table schema number by o).1
through schema number by o neat each =
    elim (table_at schema number) as (λ (t : Option Table). IsNeat (in_table by o t).1) [
      | None ↦ neat
      | Some table ↦ each table
    ]

write_neat : (schema : Schema) (step : Step) (o : Own) → IsNeat o → IsNeat (write schema step o).1
write_neat schema (Insert i number rows) o neat = through schema number (λ table. insert_into table rows) o neat (λ table. insert_neat table rows o neat)
write_neat schema (Update i keys sets) o neat = through schema keys.table (λ table. update_in table keys sets) o neat (λ table. keys_neat (matching_keys table keys o.rows) (length (matching_keys table keys o.rows)) (update_rows table keys sets o.rows) o neat)
write_neat schema (Delete i keys) o neat = through schema keys.table (λ table. delete_from table keys) o neat (λ table. keys_neat (matching_keys table keys o.rows) (length (matching_keys table keys o.rows)) (delete_rows table keys o.rows) o neat)
write_neat schema (UpdatePortion i keys cut sets) o neat = through schema keys.table (λ table. portion_in table keys cut (Some sets)) o neat (λ table. portion_neat table keys cut (Some sets) o neat)
write_neat schema (DeletePortion i keys cut) o neat = through schema keys.table (λ table. portion_in table keys cut None) o neat (λ table. portion_neat table keys cut None o neat)
write_neat schema (Begin i) o neat = neat
write_neat schema (Select i form keys) o neat = neat
write_neat schema (Commit i reading) o neat = neat
write_neat schema (Rollback i) o neat = neat
write_neat schema (AddColumn i number name of) o neat = neat
write_neat schema (SplitKey key) o neat = neat
write_neat schema (SplitTime key instant) o neat = neat
write_neat schema Migrate o neat = neat

pub rewritten : (schema : Schema) (steps : List Step) (o : Own) → IsNeat o → IsNeat (rewrite_all schema steps o)
rewritten schema [] o neat = neat
rewritten schema (step ∷ steps) o neat = rewritten schema steps (write schema step o).1 (write_neat schema step o neat)

-- ---- net changes

module _ (p : Key × Option Row → Bool) where
  below_some : (k : Key) (net : Net) → T (below_all key_cmp k net) → T (below_all key_cmp k (filter p net))
  below_some k [] h = tt
  below_some k (c ∷ net) h = elim (p c) as (λ b. T (below_all key_cmp k (cond b (c ∷ filter p net) (filter p net)))) [
    | true ↦ both _ _ (first _ _ h) (below_some k net (second _ _ h))
    | false ↦ below_some k net (second _ _ h)
  ]

  some_in_order : (net : Net) → T (is_sorted key_cmp net) → T (is_sorted key_cmp (filter p net))
  some_in_order [] h = tt
  some_in_order (c ∷ net) h = elim (p c) as (λ b. T (is_sorted key_cmp (cond b (c ∷ filter p net) (filter p net)))) [
    | true ↦ both _ _ (below_some c.0 net (first _ _ h)) (some_in_order net (second _ _ h))
    | false ↦ some_in_order net (second _ _ h)
  ]

  not_more : (net : Net) → length (filter p net) ≤ length net
  not_more [] = omega arith
  not_more (c ∷ net) = by (p c) (not_more net)
    where
      by : (b : Bool) → length (filter p net) ≤ length net → length (cond b (c ∷ filter p net) (filter p net)) ≤ length (c ∷ net)
      by true le = omega arith
      by false le = omega arith

module _ (now : State) where
  abbrev valued : List Key → Net
  valued ks = map (λ k. (k, row_at now k)) ks

  below_valued : (k : Key) (ks : List Key) → T (below_all key_cmp k (units key_cmp key_cmp_total key_cmp-IsAntisymmetric ks)) → T (below_all key_cmp k (valued ks))
  below_valued k [] h = tt
  below_valued k (x ∷ ks) h = both _ _ (first _ _ h) (below_valued k ks (second _ _ h))

  valued_in_order : (ks : List Key) → KeysInOrder ks → T (is_sorted key_cmp (valued ks))
  valued_in_order [] h = tt
  valued_in_order (x ∷ ks) h = both _ _ (below_valued x ks (first _ _ h)) (valued_in_order ks (second _ _ h))

  as_many : (ks : List Key) → length (valued ks) ≡ length ks
  as_many [] = refl
  as_many (k ∷ ks) = ap (λ n. suc n) (as_many ks)

pub net_in_order : (before : State) (o : Own) → IsNeat o → T (is_sorted key_cmp (net_of before o.rows o.written))
net_in_order before o neat = some_in_order (λ c. is_some c.1 || is_some (row_at before c.0)) (valued o.rows o.written) (valued_in_order o.rows o.written neat.in_order)

net_few : (before : State) (o : Own) → IsNeat o → length (net_of before o.rows o.written) ≤ most_written
net_few before o neat =
    let a : length (net_of before o.rows o.written) ≤ length (valued o.rows o.written) = not_more (λ c. is_some c.1 || is_some (row_at before c.0)) (valued o.rows o.written) in
    let b : length (valued o.rows o.written) ≤ most_written = subst (λ n. n ≤ most_written) (sym (as_many o.rows o.written)) neat.few in
    omega arith

pub untouched_neat : (m : State) → IsNeat (record { rows = m; written = [] })
untouched_neat m = record { in_order = tt; few = omega arith }

-- ---- a log

record HaveNets (l : Log) : Type 0 where
  nets : AreNets l
  few : AllByRecursion (λ t. length t.net ≤ most_written) l

pushed : (P : Transaction → Type 0) (l : Log) (t : Transaction) → AllByRecursion P l → P t → AllByRecursion P (l ++ t ∷ [])
pushed P [] t all one = (one, tt)
pushed P (u ∷ l) t all one = (all.0, pushed P l t all.1 one)

some_of : (periods : Periods) (m : Changes) (latest start : ℕ) (net : Net) (reading i : ℕ) → outcome periods m latest start net reading ≡ Ok (Some i) → 0 < length net
some_of periods m latest start [] reading i e = cc
some_of periods m latest start (c ∷ net) reading i e = omega arith

ended : (l : Log) (net : Net) (end : Result (Option ℕ) Refusal) → ((i : ℕ) → end ≡ Ok (Some i) → 0 < length net) → T (is_sorted key_cmp net) → length net ≤ most_written → HaveNets l → HaveNets (log_after l net end)
ended l net (Ok (Some i)) some in_order few have = record {
  nets = pushed (λ t. T (is_sorted key_cmp t.net) × (0 < length t.net)) l (record { instant = i; net = net }) have.nets (in_order, some i refl);
  few = pushed (λ t. length t.net ≤ most_written) l (record { instant = i; net = net }) have.few few;
}
ended l net (Ok None) some in_order few have = have
ended l net (Err refusal) some in_order few have = have

have_nets : (schema : Schema) (h : History) → HaveNets (log schema h)
have_nets schema [] = record { nets = tt; few = tt }
have_nets schema (Commit i reading ∷ h) =
    let now = schema_after schema h in
    let seen = seen_of (log schema h) (log_at_begin schema h i) in
    let o = own_of now (log schema h) (log_at_begin schema h i) (own schema h i) in
    let neat = rewritten now (own schema h i) (record { rows = seen; written = [] }) (untouched_neat seen) in
    elim (log_at_begin schema h i) as (λ b. HaveNets (elim b [ None ↦ log schema h | Some before ↦ after (periods_of (schema_after schema h)) (log schema h) (last before) (net_change_of (schema_after schema h) (log schema h) (log_at_begin schema h i) (own schema h i)) reading ])) [
      | None ↦ have_nets schema h
      | Some before ↦ ended (log schema h) (net_of seen o.rows o.written) _ (λ n e. some_of (periods_of now) (changes (log schema h)) (last (log schema h)) (last before) (net_of seen o.rows o.written) reading n e) (net_in_order seen o neat) (net_few seen o neat) (have_nets schema h)
    ]
have_nets schema (Begin i ∷ h) = have_nets schema h
have_nets schema (Insert i number rows ∷ h) = have_nets schema h
have_nets schema (Update i keys sets ∷ h) = have_nets schema h
have_nets schema (Delete i keys ∷ h) = have_nets schema h
have_nets schema (UpdatePortion i keys cut sets ∷ h) = have_nets schema h
have_nets schema (DeletePortion i keys cut ∷ h) = have_nets schema h
have_nets schema (Select i form keys ∷ h) = have_nets schema h
have_nets schema (Rollback i ∷ h) = have_nets schema h
have_nets schema (AddColumn i number name of ∷ h) = have_nets schema h
have_nets schema (SplitKey key ∷ h) = have_nets schema h
have_nets schema (SplitTime key instant ∷ h) = have_nets schema h
have_nets schema (Migrate ∷ h) = have_nets schema h

pub logs_have_nets : LogsHaveNets
logs_have_nets schema h = ((have_nets schema h).nets, (have_nets schema h).few)

pub histories_are_of_changes : HistoriesAreOfChanges
histories_are_of_changes schema h = log_is_of_changes (log schema h) (log_rises schema h) (have_nets schema h).nets
