-- What the changes of a portion come to.
use Rattle.std.proofs.Common.{◌≡◌, ℕ, ◌+◌, ◌<◌, take, get_or, append_assoc, arith, Bool, true, false, cond, ◌&&◌, T, List, [], ◌∷◌, ◌++◌, Option, Some, None, Result, Ok, OnOk, OnErr, refl, sym, ap, subst, ◌∙◌, map, filter, length, not, All}
use Rattle.std.specs.Prelude.{◌==◌}
use Rattle.std.proofs.lemmas.Bool.{and_parts}
use Rattle.std.proofs.lemmas.Bool.Decides.{nat_tests}
use Rattle.std.proofs.lemmas.List.{append-nil, length-map}
use Rattle.std.proofs.lemmas.List.Elements.{All-from_recursion, recursion_from_All}
use Rattle.std.specs.BTreeMap.{insert_entry}
use Rattle.std.specs.Map.{keys_of}
use Rattle.std.specs.FinMap.{is_sorted}
use Rattle.std.specs.List.{AllByRecursion, flat_map}
use Rattle.values.specs.declared.period.Period.{Period}
use Rattle.values.specs.declared.period.Span.{Span}
use Rattle.values.specs.declared.key.Key.{Key}
use Rattle.values.specs.declared.table.Table.{Table}
use Rattle.values.specs.declared.query.Keys.{Keys}
use Rattle.values.specs.declared.query.Set.{Set}
use Rattle.values.specs.declared.refusal.Refusal.{Refusal}
use Rattle.values.specs.Order.{key_cmp}
use Rattle.values.specs.Log.{State, Net, Row, Changes, apply_net, set_row, row_at}
use Rattle.values.specs.RowsAfter.{rows_after}
use Rattle.values.specs.Tables.{Schema, table_at, full_row}
use Rattle.values.specs.KeyEncoding.{IsShortKey}
use Rattle.values.specs.KeyReading.{IsKeyOf}
use Rattle.values.specs.Events.{IsKeyIn}
use Rattle.tsbtree.specs.View.{TreeState}
use Rattle.values.specs.Versions.{matches}
use Rattle.values.specs.Period.{span_of, overlap}
use Rattle.values.specs.Writes.{Written, write_keys, insert_all, full_rows}
use Rattle.values.specs.Portion.{is_taken, taken, not_taken, pieces, all_left, change_portion, portion_in, portion_keys}
use Rattle.staging.specs.Own.{Reads, rows_seen, own}
use Rattle.staging.specs.Staged.{put_all, put_answer, deletions, puts, overlap_rows}
use Rattle.staging.proofs.StagedEntries.{sorted_apply, apply-deletions}
use Rattle.staging.proofs.StagedCalls.{put_is, all_chosen}
use Rattle.staging.proofs.StagedAnswered.{all_seen}
use Rattle.staging.proofs.StagedWide.{full_keys}
use Rattle.staging.proofs.OverlapSeen.{taken_more}
use Rattle.staging.proofs.ViewBridge.{own_key, sorted_base, each_found}

-- ---- what is taken

kept_twice : (p q : Key × Row → Bool) (m : State) → filter q (filter p m) ≡ filter (λ e. p e && q e) m
kept_twice p q [] = refl
kept_twice p q (e ∷ m) = by (p e) (kept_twice p q m)
  where
    by : (b : Bool) → filter q (filter p m) ≡ filter (λ e. p e && q e) m
        → filter q (cond b (e ∷ filter p m) (filter p m)) ≡ cond (b && q e) (e ∷ filter (λ e. p e && q e) m) (filter (λ e. p e && q e) m)
    by true rest = ap (λ l. cond (q e) (e ∷ l) l) rest
    by false rest = rest

pub taken_is : (table : Table) (p : Period) (keys : Keys) (cut : Span) (m : State) → overlap_rows p cut (filter (λ e. matches table keys e.0) m) ≡ taken table p keys cut m
taken_is table p keys cut m = kept_twice (λ e. matches table keys e.0) (λ e. overlap (span_of p e.1) cut) m

-- ---- a test of entries is one of keys, where these are apart

abbrev by_key : (Key × Row → Bool) → State → Key → Bool
by_key p m q = elim (row_at m q) [ None ↦ false | Some row ↦ p (q, row) ]

same_kept : (p q : Key × Row → Bool) (m : State) → AllByRecursion (λ e. p e ≡ q e) m → filter p m ≡ filter q m
same_kept p q [] same = refl
same_kept p q (e ∷ m) same = λ i. cond (same.0 i) (e ∷ same_kept p q m same.1 i) (same_kept p q m same.1 i)

module _ (p : Key × Row → Bool) (s : State) where
  tests_agree : (m : State) → AllByRecursion (λ e. row_at s e.0 ≡ Some e.1) m → AllByRecursion (λ e. p e ≡ by_key p s e.0) m
  tests_agree [] found = tt
  tests_agree (e ∷ m) found = (
    sym (ap (λ (o : Option Row). elim o [ None ↦ false | Some row ↦ p (e.0, row) ]) found.0),
    tests_agree m found.1,
  )

  tests_disagree : (m : State) → AllByRecursion (λ e. row_at s e.0 ≡ Some e.1) m → AllByRecursion (λ e. not (by_key p s e.0) ≡ not (p e)) m
  tests_disagree [] found = tt
  tests_disagree (e ∷ m) found = (
    ap (λ (o : Option Row). not (elim o [ None ↦ false | Some row ↦ p (e.0, row) ])) found.0,
    tests_disagree m found.1,
  )

  -- the rows without those that a test takes
  pub apply-removals : T (is_sorted key_cmp s) → apply_net s (deletions (filter p s)) ≡ filter (λ e. not (p e)) s
  apply-removals sorted =
      ap (λ m. apply_net s (deletions m)) (same_kept p (λ e. by_key p s e.0) s (tests_agree s (each_found s sorted)))
      ∙ apply-deletions (by_key p s) s sorted
      ∙ same_kept (λ e. not (by_key p s e.0)) (λ e. not (p e)) s (tests_disagree s (each_found s sorted))

-- ---- removals, and then what is put

apply-append : (s : State) (a b : Net) → apply_net s (a ++ b) ≡ apply_net (apply_net s a) b
apply-append s [] b = refl
apply-append s (c ∷ a) b = apply-append (set_row c.0 c.1 s) a b

apply-puts : (s es : State) → apply_net s (puts es) ≡ insert_all s es
apply-puts s [] = refl
apply-puts s (e ∷ es) = apply-puts (insert_entry key_cmp s e.0 e.1) es

deletions_full : (table : Table) (m : State) → deletions (full_rows table m) ≡ deletions m
deletions_full table [] = refl
deletions_full table (e ∷ m) = ap (λ l. (e.0, None) ∷ l) (deletions_full table m)

keys_append : (a b : Net) → keys_of (a ++ b) ≡ keys_of a ++ keys_of b
keys_append [] b = refl
keys_append (c ∷ a) b = ap (λ l. c.0 ∷ l) (keys_append a b)

keys_deleted : (m : State) → keys_of (deletions m) ≡ map (λ e. e.0) m
keys_deleted [] = refl
keys_deleted (e ∷ m) = ap (λ l. e.0 ∷ l) (keys_deleted m)

keys_put : (m : State) → keys_of (puts m) ≡ map (λ e. e.0) m
keys_put [] = refl
keys_put (e ∷ m) = ap (λ l. e.0 ∷ l) (keys_put m)

-- what a portion answers and leaves
pub portion_done : (table : Table) (p : Period) (keys : Keys) (cut : Span) (sets : Option (List Set)) (m : Changes) (w new : Net) (r : Result ℕ Refusal) (cs : Net) (count : ℕ) (found es : State)
    → table.period ≡ Some p → found ≡ filter (λ e. matches table keys e.0) (rows_seen m w) → es ≡ full_rows table (overlap_rows p cut found) → cs ≡ deletions es ++ puts (flat_map (pieces p cut sets) es) → count ≡ length es
    → T (is_sorted key_cmp w) → r ≡ put_answer count cs w → OnOk r (new ≡ put_all cs w) → OnErr r (new ≡ w)
    → ◌≡◌ {A = Written} (r, own m new) (portion_in table keys cut sets (own m w))
portion_done table p keys cut sets m w new r cs count found es has found_is es_is is counted sorted answer ok err =
    put_is m cs count w new r sorted answer ok err
    ∙ (λ i. write_keys (written i) (number i) (left i) (own m w))
    ∙ sym (ap (λ (o : Option Period). elim o [ None ↦ (Ok 0, own m w) | Some p ↦ write_keys (portion_keys table p keys cut sets (own m w).rows) (length (taken table p keys cut (own m w).rows)) (change_portion table p keys cut sets (own m w).rows) (own m w) ]) has)
  where
    s : State
    s = rows_seen m w

    hits : State
    hits = taken table p keys cut s

    es_are : es ≡ full_rows table hits
    es_are = es_is ∙ ap (full_rows table) (ap (overlap_rows p cut) found_is ∙ taken_is table p keys cut s)

    cs_are : cs ≡ deletions hits ++ puts (all_left table p keys cut sets s)
    cs_are = is ∙ ap (λ es. deletions es ++ puts (flat_map (pieces p cut sets) es)) es_are ∙ ap (λ l. l ++ puts (all_left table p keys cut sets s)) (deletions_full table hits)

    written : keys_of cs ≡ portion_keys table p keys cut sets s
    written = ap keys_of cs_are ∙ keys_append (deletions hits) (puts (all_left table p keys cut sets s)) ∙ (λ i. keys_deleted hits i ++ keys_put (all_left table p keys cut sets s) i)

    number : count ≡ length hits
    number = counted ∙ ap length es_are ∙ length-map hits (λ e. (e.0, full_row table e.1))

    left : apply_net s cs ≡ change_portion table p keys cut sets s
    left =
        ap (apply_net s) cs_are
        ∙ apply-append s (deletions hits) (puts (all_left table p keys cut sets s))
        ∙ ap (λ t. apply_net t (puts (all_left table p keys cut sets s))) (apply-removals (is_taken table p keys cut) s (sorted_apply w (rows_after [] m) (sorted_base m)))
        ∙ apply-puts (not_taken table p keys cut s) (all_left table p keys cut sets s)

-- ---- the changes of one row more

pieces_more : (p : Period) (cut : Span) (sets : Option (List Set)) (es : State) (e : Key × Row) → flat_map (pieces p cut sets) (es ++ e ∷ []) ≡ flat_map (pieces p cut sets) es ++ pieces p cut sets e
pieces_more p cut sets [] e = append-nil (pieces p cut sets e)
pieces_more p cut sets (d ∷ es) e =
    ap (λ l. pieces p cut sets d ++ l) (pieces_more p cut sets es e) ∙ sym (append_assoc (pieces p cut sets d) (flat_map (pieces p cut sets) es) (pieces p cut sets e))

puts_append : (a b : State) → puts (a ++ b) ≡ puts a ++ puts b
puts_append [] b = refl
puts_append (e ∷ a) b = ap (λ l. (e.0, Some e.1) ∷ l) (puts_append a b)

pub left_more : (p : Period) (cut : Span) (sets : Option (List Set)) (es : State) (i : ℕ) (e : Key × Row) (front old new : Net) → i < length es → e ≡ get_or es i e
    → old ≡ front ++ puts (flat_map (pieces p cut sets) (take i es)) → new ≡ old ++ puts (pieces p cut sets e) → new ≡ front ++ puts (flat_map (pieces p cut sets) (take (i + 1) es))
left_more p cut sets es i e front old new lt at were are =
    are
    ∙ ap (λ l. l ++ puts (pieces p cut sets e)) were
    ∙ append_assoc front (puts (flat_map (pieces p cut sets) (take i es))) (puts (pieces p cut sets e))
    ∙ ap (λ l. front ++ l)
    (sym (puts_append (flat_map (pieces p cut sets) (take i es)) (pieces p cut sets e))
    ∙ ap puts (sym (pieces_more p cut sets (take i es) e) ∙ ap (flat_map (pieces p cut sets)) (sym (taken_more es i e lt at))))

-- ---- the keys of what is taken

chosen_own : (schema : Schema) (table : Table) (keys : Keys) → table_at schema table.number ≡ Some table → keys.table ≡ table.number → (m : State) → AllByRecursion (λ e. IsKeyIn schema e.0) m → AllByRecursion (λ e. IsKeyOf table e.0) (filter (λ e. matches table keys e.0) m)
chosen_own schema table keys found same [] h = tt
chosen_own schema table keys found same (e ∷ m) h = by (matches table keys e.0) refl (chosen_own schema table keys found same m h.1)
  where
    equal : (a b : ℕ) → (a == b) ≡ true → a ≡ b
    equal a b is = grind (arith, nat_tests)

    by : (b : Bool) → matches table keys e.0 ≡ b → AllByRecursion (λ e. IsKeyOf table e.0) (filter (λ e. matches table keys e.0) m)
        → AllByRecursion (λ e. IsKeyOf table e.0) (cond b (e ∷ filter (λ e. matches table keys e.0) m) (filter (λ e. matches table keys e.0) m))
    by true is rest = (own_key schema table e.0 found (equal e.0.table keys.table (and_parts (e.0.table == keys.table) _ is).0 ∙ same) h.0, rest)
    by false is rest = rest

pub taken_own : (schema : Schema) (table : Table) (p : Period) (cut : Span) (keys : Keys) (view : TreeState) (m : Changes) (w : Net) (found : State) → Reads schema table view w m → keys.table ≡ table.number
    → found ≡ filter (λ e. matches table keys e.0) (rows_seen m w) → All (λ e. IsKeyOf table e.0) (full_rows table (overlap_rows p cut found))
taken_own schema table p cut keys view m w found reads same is =
    full_keys (IsKeyOf table) table (overlap_rows p cut found)
    (All-from_recursion (λ (e : Key × Row). IsKeyOf table e.0) (overlap_rows p cut found)
    (all_chosen {X = Row} (IsKeyOf table) (λ e. overlap (span_of p e.1) cut) found
    (subst (AllByRecursion (λ (e : Key × Row). IsKeyOf table e.0)) (sym is)
    (chosen_own schema table keys reads.is_table same (rows_seen m w) (all_seen schema table view m w reads)))))

pub taken_short : (table : Table) (p : Period) (cut : Span) (found : State) → All (λ e. IsShortKey e.0) found → All (λ e. IsShortKey e.0) (full_rows table (overlap_rows p cut found))
taken_short table p cut found short =
    full_keys IsShortKey table (overlap_rows p cut found)
    (All-from_recursion (λ (e : Key × Row). IsShortKey e.0) (overlap_rows p cut found)
    (all_chosen {X = Row} IsShortKey (λ e. overlap (span_of p e.1) cut) found (recursion_from_All (λ (e : Key × Row). IsShortKey e.0) found short)))
