-- Statements that take one key do what their names say.
use Rattle.std.proofs.Common.{◌≡◌, ℕ, ◌≤◌, Bool, true, false, cond, T, [], ◌∷◌, Some, None, refl, sym, ap, ◌∙◌, map, filter, length, arith, not}
use Rattle.std.specs.Prelude.{is_some, nat_lt, Result, Ok, Err, if◌then◌else◌}
use Rattle.std.specs.List.{AllByRecursion}
use Rattle.std.specs.Ordering.{is_eq, is_lt}
use Rattle.std.specs.declared.cmp.Ordering.{Ordering}
use Rattle.std.specs.declared.cmp.Ordering.TheVariants.{Less, Equal, Greater}
use Rattle.std.specs.BTreeMap.{is_at}
use Rattle.std.specs.BTreeSet.{insert_key}
use Rattle.std.specs.Map.{remove_entry}
use Rattle.std.specs.FinMap.{is_sorted}
use Rattle.std.specs.FinMap.Entries.{below_all}
use Rattle.std.proofs.lemmas.Bool.Decides.{nat_tests}
use Rattle.values.specs.declared.key.Key.{Key}
use Rattle.values.specs.declared.refusal.Refusal.{Refusal}
use Rattle.values.specs.declared.refusal.Refusal.TheVariants.{TooManyWrites}
use Rattle.values.specs.Order.{key_cmp, is_key}
use Rattle.values.specs.Log.{Row, State, row_at}
use Rattle.values.specs.Versions.{matches}
use Rattle.values.specs.Writes.{Own, Written, insert_rows, key_of, matching_keys, delete_rows, most_written, write_keys}
use Rattle.values.proofs.OrderTotal.{key_cmp-IsAntisymmetric, first, second}
use Rattle.restoring.specs.Rebuilt.{with_row}
use Rattle.restoring.specs.OneKey.{MayWrite, OneKeyIsDeleted, OneRowIsInserted}

tie : (o : Ordering) → is_eq o ≡ true → o ≡ Equal
tie Less e = cc
tie Equal e = refl
tie Greater e = cc

taken : (p q : Key × Row → Bool) (m : State) → AllByRecursion (λ e. p e ≡ q e) m → filter p m ≡ filter q m
taken p q [] same = refl
taken p q (e ∷ m) same = λ i. cond (same.0 i) (e ∷ taken p q m same.1 i) (taken p q m same.1 i)

left : (p q : Key × Row → Bool) (m : State) → AllByRecursion (λ e. p e ≡ q e) m → filter (λ e. not (p e)) m ≡ filter (λ e. not (q e)) m
left p q [] same = refl
left p q (e ∷ m) same = λ i. cond (not (same.0 i)) (e ∷ left p q m same.1 i) (left p q m same.1 i)

-- ---- above a key

apart_by : (a b : Ordering) → a ≡ b → T (is_lt b) → is_eq a ≡ false
apart_by Less b e h = refl
apart_by Equal Less e h = cc
apart_by Equal Equal e h = absurd h
apart_by Equal Greater e h = absurd h
apart_by Greater b e h = refl

apart : (k r q : Key) → k ≡ r → T (is_lt (key_cmp r q)) → is_key k q ≡ false
apart k r q same h = apart_by (key_cmp k q) (key_cmp r q) (ap (λ x. key_cmp x q) same) h

none_taken : (k r : Key) (m : State) → k ≡ r → T (below_all key_cmp r m) → filter (λ e. is_key k e.0) m ≡ []
none_taken k r [] same h = refl
none_taken k r (e ∷ m) same h = ap (λ b. cond b (e ∷ filter (λ e. is_key k e.0) m) (filter (λ e. is_key k e.0) m)) (apart k r e.0 same (first _ _ h)) ∙ none_taken k r m same (second _ _ h)

all_left : (k r : Key) (m : State) → k ≡ r → T (below_all key_cmp r m) → filter (λ e. not (is_key k e.0)) m ≡ m
all_left k r [] same h = refl
all_left k r (e ∷ m) same h = λ i. cond (not (apart k r e.0 same (first _ _ h) i)) (e ∷ all_left k r m same (second _ _ h) i) (all_left k r m same (second _ _ h) i)

-- ---- the key alone

one_taken : (k : Key) (m : State) → T (is_sorted key_cmp m) → map (λ e. e.0) (filter (λ e. is_key k e.0) m) ≡ cond (is_some (row_at m k)) (k ∷ []) []
one_taken k [] h = refl
one_taken k (e ∷ m) h = by (is_key k e.0) refl (one_taken k m (second _ _ h))
  where
    by : (b : Bool) → is_key k e.0 ≡ b → map (λ e. e.0) (filter (λ e. is_key k e.0) m) ≡ cond (is_some (row_at m k)) (k ∷ []) []
        → map (λ e. e.0) (cond b (e ∷ filter (λ e. is_key k e.0) m) (filter (λ e. is_key k e.0) m)) ≡ cond (is_some (cond b (Some e.1) (row_at m k))) (k ∷ []) []
    by true is rest =
        let same : k ≡ e.0 = key_cmp-IsAntisymmetric k e.0 (tie (key_cmp k e.0) is) in
        ap (λ es. e.0 ∷ map (λ e. e.0) es) (none_taken k e.0 m same (first _ _ h)) ∙ ap (λ x. x ∷ []) (sym same)
    by false is rest = rest

one_left : (k : Key) (m : State) → T (is_sorted key_cmp m) → filter (λ e. not (is_key k e.0)) m ≡ remove_entry (is_at (key_cmp k)) m
one_left k [] h = refl
one_left k (e ∷ m) h = by (is_key k e.0) refl (one_left k m (second _ _ h))
  where
    by : (b : Bool) → is_key k e.0 ≡ b → filter (λ e. not (is_key k e.0)) m ≡ remove_entry (is_at (key_cmp k)) m
        → cond (not b) (e ∷ filter (λ e. not (is_key k e.0)) m) (filter (λ e. not (is_key k e.0)) m) ≡ cond b m (e ∷ remove_entry (is_at (key_cmp k)) m)
    by true is rest = all_left k e.0 m (key_cmp-IsAntisymmetric k e.0 (tie (key_cmp k e.0) is)) (first _ _ h)
    by false is rest = ap (λ l. e ∷ l) rest

few : (n : ℕ) → n ≤ most_written → nat_lt most_written n ≡ false
few n le = grind (arith, nat_tests)

-- ---- what is written

abbrev unless : Bool → Result ℕ Refusal → Own → Own → Written
unless b done o left = if b then (Err TooManyWrites, o) else (done, left)

deleted : (key : Key) (count : ℕ) (rows : State) (o : Own) (b : Bool) → length o.written ≤ most_written → MayWrite o key
    → write_keys (cond b (key ∷ []) []) count rows o ≡ (Ok count, record { rows = rows; written = if b then insert_key key_cmp o.written key else o.written })
deleted key count rows o true small room = ap (λ b. unless b (Ok count) o (record { rows = rows; written = insert_key key_cmp o.written key })) (few (length (insert_key key_cmp o.written key)) room)
deleted key count rows o false small room = ap (λ b. unless b (Ok count) o (record { rows = rows; written = o.written })) (few (length o.written) small)

pub one_key_is_deleted : OneKeyIsDeleted
one_key_is_deleted table keys key o h one small room =
    let met : matching_keys table keys o.rows ≡ cond (is_some (row_at o.rows key)) (key ∷ []) [] =
    ap (map (λ e. e.0)) (taken (λ e. matches table keys e.0) (λ e. is_key key e.0) o.rows one) ∙ one_taken key o.rows h in
    let rest : delete_rows table keys o.rows ≡ remove_entry (is_at (key_cmp key)) o.rows =
    left (λ e. matches table keys e.0) (λ e. is_key key e.0) o.rows one ∙ one_left key o.rows h in (
      length (matching_keys table keys o.rows),
      (λ i. write_keys (met i) (length (matching_keys table keys o.rows)) (rest i) o)
          ∙ deleted key (length (matching_keys table keys o.rows)) (remove_entry (is_at (key_cmp key)) o.rows) o (is_some (row_at o.rows key)) small room,
    )

pub one_row_is_inserted : OneRowIsInserted
one_row_is_inserted table row o fits room =
    (λ i. elim (fits i) [
      | Some refusal ↦ (Err refusal, o)
      | None ↦ write_keys (key_of table row ∷ []) 1 (insert_rows table (row ∷ []) o.rows) o
    ])
    ∙ ap (λ b. unless b (Ok 1) o (with_row (key_of table row) row o)) (few (length (insert_key key_cmp o.written (key_of table row))) room)
