-- That what was put is taken back.
use Rattle.std.proofs.Common.{◌≡◌, Bool, true, false, cond, T, List, [], ◌∷◌, ◌++◌, Option, Some, None, length, ◌≤◌, refl, sym, ap, ◌∙◌, arith}
use Rattle.std.proofs.lemmas.Cmp.{tied_itself}
use Rattle.std.specs.Ordering.{is_eq, match_ordering}
use Rattle.std.specs.declared.cmp.Ordering.{Ordering}
use Rattle.std.specs.declared.cmp.Ordering.TheVariants.{Less, Equal, Greater}
use Rattle.std.specs.BTreeMap.{insert_entry, is_at}
use Rattle.std.specs.Map.{lookup, keys_of, set_value, remove_entry}
use Rattle.std.specs.FinMap.{is_sorted}
use Rattle.std.specs.FinMap.Entries.{below_all}
use Rattle.std.specs.List.Sorted.{IsStrictlySortedBy}
use Rattle.values.specs.declared.key.Key.{Key}
use Rattle.values.specs.Order.{key_cmp}
use Rattle.values.specs.Log.{Net, Row}
use Rattle.values.proofs.OrderSorted.{is_less}
use Rattle.values.proofs.OrderTotal.{key_cmp_total, first, second}
use Rattle.staging.specs.Staged.{put_all, put_back_one, put_back}
use Rattle.staging.proofs.StagedEntries.{sorted_from}

-- a key that is not there takes no value
pub set_absent : (p : Key → Bool) (w : Net) (row : Option Row) → lookup p w ≡ None → set_value p w row ≡ w
set_absent p [] row h = refl
set_absent p (e ∷ w) row h = by (p e.0) h (set_absent p w row)
  where
    by : (b : Bool) → ◌≡◌ {A = Option (Option Row)} (cond b (Some e.1) (lookup p w)) None → (lookup p w ≡ None → set_value p w row ≡ w) → cond b ((e.0, row) ∷ w) (e ∷ set_value p w row) ≡ e ∷ w
    by true h ih = cc
    by false h ih = ap (λ l. e ∷ l) (ih h)

-- a new key is taken out again
removed : (k : Key) (v : Option Row) (w : Net) → lookup (is_at (key_cmp k)) w ≡ None → remove_entry (is_at (key_cmp k)) (insert_entry key_cmp w k v) ≡ w
removed k v [] h = ap (λ (o : Ordering). cond (is_eq o) [] ((k, v) ∷ [])) (tied_itself key_cmp_total k)
removed k v (e ∷ w) h = by (key_cmp k e.0) refl h (removed k v w)
  where
    by : (o : Ordering) → key_cmp k e.0 ≡ o → ◌≡◌ {A = Option (Option Row)} (cond (is_eq o) (Some e.1) (lookup (is_at (key_cmp k)) w)) None → (lookup (is_at (key_cmp k)) w ≡ None → remove_entry (is_at (key_cmp k)) (insert_entry key_cmp w k v) ≡ w)
        → remove_entry (is_at (key_cmp k)) (match_ordering o ((k, v) ∷ e ∷ w) ((e.0, v) ∷ w) (e ∷ insert_entry key_cmp w k v)) ≡ e ∷ w
    by Less is h ih = ap (λ (o : Ordering). cond (is_eq o) (e ∷ w) ((k, v) ∷ remove_entry (is_at (key_cmp k)) (e ∷ w))) (tied_itself key_cmp_total k)
    by Equal is h ih = cc
    by Greater is h ih = ap (λ (o : Ordering). cond (is_eq o) (insert_entry key_cmp w k v) (e ∷ remove_entry (is_at (key_cmp k)) (insert_entry key_cmp w k v))) is ∙ ap (λ l. e ∷ l) (ih h)

-- a key below those of the entries is not there
none_above : (w : Net) (k q : Key) → key_cmp q k ≡ Less → T (below_all key_cmp k w) → lookup (is_at (key_cmp q)) w ≡ None
none_above [] k q e h = refl
none_above (x ∷ w) k q e h =
    ap (λ (o : Ordering). cond (is_eq o) (Some x.1) (lookup (is_at (key_cmp q)) w)) (key_cmp_total.trans q k x.0 e (is_less (key_cmp k x.0) (first _ _ h))) ∙ none_above w k q e (second _ _ h)

-- a key that was there has its row again
restored : (k : Key) (v row : Option Row) (w : Net) → T (is_sorted key_cmp w) → lookup (is_at (key_cmp k)) w ≡ Some row → set_value (is_at (key_cmp k)) (insert_entry key_cmp w k v) row ≡ w
restored k v row [] sorted h = cc
restored k v row (e ∷ w) sorted h = by (key_cmp k e.0) refl h (restored k v row w (second _ _ sorted))
  where
    by : (o : Ordering) → key_cmp k e.0 ≡ o → ◌≡◌ {A = Option (Option Row)} (cond (is_eq o) (Some e.1) (lookup (is_at (key_cmp k)) w)) (Some row) → (lookup (is_at (key_cmp k)) w ≡ Some row → set_value (is_at (key_cmp k)) (insert_entry key_cmp w k v) row ≡ w)
        → set_value (is_at (key_cmp k)) (match_ordering o ((k, v) ∷ e ∷ w) ((e.0, v) ∷ w) (e ∷ insert_entry key_cmp w k v)) row ≡ e ∷ w
    by Less is h ih = let none : lookup (is_at (key_cmp k)) w ≡ None = none_above w e.0 k is (first _ _ sorted) in cc
    by Equal is h ih = let same : e.1 ≡ row = cc in ap (λ (o : Ordering). cond (is_eq o) ((e.0, row) ∷ w) ((e.0, v) ∷ set_value (is_at (key_cmp k)) w row)) is ∙ ap (λ (r : Option Row). (e.0, r) ∷ w) (sym same)
    by Greater is h ih = ap (λ (o : Ordering). cond (is_eq o) ((e.0, row) ∷ insert_entry key_cmp w k v) (e ∷ set_value (is_at (key_cmp k)) (insert_entry key_cmp w k v) row)) is ∙ ap (λ l. e ∷ l) (ih h)

-- one change, taken back
pub one_back : (k : Key) (v : Option Row) (before : Option (Option Row)) (w : Net) → IsStrictlySortedBy key_cmp (keys_of w) → before ≡ lookup (is_at (key_cmp k)) w → put_back_one k before (insert_entry key_cmp w k v) ≡ w
one_back k v None w sorted is = removed k v w (sym is)
one_back k v (Some row) w sorted is = restored k v row w (sorted_from w sorted) (sym is)

-- the last change is taken back first
pub back_last : (cs : List (Key × Option (Option Row))) (k : Key) (before : Option (Option Row)) (w : Net) → put_back (cs ++ (k, before) ∷ []) w ≡ put_back cs (put_back_one k before w)
back_last [] k before w = refl
back_last (c ∷ cs) k before w = ap (put_back_one c.0 c.1) (back_last cs k before w)

-- ---- a put takes no key away

grown : (w : Net) (k : Key) (v : Option Row) → length w ≤ length (insert_entry key_cmp w k v)
grown [] k v = omega arith
grown (e ∷ w) k v = by (key_cmp k e.0) (grown w k v)
  where
    by : (o : Ordering) → length w ≤ length (insert_entry key_cmp w k v) → length (e ∷ w) ≤ length (match_ordering o ((k, v) ∷ e ∷ w) ((e.0, v) ∷ w) (e ∷ insert_entry key_cmp w k v))
    by Less ih = omega arith
    by Equal ih = omega arith
    by Greater ih = omega arith

pub grown_all : (cs w : Net) → length w ≤ length (put_all cs w)
grown_all [] w = omega arith
grown_all (c ∷ cs) w = let a = grown w c.0 c.1 in let b = grown_all cs (insert_entry key_cmp w c.0 c.1) in omega (arith, a, b)
