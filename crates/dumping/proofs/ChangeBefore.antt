-- The change before one, by key, says whether its key had a row.
use Rattle.std.proofs.Common.{◌≡◌, ℕ, ◌+◌, ◌-◌, ◌<◌, ◌==◌, Bool, true, false, cond, ◌&&◌, T, List, [], ◌∷◌, ◌++◌, Option, Some, None, refl, sym, subst, ap, ◌∙◌, arith, length, length-append, append_assoc, nat_le}
use Rattle.std.specs.Prelude.{is_some}
use Rattle.std.specs.List.{AllByRecursion, slice_get}
use Rattle.std.specs.Cmp.Lexicographic.{texts_ties}
use Rattle.std.specs.FinMap.{is_sorted}
use Rattle.std.specs.FinMap.Entries.{below_all}
use Rattle.std.specs.Option.{option_flatten}
use Rattle.std.specs.Ordering.{is_eq, is_lt, nat_cmp, ordering_reverse, ordering_then}
use Rattle.std.specs.declared.cmp.Ordering.{Ordering}
use Rattle.std.specs.declared.cmp.Ordering.TheVariants.{Less, Equal, Greater}
use Rattle.std.proofs.lemmas.Bool.Decides.{nat_tests}
use Rattle.values.specs.Event.{Event}
use Rattle.values.specs.declared.key.Key.{Key}
use Rattle.values.specs.declared.key.Point.{Point}
use Rattle.values.specs.Events.{IsKeyIn, event_of, events_of}
use Rattle.values.specs.KeyEncoding.{bytes_of_key}
use Rattle.values.specs.Log.{Changes, Row, point_cmp}
use Rattle.values.specs.Order.{key_cmp}
use Rattle.values.specs.Tables.{Schema}
use Rattle.values.proofs.EventKeys.{same_key}
use Rattle.values.proofs.LogLatest.{latest, latest_past, later, point}
use Rattle.values.proofs.OrderTotal.{below, first, key_cmp_total, second}
use Rattle.dumping.specs.Change.{event_before, leaves_row}

-- ---- what stands before and behind a change

behind : (front rest : Changes) (c : Point × Option Row) → T (is_sorted point_cmp (front ++ c ∷ rest)) → T (below_all point_cmp c.0 rest)
behind [] rest c h = first _ _ h
behind (x ∷ front) rest c h = behind front rest c (second _ _ h)

below_member : (p : Point) (front rest : Changes) (c : Point × Option Row) → T (below_all point_cmp p (front ++ c ∷ rest)) → T (is_lt (point_cmp p c.0))
below_member p [] rest c h = first _ _ h
below_member p (x ∷ front) rest c h = below_member p front rest c (second _ _ h)

before : (front rest : Changes) (c : Point × Option Row) → T (is_sorted point_cmp (front ++ c ∷ rest)) → AllByRecursion (λ x. T (is_lt (point_cmp x.0 c.0))) front
before [] rest c h = tt
before (x ∷ front) rest c h = (below_member x.0 front rest c (first _ _ h), before front rest c (second _ _ h))

-- ---- the last change of a key

later_twice : {A : Type 0} (a b c : Option A) → later (later a b) c ≡ later a (later b c)
later_twice None b c = refl
later_twice (Some x) b c = refl

latest-append : (xs ys : Changes) (t : ℕ) (q : Key) → latest (xs ++ ys) t q ≡ later (latest ys t q) (latest xs t q)
latest-append [] ys t q = by (latest ys t q)
  where
    by : (o : Option (Option Row)) → o ≡ later o None
    by None = refl
    by (Some x) = refl
latest-append (x ∷ xs) ys t q =
    ap (λ o. later o (cond (is_eq (key_cmp q x.0.key) && nat_le x.0.instant t) (Some x.1) None)) (latest-append xs ys t q)
    ∙ later_twice (latest ys t q) (latest xs t q) _

-- from a change on, its key has none before its instant
none_behind : (rest : Changes) (i t : ℕ) (q : Key) (row : Option Row) → t < i → T (below_all point_cmp (point q i) rest) → latest ((point q i, row) ∷ rest) t q ≡ None
none_behind rest i t q row lt h =
    (λ k. later (latest_past rest t i q h (omega arith) k) (cond (too_late (is_eq (key_cmp q q)) k) (Some row) None))
  where
    too_late : (b : Bool) → (b && nat_le i t) ≡ false
    too_late true = grind (arith, nat_tests)
    too_late false = refl

-- a key above that of a change is above those of the changes before it
other_key : (d e : Point) (q : Key) → key_cmp d.key q ≡ Less → T (is_lt (point_cmp e d)) → is_eq (key_cmp q e.key) ≡ false
other_key d e q less h = ap is_eq (key_cmp_total.antisymm q e.key ∙ ap ordering_reverse (by (key_cmp e.key d.key) refl h))
  where
    by : (o : Ordering) → key_cmp e.key d.key ≡ o → T (is_lt (ordering_then o (nat_cmp e.instant d.instant))) → key_cmp e.key q ≡ Less
    by Less is h = key_cmp_total.trans e.key d.key q is less
    by Equal is h = key_cmp_total.congr e.key d.key q is ∙ less
    by Greater is h = absurd h

none_before : (front : Changes) (d : Point) (t : ℕ) (q : Key) → key_cmp d.key q ≡ Less → AllByRecursion (λ x. T (is_lt (point_cmp x.0 d))) front → latest front t q ≡ None
none_before [] d t q less h = refl
none_before (x ∷ front) d t q less h =
    let rest = none_before front d t q less h.1 in
    λ k. later (rest k) (cond (other_key d x.0 q less h.0 k && nat_le x.0.instant t) (Some x.1) None)

-- ---- the change before one

pub event_at : (front rest : Changes) (c : Point × Option Row) → slice_get (events_of (front ++ c ∷ rest)) (length front) ≡ Some (event_of c)
event_at [] rest c = refl
event_at (x ∷ front) rest c = event_at front rest c

record EndsWith (xs : Changes) : Type 0 where
  front : Changes
  end : Point × Option Row
  is : xs ≡ front ++ end ∷ []

end_of : (x : Point × Option Row) (xs : Changes) → EndsWith (x ∷ xs)
end_of x [] = record { front = []; end = x; is = refl }
end_of x (y ∷ xs) = let e = end_of y xs in record { front = x ∷ e.front; end = e.end; is = ap (λ l. x ∷ l) e.is }

module _ (schema : Schema) where
  -- where it is of the key, it says whether there was a row
  one_before : (front rest : Changes) (d : Point × Option Row) (q : Key) (i : ℕ) (row : Option Row) → T (is_sorted point_cmp (front ++ d ∷ (point q i, row) ∷ rest)) → IsKeyIn schema q → IsKeyIn schema d.0.key → 0 < i
      → leaves_row (Some (event_of d)) (bytes_of_key q) ≡ is_some (option_flatten (latest (front ++ d ∷ (point q i, row) ∷ rest) (i - 1) q))
  one_before front rest d q i row h in_q in_d some =
      ap (λ b. b && is_some d.1) (texts_ties (bytes_of_key d.0.key) (bytes_of_key q) ∙ same_key schema d.0.key q in_d in_q)
      ∙ by (key_cmp d.0.key q) refl (first _ _ above)
      ∙ ap (λ o. is_some (option_flatten o)) (sym latest_is)
    where
      above : T (below_all point_cmp d.0 ((point q i, row) ∷ rest))
      above = behind front ((point q i, row) ∷ rest) d h

      none_later : latest ((point q i, row) ∷ rest) (i - 1) q ≡ None
      none_later = none_behind rest i (i - 1) q row (omega arith) (behind (front ++ d ∷ []) rest (point q i, row) (subst (λ l. T (is_sorted point_cmp l)) (sym (append_assoc front (d ∷ []) ((point q i, row) ∷ rest))) h))

      latest_is : latest (front ++ d ∷ (point q i, row) ∷ rest) (i - 1) q ≡ later (cond (is_eq (key_cmp q d.0.key) && nat_le d.0.instant (i - 1)) (Some d.1) None) (latest front (i - 1) q)
      latest_is = latest-append front (d ∷ (point q i, row) ∷ rest) (i - 1) q
          ∙ ap (λ o. later (later o (cond (is_eq (key_cmp q d.0.key) && nat_le d.0.instant (i - 1)) (Some d.1) None)) (latest front (i - 1) q)) none_later

      turned : (o : Ordering) → key_cmp d.0.key q ≡ o → is_eq (key_cmp q d.0.key) ≡ is_eq (ordering_reverse o)
      turned o is = ap is_eq (key_cmp_total.antisymm q d.0.key ∙ ap ordering_reverse is)

      by : (o : Ordering) → key_cmp d.0.key q ≡ o → T (is_lt (ordering_then o (nat_cmp d.0.instant i)))
          → (is_eq o && is_some d.1) ≡ is_some (option_flatten (later (cond (is_eq (key_cmp q d.0.key) && nat_le d.0.instant (i - 1)) (Some d.1) None) (latest front (i - 1) q)))
      by Less is lt =
          ap (λ o. is_some (option_flatten o)) (sym (none_before front d.0 (i - 1) q is (before front ((point q i, row) ∷ rest) d h)))
          ∙ ap (λ b. is_some (option_flatten (later (cond (b && nat_le d.0.instant (i - 1)) (Some d.1) None) (latest front (i - 1) q)))) (sym (turned Less is))
      by Equal is lt =
          ap (λ b. is_some (option_flatten (later (cond b (Some d.1) None) (latest front (i - 1) q)))) (sym early)
          ∙ ap (λ b. is_some (option_flatten (later (cond (b && nat_le d.0.instant (i - 1)) (Some d.1) None) (latest front (i - 1) q)))) (sym (turned Equal is))
        where
          early : nat_le d.0.instant (i - 1) ≡ true
          early = let earlier : d.0.instant < i = below d.0.instant i lt in grind (arith, nat_tests)
      by Greater is lt = absurd lt

  all_end : (xs : Changes) (d : Point × Option Row) → AllByRecursion (λ x. IsKeyIn schema x.0.key) (xs ++ d ∷ []) → IsKeyIn schema d.0.key
  all_end [] d h = h.0
  all_end (x ∷ xs) d h = all_end xs d h.1

  behind_end : (front rest : Changes) (d : Point × Option Row) (q : Key) (i : ℕ) (row : Option Row) → T (is_sorted point_cmp ((front ++ d ∷ []) ++ (point q i, row) ∷ rest)) → IsKeyIn schema q → IsKeyIn schema d.0.key → 0 < i
      → leaves_row (event_before (events_of ((front ++ d ∷ []) ++ (point q i, row) ∷ rest)) (length (front ++ d ∷ []))) (bytes_of_key q)
      ≡ is_some (option_flatten (latest ((front ++ d ∷ []) ++ (point q i, row) ∷ rest) (i - 1) q))
  behind_end front rest d q i row h in_q in_d some =
      ap (λ o. leaves_row o (bytes_of_key q)) event_is
      ∙ one_before front rest d q i row (subst (λ l. T (is_sorted point_cmp l)) joined h) in_q in_d some
      ∙ ap (λ l. is_some (option_flatten (latest l (i - 1) q))) (sym joined)
    where
      joined : (front ++ d ∷ []) ++ (point q i, row) ∷ rest ≡ front ++ d ∷ (point q i, row) ∷ rest
      joined = append_assoc front (d ∷ []) ((point q i, row) ∷ rest)

      at_next : (es : List Event) (n : ℕ) → event_before es (n + 1) ≡ slice_get es n
      at_next es n =
          let some : (n + 1 == 0) ≡ false = grind (arith, nat_tests) in
          let back : n + 1 - 1 ≡ n = omega arith in
          λ k. cond (some k) None (slice_get es (back k))

      event_is : event_before (events_of ((front ++ d ∷ []) ++ (point q i, row) ∷ rest)) (length (front ++ d ∷ [])) ≡ Some (event_of d)
      event_is =
          (λ k. event_before (events_of (joined k)) (length-append front (d ∷ []) k))
          ∙ at_next (events_of (front ++ d ∷ (point q i, row) ∷ rest)) (length front) ∙ event_at front ((point q i, row) ∷ rest) d

  pub row_before : (front rest : Changes) (q : Key) (i : ℕ) (row : Option Row) → T (is_sorted point_cmp (front ++ (point q i, row) ∷ rest)) → IsKeyIn schema q → AllByRecursion (λ x. IsKeyIn schema x.0.key) front → 0 < i
      → leaves_row (event_before (events_of (front ++ (point q i, row) ∷ rest)) (length front)) (bytes_of_key q) ≡ is_some (option_flatten (latest (front ++ (point q i, row) ∷ rest) (i - 1) q))
  row_before [] rest q i row h in_q in_front some =
      ap (λ o. is_some (option_flatten o)) (sym (none_behind rest i (i - 1) q row (omega arith) (behind [] rest (point q i, row) h)))
  row_before (x ∷ front) rest q i row h in_q in_front some =
      let e = end_of x front in
      subst (λ (l : Changes). T (is_sorted point_cmp (l ++ (point q i, row) ∷ rest)) → AllByRecursion (λ x. IsKeyIn schema x.0.key) l
      → leaves_row (event_before (events_of (l ++ (point q i, row) ∷ rest)) (length l)) (bytes_of_key q) ≡ is_some (option_flatten (latest (l ++ (point q i, row) ∷ rest) (i - 1) q)))
      (sym e.is) (λ sorted ins. behind_end e.front rest e.end q i row sorted in_q (all_end e.front e.end ins) some) h in_front
