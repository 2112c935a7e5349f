-- A journal that is one entry longer.
use Rattle.std.proofs.Common.{◌≡◌, ◌≢◌, ℕ, ◌+◌, ◌-◌, ◌<◌, ◌≤◌, ◌==◌, ◌||◌, inl, inr, List, [], ◌∷◌, ◌++◌, length, reverse, Option, Some, None, Bool, true, false, refl, sym, ap, ◌∙◌, arith, if◌then◌else◌, slice_get, subst, length-append}
use Rattle.std.proofs.lemmas.Bool.Decides.{nat_tests}
use Rattle.std.proofs.lemmas.List.{length-reverse}
use Rattle.journal.specs.declared.entry.Entry.{Entry}
use Rattle.journal.specs.Entries.{Entries, is_number, is_commit_of, has_ended}
use Rattle.journal.specs.JournalState.{marked, AreEnded, IsGrown, IsSeenOf, IsJournal}
use Rattle.journal.proofs.JournalNumbering.{slice_get-append_left, slice_get_seam, reverse_push}

flag_is : (o : Option ℕ) (h : Bool) (n : ℕ) → marked o n (Some h) ≡ Some (is_number (n + 1) o || h)
flag_is None h n = refl
flag_is (Some number) h n = two (number == n + 1) h
  where
    two : (t h : Bool) → ◌≡◌ {A = Option Bool} (if t then Some true else Some h) (Some (t || h))
    two true h = refl
    two false h = refl

ended_more : (j : Entries) (e : Entry) (begin : Option ℕ) (flags marks : List Bool) → AreEnded j flags → length flags ≡ length j → length marks ≡ length flags
    → ((n : ℕ) → n < length flags → slice_get marks n ≡ marked begin n (slice_get flags n))
    → ((number : ℕ) → is_commit_of number e ≡ is_number number begin) → has_ended (e ∷ j) (length j + 1) ≡ false
    → AreEnded (e ∷ j) (marks ++ false ∷ [])
ended_more j e begin flags marks are wide same marks_are begins fresh n small = by (n == length j) refl
  where
    by : (b : Bool) → (n == length j) ≡ b → slice_get (marks ++ false ∷ []) n ≡ Some (has_ended (e ∷ j) (n + 1))
    by true h =
        let at : n ≡ length marks = grind (arith, nat_tests) in
        let there : length j ≡ n = grind (arith, nat_tests) in
        ap (slice_get (marks ++ false ∷ [])) at ∙ slice_get_seam marks false ∙ ap (λ b. Some b) (sym fresh ∙ ap (λ k. has_ended (e ∷ j) (k + 1)) there)
    by false h =
        let ne : n ≢ length j = λ is. cc (sym h, test_is n (length j) is) in
        let lt : n < length j = omega arith in
        slice_get-append_left marks (false ∷ []) n (omega arith) ∙ marks_are n (omega arith) ∙ ap (marked begin n) (are n lt)
        ∙ flag_is begin (has_ended j (n + 1)) n ∙ ap (λ b. Some (b || has_ended j (n + 1))) (sym (begins (n + 1)))
      where
        test_is : (n k : ℕ) → n ≡ k → (n == k) ≡ true
        test_is n k is = grind (arith, nat_tests)

module _ (xs prefix : List Entry) (e : Entry) (seen : IsSeenOf xs prefix) where
  seen_more : length prefix ≤ length xs → IsSeenOf (xs ++ e ∷ []) prefix
  seen_more early n h = seen n h ∙ sym (slice_get-append_left xs (e ∷ []) n (omega arith))

  seen_grown : length prefix ≡ length xs → IsSeenOf (xs ++ e ∷ []) (prefix ++ e ∷ [])
  seen_grown same n h = by (n == length prefix) refl
    where
      by : (b : Bool) → (n == length prefix) ≡ b → slice_get (prefix ++ e ∷ []) n ≡ slice_get (xs ++ e ∷ []) n
      by true t =
          let at : n ≡ length prefix = grind (arith, nat_tests) in
          let there : n ≡ length xs = omega arith in
          ap (slice_get (prefix ++ e ∷ [])) at ∙ slice_get_seam prefix e ∙ sym (ap (slice_get (xs ++ e ∷ [])) there ∙ slice_get_seam xs e)
      by false t =
          let len : length (prefix ++ e ∷ []) ≡ length prefix + 1 = length-append prefix (e ∷ []) in
          let lt : n < length prefix = grind (arith, nat_tests) in
          slice_get-append_left prefix (e ∷ []) n lt ∙ seen n lt ∙ sym (slice_get-append_left xs (e ∷ []) n (omega arith))

journal_more : (xs prefix grown : List Entry) (e : Entry) (begin : Option ℕ) (flags marks : List Bool) → IsJournal xs flags prefix
    → length marks ≡ length flags → ((n : ℕ) → n < length flags → slice_get marks n ≡ marked begin n (slice_get flags n))
    → ((number : ℕ) → is_commit_of number e ≡ is_number number begin) → has_ended (e ∷ reverse xs) (length (reverse xs) + 1) ≡ false
    → IsGrown (length xs) prefix e grown → IsJournal (xs ++ e ∷ []) (marks ++ false ∷ []) grown
journal_more xs prefix grown e begin flags marks is same marks_are begins fresh grows =
    let len : length (reverse xs) ≡ length xs = length-reverse xs in
    let more : length (xs ++ e ∷ []) ≡ length xs + 1 = length-append xs (e ∷ []) in
    let wider : length (marks ++ false ∷ []) ≡ length marks + 1 = length-append marks (false ∷ []) in
    let wide : length flags ≡ length xs = is.wide in
    let early : length prefix ≤ length xs = is.early in
    let put : length (prefix ++ e ∷ []) ≡ length prefix + 1 = length-append prefix (e ∷ []) in
    record {
      wide = omega arith;
      ended = subst (λ j. AreEnded j (marks ++ false ∷ [])) (sym (reverse_push xs e)) (ended_more (reverse xs) e begin flags marks is.ended (omega arith) same marks_are begins fresh);
      seen = elim grows [
        | inl same ↦ subst (IsSeenOf (xs ++ e ∷ [])) (sym same) (seen_more xs prefix e is.seen early)
        | inr new ↦ subst (IsSeenOf (xs ++ e ∷ [])) (sym new.1) (seen_grown xs prefix e is.seen new.0)
      ];
      early = elim grows [
        | inl same ↦ omega (arith, ap length same)
        | inr new ↦ omega (arith, new.0, ap length new.1)
      ];
    }

-- the same, as the calls tell it
pub pushed : (xs prefix grown longer : List Entry) (kept entry read : Entry) (begin : Option ℕ) (flags marks wider : List Bool) (j : Entries) (before : ℕ) → IsJournal xs flags prefix
    → reverse xs ≡ j → kept ≡ entry → read ≡ entry → longer ≡ xs ++ kept ∷ [] → wider ≡ marks ++ false ∷ [] → before ≡ length xs
    → length marks ≡ length flags → ((n : ℕ) → n < length flags → slice_get marks n ≡ marked begin n (slice_get flags n))
    → ((number : ℕ) → is_commit_of number read ≡ is_number number begin) → has_ended (entry ∷ j) (length j + 1) ≡ false
    → IsGrown before prefix kept grown → IsJournal longer wider grown
pushed xs prefix grown longer kept entry read begin flags marks wider j before is seen same same_read long wide counts len marks_are begins fresh grows =
    subst (λ ys. IsJournal ys wider grown) (sym long) (subst (λ fs. IsJournal (xs ++ kept ∷ []) fs grown) (sym wide)
    (journal_more xs prefix grown kept begin flags marks is len marks_are
    (λ number. ap (is_commit_of number) (same ∙ sym same_read) ∙ begins number)
    ((λ i. has_ended (same i ∷ seen i) (length (seen i) + 1)) ∙ fresh)
    (subst (λ n. IsGrown n prefix kept grown) counts grows)))

-- a prefix that reaches the entry's number has the entry there
pub stands_after : (prefix grown : List Entry) (e : Entry) (before : ℕ) → length prefix ≤ before → IsGrown before prefix e grown → before + 1 ≤ length grown → slice_get grown ((before + 1) - 1) ≡ Some e
stands_after prefix grown e before early grows reach = elim grows [
  | inl same ↦ absurd (omega (arith, ap length same))
  | inr new ↦
      let at : (before + 1) - 1 ≡ length prefix = omega (arith, new.0) in
      ap (slice_get grown) at ∙ ap (λ xs. slice_get xs (length prefix)) new.1 ∙ slice_get_seam prefix e
]
