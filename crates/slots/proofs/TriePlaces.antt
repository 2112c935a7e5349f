-- Where the items of children lie among the items of all.
use Rattle.std.proofs.Common.{◌≡◌, ℕ, ◌+◌, ◌-◌, ◌*◌, ◌/◌, ◌%◌, ◌<◌, ◌≤◌, List, [], ◌∷◌, ◌++◌, length, get_or, set, zero, suc, refl, sym, ap, ◌∙◌, arith, length-append, append_assoc, append-nil, OnOk, OnErr, Result, Ok, Err}
use Rattle.std.proofs.lemmas.List.{set-append_left, get_or_append_left, get_or-append-add, set-append_right, length-set}
use Rattle.std.proofs.lemmas.Nat.{div-add-mod'}
use Rattle.std.proofs.Math.Nat.{suc-mul, mod-lt}
use Rattle.slots.specs.Trie.{all_items, Packed}

module _ {T : Type 0} where
  -- the children are long enough
  pub child_there : (n q r : ℕ) (ks : List (ℕ × List T)) → Packed n ks → q * n + r < length (all_items ks) → q < length ks
  child_there n q r [] h lt = absurd (omega arith)
  child_there n zero r (k ∷ ks) h lt = omega arith
  child_there n (suc q) r (k ∷ ks) h lt =
      omega (arith, child_there n q r ks h.4 (omega (arith, lt, suc-mul q n, length-append k.1 (all_items ks), h.2)))

  pub child_has : (n q r : ℕ) (ks : List (ℕ × List T)) (d : ℕ × List T) → Packed n ks → r < n → q * n + r < length (all_items ks) → r < length (get_or ks q d).1
  child_has n q r [] d h rn lt = absurd (omega arith)
  child_has n zero r (k ∷ []) d h rn lt = omega (arith, lt, length-append k.1 (all_items {T = T} []))
  child_has n zero r (k ∷ l ∷ ks) d h rn lt = omega (arith, rn, h.3 (omega arith))
  child_has n (suc q) r (k ∷ ks) d h rn lt =
      child_has n q r ks d h.4 rn (omega (arith, lt, suc-mul q n, length-append k.1 (all_items ks), h.2))

  -- a child that has others behind it is full
  pub full : (n : ℕ) (k : ℕ × List T) (ks : List (ℕ × List T)) (q : ℕ) → Packed n (k ∷ ks) → q < length ks → length k.1 ≡ n
  full n k ks q h lt = h.3 (omega (arith, lt))

  pub child_small : (n q : ℕ) (ks : List (ℕ × List T)) (d : ℕ × List T) → Packed n ks → q < length ks → (get_or ks q d).0 < n
  child_small n q [] d h lt = absurd (omega arith)
  child_small n zero (k ∷ ks) d h lt = h.0
  child_small n (suc q) (k ∷ ks) d h lt = child_small n q ks d h.4 (omega (arith, lt))

  pub child_item : (n q r : ℕ) (ks : List (ℕ × List T)) (d : ℕ × List T) (x : T) → Packed n ks → q < length ks → r < length (get_or ks q d).1
      → get_or (all_items ks) (q * n + r) x ≡ get_or (get_or ks q d).1 r x
  child_item n q r [] d x h lt rl = absurd (omega arith)
  child_item n zero r (k ∷ ks) d x h lt rl =
      let e : zero * n + r ≡ r = omega arith in
      ap (λ i. get_or (k.1 ++ all_items ks) i x) e ∙ get_or_append_left k.1 (all_items ks) x r rl
  child_item n (suc q) r (k ∷ ks) d x h lt rl =
      let e : suc q * n + r ≡ length k.1 + (q * n + r) = omega (arith, suc-mul q n, full n k ks q h (omega (arith, lt))) in
      ap (λ i. get_or (k.1 ++ all_items ks) i x) e ∙ get_or-append-add k.1 (all_items ks) (q * n + r) x ∙ child_item n q r ks d x h.4 (omega (arith, lt)) rl

  pub child_set : (n q r : ℕ) (ks : List (ℕ × List T)) (d k' : ℕ × List T) (x : T) → Packed n ks → q < length ks → r < length (get_or ks q d).1 → k'.1 ≡ set (get_or ks q d).1 r x
      → all_items (set ks q k') ≡ set (all_items ks) (q * n + r) x
  child_set n q r [] d k' x h lt rl e = absurd (omega arith)
  child_set n zero r (k ∷ ks) d k' x h lt rl e =
      let z : zero * n + r ≡ r = omega arith in
      ap (λ l. l ++ all_items ks) e ∙ sym (ap (λ i. set (k.1 ++ all_items ks) i x) z ∙ set-append_left k.1 (all_items ks) r x rl)
  child_set n (suc q) r (k ∷ ks) d k' x h lt rl e =
      let f : length k.1 ≡ n = full n k ks q h (omega (arith, lt)) in
      let at : suc q * n + r - n ≡ q * n + r = omega (arith, suc-mul q n) in
      ap (λ l. k.1 ++ l) (child_set n q r ks d k' x h.4 (omega (arith, lt)) rl e ∙ ap (λ i. set (all_items ks) i x) (sym at))
      ∙ sym (set-append_right k.1 (all_items ks) n (suc q * n + r) x f (omega (arith, suc-mul q n)))

  -- a child with the same items
  pub same_set : (q : ℕ) (ks : List (ℕ × List T)) (d k' : ℕ × List T) → q < length ks → k'.1 ≡ (get_or ks q d).1 → all_items (set ks q k') ≡ all_items ks
  same_set q [] d k' lt e = absurd (omega arith)
  same_set zero (k ∷ ks) d k' lt e = ap (λ l. l ++ all_items ks) e
  same_set (suc q) (k ∷ ks) d k' lt e = ap (λ l. k.1 ++ l) (same_set q ks d k' (omega (arith, lt)) e)

  pub packed_set : (n q : ℕ) (ks : List (ℕ × List T)) (d k' : ℕ × List T) → Packed n ks → q < length ks → k'.0 < n → length k'.1 ≡ length (get_or ks q d).1 → Packed n (set ks q k')
  packed_set n q [] d k' h lt s e = absurd (omega arith)
  packed_set n zero (k ∷ ks) d k' h lt s e = (s, omega (arith, e, h.1), omega (arith, e, h.2), λ more. e ∙ h.3 more, h.4)
  packed_set n (suc q) (k ∷ ks) d k' h lt s e =
      (h.0, h.1, h.2, λ more. h.3 (omega (arith, more, length-set ks q k')), packed_set n q ks d k' h.4 (omega (arith, lt)) s e)

  -- the last child with one item more
  pub packed_last : (n q : ℕ) (ks : List (ℕ × List T)) (d k' : ℕ × List T) → Packed n ks → q + 1 ≡ length ks → k'.0 < n → 0 < length k'.1 → length k'.1 ≤ n → Packed n (set ks q k')
  packed_last n q [] d k' h lt s lo hi = absurd (omega arith)
  packed_last n zero (k ∷ ks) d k' h lt s lo hi = (s, lo, hi, λ more. absurd (omega (arith, more, lt)), h.4)
  packed_last n (suc q) (k ∷ ks) d k' h lt s lo hi =
      (h.0, h.1, h.2, λ more. h.3 (omega (arith, more, length-set ks q k')), packed_last n q ks d k' h.4 (omega (arith, lt)) s lo hi)

  pub last_more : (q : ℕ) (ks : List (ℕ × List T)) (d k' : ℕ × List T) (x : T) → q + 1 ≡ length ks → k'.1 ≡ (get_or ks q d).1 ++ x ∷ [] → all_items (set ks q k') ≡ all_items ks ++ x ∷ []
  last_more q [] d k' x lt e = absurd (omega (arith, lt))
  last_more zero (k ∷ []) d k' x lt e = append-nil k'.1 ∙ e ∙ ap (λ l. l ++ x ∷ []) (sym (append-nil k.1))
  last_more zero (k ∷ l ∷ ks) d k' x lt e = absurd (omega (arith, lt))
  last_more (suc q) (k ∷ ks) d k' x lt e = ap (λ l. k.1 ++ l) (last_more q ks d k' x (omega (arith, lt)) e) ∙ sym (append_assoc k.1 (all_items ks) (x ∷ []))

  -- one child more, where all are full
  pub packed_more : (n : ℕ) (ks : List (ℕ × List T)) (d k : ℕ × List T) → Packed n ks → ((q : ℕ) → q + 1 ≡ length ks → length (get_or ks q d).1 ≡ n) → k.0 < n → 0 < length k.1 → length k.1 ≤ n → Packed n (ks ++ k ∷ [])
  packed_more n [] d k h f s lo hi = (s, lo, hi, λ more. absurd (omega (arith, more)), tt)
  packed_more n (j ∷ []) d k h f s lo hi = (h.0, h.1, h.2, λ _. f 0 (omega arith), (s, lo, hi, λ more. absurd (omega (arith, more)), tt))
  packed_more n (j ∷ l ∷ ks) d k h f s lo hi =
      (h.0, h.1, h.2, λ _. h.3 (omega arith), packed_more n (l ∷ ks) d k h.4 (λ q e. f (suc q) (omega (arith, e))) s lo hi)

  pub all_items_more : (ks : List (ℕ × List T)) (k : ℕ × List T) → all_items (ks ++ k ∷ []) ≡ all_items ks ++ k.1
  all_items_more [] k = append-nil k.1
  all_items_more (j ∷ ks) k = ap (λ l. j.1 ++ l) (all_items_more ks k) ∙ sym (append_assoc j.1 (all_items ks) k.1)

  -- by the quotient and the rest
  pub reach_there : (n i : ℕ) (ks : List (ℕ × List T)) → Packed n ks → i < length (all_items ks) → i / n < length ks
  reach_there n i ks h lt = child_there n (i / n) (i % n) ks h (omega (arith, lt, div-add-mod' i n))

  pub reach_has : (n i : ℕ) (ks : List (ℕ × List T)) (d : ℕ × List T) → 0 < n → Packed n ks → i < length (all_items ks) → i % n < length (get_or ks (i / n) d).1
  reach_has n i ks d pos h lt = child_has n (i / n) (i % n) ks d h (mod-lt i pos) (omega (arith, lt, div-add-mod' i n))

  pub reach_item : (n i : ℕ) (ks : List (ℕ × List T)) (d : ℕ × List T) (x : T) → 0 < n → Packed n ks → i < length (all_items ks) → get_or (all_items ks) i x ≡ get_or (get_or ks (i / n) d).1 (i % n) x
  reach_item n i ks d x pos h lt =
      ap (λ j. get_or (all_items ks) j x) (sym (div-add-mod' i n))
      ∙ child_item n (i / n) (i % n) ks d x h (reach_there n i ks h lt) (reach_has n i ks d pos h lt)

  pub reach_set : (n i : ℕ) (ks : List (ℕ × List T)) (d k' : ℕ × List T) (x : T) → 0 < n → Packed n ks → i < length (all_items ks) → k'.1 ≡ set (get_or ks (i / n) d).1 (i % n) x
      → all_items (set ks (i / n) k') ≡ set (all_items ks) i x
  reach_set n i ks d k' x pos h lt e =
      child_set n (i / n) (i % n) ks d k' x h (reach_there n i ks h lt) (reach_has n i ks d pos h lt) e
      ∙ ap (λ j. set (all_items ks) j x) (div-add-mod' i n)

  pub set_length : (q : ℕ) (ks : List (ℕ × List T)) (d k' : ℕ × List T) → q < length ks → length k'.1 ≡ length (get_or ks q d).1 → length (all_items (set ks q k')) ≡ length (all_items ks)
  set_length q [] d k' lt e = absurd (omega arith)
  set_length zero (k ∷ ks) d k' lt e = omega (arith, e, length-append k'.1 (all_items ks), length-append k.1 (all_items ks))
  set_length (suc q) (k ∷ ks) d k' lt e = omega (arith, set_length q ks d k' (omega (arith, lt)) e, length-append k.1 (all_items (set ks q k')), length-append k.1 (all_items ks))

  -- the length of what was written, or was not
  pub written_length : {A E : Type 0} → (res : Result A E) (k k' : ℕ × List T) (r : ℕ) (x : T) → OnOk res (k'.1 ≡ set k.1 r x) → OnErr res (k'.1 ≡ k.1) → length k'.1 ≡ length k.1
  written_length (Ok a) k k' r x ok err = ap length ok ∙ length-set k.1 r x
  written_length (Err a) k k' r x ok err = ap length err

  -- the length of what was added, or was not
  pub added_length : {A E : Type 0} → (res : Result A E) (k k' : ℕ × List T) (x : T) → OnOk res (k'.1 ≡ k.1 ++ x ∷ []) → OnErr res (k'.1 ≡ k.1) → (length k.1 ≤ length k'.1) × (length k'.1 ≤ length k.1 + 1)
  added_length (Ok a) k k' x ok err = omega (arith, ap length ok, length-append k.1 (x ∷ []))
  added_length (Err a) k k' x ok err = omega (arith, ap length err)

  pub child_le : (n q : ℕ) (ks : List (ℕ × List T)) (d : ℕ × List T) → Packed n ks → q < length ks → length (get_or ks q d).1 ≤ n
  child_le n q [] d h lt = absurd (omega arith)
  child_le n zero (k ∷ ks) d h lt = h.2
  child_le n (suc q) (k ∷ ks) d h lt = child_le n q ks d h.4 (omega (arith, lt))

  pub full_last : (n : ℕ) (ks : List (ℕ × List T)) (p : ℕ) (k : ℕ × List T) → Packed n ks → p + 1 ≡ length ks → k ≡ get_or ks p k → n ≤ length k.1 → (q : ℕ) → q + 1 ≡ length ks → length (get_or ks q k).1 ≡ n
  full_last n ks p k h last is le q e =
      let same : q ≡ p = omega (arith, last, e) in
      let low : length k.1 ≤ n = rw is (child_le n p ks k h (omega (arith, last))) in
      ap (λ i. length (get_or ks i k).1) same ∙ ap (λ (j : ℕ × List T). length j.1) (sym is) ∙ omega (arith, low, le)

  any_default : (ks : List (ℕ × List T)) (q : ℕ) (d e : ℕ × List T) → q < length ks → get_or ks q e ≡ get_or ks q d
  any_default [] q d e lt = absurd (omega arith)
  any_default (k ∷ ks) zero d e lt = refl
  any_default (k ∷ ks) (suc q) d e lt = any_default ks q d e (omega (arith, lt))

  -- two reads of one place
  pub two_reads : (ks : List (ℕ × List T)) (q : ℕ) (a b : ℕ × List T) → q < length ks → a ≡ get_or ks q a → b ≡ get_or ks q b → a ≡ b
  two_reads ks q a b lt ea eb = ea ∙ any_default ks q b a lt ∙ sym eb

  pub child_some : (n q : ℕ) (ks : List (ℕ × List T)) (d : ℕ × List T) → Packed n ks → q < length ks → 0 < length (get_or ks q d).1
  child_some n q [] d h lt = absurd (omega arith)
  child_some n zero (k ∷ ks) d h lt = h.1
  child_some n (suc q) (k ∷ ks) d h lt = child_some n q ks d h.4 (omega (arith, lt))

  -- an item, where there is one
  pub some_of : (xs : List T) (r : ℕ) → r < length xs → T
  some_of [] r lt = absurd (omega arith)
  some_of (x ∷ xs) r lt = x

  -- an item of all, read from its child
  pub item_read : (n i : ℕ) (ks : List (ℕ × List T)) (k : ℕ × List T) (all : List T) (x : T) → 0 < n → Packed n ks → i < length (all_items ks) → all ≡ all_items ks → k ≡ get_or ks (i / n) k
      → get_or all i x ≡ get_or k.1 (i % n) x
  item_read n i ks k all x pos h lt e is =
      ap (λ l. get_or l i x) e ∙ reach_item n i ks k x pos h lt ∙ ap (λ (p : ℕ × List T). get_or p.1 (i % n) x) (sym is)
