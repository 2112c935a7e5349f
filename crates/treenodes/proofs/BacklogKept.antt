-- The list of what is to be packed, while nodes change.
use Rattle.std.proofs.Common.{◌≡◌, ◌≢◌, ℕ, zero, suc, ◌+◌, ◌-◌, ◌<◌, ◌≤◌, Bool, true, false, List, [], ◌∷◌, ◌++◌, length, get_or, set, Option, Some, None, refl, sym, ap, subst, ◌∙◌, ◌⊎◌, inl, inr, arith}
use Rattle.std.specs.Prelude.{slice_get, slice_index, Contains, IsTrue, is_some, is_none, ◌&&◌}
use Rattle.std.specs.List.{insert, remove}
use Rattle.std.specs.List.Sorted.{IsPartitionPoint}
use Rattle.std.specs.Ordering.{is_lt}
use Rattle.std.proofs.lemmas.Bool.{cases_lt}
use Rattle.std.proofs.lemmas.List.{get_or_default}
use Rattle.std.proofs.lemmas.List.Edits.{length-insert, get_or-insert_below, get_or-insert_at, get_or-insert_above, length-remove, get_or-remove_below, get_or-remove_above}
use Rattle.std.proofs.lemmas.Option.{slice_get_within, slice_get-get_or}
use Rattle.values.specs.Event.{Event}
use Rattle.keyrange.specs.Rect.{Area}
use Rattle.treenodes.specs.Node.{TreeNode, IsAt}
use Rattle.treenodes.specs.Event.{AcceptsEvent, with_put}
use Rattle.treenodes.specs.Backlog.{is_data, is_unpacked, turn_cmp, comes_after, IsUnpackedAt, AreFalling, IsBacklog, IsBacklogBut}
use Rattle.treenodes.proofs.NodeNumbers.{one_at, same_or_not, set_same}
use Rattle.treenodes.specs.Root.{empty_leaf}
use Rattle.treenodes.proofs.BacklogOrder.{other_way, later_is, never_itself}

-- ---- a number that comes in, and one that goes

inserted_at : (xs : List ℕ) (i y k d : ℕ) → i ≤ length xs
    → ((k < i) × (get_or (insert xs i y) k d ≡ get_or xs k d)) ⊎ (((k ≡ i) × (get_or (insert xs i y) k d ≡ y)) ⊎ ((i < k) × (get_or (insert xs i y) k d ≡ get_or xs (k - 1) d)))
inserted_at xs i y k d le = elim (cases_lt k i) [
  | inl below ↦ inl (below, get_or-insert_below xs i y d k below le)
  | inr from ↦ elim (cases_lt i k) [
    | inl above ↦ (let back : k ≡ k - 1 + 1 = omega (arith, above) in inr (inr (above, ap (λ x. get_or (insert xs i y) x d) back ∙ get_or-insert_above xs i y d (k - 1) (omega (arith, above)) le)))
    | inr upto ↦ (let same : k ≡ i = omega (arith, from, upto) in inr (inl (same, ap (λ x. get_or (insert xs i y) x d) same ∙ get_or-insert_at xs i y d le)))
  ]
]

removed_at : (xs : List ℕ) (i k d : ℕ) → i < length xs → ((k < i) × (get_or (remove xs i) k d ≡ get_or xs k d)) ⊎ ((i ≤ k) × (get_or (remove xs i) k d ≡ get_or xs (k + 1) d))
removed_at xs i k d lt = elim (cases_lt k i) [
  | inl below ↦ inl (below, get_or-remove_below xs i d k below lt)
  | inr from ↦ inr (from, get_or-remove_above xs i d k from lt)
]

module _ (nodes : List TreeNode) (numbers : List ℕ) (number : ℕ) (n : TreeNode) (at : IsAt nodes number n) where
  abbrev After : ℕ → Type 0
  After i = comes_after nodes n.rect number i ≡ true

  abbrev NotAfter : ℕ → Type 0
  NotAfter i = comes_after nodes n.rect number i ≡ false

  -- ---- the node is not unpacked, so its number is not in question

  module _ (none : is_unpacked n ≡ false) where
    not_it : (i : ℕ) → IsUnpackedAt nodes i → i ≢ number
    not_it i u same =
        let it : u.node ≡ n = one_at nodes number u.node n (ap (slice_get nodes) (sym same) ∙ u.there) at in
        let never : ◌≡◌ {A = Bool} false true = sym none ∙ ap is_unpacked (sym it) ∙ u.unpacked in
        cc

    pub but_none : IsBacklog nodes numbers → IsBacklogBut nodes number numbers
    but_none b = record { each = λ k d lt. (not_it _ (b.each k d lt), b.each k d lt); whole = λ i other u. b.whole i u; falling = b.falling }

    pub and_none : IsBacklogBut nodes number numbers → IsBacklog nodes numbers
    and_none b = record { each = λ k d lt. (b.each k d lt).1; whole = λ i u. b.whole i (not_it i u) u; falling = b.falling }

  -- ---- it is unpacked

  module _ (unpacked : IsTrue (is_unpacked n)) (k : ℕ) (le : k ≤ length numbers) (part : IsPartitionPoint After NotAfter numbers k) where
    this : IsUnpackedAt nodes number
    this = record { node = n; there = at; unpacked = unpacked }

    module _ (b : IsBacklogBut nodes number numbers) where
      abbrev more : List ℕ
      more = insert numbers k number

      long : length more ≡ length numbers + 1
      long = length-insert numbers k number le

      -- those from the place on come before it
      before : (m : ℕ) (p : TreeNode) → k ≤ m → m < length numbers → IsAt nodes (slice_index numbers m) p → comes_after nodes p.rect (slice_index numbers m) number ≡ true
      before m p from lt there =
          let i = slice_index numbers m in
          later_is nodes p.rect i number n at
          ∙ other_way n.rect p.rect number i (λ same. (b.each m 0 lt).0 (sym same)) (sym (later_is nodes n.rect number i p there) ∙ part.1 m 0 from lt)

      fell : (x y : ℕ) (p : TreeNode) → comes_after nodes p.rect x y ≡ true → (u v : ℕ) → u ≡ x → v ≡ y → comes_after nodes p.rect u v ≡ true
      fell x y p h u v e f = subst (λ a. comes_after nodes p.rect u a ≡ true) (sym f) (subst (λ a. comes_after nodes p.rect a y ≡ true) (sym e) h)

      moved : (x u : ℕ) (p : TreeNode) → u ≡ x → IsAt nodes u p → IsAt nodes x p
      moved x u p e h = subst (λ a. IsAt nodes a p) e h

      falls : AreFalling nodes more
      falls j m p less lt there = elim (inserted_at numbers k number m 0 le) [
        | inl q ↦ elim (inserted_at numbers k number j 0 le) [
          | inl r ↦ fell _ _ p (b.falling j m p less (omega (arith, q.0, le)) (moved _ _ p q.1 there)) _ _ q.1 r.1
          | inr (inl r) ↦ absurd (omega (arith, q.0, r.0, less))
          | inr (inr r) ↦ absurd (omega (arith, q.0, r.0, less))
        ]
        | inr (inl q) ↦ elim (inserted_at numbers k number j 0 le) [
          | inl r ↦ (let it : p ≡ n = one_at nodes number p n (moved _ _ p q.1 there) at in
              fell number (slice_index numbers j) p (subst (λ (x : TreeNode). comes_after nodes x.rect number (slice_index numbers j) ≡ true) (sym it) (part.0 j 0 (omega arith) r.0)) _ _ q.1 r.1)
          | inr (inl r) ↦ absurd (omega (arith, q.0, r.0, less))
          | inr (inr r) ↦ absurd (omega (arith, q.0, r.0, less))
        ]
        | inr (inr q) ↦ elim (inserted_at numbers k number j 0 le) [
          | inl r ↦ fell _ _ p (b.falling j (m - 1) p (omega (arith, q.0, r.0)) (omega (arith, q.0, lt, long)) (moved _ _ p q.1 there)) _ _ q.1 r.1
          | inr (inl r) ↦ fell _ _ p (before (m - 1) p (omega (arith, q.0)) (omega (arith, q.0, lt, long)) (moved _ _ p q.1 there)) _ _ q.1 r.1
          | inr (inr r) ↦ fell _ _ p (b.falling (j - 1) (m - 1) p (omega (arith, q.0, r.0, less)) (omega (arith, q.0, lt, long)) (moved _ _ p q.1 there)) _ _ q.1 r.1
        ]
      ]

      pub with_it : IsBacklog nodes more
      with_it = record {
        each = λ m d lt. elim (inserted_at numbers k number m d le) [
          | inl q ↦ subst (IsUnpackedAt nodes) (sym q.1) (b.each m d (omega (arith, q.0, le))).1
          | inr (inl q) ↦ subst (IsUnpackedAt nodes) (sym q.1) this
          | inr (inr q) ↦ subst (IsUnpackedAt nodes) (sym q.1) (b.each (m - 1) d (omega (arith, q.0, lt, long))).1
        ];
        whole = λ i u. elim (same_or_not i number) [
          | inl e ↦ (k, omega (arith, le, long), get_or-insert_at numbers k number i le ∙ sym e)
          | inr other ↦ (let c = b.whole i other u in elim (cases_lt c.0 k) [
            | inl below ↦ (c.0, omega (arith, c.1, long), get_or-insert_below numbers k number i c.0 below le ∙ c.2)
            | inr from ↦ (c.0 + 1, omega (arith, c.1, long), get_or-insert_above numbers k number i c.0 from le ∙ c.2)
          ])
        ];
        falling = falls;
      }

    module _ (b : IsBacklog nodes numbers) where
      place : Contains numbers number
      place = b.whole number this

      here : slice_index numbers place.0 ≡ number
      here = get_or_default numbers place.0 0 number place.1 ∙ place.2

      is_place : place.0 ≡ k
      is_place = elim (cases_lt place.0 k) [
        | inl below ↦ absurd (never_itself nodes number n at (subst After here (part.0 place.0 0 (omega arith) below)))
        | inr from ↦ elim (cases_lt k place.0) [
          | inl above ↦ (let never : ◌≡◌ {A = Bool} false true = sym (part.1 k 0 (omega arith) (omega (arith, above, place.1))) ∙ subst (λ x. comes_after nodes n.rect x (slice_index numbers k) ≡ true) here (b.falling k place.0 n above place.1 (subst (λ x. IsAt nodes x n) (sym here) at)) in absurd (cc))
          | inr upto ↦ omega (arith, from, upto)
        ]
      ]

      pub found : (k < length numbers) × (slice_index numbers k ≡ number)
      found = (omega (arith, place.1, is_place), ap (slice_index numbers) (sym is_place) ∙ here)

      -- no other place has the number
      alone_before : (j : ℕ) → j < k → slice_index numbers j ≢ number
      alone_before j less same = never_itself nodes number n at
          (subst (λ x. comes_after nodes n.rect number x ≡ true) same (subst (λ x. comes_after nodes n.rect x (slice_index numbers j) ≡ true) found.1 (b.falling j k n less found.0 (subst (λ x. IsAt nodes x n) (sym found.1) at))))

      alone_behind : (j : ℕ) → k < j → j < length numbers → slice_index numbers j ≢ number
      alone_behind j more lt same = never_itself nodes number n at
          (subst (λ x. comes_after nodes n.rect number x ≡ true) found.1 (subst (λ x. comes_after nodes n.rect x (slice_index numbers k) ≡ true) same (b.falling k j n more lt (subst (λ x. IsAt nodes x n) (sym same) at))))

      abbrev less : List ℕ
      less = remove numbers k

      short : length less + 1 ≡ length numbers
      short = length-remove numbers k found.0

      fell_from : (x y : ℕ) (p : TreeNode) → comes_after nodes p.rect x y ≡ true → (u v : ℕ) → u ≡ x → v ≡ y → comes_after nodes p.rect u v ≡ true
      fell_from x y p h u v e f = subst (λ a. comes_after nodes p.rect u a ≡ true) (sym f) (subst (λ a. comes_after nodes p.rect a y ≡ true) (sym e) h)

      moved_from : (x u : ℕ) (p : TreeNode) → u ≡ x → IsAt nodes u p → IsAt nodes x p
      moved_from x u p e h = subst (λ a. IsAt nodes a p) e h

      falls_less : AreFalling nodes less
      falls_less j m p lt within there = elim (removed_at numbers k m 0 found.0) [
        | inl q ↦ elim (removed_at numbers k j 0 found.0) [
          | inl r ↦ fell_from _ _ p (b.falling j m p lt (omega (arith, within, short)) (moved_from _ _ p q.1 there)) _ _ q.1 r.1
          | inr r ↦ absurd (omega (arith, q.0, r.0, lt))
        ]
        | inr q ↦ elim (removed_at numbers k j 0 found.0) [
          | inl r ↦ fell_from _ _ p (b.falling j (m + 1) p (omega (arith, lt)) (omega (arith, within, short)) (moved_from _ _ p q.1 there)) _ _ q.1 r.1
          | inr r ↦ fell_from _ _ p (b.falling (j + 1) (m + 1) p (omega (arith, lt)) (omega (arith, within, short)) (moved_from _ _ p q.1 there)) _ _ q.1 r.1
        ]
      ]

      one_of : (j i : ℕ) → j < length numbers → slice_index numbers j ≢ number → i ≡ slice_index numbers j → (i ≢ number) × IsUnpackedAt nodes i
      one_of j i lt other e = (λ same. other (sym e ∙ same), subst (IsUnpackedAt nodes) (sym e) (b.each j 0 lt))

      -- what is left
      pub without_it : IsBacklogBut nodes number less
      without_it = record {
        each = λ j d lt. elim (removed_at numbers k j d found.0) [
          | inl q ↦ (let in_old : j < length numbers = omega (arith, lt, short) in one_of j _ in_old (alone_before j q.0) (q.1 ∙ get_or_default numbers j d 0 in_old))
          | inr q ↦ (let in_old : j + 1 < length numbers = omega (arith, lt, short) in one_of (j + 1) _ in_old (alone_behind (j + 1) (omega (arith, q.0)) in_old) (q.1 ∙ get_or_default numbers (j + 1) d 0 in_old))
        ];
        whole = λ i other u. let c = b.whole i u in elim (cases_lt c.0 k) [
          | inl below ↦ (c.0, omega (arith, below, found.0, short), get_or-remove_below numbers k i c.0 below found.0 ∙ c.2)
          | inr from ↦ elim (cases_lt k c.0) [
            | inl above ↦ (let back : c.0 - 1 + 1 ≡ c.0 = omega (arith, above) in (c.0 - 1, omega (arith, above, c.1, short), get_or-remove_above numbers k i (c.0 - 1) (omega (arith, above)) found.0 ∙ ap (λ x. get_or numbers x i) back ∙ c.2))
            | inr upto ↦ (let same : c.0 ≡ k = omega (arith, from, upto) in absurd (other (sym c.2 ∙ ap (λ x. get_or numbers x i) same ∙ get_or_default numbers k i 0 found.0 ∙ found.1)))
          ]
        ];
        falling = falls_less;
      }

-- ---- other nodes are as they were

pub still_but : (nodes after : List TreeNode) (number : ℕ) (numbers : List ℕ) → ((i : ℕ) → i ≢ number → slice_get after i ≡ slice_get nodes i) → IsBacklogBut nodes number numbers → IsBacklogBut after number numbers
still_but nodes after number numbers same b = record {
  each = λ k d lt. let u = b.each k d lt in (u.0, record { node = u.1.node; there = same _ u.0 ∙ u.1.there; unpacked = u.1.unpacked });
  whole = λ i other u. b.whole i other (record { node = u.node; there = sym (same i other) ∙ u.there; unpacked = u.unpacked });
  falling = λ j k n less lt there.
      let upper = b.each j 0 (omega (arith, less, lt)) in
      let lower = b.each k 0 lt in
      ap (λ (x : Option TreeNode). elim x [ None ↦ false | Some p ↦ is_lt (turn_cmp (n.rect, slice_index numbers k) (p.rect, slice_index numbers j)) ]) (same _ upper.0)
      ∙ b.falling j k n less lt (sym (same _ lower.0) ∙ there);
}

module _ {X : Type 0} where
  -- all but the one that was set
  pub get_set : (xs : List X) (i : ℕ) (x : X) (j : ℕ) → j ≢ i → slice_get (set xs i x) j ≡ slice_get xs j
  get_set [] i x j other = refl
  get_set (y ∷ ys) zero x zero other = absurd (other refl)
  get_set (y ∷ ys) zero x (suc j) other = refl
  get_set (y ∷ ys) (suc i) x zero other = refl
  get_set (y ∷ ys) (suc i) x (suc j) other = get_set ys i x j (λ e. other (ap suc e))

  -- and all but the one that was added
  pub get_push : (xs : List X) (x : X) (j : ℕ) → j ≢ length xs → slice_get (xs ++ x ∷ []) j ≡ slice_get xs j
  get_push [] x zero other = absurd (other refl)
  get_push [] x (suc j) other = refl
  get_push (y ∷ ys) x zero other = refl
  get_push (y ∷ ys) x (suc j) other = get_push ys x j (λ e. other (ap suc e))

pub but_next : (nodes : List TreeNode) (numbers : List ℕ) → IsBacklog nodes numbers → IsBacklogBut nodes (length nodes) numbers
but_next nodes numbers b = record {
  each = λ k d lt. let u = b.each k d lt in (λ same. absurd (let within : get_or numbers k d < length nodes = slice_get_within nodes _ u.node u.there in omega (arith, same, within)), u);
  whole = λ i other u. b.whole i u;
  falling = b.falling;
}

pub set_but : (nodes : List TreeNode) (number : ℕ) (n : TreeNode) (numbers : List ℕ) → IsBacklogBut nodes number numbers → IsBacklogBut (set nodes number n) number numbers
set_but nodes number n numbers b = still_but nodes (set nodes number n) number numbers (get_set nodes number n) b

pub push_but : (nodes : List TreeNode) (n : TreeNode) (numbers : List ℕ) → IsBacklog nodes numbers → IsBacklogBut (nodes ++ n ∷ []) (length nodes) numbers
push_but nodes n numbers b = still_but nodes (nodes ++ n ∷ []) (length nodes) numbers (get_push nodes n) (but_next nodes numbers b)

-- ---- as the code goes

module _ (nodes : List TreeNode) (numbers : List ℕ) (number : ℕ) (n : TreeNode) (at : IsAt nodes number n) (unpacked : IsTrue (is_unpacked n))
    (held : List ℕ) (held_is : held ≡ numbers) (rect : Area) (rect_is : rect ≡ n.rect) (k : ℕ) (bound : k ≤ length held)
    (given : IsPartitionPoint (λ i. comes_after nodes rect number i ≡ true) (λ i. comes_after nodes rect number i ≡ false) held k) where
  le : k ≤ length numbers
  le = subst (λ l. k ≤ length l) held_is bound

  part : IsPartitionPoint (λ i. comes_after nodes n.rect number i ≡ true) (λ i. comes_after nodes n.rect number i ≡ false) numbers k
  part = subst (λ r. IsPartitionPoint (λ i. comes_after nodes r number i ≡ true) (λ i. comes_after nodes r number i ≡ false) numbers k) rect_is
      (subst (λ l. IsPartitionPoint (λ i. comes_after nodes rect number i ≡ true) (λ i. comes_after nodes rect number i ≡ false) l k) held_is given)

  pub put_in : IsBacklogBut nodes number numbers → (new : List ℕ) → new ≡ insert held k number → IsBacklog nodes new
  put_in b new is = subst (IsBacklog nodes) (sym (is ∙ ap (λ l. insert l k number) held_is)) (with_it nodes numbers number n at unpacked k le part b)

  pub stands : IsBacklog nodes numbers → k < length held
  stands b = subst (λ l. k < length l) (sym held_is) (found nodes numbers number n at unpacked k le part b).0

  pub taken_out : IsBacklog nodes numbers → (new : List ℕ) → new ≡ remove held k → IsBacklogBut nodes number new
  taken_out b new is = subst (IsBacklogBut nodes number) (sym (is ∙ ap (λ l. remove l k) held_is)) (without_it nodes numbers number n at unpacked k le part b)

-- an event is put into a current node, which stays one
current_none : (n : TreeNode) → n.rect.time.to ≡ None → is_unpacked n ≡ false
current_none n current = ap (λ (to : Option ℕ). is_data n.content && (is_some to && is_none n.packed)) current ∙ and_false (is_data n.content)
  where
    and_false : (b : Bool) → (b && false) ≡ false
    and_false true = refl
    and_false false = refl

pub event_kept : (slots self : List TreeNode) (numbers : List ℕ) (number : ℕ) (e : Event) (new : List TreeNode) → slots ≡ self → number < length self → ((d : TreeNode) → AcceptsEvent (get_or self number d) e) → IsBacklog slots numbers
    → ((d : TreeNode) → new ≡ set slots number (with_put (get_or slots number d) e)) → IsBacklog new numbers
event_kept slots self numbers number e new same lt takes b made =
    subst (λ l. IsBacklog l numbers) (sym (made empty_leaf))
    (and_none (set slots number after) numbers number after (set_same slots number after n at) (current_none after current) (set_but slots number after numbers (but_none slots numbers number n at (current_none n current) b)))
  where
    n : TreeNode
    n = get_or slots number empty_leaf

    after : TreeNode
    after = with_put n e

    at : IsAt slots number n
    at = slice_get-get_or slots number empty_leaf (subst (λ l. number < length l) (sym same) lt)

    current : n.rect.time.to ≡ None
    current = (subst (λ l. AcceptsEvent (get_or l number empty_leaf) e) (sym same) (takes empty_leaf)).accepted.current

pub next_kept : (slots : List TreeNode) (numbers : List ℕ) (n : TreeNode) (number : ℕ) (new : List TreeNode) → IsBacklog slots numbers → number ≡ length slots → new ≡ slots ++ n ∷ [] → IsBacklogBut new number numbers
next_kept slots numbers n number new b is made = subst (λ l. IsBacklogBut l number numbers) (sym made) (subst (λ i. IsBacklogBut (slots ++ n ∷ []) i numbers) (sym is) (push_but slots n numbers b))

pub set_kept : (slots : List TreeNode) (numbers : List ℕ) (n : TreeNode) (number : ℕ) (new : List TreeNode) → IsBacklogBut slots number numbers → new ≡ set slots number n → IsBacklogBut new number numbers
set_kept slots numbers n number new b made = subst (λ l. IsBacklogBut l number numbers) (sym made) (set_but slots number n numbers b)
