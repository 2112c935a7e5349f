-- The events of a block are gathered one after the other.
use Rattle.std.proofs.Common.{◌≡◌, ℕ, suc, ◌+◌, ◌-◌, ◌<◌, ◌≤◌, Bool, true, false, cond, List, [], ◌∷◌, ◌++◌, Some, None, length, get_or, refl, sym, ap, ◌∙◌, subst, ◌⊎◌, inl, inr, arith, append_assoc, All}
use Rattle.std.specs.Prelude.{slice_get}
use Rattle.std.specs.List.{filter}
use Rattle.std.specs.Ordering.{is_lt, match_ordering}
use Rattle.std.specs.declared.cmp.Ordering.TheVariants.{Less}
use Rattle.std.proofs.lemmas.Bool.{and_from, and_parts, le-leb, false≢true}
use Rattle.values.specs.Event.{Event}
use Rattle.values.specs.Events.{event_cmp, put_event}
use Rattle.values.specs.EventOrder.{event_total}
use Rattle.values.specs.RowReading.{Parsed, after}
use Rattle.values.proofs.RowReadingParsed.{left, after-after}
use Rattle.values.proofs.RowReads.{same_taken}
use Rattle.keyrange.specs.Rect.{Area}
use Rattle.keyrange.specs.Range.{is_key_in, is_time_in, is_early}
use Rattle.keyrange.proofs.RangeOrder.{is_less}
use Rattle.eventlist.proofs.PlaceOrder.{is_lower, sorted_tail}
use Rattle.datanode.specs.Cut.{IsMap, in_cut, cut}
use Rattle.datanode.specs.Node.{Node, IsNode, Accepts}
use Rattle.datanode.proofs.CutMembers.{In, In-from_filter, all_kept}
use Rattle.datanode.proofs.CutOrder.{In_place, at_In, head_below}
use Rattle.datanode.proofs.CutLaws.{in_cut_decides}
use Rattle.datanode.proofs.NodeInsert.{greater}
use Rattle.blocks.specs.Field.{taken_then}
use Rattle.blocks.specs.Event.{event_from, events_from}
use Rattle.blocks.specs.Gather.{at_all_times, is_behind, last_of, is_next, NoNodeFrom}

-- ---- reading on

abbrev turned : ℕ → Parsed Event → Parsed (List Event)
turned n t = taken_then t (λ e rest. after (e ∷ []) (events_from n rest))

turns : (n i : ℕ) (xs : List Event) (bytes : List ℕ) (t : Parsed Event) → i < n → event_from bytes ≡ t
    → after xs (events_from (n - i) bytes) ≡ after xs (turned (n - (i + 1)) t)
turns n i xs bytes t h is = ap (λ k. after xs (events_from k bytes)) (left n i h) ∙ ap (λ t. after xs (turned (n - (i + 1)) t)) is

pub events_more : (n i : ℕ) (xs : List Event) (e : Event) (bytes rest : List ℕ) → i < n → event_from bytes ≡ Some (e, rest)
    → after xs (events_from (n - i) bytes) ≡ after (xs ++ e ∷ []) (events_from (n - (i + 1)) rest)
events_more n i xs e bytes rest h is = turns n i xs bytes (Some (e, rest)) h is ∙ after-after xs (e ∷ []) (events_from (n - (i + 1)) rest)

pub no_events_left : (xs : List Event) (t : Parsed (List Event)) (es : List Event) (rest : List ℕ) → after xs t ≡ Some (es, rest) → (more : List Event) × (xs ++ more ≡ es)
no_events_left xs None es rest is = cc
no_events_left xs (Some (more, left)) es rest is = (more, (same_taken (xs ++ more) es left rest is).0)

-- ---- which event may be next

-- each event is before another
abbrev pub AreBelow : List Event → Event → Type 0
AreBelow xs e = (x : Event) → In x xs → event_cmp x e ≡ Less

In_behind : (xs : List Event) (e : Event) (more : List Event) → In e (xs ++ e ∷ more)
In_behind [] e more = inl refl
In_behind (x ∷ xs) e more = inr (In_behind xs e more)

below_in_order : (xs : List Event) (e : Event) (more : List Event) → IsMap (xs ++ e ∷ more) → AreBelow xs e
below_in_order [] e more map x i = absurd i
below_in_order (d ∷ ds) e more map x (inl q) = subst (λ y. event_cmp y e ≡ Less) q (head_below d (ds ++ e ∷ more) map e (In_behind ds e more))
below_in_order (d ∷ ds) e more map x (inr i) = below_in_order ds e more (sorted_tail event_cmp d (ds ++ e ∷ more) map) x i

last_more : (d x : Event) (xs : List Event) → last_of (d ∷ (x ∷ xs)) ≡ last_of (x ∷ xs)
last_more d x xs =
    let n = length xs in
    let one : suc (suc n) - 1 ≡ suc n = omega arith in
    let other : suc n - 1 ≡ n = omega arith in
    ap (slice_get (d ∷ (x ∷ xs))) one ∙ sym (ap (slice_get (x ∷ xs)) other)

last_in : (x : Event) (xs : List Event) → (y : Event) × (last_of (x ∷ xs) ≡ Some y) × In y (x ∷ xs)
last_in x [] = (x, refl, inl refl)
last_in x (z ∷ xs) = let r = last_in z xs in (r.0, last_more x z xs ∙ r.1, inr r.2)

behind_below : (xs : List Event) (e : Event) → AreBelow xs e → is_behind e (last_of xs) ≡ true
behind_below [] e h = refl
behind_below (x ∷ xs) e h = let r = last_in x xs in ap (is_behind e) r.1 ∙ ap is_lt (h r.0 r.2)

below_behind : (xs : List Event) (e : Event) → IsMap xs → is_behind e (last_of xs) ≡ true → AreBelow xs e
below_behind [] e map h x i = absurd i
below_behind (d ∷ []) e map h x (inl q) = subst (λ y. event_cmp y e ≡ Less) q (is_less (event_cmp d e) h)
below_behind (d ∷ []) e map h x (inr i) = absurd i
below_behind (d ∷ (f ∷ fs)) e map h x (inl q) =
    let next = below_behind (f ∷ fs) e (sorted_tail event_cmp d (f ∷ fs) map) (sym (ap (is_behind e) (last_more d f fs)) ∙ h) f (inl refl) in
    subst (λ y. event_cmp y e ≡ Less) q (event_total.trans d f e (head_below d (f ∷ fs) map f (inl refl)) next)
below_behind (d ∷ (f ∷ fs)) e map h x (inr i) = below_behind (f ∷ fs) e (sorted_tail event_cmp d (f ∷ fs) map) (sym (ap (is_behind e) (last_more d f fs)) ∙ h) x i

-- an event of a node may be next behind those before it
is_next_of : (r : Area) (node : Node) (e : Event) (more : List Event) → node.rect ≡ at_all_times r → IsNode r ((node.events ++ e ∷ []) ++ more) → is_next node e ≡ true
unfolding is_next
is_next_of r node e more rect whole =
    let all : List Event = (node.events ++ e ∷ []) ++ more in
    let here : In e all = subst (In e) (sym (append_assoc node.events (e ∷ []) more)) (In_behind node.events e more) in
    let in_keys = ((in_cut_decides r all e).0 (In-from_filter (in_cut r all) all e (subst (In e) whole.whole here)).1).0 in
    and_from _ _ (ap (λ (s : Area). is_key_in s.keys e.key) rect ∙ in_keys)
    (behind_below node.events e (below_in_order node.events e more (subst IsMap (append_assoc node.events (e ∷ []) more) whole.ordered)))

pub no_node_from : (r : Area) (n i : ℕ) (bytes now rest : List ℕ) (node : Node) (e : Event) → node.rect ≡ at_all_times r → i < n → event_from now ≡ Some (e, rest)
    → after node.events (events_from (n - i) now) ≡ events_from n bytes → is_next node e ≡ false → NoNodeFrom r n bytes
no_node_from r n i bytes now rest node e rect below is reads not_next es others all whole =
    let more = no_events_left (node.events ++ e ∷ []) (events_from (n - (i + 1)) rest) es others (sym (events_more n i node.events e now rest below is) ∙ reads ∙ all) in
    false≢true (sym not_next ∙ is_next_of r node e more.0 rect (subst (IsNode r) (sym more.1) whole))

-- ---- it is put behind them

at_each : (P : Event → Type 0) (xs : List Event) → All P xs → (x : Event) → In x xs → P x
at_each P xs h x i = let r = In_place x x xs i in subst P r.2 (h r.0 x r.1)

pub accepted : (r : Area) (node : Node) (e : Event) → node.rect ≡ at_all_times r → IsNode node.rect node.events → 1 ≤ e.at → is_next node e ≡ true → Accepts node e
unfolding is_next
accepted r node e rect whole first next =
    let two = and_parts (is_key_in node.rect.keys e.key) _ next in
    let below = below_behind node.events e whole.ordered two.1 in
    record {
      current = ap (λ (s : Area). s.time.to) rect;
      inside = and_from _ _ two.0 (ap (λ (s : Area). is_time_in s.time e.at) rect ∙ and_from _ _ (le-leb 1 e.at first) refl);
      last = λ j d lt same. (is_lower (get_or node.events j d) e (below (get_or node.events j d) (at_In d node.events j lt))).same same;
    }

put_behind : (e : Event) (xs : List Event) → AreBelow xs e → put_event e xs ≡ xs ++ e ∷ []
put_behind e [] h = refl
put_behind e (d ∷ ds) h =
    ap (λ o. match_ordering o (e ∷ d ∷ ds) (e ∷ ds) (d ∷ put_event e ds)) (greater d e (h d (inl refl)))
    ∙ ap (λ l. d ∷ l) (put_behind e ds (λ x i. h x (inr i)))

In_pushed : (xs : List Event) (e x : Event) → In x (xs ++ e ∷ []) → (In x xs) ⊎ (e ≡ x)
In_pushed [] e x (inl q) = inr q
In_pushed [] e x (inr i) = absurd i
In_pushed (d ∷ ds) e x (inl q) = inl (inl q)
In_pushed (d ∷ ds) e x (inr i) = elim (In_pushed ds e x i) [ inl j ↦ inl (inr j) | inr q ↦ inr q ]

pub put_next : (r : Area) (node : Node) (e : Event) → node.rect ≡ at_all_times r → IsNode node.rect node.events → All (λ e. 1 ≤ e.at) node.events → 1 ≤ e.at → is_next node e ≡ true
    → cut node.rect (put_event e node.events) ≡ node.events ++ e ∷ []
unfolding is_next
put_next r node e rect whole firsts first next =
    let two = and_parts (is_key_in node.rect.keys e.key) _ next in
    let below = below_behind node.events e whole.ordered two.1 in
    let xs = node.events ++ e ∷ [] in
    let own : (x : Event) → is_key_in node.rect.keys x.key ≡ true → 1 ≤ x.at → in_cut node.rect xs x ≡ true = λ x k t. (in_cut_decides node.rect xs x).1 (k, inl (subst (λ (s : Area). s.time.from ≤ x.at) (sym rect) t, ap (λ (s : Area). is_early x.at s.time.to) rect)) in
    let each : (x : Event) → In x xs → in_cut node.rect xs x ≡ true = λ x i. elim (In_pushed node.events e x i) [
      | inl j ↦ own x ((in_cut_decides node.rect node.events x).0 (In-from_filter (in_cut node.rect node.events) node.events x (subst (In x) whole.whole j)).1).0 (at_each (λ e. 1 ≤ e.at) node.events firsts x j)
      | inr q ↦ subst (λ (y : Event). in_cut node.rect xs y ≡ true) q (own e two.0 first)
    ] in
    ap (cut node.rect) (put_behind e node.events below) ∙ all_kept (in_cut node.rect xs) xs each

-- ---- the node of a rectangle inside

not_longer : {X : Type 0} (p : X → Bool) (xs : List X) → length (filter p xs) ≤ length xs
not_longer p [] = omega arith
not_longer p (x ∷ xs) = elim (p x) as (λ b. length (cond b (x ∷ filter p xs) (filter p xs)) ≤ suc (length xs)) [
  | true ↦ (let h = not_longer p xs in omega arith)
  | false ↦ (let h = not_longer p xs in omega arith)
]

pub all_if_long : {X : Type 0} (p : X → Bool) (xs : List X) → length (filter p xs) ≡ length xs → filter p xs ≡ xs
all_if_long p [] h = refl
all_if_long p (x ∷ xs) h = by (p x) h (all_if_long p xs)
  where
    by : (b : Bool) → length (cond b (x ∷ filter p xs) (filter p xs)) ≡ suc (length xs) → (length (filter p xs) ≡ length xs → filter p xs ≡ xs) → cond b (x ∷ filter p xs) (filter p xs) ≡ x ∷ xs
    by true e rest = ap (λ l. x ∷ l) (rest (omega arith))
    by false e rest = absurd (let few = not_longer p xs in omega arith)

-- ---- as far as the loop has come
pub record IsGatheredTo (r : Area) (n i : ℕ) (bytes : List ℕ) (node : Node) (rest : List ℕ) : Type 0 where
  pub rect_is : node.rect ≡ at_all_times r
  pub firsts : All (λ e. 1 ≤ e.at) node.events
  pub reads : after node.events (events_from (n - i) rest) ≡ events_from n bytes
