-- Events that are put one after the other may first be put in order.
use Rattle.std.proofs.Common.{◌≡◌, ℕ, ◌<◌, List, [], ◌∷◌, Option, Result, Ok, Err, IfOk, refl, sym, ap, subst, ◌∙◌, arith, length}
use Rattle.std.specs.Ordering.{ordering_reverse, match_ordering}
use Rattle.std.specs.declared.cmp.Ordering.{Ordering}
use Rattle.std.specs.declared.cmp.Ordering.TheVariants.{Less, Equal, Greater}
use Rattle.std.specs.List.{AllByRecursion}
use Rattle.std.specs.List.Sorted.{IsStrictlySortedBy}
use Rattle.std.proofs.lemmas.List.Elements.{All-from_recursion}
use Rattle.values.specs.Event.{Event}
use Rattle.values.specs.EventOrder.{event_total}
use Rattle.values.specs.declared.key.Key.{Key}
use Rattle.values.specs.Log.{Net, Row}
use Rattle.values.specs.KeyEncoding.{bytes_of_key}
use Rattle.values.specs.Events.{event_cmp, put_event, put_net}
use Rattle.eventlist.proofs.PlaceOrder.{sorted_head, sorted_tail, sorted_none}
use Rattle.eventlist.proofs.PutPlaced.{all_put, sorted_put}
use Rattle.tsbtree.specs.treegrowth.Commit.{put_each, IsCommit}

-- the event of a change at an instant
abbrev event_at : ℕ → Key × Option Row → Event
event_at i c = record { key = bytes_of_key c.0; at = i; row = c.1 }

-- ---- two events

abbrev choice : Event → Event → List Event → Ordering → List Event
choice e d ds o = match_ordering o (e ∷ d ∷ ds) (e ∷ ds) (d ∷ put_event e ds)

put_by : (e d : Event) (ds : List Event) (o : Ordering) → event_cmp e d ≡ o → put_event e (d ∷ ds) ≡ choice e d ds o
put_by e d ds o is = ap (choice e d ds) is

after : (e d : Event) → event_cmp e d ≡ Less → event_cmp d e ≡ Greater
after e d is = event_total.antisymm d e ∙ ap ordering_reverse is

tied : (e d : Event) → event_cmp e d ≡ Equal → event_cmp d e ≡ Equal
tied e d is = event_total.antisymm d e ∙ ap ordering_reverse is

-- what is greater than an event is greater than one before it
above : (e d x : Event) → event_cmp e d ≡ Less → event_cmp e x ≡ Greater → event_cmp d x ≡ Greater
above e d x less is = after x d (event_total.trans x e d (event_total.antisymm x e ∙ ap ordering_reverse is) less)

-- the order in which two events are put does not matter
commute : (e d : Event) (m : List Event) → event_cmp e d ≡ Less → put_event e (put_event d m) ≡ put_event d (put_event e m)
commute e d [] less = put_by e d [] Less less ∙ sym (put_by d e [] Greater (after e d less))
commute e d (x ∷ xs) less = by (event_cmp e x) (event_cmp d x) refl refl (commute e d xs less)
  where
    by : (o p : Ordering) → event_cmp e x ≡ o → event_cmp d x ≡ p → put_event e (put_event d xs) ≡ put_event d (put_event e xs) → put_event e (put_event d (x ∷ xs)) ≡ put_event d (put_event e (x ∷ xs))
    by Less Less is js rest =
        ap (put_event e) (put_by d x xs Less js) ∙ put_by e d (x ∷ xs) Less less
        ∙ sym (ap (put_event d) (put_by e x xs Less is) ∙ put_by d e (x ∷ xs) Greater (after e d less) ∙ ap (λ l. e ∷ l) (put_by d x xs Less js))
    by Less Equal is js rest =
        ap (put_event e) (put_by d x xs Equal js) ∙ put_by e d xs Less less
        ∙ sym (ap (put_event d) (put_by e x xs Less is) ∙ put_by d e (x ∷ xs) Greater (after e d less) ∙ ap (λ l. e ∷ l) (put_by d x xs Equal js))
    by Less Greater is js rest =
        ap (put_event e) (put_by d x xs Greater js) ∙ put_by e x (put_event d xs) Less is
        ∙ sym (ap (put_event d) (put_by e x xs Less is) ∙ put_by d e (x ∷ xs) Greater (after e d less) ∙ ap (λ l. e ∷ l) (put_by d x xs Greater js))
    by Equal p is js rest =
        let far : event_cmp d x ≡ Greater = after x d (event_total.congr x e d (tied e x is) ∙ less) in
        ap (put_event e) (put_by d x xs Greater far) ∙ put_by e x (put_event d xs) Equal is
        ∙ sym (ap (put_event d) (put_by e x xs Equal is) ∙ put_by d e xs Greater (after e d less))
    by Greater p is js rest =
        let far : event_cmp d x ≡ Greater = above e d x less is in
        ap (put_event e) (put_by d x xs Greater far) ∙ put_by e x (put_event d xs) Greater is ∙ ap (λ l. x ∷ l) rest
        ∙ sym (ap (put_event d) (put_by e x xs Greater is) ∙ put_by d x (put_event e xs) Greater far)

-- of two events of one key and instant the later one stays
replaced : (e d : Event) (m : List Event) → event_cmp e d ≡ Equal → put_event e (put_event d m) ≡ put_event e m
replaced e d [] same = put_by e d [] Equal same
replaced e d (x ∷ xs) same = by (event_cmp e x) refl (replaced e d xs same)
  where
    alike : (o : Ordering) → event_cmp e x ≡ o → event_cmp d x ≡ o
    alike o is = event_total.congr d e x (tied e d same) ∙ is

    by : (o : Ordering) → event_cmp e x ≡ o → put_event e (put_event d xs) ≡ put_event e xs → put_event e (put_event d (x ∷ xs)) ≡ put_event e (x ∷ xs)
    by Less is rest = ap (put_event e) (put_by d x xs Less (alike Less is)) ∙ put_by e d (x ∷ xs) Equal same ∙ sym (put_by e x xs Less is)
    by Equal is rest = ap (put_event e) (put_by d x xs Equal (alike Equal is)) ∙ put_by e d xs Equal same ∙ sym (put_by e x xs Equal is)
    by Greater is rest =
        ap (put_event e) (put_by d x xs Greater (alike Greater is)) ∙ put_by e x (put_event d xs) Greater is ∙ ap (λ l. x ∷ l) rest ∙ sym (put_by e x xs Greater is)

-- ---- an event among others in order

-- an event before all others may be put last
pass : (e : Event) (s m : List Event) → AllByRecursion (λ d. event_cmp e d ≡ Less) s → put_each s (put_event e m) ≡ put_event e (put_each s m)
pass e [] m h = refl
pass e (x ∷ s) m h = ap (put_each s) (sym (commute e x m h.0)) ∙ pass e s (put_event x m) h.1

less_all : (e x : Event) (s : List Event) → event_cmp e x ≡ Less → AllByRecursion (λ d. event_cmp x d ≡ Less) s → AllByRecursion (λ d. event_cmp e d ≡ Less) s
less_all e x [] is h = tt
less_all e x (d ∷ s) is h = (event_total.trans e x d is h.0, less_all e x s is h.1)

same_all : (e x : Event) (s : List Event) → event_cmp e x ≡ Equal → AllByRecursion (λ d. event_cmp x d ≡ Less) s → AllByRecursion (λ d. event_cmp e d ≡ Less) s
same_all e x [] is h = tt
same_all e x (d ∷ s) is h = (event_total.congr e x d is ∙ h.0, same_all e x s is h.1)

each_put : (e : Event) (s m : List Event) → IsStrictlySortedBy event_cmp s → put_each (put_event e s) m ≡ put_event e (put_each s m)
each_put e [] m h = refl
each_put e (x ∷ s) m h = by (event_cmp e x) refl (each_put e s (put_event x m) (sorted_tail event_cmp x s h))
  where
    by : (o : Ordering) → event_cmp e x ≡ o → put_each (put_event e s) (put_event x m) ≡ put_event e (put_each s (put_event x m)) → put_each (put_event e (x ∷ s)) m ≡ put_event e (put_each (x ∷ s) m)
    by Less is rest =
        ap (λ l. put_each l m) (put_by e x s Less is) ∙ ap (put_each s) (sym (commute e x m is)) ∙ pass e s (put_event x m) (less_all e x s is (sorted_head event_cmp x s h))
    by Equal is rest =
        ap (λ l. put_each l m) (put_by e x s Equal is) ∙ ap (put_each s) (sym (replaced e x m is)) ∙ pass e s (put_event x m) (same_all e x s is (sorted_head event_cmp x s h))
    by Greater is rest = ap (λ l. put_each l m) (put_by e x s Greater is) ∙ rest

-- ---- net changes

each_net : (i : ℕ) (net : Net) (s m : List Event) → IsStrictlySortedBy event_cmp s → put_each (put_net i net s) m ≡ put_net i net (put_each s m)
each_net i [] s m h = refl
each_net i (c ∷ net) s m h =
    each_net i net _ m (sorted_put (event_at i c) s h) ∙ ap (put_net i net) (each_put (event_at i c) s m h)

sorted_net : (i : ℕ) (net : Net) (s : List Event) → IsStrictlySortedBy event_cmp s → IsStrictlySortedBy event_cmp (put_net i net s)
sorted_net i [] s h = h
sorted_net i (c ∷ net) s h = sorted_net i net _ (sorted_put (event_at i c) s h)

all_at : (i : ℕ) (net : Net) (s : List Event) → AllByRecursion (λ e. e.at ≡ i) s → AllByRecursion (λ e. e.at ≡ i) (put_net i net s)
all_at i [] s h = h
all_at i (c ∷ net) s h = all_at i net _ (all_put (λ e. e.at ≡ i) (event_at i c) s refl h)

some_put : (e : Event) (s : List Event) → 0 < length (put_event e s)
some_put e [] = omega arith
some_put e (d ∷ s) = elim (event_cmp e d) as (λ o. 0 < length (choice e d s o)) [ Less ↦ omega arith | Equal ↦ omega arith | Greater ↦ omega arith ]

some_more : (i : ℕ) (net : Net) (s : List Event) → 0 < length s → 0 < length (put_net i net s)
some_more i [] s h = h
some_more i (c ∷ net) s h = some_more i net _ (some_put (event_at i c) s)

some_net : (i : ℕ) (net : Net) → 0 < length net → 0 < length (put_net i net [])
some_net i [] h = absurd (omega arith)
some_net i (c ∷ net) h = some_more i net _ (some_put (event_at i c) [])

-- ---- what net changes stand for

pub net_adds : (i : ℕ) (net : Net) (es : List Event) → es ≡ put_net i net [] → (m : List Event) → put_each es m ≡ put_net i net m
net_adds i net es is m = ap (λ l. put_each l m) is ∙ each_net i net [] m (sorted_none event_cmp)

pub net_commit : (i : ℕ) (net : Net) (es : List Event) → es ≡ put_net i net [] → IsCommit i es
net_commit i net es is = subst (IsCommit i) (sym is) (record {
  at_instant = All-from_recursion (λ e. e.at ≡ i) (put_net i net []) (all_at i net [] tt);
  ordered = sorted_net i net [] (sorted_none event_cmp);
})

pub net_some : (i : ℕ) (net : Net) (es : List Event) → es ≡ put_net i net [] → 0 < length net → 0 < length es
net_some i net es is h = subst (λ l. 0 < length l) (sym is) (some_net i net h)

-- ---- in a result

pub weaker : {A E : Type 0} {P Q : A → Type 0} (r : Result A E) → ((v : A) → P v → Q v) → IfOk r P → IfOk r Q
weaker (Ok v) f h = f v h
weaker (Err e) f h = tt
