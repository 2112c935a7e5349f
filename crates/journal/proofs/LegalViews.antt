-- What the begins of a legal journal saw is what there is now until the last instant that they saw.
use Rattle.std.proofs.Common.{◌≡◌, ℕ, ◌+◌, ◌<◌, ◌≤◌, ◌==◌, suc, Bool, true, false, cond, List, [], ◌∷◌, ◌++◌, length, Option, Some, None, Result, Ok, Err, refl, sym, ap, subst, ◌∙◌, arith, if◌then◌else◌}
use Rattle.std.specs.Prelude.{nat_le, All}
use Rattle.std.specs.Ordering.{match_ordering}
use Rattle.std.specs.BTreeMap.{insert_entry}
use Rattle.std.specs.declared.cmp.Ordering.{Ordering}
use Rattle.std.specs.declared.cmp.Ordering.TheVariants.{Less, Equal, Greater}
use Rattle.std.proofs.lemmas.Bool.{le-leb}
use Rattle.std.proofs.lemmas.Bool.Decides.{nat_tests}
use Rattle.values.specs.declared.key.Point.{Point}
use Rattle.values.specs.declared.refusal.Refusal.{Refusal}
use Rattle.values.specs.Event.{Event}
use Rattle.values.specs.Events.{event_of, events_of}
use Rattle.values.specs.Log.{Log, Net, Row, Changes, point_cmp, add_net, changes, last, last_from}
use Rattle.values.specs.Period.{periods_of}
use Rattle.values.specs.Commits.{outcome, after, log_after}
use Rattle.values.proofs.CommitsAbove.{outcome_above}
use Rattle.values.proofs.OrderTotal.{point_cmp-IsAntisymmetric}
use Rattle.values.proofs.LogPush.{add_all-push}
use Rattle.growlog.specs.Origin.{Origin}
use Rattle.validation.specs.treenodes.LeafCopy.{until}
use Rattle.validation.specs.tsbtree.View.{TreeState, events, last as view_last}
use Rattle.journal.specs.declared.entry.Entry.{Entry}
use Rattle.journal.specs.declared.entry.Entry.TheVariants.{Begin, Commit, Split, Install}
use Rattle.journal.specs.Entries.{Entries, entry_at, start_of, log}
use Rattle.journal.specs.Legal.{IsLegal}

-- ---- a change after an instant is none until it

late_insert : (t : ℕ) (m : Changes) (p : Point) (v : Option Row) → nat_le p.instant t ≡ false → until t (events_of (insert_entry point_cmp m p v)) ≡ until t (events_of m)
late_insert t [] p v is = ap (λ b. cond b (event_of (p, v) ∷ []) []) is
late_insert t (c ∷ cs) p v is = by (point_cmp p c.0) refl (late_insert t cs p v is)
  where
    same : point_cmp p c.0 ≡ Equal → nat_le c.0.instant t ≡ false
    same e = ap (λ (q : Point). nat_le q.instant t) (sym (point_cmp-IsAntisymmetric p c.0 e)) ∙ is

    by : (o : Ordering) → point_cmp p c.0 ≡ o → until t (events_of (insert_entry point_cmp cs p v)) ≡ until t (events_of cs)
        → until t (events_of (match_ordering o ((p, v) ∷ c ∷ cs) ((c.0, v) ∷ cs) (c ∷ insert_entry point_cmp cs p v))) ≡ until t (events_of (c ∷ cs))
    by Less e rest = ap (λ b. cond b (event_of (p, v) ∷ until t (events_of (c ∷ cs))) (until t (events_of (c ∷ cs)))) is
    by Equal e rest = ap (λ b. cond b (event_of (c.0, v) ∷ until t (events_of cs)) (until t (events_of cs))) (same e) ∙ sym (ap (λ b. cond b (event_of c ∷ until t (events_of cs)) (until t (events_of cs))) (same e))
    by Greater e rest = ap (λ l. cond (nat_le c.0.instant t) (event_of c ∷ l) l) rest

late_net : (net : Net) (t i : ℕ) (m : Changes) → nat_le i t ≡ false → until t (events_of (add_net i m net)) ≡ until t (events_of m)
late_net [] t i m is = refl
late_net (c ∷ net) t i m is =
    late_net net t i (insert_entry point_cmp m (record { key = c.0; instant = i }) c.1) is ∙ late_insert t m (record { key = c.0; instant = i }) c.1 is

-- ---- all events until an instant that none is after

all_until : (t : ℕ) (es : List Event) → All (λ e. e.at ≤ t) es → until t es ≡ es
all_until t [] h = refl
all_until t (e ∷ es) h =
    ap (λ b. cond b (e ∷ until t es) (until t es)) (le-leb e.at t (h 0 e (omega arith)))
    ∙ ap (λ l. e ∷ l) (all_until t es (λ k d less. h (suc k) d (omega (arith, less))))

-- ---- what a view shows stays

record Shows (view : TreeState) (l : Log) : Type 0 where
  same : events view ≡ until (view_last view) (events_of (changes l))
  below : view_last view ≤ last l

last_push : (n : ℕ) (l : Log) (t : ℕ) (net : Net) → last_from n (l ++ record { instant = t; net = net } ∷ []) ≡ t
last_push n [] t net = refl
last_push n (u ∷ l) t net = last_push u.instant l t net

stays_after : (view : TreeState) (l : Log) (net : Net) (end : Result (Option ℕ) Refusal) → ((i : ℕ) → end ≡ Ok (Some i) → last l < i) → Shows view l → Shows view (log_after l net end)
stays_after view l net (Ok (Some i)) above h =
    let more : last l < i = above i refl in
    let low : view_last view ≤ last l = h.below in
    let is : nat_le i (view_last view) ≡ false = (let lt : view_last view < i = omega arith in grind (arith, nat_tests)) in
    record {
      same = h.same ∙ sym (ap (λ m. until (view_last view) (events_of m)) (add_all-push l [] (record { instant = i; net = net })) ∙ late_net net (view_last view) i (changes l) is);
      below = (let at = last_push 0 l i net in omega arith);
    }
stays_after view l net (Ok None) above h = h
stays_after view l net (Err e) above h = h

module _ (o : Origin) (view : TreeState) where
  stays : (j : Entries) (e : Entry) → Shows view (log o j) → Shows view (log o (e ∷ j))
  stays j (Begin session earlier seen) h = h
  stays j (Commit session begin net reading end) h = by (start_of (entry_at j begin))
    where
      by : (s : Option ℕ) → Shows view (elim s [ None ↦ log o j | Some start ↦ after (periods_of o.schema) (log o j) start net reading ])
      by None = h
      by (Some start) =
          stays_after view (log o j) net (outcome (periods_of o.schema) (changes (log o j)) (last (log o j)) start net reading)
          (λ i is. outcome_above (periods_of o.schema) (changes (log o j)) (last (log o j)) start net reading i is) h
  stays j (Split cut done) h = h
  stays j (Install rect block done) h = h

  shown : (j : Entries) (number session earlier : ℕ) → IsLegal o j → All (λ e. e.at ≤ view_last view) (events view) → entry_at j number ≡ Some (Begin session earlier view) → Shows view (log o j)
  shown [] number session earlier legal upto there = cc
  shown (e ∷ j) number session earlier legal upto there = by (shown j number session earlier legal.1 upto) (number == length (e ∷ j)) there
    where
      by : (entry_at j number ≡ Some (Begin session earlier view) → Shows view (log o j)) → (b : Bool) → (if b then Some e else entry_at j number) ≡ Some (Begin session earlier view) → Shows view (log o (e ∷ j))
      by rest true is = begins e (cc is) legal
        where
          begins : (e : Entry) → e ≡ Begin session earlier view → IsLegal o (e ∷ j) → Shows view (log o (e ∷ j))
          begins e is = subst (λ e. IsLegal o (e ∷ j) → Shows view (log o (e ∷ j))) (sym is) (λ legal. record {
            same = sym (all_until (view_last view) (events view) upto) ∙ ap (until (view_last view)) legal.0.sees.events_are;
            below = (let at = legal.0.sees.last_is in omega arith);
          })
      by rest false is = stays j e (rest is)

-- what a begin saw are the events until its last instant
pub begins_saw : (o : Origin) (j : Entries) (view : TreeState) (number session earlier : ℕ) → IsLegal o j → All (λ e. e.at ≤ view_last view) (events view) → entry_at j number ≡ Some (Begin session earlier view)
    → events view ≡ until (view_last view) (events_of (changes (log o j)))
begins_saw o j view number session earlier legal upto there = (shown o view j number session earlier legal upto there).same
