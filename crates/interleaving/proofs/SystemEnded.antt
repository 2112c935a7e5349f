-- A commit is the turn's: its net changes are those that contracts see, and what it leaves is a system's.
use Rattle.std.proofs.Common.{◌≡◌, ◌≢◌, ℕ, ◌≤◌, ◌<◌, List, [], ◌∷◌, Option, Some, None, Bool, true, false, T, cond, refl, sym, ap, ◌∙◌, subst, map, filter, nat_le, ◌||◌, ◌&&◌, is_some, arith, set, Result, Ok, Err, IfOk, IfSome, IfNone, OnErr, All}
use Rattle.std.proofs.lemmas.Bool.Decides.{nat_tests}
use Rattle.std.proofs.lemmas.List.{map-set}
use Rattle.std.proofs.lemmas.List.Elements.{All-from_recursion, recursion_from_All}
use Rattle.std.specs.FinMap.{is_sorted}
use Rattle.std.specs.List.{AllByRecursion}
use Rattle.std.specs.Map.{keys_of}
use Rattle.std.specs.Option.{option_map, option_flatten}
use Rattle.values.specs.Event.{Event}
use Rattle.values.specs.declared.key.Key.{Key}
use Rattle.values.specs.declared.key.Point.{Point}
use Rattle.values.specs.declared.refusal.Refusal.{Refusal}
use Rattle.values.specs.declared.refusal.Refusal.TheVariants.{NoTransaction, Memory}
use Rattle.values.specs.Order.{is_key}
use Rattle.values.specs.Tables.{Schema}
use Rattle.values.specs.Log.{Changes, Net, Row, point_cmp, row_at, add_net}
use Rattle.values.specs.RowsAfter.{rows_after}
use Rattle.values.specs.Law.{changes_upto}
use Rattle.values.specs.Period.{periods_of}
use Rattle.values.specs.Commits.{outcome}
use Rattle.values.specs.Events.{later, AreKeysIn, put_net}
use Rattle.values.proofs.OrderTotal.{point_cmp_total}
use Rattle.values.proofs.LogMaps.{insert_entry-put, sorted_insert}
use Rattle.values.proofs.LogLatest.{Upto, latest, point}
use Rattle.values.proofs.OrderSorted.{sorted_from}
use Rattle.values.proofs.LogUpto.{late_put}
use Rattle.eventlist.proofs.PutPlaced.{all_put}
use Rattle.tsbtree.specs.View.{TreeState, events, last}
use Rattle.staging.specs.View.{Holds, Adds}
use Rattle.staging.specs.Own.{rows_seen, net_over}
use Rattle.transaction.specs.OpenTransactionState.{OpenTransactionState}
use Rattle.steps.specs.declared.step.Reply.{Reply}
use Rattle.steps.specs.declared.step.Reply.TheVariants.{Committed as Commits, Refused}
use Rattle.histories.specs.World.{OpenTransaction, World}
use Rattle.histories.specs.Turn.{Turn, put, last_until, was_there, net_in, after_commit, end_turn, commit_turn}
use Rattle.steps.specs.Reply.{is_out_of_memory}
use Rattle.histories.proofs.HistoryNow.{row_after, flat, value, last_value, there}
use Rattle.interleaving.specs.SystemState.{changes_in, open_of, world_of, IsOpen, IsSystem}
use Rattle.interleaving.proofs.SystemKeeps.{changes_again, session_is, put_is}
use Rattle.interleaving.proofs.SystemWritten.{IsFound}

-- ---- what was there at a transaction's start

none_later : (x : Option (ℕ × Option Row)) → x ≡ later x None
none_later None = refl
none_later (Some v) = refl

never : (b : Bool) → (b && false) ≡ false
never true = refl
never false = refl

until_by : (c : Point × Option Row) (cs : Changes) (t : ℕ) (q : Key) (b : Bool) → nat_le c.0.instant t ≡ b → last_until (changes_upto cs t) t q ≡ last_until cs t q
    → last_until (cond b (c ∷ changes_upto cs t) (changes_upto cs t)) t q ≡ later (last_until cs t q) (cond (is_key q c.0.key && b) (Some (c.0.instant, c.1)) None)
until_by c cs t q true is rest = (λ i. later (rest i) (cond (is_key q c.0.key && is i) (Some (c.0.instant, c.1)) None))
until_by c cs t q false is rest = rest ∙ none_later (last_until cs t q) ∙ sym (ap (λ b. later (last_until cs t q) (cond b (Some (c.0.instant, c.1)) None)) (never (is_key q c.0.key)))

until_upto : (m : Changes) (t : ℕ) (q : Key) → last_until (changes_upto m t) t q ≡ last_until m t q
until_upto [] t q = refl
until_upto (c ∷ cs) t q = until_by c cs t q (nat_le c.0.instant t) refl (until_upto cs t q)

early_by : (c : Point × Option Row) (m : Changes) (t : ℕ) (b : Bool) → nat_le c.0.instant t ≡ b → Upto t m → Upto t (cond b (c ∷ m) m)
early_by c m t true is rest = (grind (arith, nat_tests), rest)
early_by c m t false is rest = rest

all_early : (m : Changes) (t : ℕ) → Upto t (changes_upto m t)
all_early [] t = tt
all_early (c ∷ cs) t = early_by c (changes_upto cs t) t (nat_le c.0.instant t) refl (all_early cs t)

there_is : (m : Changes) (t : ℕ) (q : Key) → is_some (row_at (rows_after [] (changes_upto m t)) q) ≡ was_there m t q
there_is m t q =
    ap is_some (row_after (changes_upto m t) [] t q (all_early m t) tt ∙ flat (latest (changes_upto m t) t q) ∙ ap option_flatten (last_value (changes_upto m t) t q) ∙ ap (λ x. option_flatten (value x)) (until_upto m t q))
    ∙ sym (there (last_until m t q))

-- what is committed is what the turn commits
pub net_is : (schema : Schema) (m : Changes) (b : OpenTransactionState) → changes_in schema (events b.view) ≡ changes_upto m (last b.view) → net_over (changes_in schema (events b.view)) b.writes ≡ net_in m (open_of schema b)
net_is schema m b part =
    (λ i. filter (λ c. is_some c.1 || is_some (row_at (rows_after [] (part i)) c.0)) (map (λ k. (k, row_at (rows_seen (changes_in schema (events b.view)) b.writes) k)) (keys_of b.writes)))
    ∙ (λ i. filter (λ c. is_some c.1 || there_is m (last b.view) c.0 i) (map (λ k. (k, row_at (rows_seen (changes_in schema (events b.view)) b.writes) k)) (keys_of b.writes)))

-- ---- what a commit adds

-- what is added later is not seen
late_net : (net : Net) (t i : ℕ) (m : Changes) → nat_le i t ≡ false → T (is_sorted point_cmp m) → changes_upto (add_net i m net) t ≡ changes_upto m t
late_net [] t i m is h = refl
late_net (c ∷ net) t i m is h =
    late_net net t i _ is (sorted_insert point_cmp_total m (point c.0 i) c.1 h)
    ∙ ap (λ m. changes_upto m t) (insert_entry-put point_cmp m (point c.0 i) c.1) ∙ late_put t m (point c.0 i) c.1 h is

upto_net : (instant : ℕ) (net : Net) (es : List Event) → AllByRecursion (λ e. e.at ≤ instant) es → AllByRecursion (λ e. e.at ≤ instant) (put_net instant net es)
upto_net instant [] es h = h
upto_net instant (c ∷ net) es h = upto_net instant net _ (all_put (λ e. e.at ≤ instant) _ es (omega arith) h)

more_upto : (n t : ℕ) (es : List Event) → n ≤ t → AllByRecursion (λ e. e.at ≤ n) es → AllByRecursion (λ e. e.at ≤ t) es
more_upto n t [] le h = tt
more_upto n t (e ∷ es) le h = (let first : e.at ≤ n = h.0 in omega arith, more_upto n t es le h.1)

module _ (schema : Schema) (engine new : TreeState) (held : Holds schema engine (changes_in schema (events engine))) (net : Net) (instant : ℕ)
    (adds : Adds instant net engine new) (holds : Holds schema new (add_net instant (changes_in schema (events engine)) net)) where
  abbrev old : Changes
  old = changes_in schema (events engine)

  added_changes : changes_in schema (events new) ≡ add_net instant old net
  added_changes = ap (changes_in schema) holds.events_are ∙ changes_again schema (add_net instant old net) holds.keys

  added_holds : Holds schema new (changes_in schema (events new))
  added_holds = subst (Holds schema new) (sym added_changes) holds

  -- an open transaction sees what it saw
  added_begun : last engine < instant → (o : Option OpenTransactionState) → IsOpen schema engine o → IsOpen schema new o
  added_begun late None h = h
  added_begun late (Some b) h = record {
    early = subst (λ n. last b.view ≤ n) (sym adds.last_is) (let early : last b.view ≤ last engine = h.early in omega arith);
    held = h.held;
    part = h.part ∙ sym (ap (λ m. changes_upto m (last b.view)) added_changes
        ∙ late_net net (last b.view) instant old (let early : last b.view ≤ last engine = h.early in grind (arith, nat_tests)) (sorted_from point_cmp old held.in_order));
    keys = h.keys;
  }

all_open : (schema : Schema) (engine new : TreeState) (sessions : List (Option OpenTransactionState)) → ((o : Option OpenTransactionState) → IsOpen schema engine o → IsOpen schema new o) → AllByRecursion (IsOpen schema engine) sessions → AllByRecursion (IsOpen schema new) sessions
all_open schema engine new [] f h = tt
all_open schema engine new (o ∷ sessions) f h = (f o h.0, all_open schema engine new sessions f h.1)

-- ---- how a transaction ends

-- what the engine is left as, where a commit answers so
pub record IsEnded (engine new : TreeState) (net : Net) (r : Result (Option ℕ) Refusal) : Type 0 where
  pub committed : IfOk r (λ end. IfSome end (λ instant. Adds instant net engine new))
  pub holds : IfOk r (λ end. IfSome end (λ instant. (schema : Schema) (m : Changes) → Holds schema engine m → AreKeysIn schema net → Holds schema new (add_net instant m net)))
  pub late : IfOk r (λ end. IfSome end (λ instant. last engine < instant))
  pub nothing : IfOk r (λ end. IfNone end (new ≡ engine))
  pub refused : OnErr r (new ≡ engine)

module _ (schema : Schema) (engine new : TreeState) (sessions : List (Option OpenTransactionState)) (net : Net) (keys : AreKeysIn schema net) (s : IsSystem schema engine sessions) where
  ended_none : new ≡ engine → IsSystem schema new sessions
  ended_none is = subst (λ e. IsSystem schema e sessions) (sym is) s

  late_events : (instant : ℕ) → last engine < instant → Adds instant net engine new → All (λ e. e.at ≤ last new) (events new)
  late_events instant late adds =
      subst (λ (es : List Event). All (λ e. e.at ≤ last new) es) (sym adds.events_are)
      (subst (λ n. All (λ (e : Event). e.at ≤ n) (put_net instant net (events engine))) (sym adds.last_is)
      (All-from_recursion (λ (e : Event). e.at ≤ instant) (put_net instant net (events engine))
      (upto_net instant net (events engine) (more_upto (last engine) instant (events engine) (omega arith) (recursion_from_All (λ (e : Event). e.at ≤ last engine) (events engine) s.upto)))))

  ended_added : (instant : ℕ) → last engine < instant → Adds instant net engine new → Holds schema new (add_net instant (changes_in schema (events engine)) net) → IsSystem schema new sessions
  ended_added instant late adds holds = record {
    wide = s.wide;
    held = added_holds schema engine new s.held net instant adds holds;
    upto = late_events instant late adds;
    each_open = All-from_recursion (IsOpen schema new) sessions
        (all_open schema engine new sessions (added_begun schema engine new s.held net instant adds holds late) (recursion_from_All (IsOpen schema engine) sessions s.each_open));
  }

  -- the system is one still
  pub ended_is : (r : Result (Option ℕ) Refusal) → IsEnded engine new net r → IsSystem schema new sessions
  ended_is (Ok (Some instant)) e = ended_added instant e.late e.committed (e.holds schema (changes_in schema (events engine)) s.held keys)
  ended_is (Ok None) e = ended_none e.nothing
  ended_is (Err refusal) e = ended_none e.refused

abbrev pub end_reply : Result (Option ℕ) Refusal → Reply
end_reply (Ok instant) = Commits instant
end_reply (Err refusal) = Refused refusal

module _ (schema : Schema) (engine new : TreeState) (sessions : List (Option OpenTransactionState)) (net : Net) (keys : AreKeysIn schema net) (held : Holds schema engine (changes_in schema (events engine))) (i : ℕ) where
  abbrev closed : List (Option OpenTransactionState)
  closed = set sessions i None

  left_none : new ≡ engine → world_of schema new closed ≡ put (world_of schema engine sessions) i None
  left_none is = ap (λ e. world_of schema e closed) is ∙ put_is schema engine sessions i None

  left_added : (instant : ℕ) → Adds instant net engine new → Holds schema new (add_net instant (changes_in schema (events engine)) net)
      → world_of schema new closed ≡ put (after_commit instant net (world_of schema engine sessions)) i None
  left_added instant adds holds =
      λ j. record { schema = schema; changes = added_changes schema engine new held net instant adds holds j; latest = adds.last_is j; sessions = map-set (option_map (open_of schema)) sessions i None j }

  ended_turn : (r : Result (Option ℕ) Refusal) → IsEnded engine new net r → ◌≡◌ {A = Turn} (end_reply r, world_of schema new closed) (end_turn (world_of schema engine sessions) i net r)
  ended_turn (Ok (Some instant)) e = λ j. (Commits (Some instant), left_added instant e.committed (e.holds schema (changes_in schema (events engine)) held keys) j)
  ended_turn (Ok None) e = λ j. (Commits None, left_none e.nothing j)
  ended_turn (Err refusal) e = λ j. (Refused refusal, left_none e.refused j)

abbrev by_commit : World → ℕ → ℕ → Option OpenTransaction → Turn
by_commit w i reading o = elim o [ None ↦ (Refused NoTransaction, w) | Some s ↦ end_turn w i (net_in w.changes s) (outcome (periods_of w.schema) w.changes w.latest s.start (net_in w.changes s) reading) ]

pub committed : (schema : Schema) (engine new : TreeState) (sessions : List (Option OpenTransactionState)) (w : World) (i start reading : ℕ) (b : OpenTransactionState) (net : Net) (r : Result (Option ℕ) Refusal)
    → world_of schema engine sessions ≡ w → IsSystem schema engine sessions → IsFound schema engine sessions i b → start ≡ (last b.view)
    → ((schema : Schema) (m : Changes) → Holds schema b.view m → AreKeysIn schema b.writes → net ≡ net_over m b.writes) → AreKeysIn schema net
    → ((m : Changes) → Holds schema engine m → AreKeysIn schema net → r ≢ Err Memory → r ≡ outcome (periods_of schema) m (last engine) start net reading)
    → IsEnded engine new net r → r ≢ Err Memory
    → ◌≡◌ {A = Turn} (end_reply r, world_of schema new (set sessions i None)) (commit_turn w i reading)
committed schema engine new sessions w i start reading b net r is s f begins nets keys ends e told =
    let m : Changes = changes_in schema (events engine) in
    ended_turn schema engine new sessions net keys s.held i r e
    ∙ (λ j. end_turn (world_of schema engine sessions) i net ((ends (changes_in schema (events engine)) s.held keys told ∙ (λ k. outcome (periods_of schema) (changes_in schema (events engine)) (last engine) (begins k) net reading)) j))
    ∙ (λ j. end_turn (world_of schema engine sessions) i (same j) (outcome (periods_of schema) (changes_in schema (events engine)) (last engine) (last b.view) (same j) reading))
    ∙ (λ j. by_commit (world_of schema engine sessions) i reading (option_map (open_of schema) (f.at j)))
    ∙ (λ j. by_commit (world_of schema engine sessions) i reading (sym (session_is schema engine sessions i) j))
    ∙ ap (λ w. commit_turn w i reading) is
  where
    same : net ≡ net_in (changes_in schema (events engine)) (open_of schema b)
    same = nets schema (changes_in schema (events b.view)) f.begun.held f.begun.keys ∙ net_is schema (changes_in schema (events engine)) b f.begun.part

pub not_want : (r : Result (Option ℕ) Refusal) → is_out_of_memory (end_reply r) ≡ false → r ≢ Err Memory
not_want r h e = cc (sym h ∙ ap (λ r. is_out_of_memory (end_reply r)) e)
