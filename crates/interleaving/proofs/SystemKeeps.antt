-- What a system keeps is what contracts see of it: events are read back as their changes, and sessions one by one.
use Rattle.std.proofs.Common.{◌≡◌, ℕ, ◌≤◌, List, [], ◌∷◌, Option, Some, None, true, false, refl, sym, ap, ◌∙◌, subst, cond, length, is_some, All, arith, get_or, set, replicate}
use Rattle.std.proofs.lemmas.Bool.Decides.{nat_tests}
use Rattle.std.proofs.lemmas.List.Elements.{All-head, All-tail, All-nil, All-set, All-get_or, All-replicate}
use Rattle.std.proofs.lemmas.List.{get_or_read_under, length-set, map-set, length-replicate, get_or-replicate, length-map}
use Rattle.std.proofs.Math.ListN.{get_or-map}
use Rattle.std.specs.List.{cons_option}
use Rattle.std.specs.Option.{option_map, option_and_then}
use Rattle.std.specs.Map.{keys_of}
use Rattle.std.specs.List.Sorted.{IsStrictlySortedBy}
use Rattle.values.specs.Event.{Event}
use Rattle.values.specs.declared.key.Key.{Key}
use Rattle.values.specs.declared.key.Point.{Point}
use Rattle.values.specs.declared.table.Table.{Table}
use Rattle.values.specs.declared.refusal.Refusal.TheVariants.{InTransaction, NoTransaction}
use Rattle.values.specs.Tables.{Schema, table_at}
use Rattle.values.specs.Log.{Changes, Row}
use Rattle.values.specs.Law.{changes_upto}
use Rattle.values.specs.KeyEncoding.{bytes_of_key}
use Rattle.values.specs.KeyReading.{key_from}
use Rattle.values.specs.Events.{events_of, event_of, IsKeyOfAny, IsKeyIn, AreChangesIn}
use Rattle.values.proofs.KeyReads.{key_back}
use Rattle.tsbtree.specs.View.{TreeState, events, last, IsEmpty}
use Rattle.eventlist.proofs.PlaceOrder.{sorted_none}
use Rattle.values.specs.Log.{point_cmp}
use Rattle.steps.specs.declared.step.Reply.TheVariants.{Begun as Begins, RolledBack, Refused}
use Rattle.histories.specs.World.{OpenTransaction, World}
use Rattle.histories.specs.Turn.{Turn, put, opened_now, begin_turn, rollback_turn}
use Rattle.histories.specs.Stands.{Stands as WorldStands, open_at}
use Rattle.transaction.specs.OpenTransactionState.{OpenTransactionState}
use Rattle.interleaving.specs.SystemState.{change_in, changes_in, open_of, world_of, IsOpenIn, IsOpen, IsSystem}

-- ---- events are read back

key_again : (o : Option Table) (k : Key) → IsKeyOfAny o k → option_and_then (λ table. key_from table (bytes_of_key k)) o ≡ Some k
key_again None k h = absurd h
key_again (Some table) k h = key_back table k h

module _ (schema : Schema) where
  change_again : (c : Point × Option Row) → IsKeyIn schema c.0.key → change_in schema (event_of c) ≡ Some c
  change_again c h = ap (option_map (λ key. (record { key = key; instant = c.0.instant }, c.1))) (key_again (table_at schema c.0.key.table) c.0.key h)

  pub changes_again : (m : Changes) → AreChangesIn schema m → changes_in schema (events_of m) ≡ m
  changes_again [] h = refl
  changes_again (c ∷ cs) h =
      ap (λ o. cons_option o (changes_in schema (events_of cs))) (change_again c (All-head (λ p. IsKeyIn schema p.key) c.0 (keys_of cs) h))
      ∙ ap (λ m. c ∷ m) (changes_again cs (All-tail (λ p. IsKeyIn schema p.key) c.0 (keys_of cs) h))

-- ---- sessions

pub session_is : (schema : Schema) (engine : TreeState) (sessions : List (Option OpenTransactionState)) (i : ℕ) → open_at (world_of schema engine sessions) i ≡ option_map (open_of schema) (get_or sessions i None)
session_is schema engine sessions i = get_or-map (option_map (open_of schema)) sessions i None

pub put_is : (schema : Schema) (engine : TreeState) (sessions : List (Option OpenTransactionState)) (i : ℕ) (o : Option OpenTransactionState)
    → world_of schema engine (set sessions i o) ≡ put (world_of schema engine sessions) i (option_map (open_of schema) o)
put_is schema engine sessions i o = ap (λ ss. record { schema = schema; changes = changes_in schema (events engine); latest = (last engine); sessions = ss }) (map-set (option_map (open_of schema)) sessions i o)

pub with_session : (schema : Schema) (engine : TreeState) (sessions : List (Option OpenTransactionState)) (i : ℕ) (o : Option OpenTransactionState) → IsOpen schema engine o → IsSystem schema engine sessions → IsSystem schema engine (set sessions i o)
with_session schema engine sessions i o h s = record {
  wide = length-set sessions i o ∙ s.wide;
  held = s.held;
  upto = s.upto;
  each_open = All-set (IsOpen schema engine) sessions i o h s.each_open;
}

pub begun_at : (schema : Schema) (engine : TreeState) (sessions : List (Option OpenTransactionState)) (i : ℕ) → i ≤ 64 → IsSystem schema engine sessions → IsOpen schema engine (get_or sessions i None)
begun_at schema engine sessions i small s = All-get_or (IsOpen schema engine) sessions i None (let wide : length sessions ≡ 65 = s.wide in omega arith) s.each_open

-- what a session has, read in place
pub place_is : (schema : Schema) (engine : TreeState) (sessions : List (Option OpenTransactionState)) (i : ℕ) (o : Option OpenTransactionState) → IsSystem schema engine sessions → i ≤ 64 → o ≡ get_or sessions i o → o ≡ get_or sessions i None
place_is schema engine sessions i o s small at = get_or_read_under sessions i 65 o None at (omega arith) (sym s.wide)

pub none_of : (o : Option OpenTransactionState) → is_some o ≡ false → o ≡ None
none_of None h = refl
none_of (Some b) h = cc

-- ---- a system in which nothing was committed

pub new_system : (schema : Schema) (engine : TreeState) (sessions : List (Option OpenTransactionState)) → IsEmpty engine → sessions ≡ replicate {A = Option OpenTransactionState} 65 None → IsSystem schema engine sessions
new_system schema engine sessions is none =
    subst (IsSystem schema engine) (sym none) (record {
      wide = length-replicate {A = Option OpenTransactionState} 65 None;
      held = record {
        events_are = is.no_event ∙ sym (ap (λ es. events_of (changes_in schema es)) is.no_event);
        keys = subst (λ es. AreChangesIn schema (changes_in schema es)) (sym is.no_event) (All-nil (λ (p : Point). IsKeyIn schema p.key));
        in_order = subst (λ es. IsStrictlySortedBy point_cmp (keys_of (changes_in schema es))) (sym is.no_event) (sorted_none point_cmp);
      };
      upto = subst (All (λ (e : Event). e.at ≤ last engine)) (sym is.no_event) (All-nil (λ (e : Event). e.at ≤ last engine));
      each_open = All-replicate (IsOpen schema engine) 65 None tt;
    })

pub new_stands : (schema : Schema) (engine : TreeState) (sessions : List (Option OpenTransactionState)) → IsEmpty engine → sessions ≡ replicate {A = Option OpenTransactionState} 65 None → WorldStands schema (world_of schema engine sessions) []
new_stands schema engine sessions is none =
    subst (λ ss. WorldStands schema (world_of schema engine ss) []) (sym none) (record {
      schema_is = refl;
      wide = length-map (replicate {A = Option OpenTransactionState} 65 None) (option_map (open_of schema)) ∙ length-replicate {A = Option OpenTransactionState} 65 None;
      changes_are = ap (changes_in schema) is.no_event;
      latest_is = is.no_commit;
      sessions_are = λ i small. session_is schema engine (replicate {A = Option OpenTransactionState} 65 None) i ∙ ap (option_map (open_of schema)) (get_or-replicate {A = Option OpenTransactionState} 65 i None None (omega arith));
    })

-- ---- BEGIN and ROLLBACK

abbrev by_begin : World → ℕ → Option OpenTransaction → Turn
by_begin w i (Some s) = (Refused InTransaction, w)
by_begin w i None = (Begins w.latest, put w i (Some (opened_now w)))

begun_by : (w : World) (i : ℕ) (o : Option OpenTransaction) → elim o [ Some s ↦ (Refused InTransaction, w) | None ↦ (Begins w.latest, put w i (Some (opened_now w))) ] ≡ by_begin w i o
begun_by w i (Some s) = refl
begun_by w i None = refl

-- a transaction that sees all and wrote nothing
pub began : (schema : Schema) (engine : TreeState) (sessions : List (Option OpenTransactionState)) (w : World) (i start : ℕ) (b : OpenTransactionState) → world_of schema engine sessions ≡ w → start ≡ (last b.view) → get_or sessions i None ≡ None → b.view ≡ engine → b.writes ≡ []
    → ◌≡◌ {A = Turn} (Begins start, world_of schema engine (set sessions i (Some b))) (begin_turn w i)
began schema engine sessions w i start b is starts at seen wrote =
    (λ j. (Begins (starts j), put_is schema engine sessions i (Some b) j))
    ∙ (λ j. (Begins (last (seen j)), put (world_of schema engine sessions) i (Some (open_of schema (record { view = seen j; writes = wrote j })))))
    ∙ sym (begun_by (world_of schema engine sessions) i (open_at (world_of schema engine sessions) i) ∙ ap (by_begin (world_of schema engine sessions) i) (session_is schema engine sessions i ∙ ap (option_map (open_of schema)) at))
    ∙ ap (λ w. begin_turn w i) is

abbrev by_rollback : World → ℕ → Option OpenTransaction → Turn
by_rollback w i None = (Refused NoTransaction, w)
by_rollback w i (Some s) = (RolledBack, put w i None)

rolled_by : (w : World) (i : ℕ) (o : Option OpenTransaction) → elim o [ None ↦ (Refused NoTransaction, w) | Some s ↦ (RolledBack, put w i None) ] ≡ by_rollback w i o
rolled_by w i (Some s) = refl
rolled_by w i None = refl

pub rolled : (schema : Schema) (engine : TreeState) (sessions : List (Option OpenTransactionState)) (w : World) (i : ℕ) → world_of schema engine sessions ≡ w → (o : Option OpenTransactionState) → o ≡ get_or sessions i None → is_some o ≡ true
    → ◌≡◌ {A = Turn} (RolledBack, world_of schema engine (set sessions i None)) (rollback_turn w i)
rolled schema engine sessions w i is o at some =
    (λ j. (RolledBack, put_is schema engine sessions i None j))
    ∙ there o some
    ∙ sym (rolled_by (world_of schema engine sessions) i (open_at (world_of schema engine sessions) i) ∙ ap (by_rollback (world_of schema engine sessions) i) (session_is schema engine sessions i ∙ ap (option_map (open_of schema)) (sym at)))
    ∙ ap (λ w. rollback_turn w i) is
  where
    there : (o : Option OpenTransactionState) → is_some o ≡ true → ◌≡◌ {A = Turn} (RolledBack, put (world_of schema engine sessions) i None) (by_rollback (world_of schema engine sessions) i (option_map (open_of schema) o))
    there (Some b) h = refl
    there None h = cc

-- none of the changes is later
all_upto : (m : Changes) (last : ℕ) → All (λ e. e.at ≤ last) (events_of m) → changes_upto m last ≡ m
all_upto [] last h = refl
all_upto (c ∷ cs) last h =
    ap (λ b. cond b (c ∷ changes_upto cs last) (changes_upto cs last)) {y = true} (let le : c.0.instant ≤ last = All-head (λ (e : Event). e.at ≤ last) (event_of c) (events_of cs) h in grind (arith, nat_tests))
    ∙ ap (λ m. c ∷ m) (all_upto cs last (All-tail (λ (e : Event). e.at ≤ last) (event_of c) (events_of cs) h))

pub upto_now : (schema : Schema) (engine : TreeState) (sessions : List (Option OpenTransactionState)) → IsSystem schema engine sessions → changes_upto (changes_in schema (events engine)) (last engine) ≡ changes_in schema (events engine)
upto_now schema engine sessions s = all_upto (changes_in schema (events engine)) (last engine) (subst (All (λ (e : Event). e.at ≤ (last engine))) s.held.events_are s.upto)

-- a transaction that begins is one of the system's
pub began_is : (schema : Schema) (engine : TreeState) (sessions : List (Option OpenTransactionState)) (b : OpenTransactionState) → IsSystem schema engine sessions → b.view ≡ engine → b.writes ≡ [] → IsOpenIn schema engine b
began_is schema engine sessions b s seen wrote =
    subst (IsOpenIn schema engine) (sym (λ j. record { view = seen j; writes = wrote j })) (record {
      early = omega arith;
      held = s.held;
      part = sym (upto_now schema engine sessions s);
      keys = All-nil (IsKeyIn schema);
    })
