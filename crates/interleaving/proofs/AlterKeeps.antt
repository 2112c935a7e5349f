-- A column that is added leaves what was committed, and is the turn's.
use Rattle.std.proofs.Common.{◌≡◌, ℕ, ◌<◌, Bool, true, false, List, [], ◌∷◌, Option, Some, None, refl, sym, ap, subst, ◌∙◌, map, All, arith, nat_lt, get_or}
use Rattle.std.specs.Prelude.{IfSome, is_none, is_some, length, ◌||◌, not, if◌then◌else◌}
use Rattle.std.specs.List.{list_all}
use Rattle.std.specs.Map.{keys_of}
use Rattle.std.specs.Option.{option_map}
use Rattle.std.proofs.lemmas.Bool.Decides.{nat_tests}
use Rattle.std.proofs.lemmas.List.Elements.{All-head, All-tail, All-cons, All-nil}
use Rattle.values.specs.declared.key.Point.{Point}
use Rattle.values.specs.declared.table.Column.{Column}
use Rattle.values.specs.declared.table.ColumnType.{ColumnType}
use Rattle.values.specs.declared.table.Table.{Table}
use Rattle.values.specs.declared.refusal.Refusal.{Refusal}
use Rattle.values.specs.declared.refusal.Refusal.TheVariants.{NoSession, NoTable, TransactionsOpen, Memory}
use Rattle.values.specs.Columns.{add_column, addition_fault, is_good_type, is_name_of, new_column}
use Rattle.values.specs.Events.{IsKeyIn}
use Rattle.values.specs.Faults.{bad_row}
use Rattle.values.specs.Tables.{Schema, table_at, widest}
use Rattle.values.proofs.ColumnsKeys.{key_in_more}
use Rattle.tsbtree.specs.View.{TreeState, events, last}
use Rattle.staging.specs.View.{Holds}
use Rattle.transaction.specs.OpenTransactionState.{OpenTransactionState}
use Rattle.steps.specs.Idle.{is_idle}
use Rattle.steps.specs.Misfit.{max_session, misfit, misfit_of}
use Rattle.steps.specs.Reply.{is_out_of_memory, takes_no_memory_by}
use Rattle.steps.specs.declared.step.Step.{Step}
use Rattle.steps.specs.declared.step.Step.TheVariants.{AddColumn}
use Rattle.steps.specs.declared.step.Reply.{Reply}
use Rattle.steps.specs.declared.step.Reply.TheVariants.{Altered, Refused}
use Rattle.steps.proofs.MisfitKeys.{no_fault}
use Rattle.histories.specs.WorldMemory.{takes_no_memory}
use Rattle.histories.specs.Stands.{is_open_at}
use Rattle.histories.specs.Turn.{Turn, alter_turn, with_schema}
use Rattle.histories.specs.World.{World}
use Rattle.interleaving.specs.SystemState.{changes_in, open_of, world_of, IsOpen, IsSystem}
use Rattle.interleaving.proofs.AlterIdle.{all_none}
use Rattle.interleaving.proofs.SystemKeeps.{changes_again, session_is}

-- ---- a table that a step fits

-- the table has no fault
pub fits_column : (schema : Schema) (i number : ℕ) (fault : Table → Option ℕ) → misfit_of schema i number (λ t. bad_row (fault t)) ≡ None → IfSome (table_at schema number) (λ t. fault t ≡ None)
fits_column schema i number fault fits = by (nat_lt max_session i) (table_at schema number) fits
  where
    by : (b : Bool) (o : Option Table) → ◌≡◌ {A = Option Refusal} (if b then Some NoSession else elim o [ None ↦ Some NoTable | Some table ↦ bad_row (fault table) ]) None → IfSome o (λ t. fault t ≡ None)
    by true o h = cc
    by false None h = tt
    by false (Some t) h = no_fault (fault t) h

has_room : (name : List ℕ) (of : ColumnType) (t : Table) → addition_fault name of t ≡ None → length t.columns < widest
has_room name of t fits = by (is_name_of t name) (nat_lt (length t.columns) widest) refl fits
  where
    by : (taken room : Bool) → nat_lt (length t.columns) widest ≡ room → ◌≡◌ {A = Option ℕ} (if taken || (not room || not (is_good_type of)) then Some 0 else None) None → length t.columns < widest
    by true room is h = cc
    by false false is h = cc
    by false true is h = grind (arith, nat_tests)

pub room : (o : Option Table) (name : List ℕ) (of : ColumnType) → IfSome o (λ t. addition_fault name of t ≡ None) → IfSome o (λ t. length t.columns < widest)
room None name of h = tt
room (Some t) name of h = has_room name of t h

-- ---- whether a transaction is open

pub idle_is : (schema : Schema) (engine : TreeState) (sessions : List (Option OpenTransactionState)) → IsSystem schema engine sessions → is_idle (is_open_at (world_of schema engine sessions)) ≡ list_all is_none sessions
idle_is schema engine sessions s =
    (λ k. is_idle (λ i. is_some (session_is schema engine sessions i k)))
    ∙ (λ k. is_idle (λ i. mapped (get_or sessions i None) k))
    ∙ sym (all_none sessions max_session s.wide)
  where
    mapped : (o : Option OpenTransactionState) → is_some (option_map (open_of schema) o) ≡ is_some o
    mapped None = refl
    mapped (Some b) = refl

absent : false ≡ true → ⊥
absent e = cc e

-- both are said of one list
pub never_busy : (schema : Schema) (engine : TreeState) (sessions : List (Option OpenTransactionState)) (w : World) → world_of schema engine sessions ≡ w → IsSystem schema engine sessions
    → list_all is_none sessions ≡ true → is_idle (is_open_at w) ≡ false → ⊥
never_busy schema engine sessions w is s idle busy =
    absent (sym busy ∙ sym (ap (λ w. is_idle (is_open_at w)) is) ∙ idle_is schema engine sessions s ∙ idle)

pub never_out : (r : Reply) → r ≡ Refused Memory → is_out_of_memory r ≡ false → ⊥
never_out r is told = absent (sym told ∙ ap is_out_of_memory is)

negated : (b : Bool) → not b ≡ true → b ≡ false
negated true e = cc
negated false e = refl

-- a step that adds a column, fits and takes no memory finds a transaction open
pub busy_by : (w : World) (step : Step) (i number : ℕ) (name : List ℕ) (of : ColumnType) → step ≡ AddColumn i number name of → misfit w.schema step ≡ None → takes_no_memory w step ≡ true → is_idle (is_open_at w) ≡ false
busy_by w step i number name of is fits takes =
    negated (is_idle (is_open_at w)) (sym (λ k. is_some (fits k) || takes_no_memory_by (is_open_at w) (is k)) ∙ takes)

-- ---- what stays

module _ (schema : Schema) (engine : TreeState) (sessions : List (Option OpenTransactionState)) (number : ℕ) (c : Column) where
  abbrev wider : Schema
  wider = add_column number c schema

  points_stay : (ps : List Point) → All (λ p. IsKeyIn schema p.key) ps → All (λ p. IsKeyIn wider p.key) ps
  points_stay [] h = All-nil (λ (p : Point). IsKeyIn wider p.key)
  points_stay (p ∷ ps) h =
      All-cons (λ (p : Point). IsKeyIn wider p.key) p ps (key_in_more schema number c p.key (All-head (λ (p : Point). IsKeyIn schema p.key) p ps h))
      (points_stay ps (All-tail (λ (p : Point). IsKeyIn schema p.key) p ps h))

  changes_stay : Holds schema engine (changes_in schema (events engine)) → changes_in wider (events engine) ≡ changes_in schema (events engine)
  changes_stay held =
      ap (changes_in wider) held.events_are
      ∙ changes_again wider (changes_in schema (events engine)) (points_stay (keys_of (changes_in schema (events engine))) held.keys)

  -- with no transaction open
  none_open : (ss : List (Option OpenTransactionState)) → list_all is_none ss ≡ true → All (IsOpen wider engine) ss
  none_open [] idle = All-nil (IsOpen wider engine)
  none_open (None ∷ ss) idle = All-cons (IsOpen wider engine) None ss tt (none_open ss idle)
  none_open (Some b ∷ ss) idle = cc

  none_seen : (ss : List (Option OpenTransactionState)) → list_all is_none ss ≡ true → map (option_map (open_of wider)) ss ≡ map (option_map (open_of schema)) ss
  none_seen [] idle = refl
  none_seen (None ∷ ss) idle = ap (λ l. None ∷ l) (none_seen ss idle)
  none_seen (Some b ∷ ss) idle = cc

  pub system_stays : IsSystem schema engine sessions → list_all is_none sessions ≡ true → IsSystem wider engine sessions
  system_stays s idle = record {
    wide = s.wide;
    held = subst (Holds wider engine) (sym (changes_stay s.held)) (record {
      events_are = s.held.events_are;
      keys = points_stay (keys_of (changes_in schema (events engine))) s.held.keys;
      in_order = s.held.in_order;
    });
    upto = s.upto;
    each_open = none_open sessions idle;
  }

  world_stays : IsSystem schema engine sessions → list_all is_none sessions ≡ true → world_of wider engine sessions ≡ with_schema wider (world_of schema engine sessions)
  world_stays s idle = λ k. record {
    schema = wider;
    changes = changes_stay s.held k;
    latest = last engine;
    sessions = none_seen sessions idle k;
  }

-- ---- the turn

module _ (schema : Schema) (engine : TreeState) (sessions : List (Option OpenTransactionState)) (w : World) (number : ℕ) (name : List ℕ) (of : ColumnType) (is : world_of schema engine sessions ≡ w) (s : IsSystem schema engine sessions) where
  abbrev by_idle : World → Bool → Turn
  by_idle w idle = if idle then (Altered, with_schema (add_column number (new_column name of) w.schema) w) else (Refused TransactionsOpen, w)

  turn_is : (b : Bool) → list_all is_none sessions ≡ b → by_idle w b ≡ alter_turn w number name of
  turn_is b idle = ap (by_idle w) (sym idle ∙ sym (idle_is schema engine sessions s) ∙ ap (λ w. is_idle (is_open_at w)) is)

  pub altered_turn : (new : Schema) → new ≡ add_column number (new_column name of) schema → list_all is_none sessions ≡ true → ◌≡◌ {A = Turn} (Altered, world_of new engine sessions) (alter_turn w number name of)
  altered_turn new added idle =
      (λ k. (Altered, world_of (added k) engine sessions))
      ∙ (λ k. (Altered, world_stays schema engine sessions number (new_column name of) s idle k))
      ∙ (λ k. by_idle (is k) true)
      ∙ turn_is true idle

  pub busy_turn : list_all is_none sessions ≡ false → ◌≡◌ {A = Turn} (Refused TransactionsOpen, w) (alter_turn w number name of)
  busy_turn busy = turn_is false busy
