-- A write of an open transaction is the turn's: what its own writes make of it is what contracts see.
use Rattle.std.proofs.Common.{◌≡◌, ◌≢◌, ℕ, ◌≤◌, List, Option, Some, None, false, sym, ap, ◌∙◌, subst, get_or, set, Result, Err}
use Rattle.std.proofs.lemmas.List.{set-get_or}
use Rattle.std.specs.Option.{option_map}
use Rattle.values.specs.declared.table.Table.{Table}
use Rattle.values.specs.declared.write.Write.{Write}
use Rattle.values.specs.declared.refusal.Refusal.{Refusal}
use Rattle.values.specs.declared.refusal.Refusal.TheVariants.{NoTable, NoTransaction, Memory}
use Rattle.values.specs.Tables.{Schema, table_at}
use Rattle.values.specs.TableRules.{IsTable}
use Rattle.values.specs.Log.{Changes, Net}
use Rattle.values.specs.Fitting.{table_of, write_to}
use Rattle.values.specs.Writes.{Own, Written}
use Rattle.tsbtree.specs.View.{TreeState, events}
use Rattle.staging.specs.Own.{own, Reads, WhenRead}
use Rattle.transaction.specs.OpenTransactionState.{OpenTransactionState}
use Rattle.steps.specs.declared.step.Reply.{Reply}
use Rattle.steps.specs.declared.step.Reply.TheVariants.{Refused}
use Rattle.steps.specs.declared.step.Step.{Step}
use Rattle.steps.specs.Write.{write}
use Rattle.steps.specs.Reply.{written_reply}
use Rattle.histories.specs.World.{OpenTransaction, World}
use Rattle.histories.specs.Stands.{open_at}
use Rattle.histories.specs.Turn.{Turn, put, own_in, with_own, turn_in}
use Rattle.steps.specs.Reply.{is_out_of_memory}
use Rattle.steps.specs.StepOf.{step_of}
use Rattle.histories.proofs.TurnWritten.{turn_is}
use Rattle.steps.proofs.WriteStep.{write_is}
use Rattle.interleaving.specs.SystemState.{changes_in, open_of, world_of, IsOpenIn, IsOpen, IsSystem}
use Rattle.interleaving.proofs.SystemKeeps.{session_is, put_is, begun_at, place_is}

-- ---- the turn

abbrev by_write : World → ℕ → Step → Option OpenTransaction → Turn
by_write w i step o = elim o [
  | None ↦ (Refused NoTransaction, w)
  | Some s ↦ let done = write w.schema step (own_in s) in (written_reply step done.0, put w i (Some (with_own s done.1)))
]

-- a transaction as its writes leave it
abbrev pub with_writes : OpenTransactionState → Net → OpenTransactionState
with_writes b new = record { view = b.view; writes = new }

-- what it sees of what was committed
abbrev seen_by : Schema → OpenTransactionState → Changes
seen_by schema b = changes_in schema (events b.view)

abbrev own_of : Schema → OpenTransactionState → Net → Own
own_of schema b w = own (seen_by schema b) w

-- what the transaction reads
pub reads : (schema : Schema) (engine : TreeState) (b : OpenTransactionState) (table : Table) (number : ℕ) → IsOpenIn schema engine b → Some table ≡ table_at schema number → IsTable number table → Reads schema table b.view b.writes (changes_in schema (events b.view))
reads schema engine b table number s at good = record { held = s.held; keys = s.keys; is_table = ap (table_at schema) good.numbered ∙ sym at }

pub begun_in : (schema : Schema) (engine : TreeState) (sessions : List (Option OpenTransactionState)) (i : ℕ) (b : OpenTransactionState) → i ≤ 64 → IsSystem schema engine sessions → Some b ≡ get_or sessions i None → IsOpenIn schema engine b
begun_in schema engine sessions i b small s at = subst (IsOpen schema engine) (sym at) (begun_at schema engine sessions i small s)

-- ---- a session's open transaction, found in its place

pub record IsFound (schema : Schema) (engine : TreeState) (sessions : List (Option OpenTransactionState)) (i : ℕ) (b : OpenTransactionState) : Type 0 where
  pub at : Some b ≡ get_or sessions i None
  pub begun : IsOpenIn schema engine b

pub found : (schema : Schema) (engine : TreeState) (sessions : List (Option OpenTransactionState)) (i : ℕ) (o : Option OpenTransactionState) (b : OpenTransactionState) → IsSystem schema engine sessions → i ≤ 64 → o ≡ get_or sessions i o → o ≡ Some b → IsFound schema engine sessions i b
found schema engine sessions i o b s small at some =
    let here : Some b ≡ get_or sessions i None = sym some ∙ place_is schema engine sessions i o s small at in
    record { at = here; begun = begun_in schema engine sessions i b small s here }

-- ---- each write

-- with no transaction open
pub none_turn : (schema : Schema) (engine : TreeState) (sessions : List (Option OpenTransactionState)) (w : World) (i : ℕ) (step : Step) (o : Option OpenTransactionState) → world_of schema engine sessions ≡ w → IsSystem schema engine sessions → i ≤ 64
    → o ≡ get_or sessions i o → o ≡ None → ◌≡◌ {A = Turn} (Refused NoTransaction, world_of schema engine (set sessions i o)) (by_write w i step (open_at w i))
none_turn schema engine sessions w i step o is s small at none =
    (λ j. (Refused NoTransaction, world_of schema engine (set sessions i (place_is schema engine sessions i o s small at j))))
    ∙ (λ j. (Refused NoTransaction, world_of schema engine (set-get_or sessions i None j)))
    ∙ (λ j. (Refused NoTransaction, is j))
    ∙ ap (λ t. by_write w i step t) (ap (option_map (open_of schema)) (sym none ∙ place_is schema engine sessions i o s small at) ∙ sym (session_is schema engine sessions i) ∙ ap (λ w. open_at w i) is)

pub not_memory : (step : Step) (r : Result ℕ Refusal) → is_out_of_memory (written_reply step r) ≡ false → r ≢ Err Memory
not_memory step r h e = cc (sym h ∙ ap (λ r. is_out_of_memory (written_reply step r)) e)

module _ (schema : Schema) (engine : TreeState) (sessions : List (Option OpenTransactionState)) (w : World) (i : ℕ) (b after : OpenTransactionState) (step : Step) (r : Result ℕ Refusal) (reply : Reply)
    (is : world_of schema engine sessions ≡ w) (f : IsFound schema engine sessions i b) (same_view : after.view ≡ b.view)
    (says : reply ≡ written_reply step r) (answered : is_out_of_memory reply ≡ false) where
  after_is : after ≡ with_writes b after.writes
  after_is = λ j. record { view = same_view j; writes = after.writes }

  turned : ◌≡◌ {A = Written} (r, own_of schema b after.writes) (write schema step (own_of schema b b.writes))
      → ◌≡◌ {A = Turn} (reply, world_of schema engine (set sessions i (Some after))) (elim (open_at w i) [
        | None ↦ (Refused NoTransaction, w)
        | Some s ↦ let done = write w.schema step (own_in s) in (written_reply step done.0, put w i (Some (with_own s done.1)))
      ])
  turned did =
      (λ j. (says j, world_of schema engine (set sessions i (Some (after_is j)))))
      ∙ (λ j. (written_reply step r, put_is schema engine sessions i (Some (with_writes b after.writes)) j))
      ∙ (λ j. (written_reply step (did j).0, put (world_of schema engine sessions) i (Some (with_own (open_of schema b) (did j).1))))
      ∙ (λ j. by_write (world_of schema engine sessions) i step (option_map (open_of schema) (f.at j)))
      ∙ (λ j. by_write (world_of schema engine sessions) i step (sym (session_is schema engine sessions i) j))
      ∙ ap (λ w. by_write w i step (open_at w i)) is

module _ (schema : Schema) (engine : TreeState) (sessions : List (Option OpenTransactionState)) (w : World) (i : ℕ) (b after : OpenTransactionState) (table : Table)
    (is : world_of schema engine sessions ≡ w) (f : IsFound schema engine sessions i b) (same_view : after.view ≡ b.view) where
  pub written_turn : (wr : Write) (r : Result ℕ Refusal) (reply : Reply) → Some table ≡ table_at schema (table_of wr) → IsTable (table_of wr) table
      → WhenRead table b.view b.writes (λ schema m. r ≢ Err Memory → ◌≡◌ {A = Written} (r, own m after.writes) (write_to table wr (own m b.writes)))
      → reply ≡ written_reply (step_of i wr) r → is_out_of_memory reply ≡ false
      → ◌≡◌ {A = Turn} (reply, world_of schema engine (set sessions i (Some after))) (turn_in w (step_of i wr))
  written_turn wr r reply there good did says answered =
      let step = step_of i wr in
      turned schema engine sessions w i b after step r reply is f same_view says answered
      (did schema (seen_by schema b) (reads schema engine b table (table_of wr) f.begun there good) (not_memory step r (sym (ap is_out_of_memory says) ∙ answered))
      ∙ (λ j. elim (there j) [ None ↦ (Err NoTable, own_of schema b b.writes) | Some table ↦ write_to table wr (own_of schema b b.writes) ])
      ∙ sym (write_is schema i wr (own_of schema b b.writes)))
      ∙ sym (turn_is w i wr)
