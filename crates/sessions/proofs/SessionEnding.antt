-- A session after a commit.
use Rattle.std.proofs.Common.{◌≡◌, ℕ, Option, Some, sym, ap, ◌∙◌, subst}
use Rattle.std.specs.Prelude.{Result, Ok, Err, IfOk}
use Rattle.values.specs.Tables.{Schema}
use Rattle.values.specs.Log.{Changes, Net}
use Rattle.values.specs.Events.{AreKeysIn}
use Rattle.book.specs.staging.View.{Holds}
use Rattle.book.specs.staging.Own.{net_over}
use Rattle.book.specs.journal.Entries.{Entries, is_open}
use Rattle.sessions.specs.SessionState.{SessionTransactionState, SessionState, MayBeOpen}
use Rattle.sessions.specs.Store.{IsNetOf, is_open_at}
use Rattle.sessions.proofs.SessionWriting.{state}

pub if_ok : {A E : Type 0} (r : Result A E) (P Q : A → Type 0) → ((x : A) → P x → Q x) → IfOk r P → IfOk r Q
if_ok (Ok x) P Q f p = f x p
if_ok (Err e) P Q f p = tt

module _ (schema : Schema) (o : Option SessionTransactionState) (t : SessionTransactionState) (runs : MayBeOpen schema o) (is : o ≡ Some t) where
  abbrev ran : MayBeOpen schema (Some t)
  ran = subst (MayBeOpen schema) is runs

  pub keys_of_net : (store : Schema) (net : Net) → ((schema : Schema) → AreKeysIn schema t.writes → AreKeysIn schema net) → schema ≡ store → AreKeysIn store net
  keys_of_net store net keys same = subst (λ s. AreKeysIn s net) same (keys schema ran.1.keys)

  pub open_at : (number receipt : ℕ) (j : Entries) (before : SessionState) → state number schema receipt o ≡ before → is_open_at j before ≡ is_open j number t.begun
  open_at number receipt j before seen = ap (is_open_at j) (sym seen) ∙ ap (λ (p : Option SessionTransactionState). is_open_at j (state number schema receipt p)) is

  pub net_of_session : (number receipt : ℕ) (s : SessionState) (net : Net) → state number schema receipt o ≡ s
      → ((schema : Schema) (m : Changes) → Holds schema t.view m → AreKeysIn schema t.writes → net ≡ net_over m t.writes) → IsNetOf s net
  net_of_session number receipt s net seen net_is =
      subst (λ s. IsNetOf s net) seen (record { ran = t; was_open = is; net_is = λ m held. net_is schema m held ran.1.keys })

  pub keys_of_session : (number receipt : ℕ) (s : SessionState) (net : Net) → state number schema receipt o ≡ s
      → ((schema : Schema) → AreKeysIn schema t.writes → AreKeysIn schema net) → AreKeysIn s.schema net
  keys_of_session number receipt s net seen keys = keys_of_net s.schema net keys (ap (λ (s : SessionState). s.schema) seen)
