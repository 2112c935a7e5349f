-- A session after a write: all is as before but what its transaction wrote.
use Rattle.std.proofs.Common.{◌≡◌, ℕ, [], Option, Some, None, refl, sym, ap, ◌∙◌, subst}
use Rattle.std.specs.Option.{option_map}
use Rattle.values.specs.declared.table.Table.{Table}
use Rattle.values.specs.Tables.{Schema, table_at}
use Rattle.values.specs.Log.{Net}
use Rattle.values.specs.Events.{AreKeysIn}
use Rattle.book.specs.tsbtree.View.{last}
use Rattle.book.specs.staging.View.{Holds}
use Rattle.book.specs.staging.Own.{WhenRead}
use Rattle.book.specs.transaction.OpenTransactionState.{OpenTransactionState}
use Rattle.book.specs.journal.BegunState.{BegunState}
use Rattle.sessions.specs.SessionState.{SessionTransactionState, SessionState, IsOpenOver, IsSession, MayBeOpen, WithWrites, session_transaction, with_transaction, with_writes}

abbrev pub state : ℕ → Schema → ℕ → Option SessionTransactionState → SessionState
state number schema receipt o = record { number = number; schema = schema; receipt = receipt; transaction = o }

as_it_is : (o : Option SessionTransactionState) → (writes : Net) × (o ≡ option_map (with_writes writes) o)
as_it_is None = ([], refl)
as_it_is (Some t) = (t.writes, refl)

pub same_writes : (s : SessionState) → WithWrites s s
same_writes s = let p = as_it_is s.transaction in (p.0, λ k. state s.number s.schema s.receipt (p.1 k))

module _ (number : ℕ) (schema : Schema) (receipt : ℕ) (o : Option SessionTransactionState) (begun : BegunState) (old new : OpenTransactionState) (is : o ≡ Some (session_transaction begun old)) (view : new.view ≡ old.view) where
  pub with_new : (before : SessionState) → state number schema receipt o ≡ before → WithWrites before (state number schema receipt (Some (session_transaction begun new)))
  with_new before seen = (
    new.writes,
    (λ k. state number schema receipt (Some (record { begun = begun; view = view k; writes = new.writes })))
        ∙ (λ k. state number schema receipt (option_map (with_writes new.writes) (sym is k)))
        ∙ (λ k. with_transaction (seen k) (option_map (with_writes new.writes) (seen k).transaction)),
  )

  pub written_is : (table : Table) → IsSession number schema o → table_at schema table.number ≡ Some table → WhenRead table old.view old.writes (λ schema m. AreKeysIn schema new.writes) → IsSession number schema (Some (session_transaction begun new))
  written_is table was there keys =
      let runs : MayBeOpen schema (Some (session_transaction begun old)) = subst (MayBeOpen schema) is was.over in
      let ran : IsOpenOver schema (session_transaction begun old) runs.0 = runs.1 in
      record {
        in_range = was.in_range;
        over = (
          runs.0,
          record {
            held = subst (λ v. Holds schema v runs.0) (sym view) ran.held;
            keys = keys schema runs.0 (record { held = ran.held; keys = ran.keys; is_table = there });
            start_is = ran.start_is ∙ ap last (sym view);
          },
        );
      }
