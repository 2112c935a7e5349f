-- A served session from its start to its end.
use Rattle.std.proofs.Common.{◌≡◌, ◌≢◌, ◌⊎◌, ℕ, List, [], ◌++◌, Bool, Option, None, inl, inr, refl, sym, ap, ◌∙◌, subst}
use Rattle.std.specs.List.{AllByRecursion}
use Rattle.lines.specs.Partial.{Partial}
use Rattle.sessions.specs.SessionState.{SessionTransactionState, SessionState}
use Rattle.serving.specs.declared.served_session.End.{End}
use Rattle.serving.specs.declared.served_session.End.TheVariants.{Closed, Read, Write, Gate, Memory}
use Rattle.serving.specs.BookRefusals.{BookRefusalsState, IsKnown}
use Rattle.serving.specs.Progress.{Given, Progress, after}
use Rattle.serving.specs.ServedSession.{Serves, IsServed, IsServedInPart}
use Rattle.serving.specs.Serving.{IsAt, IsOpenAs}
use Rattle.serving.specs.Account.{AccountState, Served}
use Rattle.serving.specs.Ends.{Ends, EndsInPart}

module _ (may_give : ℕ → Bool) (old new : SessionState) (a b : AccountState) (given : List Given) (none : old.transaction ≡ None) (given_none : a.given ≡ []) (given_is : given ≡ b.given) where
  start : IsAt old (after old.receipt None)
  start = record { receipt_is = refl; open_is = subst (λ (x : Option SessionTransactionState). IsOpenAs old.schema x None) (sym none) tt }

  serves : (lines : List Partial) (out : List ℕ) (s : Served may_give lines out old new a b) → (p' : Progress) × (IsAt new p' × Serves may_give old.schema old.number lines s.told (after old.receipt None) given out p')
  serves lines out s =
      let d = s.steps (after old.receipt None) start in (
        d.0,
        (
          d.1.0,
          subst (λ (k : List Given). Serves may_give old.schema old.number lines s.told (after old.receipt None) k out d.0) (sym (given_is ∙ s.given_is ∙ ap (λ k. k ++ s.given) given_none)) d.1.1,
        ),
      )

  pub served : (receipt : ℕ) → receipt ≡ new.receipt → (refused : BookRefusalsState) → refused ≡ b.refused → (r t w v : Option (List ℕ)) → Ends may_give old new a b r t w v → IsServed may_give old.schema old.number given (after old.receipt None) receipt refused r t w v
  served receipt is refused kinds r t w v e =
      let d = serves _ e.writes.out e.writes.served in
      record { told = e.writes.served.told; known = subst (λ k. AllByRecursion (λ t. IsKnown k t.refused) e.writes.served.told) (sym kinds) e.writes.served.known; text = e.text; took = e.took; ended_there = e.ended_there; out = e.writes.out; wrote = e.writes.wrote; later = d.0; last = is ∙ sym d.1.0.receipt_is; serves = d.1.1 }

  pub served_in_part : (receipt : ℕ) → receipt ≡ new.receipt → (refused : BookRefusalsState) → refused ≡ b.refused → (r t w v : Option (List ℕ)) → EndsInPart may_give old new a b r t w v → IsServedInPart may_give old.schema old.number given (after old.receipt None) receipt refused r t w v
  served_in_part receipt is refused kinds r t w v e =
      let d = serves e.lines e.writes.out e.writes.served in
      record { told = e.writes.served.told; known = subst (λ k. AllByRecursion (λ t. IsKnown k t.refused) e.writes.served.told) (sym kinds) e.writes.served.known; text = e.text; took = e.took; lines = e.lines; rest = e.rest; are_first = e.are_first; out = e.writes.out; wrote = e.writes.wrote; later = d.0; last = is ∙ sym d.1.0.receipt_is; serves = d.1.1 }

-- a session ends as closed, or otherwise
closed_or_other : (e : End) → (e ≡ Closed) ⊎ (e ≢ Closed)
closed_or_other Closed = inl refl
closed_or_other Read = inr (λ e. cc)
closed_or_other Write = inr (λ e. cc)
closed_or_other (Gate gave_up) = inr (λ e. cc)
closed_or_other Memory = inr (λ e. cc)

-- and either way its number and its tables stay
module _ (may_give : ℕ → Bool) (old new : SessionState) (a b : AccountState) (end : End) (r t w v : Option (List ℕ)) (closed : end ≡ Closed → Ends may_give old new a b r t w v) (in_part : end ≢ Closed → EndsInPart may_give old new a b r t w v) where
  pub same_number : new.number ≡ old.number
  same_number = by (closed_or_other end)
    where
      by : (end ≡ Closed) ⊎ (end ≢ Closed) → new.number ≡ old.number
      by (inl e) = let x = closed e in x.writes.served.number_is
      by (inr e) = let x = in_part e in x.writes.served.number_is

  pub same_tables : new.schema ≡ old.schema
  same_tables = by (closed_or_other end)
    where
      by : (end ≡ Closed) ⊎ (end ≢ Closed) → new.schema ≡ old.schema
      by (inl e) = let x = closed e in x.writes.served.schema_is
      by (inr e) = let x = in_part e in x.writes.served.schema_is
