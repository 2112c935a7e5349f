-- Which steps ask the store, and which may run out of memory.
use Rattle.std.proofs.Common.{◌≡◌, ◌⊎◌, ℕ, Bool, true, false, Option, Some, None, inl, inr, refl, sym, ap, subst, ◌∙◌}
use Rattle.std.specs.Prelude.{◌||◌}
use Rattle.std.specs.Option.{is_none, is_some, option_map}
use Rattle.values.specs.declared.refusal.Refusal.{Refusal}
use Rattle.values.specs.declared.refusal.Refusal.TheVariants.{Memory, NoTransaction}
use Rattle.values.specs.Tables.{Schema}
use Rattle.steps.specs.declared.step.Step.{Step}
use Rattle.steps.specs.declared.step.Step.TheVariants.{Begin, Insert, Update, Delete, UpdatePortion, DeletePortion, Select, Commit, Rollback, AddColumn, SplitKey, SplitTime, Migrate}
use Rattle.steps.specs.Misfit.{misfit}
use Rattle.sessions.specs.declared.refusal.StoreRefusal.{StoreRefusal}
use Rattle.sessions.specs.declared.refusal.StoreRefusal.TheVariants.{Session, Book}
use Rattle.sessions.specs.Refusal.{IsBookRoom, refusal_of}
use Rattle.sessions.specs.SessionState.{SessionTransactionState, SessionState}
use Rattle.serving.specs.declared.answer.Sent.TheVariants.{Refused as Refuses}
use Rattle.serving.specs.Progress.{ServedTransaction, asks_store, may_be_refused, may_run_out}
use Rattle.serving.specs.Serving.{IsAt, IsByBook, IsNoRoom, IsOpenAs, IsRefusedForRoom, IsStepped}

pub never : {A : Type 0} (b : Bool) → b ≡ true → b ≡ false → A
never b e f = cc

pub or_right : (a b : Bool) → b ≡ true → (a || b) ≡ true
or_right true b e = refl
or_right false b e = e

-- what is not unfit fits
pub nothing_of : {A : Type 0} (unfit : Option A) (b : Bool) → ((is_some unfit || b) ≡ true → ⊥) → unfit ≡ None
nothing_of None b never = refl
nothing_of (Some r) b never = absurd (never refl)

pub fits_of : {A : Type 0} (unfit : Option A) (b : Bool) → ((is_some unfit || b) ≡ true → ⊥) → is_none unfit ≡ true
fits_of unfit b never = ap is_none (nothing_of unfit b never)

-- and one is open
pub open_of : {A B : Type 0} (unfit : Option A) (t : Option B) → ((is_some unfit || is_none t) ≡ true → ⊥) → is_some t ≡ true
open_of None None never = absurd (never refl)
open_of None (Some x) never = refl
open_of (Some r) t never = absurd (never refl)

pub open_same : (schema : Schema) (t : Option SessionTransactionState) (o : Option ServedTransaction) → IsOpenAs schema t o → is_some t ≡ is_some o
open_same schema None None is = refl
open_same schema None (Some o) is = absurd is
open_same schema (Some t) None is = absurd is
open_same schema (Some t) (Some o) is = refl

-- what asks the store may run out of memory
pub asks_run : (schema : Schema) (i : ℕ) (step : Step) (b : Bool) → asks_store schema i step b ≡ true → may_run_out schema i step b ≡ true
asks_run schema i (Begin j) b e = e
asks_run schema i (Insert j number rows) b e = cc
asks_run schema i (Update j keys sets) b e = cc
asks_run schema i (Delete j keys) b e = cc
asks_run schema i (UpdatePortion j keys cut sets) b e = cc
asks_run schema i (DeletePortion j keys cut) b e = cc
asks_run schema i (Select j form keys) b e = ap (λ x. x || is_none (misfit schema (Select i form keys))) e
asks_run schema i (Commit j reading) b e = e
asks_run schema i (Rollback j) b e = e
asks_run schema i (AddColumn j number name of) b e = e
asks_run schema i (SplitKey key) b e = e
asks_run schema i (SplitTime key instant) b e = e
asks_run schema i Migrate b e = e

-- it may be refused where there is no room
may_lack_room : (schema : Schema) (i : ℕ) (step : Step) (o : Option ServedTransaction) (refusal : Refusal) → IsNoRoom refusal → asks_store schema i step (is_some o) ≡ true → may_be_refused schema i step o refusal ≡ true
may_lack_room schema i step o refusal (inl e) asks = subst (λ r. may_be_refused schema i step o r ≡ true) (sym e) asks
may_lack_room schema i step o refusal (inr e) asks = subst (λ r. may_be_refused schema i step o r ≡ true) (sym e) (asks_run schema i step (is_some o) asks)

no_room : (refusal : StoreRefusal) → IsRefusedForRoom refusal → IsNoRoom (refusal_of refusal)
no_room refusal (inl e) = inl (ap refusal_of e)
no_room refusal (inr (inl e)) = inr (ap refusal_of e)
no_room refusal (inr (inr e)) = inr (ap refusal_of e)

by_book : (refusal : StoreRefusal) → IsRefusedForRoom refusal → IsByBook (Refuses refusal)
by_book refusal (inl e) = λ r f. cc
by_book refusal (inr (inl e)) = λ r f. cc
by_book refusal (inr (inr e)) = λ r f. cc

-- ---- a COMMIT of an open transaction

commit_may : (schema : Schema) (i : ℕ) (o : Option ServedTransaction) (refusal : StoreRefusal) → is_some o ≡ true → (refusal ≡ Book NoTransaction) ⊎ (IsBookRoom refusal ⊎ (refusal ≡ Session Memory)) → may_be_refused schema i (Commit i 0) o (refusal_of refusal) ≡ true
commit_may schema i o refusal some (inl e) = subst (λ r. may_be_refused schema i (Commit i 0) o (refusal_of r) ≡ true) (sym e) some
commit_may schema i o refusal some (inr (inl (inl e))) = subst (λ r. may_be_refused schema i (Commit i 0) o (refusal_of r) ≡ true) (sym e) some
commit_may schema i o refusal some (inr (inl (inr e))) = subst (λ r. may_be_refused schema i (Commit i 0) o (refusal_of r) ≡ true) (sym e) some
commit_may schema i o refusal some (inr (inr e)) = subst (λ r. may_be_refused schema i (Commit i 0) o (refusal_of r) ≡ true) (sym e) some

commit_by_book : (refusal : StoreRefusal) → (refusal ≡ Book NoTransaction) ⊎ (IsBookRoom refusal ⊎ (refusal ≡ Session Memory)) → IsByBook (Refuses refusal)
commit_by_book refusal (inl e) = λ r f. cc
commit_by_book refusal (inr (inl (inl e))) = λ r f. cc
commit_by_book refusal (inr (inl (inr e))) = λ r f. cc
commit_by_book refusal (inr (inr e)) = λ r f. cc

pub commit_refused : (may_give : ℕ → Bool) (old new : SessionState) (refusal : StoreRefusal) → is_some old.transaction ≡ true → new ≡ old → (refusal ≡ Book NoTransaction) ⊎ (IsBookRoom refusal ⊎ (refusal ≡ Session Memory))
    → IsStepped may_give (Commit old.number 0) old new (record { given = None; install = None; sent = Refuses refusal })
commit_refused may_give old new refusal some same why = record {
  schema_is = ap (λ s. s.schema) same;
  number_is = ap (λ s. s.number) same;
  alone = λ e. refl;
  by_book = commit_by_book refusal why;
  steps = λ p at. (
    p,
    (
      subst (λ s. IsAt s p) (sym same) at,
      record {
        may = commit_may old.schema old.number p.transaction refusal (sym (open_same old.schema old.transaction p.transaction at.open_is) ∙ some) why;
        takes = refl;
        left = refl;
      },
    ),
  );
}

pub open_some : {A B : Type 0} (t : Option A) (f : A → B) → is_some (option_map f t) ≡ true → is_some t ≡ true
open_some None f e = e
open_some (Some x) f e = refl

-- ---- a step for which there is no room

pub lacks_room : (may_give : ℕ → Bool) (step : Step) (s : SessionState) (refusal : StoreRefusal) → IsRefusedForRoom refusal → asks_store s.schema s.number step (is_some s.transaction) ≡ true
    → IsStepped may_give step s s (record { given = None; install = None; sent = Refuses refusal })
lacks_room may_give step s refusal room asks = record {
  schema_is = refl;
  number_is = refl;
  alone = λ e. refl;
  by_book = by_book refusal room;
  steps = λ p at. (
    p,
    (
      at,
      record {
        may = may_lack_room s.schema s.number step p.transaction (refusal_of refusal) (no_room refusal room) (subst (λ b. asks_store s.schema s.number step b ≡ true) (open_same s.schema s.transaction p.transaction at.open_is) asks);
        takes = refl;
        left = refl;
      },
    ),
  );
}
