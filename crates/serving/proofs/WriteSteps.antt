-- Steps that write.
use Rattle.std.proofs.Common.{◌≡◌, ◌≢◌, ◌⊎◌, ℕ, List, [], Bool, true, Option, Some, None, Result, Ok, Err, inl, inr, refl, sym, ap, ◌∙◌, subst}
use Rattle.std.specs.Prelude.{OnErr, ◌||◌}
use Rattle.std.specs.Prelude.{◌&&◌}
use Rattle.std.specs.Option.{is_none, is_some, option_map}
use Rattle.values.specs.declared.refusal.Refusal.{Refusal}
use Rattle.values.specs.declared.refusal.Refusal.TheVariants.{Memory}
use Rattle.values.specs.declared.write.Write.{Write}
use Rattle.values.specs.declared.write.Write.TheVariants.{Insert, Update, Delete, UpdatePortion, DeletePortion}
use Rattle.values.specs.Tables.{Schema}
use Rattle.values.specs.Log.{Net}
use Rattle.values.specs.Writes.{Own}
use Rattle.sessions.specs.staging.Own.{own}
use Rattle.steps.specs.declared.step.Step.{Step}
use Rattle.steps.specs.declared.step.Reply.{Reply}
use Rattle.steps.specs.declared.step.Reply.TheVariants.{Refused}
use Rattle.steps.specs.Misfit.{misfit}
use Rattle.steps.specs.StepOf.{step_of}
use Rattle.steps.specs.Reply.{write_count, written_reply}
use Rattle.sessions.specs.SessionState.{SessionTransactionState, SessionState, IsWrite, TakesNoMemory, WithWrites, write_by, with_writes}
use Rattle.serving.specs.declared.answer.Sent.{Sent}
use Rattle.serving.specs.declared.answer.Sent.TheVariants.{Reply as Says}
use Rattle.serving.specs.Progress.{Given, ServedTransaction, Progress, after, own_of, with_own, may_run_out, Takes, TakesWrite}
use Rattle.serving.specs.Serving.{IsAt, IsByBook, IsOpenAs, IsReplied, IsStepped, reply_by, sent_refusal}
use Rattle.serving.proofs.AnswerRefusing.{memory_or_reply}
use Rattle.serving.proofs.BookRefusalsKnown.{refusal_by_book}
use Rattle.serving.proofs.ProgressAsking.{nothing_of, open_of, open_same}

-- what is sent for a write
abbrev pub sent_for : Step → Result ℕ Refusal → Sent
sent_for step (Ok count) = Says (write_count step count)
sent_for step (Err refusal) = sent_refusal refusal

module _ (may_give : ℕ → Bool) (number : ℕ) (schema : Schema) (receipt : ℕ) (step : Step) where
  abbrev state : Option SessionTransactionState → SessionState
  state t = record { number = number; schema = schema; receipt = receipt; transaction = t }

  abbrev by_writing : Option Own → Result ℕ Refusal × Option Own
  by_writing o = write_by schema step (misfit schema step) o

  -- what is left of the transaction, and what the write answers
  record Wrote (t : Option SessionTransactionState) (w : Net) (o : Option ServedTransaction) (result : Result ℕ Refusal) : Type 0 where
    pub left : Option ServedTransaction
    pub open_is : IsOpenAs schema (option_map (with_writes w) t) left
    pub left_is : left ≡ with_own o (by_writing (own_of o)).1
    pub result_is : result ≡ (by_writing (own_of o)).0

  wrote : (t : Option SessionTransactionState) (w : Net) (o : Option ServedTransaction) (result : Result ℕ Refusal) → IsOpenAs schema t o → IsWrite step (state t) (state (option_map (with_writes w) t)) result → result ≢ Err Memory → Wrote t w o result
  wrote None w None result is writes other =
      let e = writes [] tt other in
      record { left = None; open_is = tt; left_is = refl; result_is = ap (λ x. x.0) e }
  wrote None w (Some o) result is writes other = absurd is
  wrote (Some t) w None result is writes other = absurd is
  wrote (Some t) w (Some o) result is writes other =
      let e = writes o.changes is.held other ∙ ap (λ (x : Own). by_writing (Some x)) (sym is.own_is) in
      record {
        left = Some (record { begin = o.begin; changes = o.changes; own = own o.changes w });
        open_is = record { begin_is = is.begin_is; held = is.held; own_is = refl };
        left_is = ap (λ (x : Result ℕ Refusal × Option Own). with_own (Some o) x.1) e;
        result_is = ap (λ x. x.0) e;
      }

  -- a write's own clauses, of such a session
  abbrev pub Writes : Type 0
  Writes = (p : Progress) (given : List Given) (reply : Reply) (p' : Progress) → TakesWrite schema number step p given reply p' → Takes may_give schema number step p given reply p'

  -- one that fits may run out of memory where a transaction is open
  abbrev pub MayRunOut : Type 0
  MayRunOut = (b : Bool) → b ≡ true → misfit schema step ≡ None → may_run_out schema number step b ≡ true

  stepped : (t : Option SessionTransactionState) (w : Net) (result : Result ℕ Refusal) → Writes → MayRunOut → IsWrite step (state t) (state (option_map (with_writes w) t)) result
      → TakesNoMemory (state t) (misfit schema step) result → OnErr result (state (option_map (with_writes w) t) ≡ state t) → IsStepped may_give step (state t) (state (option_map (with_writes w) t)) (record { given = None; install = None; sent = sent_for step result })
  stepped t w result takes may writes unfit refused = record { schema_is = refl; number_is = refl; alone = λ e. refl; by_book = by_book result; steps = λ p at. by result writes unfit refused p at }
    where
      by_book : (r : Result ℕ Refusal) → IsByBook (sent_for step r)
      by_book (Ok count) = λ x f. cc
      by_book (Err refusal) = refusal_by_book refusal

      new : SessionState
      new = state (option_map (with_writes w) t)

      replied : (r : Result ℕ Refusal) → IsWrite step (state t) new r → r ≢ Err Memory → (p : Progress) → IsAt (state t) p
          → (p' : Progress) × (IsAt new p' × IsReplied may_give schema number step p [] (Ok (written_reply step r)) p')
      replied r writes other p at =
          let d = wrote t w p.transaction r at.open_is writes other in (
            after p.receipt d.left,
            (
              record { receipt_is = at.receipt_is; open_is = d.open_is },
              takes p [] (written_reply step r) (after p.receipt d.left) (record { takes = refl; reply_is = ap (written_reply step) d.result_is; left = ap (after p.receipt) d.left_is }),
            ),
          )

      by : (r : Result ℕ Refusal) → IsWrite step (state t) new r → TakesNoMemory (state t) (misfit schema step) r → OnErr r (new ≡ state t) → (p : Progress) → IsAt (state t) p
          → (p' : Progress) × (IsAt new p' × IsReplied may_give schema number step p [] (reply_by None (sent_for step r)) p')
      by (Ok count) writes unfit refused p at = replied (Ok count) writes (λ e. cc) p at
      by (Err r) writes unfit refused p at = by_refusal (memory_or_reply r)
        where
          refusal_in : Result ℕ Refusal → Refusal
          refusal_in (Err x) = x
          refusal_in (Ok x) = r

          by_refusal : (r ≡ Memory) ⊎ ((r ≢ Memory) × (sent_refusal r ≡ Says (Refused r))) → (p' : Progress) × (IsAt new p' × IsReplied may_give schema number step p [] (reply_by None (sent_refusal r)) p')
          by_refusal (inl e) =
              let never : (is_some (misfit schema step) || is_none t) ≡ true → ⊥ = λ u. unfit u (ap (λ x. Err x) e) in
              subst (λ x. (p' : Progress) × (IsAt new p' × IsReplied may_give schema number step p [] (reply_by None (sent_refusal x)) p')) (sym e) (
                p,
                (
                  subst (λ s. IsAt s p) (sym refused) at,
                  record {
                    may = may (is_some p.transaction) (sym (open_same schema t p.transaction at.open_is) ∙ open_of (misfit schema step) t never) (nothing_of (misfit schema step) (is_none t) never);
                    takes = refl;
                    left = refl;
                  },
                ),
              )
          by_refusal (inr f) = subst (λ x. (p' : Progress) × (IsAt new p' × IsReplied may_give schema number step p [] (reply_by None x) p')) (sym f.1)
              (replied (Err r) writes (λ e. f.0 (ap refusal_in e)) p at)

pub write_stepped : (may_give : ℕ → Bool) (step : Step) (old new : SessionState) (result : Result ℕ Refusal) → Writes may_give old.number old.schema old.receipt step → MayRunOut may_give old.number old.schema old.receipt step → IsWrite step old new result
    → TakesNoMemory old (misfit old.schema step) result → WithWrites old new → OnErr result (new ≡ old)
    → IsStepped may_give step old new (record { given = None; install = None; sent = sent_for step result })
write_stepped may_give step old new result takes may writes unfit rest refused =
    subst (λ s. IsStepped may_give step old s (record { given = None; install = None; sent = sent_for step result })) (sym rest.1)
    (stepped may_give old.number old.schema old.receipt step old.transaction rest.0 result takes may (subst (λ s. IsWrite step old s result) rest.1 writes) unfit (subst (λ s. OnErr result (s ≡ old)) rest.1 refused))

-- a write takes no receipt, and answers by its own clauses
pub takes_write : (may_give : ℕ → Bool) (number : ℕ) (schema : Schema) (receipt : ℕ) (w : Write) → Writes may_give number schema receipt (step_of number w)
takes_write may_give number schema receipt (Insert table rows) = λ p given reply p' is. is
takes_write may_give number schema receipt (Update keys sets) = λ p given reply p' is. is
takes_write may_give number schema receipt (Delete keys) = λ p given reply p' is. is
takes_write may_give number schema receipt (UpdatePortion keys cut sets) = λ p given reply p' is. is
takes_write may_give number schema receipt (DeletePortion keys cut) = λ p given reply p' is. is

and_both : {A : Type 0} (b : Bool) (unfit : Option A) → b ≡ true → unfit ≡ None → (b && is_none unfit) ≡ true
and_both b unfit e f = rw e (ap is_none f)

pub may_write : (may_give : ℕ → Bool) (number : ℕ) (schema : Schema) (receipt : ℕ) (w : Write) → MayRunOut may_give number schema receipt (step_of number w)
may_write may_give number schema receipt (Insert table rows) = λ b e f. and_both b _ e f
may_write may_give number schema receipt (Update keys sets) = λ b e f. and_both b _ e f
may_write may_give number schema receipt (Delete keys) = λ b e f. and_both b _ e f
may_write may_give number schema receipt (UpdatePortion keys cut sets) = λ b e f. and_both b _ e f
may_write may_give number schema receipt (DeletePortion keys cut) = λ b e f. and_both b _ e f
