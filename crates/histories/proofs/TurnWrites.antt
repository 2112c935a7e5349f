-- A write's turn against the history.
use Rattle.std.proofs.Common.{◌≡◌, ◌≢◌, ℕ, ◌≤◌, Bool, true, false, List, [], ◌∷◌, ◌++◌, Option, Some, None, refl, sym, ap, subst, ◌∙◌}
use Rattle.std.specs.Prelude.{if◌then◌else◌, ◌&&◌, ◌==◌, is_none, is_some, not, Result, Ok, Err}
use Rattle.values.specs.declared.period.Span.{Span}
use Rattle.values.specs.declared.query.Keys.{Keys}
use Rattle.values.specs.declared.query.Set.{Set}
use Rattle.values.specs.declared.refusal.Refusal.{Refusal}
use Rattle.values.specs.declared.refusal.Refusal.TheVariants.{NoTransaction}
use Rattle.values.specs.Tables.{Schema}
use Rattle.values.specs.Log.{Log, Row, last, changes}
use Rattle.values.specs.Writes.{Own}
use Rattle.steps.specs.declared.step.Step.{Step}
use Rattle.steps.specs.declared.step.Step.TheVariants.{Insert, Update, Delete, UpdatePortion, DeletePortion}
use Rattle.steps.specs.declared.step.Reply.{Reply}
use Rattle.steps.specs.declared.step.Reply.TheVariants.{Refused}
use Rattle.steps.specs.Misfit.{max_session, misfit}
use Rattle.histories.specs.History.{History, schema_after, log, log_at_begin, own, own_of, reply_in, seen_of, rewrite_all, ends, begins}
use Rattle.steps.specs.Write.{write, is_write_of}
use Rattle.steps.specs.Reply.{written_reply, write_reply, is_refused}
use Rattle.histories.specs.World.{OpenTransaction, World}
use Rattle.histories.specs.Stands.{Stands, open_in, open_from, open_at}
use Rattle.histories.specs.Turn.{put, Turn, own_in, with_own, write_turn}
use Rattle.steps.proofs.WriteLeaves.{is_err, write_is}
use Rattle.histories.proofs.StandsEnds.{stands_put, stands_still, not_other, itself}

pub rewrite_more : (schema : Schema) (own : List Step) (step : Step) (o : Own) → rewrite_all schema (own ++ step ∷ []) o ≡ (write schema step (rewrite_all schema own o)).1
rewrite_more schema [] step o = refl
rewrite_more schema (s ∷ own) step o = rewrite_more schema own step (write schema s o).1

-- ---- a step that writes for session i, and ends or begins nothing

record IsWrite (schema : Schema) (h : History) (step : Step) (i : ℕ) : Type 0 where
  no_end : (j : ℕ) → ends j step ≡ false
  no_begin : (j : ℕ) → begins j step ≡ false
  its_own : (j : ℕ) → is_write_of j step ≡ (j == i)
  same_tables : schema_after schema (step ∷ h) ≡ schema_after schema h
  same_log : log schema (step ∷ h) ≡ log schema h
  fits : misfit (schema_after schema h) step ≡ None
  counts : (count : ℕ) → is_refused (written_reply step (Ok count)) ≡ false
  replied : reply_in schema h step ≡ elim (log_at_begin schema h i) [ None ↦ Refused NoTransaction | Some before ↦ write_reply (schema_after schema h) step (own_of (schema_after schema h) (log schema h) (log_at_begin schema h i) (own schema h i)) ]

reply_is : (schema : Schema) (h : History) (step : Step) (i : ℕ) (o : Own) → IsWrite schema h step i → write_reply (schema_after schema h) step o ≡ written_reply step (write (schema_after schema h) step o).0
reply_is schema h step i o is = λ k. elim (is.fits k) [ Some refusal ↦ Refused refusal | None ↦ written_reply step (write (schema_after schema h) step o).0 ]

refused_is : (step : Step) (r : Result ℕ Refusal) → ((count : ℕ) → is_refused (written_reply step (Ok count)) ≡ false) → is_refused (written_reply step r) ≡ is_err r
refused_is step (Ok count) counts = counts count
refused_is step (Err refusal) counts = refl

-- ---- the history

abbrev after_write : Schema → Log → Option Log → List Step → Step → Bool → Bool → Option OpenTransaction
after_write schema now o own step its refused = open_from schema now o (if its && is_some o && not refused then own ++ step ∷ [] else own)

-- the write is refused
abbrev refused_in : Schema → Step → Log → Option Log → List Step → Bool
refused_in schema step now o own = is_refused (write_reply schema step (own_of schema now o own))

session_of : (schema : Schema) (h : History) (step : Step) (i j : ℕ) → IsWrite schema h step i
    → open_in schema (step ∷ h) j ≡ after_write (schema_after schema h) (log schema h) (log_at_begin schema h j) (own schema h j) step (j == i) (refused_in (schema_after schema h) step (log schema h) (log_at_begin schema h j) (own schema h j))
session_of schema h step i j is =
    λ k. open_from (is.same_tables k) (is.same_log k) (if is.no_end j k then None else if is.no_begin j k && is_none (log_at_begin schema h j) then Some (log schema h) else log_at_begin schema h j)
    (if is.no_end j k then [] else if is.its_own j k && is_some (log_at_begin schema h j) && not (refused_in (schema_after schema h) step (log schema h) (log_at_begin schema h j) (own schema h j)) then own schema h j ++ step ∷ [] else own schema h j)

write_other : (schema : Schema) (h : History) (step : Step) (i j : ℕ) → IsWrite schema h step i → j ≢ i → open_in schema (step ∷ h) j ≡ open_in schema h j
write_other schema h step i j is other =
    session_of schema h step i j is ∙ ap (λ b. after_write (schema_after schema h) (log schema h) (log_at_begin schema h j) (own schema h j) step b (refused_in (schema_after schema h) step (log schema h) (log_at_begin schema h j) (own schema h j))) (not_other i j other)

-- the transaction once it wrote
abbrev next : Schema → Step → OpenTransaction → OpenTransaction
next schema step s = with_own s (write schema step (own_in s)).1

abbrev open_now : Schema → Log → Log → List Step → OpenTransaction
open_now schema now before own = with_own (record { start = last before; rows = []; written = [] }) (own_of schema now (Some before) own)

next_is : (its refused : Bool) (schema : Schema) (now before : Log) (own : List Step) (step : Step) → its ≡ true
    → (refused ≡ true → (write schema step (own_of schema now (Some before) own)).1 ≡ own_of schema now (Some before) own)
    → ◌≡◌ {A = Option OpenTransaction} (Some (next schema step (open_now schema now before own))) (after_write schema now (Some before) own step its refused)
next_is true true schema now before own step e leaves = ap (λ o. Some (with_own (open_now schema now before own) o)) (leaves refl)
next_is true false schema now before own step e leaves =
    ap (λ o. Some (with_own (open_now schema now before own) o)) (sym (rewrite_more schema own step (record { rows = seen_of now (Some before); written = [] })))
next_is false refused schema now before own step e leaves = cc

abbrev turn_of : Schema → World → ℕ → Step → Option OpenTransaction → Turn
turn_of now w i step None = (Refused NoTransaction, w)
turn_of now w i step (Some s) = (written_reply step (write now step (own_in s)).0, put w i (Some (next now step s)))

abbrev reply_when : Option Log → Reply → Reply
reply_when None reply = Refused NoTransaction
reply_when (Some before) reply = reply

abbrev own_reply : Schema → Step → Log → List Step → Option Log → Reply
own_reply schema step now writes o = reply_when o (write_reply schema step (own_of schema now o writes))

same_reply : (o : Option Log) (r : Reply) → reply_when o r ≡ elim o [ None ↦ Refused NoTransaction | Some before ↦ r ]
same_reply None r = refl
same_reply (Some before) r = refl

reply_of : (schema : Schema) (h : History) (step : Step) (i : ℕ) (o : Option Log) → log_at_begin schema h i ≡ o → IsWrite schema h step i → own_reply (schema_after schema h) step (log schema h) (own schema h i) o ≡ reply_in schema h step
reply_of schema h step i o at is =
    ap (own_reply (schema_after schema h) step (log schema h) (own schema h i)) (sym at)
    ∙ same_reply (log_at_begin schema h i) (write_reply (schema_after schema h) step (own_of (schema_after schema h) (log schema h) (log_at_begin schema h i) (own schema h i)))
    ∙ sym is.replied

write_for : (first : Schema) (w : World) (h : History) (step : Step) (i : ℕ) (o : Option Log) → IsWrite first h step i → log_at_begin first h i ≡ o → i ≤ max_session → Stands first w h
    → ((turn_of (schema_after first h) w i step (open_from (schema_after first h) (log first h) o (own first h i))).0 ≡ reply_in first h step) × Stands first (turn_of (schema_after first h) w i step (open_from (schema_after first h) (log first h) o (own first h i))).1 (step ∷ h)
write_for first w h step i None is at small stands = (
  reply_of first h step i None at is,
  stands_still first w h step i small stands is.same_tables is.same_log
      (session_of first h step i i is ∙ (λ k. after_write (schema_after first h) (log first h) (at k) (own first h i) step (i == i) (refused_in (schema_after first h) step (log first h) (at k) (own first h i))) ∙ closed (i == i) (refused_in (schema_after first h) step (log first h) None (own first h i)) ∙ sym (ap (λ o. open_from (schema_after first h) (log first h) o (own first h i)) at))
      (λ j other. write_other first h step i j is other),
)
  where
    closed : (b c : Bool) → after_write (schema_after first h) (log first h) None (own first h i) step b c ≡ None
    closed b c = refl
write_for first w h step i (Some before) is at small stands = (
  sym (reply_is first h step i o is) ∙ reply_of first h step i (Some before) at is,
  stands_put first w h step i _ w.changes w.latest small stands is.same_tables (stands.changes_are ∙ sym (ap changes is.same_log)) (stands.latest_is ∙ sym (ap last is.same_log))
      (next_is (i == i) (refused_in (schema_after first h) step (log first h) (Some before) (own first h i)) (schema_after first h) (log first h) before (own first h i) step (itself i)
      (λ refused. (write_is (schema_after first h) step o).leaves (sym (ap is_refused (reply_is first h step i o is) ∙ refused_is step (write (schema_after first h) step o).0 is.counts) ∙ refused))
      ∙ sym (session_of first h step i i is ∙ (λ k. after_write (schema_after first h) (log first h) (at k) (own first h i) step (i == i) (refused_in (schema_after first h) step (log first h) (at k) (own first h i)))))
      (λ j other. write_other first h step i j is other),
)
  where
    o : Own
    o = own_of (schema_after first h) (log first h) (Some before) (own first h i)

-- ---- the turn of a write

same_turn : (now : Schema) (w : World) (i : ℕ) (step : Step) (o : Option OpenTransaction) → now ≡ w.schema
    → turn_of now w i step o ≡ elim o [ None ↦ (Refused NoTransaction, w) | Some s ↦ (written_reply step (write w.schema step (own_in s)).0, put w i (Some (next w.schema step s))) ]
same_turn now w i step None is = refl
same_turn now w i step (Some s) is = λ k. (written_reply step (write (is k) step (own_in s)).0, put w i (Some (next (is k) step s)))

write_answers : (first : Schema) (w : World) (h : History) (step : Step) (i : ℕ) → IsWrite first h step i → i ≤ max_session → Stands first w h
    → ((write_turn w i step).0 ≡ reply_in first h step) × Stands first (write_turn w i step).1 (step ∷ h)
write_answers first w h step i is small stands =
    subst (λ (t : Turn). (t.0 ≡ reply_in first h step) × Stands first t.1 (step ∷ h))
    (ap (turn_of (schema_after first h) w i step) (sym (stands.sessions_are i small)) ∙ same_turn (schema_after first h) w i step (open_at w i) (sym stands.schema_is))
    (write_for first w h step i (log_at_begin first h i) is refl small stands)

pub insert_answers : (first : Schema) (w : World) (h : History) (i number : ℕ) (rows : List Row) → misfit (schema_after first h) (Insert i number rows) ≡ None → i ≤ max_session → Stands first w h
    → ((write_turn w i (Insert i number rows)).0 ≡ reply_in first h (Insert i number rows)) × Stands first (write_turn w i (Insert i number rows)).1 (Insert i number rows ∷ h)
insert_answers first w h i number rows fits small stands =
    write_answers first w h (Insert i number rows) i (record { no_end = λ j. refl; no_begin = λ j. refl; its_own = λ j. refl; same_tables = refl; same_log = refl; fits = fits; counts = λ count. refl; replied = refl }) small stands

pub update_answers : (first : Schema) (w : World) (h : History) (i : ℕ) (keys : Keys) (sets : List Set) → misfit (schema_after first h) (Update i keys sets) ≡ None → i ≤ max_session → Stands first w h
    → ((write_turn w i (Update i keys sets)).0 ≡ reply_in first h (Update i keys sets)) × Stands first (write_turn w i (Update i keys sets)).1 (Update i keys sets ∷ h)
update_answers first w h i keys sets fits small stands =
    write_answers first w h (Update i keys sets) i (record { no_end = λ j. refl; no_begin = λ j. refl; its_own = λ j. refl; same_tables = refl; same_log = refl; fits = fits; counts = λ count. refl; replied = refl }) small stands

pub delete_answers : (first : Schema) (w : World) (h : History) (i : ℕ) (keys : Keys) → misfit (schema_after first h) (Delete i keys) ≡ None → i ≤ max_session → Stands first w h
    → ((write_turn w i (Delete i keys)).0 ≡ reply_in first h (Delete i keys)) × Stands first (write_turn w i (Delete i keys)).1 (Delete i keys ∷ h)
delete_answers first w h i keys fits small stands =
    write_answers first w h (Delete i keys) i (record { no_end = λ j. refl; no_begin = λ j. refl; its_own = λ j. refl; same_tables = refl; same_log = refl; fits = fits; counts = λ count. refl; replied = refl }) small stands

pub update_portion_answers : (first : Schema) (w : World) (h : History) (i : ℕ) (keys : Keys) (cut : Span) (sets : List Set) → misfit (schema_after first h) (UpdatePortion i keys cut sets) ≡ None → i ≤ max_session → Stands first w h
    → ((write_turn w i (UpdatePortion i keys cut sets)).0 ≡ reply_in first h (UpdatePortion i keys cut sets)) × Stands first (write_turn w i (UpdatePortion i keys cut sets)).1 (UpdatePortion i keys cut sets ∷ h)
update_portion_answers first w h i keys cut sets fits small stands =
    write_answers first w h (UpdatePortion i keys cut sets) i (record { no_end = λ j. refl; no_begin = λ j. refl; its_own = λ j. refl; same_tables = refl; same_log = refl; fits = fits; counts = λ count. refl; replied = refl }) small stands

pub delete_portion_answers : (first : Schema) (w : World) (h : History) (i : ℕ) (keys : Keys) (cut : Span) → misfit (schema_after first h) (DeletePortion i keys cut) ≡ None → i ≤ max_session → Stands first w h
    → ((write_turn w i (DeletePortion i keys cut)).0 ≡ reply_in first h (DeletePortion i keys cut)) × Stands first (write_turn w i (DeletePortion i keys cut)).1 (DeletePortion i keys cut ∷ h)
delete_portion_answers first w h i keys cut fits small stands =
    write_answers first w h (DeletePortion i keys cut) i (record { no_end = λ j. refl; no_begin = λ j. refl; its_own = λ j. refl; same_tables = refl; same_log = refl; fits = fits; counts = λ count. refl; replied = refl }) small stands
