-- A system that stands for a history stands for it with one more step.
use Rattle.std.proofs.Common.{◌≡◌, ◌≢◌, ℕ, ◌≤◌, Bool, true, false, List, [], ◌∷◌, Option, Some, None, get_or, set, refl, sym, ap, subst, ◌∙◌, arith}
use Rattle.std.specs.Prelude.{if◌then◌else◌, ◌&&◌, ◌==◌, is_none, is_some}
use Rattle.std.proofs.lemmas.Bool.Decides.{nat_tests}
use Rattle.std.proofs.lemmas.List.{get_or-set_same, get_or-set_other}
use Rattle.std.proofs.Math.ListN.{length-set}
use Rattle.values.specs.Tables.{Schema}
use Rattle.values.specs.Log.{Log, last, state}
use Rattle.steps.specs.Misfit.{max_session}
use Rattle.histories.proofs.HistoryNow.{rows_now}
use Rattle.histories.proofs.HistoryGrowth.{log_rises}
use Rattle.steps.specs.declared.step.Step.{Step}
use Rattle.steps.specs.declared.step.Step.TheVariants.{Begin}
use Rattle.steps.specs.declared.step.Reply.{Reply}
use Rattle.steps.specs.declared.step.Reply.TheVariants.{Begun, Refused}
use Rattle.values.specs.declared.refusal.Refusal.TheVariants.{InTransaction}
use Rattle.histories.specs.History.{History, schema_after, log, log_at_begin, own, reply_in, ends, begins}
use Rattle.steps.specs.Write.{is_write_of}
use Rattle.histories.specs.World.{OpenTransaction, World}
use Rattle.histories.specs.Stands.{Stands, open_in, open_from, open_at}
use Rattle.values.specs.RowsAfter.{rows_after}
use Rattle.histories.specs.Turn.{put, Turn, begin_turn, opened_now}

no_writes_step : (e b w r : Bool) (o : Option Log) (now : Log) (xs ys : List Step) → (o ≡ None → ys ≡ [])
    → ◌≡◌ {A = Option Log} (if e then None else (if b && is_none o then Some now else o)) None
    → ◌≡◌ {A = List Step} (if e then [] else (if w && is_some o && r then xs else ys)) []
no_writes_step true b w r o now xs ys h none = refl
no_writes_step false true w r None now xs ys h none = cc
no_writes_step false false true r None now xs ys h none = h refl
no_writes_step false false false r None now xs ys h none = h refl
no_writes_step false true w r (Some x) now xs ys h none = cc
no_writes_step false false w r (Some x) now xs ys h none = cc

-- with none open there are no writes of an open transaction
pub no_writes : (schema : Schema) (h : History) (i : ℕ) → log_at_begin schema h i ≡ None → own schema h i ≡ []
no_writes schema [] i none = refl
no_writes schema (step ∷ h) i none = no_writes_step (ends i step) (begins i step) (is_write_of i step) _ (log_at_begin schema h i) (log schema h) _ (own schema h i) (no_writes schema h i) none

pub closed : (schema : Schema) (now : Log) (o : Option Log) (own : List Step) → open_from schema now o own ≡ None → o ≡ None
closed schema now None own e = refl
closed schema now (Some before) own e = cc

opens : (b : Bool) (o : Option Log) (now : Log) → b ≡ true → o ≡ None → ◌≡◌ {A = Option Log} (if b && is_none o then Some now else o) (Some now)
opens true o now e none = ap (λ o. if is_none o then Some now else o) none
opens false o now e none = cc

begins_itself : (i : ℕ) → i ≤ max_session → begins i (Begin i) ≡ true
begins_itself i small = grind (arith, nat_tests)

-- a BEGIN with none open opens one
pub session_begun : (schema : Schema) (h : History) (i : ℕ) → i ≤ max_session → open_in schema h i ≡ None
    → open_in schema (Begin i ∷ h) i ≡ Some (record { start = last (log schema h); rows = state (log schema h) (last (log schema h)); written = [] })
session_begun schema h i small none =
    let is_closed = closed (schema_after schema h) (log schema h) (log_at_begin schema h i) (own schema h i) none in
    let is_open = opens (begins i (Begin i)) (log_at_begin schema h i) (log schema h) (begins_itself i small) is_closed in
    let is_empty = no_writes schema h i is_closed in
    λ k. open_from (schema_after schema h) (log schema h) (is_open k) (is_empty k)

begins_other : (i j : ℕ) → j ≢ i → begins j (Begin i) ≡ false
begins_other i j other = grind (arith, nat_tests)

-- and changes nothing of another session
pub session_other : (schema : Schema) (h : History) (i j : ℕ) → j ≢ i → open_in schema (Begin i ∷ h) j ≡ open_in schema h j
session_other schema h i j other =
    ap (λ b. open_from (schema_after schema h) (log schema h) (if b && is_none (log_at_begin schema h j) then Some (log schema h) else log_at_begin schema h j) (own schema h j)) (begins_other i j other)

pub decided : {P : Type 0} (j i : ℕ) (b : Bool) → (j == i) ≡ b → (j ≡ i → P) → (j ≢ i → P) → P
decided j i true e same other = same (grind (arith, nat_tests))
decided j i false e same other = other (grind (arith, nat_tests))

-- what a transaction sees that begins now
now_is : (first : Schema) (w : World) (h : History) → Stands first w h → ◌≡◌ {A = Option OpenTransaction} (Some (opened_now w)) (Some (record { start = last (log first h); rows = state (log first h) (last (log first h)); written = [] }))
now_is first w h stands =
    (λ k. Some (record { start = stands.latest_is k; rows = rows_after [] (stands.changes_are k); written = [] }))
    ∙ ap (λ m. Some (record { start = last (log first h); rows = m; written = [] })) (rows_now (log first h) (log_rises first h))

-- the system with the transaction opened stands for the history with the BEGIN
pub begin_stands : (first : Schema) (w : World) (h : History) (i : ℕ) → i ≤ max_session → open_at w i ≡ None → Stands first w h
    → Stands first (put w i (Some (opened_now w))) (Begin i ∷ h)
begin_stands first w h i small none stands = record {
  schema_is = stands.schema_is;
  wide = length-set w.sessions i now ∙ stands.wide;
  changes_are = stands.changes_are;
  latest_is = stands.latest_is;
  sessions_are = λ j in_range. decided j i (j == i) refl
      (λ same. subst (λ k. get_or (set w.sessions i now) k None ≡ open_in first (Begin i ∷ h) k) (sym same)
      (get_or-set_same w.sessions i now None (omega (arith, stands.wide)) ∙ now_is first w h stands ∙ sym (session_begun first h i small (sym (stands.sessions_are i small) ∙ none))))
      (λ other. get_or-set_other w.sessions i j now None other ∙ stands.sessions_are j in_range ∙ sym (session_other first h i j other));
}
  where
    now : Option OpenTransaction
    now = Some (opened_now w)

-- a BEGIN where one is open changes nothing
stays : (schema : Schema) (now : Log) (o : Option Log) (own : List Step) (s : OpenTransaction) (b : Bool) → open_from schema now o own ≡ Some s
    → open_from schema now (if b && is_none o then Some now else o) own ≡ open_from schema now o own
stays schema now None own s b e = cc
stays schema now (Some before) own s true e = refl
stays schema now (Some before) own s false e = refl

refused_stands : (first : Schema) (w : World) (h : History) (i : ℕ) (s : OpenTransaction) → i ≤ max_session → open_at w i ≡ Some s → Stands first w h → Stands first w (Begin i ∷ h)
refused_stands first w h i s small is_open stands = record {
  schema_is = stands.schema_is;
  wide = stands.wide;
  changes_are = stands.changes_are;
  latest_is = stands.latest_is;
  sessions_are = λ j in_range. decided j i (j == i) refl
      (λ same. subst (λ k. open_at w k ≡ open_in first (Begin i ∷ h) k) (sym same)
      (stands.sessions_are i small ∙ sym (stays (schema_after first h) _ (log_at_begin first h i) (own first h i) s (begins i (Begin i)) (sym (stands.sessions_are i small) ∙ is_open))))
      (λ other. stands.sessions_are j in_range ∙ sym (session_other first h i j other));
}

open_reply : (schema : Schema) (now : Log) (o : Option Log) (own : List Step) (s : OpenTransaction) → open_from schema now o own ≡ Some s
    → ◌≡◌ {A = Reply} (Refused InTransaction) (elim o [ Some before ↦ Refused InTransaction | None ↦ Begun (last now) ])
open_reply schema now None own s e = cc
open_reply schema now (Some before) own s e = refl

turn_of : World → ℕ → Option OpenTransaction → Turn
turn_of w i (Some s) = (Refused InTransaction, w)
turn_of w i None = (Begun w.latest, put w i (Some (opened_now w)))

answers_at : (first : Schema) (w : World) (h : History) (i : ℕ) (o : Option OpenTransaction) → i ≤ max_session → Stands first w h → open_at w i ≡ o
    → ((turn_of w i o).0 ≡ reply_in first h (Begin i)) × Stands first (turn_of w i o).1 (Begin i ∷ h)
unfolding turn_of
answers_at first w h i (Some s) small stands e =
    (open_reply (schema_after first h) (log first h) (log_at_begin first h i) (own first h i) s (sym (stands.sessions_are i small) ∙ e), refused_stands first w h i s small e stands)
answers_at first w h i None small stands e =
    let is_closed = closed (schema_after first h) (log first h) (log_at_begin first h i) (own first h i) (sym (stands.sessions_are i small) ∙ e) in
    (ap Begun stands.latest_is ∙ sym (ap (λ o. elim o [ Some before ↦ Refused InTransaction | None ↦ Begun (last (log first h)) ]) is_closed), begin_stands first w h i small e stands)

same_turn : (w : World) (i : ℕ) (o : Option OpenTransaction) → turn_of w i o ≡ elim o [
  | Some s ↦ (Refused InTransaction, w)
  | None ↦ (Begun w.latest, put w i (Some (opened_now w)))
]
unfolding turn_of
same_turn w i (Some s) = refl
same_turn w i None = refl

-- the turn is the reply, and leaves a system that stands for the history with the BEGIN
pub begin_answers : (first : Schema) (w : World) (h : History) (i : ℕ) → i ≤ max_session → Stands first w h → ((begin_turn w i).0 ≡ reply_in first h (Begin i)) × Stands first (begin_turn w i).1 (Begin i ∷ h)
begin_answers first w h i small stands =
    subst (λ (t : Turn). (t.0 ≡ reply_in first h (Begin i)) × Stands first t.1 (Begin i ∷ h)) (same_turn w i (open_at w i)) (answers_at first w h i (open_at w i) small stands refl)
