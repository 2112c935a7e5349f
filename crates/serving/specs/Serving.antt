-- What a served session has come to, and what a step makes of it.
use Rattle.std.specs.Option.{option_map}
use Rattle.std.specs.Prelude.{◌≡◌, ◌⊎◌, ◌+◌, ◌++◌, ℕ, List, [], ◌∷◌, Bool, false, Option, Some, None, Result, Ok, Err, is_some, if◌then◌else◌}
use Rattle.values.specs.declared.refusal.Refusal.{Refusal}
use Rattle.values.specs.declared.refusal.Refusal.TheVariants.{Memory, JournalFull}
use Rattle.values.specs.declared.query.Form.{Form}
use Rattle.values.specs.declared.query.Keys.{Keys}
use Rattle.values.specs.Tables.{Schema}
use Rattle.values.specs.Log.{Changes}
use Rattle.sessions.specs.tsbtree.View.{TreeState}
use Rattle.sessions.specs.staging.View.{Holds}
use Rattle.sessions.specs.staging.Own.{own}
use Rattle.sessions.specs.validation.declared.cut.Cut.{Cut}
use Rattle.steps.specs.declared.step.Listing.{Listing}
use Rattle.steps.specs.declared.step.Step.{Step}
use Rattle.steps.specs.declared.step.Step.TheVariants.{Select}
use Rattle.steps.specs.declared.step.Reply.{Reply}
use Rattle.steps.specs.declared.step.Reply.TheVariants.{Refused, Shown, Done}
use Rattle.steps.specs.Misfit.{misfit}
use Rattle.steps.specs.Reply.{commit_reply}
use Rattle.statement.specs.Print.{refusal_text, reply_text}
use Rattle.sessions.specs.journal.declared.entry.Entry.{Entry}
use Rattle.sessions.specs.journal.declared.entry.Entry.TheVariants.{Begin, Commit, Split, Install}
use Rattle.sessions.specs.declared.refusal.StoreRefusal.{StoreRefusal}
use Rattle.sessions.specs.declared.refusal.StoreRefusal.TheVariants.{Session, Book}
use Rattle.sessions.specs.Refusal.{refusal_of}
use Rattle.sessions.specs.SessionState.{IsSelect, TakesNoMemory, SessionTransactionState, SessionState}
use Rattle.serving.specs.declared.answer.Sent.{Sent}
use Rattle.serving.specs.declared.answer.Sent.TheVariants.{Reply as Replies, Ending, Refused as Refuses}
use Rattle.serving.specs.BookRefusals.{BookRefusalsState, with_refusal}
use Rattle.serving.specs.Progress.{Given, IsServiceBegin, ServedTransaction, PacksFirst, Progress, Takes, IsRefusedStep, asks_store}

-- how a step was answered: with the receipts that it took
pub record AnswerState : Type 0 where
  pub given : Option Given
  pub install : Option Given
  pub sent : Sent

abbrev pub given_list : Option Given → List Given
given_list None = []
given_list (Some g) = g ∷ []

-- the receipts of an answer, in order
abbrev pub given_of : AnswerState → List Given
given_of a = given_list a.given ++ given_list a.install

abbrev pub taken_by : {A : Type 0} → Option A → ℕ
taken_by receipt = if is_some receipt then 1 else 0

abbrev pub taken_of : AnswerState → ℕ
taken_of a = taken_by a.given + taken_by a.install

-- how the commit of an entry ended
abbrev pub ending_in : Entry → Reply
ending_in (Commit session begin net reading end) = commit_reply end
ending_in (Begin session earlier view) = Done
ending_in (Split cut done) = Done
ending_in (Install rect block done) = Done

abbrev pub ending_of : Option Given → Reply
ending_of None = Done
ending_of (Some g) = ending_in g.entry

-- the reply that is sent, or why the step is refused
abbrev pub reply_by : Option Given → Sent → Result Reply Refusal
reply_by given (Replies reply) = Ok reply
reply_by given Ending = Ok (ending_of given)
reply_by given (Refuses refusal) = Err (refusal_of refusal)

abbrev pub reply_of : AnswerState → Result Reply Refusal
reply_of a = reply_by a.given a.sent

abbrev pub refused_of : Sent → Option Refusal
refused_of (Refuses refusal) = Some (refusal_of refusal)
refused_of (Replies reply) = None
refused_of Ending = None

-- what the book refused lines for, with an answer more
abbrev pub kept_of : BookRefusalsState → Sent → BookRefusalsState
kept_of r (Refuses (Book refusal)) = with_refusal r refusal
kept_of r (Refuses (Session refusal)) = r
kept_of r (Replies reply) = r
kept_of r Ending = r

-- what is refused, and not by the book, is refused for memory
abbrev pub IsByBook : Sent → Type 0
IsByBook sent = (refusal : Refusal) → sent ≡ Refuses (Session refusal) → refusal ≡ Memory

abbrev pub text_of : Result Reply Refusal → List ℕ
text_of (Ok reply) = reply_text reply
text_of (Err refusal) = refusal_text refusal

-- what is sent for a refusal: memory that ran out is no reply
abbrev pub sent_refusal : Refusal → Sent
sent_refusal Memory = Refuses (Session Memory)
sent_refusal refusal = Replies (Refused refusal)

abbrev pub sent_listing : Result Listing Refusal → Sent
sent_listing (Ok listing) = Replies (Shown listing)
sent_listing (Err refusal) = sent_refusal refusal

-- what is sent for a query of a session
abbrev pub IsSentFor : SessionState → Form → Keys → Sent → Type 0
IsSentFor s form keys sent =
    (listing : Result Listing Refusal)
    × (IsSelect s form keys listing
    × (TakesNoMemory s (misfit s.schema (Select s.number form keys)) listing
    × (sent ≡ sent_listing listing)))

-- a session's transaction is this
pub record IsOpened (schema : Schema) (t : SessionTransactionState) (o : ServedTransaction)
    : Type 0 where
  pub begin_is : o.begin ≡ t.begun.number
  pub held : Holds schema t.view o.changes
  pub own_is : o.own ≡ own o.changes t.writes

abbrev pub IsOpenAs : Schema → Option SessionTransactionState → Option ServedTransaction → Type 0
IsOpenAs schema None None = Unit {0}
IsOpenAs schema (Some t) (Some o) = IsOpened schema t o
IsOpenAs schema (Some t) None = ⊥
IsOpenAs schema None (Some o) = ⊥

-- a session has come to this
pub record IsAt (s : SessionState) (p : Progress) : Type 0 where
  pub receipt_is : p.receipt ≡ s.receipt
  pub open_is : IsOpenAs s.schema s.transaction p.transaction

-- by which readings of the clock may be given
module _ (may_give : ℕ → Bool) where
  -- a step is replied to, or refused
  abbrev pub IsReplied : Schema → ℕ → Step → Progress → List Given → Result Reply Refusal → Progress
      → Type 0
  IsReplied schema i step p given (Ok reply) p' = Takes may_give schema i step p given reply p'
  IsReplied schema i step p given (Err refusal) p' = IsRefusedStep schema i step p given refusal p'

  -- what an answer to a step makes of a session, whatever it has come to; one that does not ask the store takes no
  -- receipt, and only the book refuses it, or memory that ran out
  pub record IsStepped (step : Step) (old new : SessionState) (a : AnswerState) : Type 0 where
    pub schema_is : new.schema ≡ old.schema
    pub number_is : new.number ≡ old.number
    pub alone : asks_store old.schema old.number step (is_some old.transaction) ≡ false
        → given_of a ≡ []
    pub by_book : IsByBook a.sent
    pub steps : (p : Progress) → IsAt old p
        → (p' : Progress)
        × (IsAt new p' × IsReplied old.schema old.number step p (given_of a) (reply_of a) p')

-- a cut was made, if it lies inside a node, and its receipt tells whether; or there was no room for it
abbrev pub IsCutBy : Cut → Option Given → Result Reply Refusal → Type 0
IsCutBy cut None (Err refusal) = (refusal ≡ JournalFull) ⊎ (refusal ≡ Memory)
IsCutBy cut (Some g) (Ok reply) = (done : Bool) × ((g.entry ≡ Split cut done) × (reply ≡ Done))
IsCutBy cut None (Ok reply) = ⊥
IsCutBy cut (Some g) (Err refusal) = ⊥

-- there was no room
abbrev pub IsNoRoom : Refusal → Type 0
IsNoRoom refusal = (refusal ≡ JournalFull) ⊎ (refusal ≡ Memory)

-- and the book says so, or memory ran out before it was asked
abbrev pub IsRefusedForRoom : StoreRefusal → Type 0
IsRefusedForRoom e = (e ≡ Book JournalFull) ⊎ ((e ≡ Book Memory) ⊎ (e ≡ Session Memory))

abbrev pub MigrateEnds : TreeState → List Given → Result Reply Refusal → Type 0
MigrateEnds view packed (Ok reply) = (reply ≡ Done) × PacksFirst view packed
MigrateEnds view packed (Err refusal) = (packed ≡ []) × IsNoRoom refusal

-- the service began, and this is the receipt
abbrev pub HasServiceBegun : Schema → Given → Type 0
HasServiceBegun schema receipt =
    (changes : Changes) × (view : TreeState) × IsServiceBegin schema changes view receipt

-- the service began, and what its begin shows was packed, or there was no room for it
pub record Migrated (schema : Schema) (receipt : Given) (packed : List Given)
    (reply : Result Reply Refusal) : Type 0 where
  pub changes : Changes
  pub view : TreeState
  pub begins : IsServiceBegin schema changes view receipt
  pub ends : MigrateEnds view packed reply

abbrev pub IsMigrated : Schema → List Given → Result Reply Refusal → Type 0
IsMigrated schema [] (Err refusal) = IsNoRoom refusal
IsMigrated schema [] (Ok reply) = ⊥
IsMigrated schema (receipt ∷ packed) reply = Migrated schema receipt packed reply

-- what a begin shows was packed, or there was no room for it; where the entry is no begin nothing is said
abbrev pub IsPackedOf : {A : Type 0} → (A → Given) → Entry → Result (Option A) StoreRefusal → Type 0
IsPackedOf f (Begin session earlier view) (Ok install) =
    PacksFirst view (given_list (option_map f install))
IsPackedOf f (Begin session earlier view) (Err refusal) = IsRefusedForRoom refusal
IsPackedOf f e r = Unit {0}
