-- How a step of a served session is taken: the receipts that it takes, its reply, and what it leaves.
use Rattle.std.specs.Prelude.{◌≡◌, ℕ, List, [], ◌∷◌, Bool, true, false, not, Option, Some, None, Result, ◌==◌, ◌||◌, ◌&&◌, ◌⊎◌, is_some, is_none, MatchOption}
use Rattle.std.specs.Option.{option_map}
use Rattle.values.specs.declared.key.Key.{Key}
use Rattle.values.specs.declared.table.Table.{Table}
use Rattle.values.specs.declared.query.Form.{Form}
use Rattle.values.specs.declared.query.Form.TheVariants.{Plain, AsOf, FromTo, Between}
use Rattle.values.specs.declared.query.Keys.{Keys}
use Rattle.values.specs.declared.refusal.Refusal.{Refusal}
use Rattle.values.specs.declared.refusal.Refusal.TheVariants.{NoTable, NoTransaction, TransactionsOpen, InTransaction, JournalFull, Memory}
use Rattle.values.specs.Tables.{Schema, table_at}
use Rattle.values.specs.KeyEncoding.{bytes_of_key}
use Rattle.values.specs.Log.{Changes}
use Rattle.values.specs.RowsAfter.{rows_after}
use Rattle.values.specs.Versions.{answer}
use Rattle.values.specs.Writes.{Own, net_of}
use Rattle.datanode.specs.Node.{Node}
use Rattle.blocks.specs.Block.{block_of}
use Rattle.sessions.specs.treenodes.Node.{TreeNode, data_node}
use Rattle.sessions.specs.treenodes.Backlog.{IsFirstWaiting, IsWaiting}
use Rattle.sessions.specs.tsbtree.View.{TreeState, last}
use Rattle.sessions.specs.staging.View.{Holds}
use Rattle.sessions.specs.staging.Own.{own}
use Rattle.sessions.specs.validation.declared.cut.Cut.{Cut}
use Rattle.sessions.specs.validation.declared.cut.Cut.TheVariants.{Key as KeyCut, Time as TimeCut}
use Rattle.steps.specs.declared.step.Listing.{Listing}
use Rattle.steps.specs.declared.step.Listing.TheVariants.{Rows}
use Rattle.steps.specs.declared.step.Step.{Step}
use Rattle.steps.specs.declared.step.Step.TheVariants.{Begin, Insert, Update, Delete, UpdatePortion, DeletePortion, Select, Commit, Rollback, AddColumn, SplitKey, SplitTime, Migrate}
use Rattle.steps.specs.declared.step.Reply.{Reply}
use Rattle.steps.specs.declared.step.Reply.TheVariants.{Begun, Shown, RolledBack, Done, Refused}
use Rattle.steps.specs.Misfit.{misfit, key_misfit}
use Rattle.steps.specs.Reply.{commit_reply, written_reply}
use Rattle.steps.specs.Listing.{rows_taken}
use Rattle.sessions.specs.transaction.Listing.{as_listing}
use Rattle.sessions.specs.journal.declared.entry.Entry.{Entry}
use Rattle.sessions.specs.journal.declared.entry.Entry.TheVariants.{Begin as Begins, Commit as Commits, Split as Splits, Install as Installs}
use Rattle.sessions.specs.SessionState.{write_by}

-- a receipt: an entry of the journal, and its number
pub record Given : Type 0 where
  pub number : ℕ
  pub entry : Entry

-- an open transaction: its begin's number, what was committed when it began, and its own rows and keys
pub record ServedTransaction : Type 0 where
  pub begin : ℕ
  pub changes : Changes
  pub own : Own

-- what lines leave: the number of the session's last receipt, and its open transaction or none
pub record Progress : Type 0 where
  pub receipt : ℕ
  pub transaction : Option ServedTransaction

abbrev pub after : ℕ → Option ServedTransaction → Progress
after receipt transaction = record { receipt = receipt; transaction = transaction }

-- a transaction that has written nothing
abbrev pub unwritten : ℕ → Changes → ServedTransaction
unwritten begin m = record { begin = begin; changes = m; own = own m [] }

-- what a query of a table shows: a plain one the rows that the transaction sees, any other what was committed when it began
abbrev pub listed : Changes → Own → Table → Form → Keys → Listing
listed m o table Plain keys = Rows (rows_taken table keys o.rows)
listed m o table (AsOf t) keys = as_listing (AsOf t) (answer m table (AsOf t) keys)
listed m o table (FromTo a b) keys = as_listing (FromTo a b) (answer m table (FromTo a b) keys)
listed m o table (Between a b) keys = as_listing (Between a b) (answer m table (Between a b) keys)

-- with these of its rows and keys
abbrev pub with_own : Option ServedTransaction → Option Own → Option ServedTransaction
with_own (Some t) (Some o) = Some (record { begin = t.begin; changes = t.changes; own = o })
with_own t o = None

abbrev pub own_of : Option ServedTransaction → Option Own
own_of t = option_map (λ t. t.own) t

-- no receipt, this reply, and nothing is changed
pub record Replies (said : Reply) (p : Progress) (given : List Given) (reply : Reply)
    (p' : Progress) : Type 0 where
  pub takes : given ≡ []
  pub reply_is : reply ≡ said
  pub left : p' ≡ p

-- the receipt of a session's begin, which sees these changes, and names its receipt before or none
pub record IsBegin (schema : Schema) (i : ℕ) (p : Progress) (m : Changes) (view : TreeState)
    (g : Given) : Type 0 where
  pub earlier : ℕ
  pub entry_is : g.entry ≡ Begins i earlier view
  pub names : ((earlier == 0) || (earlier == p.receipt)) ≡ true
  pub held : Holds schema view m

-- the receipt of a begin of the service's own session, which has begun nothing before
abbrev pub IsServiceBegin : Schema → Changes → TreeState → Given → Type 0
IsServiceBegin schema m view g = IsBegin schema 0 (after 0 None) m view g

-- the first data node of history that the view shows unpacked was packed; its receipt tells whether the block took its place
pub record Packs (view : TreeState) (g : Given) : Type 0 where
  pub node : Node
  pub done : Bool
  pub first : IsFirstWaiting view.nodes None (data_node node)
  pub entry_is : g.entry ≡ Installs node.rect (block_of node) done

-- that node was packed, where the view shows one
abbrev pub PacksFirst : TreeState → List Given → Type 0
PacksFirst view [] = (n : TreeNode) → IsWaiting view.nodes None n → ⊥
PacksFirst view (g ∷ []) = Packs view g
PacksFirst view (g ∷ h ∷ more) = ⊥

module _ (schema : Schema) (i : ℕ) where
  -- BEGIN with none open
  pub record TakesBegin (p : Progress) (given : List Given) (reply : Reply) (p' : Progress) : Type 0
    where
      pub receipt : Given
      pub changes : Changes
      pub view : TreeState
      pub takes : given ≡ receipt ∷ []
      pub begins : IsBegin schema i p changes view receipt
      pub reply_is : reply ≡ Begun (last view)
      pub left : p' ≡ after receipt.number (Some (unwritten receipt.number changes))

  -- what a query answers
  abbrev pub query : Changes → Own → Form → Keys → Reply
  query m o form keys = elim (misfit schema (Select i form keys)) [
    | Some refusal ↦ Refused refusal
    | None ↦ elim (table_at schema keys.table) [
      | None ↦ Refused NoTable
      | Some table ↦ Shown (listed m o table form keys)
    ]
  ]

  -- SELECT with none open: a begin, the query, and a rollback
  pub record TakesQuery (form : Form) (keys : Keys) (p : Progress) (given : List Given)
      (reply : Reply) (p' : Progress) : Type 0 where
    pub receipt : Given
    pub changes : Changes
    pub view : TreeState
    pub takes : given ≡ receipt ∷ []
    pub begins : IsBegin schema i p changes view receipt
    pub reply_is : reply ≡ query changes (own changes []) form keys
    pub left : p' ≡ after receipt.number None

  -- a write: what the definitions answer and leave
  pub record TakesWrite (step : Step) (p : Progress) (given : List Given) (reply : Reply)
      (p' : Progress) : Type 0 where
    pub takes : given ≡ []
    pub reply_is : reply
        ≡ written_reply step (write_by schema step (misfit schema step) (own_of p.transaction)).0
    pub left : p' ≡ after p.receipt (with_own p.transaction
        (write_by schema step (misfit schema step) (own_of p.transaction)).1)

  -- SPLIT: its receipt tells whether it was done
  pub record TakesSplit (cut : Cut) (p : Progress) (given : List Given) (reply : Reply)
      (p' : Progress) : Type 0 where
    pub receipt : Given
    pub done : Bool
    pub takes : given ≡ receipt ∷ []
    pub entry_is : receipt.entry ≡ Splits cut done
    pub reply_is : reply ≡ Done
    pub left : p' ≡ p

  abbrev pub takes_split : Key → Cut → Progress → List Given → Reply → Progress → Type 0
  takes_split key cut p given reply p' = elim (key_misfit schema key) [
    | Some refusal ↦ Replies (Refused refusal) p given reply p'
    | None ↦ TakesSplit cut p given reply p'
  ]

  -- MIGRATE: a begin of the service's own session, and the install of the first data node of history that it shows unpacked
  pub record TakesMigrate (p : Progress) (given : List Given) (reply : Reply) (p' : Progress)
      : Type 0 where
    pub receipt : Given
    pub packed : List Given
    pub changes : Changes
    pub view : TreeState
    pub takes : given ≡ receipt ∷ packed
    pub begins : IsServiceBegin schema changes view receipt
    pub packs : PacksFirst view packed
    pub reply_is : reply ≡ Done
    pub left : p' ≡ p

  -- the step asks the store for an entry, by whether a transaction is open
  abbrev pub asks_store : Step → Bool → Bool
  asks_store (Begin j) is_open = not is_open
  asks_store (Select j form keys) is_open = not is_open
  asks_store (Commit j reading) is_open = is_open
  asks_store (SplitKey key) is_open = is_none (key_misfit schema key)
  asks_store (SplitTime key instant) is_open = is_none (key_misfit schema key)
  asks_store Migrate is_open = true
  asks_store step is_open = false

  -- the step takes memory: it asks the store, or writes or reads rows in a transaction and fits the tables
  abbrev pub may_run_out : Step → Bool → Bool
  may_run_out (Insert j number rows) is_open =
      is_open && is_none (misfit schema (Insert i number rows))
  may_run_out (Update j keys sets) is_open = is_open && is_none (misfit schema (Update i keys sets))
  may_run_out (Delete j keys) is_open = is_open && is_none (misfit schema (Delete i keys))
  may_run_out (UpdatePortion j keys cut sets) is_open =
      is_open && is_none (misfit schema (UpdatePortion i keys cut sets))
  may_run_out (DeletePortion j keys cut) is_open =
      is_open && is_none (misfit schema (DeletePortion i keys cut))
  may_run_out (Select j form keys) is_open =
      not is_open || is_none (misfit schema (Select i form keys))
  may_run_out step is_open = asks_store step is_open

  -- what a step may be refused for: memory where it takes some, and where it asks the store a full journal, and a COMMIT also a transaction that is not open there
  abbrev pub may_be_refused : Step → Option ServedTransaction → Refusal → Bool
  may_be_refused step t Memory = may_run_out step (is_some t)
  may_be_refused step t JournalFull = asks_store step (is_some t)
  may_be_refused (Commit j reading) t NoTransaction = is_some t
  may_be_refused step t refusal = false

  -- a step is refused so, and changes nothing but that a SELECT may have begun
  pub record IsTurnedAway (step : Step) (p : Progress) (given : List Given) (refusal : Refusal)
      (p' : Progress) : Type 0 where
    pub may : may_be_refused step p.transaction refusal ≡ true
    pub takes : given ≡ []
    pub left : p' ≡ p

  -- a SELECT with none open began, and memory ran out while it read
  pub record IsLeftUnread (p : Progress) (given : List Given) (refusal : Refusal) (p' : Progress)
      : Type 0 where
    pub receipt : Given
    pub changes : Changes
    pub view : TreeState
    pub takes : given ≡ receipt ∷ []
    pub begins : IsBegin schema i p changes view receipt
    pub refusal_is : refusal ≡ Memory
    pub left : p' ≡ after receipt.number None

  -- a MIGRATE began, and there was no room for the block or for its entry
  pub record IsLeftUnpacked (p : Progress) (given : List Given) (refusal : Refusal) (p' : Progress)
      : Type 0 where
    pub receipt : Given
    pub changes : Changes
    pub view : TreeState
    pub takes : given ≡ receipt ∷ []
    pub begins : IsServiceBegin schema changes view receipt
    pub why : (refusal ≡ JournalFull) ⊎ (refusal ≡ Memory)
    pub left : p' ≡ p

  -- a step is refused after a receipt was taken
  abbrev pub IsLeft : Step → Progress → List Given → Refusal → Progress → Type 0
  IsLeft (Select j form keys) p given refusal p' =
      (p.transaction ≡ None)
      × ((misfit schema (Select i form keys) ≡ None) × IsLeftUnread p given refusal p')
  IsLeft Migrate p given refusal p' = IsLeftUnpacked p given refusal p'
  IsLeft step p given refusal p' = ⊥

  abbrev pub IsRefusedStep : Step → Progress → List Given → Refusal → Progress → Type 0
  IsRefusedStep step p (g ∷ given) refusal p' = IsLeft step p (g ∷ given) refusal p'
  IsRefusedStep step p [] refusal p' = IsTurnedAway step p [] refusal p'

-- by which readings of the clock may be given
module _ (may_give : ℕ → Bool) (schema : Schema) (i : ℕ) where
  -- COMMIT: its receipt names the transaction's begin, with its net changes and a reading that may be given, and tells how it ended
  pub record TakesCommit (t : ServedTransaction) (given : List Given) (reply : Reply)
      (p' : Progress) : Type 0 where
    pub receipt : Given
    pub reading : ℕ
    pub end : Result (Option ℕ) Refusal
    pub may : may_give reading ≡ true
    pub takes : given ≡ receipt ∷ []
    pub entry_is : receipt.entry
        ≡ Commits i t.begin (net_of (rows_after [] t.changes) t.own.rows t.own.written)
        reading end
    pub reply_is : reply ≡ commit_reply end
    pub left : p' ≡ after receipt.number None

  -- how a step of the session is taken
  abbrev pub Takes : Step → Progress → List Given → Reply → Progress → Type 0
  Takes (Begin j) p given reply p' = MatchOption p.transaction
      (TakesBegin schema i p given reply p')
      (λ t. Replies (Refused InTransaction) p given reply p')
  Takes (Insert j number rows) p given reply p' = TakesWrite schema i (Insert i number rows) p given reply p'
  Takes (Update j keys sets) p given reply p' = TakesWrite schema i (Update i keys sets) p given reply p'
  Takes (Delete j keys) p given reply p' = TakesWrite schema i (Delete i keys) p given reply p'
  Takes (UpdatePortion j keys cut sets) p given reply p' =
      TakesWrite schema i (UpdatePortion i keys cut sets) p given reply p'
  Takes (DeletePortion j keys cut) p given reply p' =
      TakesWrite schema i (DeletePortion i keys cut) p given reply p'
  Takes (Select j form keys) p given reply p' = MatchOption p.transaction
      (TakesQuery schema i form keys p given reply p')
      (λ t. Replies (query schema i t.changes t.own form keys) p given reply p')
  Takes (Commit j reading) p given reply p' = MatchOption p.transaction
      (Replies (Refused NoTransaction) p given reply p')
      (λ t. TakesCommit t given reply p')
  Takes (Rollback j) p given reply p' = MatchOption p.transaction
      (Replies (Refused NoTransaction) p given reply p')
      (λ t. Replies RolledBack (after p.receipt None) given reply p')
  -- no line of a session asks for it: a served store keeps its tables
  Takes (AddColumn j number name of) p given reply p' =
      Replies (Refused TransactionsOpen) p given reply p'
  Takes (SplitKey key) p given reply p' =
      takes_split schema i key (KeyCut (bytes_of_key key)) p given reply p'
  Takes (SplitTime key instant) p given reply p' =
      takes_split schema i key (TimeCut (bytes_of_key key) instant) p given reply p'
  Takes Migrate p given reply p' = TakesMigrate schema i p given reply p'
