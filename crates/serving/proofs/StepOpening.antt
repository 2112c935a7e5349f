-- Steps that begin, end or read a transaction.
use Rattle.std.proofs.Common.{◌≡◌, ◌≢◌, ◌⊎◌, ℕ, List, [], ◌∷◌, Bool, true, false, not, Option, Some, None, Result, Ok, Err, inl, inr, refl, sym, ap, ◌∙◌, subst}
use Rattle.std.specs.Prelude.{◌==◌, ◌||◌, IsOk, MatchOption}
use Rattle.std.specs.Option.{is_none, is_some, option_map, unwrap_or}
use Rattle.values.specs.declared.query.Form.{Form}
use Rattle.values.specs.declared.query.Form.TheVariants.{Plain, AsOf, FromTo, Between}
use Rattle.values.specs.declared.query.Keys.{Keys}
use Rattle.values.specs.declared.refusal.Refusal.{Refusal}
use Rattle.values.specs.declared.refusal.Refusal.TheVariants.{NoTransaction, NoTable, TransactionsOpen, Memory}
use Rattle.values.specs.declared.table.Table.{Table}
use Rattle.values.specs.Tables.{Schema, table_at}
use Rattle.values.specs.Log.{Changes, Net}
use Rattle.values.specs.RowsAfter.{rows_after}
use Rattle.values.specs.Writes.{Own, net_of}
use Rattle.sessions.specs.tsbtree.View.{last}
use Rattle.sessions.specs.staging.Own.{own}
use Rattle.sessions.specs.transaction.Listing.{listing_in}
use Rattle.steps.specs.declared.step.Listing.{Listing}
use Rattle.values.specs.declared.table.ColumnType.{ColumnType}
use Rattle.steps.specs.declared.step.Step.TheVariants.{Begin, Select, Commit, Rollback, AddColumn}
use Rattle.steps.specs.declared.step.Reply.{Reply}
use Rattle.steps.specs.declared.step.Reply.TheVariants.{Begun, Shown, RolledBack, Refused}
use Rattle.steps.specs.Misfit.{misfit}
use Rattle.sessions.specs.journal.declared.entry.Entry.{Entry}
use Rattle.sessions.specs.journal.declared.entry.Entry.TheVariants.{Commit as Commits}
use Rattle.sessions.specs.declared.refusal.StoreRefusal.TheVariants.{Session}
use Rattle.sessions.specs.SessionState.{SessionTransactionState, SessionState, IsSelect, TakesNoMemory, select_in, start_of, with_transaction}
use Rattle.sessions.specs.Store.{IsBegun, IsCommitted, begun_with}
use Rattle.serving.specs.declared.answer.Sent.{Sent}
use Rattle.serving.specs.declared.answer.Sent.TheVariants.{Reply as Says, Ending, Refused as Denies}
use Rattle.serving.specs.Progress.{Given, ServedTransaction, Progress, after, unwritten, listed, query, IsBegin, Replies, TakesBegin}
use Rattle.serving.specs.Serving.{IsAt, IsByBook, IsOpened, IsOpenAs, IsReplied, IsSentFor, IsStepped, ending_in, reply_by, sent_listing, sent_refusal}
use Rattle.serving.proofs.AnswerRefusing.{memory_or_reply}
use Rattle.serving.proofs.BookRefusalsKnown.{listing_by_book}
use Rattle.serving.proofs.ProgressAsking.{fits_of, never, nothing_of, or_right}

pub none_open : (schema : Schema) (t : Option SessionTransactionState) (o : Option ServedTransaction) → t ≡ None → IsOpenAs schema t o → o ≡ None
none_open schema None None e is = refl
none_open schema None (Some o) e is = absurd is
none_open schema (Some t) o e is = cc

pub not_open : (s : SessionState) → is_some (start_of s) ≡ false → s.transaction ≡ None
not_open s e = by s.transaction e
  where
    by : (t : Option SessionTransactionState) → is_some (option_map (λ t. t.begun.start) t) ≡ false → t ≡ None
    by None e = refl
    by (Some t) e = cc

pub is_open : (s : SessionState) → is_some (start_of s) ≡ true → (t : SessionTransactionState) × (s.transaction ≡ Some t)
is_open s e = by s.transaction e
  where
    by : (t : Option SessionTransactionState) → is_some (option_map (λ t. t.begun.start) t) ≡ true → (x : SessionTransactionState) × (t ≡ Some x)
    by None e = cc
    by (Some t) e = (t, refl)

-- what a session with this transaction open has come to
pub record Open (schema : Schema) (t : SessionTransactionState) (o : Option ServedTransaction) : Type 0 where
  pub one : ServedTransaction
  pub is : o ≡ Some one
  pub opened : IsOpened schema t one

pub some_open : (schema : Schema) (t : Option SessionTransactionState) (ran : SessionTransactionState) (o : Option ServedTransaction) → t ≡ Some ran → IsOpenAs schema t o → Open schema ran o
some_open schema None ran o e is = cc
some_open schema (Some t) ran None e is = absurd is
some_open schema (Some t) ran (Some o) e is = record { one = o; is = refl; opened = subst (λ (x : Option SessionTransactionState). IsOpenAs schema x (Some o)) e is }

pub by_none : {A : Type 0} (B : A → Type 0) (C : Type 0) (o : Option A) → o ≡ None → C → MatchOption o C B
by_none B C None e c = c
by_none B C (Some a) e c = cc

pub by_some : {A : Type 0} (B : A → Type 0) (C : Type 0) (o : Option A) (a : A) → o ≡ Some a → B a → MatchOption o C B
by_some B C None a e b = cc
by_some {A = A} B C (Some x) a e b = subst (λ (x : Option A). MatchOption x C B) (sym e) b

abbrev pub given_as : ℕ → Entry → Given
given_as n e = record { number = n; entry = e }

module _ (old new : SessionState) (n : ℕ) (e : Entry) (b : IsBegun old new n e) where
  -- the changes that the view shows
  abbrev pub shown : Changes
  shown = b.shows.0

  pub begins : (p : Progress) → IsAt old p → IsBegin old.schema old.number p shown b.view (given_as n e)
  begins p at = record {
    earlier = b.earlier;
    entry_is = b.entry_is;
    names = subst (λ k. ((b.earlier == 0) || (b.earlier == k)) ≡ true) (sym at.receipt_is) b.names;
    held = b.shows.1;
  }

  pub begun_at : IsAt new (after n (Some (unwritten n shown)))
  begun_at = subst (λ s. IsAt s (after n (Some (unwritten n shown)))) (sym b.session_is) (record { receipt_is = refl; open_is = record { begin_is = refl; held = b.shows.1; own_is = refl } })

  begun : (instant : ℕ) → instant ≡ last b.view → (p : Progress) → IsAt old p → TakesBegin old.schema old.number p (given_as n e ∷ []) (Begun instant) (after n (Some (unwritten n shown)))
  begun instant is p at = record {
    receipt = given_as n e;
    changes = shown;
    view = b.view;
    takes = refl;
    begins = begins p at;
    reply_is = ap Begun is;
    left = refl;
  }

  pub begin_stepped : (may_give : ℕ → Bool) (instant : ℕ) → instant ≡ unwrap_or (start_of new) 0 → old.transaction ≡ None
      → IsStepped may_give (Begin old.number) old new (record { given = Some (given_as n e); install = None; sent = Says (Begun instant) })
  begin_stepped may_give instant is none = record {
    schema_is = ap (λ s. s.schema) b.session_is;
    number_is = ap (λ s. s.number) b.session_is;
    alone = never (not (is_some old.transaction)) (ap (λ t. not (is_some t)) none);
    by_book = λ r f. cc;
    steps = λ p at. (
      after n (Some (unwritten n shown)),
      (begun_at, by_none _ _ p.transaction (none_open old.schema old.transaction p.transaction none at.open_is) (begun instant (is ∙ ap (λ s. unwrap_or (start_of s) 0) b.session_is) p at)),
    );
  }

-- ---- the end of a transaction

pub commit_stepped : (may_give : ℕ → Bool) (old new : SessionState) (reading n : ℕ) (e : Entry) → IsCommitted old new reading n e → may_give reading ≡ true
    → IsStepped may_give (Commit old.number 0) old new (record { given = Some (given_as n e); install = None; sent = Ending })
commit_stepped may_give old new reading n e b may = record {
  schema_is = ap (λ s. s.schema) b.session_is;
  number_is = ap (λ s. s.number) b.session_is;
  alone = never (is_some old.transaction) (ap is_some b.was_open);
  by_book = λ r f. cc;
  steps = λ p at.
      let o = some_open old.schema old.transaction b.ran p.transaction b.was_open at.open_is in (
        after n None,
        (
          subst (λ s. IsAt s (after n None)) (sym b.session_is) (record { receipt_is = refl; open_is = tt }),
          by_some _ _ p.transaction o.one o.is (record {
            receipt = given_as n e;
            reading = reading;
            end = b.end;
            may = may;
            takes = refl;
            entry_is = b.entry_is ∙ (λ k. Commits old.number (sym o.opened.begin_is k) (net o.one o.opened k) reading b.end);
            reply_is = ap ending_in b.entry_is;
            left = refl;
          }),
        ),
      );
}
  where
    net : (o : ServedTransaction) (is : IsOpened old.schema b.ran o) → b.net ≡ net_of (rows_after [] o.changes) o.own.rows o.own.written
    net o is = b.net_is o.changes is.held ∙ ap (λ (x : Own). net_of (rows_after [] o.changes) x.rows x.written) (sym is.own_is)

abbrev pub rolled : Option SessionTransactionState → Reply
rolled None = Refused NoTransaction
rolled (Some t) = RolledBack

pub rollback_stepped : (may_give : ℕ → Bool) (old new : SessionState) (reply : Reply) → reply ≡ rolled old.transaction → new ≡ with_transaction old None → IsStepped may_give (Rollback old.number) old new (record { given = None; install = None; sent = Says reply })
rollback_stepped may_give old new reply is left = record {
  schema_is = ap (λ s. s.schema) left;
  number_is = ap (λ s. s.number) left;
  alone = λ e. refl;
  by_book = λ r f. cc;
  steps = λ p at. (after p.receipt None, (subst (λ s. IsAt s (after p.receipt None)) (sym left) (record { receipt_is = at.receipt_is; open_is = tt }), by p old.transaction p.transaction refl is at.open_is));
}
  where
    by : (p : Progress) (t : Option SessionTransactionState) (o : Option ServedTransaction) → p.transaction ≡ o → reply ≡ rolled t → IsOpenAs old.schema t o
        → MatchOption o (Replies (Refused NoTransaction) p [] reply (after p.receipt None)) (λ t. Replies RolledBack (after p.receipt None) [] reply (after p.receipt None))
    by p None None same is so = record { takes = refl; reply_is = is; left = λ k. after p.receipt (sym same k) }
    by p None (Some o) same is so = absurd so
    by p (Some t) None same is so = absurd so
    by p (Some t) (Some o) same is so = record { takes = refl; reply_is = is; left = refl }

pub rolled_ok : (t : Option SessionTransactionState) (x : Unit {0}) (r : Result (Unit {0}) Refusal) → r ≡ Ok x → MatchOption t (r ≡ Err NoTransaction) (λ _. IsOk r) → RolledBack ≡ rolled t
rolled_ok None x r e which = cc
rolled_ok (Some t) x r e which = refl

pub rolled_err : (t : Option SessionTransactionState) (refusal : Refusal) (r : Result (Unit {0}) Refusal) → r ≡ Err refusal → MatchOption t (r ≡ Err NoTransaction) (λ _. IsOk r) → Refused refusal ≡ rolled t
rolled_err None refusal r e which = cc
rolled_err (Some t) refusal r e which = cc

-- ---- a column is refused

pub column_refused : (may_give : ℕ → Bool) (s : SessionState) (j number : ℕ) (name : List ℕ) (of : ColumnType)
    → IsStepped may_give (AddColumn j number name of) s s (record { given = None; install = None; sent = Says (Refused TransactionsOpen) })
column_refused may_give s j number name of = record {
  schema_is = refl;
  number_is = refl;
  alone = λ e. refl;
  by_book = λ r f. cc;
  steps = λ p at. (p, (at, record { takes = refl; reply_is = refl; left = refl }));
}

-- ---- queries

listed_same : (m : Changes) (writes : Net) (o : Own) (table : Table) (form : Form) (keys : Keys) → o ≡ own m writes → listing_in m writes table form keys ≡ listed m o table form keys
listed_same m writes o table Plain keys is = ap (λ (x : Own). listed m x table Plain keys) (sym is)
listed_same m writes o table (AsOf t) keys is = refl
listed_same m writes o table (FromTo a b) keys is = refl
listed_same m writes o table (Between a b) keys is = refl

-- what a query of an open transaction answers
module _ (number : ℕ) (schema : Schema) (receipt : ℕ) (t : SessionTransactionState) (o : ServedTransaction) (is : IsOpened schema t o) (form : Form) (keys : Keys) where
  abbrev pub said : Result Listing Refusal → Reply
  said (Ok listing) = Shown listing
  said (Err refusal) = Refused refusal

  abbrev in_table : Option Table → Result Listing Refusal
  in_table table = elim table [ None ↦ Err NoTable | Some table ↦ Ok (listing_in o.changes t.writes table form keys) ]

  abbrev in_table_reply : Option Table → Reply
  in_table_reply table = elim table [ None ↦ Refused NoTable | Some table ↦ Shown (listed o.changes o.own table form keys) ]

  with_table : (table : Option Table) → said (in_table table) ≡ in_table_reply table
  with_table None = refl
  with_table (Some table) = ap Shown (listed_same o.changes t.writes o.own table form keys is.own_is)

  abbrev unless : Option Refusal → Result Listing Refusal
  unless r = elim r [ Some refusal ↦ Err refusal | None ↦ in_table (table_at schema keys.table) ]

  abbrev unless_reply : Option Refusal → Reply
  unless_reply r = elim r [ Some refusal ↦ Refused refusal | None ↦ in_table_reply (table_at schema keys.table) ]

  with_misfit : (r : Option Refusal) → said (unless r) ≡ unless_reply r
  with_misfit None = with_table (table_at schema keys.table)
  with_misfit (Some refusal) = refl

  pub said_is : said (select_in o.changes (record { number = number; schema = schema; receipt = receipt; transaction = Some t }) form keys) ≡ query schema number o.changes o.own form keys
  said_is = with_misfit (misfit schema (Select number form keys))

  abbrev s : SessionState
  s = record { number = number; schema = schema; receipt = receipt; transaction = Some t }

  -- it is sent, or memory ran out
  pub sent_query : (listing : Result Listing Refusal) → IsSelect s form keys listing
      → ((listing ≡ Err Memory) × (sent_listing listing ≡ Denies (Session Memory))) ⊎ (sent_listing listing ≡ Says (query schema number o.changes o.own form keys))
  sent_query (Ok listing) select = inr (ap (λ r. Says (said r)) (select o.changes is.held (λ e. cc)) ∙ ap Says said_is)
  sent_query (Err refusal) select = by (memory_or_reply refusal)
    where
      refusal_in : Result Listing Refusal → Refusal
      refusal_in (Err r) = r
      refusal_in (Ok l) = refusal

      memory_of : ◌≡◌ {A = Result Listing Refusal} (Err refusal) (Err Memory) → refusal ≡ Memory
      memory_of e = ap refusal_in e

      by : (refusal ≡ Memory) ⊎ ((refusal ≢ Memory) × (sent_refusal refusal ≡ Says (Refused refusal)))
          → (◌≡◌ {A = Result Listing Refusal} (Err refusal) (Err Memory) × (sent_refusal refusal ≡ Denies (Session Memory))) ⊎ (sent_refusal refusal ≡ Says (query schema number o.changes o.own form keys))
      by (inl e) = inl (ap (λ x. Err x) e, ap sent_refusal e)
      by (inr f) = inr (f.1 ∙ ap (λ r. Says (said r)) (select o.changes is.held (λ e. f.0 (memory_of e))) ∙ ap Says said_is)

-- with a transaction open
pub query_stepped : (may_give : ℕ → Bool) (s : SessionState) (form : Form) (keys : Keys) (sent : Sent) (ran : SessionTransactionState) → s.transaction ≡ Some ran → IsSentFor s form keys sent
    → IsStepped may_give (Select s.number form keys) s s (record { given = None; install = None; sent = sent })
query_stepped may_give s form keys sent ran there so = record {
  schema_is = refl;
  number_is = refl;
  alone = λ e. refl;
  by_book = subst IsByBook (sym so.1.1.1) (listing_by_book so.0);
  steps = λ p at.
      let o = some_open s.schema s.transaction ran p.transaction there at.open_is in
      (p, (at, by p o (sent_query s.number s.schema s.receipt ran o.one o.opened form keys so.0 (subst (λ (x : Option SessionTransactionState). IsSelect (record { number = s.number; schema = s.schema; receipt = s.receipt; transaction = x }) form keys so.0) there so.1.0))));
}
  where
    by : (p : Progress) (o : Open s.schema ran p.transaction) → ((so.0 ≡ Err Memory) × (sent_listing so.0 ≡ Denies (Session Memory))) ⊎ (sent_listing so.0 ≡ Says (query s.schema s.number (o.one).changes (o.one).own form keys))
        → IsReplied may_give s.schema s.number (Select s.number form keys) p [] (reply_by None sent) p
    by p o (inl e) = subst (λ x. IsReplied may_give s.schema s.number (Select s.number form keys) p [] (reply_by None x) p) (sym (so.1.1.1 ∙ e.1)) (record {
      may = or_right (not (is_some p.transaction)) _ (fits_of (misfit s.schema (Select s.number form keys)) (is_none s.transaction) (λ unfit. so.1.1.0 unfit e.0));
      takes = refl;
      left = refl;
    })
    by p o (inr e) = subst (λ x. IsReplied may_give s.schema s.number (Select s.number form keys) p [] (reply_by None x) p) (sym (so.1.1.1 ∙ e)) (by_some _ _ p.transaction o.one o.is (record { takes = refl; reply_is = refl; left = refl }))

-- with none open: a begin, the query, and a rollback
pub alone_stepped : (may_give : ℕ → Bool) (old between new : SessionState) (n : ℕ) (e : Entry) (form : Form) (keys : Keys) (sent : Sent) (b : IsBegun old between n e) → old.transaction ≡ None → IsSentFor between form keys sent
    → new ≡ with_transaction between None → IsStepped may_give (Select old.number form keys) old new (record { given = Some (given_as n e); install = None; sent = sent })
alone_stepped may_give old between new n e form keys sent b none so left = record {
  schema_is = ap (λ s. s.schema) left ∙ ap (λ s. s.schema) b.session_is;
  number_is = ap (λ s. s.number) left ∙ ap (λ s. s.number) b.session_is;
  alone = never (not (is_some old.transaction)) (ap (λ t. not (is_some t)) none);
  by_book = subst IsByBook (sym so.1.1.1) (listing_by_book so.0);
  steps = λ p at. (
    after n None,
    (
      subst (λ s. IsAt s (after n None)) (sym (left ∙ ap (λ s. with_transaction s None) b.session_is)) (record { receipt_is = refl; open_is = tt }),
      by p at (none_open old.schema old.transaction p.transaction none at.open_is)
          (sent_query old.number old.schema n (begun_with n b.earlier b.view) (unwritten n (shown old between n e b)) (record { begin_is = refl; held = b.shows.1; own_is = refl }) form keys so.0 (subst (λ s. IsSelect s form keys so.0) b.session_is so.1.0)),
    ),
  );
}
  where
    m : Changes
    m = shown old between n e b

    unfit : TakesNoMemory (record { number = old.number; schema = old.schema; receipt = n; transaction = Some (begun_with n b.earlier b.view) }) (misfit old.schema (Select old.number form keys)) so.0
    unfit = subst (λ s. TakesNoMemory s (misfit s.schema (Select s.number form keys)) so.0) b.session_is so.1.1.0

    by : (p : Progress) → IsAt old p → p.transaction ≡ None → ((so.0 ≡ Err Memory) × (sent_listing so.0 ≡ Denies (Session Memory))) ⊎ (sent_listing so.0 ≡ Says (query old.schema old.number m (own m []) form keys))
        → IsReplied may_give old.schema old.number (Select old.number form keys) p (given_as n e ∷ []) (reply_by (Some (given_as n e)) sent) (after n None)
    by p at is (inl f) = subst (λ x. IsReplied may_give old.schema old.number (Select old.number form keys) p (given_as n e ∷ []) (reply_by (Some (given_as n e)) x) (after n None)) (sym (so.1.1.1 ∙ f.1))
        (is, (nothing_of (misfit old.schema (Select old.number form keys)) false (λ u. unfit u f.0), record { receipt = given_as n e; changes = m; view = b.view; takes = refl; begins = begins old between n e b p at; refusal_is = refl; left = refl }))
    by p at is (inr f) = subst (λ x. IsReplied may_give old.schema old.number (Select old.number form keys) p (given_as n e ∷ []) (reply_by (Some (given_as n e)) x) (after n None)) (sym (so.1.1.1 ∙ f))
        (by_none _ _ p.transaction is (record { receipt = given_as n e; changes = m; view = b.view; takes = refl; begins = begins old between n e b p at; reply_is = refl; left = refl }))
