-- A load, from what its calls do.
use Rattle.std.proofs.Common.{◌≡◌, ◌≢◌, ℕ, List, [], ◌∷◌, Option, Some, None, refl, sym, ap, ◌∙◌, subst, inl, inr}
use Rattle.std.specs.Prelude.{◌⊎◌, Result, Ok, Err, IfErr, IfOk}
use Rattle.values.specs.Log.{Changes, Net, Row}
use Rattle.values.specs.Tables.{Schema}
use Rattle.values.specs.Writes.{Own}
use Rattle.values.specs.declared.refusal.Refusal.{Refusal}
use Rattle.values.specs.declared.refusal.Refusal.TheVariants.{Memory, NoTransaction}
use Rattle.sessions.specs.tsbtree.View.{TreeState}
use Rattle.sessions.specs.staging.View.{Holds}
use Rattle.sessions.specs.staging.Own.{net_over, own}
use Rattle.steps.specs.declared.step.Step.{Step}
use Rattle.steps.specs.declared.step.Step.TheVariants.{Insert}
use Rattle.steps.specs.Write.{write}
use Rattle.steps.specs.Misfit.{misfit}
use Rattle.sessions.specs.journal.declared.entry.Entry.{Entry}
use Rattle.sessions.specs.journal.declared.entry.Entry.TheVariants.{Begin, Commit}
use Rattle.sessions.specs.SessionState.{IsWrite, SessionState, WithWrites, with_writes, write_by}
use Rattle.sessions.specs.Store.{IsBegun, begun_with}
use Rattle.serving.specs.Progress.{Given}
use Rattle.serving.proofs.AnswerRefusing.{memory_or_reply}
use Rattle.listening.specs.Loading.{HasEnded, IsCommitAt, IsLoadAt, IsLoadedAt, IsRefusedInsert, IsRoom, IsUnended, IsUnloaded, unbegun}

pub if_err : {A E : Type 0} (r : Result A E) (P Q : E → Type 0) → ((x : E) → P x → Q x) → IfErr r P → IfErr r Q
if_err (Ok x) P Q f p = tt
if_err (Err e) P Q f p = f e p

pub if_ok : {A E : Type 0} (r : Result A E) (P Q : A → Type 0) → ((x : A) → P x → Q x) → IfOk r P → IfOk r Q
if_ok (Ok x) P Q f p = f x p
if_ok (Err e) P Q f p = tt

both : {A B : Type 0} {a c : A} {b d : B} → a ≡ c → b ≡ d → ◌≡◌ {A = A × B} (a, b) (c, d)
both p q = λ i. (p i, q i)

inner : {A : Type 0} {a b : A} → Some a ≡ Some b → a ≡ b
inner e = cc e

-- an INSERT that was taken fits, and wrote what the definitions say
taken_by : (schema : Schema) (step : Step) (o o' : Own) (count : ℕ) (why : Option Refusal) → (Ok count, Some o') ≡ write_by schema step why (Some o) → (why ≡ None) × (write schema step o ≡ (Ok count, o'))
taken_by schema step o o' count (Some r) e = absurd (never (ap (λ p. p.0) e))
  where
    never : {r : Refusal} → ◌≢◌ {A = Result ℕ Refusal} (Ok count) (Err r)
    never e = cc e
taken_by schema step o o' count None e = (refl, sym (both (ap (λ p. p.0) e) (inner (ap (λ p. p.1) e))))

-- the entry of the commit is of the begin, and tells the instant
commit_entry : (e : Entry) (session begin begin' number reading instant : ℕ) (net net' : Net) (end : Result (Option ℕ) Refusal)
    → e ≡ Commit 0 begin net 0 end → begin ≡ number → number ≡ 1 → e ≡ Commit session begin' net' reading (Ok (Some instant)) → e ≡ Commit 0 1 net 0 (Ok (Some instant))
commit_entry e session begin begin' number reading instant net net' end is from first at = cc

-- ---- a session that has begun and then written

module _ (schema : Schema) (table : ℕ) (rows : List Row) (number earlier : ℕ) (view : TreeState) where
  abbrev at_with : Net → SessionState
  at_with writes = record { number = 0; schema = schema; receipt = number; transaction = Some (with_writes writes (begun_with number earlier view)) }

  loads_with : (writes : Net) (count : ℕ) (entry : Entry) (receipts : List Given) (instant : ℕ) → entry ≡ Begin 0 earlier view → (m : Changes) → Holds schema view m → IsWrite (Insert 0 table rows) (at_with []) (at_with writes) (Ok count)
      → HasEnded (at_with writes) (record { number = number; entry = entry }) receipts instant → IsLoadAt schema table rows receipts instant
  loads_with writes count entry receipts instant begins m held wrote ended = (
    record {
      earlier = earlier;
      view = view;
      net = ended.commits.net;
      instant = instant;
      given_is = ended.receipts_are ∙ (λ k. record { number = ended.first.0 k; entry = begins k } ∷ record { number = ended.first.1.0 k; entry = commits k } ∷ []);
      shown = m;
      held = held;
      fits = taken.0;
      count = count;
      writes = writes;
      inserted = taken.1;
      net_is = ended.commits.net_is m (subst (λ r. Holds schema r.view m) ran_is held) ∙ ap (λ r. net_over m r.writes) (sym ran_is);
    },
    refl,
  )
    where
      ran_is : with_writes writes (begun_with number earlier view) ≡ ended.commits.ran
      ran_is = inner ended.commits.was_open

      at : IsCommitAt ended.entry instant
      at = ended.first.1.1

      commits : ended.entry ≡ Commit 0 1 ended.commits.net 0 (Ok (Some instant))
      commits = commit_entry ended.entry at.0 ended.commits.ran.begun.number at.1 number at.3 instant ended.commits.net at.2 ended.commits.end ended.commits.entry_is (sym (ap (λ r. r.begun.number) ran_is)) ended.first.0 at.4

      taken : (misfit schema (Insert 0 table rows) ≡ None) × (write schema (Insert 0 table rows) (own m []) ≡ (Ok count, own m writes))
      taken = taken_by schema (Insert 0 table rows) (own m []) (own m writes) count (misfit schema (Insert 0 table rows)) (wrote m held (λ e. cc))

  -- the session after the INSERT is the session before it, with what was written
  loads_after : (t : SessionState) (count : ℕ) (entry : Entry) (receipts : List Given) (instant : ℕ) → entry ≡ Begin 0 earlier view → (m : Changes) → Holds schema view m → IsWrite (Insert 0 table rows) (at_with []) t (Ok count) → WithWrites (at_with []) t
      → HasEnded t (record { number = number; entry = entry }) receipts instant → IsLoadAt schema table rows receipts instant
  loads_after t count entry receipts instant begins m held wrote rest ended =
      loads_with rest.0 count entry receipts instant begins m held (subst (λ s. IsWrite (Insert 0 table rows) (at_with []) s (Ok count)) rest.1 wrote)
      (subst (λ s. HasEnded s (record { number = number; entry = entry }) receipts instant) rest.1 ended)

pub loads_by : (schema : Schema) (table : ℕ) (rows : List Row) (s t : SessionState) (number count : ℕ) (entry : Entry) (receipts : List Given) (instant : ℕ)
    → IsBegun (unbegun schema) s number entry → IsWrite (Insert s.number table rows) s t (Ok count) → WithWrites s t → HasEnded t (record { number = number; entry = entry }) receipts instant
    → IsLoadAt schema table rows receipts instant
loads_by schema table rows s t number count entry receipts instant begun wrote rest ended =
    loads_after schema table rows number begun.earlier begun.view t count entry receipts instant begun.entry_is begun.shows.0 begun.shows.1
    (subst (λ s. IsWrite (Insert s.number table rows) s t (Ok count)) begun.session_is wrote)
    (subst (λ s. WithWrites s t) begun.session_is rest)
    ended

-- there are rows
pub loaded_at : (schema : Schema) (table : ℕ) (rows : List Row) (receipts : List Given) (instant : ℕ) → (rows ≡ [] → ⊥) → IsLoadAt schema table rows receipts instant → IsLoadedAt schema table rows receipts instant
loaded_at schema table [] receipts instant some at = absurd (some refl)
loaded_at schema table (row ∷ rows) receipts instant some at = at

-- ---- why rows are not loaded

without_third : {A B C : Type 0} → A ⊎ (B × C) → A ⊎ B
without_third (inl a) = inl a
without_third (inr p) = inr p.0

-- an INSERT that is refused in a session that has begun
pub insert_refused : (schema : Schema) (table : ℕ) (rows : List Row) (s t : SessionState) (number : ℕ) (entry : Entry) (refusal : Refusal) (receipts : List Given)
    → IsBegun (unbegun schema) s number entry → IsWrite (Insert s.number table rows) s t (Err refusal) → receipts ≡ record { number = number; entry = entry } ∷ [] → IsUnloaded schema table rows refusal receipts
insert_refused schema table rows s t number entry refusal receipts begun wrote are = inr (inl (record {
  begin = number;
  earlier = begun.earlier;
  view = begun.view;
  why = by (without_third (memory_or_reply refusal));
  receipts_are = are ∙ (λ k. record { number = number; entry = begun.entry_is k } ∷ []);
}))
  where
    before : SessionState
    before = record { number = 0; schema = schema; receipt = number; transaction = Some (begun_with number begun.earlier begun.view) }

    refusal_in : Result ℕ Refusal → Refusal
    refusal_in (Err x) = x
    refusal_in (Ok x) = refusal

    writes : IsWrite (Insert 0 table rows) before t (Err refusal)
    writes = subst (λ s. IsWrite (Insert s.number table rows) s t (Err refusal)) begun.session_is wrote

    by : (refusal ≡ Memory) ⊎ (refusal ≢ Memory) → IsRefusedInsert schema begun.view table rows refusal ⊎ ((refusal ≡ NoTransaction) ⊎ IsRoom refusal)
    by (inl e) = inr (inr (inr e))
    by (inr other) = inl (record {
      m = begun.shows.0;
      holds = begun.shows.1;
      refused = sym (ap (λ p. p.0) (writes begun.shows.0 begun.shows.1 (λ e. other (ap refusal_in e))));
    })

-- a commit that did not end at an instant, in a session that has begun
pub unended_unloaded : (schema : Schema) (table : ℕ) (rows : List Row) (s : SessionState) (number : ℕ) (entry : Entry) (refusal : Refusal) (receipts : List Given)
    → IsBegun (unbegun schema) s number entry → IsUnended (record { number = number; entry = entry }) refusal receipts → IsUnloaded schema table rows refusal receipts
unended_unloaded schema table rows s number entry refusal receipts begun (inl (why, are)) = inr (inl (record {
  begin = number;
  earlier = begun.earlier;
  view = begun.view;
  why = inr why;
  receipts_are = are ∙ (λ k. record { number = number; entry = begun.entry_is k } ∷ []);
}))
unended_unloaded schema table rows s number entry refusal receipts begun (inr (why, rest)) = inr (inr (record {
  begin = number;
  earlier = begun.earlier;
  view = begun.view;
  end = rest.0;
  entry = rest.1;
  why = why;
  no_load = rest.2;
  receipts_are = rest.3 ∙ (λ k. record { number = number; entry = begun.entry_is k } ∷ record { number = rest.0; entry = rest.1 } ∷ []);
}))
