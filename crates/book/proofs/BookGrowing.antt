-- A book with one entry more.
use Rattle.std.proofs.Common.{◌≡◌, ◌≢◌, ℕ, ◌+◌, ◌<◌, ◌==◌, ◌||◌, [], ◌∷◌, ◌++◌, length, Option, Some, None, Bool, true, false, refl, sym, ap, ◌∙◌, arith, subst, Result, Ok, Err, if◌then◌else◌}
use Rattle.values.specs.declared.key.Transaction.{Transaction}
use Rattle.values.specs.declared.refusal.Refusal.{Refusal}
use Rattle.values.specs.declared.refusal.Refusal.TheVariants.{Memory}
use Rattle.values.specs.Tables.{Schema}
use Rattle.values.specs.Log.{Log, Net, last, last_from, changes}
use Rattle.values.specs.Period.{periods_of}
use Rattle.values.specs.Commits.{outcome, after, log_after}
use Rattle.values.specs.Events.{AreKeysIn}
use Rattle.growlog.specs.Origin.{Origin}
use Rattle.values.proofs.LogPush.{add_all-push}
use Rattle.blocks.specs.PackedNode.{Packed}
use Rattle.validation.specs.tsbtree.View.{TreeState, last as view_last, IsState}
use Rattle.validation.specs.tsbtree.Growth.{HoldsSame}
use Rattle.validation.specs.staging.View.{Holds}
use Rattle.journal.specs.BegunState.{BegunState}
use Rattle.journal.specs.declared.entry.Entry.{Entry}
use Rattle.journal.specs.declared.entry.Entry.TheVariants.{Begin, Commit, Install}
use Rattle.journal.specs.Entries.{Entries, start_of, log, has_entry_of, has_ended, is_open}
use Rattle.journal.specs.Legal.{IsLegal, MayFollow}
use Rattle.book.specs.Book.{BookState, IsBook, earlier_in, begin_entry, commit_entry}
use Rattle.book.specs.Ending.{instant_of, ran_out, IsEnd, IsWritten}
use Rattle.book.proofs.BookNaming.{IsFound, found, fresh, none_ahead}

abbrev pub book : TreeState → Entries → BookState
book engine entries = record { engine = engine; entries = entries }

-- ---- the first

pub book_over : (o : Origin) (engine : TreeState) (j : Entries) → Holds o.schema engine (changes o.log) → view_last engine ≡ last o.log → IsState engine.nodes (view_last engine) → j ≡ [] → IsBook o (book engine j)
book_over o engine j holds clock sound none = subst (λ j. IsBook o (book engine j)) (sym none) (record {
  legal = tt;
  tree = sound;
  holds = holds;
  clock = clock;
  room = omega arith;
})

-- ---- a begin

abbrev chosen : ℕ → Bool → ℕ
chosen number b = if b then number else 0

names_is : (j : Entries) (session number : ℕ) → ((earlier_in j session number == 0) || has_entry_of j session (earlier_in j session number)) ≡ true
names_is j session number = by (has_entry_of j session number) refl
  where
    either : (x : Bool) → (x || true) ≡ true
    either true = refl
    either false = refl

    by : (b : Bool) → has_entry_of j session number ≡ b → ((earlier_in j session number == 0) || has_entry_of j session (earlier_in j session number)) ≡ true
    by true h =
        (λ i. (chosen number (h i) == 0) || has_entry_of j session (chosen number (h i))) ∙ (λ i. (number == 0) || h i) ∙ either (number == 0)
    by false h = (λ i. (chosen number (h i) == 0) || has_entry_of j session (chosen number (h i)))

pub may_begin : (o : Origin) (b : BookState) (session number : ℕ) → IsBook o b → MayFollow o b.entries (begin_entry b session number)
may_begin o b session number is = record {
  sees = record { events_are = is.holds.events_are; last_is = is.clock };
  names = names_is b.entries session number;
}

pub begun : (o : Origin) (b : BookState) (session number : ℕ) → IsBook o b → length b.entries < o.most_entries → IsBook o (book b.engine (begin_entry b session number ∷ b.entries))
begun o b session number is few = record {
  legal = (may_begin o b session number is, is.legal);
  tree = is.tree;
  holds = is.holds;
  clock = is.clock;
  room = omega arith;
}

-- ---- an install

pub was_installed : (o : Origin) (b : BookState) (new : TreeState) (packed : Packed) (done : Bool) → IsBook o b → HoldsSame b.engine new → IsState new.nodes (view_last new) → length b.entries < o.most_entries
    → IsBook o (book new (Install packed.node.rect packed.bytes done ∷ b.entries))
was_installed o b new packed done is same sound few = record {
  legal = (tt, is.legal);
  tree = sound;
  holds = record { events_are = same.events_are ∙ is.holds.events_are; keys = is.holds.keys; in_order = is.holds.in_order };
  clock = same.last_is ∙ is.clock;
  room = omega arith;
}

-- as the calls tell it
pub with_install : (o : Origin) (b : BookState) (new : TreeState) (packed : Packed) (done : Bool) (put : Entry) (made grown : Entries) → IsBook o b → HoldsSame b.engine new → IsState new.nodes (view_last new) → length b.entries < o.most_entries
    → made ≡ b.entries → put ≡ Install packed.node.rect packed.bytes done → grown ≡ put ∷ made → IsBook o (book new grown)
with_install o b new packed done put made grown is holds sound few same entry grows =
    subst (λ j. IsBook o (book new j)) (sym (grows ∙ (λ k. entry k ∷ same k))) (was_installed o b new packed done is holds sound few)

-- ---- a commit

last_push : (n : ℕ) (l : Log) (t : Transaction) → last_from n (l ++ t ∷ []) ≡ t.instant
last_push n [] t = refl
last_push n (u ∷ l) t = last_push u.instant l t

-- what the tree holds, and where the clock stands
record Fits (schema : Schema) (engine : TreeState) (l : Log) : Type 0 where
  pub holds : Holds schema engine (changes l)
  pub clock : view_last engine ≡ last l

abbrev transaction : ℕ → Net → Transaction
transaction instant net = record { instant = instant; net = net }

fits_after : (schema : Schema) (old new : TreeState) (l : Log) (net : Net) (end : Result (Option ℕ) Refusal) → AreKeysIn schema net → Fits schema old l → IsWritten old new net (instant_of end) → Fits schema new (log_after l net end)
fits_after schema old new l net (Ok None) keys fits is = subst (λ e. Fits schema e l) (sym is) fits
fits_after schema old new l net (Ok (Some instant)) keys fits is = record {
  holds = subst (Holds schema new) (sym (add_all-push l [] (transaction instant net))) (is.0 schema (changes l) fits.holds keys);
  clock = is.1 ∙ sym (last_push 0 l (transaction instant net));
}
fits_after schema old new l net (Err refusal) keys fits is = subst (λ e. Fits schema e l) (sym is) fits

module _ (o : Origin) (b : BookState) (session reading : ℕ) (begun : BegunState) (net : Net) (is : IsBook o b) (f : IsFound b.entries session begun) where
  abbrev how : Result (Option ℕ) Refusal
  how = outcome (periods_of o.schema) (changes (log o b.entries)) (last (log o b.entries)) begun.start net reading

  pub may_commit : MayFollow o b.entries (commit_entry o b session begun net reading)
  may_commit = record {
    earlier = f.earlier;
    view = f.view;
    begun = f.there;
    first = f.first;
    ends = (λ k. outcome (periods_of o.schema) (changes (log o b.entries)) (last (log o b.entries)) (sym f.start_is k) net reading);
  }

  log_is : log o (commit_entry o b session begun net reading ∷ b.entries) ≡ log_after (log o b.entries) net how
  log_is =
      (λ k. elim (start_of (f.there k)) [ None ↦ log o b.entries | Some start ↦ after (periods_of o.schema) (log o b.entries) start net reading ])
      ∙ (λ k. after (periods_of o.schema) (log o b.entries) (f.start_is k) net reading)

  pub committed : (new : TreeState) → AreKeysIn o.schema net → IsWritten b.engine new net (instant_of how) → IsState new.nodes (view_last new) → length b.entries < o.most_entries
      → IsBook o (book new (commit_entry o b session begun net reading ∷ b.entries))
  committed new keys written sound few =
      let fits : Fits o.schema new (log o (commit_entry o b session begun net reading ∷ b.entries)) =
      subst (Fits o.schema new) (sym log_is) (fits_after o.schema b.engine new (log o b.entries) net how keys (record { holds = is.holds; clock = is.clock }) written) in
      record {
        legal = (may_commit, is.legal);
        tree = sound;
        holds = fits.holds;
        clock = fits.clock;
        room = omega arith;
      }

-- how it ends, by the validation
pub ends_so : (o : Origin) (b : BookState) (start : ℕ) (net : Net) (reading : ℕ) (end : Result (Option ℕ) Refusal) → IsBook o b → AreKeysIn o.schema net → IsEnd o.schema b.engine start net reading end
    → end ≡ outcome (periods_of o.schema) (changes (log o b.entries)) (last (log o b.entries)) start net reading
ends_so o b start net reading end is keys ends =
    ends (changes (log o b.entries)) is.holds keys ∙ (λ k. outcome (periods_of o.schema) (changes (log o b.entries)) (is.clock k) start net reading)

pub not_memory : (r : Result (Option ℕ) Refusal) → ran_out r ≡ false → r ≢ Err Memory
not_memory r h e = cc (sym h ∙ ap ran_out e)

-- ---- as the calls tell it

pub fresh_as : (o : Origin) (j made : Entries) (e put : Entry) → IsLegal o j → MayFollow o j e → made ≡ j → put ≡ e → has_ended (put ∷ made) (length made + 1) ≡ false
fresh_as o j made e put legal may same is = (λ k. has_ended (is k ∷ same k) (length (same k) + 1)) ∙ fresh o j e legal may

pub fresh_begin : (o : Origin) (j made : Entries) (put : Entry) (session earlier : ℕ) (view : TreeState) → IsLegal o j → made ≡ j → put ≡ Begin session earlier view → has_ended (put ∷ made) (length made + 1) ≡ false
fresh_begin o j made put session earlier view legal same is = (λ k. has_ended (is k ∷ same k) (length (same k) + 1)) ∙ none_ahead o j (length j + 1) legal (omega arith)

module _ (o : Origin) (b : BookState) (session reading : ℕ) (begun : BegunState) (net : Net) (end : Result (Option ℕ) Refusal) (entry : Entry)
    (is : IsBook o b) (here : is_open b.entries session begun ≡ true) (keys : AreKeysIn o.schema net) (ends : IsEnd o.schema b.engine begun.start net reading end)
    (made : entry ≡ Commit session begun.number net reading end) where
  so : end ≡ outcome (periods_of o.schema) (changes (log o b.entries)) (last (log o b.entries)) begun.start net reading
  so = ends_so o b begun.start net reading end is keys ends

  pub commit_entry_is : entry ≡ commit_entry o b session begun net reading
  commit_entry_is = made ∙ ap (Commit session begun.number net reading) so

  pub commit_fresh : (j : Entries) → j ≡ b.entries → has_ended (entry ∷ j) (length j + 1) ≡ false
  commit_fresh j same = fresh_as o b.entries j (commit_entry o b session begun net reading) entry is.legal (may_commit o b session reading begun net is (found b.entries session begun here)) same commit_entry_is

  pub commit_grows : (new : TreeState) (changed : Net) (instant : Option ℕ) (j grown : Entries) → changed ≡ net → instant ≡ instant_of end → IsWritten b.engine new changed instant → IsState new.nodes (view_last new) → length b.entries < o.most_entries
      → j ≡ b.entries → grown ≡ entry ∷ j → IsBook o (book new grown)
  commit_grows new changed instant j grown twice at written sound few same grows =
      subst (λ j. IsBook o (book new j)) (sym (grows ∙ (λ k. commit_entry_is k ∷ same k)))
      (committed o b session reading begun net is (found b.entries session begun here) new keys
      (subst (λ n. IsWritten b.engine new n (instant_of (outcome (periods_of o.schema) (changes (log o b.entries)) (last (log o b.entries)) begun.start net reading))) twice
      (subst (IsWritten b.engine new changed) (at ∙ ap instant_of so) written)) sound few)
