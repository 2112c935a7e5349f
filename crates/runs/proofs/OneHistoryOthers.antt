-- An event of one part keeps every other part beside the whole.
use Rattle.std.proofs.Common.{◌≡◌, ℕ, inl, inr, Bool, false, ◌∷◌, Option, Some, None, refl, sym, ap, subst, ◌∙◌, arith}
use Rattle.std.specs.Prelude.{◌==◌, ◌&&◌, nat_le}
use Rattle.std.proofs.lemmas.Bool.Decides.{nat_tests}
use Rattle.values.specs.Tables.{Schema}
use Rattle.growlog.specs.Origin.{Origin}
use Rattle.steps.specs.declared.step.Step.{Step}
use Rattle.steps.specs.declared.step.Step.TheVariants.{Begin, Insert, Update, Delete, UpdatePortion, DeletePortion, Select, Commit, Rollback, AddColumn, SplitKey, SplitTime, Migrate}
use Rattle.steps.specs.declared.step.Reply.{Reply}
use Rattle.steps.specs.Misfit.{max_session}
use Rattle.histories.specs.History.{History}
use Rattle.serving.specs.journal.declared.entry.Entry.{Entry}
use Rattle.serving.specs.sessions.StoreOfHistory.{IsOfAnother}
use Rattle.serving.proofs.sessions.StoreOfHistoryAlike.{open_stays, same_begin, seen_stays, snap_stays}
use Rattle.runs.specs.Event.{Event, with_step}
use Rattle.runs.proofs.OneHistoryBeside.{World, Beside, Held, IsOwnStep, May, Moves, MovesBy, Opened, add, with_entry}
use Rattle.runs.proofs.OneHistoryBegin.{opened_more}

other_number : (i j k : ℕ) → k ≡ j → (j == i) ≡ false → (i == k) ≡ false
other_number i j k same other = grind (arith, nat_tests)

and_not : (a b : Bool) → a ≡ false → (a && b) ≡ false
and_not a b is = ap (λ a. a && b) is

-- a step of a part's own is another's for each other part
its_another : (i j : ℕ) (step : Step) → IsOwnStep j step → (j == i) ≡ false → IsOfAnother i step
its_another i j (Begin k) its other = record { no_begin = and_not (i == k) (nat_le i max_session) (other_number i j k its other); no_end = refl; no_write = refl; no_column = λ now idle. refl }
its_another i j (Insert k table rows) its other = record { no_begin = refl; no_end = refl; no_write = other_number i j k its other; no_column = λ now idle. refl }
its_another i j (Update k keys sets) its other = record { no_begin = refl; no_end = refl; no_write = other_number i j k its other; no_column = λ now idle. refl }
its_another i j (Delete k keys) its other = record { no_begin = refl; no_end = refl; no_write = other_number i j k its other; no_column = λ now idle. refl }
its_another i j (UpdatePortion k keys cut sets) its other = record { no_begin = refl; no_end = refl; no_write = other_number i j k its other; no_column = λ now idle. refl }
its_another i j (DeletePortion k keys cut) its other = record { no_begin = refl; no_end = refl; no_write = other_number i j k its other; no_column = λ now idle. refl }
its_another i j (Select k form keys) its other = record { no_begin = refl; no_end = refl; no_write = refl; no_column = λ now idle. refl }
its_another i j (Commit k reading) its other = record { no_begin = refl; no_end = other_number i j k its other; no_write = refl; no_column = λ now idle. refl }
its_another i j (Rollback k) its other = record { no_begin = refl; no_end = other_number i j k its other; no_write = refl; no_column = λ now idle. refl }
its_another i j (AddColumn k table name of) its other = absurd its
its_another i j (SplitKey key) its other = record { no_begin = refl; no_end = refl; no_write = refl; no_column = λ now idle. refl }
its_another i j (SplitTime key instant) its other = record { no_begin = refl; no_end = refl; no_write = refl; no_column = λ now idle. refl }
its_another i j Migrate its other = absurd its

migrate_another : (i : ℕ) → IsOfAnother i Migrate
migrate_another i = record { no_begin = refl; no_end = refl; no_write = refl; no_column = λ now idle. refl }

module _ (first : Schema) (origin : Origin) (w : World) (i : ℕ) where
  with_another : (step : Step) (t : Held) → IsOfAnother i step → Opened first origin w i t → Opened first origin (record { entries = w.entries; history = step ∷ w.history }) i t
  with_another step None other o = same_begin first w.history step i other ∙ o
  with_another step (Some t) other o = record {
    before = o.before;
    at = same_begin first w.history step i other ∙ o.at;
    changes_are = o.changes_are ∙ sym (seen_stays first w.history step i other o.before o.at);
    own_is = o.own_is ∙ open_stays first w.history step i other o.before o.at;
    earlier = o.earlier;
    view = o.view;
    begun = o.begun;
    starts = o.starts ∙ sym (snap_stays first w.history step i other o.before o.at);
  }

  more_entries : (history : History) (entry : Option Entry) (t : Held) → Opened first origin (record { entries = w.entries; history = history }) i t → Opened first origin (record { entries = with_entry entry w.entries; history = history }) i t
  more_entries history None t o = o
  more_entries history (Some e) t o = opened_more first origin (record { entries = w.entries; history = history }) i e t o

  -- what an event of another part leaves open
  stays_by : (j number : ℕ) (entry : Option Entry) (step : Option (Step × Reply)) (t t' : Held) → (j == i) ≡ false → MovesBy origin.schema j number entry step t t' → (s : Held) → Opened first origin w i s
      → Opened first origin (record { entries = w.entries; history = with_step step w.history }) i s
  stays_by j number entry None t t' other did s o = o
  stays_by j number None (Some a) t t' other (inl did) s o = with_another a.0 s (its_another i j a.0 did.its other) o
  stays_by j number (Some e) (Some a) t t' other (inl did) s o = with_another a.0 s (its_another i j a.0 did.its other) o
  stays_by j number None (Some a) t t' other (inr did) s o = with_another a.0 s (subst (IsOfAnother i) (sym did.step_is) (migrate_another i)) o
  stays_by j number (Some e) (Some a) t t' other (inr did) s o = with_another a.0 s (subst (IsOfAnother i) (sym did.step_is) (migrate_another i)) o

pub other : (first : Schema) (origin : Origin) (w : World) (x : Event) (i : ℕ) (old new s : Held) → May first origin w x → (x.part == i) ≡ false → Moves origin.schema x old new
    → Beside first origin (add x w) x.part new → Beside first origin w i s → Beside first origin (add x w) i s
other first origin w x i old new s may another did its is = record {
  tables_are = its.tables_are;
  log_is = its.log_is;
  opened = more_entries first origin w i (with_step x.step w.history) x.entry s (stays_by first origin w i x.part x.number x.entry x.step old new another did s is.opened);
}
