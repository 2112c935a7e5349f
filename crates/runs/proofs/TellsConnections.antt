-- The events of a session's connections, one after another: what is open where one ends is rolled back.
use Rattle.std.proofs.Common.{◌≡◌, ℕ, ◌≤◌, inl, false, List, [], ◌∷◌, ◌++◌, Some, None, is_some, refl, sym, ap, subst, ◌∙◌, arith, map}
use Rattle.std.specs.Prelude.{not, ◌&&◌, ◌||◌}
use Rattle.std.specs.List.{AllByRecursion, flat_map}
use Rattle.values.specs.Tables.{Schema}
use Rattle.steps.specs.declared.step.Step.TheVariants.{Rollback}
use Rattle.steps.specs.declared.step.Reply.TheVariants.{RolledBack}
use Rattle.steps.specs.Misfit.{max_session}
use Rattle.histories.specs.History.{History, begins, has_open}
use Rattle.histories.proofs.StandsEnds.{itself}
use Rattle.serving.specs.Progress.{Given, after}
use Rattle.serving.specs.ServedSession.{Serves}
use Rattle.runs.specs.Event.{Event, history_after}
use Rattle.runs.specs.Run.{IsRefusedRightly, Rises, Sent, is_reading, last_of}
use Rattle.runs.specs.Tells.{TellsAll, let_go}
use Rattle.runs.proofs.OneHistoryBeside.{Held, Moves}
use Rattle.runs.proofs.RunAlong.{Chain, chain_append}
use Rattle.runs.proofs.TellsEvents.{silent}
use Rattle.runs.proofs.TellsFacts.{Before, last_join, none_before, rest_of, rises_first, rises_later, joined_before}
use Rattle.runs.proofs.TellsLines.{lines_go}

front_of : {A : Type 0} (P : A → Type 0) (xs ys : List A) → AllByRecursion P (xs ++ ys) → AllByRecursion P xs
front_of P [] ys all = tt
front_of P (x ∷ xs) ys all = (all.0, front_of P xs ys all.1)

module _ (schema : Schema) (IsFull : Type 0) (i : ℕ) (small : i ≤ max_session) where
  abbrev Goes : Held → List Event → Held → Type 0
  Goes = Chain (Moves schema)

  -- ---- the end of a connection

  abbrev gone : ℕ → Held → List Event
  gone last None = []
  gone last (Some t) = silent i last (Some (Rollback i, RolledBack))

  is_let_go : (last : ℕ) (t : Held) → map (λ e. (e.entry, e.step)) (gone last t) ≡ let_go i (is_some t)
  is_let_go last None = refl
  is_let_go last (Some t) = refl

  gone_goes : (last : ℕ) (t : Held) → Goes t (gone last t) None
  gone_goes last None = refl
  gone_goes last (Some t) = (
    None,
    (
      inl (record {
        may_give = is_reading;
        in_range = small;
        its = refl;
        read = tt;
        receipt = last;
        next = last;
        takes = record { takes = refl; reply_is = refl; left = refl };
      }),
      refl,
    ),
  )

  gone_before : (last : ℕ) (t : Held) → Before i last last [] (gone last t)
  gone_before last None = none_before i last
  gone_before last (Some t) = record {
    its = λ rest its. (refl, its);
    climb = λ rest c. (omega arith, c);
    take = λ rest. refl;
  }

  rolled_back : (h : History) → has_open (Rollback i ∷ h) i ≡ false
  rolled_back h = λ k. not (itself i k) && (begins i (Rollback i) || has_open h i)

  gone_closes : (h : History) (last : ℕ) (t : Held) → has_open h i ≡ is_some t → has_open (history_after h (gone last t)) i ≡ false
  gone_closes h last None is = is
  gone_closes h last (Some t) is = rolled_back h

  -- ---- all connections

  abbrev given_by : List Sent → List Given
  given_by sent = flat_map (λ s. s.given) sent

  pub record AllGo (h : History) (last : ℕ) (sent : List Sent) : Type 0 where
    pub events : List Event
    pub tells : TellsAll schema IsFull i h (map (λ s. (s.lines, s.text)) sent) events
    pub known : Rises last (given_by sent) → Before i last (last_of last (given_by sent)) (given_by sent) events
    pub goes : Goes None events None

  pub all_go : (h : History) (last : ℕ) (sent : List Sent) → AllByRecursion (IsRefusedRightly IsFull) (flat_map (λ s. s.told) sent) → has_open h i ≡ false
      → AllByRecursion (λ s. Serves is_reading schema i s.lines s.told (after 0 None) s.given s.text s.later) sent → AllGo h last sent
  all_go h last [] rightly closed are = record { events = []; tells = refl; known = λ rises. none_before i last; goes = refl }
  all_go h last (s ∷ sent) rightly closed are =
      let next = last_of last s.given in
      let now = lines_go schema IsFull i small h last s.lines s.told (after 0 None) s.later s.given s.text (front_of (IsRefusedRightly IsFull) s.told (flat_map (λ s. s.told) sent) rightly) closed are.0 in
      let end = gone next s.later.transaction in
      let behind =
      all_go (history_after (history_after h now.events) end) next sent (rest_of (IsRefusedRightly IsFull) s.told (flat_map (λ s. s.told) sent) rightly) (gone_closes (history_after h now.events) next s.later.transaction now.opens) are.1 in
      record {
        events = now.events ++ (end ++ behind.events);
        tells = (
          now.events,
          end,
          behind.events,
          refl,
          now.tells,
          is_let_go next s.later.transaction ∙ ap (let_go i) (sym now.opens),
          behind.tells,
        );
        known = λ rises.
            subst (λ end_is. Before i last end_is (s.given ++ given_by sent) (now.events ++ (end ++ behind.events))) (sym (last_join last s.given (given_by sent)))
            (joined_before i last next (last_of next (given_by sent)) s.given (given_by sent) now.events (end ++ behind.events) (now.known (rises_first last s.given (given_by sent) rises))
            (joined_before i next next (last_of next (given_by sent)) [] (given_by sent) end behind.events (gone_before next s.later.transaction) (behind.known (rises_later last s.given (given_by sent) rises))));
        goes = chain_append (Moves schema) None s.later.transaction None now.events (end ++ behind.events) now.goes (chain_append (Moves schema) s.later.transaction None None end behind.events (gone_goes next s.later.transaction) behind.goes);
      }
