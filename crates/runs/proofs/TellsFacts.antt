-- The events of a part: whose they are, in which order, and with which receipts.
use Rattle.std.proofs.Common.{◌≡◌, ℕ, ◌<◌, Bool, List, [], ◌∷◌, ◌++◌, Option, Some, None, is_some, refl, sym, ap, subst, ◌∙◌, arith, map, append-nil, append_assoc}
use Rattle.std.specs.List.{AllByRecursion}
use Rattle.steps.specs.declared.step.Step.{Step}
use Rattle.steps.specs.declared.step.Reply.{Reply}
use Rattle.serving.specs.Progress.{Given}
use Rattle.runs.specs.Event.{Event, receipts_of}
use Rattle.runs.specs.Run.{Rises, last_of}
use Rattle.runs.proofs.TellsEvents.{events_of, taking_all}
use Rattle.runs.proofs.RunInTurn.{Climbs}

abbrev pub number_of : Event → ℕ
number_of e = e.number

abbrev pub took : Event → Bool
took e = is_some e.entry

abbrev pub numbers_of : List Given → List ℕ
numbers_of given = map (λ g. g.number) given

-- what is said of events before others, by the receipts that they took
pub record Before (i last end : ℕ) (given : List Given) (xs : List Event) : Type 0 where
  pub its : (rest : List Event) → AllByRecursion (λ e. e.part ≡ i) rest → AllByRecursion (λ e. e.part ≡ i) (xs ++ rest)
  pub climb : (rest : List Event) → Climbs number_of end rest → Climbs number_of last (xs ++ rest)
  pub take : (rest : List Event) → receipts_of (xs ++ rest) ≡ given ++ receipts_of rest

taken : (i last : ℕ) (g : Given) (step : Option (Step × Reply)) (given : List Given) → last < g.number → Rises g.number given → Before i last (last_of g.number given) (g ∷ given) (taking_all i g step given)
taken i last g step [] lt rises = record {
  its = λ rest its. (refl, its);
  climb = λ rest c. (omega (arith, lt), c);
  take = λ rest. refl;
}
taken i last g step (next ∷ given) lt rises =
    let more : Before i g.number (last_of next.number given) (next ∷ given) (taking_all i next step given) = taken i g.number next step given rises.0 rises.1 in
    record {
      its = λ rest its. (refl, more.its rest its);
      climb = λ rest c. (omega (arith, lt), more.climb rest c);
      take = λ rest. ap (λ gs. g ∷ gs) (more.take rest);
    }

pub line : (i last : ℕ) (step : Option (Step × Reply)) (given : List Given) → Rises last given → Before i last (last_of last given) given (events_of i last step given)
line i last None [] rises = record { its = λ rest its. its; climb = λ rest c. c; take = λ rest. refl }
line i last (Some s) [] rises = record {
  its = λ rest its. (refl, its);
  climb = λ rest c. (omega arith, c);
  take = λ rest. refl;
}
line i last step (g ∷ given) rises = taken i last g step given rises.0 rises.1

pub rises_first : (last : ℕ) (own more : List Given) → Rises last (own ++ more) → Rises last own
rises_first last [] more r = tt
rises_first last (g ∷ own) more r = (r.0, rises_first g.number own more r.1)

pub rises_later : (last : ℕ) (own more : List Given) → Rises last (own ++ more) → Rises (last_of last own) more
rises_later last [] more r = r
rises_later last (g ∷ own) more r = rises_later g.number own more r.1

pub rest_of : {A : Type 0} (P : A → Type 0) (xs ys : List A) → AllByRecursion P (xs ++ ys) → AllByRecursion P ys
rest_of P [] ys all = all
rest_of P (x ∷ xs) ys all = rest_of P xs ys all.1

pub joined : {A : Type 0} (P : A → Type 0) (xs ys : List A) → AllByRecursion P xs → AllByRecursion P ys → AllByRecursion P (xs ++ ys)
joined P [] ys first rest = rest
joined P (x ∷ xs) ys first rest = (first.0, joined P xs ys first.1 rest)

pub last_join : (last : ℕ) (own more : List Given) → last_of last (own ++ more) ≡ last_of (last_of last own) more
last_join last [] more = refl
last_join last (g ∷ own) more = last_join g.number own more

pub none_before : (i last : ℕ) → Before i last last [] []
none_before i last = record { its = λ rest its. its; climb = λ rest c. c; take = λ rest. refl }

-- events behind others
pub joined_before : (i last between end : ℕ) (own more : List Given) (xs ys : List Event) → Before i last between own xs → Before i between end more ys → Before i last end (own ++ more) (xs ++ ys)
joined_before i last between end own more xs ys first later = record {
  its = λ rest its. subst (AllByRecursion (λ e. e.part ≡ i)) (sym (append_assoc xs ys rest)) (first.its (ys ++ rest) (later.its rest its));
  climb = λ rest c. subst (Climbs number_of last) (sym (append_assoc xs ys rest)) (first.climb (ys ++ rest) (later.climb rest c));
  take = λ rest.
      ap receipts_of (append_assoc xs ys rest)
      ∙ first.take (ys ++ rest)
      ∙ ap (λ gs. own ++ gs) (later.take rest)
      ∙ sym (append_assoc own more (receipts_of rest));
}

-- the events of a part, which took these receipts
pub record Facts (i last : ℕ) (given : List Given) (events : List Event) : Type 0 where
  pub its : AllByRecursion (λ e. e.part ≡ i) events
  pub climbs : Climbs number_of last events
  pub takes : receipts_of events ≡ given

pub facts : (i last end : ℕ) (given : List Given) (events : List Event) → Before i last end given events → Facts i last given events
facts i last end given events before = record {
  its = subst (AllByRecursion (λ e. e.part ≡ i)) (append-nil events) (before.its [] tt);
  climbs = subst (Climbs number_of last) (append-nil events) (before.climb [] tt);
  takes = ap receipts_of (sym (append-nil events)) ∙ before.take [] ∙ append-nil given;
}
