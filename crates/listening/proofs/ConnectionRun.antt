-- A closed store and all receipts, as a run and its one history.
use Rattle.std.proofs.Common.{◌≡◌, ◌≢◌, ℕ, ◌+◌, ◌<◌, ◌≤◌, ◌==◌, List, [], ◌∷◌, ◌++◌, Bool, true, false, not, ◌||◌, Some, length, length-append, nat_le, refl, sym, ap, subst, ◌∙◌, arith, map, IsPermutation}
use Rattle.std.specs.Prelude.{drop, is_none}
use Rattle.std.proofs.lemmas.Bool.Decides.{nat_tests}
use Rattle.std.proofs.lemmas.List.{length-map, map-append}
use Rattle.std.proofs.lemmas.List.Elements.{All-map, recursion_from_All}
use Rattle.std.proofs.lemmas.Simd.{map-map}
use Rattle.std.proofs.lemmas.List.Sorted.{All-permutation, IsPermutation-append_right, IsPermutation-map, IsPermutation-sym, IsPermutation-trans}
use Rattle.std.specs.Prelude.{All, IfOk, OnOk, Result, Ok, Err}
use Rattle.std.specs.List.{AllByRecursion, flat_map, list_all}
use Rattle.values.specs.Log.{Row}
use Rattle.values.specs.Tables.{Schema}
use Rattle.growlog.specs.Origin.{Origin}
use Rattle.histories.specs.History.{History}
use Rattle.lines.specs.Partial.{Partial}
use Rattle.sessions.specs.journal.Entries.{entry_at, numbers}
use Rattle.sessions.specs.book.Book.{BookState, IsBook}
use Rattle.serving.specs.Progress.{Given}
use Rattle.serving.specs.ServedSession.{Told}
use Rattle.runs.specs.OneHistory.{Carries, Dialogue, ServedRunsAreHistories, dialogue_of}
use Rattle.runs.specs.Run.{IsLoaded, IsRefusedRightly, IsRun, Part, Sent, given_of, told_of}
use Rattle.listening.specs.Pile.{AreKnown, AreOfRun, PileState, is_within}
use Rattle.listening.specs.Connection.{AreWithin, IsOneRun, IsServedRun, IsWithin}
use Rattle.listening.specs.declared.limit.Limit.{Limit}
use Rattle.listening.specs.declared.limit.Limit.TheVariants.{Sessions, Connections}
use Rattle.listening.proofs.PileParts.{are_apart, both, numbers_are, silent_beyond}

-- what stands of all receipts stands of those of the parts
stands : (P : Given → Type 0) (before given own : List Given) → IsPermutation given own → All P (before ++ given) → AllByRecursion P (before ++ own)
stands P before given own are all =
    recursion_from_All P (before ++ own) (All-permutation P (before ++ given) (before ++ own) (IsPermutation-append_right before given own are) all)

-- all numbers are there once
once : (before given own : List Given) (numbers : List ℕ) → IsPermutation given own → IsPermutation (map (λ g. g.number) (before ++ given)) numbers → IsPermutation (map (λ g. g.number) (before ++ own)) numbers
once before given own numbers are all =
    let moved = IsPermutation-map (λ (g : Given). g.number) (before ++ given) (before ++ own) (IsPermutation-append_right before given own are) in
    IsPermutation-trans (map (λ g. g.number) (before ++ own)) (map (λ g. g.number) (before ++ given)) numbers (IsPermutation-sym (map (λ g. g.number) (before ++ given)) (map (λ g. g.number) (before ++ own)) moved) all

-- a part is a session that had one connection at most, and none where its number is above this one
abbrev IsSessionOf : ℕ → Part → Type 0
IsSessionOf most p = (length p.sent ≤ 1) × (most < p.number → p.sent ≡ [])

sessions_of : (most : ℕ) (parts : List Part) → AllByRecursion (λ p. length p.sent ≤ 1) parts → AllByRecursion (λ p. 1 + most ≤ p.number → p.sent ≡ []) parts → AllByRecursion (IsSessionOf most) parts
sessions_of most [] once beyond = tt
sessions_of most (p ∷ parts) once beyond = ((once.0, (λ less. beyond.0 (omega (arith, less)))), sessions_of most parts once.1 beyond.1)

abbrev HasFew : ℕ → Dialogue → Type 0
HasFew most d = (length d.talks ≤ 1) × (most < d.number → d.talks ≡ [])

few_talks : (most : ℕ) (parts : List Part) → AllByRecursion (IsSessionOf most) parts → AllByRecursion (HasFew most) (map dialogue_of parts)
few_talks most [] few = tt
few_talks most (p ∷ parts) few =
    ((subst (λ n. n ≤ 1) (sym (length-map p.sent (λ (s : Sent). (s.lines, s.text)))) few.0.0, (λ less. ap (map (λ (s : Sent). (s.lines, s.text))) (few.0.1 less))), few_talks most parts few.1)

-- so many connections of all sessions are so many talks
as_many : (parts : List Part) → length (flat_map (λ d. d.talks) (map dialogue_of parts)) ≡ length (flat_map (λ p. p.sent) parts)
as_many [] = refl
as_many (p ∷ parts) =
    let said : List (List Partial × List ℕ) = map (λ (s : Sent). (s.lines, s.text)) p.sent in
    let as_said : length said ≡ length p.sent = length-map {B = List Partial × List ℕ} p.sent (λ (s : Sent). (s.lines, s.text)) in
    length-append said (flat_map (λ (d : Dialogue). d.talks) (map dialogue_of parts))
    ∙ (λ k. as_said k + as_many parts k)
    ∙ sym (length-append p.sent (flat_map (λ (p : Part). p.sent) parts))

talks_within : (limit : Limit) (parts : List Part) → AreWithin limit parts → IsWithin limit (map dialogue_of parts)
talks_within (Sessions most) parts few = few_talks most parts few
talks_within (Connections most) parts few = λ some. subst (λ n. n ≤ most) (sym (as_many parts)) (few some)

few_of : (most connections : ℕ) → (most == 0 || nat_le connections most) ≡ true → most ≢ 0 → connections ≤ most
few_of most connections e some = grind (arith, nat_tests)

-- what lines were refused for by the book, of a journal that is full where that is noted
of_told : (has_full : Bool) (Full : Type 0) → (has_full ≡ true → Full) → (told : List Told) → AreKnown has_full told → AllByRecursion (IsRefusedRightly Full) told
of_told has_full Full full [] all = tt
of_told has_full Full full (t ∷ told) all = (record { full = λ e. full (all.0.full e); is_open = λ e. cc_of (all.0.not_open e) }, of_told has_full Full full told all.1)
  where
    cc_of : false ≡ true → ⊥
    cc_of e = cc

rightly : (has_full : Bool) (Full : Type 0) → (has_full ≡ true → Full) → (parts : List Part) → AllByRecursion (λ p. AreKnown has_full (told_of p)) parts → AllByRecursion (λ p. AllByRecursion (IsRefusedRightly Full) (told_of p)) parts
rightly has_full Full full [] all = tt
rightly has_full Full full (p ∷ parts) all = (of_told has_full Full full (told_of p) all.0, rightly has_full Full full parts all.1)

-- a closed store that is handed on
pub confirmed : {A E : Type 0} (r : Result A E) (a : A) (F : Type 0) (P : A → Type 0) → IfOk r (λ x. x ≡ a) → OnOk r F → (F → P a) → IfOk r P
confirmed (Ok x) a F P same full is = subst P (sym same) (is full)
confirmed (Err e) a F P same full is = tt

by_not : (a : Bool) → not a ≡ true → a ≡ false
by_not true e = absurd (cc e)
by_not false e = refl

-- of parts of a run, those of a pile whose connections are within the limit
parts_within : (limit : Limit) (schema : Schema) (p : PileState) (run : AreOfRun schema p.lasts p.connections p.again p.has_full p.given) → is_within limit p ≡ true → AreWithin limit run.parts
parts_within (Sessions most) schema p run few =
    let its = both (not p.again) (list_all is_none (drop most p.lasts)) few in
    sessions_of most run.parts (run.once (let h : p.again ≡ false = by_not p.again its.0 in h))
    (silent_beyond (1 + most) 1 most run.parts refl run.numbered (ap (λ ls. list_all is_none (drop most ls)) run.lasts_are ∙ its.1))
parts_within (Connections most) schema p run few = λ some.
    subst (λ n. n ≤ most) (sym run.connections_are) (few_of most p.connections few some)

module _ (o : Origin) (b : BookState) (limit : Limit) (table : ℕ) (rows : List Row) (before : List Given) (p : PileState) where
  is_run : IsBook o b → IsLoaded o.schema table rows before → (run : AreOfRun o.schema p.lasts p.connections p.again p.has_full p.given) → (p.has_full ≡ true → length b.entries ≡ o.most_entries) → All (λ g. entry_at b.entries g.number ≡ Some g.entry) (before ++ p.given)
      → IsPermutation (map (λ g. g.number) (before ++ p.given)) (numbers (length b.entries)) → IsRun o b table rows before run.parts run.service
  is_run book loaded run full stand all = record {
    is_book = book;
    is_loaded = loaded;
    are_parts = run.are_parts;
    refused = rightly p.has_full (length b.entries ≡ o.most_entries) full run.parts run.known;
    apart = are_apart 1 run.parts run.numbered;
    serviced = run.serviced;
    stand = stands (λ g. entry_at b.entries g.number ≡ Some g.entry) before p.given (flat_map given_of run.parts ++ run.service) run.given_are stand;
    once = once before p.given (flat_map given_of run.parts ++ run.service) (numbers (length b.entries)) run.given_are all;
  }

  served_run : IsBook o b → IsLoaded o.schema table rows before → AreOfRun o.schema p.lasts p.connections p.again p.has_full p.given → (p.has_full ≡ true → length b.entries ≡ o.most_entries) → is_within limit p ≡ true → All (λ g. entry_at b.entries g.number ≡ Some g.entry) (before ++ p.given)
      → IsPermutation (map (λ g. g.number) (before ++ p.given)) (numbers (length b.entries)) → IsServedRun o limit table rows before b
  served_run book loaded run full few stand all = record {
    parts = run.parts;
    service = run.service;
    numbered = numbers_are run.parts run.numbered run.wide;
    within = parts_within limit o.schema p run few;
    is_run = is_run book loaded run full stand all;
  }

  -- from the receipts that closed the store: those of before, and those that were handed over
  pub of_receipts : {R : Type 0} (f : R → Given) (all first later : List R) → all ≡ first ++ later → before ≡ map f first → p.given ≡ map f later
      → IsBook o b → IsLoaded o.schema table rows before → AreOfRun o.schema p.lasts p.connections p.again p.has_full p.given → (p.has_full ≡ true → length b.entries ≡ o.most_entries) → is_within limit p ≡ true → All (λ r. entry_at b.entries (f r).number ≡ Some (f r).entry) all
      → IsPermutation (map (λ r. (f r).number) all) (numbers (length b.entries)) → IsServedRun o limit table rows before b
  of_receipts f all first later are first_are later_are book loaded run full few stand once =
      let parts : map f all ≡ before ++ p.given = ap (map f) are ∙ map-append f first later ∙ (λ k. sym first_are k ++ sym later_are k) in
      served_run book loaded run full few (subst (All (λ g. entry_at b.entries g.number ≡ Some g.entry)) parts (All-map (λ g. entry_at b.entries g.number ≡ Some g.entry) f all stand))
      (subst (λ gs. IsPermutation (map (λ g. g.number) gs) (numbers (length b.entries))) parts (subst (λ ns. IsPermutation ns (numbers (length b.entries))) (sym (map-map (λ (g : Given). g.number) f all)) once))

-- ---- its one history

module _ (law : ServedRunsAreHistories) (o : Origin) (limit : Limit) (before : List Given) where
  one_run : (start : Schema) (earlier : History) → Carries start earlier o → (b : BookState) (table : ℕ) (rows : List Row) → IsServedRun o limit table rows before b → IsOneRun start earlier limit o.most_entries table rows b
  one_run start earlier carries b table rows run =
      let found = law start earlier o b table rows before run.parts run.service carries run.is_run in
      record {
        dialogues = map dialogue_of run.parts;
        numbered = map-map (λ (d : Dialogue). d.number) dialogue_of run.parts ∙ run.numbered;
        within = talks_within limit run.parts run.within;
        events = found.0;
        history = found.1;
      }

  pub each_one : {E : Type 0} (r : Result BookState E) → IfOk r (λ b. (table : ℕ) (rows : List Row) → IsLoaded o.schema table rows before → IsServedRun o limit table rows before b)
      → IfOk r (λ b. (start : Schema) (earlier : History) → Carries start earlier o → (table : ℕ) (rows : List Row) → IsLoaded o.schema table rows before → IsOneRun start earlier limit o.most_entries table rows b)
  each_one (Ok b) runs = λ start earlier carries table rows loaded. one_run start earlier carries b table rows (runs table rows loaded)
  each_one (Err e) runs = tt
