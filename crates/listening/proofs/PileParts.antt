-- A run with the receipts of one more connection, or of one more round.
use Rattle.std.proofs.Common.{◌≡◌, ◌≢◌, ℕ, zero, suc, ◌+◌, ◌-◌, ◌<◌, ◌≤◌, List, [], ◌∷◌, ◌++◌, Option, Some, None, Bool, true, false, not, ◌&&◌, ◌||◌, nat_lt, is_some, refl, sym, ap, subst, ◌∙◌, arith, map, length, length-append, append-nil, IsPermutation}
use Rattle.std.specs.Prelude.{drop, is_none, min, replicate, slice_set, take}
use Rattle.std.proofs.lemmas.Bool.Decides.{nat_tests}
use Rattle.std.proofs.lemmas.Grind.{flat_map-append}
use Rattle.std.proofs.lemmas.List.{append_assoc}
use Rattle.std.proofs.lemmas.List.Sorted.{IsPermutation-append, IsPermutation-append_comm, IsPermutation-append_right, IsPermutation-refl, IsPermutation-trans}
use Rattle.std.specs.List.{AllByRecursion, flat_map, list_all, slice_get}
use Rattle.std.specs.Option.{unwrap_or}
use Rattle.values.specs.Tables.{Schema}
use Rattle.sessions.specs.journal.Entries.{numbers}
use Rattle.steps.specs.Misfit.{max_session}
use Rattle.serving.specs.BookRefusals.{BookRefusalsState, IsKnown}
use Rattle.serving.specs.Progress.{Given, after}
use Rattle.serving.specs.ServedSession.{Serves}
use Rattle.serving.proofs.BookRefusalsKnown.{known_on}
use Rattle.runs.specs.Run.{AreApart, IsOfService, IsPart, Part, Rises, Sent, given_of, is_reading, last_of, told_of}
use Rattle.runs.proofs.TellsFacts.{last_join}
use Rattle.listening.specs.Pile.{AreKnown, AreNumbered, AreOfRun, IsOf, IsPile, IsServedAs, Lasts, PileState, counted, goes_on, handed_by, has_full_of, is_again, last_for, last_in, most_counted, one_more, rises_from}
use Rattle.listening.specs.declared.pile.Origin.{Origin}
use Rattle.listening.specs.declared.pile.Origin.TheVariants.{Session, Service}

-- ---- lists

all_and : {A : Type 0} (P : A → Type 0) (xs ys : List A) → AllByRecursion P xs → AllByRecursion P ys → AllByRecursion P (xs ++ ys)
all_and P [] ys all more = more
all_and P (x ∷ xs) ys all more = (all.0, all_and P xs ys all.1 more)

pub both : (a b : Bool) → (a && b) ≡ true → (a ≡ true) × (b ≡ true)
both true b e = (refl, e)
both false b e = absurd (cc e)

-- what is put behind the first list stands behind the second one too
moved : {A : Type 0} (given first second own : List A) → IsPermutation given (first ++ second) → IsPermutation (given ++ own) ((first ++ own) ++ second)
moved given first second own are =
    subst (IsPermutation (given ++ own)) (sym (append_assoc first own second))
    (IsPermutation-trans (given ++ own) ((first ++ second) ++ own) (first ++ (own ++ second))
    (IsPermutation-append given (first ++ second) own own are (IsPermutation-refl own))
    (subst (λ xs. IsPermutation xs (first ++ (own ++ second))) (sym (append_assoc first second own))
    (IsPermutation-append_right first (second ++ own) (own ++ second) (IsPermutation-append_comm second own))))

-- ---- what the tests show

rises_by : (last : ℕ) (given : List Given) → rises_from last given ≡ true → Rises last given
rises_by last [] e = tt
rises_by last (g ∷ given) e =
    let h = both (nat_lt last g.number) (rises_from g.number given) e in
    let first : nat_lt last g.number ≡ true = h.0 in
    (grind (arith, nat_tests, first), rises_by g.number given h.1)

rises_join : (last : ℕ) (own more : List Given) → Rises last own → Rises (last_of last own) more → Rises last (own ++ more)
rises_join last [] more first later = later
rises_join last (g ∷ own) more first later = (first.0, rises_join g.number own more first.1 later)

-- ---- what the book refused

or_true : (a b : Bool) → b ≡ true → (a || b) ≡ true
or_true true b e = refl
or_true false b e = e

still : (a b : Bool) → a ≡ true → (a || b) ≡ true
still true b e = refl
still false b e = cc

open_still : (b : Bool) → b ≡ true → not b ≡ true → ⊥
open_still b e f = cc

neither_of : (a b : Bool) → (a || b) ≡ false → (a ≡ false) × (b ≡ false)
neither_of true b e = absurd (cc e)
neither_of false b e = (refl, e)

-- what is noted stays so
noted_still : (noted full : Bool) (parts : List Part) → AllByRecursion (λ p. AreKnown noted (told_of p)) parts → AllByRecursion (λ p. AreKnown (noted || full) (told_of p)) parts
noted_still noted full [] all = tt
noted_still noted full (p ∷ parts) all = (known_on _ _ (told_of p) (record { full = λ e. still noted full e; not_open = λ e. e }) all.0, noted_still noted full parts all.1)

-- ---- the last receipt of a session

given_more : (sent : List Sent) (s : Sent) → flat_map (λ s. s.given) (sent ++ s ∷ []) ≡ flat_map (λ s. s.given) sent ++ s.given
given_more sent s = flat_map-append (λ (s : Sent). s.given) sent (s ∷ []) ∙ ap (λ gs. flat_map (λ (s : Sent). s.given) sent ++ gs) (append-nil s.given)

told_more : (sent : List Sent) (s : Sent) → flat_map (λ s. s.told) (sent ++ s ∷ []) ≡ flat_map (λ s. s.told) sent ++ s.told
told_more sent s = flat_map-append (λ (s : Sent). s.told) sent (s ∷ []) ∙ ap (λ ts. flat_map (λ (s : Sent). s.told) sent ++ ts) (append-nil s.told)

at_last : (sent : List Sent) → unwrap_or (last_in sent (flat_map (λ s. s.given) sent)) 0 ≡ last_of 0 (flat_map (λ s. s.given) sent)
at_last [] = refl
at_last (s ∷ sent) = refl

last_some : (sent : List Sent) (s : Sent) (given : List Given) → last_in (sent ++ s ∷ []) given ≡ Some (last_of 0 given)
last_some [] s given = refl
last_some (t ∷ sent) s given = refl

last_more : (sent : List Sent) (s : Sent) → last_in (sent ++ s ∷ []) (flat_map (λ s. s.given) (sent ++ s ∷ [])) ≡ Some (last_of (unwrap_or (last_in sent (flat_map (λ s. s.given) sent)) 0) s.given)
last_more sent s =
    last_some sent s (flat_map (λ s. s.given) (sent ++ s ∷ []))
    ∙ ap (λ gs. Some (last_of 0 gs)) (given_more sent s)
    ∙ ap Some (last_join 0 (flat_map (λ (s : Sent). s.given) sent) s.given ∙ ap (λ l. last_of l s.given) (sym (at_last sent)))

none_sent : (sent : List Sent) (given : List Given) → is_some (last_in sent given) ≡ false → sent ≡ []
none_sent [] given e = refl
none_sent (s ∷ sent) given e = absurd (cc e)

abbrev lasts_of : List Part → Lasts
lasts_of parts = map (λ p. last_in p.sent (given_of p)) parts

abbrev at : ℕ → List Part → Option ℕ
at k parts = unwrap_or (slice_get (lasts_of parts) k) None

-- ---- one more connection of the part at a place, from 0 on

abbrev with_sent : Part → Sent → Part
with_sent p s = record { number = p.number; sent = p.sent ++ s ∷ [] }

abbrev add_to : Sent → ℕ → List Part → List Part
add_to s k [] = []
add_to s zero (p ∷ parts) = with_sent p s ∷ parts
add_to s (suc k) (p ∷ parts) = p ∷ add_to s k parts

module _ (s : Sent) where
  numbered_still : (n k : ℕ) (parts : List Part) → AreNumbered n parts → AreNumbered n (add_to s k parts)
  numbered_still n k [] are = tt
  numbered_still n zero (p ∷ parts) are = are
  numbered_still n (suc k) (p ∷ parts) are = (are.0, numbered_still (n + 1) k parts are.1)

  wide_still : (k : ℕ) (parts : List Part) → length (add_to s k parts) ≡ length parts
  wide_still k [] = refl
  wide_still zero (p ∷ parts) = refl
  wide_still (suc k) (p ∷ parts) = ap suc (wide_still k parts)

  one_added : (k : ℕ) (parts : List Part) → k < length parts → length (flat_map (λ p. p.sent) (add_to s k parts)) ≡ length (flat_map (λ p. p.sent) parts) + 1
  one_added k [] within = absurd (omega (arith, within))
  one_added zero (p ∷ parts) within =
      let rest = flat_map (λ (p : Part). p.sent) parts in
      length-append (p.sent ++ s ∷ []) rest ∙ ap (λ n. n + length rest) (length-append p.sent (s ∷ []))
      ∙ (let h : (length p.sent + 1) + length rest ≡ (length p.sent + length rest) + 1 = omega arith in h)
      ∙ sym (ap (λ n. n + 1) (length-append p.sent rest))
  one_added (suc k) (p ∷ parts) within =
      let rest = flat_map (λ (p : Part). p.sent) parts in
      length-append p.sent (flat_map (λ p. p.sent) (add_to s k parts)) ∙ ap (λ n. length p.sent + n) (one_added k parts (omega (arith, within)))
      ∙ (let h : length p.sent + (length rest + 1) ≡ (length p.sent + length rest) + 1 = omega arith in h)
      ∙ sym (ap (λ n. n + 1) (length-append p.sent rest))

  lasts_still : (k : ℕ) (parts : List Part) → lasts_of (add_to s k parts) ≡ slice_set (lasts_of parts) k (Some (last_of (unwrap_or (at k parts) 0) s.given))
  lasts_still k [] = refl
  lasts_still zero (p ∷ parts) = ap (λ l. l ∷ lasts_of parts) (last_more p.sent s)
  lasts_still (suc k) (p ∷ parts) = ap (λ ls. last_in p.sent (given_of p) ∷ ls) (lasts_still k parts)

  known_still : (noted : Bool) (k : ℕ) (parts : List Part) → AreKnown noted s.told → AllByRecursion (λ p. AreKnown noted (told_of p)) parts → AllByRecursion (λ p. AreKnown noted (told_of p)) (add_to s k parts)
  known_still noted k [] own all = tt
  known_still noted zero (p ∷ parts) own all =
      (subst (AreKnown noted) (sym (told_more p.sent s)) (all_and (λ t. IsKnown (record { full = noted; not_open = false }) t.refused) (told_of p) s.told all.0 own), all.1)
  known_still noted (suc k) (p ∷ parts) own all = (all.0, known_still noted k parts own all.1)

  once_still : (k : ℕ) (parts : List Part) → is_some (at k parts) ≡ false → AllByRecursion (λ p. length p.sent ≤ 1) parts → AllByRecursion (λ p. length p.sent ≤ 1) (add_to s k parts)
  once_still k [] none all = tt
  once_still zero (p ∷ parts) none all =
      let no_other : p.sent ≡ [] = none_sent p.sent (given_of p) none in
      (subst (λ sent. length (sent ++ s ∷ []) ≤ 1) (sym no_other) (omega arith), all.1)
  once_still (suc k) (p ∷ parts) none all = (all.0, once_still k parts none all.1)

  given_still : (k : ℕ) (parts : List Part) → k < length parts → IsPermutation (flat_map given_of parts ++ s.given) (flat_map given_of (add_to s k parts))
  given_still k [] within = absurd (omega (arith, within))
  given_still zero (p ∷ parts) within =
      let rest = flat_map given_of parts in
      subst (λ gs. IsPermutation ((given_of p ++ rest) ++ s.given) (gs ++ rest)) (sym (given_more p.sent s))
      (subst (λ gs. IsPermutation gs ((given_of p ++ s.given) ++ rest)) (sym (append_assoc (given_of p) rest s.given))
      (subst (IsPermutation (given_of p ++ (rest ++ s.given))) (sym (append_assoc (given_of p) s.given rest))
      (IsPermutation-append_right (given_of p) (rest ++ s.given) (s.given ++ rest) (IsPermutation-append_comm rest s.given))))
  given_still (suc k) (p ∷ parts) within =
      subst (λ gs. IsPermutation gs (given_of p ++ flat_map given_of (add_to s k parts))) (sym (append_assoc (given_of p) (flat_map given_of parts) s.given))
      (IsPermutation-append_right (given_of p) (flat_map given_of parts ++ s.given) (flat_map given_of (add_to s k parts)) (given_still k parts (omega (arith, within))))

module _ (schema : Schema) where
  abbrev sent_of : (number : ℕ) (refused : BookRefusalsState) (own : List Given) → IsServedAs schema number refused own → Sent
  sent_of number refused own served = record { lines = served.taken.lines; told = served.taken.told; given = own; text = served.taken.text; later = served.taken.later }

  parts_still : (number : ℕ) (refused : BookRefusalsState) (own : List Given) (served : IsServedAs schema number refused own) (n k : ℕ) (parts : List Part) → AreNumbered n parts → number ≡ n + k → Rises (unwrap_or (at k parts) 0) own
      → AllByRecursion (IsPart schema) parts → AllByRecursion (IsPart schema) (add_to (sent_of number refused own served) k parts)
  parts_still number refused own served n k [] are is rises all = tt
  parts_still number refused own served n zero (p ∷ parts) are is rises all =
      let s = sent_of number refused own served in
      let same : number ≡ p.number = is ∙ (let h : n + 0 ≡ n = omega arith in h) ∙ sym are.0 in (
        record {
          some = all.0.some;
          in_range = all.0.in_range;
          serves = all_and (λ s. Serves is_reading schema p.number s.lines s.told (after 0 None) s.given s.text s.later) p.sent (s ∷ []) all.0.serves
              (subst (λ i. Serves is_reading schema i s.lines s.told (after 0 None) s.given s.text s.later) same served.taken.serves, tt);
          rises = subst (Rises 0) (sym (given_more p.sent s)) (rises_join 0 (given_of p) own all.0.rises (subst (λ l. Rises l own) (at_last p.sent) rises));
        },
        all.1,
      )
  parts_still number refused own served n (suc k) (p ∷ parts) are is rises all =
      (all.0, parts_still number refused own served (n + 1) k parts are.1 (is ∙ (let h : n + suc k ≡ (n + 1) + k = omega arith in h)) rises all.1)

  pub with_connection : (lasts : Lasts) (connections : ℕ) (again noted : Bool) (given own : List Given) (number : ℕ) (full not_open : Bool) → AreOfRun schema lasts connections again noted given → IsServedAs schema number (record { full = full; not_open = not_open }) own
      → nat_lt connections most_counted && (nat_lt 0 number && (not not_open && rises_from (last_for lasts number) own)) ≡ true
      → AreOfRun schema (slice_set lasts (number - 1) (Some (last_of (last_for lasts number) own))) (min (connections + 1) most_counted) (again || is_some (handed_by lasts number)) (noted || full) (given ++ own)
  with_connection lasts connections again noted given own number full not_open run served goes =
      let s = sent_of number _ own served in
      let room = both (nat_lt connections most_counted) (nat_lt 0 number && (not not_open && rises_from (last_for lasts number) own)) goes in
      let tests = both (nat_lt 0 number) (not not_open && rises_from (last_for lasts number) own) room.1 in
      let its = both (not not_open) (rises_from (last_for lasts number) own) tests.1 in
      let some : 0 < number = grind (arith, nat_tests, tests.0) in
      let place : number ≡ 1 + (number - 1) = omega (arith, some) in
      let within : number - 1 < length run.parts = omega (arith, some, served.in_range, run.wide) in
      let its_last : Rises (unwrap_or (at (number - 1) run.parts) 0) own =
      subst (λ ls. Rises (last_for ls number) own) (sym run.lasts_are) (rises_by (last_for lasts number) own its.1) in
      record {
        parts = add_to s (number - 1) run.parts;
        service = run.service;
        are_parts = parts_still number _ own served 1 (number - 1) run.parts run.numbered place its_last run.are_parts;
        numbered = numbered_still s 1 (number - 1) run.parts run.numbered;
        wide = wide_still s (number - 1) run.parts ∙ run.wide;
        known = known_still s (noted || full) (number - 1) run.parts
            (known_on _ _ served.taken.told (record { full = λ e. or_true noted full e; not_open = λ e. absurd (open_still not_open e its.0) }) served.taken.known)
            (noted_still noted full run.parts run.known);
        lasts_are = lasts_still s (number - 1) run.parts ∙ ap (λ ls. slice_set ls (number - 1) (Some (last_of (last_for ls number) own))) run.lasts_are;
        connections_are =
            one_added s (number - 1) run.parts within ∙ ap (λ n. n + 1) run.connections_are
            ∙ (let h : connections + 1 ≡ min (connections + 1) most_counted = grind (arith, nat_tests, room.0) in h);
        once = λ e.
            let neither = neither_of again (is_some (handed_by lasts number)) e in
            once_still s (number - 1) run.parts (ap (λ ls. is_some (handed_by ls number)) run.lasts_are ∙ neither.1) (run.once neither.0);
        serviced = run.serviced;
        given_are = IsPermutation-trans (given ++ own) ((flat_map given_of run.parts ++ own) ++ run.service) (flat_map given_of (add_to s (number - 1) run.parts) ++ run.service)
            (moved given (flat_map given_of run.parts) run.service own run.given_are)
            (IsPermutation-append (flat_map given_of run.parts ++ own) (flat_map given_of (add_to s (number - 1) run.parts)) run.service run.service (given_still s (number - 1) run.parts within) (IsPermutation-refl run.service));
      }

  pub with_service : (lasts : Lasts) (connections : ℕ) (again noted : Bool) (given own : List Given) → AreOfRun schema lasts connections again noted given → AllByRecursion (λ g. IsOfService g.entry) own → AreOfRun schema lasts connections (again || false) (noted || false) (given ++ own)
  with_service lasts connections again noted given own run serviced = record {
    parts = run.parts;
    service = run.service ++ own;
    are_parts = run.are_parts;
    numbered = run.numbered;
    wide = run.wide;
    known = noted_still noted false run.parts run.known;
    lasts_are = run.lasts_are;
    connections_are = run.connections_are;
    once = λ e. run.once (neither_of again false e).0;
    serviced = all_and (λ g. IsOfService g.entry) run.service own run.serviced serviced;
    given_are = subst (IsPermutation (given ++ own)) (append_assoc (flat_map given_of run.parts) run.service own)
        (IsPermutation-append given (flat_map given_of run.parts ++ run.service) own own run.given_are (IsPermutation-refl own));
  }

  -- ---- no connection yet

  abbrev silent : (n count : ℕ) → List Part
  silent n zero = []
  silent n (suc count) = record { number = n; sent = [] } ∷ silent (n + 1) count

  silent_numbered : (n count : ℕ) → AreNumbered n (silent n count)
  silent_numbered n zero = tt
  silent_numbered n (suc count) = (refl, silent_numbered (n + 1) count)

  silent_wide : (n count : ℕ) → length (silent n count) ≡ count
  silent_wide n zero = refl
  silent_wide n (suc count) = ap suc (silent_wide (n + 1) count)

  silent_parts : (n count : ℕ) → 1 ≤ n → n + count ≤ max_session + 1 → AllByRecursion (IsPart schema) (silent n count)
  silent_parts n zero some within = tt
  silent_parts n (suc count) some within = (record { some = some; in_range = omega (arith, within); serves = tt; rises = tt }, silent_parts (n + 1) count (omega (arith, some)) (omega (arith, within)))

  silent_known : (noted : Bool) (n count : ℕ) → AllByRecursion (λ p. AreKnown noted (told_of p)) (silent n count)
  silent_known noted n zero = tt
  silent_known noted n (suc count) = (tt, silent_known noted (n + 1) count)

  silent_once : (n count : ℕ) → AllByRecursion (λ p. length p.sent ≤ 1) (silent n count)
  silent_once n zero = tt
  silent_once n (suc count) = (omega arith, silent_once (n + 1) count)

  silent_none : (n count : ℕ) → flat_map (λ p. p.sent) (silent n count) ≡ []
  silent_none n zero = refl
  silent_none n (suc count) = silent_none (n + 1) count

  silent_lasts : (n count : ℕ) → lasts_of (silent n count) ≡ replicate count None
  silent_lasts n zero = refl
  silent_lasts n (suc count) = ap (λ ls. None ∷ ls) (silent_lasts (n + 1) count)

  silent_given : (n count : ℕ) → flat_map given_of (silent n count) ≡ []
  silent_given n zero = refl
  silent_given n (suc count) = silent_given (n + 1) count

  nothing_yet : (again noted : Bool) → AreOfRun schema (replicate max_session None) 0 again noted []
  nothing_yet again noted = record {
    parts = silent 1 max_session;
    service = [];
    are_parts = silent_parts 1 max_session (omega arith) (omega arith);
    numbered = silent_numbered 1 max_session;
    wide = silent_wide 1 max_session;
    known = silent_known noted 1 max_session;
    lasts_are = silent_lasts 1 max_session;
    connections_are = ap length (silent_none 1 max_session);
    once = λ e. silent_once 1 max_session;
    serviced = tt;
    given_are = subst (λ gs. IsPermutation [] (gs ++ [])) (sym (silent_given 1 max_session)) (IsPermutation-refl []);
  }

  -- what is filled up from nothing
  pub filled : (items old : Lasts) (n len : ℕ) → items ≡ take n old ++ replicate (n - len) None → old ≡ [] → len ≡ 0 → n ≡ max_session → items ≡ replicate max_session None
  filled items old n len is empty nought all = is ∙ (λ k. take (all k) (empty k) ++ replicate (all k - nought k) None)

  pub nothing_of : (lasts : Lasts) (connections : ℕ) (again noted : Bool) (given : List Given) → lasts ≡ replicate max_session None → connections ≡ 0 → given ≡ [] → AreOfRun schema lasts connections again noted given
  nothing_of lasts connections again noted given none nought empty =
      subst (λ ls. AreOfRun schema ls connections again noted given) (sym none)
      (subst (λ n. AreOfRun schema (replicate max_session None) n again noted given) (sym nought)
      (subst (AreOfRun schema (replicate max_session None) 0 again noted) (sym empty) (nothing_yet again noted)))

  -- what is handed over next
  pub with_more : (p : PileState) (origin : Origin) (own : List Given) (goes : Bool) (lasts : Lasts) (connections : ℕ) (again noted : Bool) (given : List Given) → IsPile schema p → IsOf schema origin own → goes ≡ goes_on p.lasts p.connections origin own
      → lasts ≡ counted p.lasts origin own → connections ≡ one_more p.connections origin → again ≡ (p.again || is_again p.lasts origin) → noted ≡ (p.has_full || has_full_of origin) → given ≡ p.given ++ own → p.is_run && goes ≡ true
      → AreOfRun schema lasts connections again noted given
  with_more p origin own goes lasts connections again noted given was of goes_is lasts_are connections_are again_is noted_is given_are is =
      let h = both p.is_run goes is in
      subst (λ ls. AreOfRun schema ls connections again noted given) (sym lasts_are)
      (subst (λ n. AreOfRun schema (counted p.lasts origin own) n again noted given) (sym connections_are)
      (subst (λ a. AreOfRun schema (counted p.lasts origin own) (one_more p.connections origin) a noted given) (sym again_is)
      (subst (λ n. AreOfRun schema (counted p.lasts origin own) (one_more p.connections origin) (p.again || is_again p.lasts origin) n given) (sym noted_is)
      (subst (AreOfRun schema (counted p.lasts origin own) (one_more p.connections origin) (p.again || is_again p.lasts origin) (p.has_full || has_full_of origin)) (sym given_are) (by origin of (sym goes_is ∙ h.1) (was h.0))))))
    where
      by : (origin : Origin) → IsOf schema origin own → goes_on p.lasts p.connections origin own ≡ true → AreOfRun schema p.lasts p.connections p.again p.has_full p.given
          → AreOfRun schema (counted p.lasts origin own) (one_more p.connections origin) (p.again || is_again p.lasts origin) (p.has_full || has_full_of origin) (p.given ++ own)
      by (Session number full not_open) of is run = with_connection p.lasts p.connections p.again p.has_full p.given own number full not_open run of is
      by Service of is run = with_service p.lasts p.connections p.again p.has_full p.given own run of

-- ---- what the numbers of parts show

above : (n m : ℕ) (parts : List Part) → n < m → AreNumbered m parts → AllByRecursion (λ k. k ≢ n) (map (λ p. p.number) parts)
above n m [] less are = tt
above n m (p ∷ parts) less are = ((λ e. omega (arith, less, are.0, e)), above n (m + 1) parts (omega (arith, less)) are.1)

pub are_apart : (n : ℕ) (parts : List Part) → AreNumbered n parts → AreApart (map (λ p. p.number) parts)
are_apart n [] are = tt
are_apart n (p ∷ parts) are =
    (subst (λ m. AllByRecursion (λ k. k ≢ m) (map (λ p. p.number) parts)) (sym are.0) (above n (n + 1) parts (omega arith) are.1), are_apart (n + 1) parts are.1)

-- the numbers from 1 on, the last of which is put behind
abbrev from : (n count : ℕ) → List ℕ
from n zero = []
from n (suc count) = n ∷ from (n + 1) count

one_behind : (n count : ℕ) → from n (suc count) ≡ from n count ++ (n + count) ∷ []
one_behind n zero = ap (λ m. m ∷ []) (let h : n ≡ n + 0 = omega arith in h)
one_behind n (suc count) = ap (λ ns. n ∷ ns) (one_behind (n + 1) count ∙ ap (λ m. from (n + 1) count ++ m ∷ []) (let h : (n + 1) + count ≡ n + suc count = omega arith in h))

from_one : (count : ℕ) → from 1 count ≡ numbers count
from_one zero = refl
from_one (suc count) =
    let next : 1 + count ≡ suc count = omega arith in
    one_behind 1 count ∙ (λ k. from_one count k ++ next k ∷ [])

in_order : (n : ℕ) (parts : List Part) → AreNumbered n parts → map (λ p. p.number) parts ≡ from n (length parts)
in_order n [] are = refl
in_order n (p ∷ parts) are = (λ k. are.0 k ∷ in_order (n + 1) parts are.1 k)

pub numbers_are : (parts : List Part) → AreNumbered 1 parts → length parts ≡ max_session → map (λ p. p.number) parts ≡ numbers max_session
numbers_are parts are wide = in_order 1 parts are ∙ ap (from 1) wide ∙ from_one max_session

is_none_sent : (sent : List Sent) (given : List Given) → is_none (last_in sent given) ≡ true → sent ≡ []
is_none_sent [] given e = refl
is_none_sent (s ∷ sent) given e = absurd (cc e)

all_silent : (least : ℕ) (parts : List Part) → list_all is_none (lasts_of parts) ≡ true → AllByRecursion (λ p. least ≤ p.number → p.sent ≡ []) parts
all_silent least [] e = tt
all_silent least (p ∷ parts) e =
    let h = both (is_none (last_in p.sent (given_of p))) (list_all is_none (lasts_of parts)) e in
    ((λ at. is_none_sent p.sent (given_of p) h.0), all_silent least parts h.1)

-- none of those behind so many has a connection
pub silent_beyond : (least n k : ℕ) (parts : List Part) → least ≡ n + k → AreNumbered n parts → list_all is_none (drop k (lasts_of parts)) ≡ true → AllByRecursion (λ p. least ≤ p.number → p.sent ≡ []) parts
silent_beyond least n k [] is are e = tt
silent_beyond least n zero (p ∷ parts) is are e = all_silent least (p ∷ parts) e
silent_beyond least n (suc k) (p ∷ parts) is are e =
    ((λ at. absurd (omega (arith, at, is, are.0))), silent_beyond least (n + 1) k parts (is ∙ (let h : n + suc k ≡ (n + 1) + k = omega arith in h)) are.1 e)
