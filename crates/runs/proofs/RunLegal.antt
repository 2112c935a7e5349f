-- The entries of a closed journal, in turn: each may come where it stands.
use Rattle.std.proofs.Common.{◌≡◌, ℕ, zero, suc, ◌+◌, List, [], ◌∷◌, ◌++◌, Option, Some, None, refl, sym, ap, subst, ◌∙◌, arith, append-nil, append_assoc, map, length, length-append, reverse, slice_get}
use Rattle.std.proofs.lemmas.List.{length-reverse}
use Rattle.std.specs.List.{AllByRecursion, cons_option}
use Rattle.std.specs.Option.{option_map}
use Rattle.values.specs.Tables.{Schema}
use Rattle.values.specs.Law.{IsLog}
use Rattle.growlog.specs.Origin.{Origin}
use Rattle.histories.specs.History.{History}
use Rattle.values.specs.Log.{changes}
use Rattle.values.specs.Events.{AreChangesIn}
use Rattle.serving.specs.journal.declared.entry.Entry.{Entry}
use Rattle.serving.specs.journal.Entries.{Entries, entry_at, numbers, log as journal_log}
use Rattle.serving.specs.journal.Legal.{IsLegal}
use Rattle.serving.proofs.journal.JournalNumbering.{entry_is, reverse_more, reverse_push}
use Rattle.serving.proofs.sessions.StoreOfHistoryAlike.{same_some}
use Rattle.serving.specs.Progress.{Given}
use Rattle.runs.specs.Event.{Event, receipts_of}
use Rattle.runs.proofs.RunAlong.{MayAll}
use Rattle.runs.proofs.OneHistoryBeside.{World, Beside, Moves, May, MayBy, Right, add, with_entry}
use Rattle.runs.proofs.TellsFacts.{numbers_of}
use Rattle.runs.proofs.RunJournal.{keys_before, onto}

abbrev pub entries_of : List Given → List Entry
entries_of given = map (λ g. g.entry) given

-- ---- numbers from the next one on

abbrev pub Upward : ℕ → List ℕ → Type 0
Upward from [] = Unit {0}
Upward from (n ∷ ns) = (n ≡ suc from) × Upward (suc from) ns

upward_push : (from : ℕ) (ns : List ℕ) → Upward from ns → Upward from (ns ++ suc (length ns + from) ∷ [])
upward_push from [] up = ((let e : suc (0 + from) ≡ suc from = omega arith in e), tt)
upward_push from (n ∷ ns) up = (up.0, subst (λ m. Upward (suc from) (ns ++ m ∷ [])) (let e : suc (length ns + suc from) ≡ suc (suc (length ns) + from) = omega arith in e) (upward_push (suc from) ns up.1))

numbers_length : (n : ℕ) → length (numbers n) ≡ n
numbers_length zero = refl
numbers_length (suc n) = length-append (numbers n) (suc n ∷ []) ∙ (let e : length (numbers n) + 1 ≡ suc n = omega (arith, numbers_length n) in e)

numbers_upward : (n : ℕ) → Upward 0 (numbers n)
numbers_upward zero = tt
numbers_upward (suc n) = subst (λ m. Upward 0 (numbers n ++ suc m ∷ [])) (let e : length (numbers n) + 0 ≡ n = omega (arith, numbers_length n) in e) (upward_push 0 (numbers n) (numbers_upward n))

-- ---- the entries in turn

module _ (at : ℕ → Option Entry) where
  -- receipts that stand at their numbers, which go up, are of the entries from there on
  are_from : (from : ℕ) (given : List Given) (es : List Entry) → Upward from (numbers_of given) → AllByRecursion (λ g. at g.number ≡ Some g.entry) given
      → length given ≡ length es → ((k : ℕ) → at (suc from + k) ≡ slice_get es k) → entries_of given ≡ es
  are_from from [] [] up stand same is = refl
  are_from from [] (e ∷ es) up stand same is = absurd (cc)
  are_from from (g ∷ given) [] up stand same is = absurd (cc)
  are_from from (g ∷ given) (e ∷ es) up stand same is =
      let plus : suc from ≡ suc from + 0 = omega arith in
      let first : g.entry ≡ e = same_some g.entry e (sym stand.0 ∙ ap at (up.0 ∙ plus) ∙ is 0) in
      let rest : length given ≡ length es = cc in
      (λ k. first k ∷ entries_of given)
      ∙ ap (λ es. e ∷ es) (are_from (suc from) given es up.1 stand.1 rest (λ k. ap at (let e : suc (suc from) + k ≡ suc from + suc k = omega arith in e) ∙ is (suc k)))

length_numbers : (given : List Given) → length (numbers_of given) ≡ length given
length_numbers [] = refl
length_numbers (g ∷ given) = ap suc (length_numbers given)

-- what is numbered in turn, and stands in the journal, is its entries in their order
pub entries_in_turn : (j : Entries) (given : List Given) → numbers_of given ≡ numbers (length j) → AllByRecursion (λ g. entry_at j g.number ≡ Some g.entry) given → entries_of given ≡ reverse j
entries_in_turn j given same stand =
    are_from (entry_at j) 0 given (reverse j) (subst (Upward 0) (sym same) (numbers_upward (length j))) stand
    (sym (length_numbers given) ∙ ap length same ∙ numbers_length (length j) ∙ sym (length-reverse j))
    (λ k. ap (entry_at j) (let e : suc 0 + k ≡ k + 1 = omega arith in e) ∙ entry_is j k)

onto_is : (es : List Entry) (j : Entries) → onto es j ≡ reverse es ++ j
onto_is [] j = refl
onto_is (e ∷ es) j = onto_is es (e ∷ j) ∙ sym (append_assoc (reverse es) (e ∷ []) j) ∙ ap (λ xs. xs ++ j) (sym (reverse_more e es))

reverse_twice : (j : Entries) → reverse (reverse j) ≡ j
reverse_twice [] = refl
reverse_twice (e ∷ j) = ap reverse (reverse_more e j) ∙ twice (reverse j) ∙ ap (λ xs. e ∷ xs) (reverse_twice j)
  where
    twice : (xs : List Entry) → reverse (xs ++ e ∷ []) ≡ e ∷ reverse xs
    twice xs = reverse_push xs e

pub whole_journal : (j : Entries) → onto (reverse j) [] ≡ j
whole_journal j = onto_is (reverse j) [] ∙ append-nil (reverse (reverse j)) ∙ reverse_twice j

-- ---- each may come

module _ (first : Schema) (origin : Origin) (rises : IsLog origin.log) where
  earlier_legal : (es : List Entry) (j : Entries) → IsLegal origin (onto es j) → IsLegal origin j
  earlier_legal [] j legal = legal
  earlier_legal (e ∷ es) j legal = (earlier_legal es (e ∷ j) legal).1

  record MayGoOn (j : Entries) (given : List Given) : Type 0 where
    legal : IsLegal origin (onto (entries_of given) j)
    upward : Upward (length j) (numbers_of given)
    keys : AreChangesIn origin.schema (changes (journal_log origin (onto (entries_of given) j)))

  may_by : (w : World) (number : ℕ) (entry : Option Entry) (given : List Given) → MayGoOn w.entries (cons_option (option_map (λ entry. record { number = number; entry = entry }) entry) given)
      → MayBy first origin w number entry × MayGoOn (with_entry entry w.entries) given
  may_by w number None given on = (tt, on)
  may_by w number (Some e) given on = (
    record {
      follows = (earlier_legal (entries_of given) (e ∷ w.entries) on.legal).0;
      numbered = on.upward.0;
      keys = keys_before origin rises (e ∷ entries_of given) w.entries on.keys;
    },
    record { legal = on.legal; upward = on.upward.1; keys = on.keys },
  )

  abbrev MayComeAll : World → List Event → Type 0
  MayComeAll = MayAll (λ (e : Event). e.part) add (Moves origin.schema) (May first origin) (Right first origin) (Beside first origin)

  may_all : (xs : List Event) (w : World) → MayGoOn w.entries (receipts_of xs) → MayComeAll w xs
  may_all [] w on = tt
  may_all (x ∷ xs) w on =
      let both = may_by w x.number x.entry (receipts_of xs) on in
      (both.0, may_all xs (add x w) both.1)

  -- events whose receipts are the whole journal's, in turn
  pub all_may_come : (before : History) (j : Entries) (xs : List Event) → IsLegal origin j → AreChangesIn origin.schema (changes (journal_log origin j)) → entries_of (receipts_of xs) ≡ reverse j → numbers_of (receipts_of xs) ≡ numbers (length j)
      → MayComeAll (record { entries = []; history = before }) xs
  all_may_come before j xs legal keys are same =
      let whole : onto (entries_of (receipts_of xs)) [] ≡ j = ap (λ es. onto es []) are ∙ whole_journal j in
      may_all xs (record { entries = []; history = before }) (record {
        legal = subst (IsLegal origin) (sym whole) legal;
        upward = subst (Upward 0) (sym same) (numbers_upward (length j));
        keys = subst (λ j. AreChangesIn origin.schema (changes (journal_log origin j))) (sym whole) keys;
      })
