-- A byte order mark, and a reader that gives a file in pieces.
use Rattle.std.proofs.Common.{◌≡◌, ◌≤◌, ◌<◌, ℕ, Bool, true, false, List, [], ◌∷◌, ◌++◌, Option, Some, None, Result, Err, refl, sym, ap, ◌∙◌, subst, inl, inr, arith, append-nil, append_assoc, length, drop, if◌then◌else◌}
use Rattle.std.specs.Prelude.{get_or, nat_lt}
use Rattle.std.proofs.lemmas.Bool.Decides.{nat_tests}
use Rattle.std.specs.Io.KnownBytes.{Consumes, IsAtEnd}
use Rattle.csv.specs.Reading.{AreRecords, default_config, is_bom, strip_bom}
use Rattle.csv.specs.declared.parser.State.TheVariants as state
use Rattle.values.specs.declared.table.Table.{Table}
use Rattle.values.specs.declared.refusal.Refusal.{Refusal}
use Rattle.values.specs.Log.{Row}
use Rattle.interchange.specs.declared.stream.LoadFault.{LoadFault}
use Rattle.interchange.specs.declared.stream.LoadFault.TheVariants.{Read, Refused}
use Rattle.interchange.specs.Loading.{IsWhyOf, IsWholeOf}
use Rattle.interchange.specs.Stream.{IsEndedBy, IsGiven, IsLoadAfter, IsLoadOf, IsUnloaded, IsUnloadedAfter}

-- ---- the byte order mark

pub no_room : (bytes : List ℕ) → length bytes < 3 → bytes ≡ strip_bom bytes
unfolding strip_bom
no_room [] h = refl
no_room (a ∷ []) h = refl
no_room (a ∷ b ∷ []) h = refl
no_room (a ∷ b ∷ c ∷ rest) h = absurd (omega (arith, h))

pub mark_taken : (bytes : List ℕ) → 3 ≤ length bytes → is_bom (get_or bytes 0 0) (get_or bytes 1 0) (get_or bytes 2 0) ≡ true → drop 3 bytes ≡ strip_bom bytes
unfolding strip_bom
mark_taken [] h e = absurd (omega (arith, h))
mark_taken (a ∷ []) h e = absurd (omega (arith, h))
mark_taken (a ∷ b ∷ []) h e = absurd (omega (arith, h))
mark_taken (a ∷ b ∷ c ∷ rest) h e = ap (λ (t : Bool). if t then rest else a ∷ b ∷ c ∷ rest) (sym e)

pub no_mark : (bytes : List ℕ) → is_bom (get_or bytes 0 0) (get_or bytes 1 0) (get_or bytes 2 0) ≡ false → bytes ≡ strip_bom bytes
unfolding strip_bom
no_mark [] e = refl
no_mark (a ∷ []) e = refl
no_mark (a ∷ b ∷ []) e = refl
no_mark (a ∷ b ∷ c ∷ rest) e = ap (λ (t : Bool). if t then rest else a ∷ b ∷ c ∷ rest) (sym e)

-- the mark of a head is that of the whole
pub mark_of_head : (head rest : List ℕ) → 3 ≤ length head → strip_bom (head ++ rest) ≡ strip_bom head ++ rest
unfolding strip_bom
mark_of_head [] rest h = absurd (omega (arith, h))
mark_of_head (a ∷ []) rest h = absurd (omega (arith, h))
mark_of_head (a ∷ b ∷ []) rest h = absurd (omega (arith, h))
mark_of_head (a ∷ b ∷ c ∷ more) rest h = by (is_bom a b c)
  where
    by : (t : Bool) → (if t then more ++ rest else a ∷ b ∷ c ∷ (more ++ rest)) ≡ (if t then more else a ∷ b ∷ c ∷ more) ++ rest
    by true = refl
    by false = refl

-- ---- what is known of the rest of a file

-- the bytes that a reader has left
abbrev pub left_of : Option (List ℕ) → List ℕ
left_of None = []
left_of (Some known) = known

pub left_given : (known : Option (List ℕ)) → IsGiven known (left_of known)
left_given None = tt
left_given (Some known) = refl

-- what was read, and what is left
pub given_more : (a b : Option (List ℕ)) (bytes rest : List ℕ) → Consumes a b bytes → IsGiven b rest → IsGiven a (bytes ++ rest)
given_more None b bytes rest p g = tt
given_more (Some x) None bytes rest p g = absurd p
given_more (Some x) (Some y) bytes rest p g = ap (λ l. bytes ++ l) g ∙ sym p

pub given_end : (a : Option (List ℕ)) → IsAtEnd a → IsGiven a []
given_end None e = tt
given_end (Some x) e = sym e

pub given_done : (a b c : Option (List ℕ)) (seen : List ℕ) → Consumes a b seen → Consumes b c [] → IsAtEnd c → IsGiven a seen
given_done a b c seen p q e = subst (IsGiven a) (append-nil seen) (given_more a b seen [] p (given_more b c [] [] q (given_end c e)))

-- ---- how the rest of a file ends

pub rest_done : (table : Table) (text : List ℕ) (known : Option (List ℕ)) (seen : List ℕ) (result : Result (List Row) Refusal) → IsGiven known seen → IsWholeOf table (text ++ seen) result
    → IsLoadAfter table text known result
rest_done table text known seen result given whole = record { rest = seen; given = given; whole = whole }

pub rest_ended : (fault : LoadFault) (table : Table) (text : List ℕ) (known : Option (List ℕ)) (seen : List ℕ) → IsGiven known seen → IsEndedBy fault table (text ++ seen) → IsUnloadedAfter fault table text known
rest_ended Read table text known seen given ended = absurd ended
rest_ended (Refused why) table text known seen given (inl out) = inl out
rest_ended (Refused why) table text known seen given (inr whole) = inr (rest_done table text known seen (Err why) given whole)

-- a chunk shows why the file is refused
pub rest_refused : (why : Refusal) (table : Table) (text : List ℕ) (a b c : Option (List ℕ)) (seen chunk : List ℕ) → Consumes a b seen → Consumes b c chunk
    → ((rest : List ℕ) → IsWhyOf why table ((text ++ seen) ++ (chunk ++ rest))) → IsUnloadedAfter (Refused why) table text a
rest_refused why table text a b c seen chunk p q refused = by (refused (left_of c))
  where
    by : IsWhyOf why table ((text ++ seen) ++ (chunk ++ left_of c)) → IsUnloadedAfter (Refused why) table text a
    by (inl out) = inl out
    by (inr whole) = inr (rest_done table text a (seen ++ (chunk ++ left_of c)) (Err why)
        (given_more a b seen (chunk ++ left_of c) p (given_more b c chunk (left_of c) q (left_given c)))
        (subst (λ t. IsWholeOf table t (Err why)) (append_assoc text seen (chunk ++ left_of c)) whole))

-- ---- the whole file, by its head and its rest

load_of : (table : Table) (a : Option (List ℕ)) (bytes text : List ℕ) (result : Result (List Row) Refusal) → IsGiven a bytes → strip_bom bytes ≡ text → IsWholeOf table text result → IsLoadOf table a result
load_of table a bytes text result given same whole = record {
  bytes = bytes;
  given = given;
  records = whole.records;
  are_records = subst (λ t. AreRecords default_config state.StartRecord t whole.records) (sym same) whole.are_records;
  rows_are = whole.rows_are;
}

pub long_done : (table : Table) (a b : Option (List ℕ)) (head : List ℕ) (result : Result (List Row) Refusal) → Consumes a b head → 3 ≤ length head → IsLoadAfter table (strip_bom head) b result → IsLoadOf table a result
long_done table a b head result p long after =
    load_of table a (head ++ after.rest) (strip_bom head ++ after.rest) result (given_more a b head after.rest p after.given) (mark_of_head head after.rest long) after.whole

pub long_ended : (fault : LoadFault) (table : Table) (a b : Option (List ℕ)) (head : List ℕ) → Consumes a b head → 3 ≤ length head → IsUnloadedAfter fault table (strip_bom head) b → IsUnloaded fault table a
long_ended Read table a b head p long after = tt
long_ended (Refused why) table a b head p long (inl out) = inl out
long_ended (Refused why) table a b head p long (inr after) = inr (long_done table a b head (Err why) p long after)

short_given : (a b : Option (List ℕ)) (head : List ℕ) → Consumes a b head → IsAtEnd b → IsGiven a head
short_given a b head p e = subst (IsGiven a) (append-nil head) (given_more a b head [] p (given_end b e))

pub short_done : (table : Table) (a b : Option (List ℕ)) (head : List ℕ) (result : Result (List Row) Refusal) → Consumes a b head → IsAtEnd b → IsWholeOf table (strip_bom head) result → IsLoadOf table a result
short_done table a b head result p e whole = load_of table a head (strip_bom head) result (short_given a b head p e) refl whole

pub short_ended : (fault : LoadFault) (table : Table) (a b : Option (List ℕ)) (head : List ℕ) → Consumes a b head → IsAtEnd b → IsEndedBy fault table (strip_bom head) → IsUnloaded fault table a
short_ended Read table a b head p e ended = absurd ended
short_ended (Refused why) table a b head p e (inl out) = inl out
short_ended (Refused why) table a b head p e (inr whole) = inr (short_done table a b head (Err why) p e whole)

none_left : (b : Option (List ℕ)) → IsAtEnd b → left_of b ≡ []
none_left None e = refl
none_left (Some x) e = e

-- the head shows why the file is refused
pub head_refused : (why : Refusal) (table : Table) (a b : Option (List ℕ)) (head : List ℕ) → Consumes a b head → (length head < 3 → IsAtEnd b)
    → ((rest : List ℕ) → IsWhyOf why table (strip_bom head ++ rest)) → IsUnloaded (Refused why) table a
head_refused why table a b head p end refused = by (refused (left_of b))
  where
    marked : strip_bom (head ++ left_of b) ≡ strip_bom head ++ left_of b
    marked = either (nat_lt (length head) 3) refl
      where
        either : (t : Bool) → nat_lt (length head) 3 ≡ t → strip_bom (head ++ left_of b) ≡ strip_bom head ++ left_of b
        either true e =
            let none = none_left b (end (grind (arith, nat_tests))) in
            ap (λ l. strip_bom (head ++ l)) none ∙ ap strip_bom (append-nil head) ∙ sym (append-nil (strip_bom head)) ∙ ap (λ l. strip_bom head ++ l) (sym none)
        either false e = mark_of_head head (left_of b) (grind (arith, nat_tests))

    by : IsWhyOf why table (strip_bom head ++ left_of b) → IsUnloaded (Refused why) table a
    by (inl out) = inl out
    by (inr whole) = inr (load_of table a (head ++ left_of b) (strip_bom head ++ left_of b) (Err why) (given_more a b head (left_of b) p (left_given b)) marked whole)
