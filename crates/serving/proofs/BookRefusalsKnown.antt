-- What a line was refused for is known by what the book refused.
use Rattle.std.proofs.Common.{◌≡◌, List, [], ◌∷◌, ◌++◌, Bool, true, false, inl, inr, refl, ap}
use Rattle.std.specs.Prelude.{◌||◌, ◌⊎◌, ◌≢◌, Result, Ok, Err}
use Rattle.std.specs.List.{AllByRecursion}
use Rattle.values.specs.declared.refusal.Refusal.{Refusal}
use Rattle.values.specs.declared.refusal.Refusal.TheVariants.{Memory, JournalFull, NoTransaction}
use Rattle.steps.specs.declared.step.Listing.{Listing}
use Rattle.steps.specs.declared.step.Reply.TheVariants.{Refused}
use Rattle.sessions.specs.book.Refusal.{is_full, is_not_open}
use Rattle.sessions.specs.declared.refusal.StoreRefusal.TheVariants.{Session, Book}
use Rattle.serving.specs.declared.answer.Sent.{Sent}
use Rattle.serving.specs.declared.answer.Sent.TheVariants.{Reply as Says, Ending, Refused as Denies}
use Rattle.serving.specs.BookRefusals.{BookRefusalsState, GoesOn, IsKnown}
use Rattle.serving.specs.ServedSession.{Told}
use Rattle.serving.specs.Serving.{IsByBook, kept_of, refused_of, sent_listing, sent_refusal}
use Rattle.serving.proofs.AnswerRefusing.{memory_or_reply}

or_left : (a b : Bool) → a ≡ true → (a || b) ≡ true
or_left true b e = refl
or_left false b e = cc

or_right : (a b : Bool) → b ≡ true → (a || b) ≡ true
or_right true b e = refl
or_right false b e = e

-- ---- one refusal more

pub kept_known : (r : BookRefusalsState) (sent : Sent) → IsByBook sent → IsKnown (kept_of r sent) (refused_of sent)
kept_known r (Says reply) by_book = record { full = λ e. cc; not_open = λ e. cc }
kept_known r Ending by_book = record { full = λ e. cc; not_open = λ e. cc }
kept_known r (Denies (Session refusal)) by_book = let is = by_book refusal refl in record { full = λ e. cc (e, is); not_open = λ e. cc (e, is) }
kept_known r (Denies (Book refusal)) by_book = record {
  full = λ e. let is : refusal ≡ JournalFull = cc in or_right r.full (is_full refusal) (ap is_full is);
  not_open = λ e. let is : refusal ≡ NoTransaction = cc in or_right r.not_open (is_not_open refusal) (ap is_not_open is);
}

pub goes_refl : (r : BookRefusalsState) → GoesOn r r
goes_refl r = record { full = λ e. e; not_open = λ e. e }

pub goes_trans : (r s t : BookRefusalsState) → GoesOn r s → GoesOn s t → GoesOn r t
goes_trans r s t f g = record { full = λ e. g.full (f.full e); not_open = λ e. g.not_open (f.not_open e) }

pub kept_on : (r : BookRefusalsState) (sent : Sent) → GoesOn r (kept_of r sent)
kept_on r (Says reply) = goes_refl r
kept_on r Ending = goes_refl r
kept_on r (Denies (Session refusal)) = goes_refl r
kept_on r (Denies (Book refusal)) = record { full = λ e. or_left r.full (is_full refusal) e; not_open = λ e. or_left r.not_open (is_not_open refusal) e }

-- ---- of all lines

pub known_on : (r s : BookRefusalsState) (told : List Told) → GoesOn r s → AllByRecursion (λ t. IsKnown r t.refused) told → AllByRecursion (λ t. IsKnown s t.refused) told
known_on r s [] on all = tt
known_on r s (t ∷ told) on all = (record { full = λ e. on.full (all.0.full e); not_open = λ e. on.not_open (all.0.not_open e) }, known_on r s told on all.1)

pub known_join : (r : BookRefusalsState) (told more : List Told) → AllByRecursion (λ t. IsKnown r t.refused) told → AllByRecursion (λ t. IsKnown r t.refused) more → AllByRecursion (λ t. IsKnown r t.refused) (told ++ more)
known_join r [] more all rest = rest
known_join r (t ∷ told) more all rest = (all.0, known_join r told more all.1 rest)

-- ---- what is refused before the book is asked

pub refusal_by_book : (refusal : Refusal) → IsByBook (sent_refusal refusal)
refusal_by_book refusal = by (memory_or_reply refusal)
  where
    by : (refusal ≡ Memory) ⊎ ((refusal ≢ Memory) × (sent_refusal refusal ≡ Says (Refused refusal))) → IsByBook (sent_refusal refusal)
    by (inl e) = λ x f. let is : sent_refusal refusal ≡ Denies (Session Memory) = ap sent_refusal e in cc (is, f)
    by (inr f) = λ x g. let is = f.1 in cc (is, g)

pub listing_by_book : (listing : Result Listing Refusal) → IsByBook (sent_listing listing)
listing_by_book (Ok listing) = λ x f. cc
listing_by_book (Err refusal) = refusal_by_book refusal
