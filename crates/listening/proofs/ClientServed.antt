-- What a client over a reader and a writer comes to, by what its session does.
use Rattle.std.proofs.Common.{◌≡◌, ◌∙◌, ℕ, Bool, true, false, List, Option, Some, None, subst, sym}
use Rattle.std.specs.Fmt.{option_append}
use Rattle.std.specs.Prelude.{IfOk, IfSome, Result, Ok, Err}
use Rattle.std.specs.Io.KnownBytes.{Consumes}
use Rattle.values.specs.Tables.{Schema}
use Rattle.sessions.specs.SessionState.{SessionState}
use Rattle.serving.specs.BookRefusals.{BookRefusalsState}
use Rattle.serving.specs.Progress.{Given, after}
use Rattle.serving.specs.ServedSession.{IsServed, IsServedInPart}
use Rattle.listening.specs.Client.{IsBrokenOff, IsServedWhole}

-- what was read from the first bytes on was read of all
from_head : (known mid left : Option (List ℕ)) (head text : List ℕ) → Consumes known mid head → Consumes (option_append (Some head) mid) left text → Consumes known left text
from_head None mid left head text took served = tt
from_head (Some all) None left head text took served = absurd took
from_head (Some all) (Some rest) None head text took served = absurd served
from_head (Some all) (Some rest) (Some more) head text took served = took ∙ served

-- what holds of a value holds of what is handed on
pub handed : {A E : Type 0} (r : Result A E) (a : A) (P : A → Type 0) → IfOk r (λ x. x ≡ a) → P a → IfOk r P
handed (Ok x) a P same p = subst P (sym same) p
handed (Err e) a P same p = tt

-- what follows where a text is refused
pub turned_away : {P Q : Type 0} (known : Option (List ℕ)) (f : List ℕ → Bool) → IfSome known (λ bytes. f bytes ≡ true → P) → (P → Q) → IfSome known (λ bytes. f bytes ≡ true → Q)
turned_away None f away then = tt
turned_away (Some bytes) f away then = λ is. then (away is)

-- the same where it is refused for what it has not
pub unasked : {P Q : Type 0} (known : Option (List ℕ)) (f : List ℕ → Bool) → IfSome known (λ bytes. f bytes ≡ false → P) → (P → Q) → IfSome known (λ bytes. f bytes ≡ false → Q)
unasked None f away then = tt
unasked (Some bytes) f away then = λ is. then (away is)

module _ (may_give : ℕ → Bool) (schema : Schema) (number : ℕ) (refused : BookRefusalsState) where
  -- a session to which nothing has happened
  abbrev fresh : SessionState
  fresh = record { number = number; schema = schema; receipt = 0; transaction = None }

  pub whole : (s : SessionState) (given : List Given) (receipt : ℕ) (known mid unread left old new : Option (List ℕ)) (head : List ℕ) → s ≡ fresh → Consumes known mid head → unread ≡ option_append (Some head) mid
      → IsServed may_give s.schema s.number given (after s.receipt None) receipt refused unread left old new → IsServedWhole may_give schema number refused given known old new
  whole s given receipt known mid unread left old new head is took unread_is served =
      let x = subst (λ s. IsServed may_give s.schema s.number given (after s.receipt None) receipt refused unread left old new) is served in
      record {
        left = left;
        receipt = receipt;
        served = record {
          told = x.told;
          known = x.known;
          text = x.text;
          took = from_head known mid left head x.text took (subst (λ unread. Consumes unread left x.text) unread_is x.took);
          ended_there = x.ended_there;
          out = x.out;
          wrote = x.wrote;
          later = x.later;
          last = x.last;
          serves = x.serves;
        };
      }

  pub broken_off : (s : SessionState) (given : List Given) (receipt : ℕ) (known mid unread left old new : Option (List ℕ)) (head : List ℕ) → s ≡ fresh → Consumes known mid head → unread ≡ option_append (Some head) mid
      → IsServedInPart may_give s.schema s.number given (after s.receipt None) receipt refused unread left old new → IsBrokenOff may_give schema number refused given known old new
  broken_off s given receipt known mid unread left old new head is took unread_is served =
      let x = subst (λ s. IsServedInPart may_give s.schema s.number given (after s.receipt None) receipt refused unread left old new) is served in
      record {
        left = left;
        receipt = receipt;
        served = record {
          told = x.told;
          known = x.known;
          text = x.text;
          took = from_head known mid left head x.text took (subst (λ unread. Consumes unread left x.text) unread_is x.took);
          lines = x.lines;
          rest = x.rest;
          are_first = x.are_first;
          out = x.out;
          wrote = x.wrote;
          later = x.later;
          last = x.last;
          serves = x.serves;
        };
      }
