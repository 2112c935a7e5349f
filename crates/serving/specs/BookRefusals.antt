-- What the store's book refused lines for.
use Rattle.std.specs.Prelude.{◌≡◌, Bool, true, false, ◌||◌, Option, Some, None}
use Rattle.values.specs.declared.refusal.Refusal.{Refusal}
use Rattle.values.specs.declared.refusal.Refusal.TheVariants.{JournalFull, NoTransaction}
use Rattle.sessions.specs.book.Refusal.{is_full, is_not_open}

-- whether it was a full journal, and whether a transaction that is not open there
pub record BookRefusalsState : Type 0 where
  pub full : Bool
  pub not_open : Bool

abbrev pub none_refused : BookRefusalsState
none_refused = record { full = false; not_open = false }

abbrev pub with_refusal : BookRefusalsState → Refusal → BookRefusalsState
with_refusal r refusal = record {
  full = r.full || is_full refusal;
  not_open = r.not_open || is_not_open refusal;
}

abbrev pub Is : Option Refusal → Refusal → Type 0
Is None why = Unit {0}
Is (Some refusal) why = refusal ≡ why

-- the refusals that are kept are of their kinds
pub record IsOfKinds (full not_open : Option Refusal) : Type 0 where
  pub full_is : Is full JournalFull
  pub not_open_is : Is not_open NoTransaction

-- a line that was refused for one of these was refused by the book
pub record IsKnown (r : BookRefusalsState) (refused : Option Refusal) : Type 0 where
  pub full : refused ≡ Some JournalFull → r.full ≡ true
  pub not_open : refused ≡ Some NoTransaction → r.not_open ≡ true

-- there may be more of them
pub record GoesOn (r s : BookRefusalsState) : Type 0 where
  pub full : r.full ≡ true → s.full ≡ true
  pub not_open : r.not_open ≡ true → s.not_open ≡ true
