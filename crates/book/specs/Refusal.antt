-- What a book says by its refusals.
use Rattle.std.specs.Prelude.{Bool, true, false}
use Rattle.values.specs.declared.refusal.Refusal.{Refusal}
use Rattle.values.specs.declared.refusal.Refusal.TheVariants.{JournalFull, NoTransaction}

-- the journal is full
abbrev pub is_full : Refusal → Bool
is_full JournalFull = true
is_full refusal = false

-- the transaction is not open at the book
abbrev pub is_not_open : Refusal → Bool
is_not_open NoTransaction = true
is_not_open refusal = false
