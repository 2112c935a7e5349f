-- What a store's calls are refused for, and by whom.
use Rattle.std.specs.Prelude.{◌≡◌, ◌⊎◌, Result, IfErr}
use Rattle.values.specs.declared.refusal.Refusal.{Refusal}
use Rattle.values.specs.declared.refusal.Refusal.TheVariants.{NoTransaction, JournalFull, Memory}
use Rattle.sessions.specs.declared.refusal.StoreRefusal.{StoreRefusal}
use Rattle.sessions.specs.declared.refusal.StoreRefusal.TheVariants.{Session, Book}

abbrev pub refusal_of : StoreRefusal → Refusal
refusal_of (Session refusal) = refusal
refusal_of (Book refusal) = refusal

-- the book refuses it, since its journal is full or memory ran out
abbrev pub IsBookRoom : StoreRefusal → Type 0
IsBookRoom e = (e ≡ Book JournalFull) ⊎ (e ≡ Book Memory)

-- no refusal but the book's, that there is no room
abbrev pub OnlyBookRoom : {T : Type 0} → Result T StoreRefusal → Type 0
OnlyBookRoom r = IfErr r IsBookRoom

-- no refusal but the book's, that there is no room or that the transaction is not open there; and that memory ran out before
abbrev pub OnlyBook : {T : Type 0} → Result T StoreRefusal → Type 0
OnlyBook r = IfErr r (λ e. (e ≡ Book NoTransaction) ⊎ (IsBookRoom e ⊎ (e ≡ Session Memory)))
