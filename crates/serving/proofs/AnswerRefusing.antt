-- Which refusals are replies.
use Rattle.std.proofs.Common.{◌≡◌, ◌≢◌, ◌⊎◌, Result, Err, inl, inr, refl}
use Rattle.values.specs.declared.refusal.Refusal.{Refusal}
use Rattle.values.specs.declared.refusal.Refusal.TheVariants.{Syntax, NoTable, BadRow, NoTransaction, InTransaction, DuplicateKey, Conflict, ClockEnd, TooManyWrites, Memory, NoSession, LineTooLong, JournalFull, Overlap, BadPeriod, TransactionsOpen}
use Rattle.steps.specs.declared.step.Reply.TheVariants.{Refused}
use Rattle.statement.specs.Memory.{UnlessMemory}
use Rattle.serving.specs.declared.answer.Sent.TheVariants.{Reply as Says}
use Rattle.serving.specs.Serving.{sent_refusal}

-- memory ran out, or the refusal is sent as a reply
pub memory_or_reply : (r : Refusal) → (r ≡ Memory) ⊎ ((r ≢ Memory) × (sent_refusal r ≡ Says (Refused r)))
memory_or_reply (Syntax byte) = inr ((λ e. cc), refl)
memory_or_reply NoTable = inr ((λ e. cc), refl)
memory_or_reply (BadRow column) = inr ((λ e. cc), refl)
memory_or_reply NoTransaction = inr ((λ e. cc), refl)
memory_or_reply InTransaction = inr ((λ e. cc), refl)
memory_or_reply (DuplicateKey key) = inr ((λ e. cc), refl)
memory_or_reply (Conflict key instant) = inr ((λ e. cc), refl)
memory_or_reply ClockEnd = inr ((λ e. cc), refl)
memory_or_reply TooManyWrites = inr ((λ e. cc), refl)
memory_or_reply Memory = inl refl
memory_or_reply NoSession = inr ((λ e. cc), refl)
memory_or_reply LineTooLong = inr ((λ e. cc), refl)
memory_or_reply JournalFull = inr ((λ e. cc), refl)
memory_or_reply (Overlap key) = inr ((λ e. cc), refl)
memory_or_reply BadPeriod = inr ((λ e. cc), refl)
memory_or_reply TransactionsOpen = inr ((λ e. cc), refl)

-- a refusal that was read, and is not that memory ran out, is what the line says
pub unless_is : {A : Type 0} (r : Refusal) (answer : Result A Refusal) → r ≢ Memory → UnlessMemory (Err r) answer → answer ≡ Err r
unless_is (Syntax byte) answer other is = is
unless_is NoTable answer other is = is
unless_is (BadRow column) answer other is = is
unless_is NoTransaction answer other is = is
unless_is InTransaction answer other is = is
unless_is (DuplicateKey key) answer other is = is
unless_is (Conflict key instant) answer other is = is
unless_is ClockEnd answer other is = is
unless_is TooManyWrites answer other is = is
unless_is Memory answer other is = absurd (other refl)
unless_is NoSession answer other is = is
unless_is LineTooLong answer other is = is
unless_is JournalFull answer other is = is
unless_is (Overlap key) answer other is = is
unless_is BadPeriod answer other is = is
unless_is TransactionsOpen answer other is = is
