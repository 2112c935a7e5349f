use Rattle.std.proofs.Common.{◌≡◌, ℕ, Bool, true, false, refl, arith}
use Rattle.command_line.specs.Fault.{is_of_words}
use Rattle.command_line.proofs.program.program.Goals as goal

worded : (of_words : Bool) (status : ℕ) (P : Type 0) → (of_words ≡ true → P) → (of_words ≡ false → status ≡ 1) → status ≡ 2 → P
worded true status P words faulty e = words refl
worded false status P words faulty e = absurd (omega (arith, faulty refl, e))

pub returns-in-Err-clause-words : goal.returns-in-Err-clause-words
returns-in-Err-clause-words g c = worded (is_of_words c.in-Err.fault) c.tell.result _ c.in-Err.ensures.words c.tell.ensures.other

other : (of_words : Bool) (status : ℕ) (P : Type 0) → (of_words ≡ true → status ≡ 2) → (of_words ≡ false → P) → status ≡ 1 → P
other true status P words faulty e = absurd (omega (arith, words refl, e))
other false status P words faulty e = faulty refl

pub returns-in-Err-clause-fault : goal.returns-in-Err-clause-fault
returns-in-Err-clause-fault g c = other (is_of_words c.in-Err.fault) c.tell.result _ c.tell.ensures.words c.in-Err.ensures.fault

none_done : (of_words : Bool) (status : ℕ) (P : Type 0) → (of_words ≡ true → status ≡ 2) → (of_words ≡ false → status ≡ 1) → status ≡ 0 → P
none_done true status P words faulty e = absurd (omega (arith, words refl, e))
none_done false status P words faulty e = absurd (omega (arith, faulty refl, e))

pub returns-in-Err-clause-done : goal.returns-in-Err-clause-done
returns-in-Err-clause-done g c = none_done (is_of_words c.in-Err.fault) c.tell.result _ c.tell.ensures.words c.tell.ensures.other
