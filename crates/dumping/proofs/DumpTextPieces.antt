-- Texts that are written in pieces.
use Rattle.std.proofs.Common.{◌≡◌, ℕ, List, [], ◌++◌, Option, refl, sym, subst}
use Rattle.std.specs.Prelude.{Result, Ok, Err, IsErrAnd}
use Rattle.std.specs.Io.KnownBytes.{Appends}
use Rattle.std.proofs.KnownBytes.{Appends-nil}
use Rattle.statement.specs.Writer.{AppendsPrefix, Prints}
use Rattle.statement.proofs.WriterPrefixes.{Left, prints_then, stopped}

-- the first of two pieces failed
pub failed_1 : {E : Type 0} (P : E → Type 0) (a b : Option (List ℕ)) (r : Result (Unit {0}) E) (x y text : List ℕ) → text ≡ x ++ y → IsErrAnd r P → AppendsPrefix a b x → Prints a b r text
failed_1 P a b r x y text is e f = subst (Prints a b r) (sym is) (stopped P a b r x y e f)

-- both were written, or the second failed
pub printed_2 : {E : Type 0} (a b c : Option (List ℕ)) (r : Result (Unit {0}) E) (x y text : List ℕ) → text ≡ x ++ y → Appends a b x → Prints b c r y → Prints a c r text
printed_2 a b c r x y text is p q = subst (Prints a c r) (sym is) (prints_then a b c r x y p q)

-- the second of three pieces failed
pub failed_2 : {E : Type 0} (P : E → Type 0) (a b c : Option (List ℕ)) (r : Result (Unit {0}) E) (x y z text : List ℕ) → text ≡ x ++ (y ++ z) → IsErrAnd r P → Appends a b x → AppendsPrefix b c y → Prints a c r text
failed_2 P a b c r x y z text is e p f = printed_2 a b c r x (y ++ z) text is p (stopped P b c r y z e f)

-- all three were written, or the third failed
pub printed_3 : {E : Type 0} (a b c d : Option (List ℕ)) (r : Result (Unit {0}) E) (x y z text : List ℕ) → text ≡ x ++ (y ++ z) → Appends a b x → Appends b c y → Prints c d r z → Prints a d r text
printed_3 a b c d r x y z text is p q s = printed_2 a b d r x (y ++ z) text is p (prints_then b c d r y z q s)

-- what was written of a text, at an exit of a `?`
pub failed : {E : Type 0} (P : E → Type 0) (a b : Option (List ℕ)) (r : Result (Unit {0}) E) (text : List ℕ) → IsErrAnd r P → AppendsPrefix a b text → Prints a b r text
failed P a b (Ok done) text e f = absurd e
failed P a b (Err fault) text e f = f

-- the rest of a text, behind what was written of it
pub printed_left : {E : Type 0} (a b c : Option (List ℕ)) (r : Result (Unit {0}) E) (text rest : List ℕ) → Left a b text rest → Prints b c r rest → Prints a c r text
printed_left a b c r text rest l p = printed_2 a b c r l.out rest text l.is l.wrote p

-- nothing was written yet
pub unwritten : (a : Option (List ℕ)) (text : List ℕ) → Left a a text text
unwritten a text = record { out = []; wrote = Appends-nil a; is = refl }
