-- Values in parentheses, and what is behind them.
use Rattle.std.proofs.Common.{◌≡◌, ℕ, List, [], ◌∷◌, ◌++◌, Option, append_assoc, sym, subst, ◌∙◌, ap}
use Rattle.std.specs.Prelude.{Result, IsErrAnd, codes}
use Rattle.std.specs.Io.KnownBytes.{Appends}
use Rattle.std.specs.List.{flat_map}
use Rattle.values.specs.declared.value.Value.{Value}
use Rattle.statement.specs.Print.{value_text, next_text, values_text}
use Rattle.statement.specs.Writer.{AppendsPrefix, Prints}
use Rattle.statement.proofs.WriterPrefixes.{prints_then, stopped}

pub ended_none : (behind ends : List ℕ) → ends ≡ codes ")" ++ behind → codes "(" ++ ends ≡ values_text [] ++ behind
ended_none behind ends e = ap (λ l. codes "(" ++ l) e

pub ended_first : (v : Value) (vs : List Value) (behind ends : List ℕ) → ends ≡ codes ")" ++ behind
    → codes "(" ++ (value_text v ++ (flat_map next_text vs ++ ends)) ≡ values_text (v ∷ vs) ++ behind
ended_first v vs behind ends e =
    ap (λ l. codes "(" ++ (value_text v ++ (flat_map next_text vs ++ l))) e
    ∙ ap (λ l. codes "(" ++ (value_text v ++ l)) (sym (append_assoc (flat_map next_text vs) (codes ")") behind))
    ∙ ap (λ l. codes "(" ++ l) (sym (append_assoc (value_text v) (flat_map next_text vs ++ codes ")") behind))

-- values with what is behind them, and then another text
pub both_printed : {E : Type 0} (a b c : Option (List ℕ)) (r : Result (Unit {0}) E) (vs ws : List Value) (y z : List ℕ) → vs ≡ ws
    → Appends a b (values_text vs ++ y) → Prints b c r z → Prints a c r (values_text ws ++ (y ++ z))
both_printed a b c r vs ws y z e p q =
    subst (λ (l : List Value). Prints a c r (values_text l ++ (y ++ z))) e
    (subst (λ l. Prints a c r l) (append_assoc (values_text vs) y z) (prints_then a b c r (values_text vs ++ y) z p q))

pub both_stopped : {E : Type 0} (P : E → Type 0) (a b : Option (List ℕ)) (r : Result (Unit {0}) E) (vs ws : List Value) (y z : List ℕ) → vs ≡ ws
    → IsErrAnd r P → AppendsPrefix a b (values_text vs ++ y) → Prints a b r (values_text ws ++ (y ++ z))
both_stopped P a b r vs ws y z e is f =
    subst (λ (l : List Value). Prints a b r (values_text l ++ (y ++ z))) e
    (subst (λ l. Prints a b r l) (append_assoc (values_text vs) y z) (stopped P a b r (values_text vs ++ y) z is f))
