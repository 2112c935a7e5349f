-- The lines that some bytes of a text end.
use Rattle.std.proofs.Common.{◌≡◌, ◌≢◌, ℕ, List, [], ◌∷◌, ◌++◌, false, Some, append_assoc, sym, ◌∙◌, ap, refl, subst, arith}
use Rattle.std.specs.Prelude.{if◌then◌else◌, ◌==◌}
use Rattle.std.specs.List.{All}
use Rattle.std.proofs.lemmas.Bool.Decides.{nat_tests}
use Rattle.std.proofs.lemmas.List.Elements.{All-head, All-tail}
use Rattle.lines.specs.Partial.{Partial, add, add_all, ended}
use Rattle.lines.specs.Lines.{lines_from, EndsLines}

not_end : (byte : ℕ) → byte ≢ 10 → (byte == 10) ≡ false
not_end byte other = grind (arith, nat_tests)

pub ends_none : (line : Partial) → EndsLines line [] [] line
ends_none line rest = refl

-- a line feed
pub ends_line : (line : Partial) (byte : ℕ) → byte ≡ 10 → EndsLines line (byte ∷ []) (ended line ∷ []) (Some [])
ends_line line byte is rest = subst (λ c. lines_from line (c ∷ rest) ≡ ended line ∷ lines_from (Some []) rest) (sym is) refl

pub ends_join : (line between next : Partial) (xs ys : List ℕ) (done more : List Partial) → EndsLines line xs done between → EndsLines between ys more next → EndsLines line (xs ++ ys) (done ++ more) next
ends_join line between next xs ys done more f g rest =
    ap (lines_from line) (append_assoc xs ys rest) ∙ f (ys ++ rest) ∙ ap (λ l. done ++ l) (g rest) ∙ sym (append_assoc done more (lines_from next rest))

-- bytes, of which none is a line feed
pub ends_nothing : (line : Partial) (bytes : List ℕ) → All (λ b. b ≢ 10) bytes → EndsLines line bytes [] (add_all line bytes)
ends_nothing line [] others rest = refl
ends_nothing line (b ∷ bytes) others rest =
    ap (λ t. if t then ended line ∷ lines_from (Some []) (bytes ++ rest) else lines_from (add line b) (bytes ++ rest)) (not_end b (All-head (λ c. c ≢ 10) b bytes others))
    ∙ ends_nothing (add line b) bytes (All-tail (λ c. c ≢ 10) b bytes others) rest
