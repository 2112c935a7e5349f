-- The blanks before a token.
use Rattle.std.proofs.Common.{◌≡◌, ℕ, Bool, List, [], ◌∷◌, ◌++◌, take, refl, ap, sym, ◌∙◌}
use Rattle.std.specs.List.{prefix_len}
use Rattle.std.proofs.lemmas.List.{append_assoc}
use Rattle.tokens.specs.Run.{AllBytes, Ends, Run}
use Rattle.tokens.proofs.RunRead.{rest_ends, run_of, run_left}
use Rattle.statement.specs.Token.{is_blank, next}
use Rattle.statement.specs.Grammar.{Blanks}

pub blanks_before : (bytes : List ℕ) → Blanks bytes (next bytes)
blanks_before bytes = let r = run_of is_blank bytes in record { blanks = take (prefix_len is_blank bytes) bytes; are_blank = r.all; spelled = r.spelled }

pub next_ends : (bytes : List ℕ) → Ends is_blank (next bytes)
next_ends bytes = rest_ends is_blank bytes

pub next_is : {bytes at : List ℕ} → Blanks bytes at → Ends is_blank at → next bytes ≡ at
next_is {bytes} {at} b ends = let r : Run is_blank b.blanks bytes at = record { all = b.are_blank; ends = ends; spelled = b.spelled } in run_left is_blank r

pub next_again : (bytes : List ℕ) → next (next bytes) ≡ next bytes
next_again bytes = next_is (record { blanks = []; are_blank = tt; spelled = refl }) (next_ends bytes)

all_joined : (p : ℕ → Bool) (xs ys : List ℕ) → AllBytes p xs → AllBytes p ys → AllBytes p (xs ++ ys)
all_joined p [] ys all more = more
all_joined p (x ∷ xs) ys all more = (all.0, all_joined p xs ys all.1 more)

pub blanks_join : {bytes between rest : List ℕ} → Blanks bytes between → Blanks between rest → Blanks bytes rest
blanks_join {bytes} {between} {rest} a b = record {
  blanks = a.blanks ++ b.blanks;
  are_blank = all_joined is_blank a.blanks b.blanks a.are_blank b.are_blank;
  spelled = a.spelled ∙ ap (λ (l : List ℕ). a.blanks ++ l) b.spelled ∙ sym (append_assoc a.blanks b.blanks rest);
}
