-- Numbers that sizes give: all that are too great to matter are one.
use Rattle.std.specs.Prelude.{ℕ, List, [], ◌∷◌, ◌+◌, ◌*◌, ◌-◌, ◌==◌, Ok, Err, min, if◌then◌else◌}
use Rattle.std.specs.Char.{is_ascii_digit}
use Rattle.std.specs.List.{prefix_len}
use Rattle.tokens.specs.Token.{Read, prefix_while, skip_while}

-- n and then digits, as a number; 65,535 for all that are greater
abbrev pub capped_from : ℕ → List ℕ → ℕ
capped_from n [] = n
capped_from n (b ∷ bs) = capped_from (min (10 * n + (b - 48)) 65535) bs

module _ (next : List ℕ → List ℕ) where
  unfoldable pub capped_at : List ℕ → Read ℕ
  capped_at bytes =
      let at = next bytes in
      if prefix_len is_ascii_digit at == 0 then Err at
      else Ok (capped_from 0 (prefix_while is_ascii_digit at), skip_while is_ascii_digit at)
