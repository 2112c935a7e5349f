use Rattle.std.proofs.Common.{◌≡◌, ◌≤◌, length, sym, subst, arith}
use Rattle.std.proofs.lemmas.Grind.{common_steps}
use Rattle.values.specs.KeyEncoding.{bytes_of_key}
use Rattle.values.proofs.KeyLengths.{key_bytes_length}
use Rattle.values.proofs.key_encoding.key_bytes.Goals as goal

pub invariant_of-result : goal.invariant_of-result
invariant_of-result c = let all : c.loop-part.bytes.items ≡ bytes_of_key c.args.key.now = grind (arith, common_steps) in (subst (λ l. length l ≤ 1609) (sym all) (key_bytes_length c.args.key.now c.requires), grind (arith, common_steps))
