use Rattle.std.proofs.Common.{◌≡◌, ◌≤◌, ℕ, length, drop, [], refl, ap, ◌∙◌, arith, drop_of_length-le, rules}
use Rattle.std.specs.Int.{w64, from_be_bytes}
use Rattle.values.specs.declared.key_prefix.KeyPrefix.{KeyPrefix}
use Rattle.values.specs.KeyPrefix.{prefix_of}
use Rattle.values.proofs.KeyPrefixOrder.{from_be_bytes-take}
use Rattle.values.proofs.key_prefix.KeyPrefix.of.Goals as goal

both : (m n k l : ℕ) → m ≡ k → n ≡ l → ◌≡◌ {A = KeyPrefix} record { first = m; second = n } record { first = k; second = l }
both m n k l d e = cc

pub returns-in-Some : goal.returns-in-Some
unfolding prefix_of
returns-in-Some c = record {
  are_bytes = search rules;
  is = both _ _ _ _ (c.from_be_bytes.ensures ∙ ap (from_be_bytes w64) c.in-Some.ensures.cases.0 ∙ from_be_bytes-take c.args.bytes.now)
      (c.number_of.ensures ∙ ap (from_be_bytes w64) c.in-Some.ensures.cases.1);
}

pub returns-in-None : goal.returns-in-None
unfolding prefix_of
returns-in-None c =
    let short : length c.args.bytes.now ≤ 8 = omega (arith, c.in-None.ensures.cases) in
    let nothing : drop 8 c.args.bytes.now ≡ [] = drop_of_length-le c.args.bytes.now short in
    record { are_bytes = search rules; is = both _ _ _ _ c.number_of-in-None.ensures (rw nothing refl) }
