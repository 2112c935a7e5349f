use Rattle.std.proofs.Common.{◌≡◌, ℕ, List, Some, None, sym, ap, ◌∙◌, rules}
use Rattle.std.specs.Prelude.{option_map}
use Rattle.blocks.specs.Lookup.{place_in}
use Rattle.blocks.proofs.LookupFinds.{changed_found}
use Rattle.blocks.proofs.lookup.changed_since.Goals as goal

pub returns-in-None : goal.returns-in-None
returns-in-None c n b =
    let none : place_in c.args.bytes.now c.args.key.now c.args.start 18446744073709551615 ≡ None = search rules in
    sym (ap (option_map (λ (x : ℕ × List ℕ). x.0)) none) ∙ changed_found c.args.bytes.now c.args.key.now c.args.start n b

pub returns-in-Some : goal.returns-in-Some
returns-in-Some c n b =
    let found : place_in c.args.bytes.now c.args.key.now c.args.start 18446744073709551615 ≡ Some (c.in-Some.at, c.in-Some._row.now) = search rules in
    sym (ap (option_map (λ (x : ℕ × List ℕ). x.0)) found) ∙ changed_found c.args.bytes.now c.args.key.now c.args.start n b
