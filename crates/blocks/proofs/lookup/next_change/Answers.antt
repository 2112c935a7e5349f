use Rattle.std.proofs.Common.{◌≡◌, ℕ, List, Some, None, sym, ap, ◌∙◌, rules}
use Rattle.std.specs.Prelude.{option_map}
use Rattle.blocks.specs.Lookup.{first_in}
use Rattle.blocks.proofs.LookupNext.{next_found}
use Rattle.blocks.proofs.lookup.next_change.Goals as goal

pub returns-in-None : goal.returns-in-None
returns-in-None c n b =
    let none : first_in c.args.bytes.now c.args.key.now c.args.after 18446744073709551615 ≡ None = search rules in
    sym (ap (option_map (λ (x : ℕ × List ℕ). x.0)) none) ∙ next_found c.args.bytes.now c.args.key.now c.args.after n b

pub returns-in-Some : goal.returns-in-Some
returns-in-Some c n b =
    let found : first_in c.args.bytes.now c.args.key.now c.args.after 18446744073709551615 ≡ Some (c.in-Some.at, c.in-Some._row.now) = search rules in
    sym (ap (option_map (λ (x : ℕ × List ℕ). x.0)) found) ∙ next_found c.args.bytes.now c.args.key.now c.args.after n b
