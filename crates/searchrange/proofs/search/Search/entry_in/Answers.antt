use Rattle.std.proofs.Common.{◌≡◌, ◌∙◌, Some, ap, sym, subst}
use Rattle.searchrange.specs.Search.{IsInSearch, key_taken}
use Rattle.searchrange.proofs.SearchTaken.{before_row, entry_is}
use Rattle.searchrange.proofs.search.Search.entry_in.Goals as goal

pub returns-in_ok-copy-in-Some-2-clause-ok : goal.returns-in_ok-copy-in-Some-2-clause-ok
returns-in_ok-copy-in-Some-2-clause-ok c = λ h.
    let s = c.args.self.now in
    let taken : Some c.in-Some-2.key ≡ key_taken s.table s.keys c.args.event.now.key =
    subst (λ bytes. IsInSearch s.table s.range bytes → Some c.in-Some-2.key ≡ key_taken s.table s.keys bytes) c.key.ensures.is (λ h. sym c.in-Some-2.is ∙ c.in_ok-key.ensures.ok h) h in
    ap (λ row. Some (c.in-Some-2.key, row)) c.in_ok-copy-in-Some-2.ensures.ok
    ∙ ap (before_row c.in-Some-2.key) c.in-Some.ensures
    ∙ entry_is s.table s.keys c.args.event.now c.in-Some-2.key taken
