use Rattle.std.proofs.Common.{◌≡◌, true, subst}
use Rattle.searchrange.specs.SearchRange.{search_range}
use Rattle.searchrange.specs.Search.{IsInSearch, SearchState, is_taken}
use Rattle.searchrange.proofs.SearchTaken.{all_taken, before_255}
use Rattle.searchrange.proofs.search.Search.takes.Goals as goal

pub returns-then-self-clause-ok : goal.returns-then-self-clause-ok
returns-then-self-clause-ok c =
    subst (λ (s : SearchState). IsInSearch s.table s.range c.args.bytes.now → true ≡ is_taken s.table s.keys c.args.bytes.now) c.self.view_is
    (λ h. all_taken c.self.inside.table.now c.self.inside.keys.now (search_range c.self.inside.table.now c.self.inside.keys.now) c.args.bytes.now (c.self.invariant.exact c.if-self.true) (h (before_255 c.self.inside.table.now c.self.inside.keys.now c.self.inside.is_exact c.self.invariant.known c.if-self.true)))
