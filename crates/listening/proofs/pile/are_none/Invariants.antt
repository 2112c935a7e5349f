use Rattle.std.proofs.Common.{◌≡◌, drop, is_none}
use Rattle.std.specs.List.{list_all}
use Rattle.listening.proofs.pile.are_none.Given as goal

abbrev pub invariant-loop-last : goal.invariant-loop-last
invariant-loop-last l = list_all is_none (drop l.last-index l.lasts) ≡ list_all is_none l.lasts
