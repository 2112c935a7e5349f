use Rattle.std.proofs.Common.{◌≡◌, ◌++◌, take}
use Rattle.std.specs.Option.{option_map}
use Rattle.std.specs.List.{flat_map}
use Rattle.values.specs.Portion.{pieces}
use Rattle.staging.specs.Staged.{deletions, puts, KeepsAllKeys}
use Rattle.staging.proofs.portion.Portion.changes.Given as goal

abbrev pub invariant-loop-key : goal.invariant-loop-key
invariant-loop-key l = record {
  are : l.changes.items ≡ deletions (take l.key-index l.taken);
  keys : KeepsAllKeys l.self.table.now l.taken l.changes.items;
}

abbrev pub invariant-loop-key-2 : goal.invariant-loop-key-2
invariant-loop-key-2 l = record {
  are : l.changes.items ≡ deletions l.taken ++ puts (flat_map (pieces l.self.period.now l.self.span (option_map (λ s. s.now) l.self.sets)) (take l.key-index l.taken));
  keys : KeepsAllKeys l.self.table.now l.taken l.changes.items;
}
