use Rattle.std.proofs.Common.{◌≡◌, take}
use Rattle.std.specs.Prelude.{IsTrue}
use Rattle.std.specs.List.{All}
use Rattle.keyrange.specs.Rect.{is_area}
use Rattle.indexnode.specs.Choice.{current_keys}
use Rattle.indexnode.proofs.choice.current_keys.Given as goal

abbrev pub invariant-loop-reference : goal.invariant-loop-reference
invariant-loop-reference g l = record {
  keys : l.keys.items ≡ current_keys (take l.reference-index l.references);
  areas : All (λ r. IsTrue (is_area r.rect.keys r.rect.time)) (take l.reference-index l.references);
}
