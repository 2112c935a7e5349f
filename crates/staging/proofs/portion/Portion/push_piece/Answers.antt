use Rattle.std.proofs.Common.{rules, ◌≡◌, Some, [], ◌∷◌, ◌++◌}
use Rattle.values.specs.RowEncoding.{IsHeld}
use Rattle.values.specs.declared.value.Value.TheVariants.{Int}
use Rattle.values.specs.Portion.{with_start}
use Rattle.staging.proofs.PortionStarts.{keeps_pushed, keeps_same}
use Rattle.staging.proofs.portion.Portion.push_piece.Goals.{then-is_proper+in_ok-copy+in_ok-row+in_ok-with_start+in_ok-push, else-is_proper}
use Rattle.staging.proofs.portion.Portion.push_piece.Goals as goal

pub returns-clause-keys : goal.returns-clause-keys
returns-clause-keys c = elim c.if-is_proper.branch [
  | then-is_proper+in_ok-copy+in_ok-row+in_ok-with_start+in_ok-push w ↦
      let s = c.args.self.now in
      let held : IsHeld (Int c.args.span.from) = search rules in
      let is : c.if-is_proper.changes.items ≡ c.args.changes.now.items ++ (with_start c.args.key.now c.args.span.from, Some w.in_ok-row.row) ∷ [] = search rules in
      keeps_pushed s.table.now s.period.now s.has c.args.key.now c.args.span.from (Some w.in_ok-row.row) c.args.changes.now.items c.if-is_proper.changes.items held is
  | else-is_proper w ↦
      keeps_same c.args.self.now.table.now c.args.key.now c.args.changes.now.items c.if-is_proper.changes.items (λ i. (w.changes-is i).items)
]
