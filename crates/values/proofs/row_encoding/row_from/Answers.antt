use Rattle.std.proofs.Common.{◌≡◌, ◌-◌, ◌<◌, ◌≤◌, Some, slice_index_or, length, take, drop, arith}
use Rattle.std.proofs.lemmas.List.Elements.{All-drop, All-take}
use Rattle.values.specs.RowReading.{values_from}
use Rattle.values.proofs.RowReads.{are_bytes, stored_values}
use Rattle.values.proofs.row_encoding.row_from.Goals as goal

pub unreachable-requires : goal.unreachable-requires
unreachable-requires c =
    let bytes = c.args.bytes.now in
    let n = slice_index_or bytes 0 0 in
    let rest = take (length bytes - 1) (drop 1 bytes) in
    let each = All-take (λ b. b < 256) (length bytes - 1) (drop 1 bytes) (All-drop (λ b. b < 256) 1 bytes (are_bytes bytes c.type_inv.bytes)) in
    let read : values_from n rest ≡ Some (c.in-Some.values.items, c.in-Some.left.now) = rw c.in-Some.is at c.in_ok-values.ensures in
    let some : 1 ≤ n = omega arith in
    let few : n ≤ 16 = omega arith in
    let never = c.in-None.ensures.stored (stored_values n rest c.in-Some.values.items c.in-Some.left.now each some few read) in
    cc
