use Rattle.std.proofs.Common.{◌≡◌, ◌++◌, ◌≤◌, ◌<◌, ◌∙◌, ap, arith, false, length}
use Rattle.dumping.specs.Row.{insert_line}
use Rattle.dumping.proofs.DumpTextPieces.{failed}
use Rattle.dumping.proofs.RowLines.{row_fits, row_long}
use Rattle.dumping.proofs.row.print_row.Goals as goal

pub returns-in_err-write_all : goal.returns-in_err-write_all
returns-in_err-write_all g c =
    let is : c.as_slice.result.now ≡ insert_line false c.args.table.now c.args.values.now = c.as_slice.ensures.value ∙ c.in-Ok.ensures ∙ ap (λ l. l ++ insert_line false c.args.table.now c.args.values.now) c.clear.ensures.items in
    let fits : length c.as_slice.result.now ≤ 8193 = omega arith in
    rw (row_fits c.args.table.now c.args.key.now c.args.values.now c.as_slice.result.now is fits) (failed _ _ _ _ c.as_slice.result.now c.from_residual.ensures.1 c.in_err-write_all.ensures)

pub returns-in_ok-write_all : goal.returns-in_ok-write_all
returns-in_ok-write_all g c =
    let is : c.as_slice.result.now ≡ insert_line false c.args.table.now c.args.values.now = c.as_slice.ensures.value ∙ c.in-Ok.ensures ∙ ap (λ l. l ++ insert_line false c.args.table.now c.args.values.now) c.clear.ensures.items in
    let fits : length c.as_slice.result.now ≤ 8193 = omega arith in
    rw (row_fits c.args.table.now c.args.key.now c.args.values.now c.as_slice.result.now is fits) c.in_ok-write_all.ensures

pub returns-else-len : goal.returns-else-len
returns-else-len g c =
    let is : c.print_insert.new.writer.items ≡ insert_line false c.args.table.now c.args.values.now = c.in-Ok.ensures ∙ ap (λ l. l ++ insert_line false c.args.table.now c.args.values.now) c.clear.ensures.items in
    let over : 8193 < length c.print_insert.new.writer.items = omega arith in
    rw (row_long c.args.table.now c.args.key.now c.args.values.now c.print_insert.new.writer.items is over) c.print_pieces.ensures
