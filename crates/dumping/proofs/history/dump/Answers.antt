use Rattle.std.proofs.Common.{◌≡◌, ◌∙◌, arith, length, refl, sym, subst}
use Rattle.std.specs.List.{flat_map}
use Rattle.std.proofs.KnownBytes.{Appends-trans}
use Rattle.std.specs.Io.KnownBytes.{Appends}
use Rattle.dumping.specs.History.{last_columns_text, instants_text, widths_behind}
use Rattle.dumping.proofs.DumpTextPieces.{failed, failed_1, printed_2}
use Rattle.dumping.proofs.HistoryDump.{parts_of, take_whole}
use Rattle.dumping.proofs.HistoryLog.{times}
use Rattle.dumping.proofs.history.dump.Goals as goal

pub returns-in_err-print_instants : goal.returns-in_err-print_instants
returns-in_err-print_instants g c = λ log rises nets holds.
    let parts = parts_of c.args.first.now c.args.last.now c.args.view.now log rises nets holds c.tables-tables.result.now c.tables-tables.ensures.are c.tables-tables.ensures.good
    c.in_ok-events.events.items c.as_slice.result.now c.as_slice-2.result.now c.in_ok-events.ensures c.as_slice.ensures.value c.as_slice-2.ensures.value
    c.in_ok-places.places.items c.as_slice-3.result.now c.in_ok-places.ensures c.as_slice-3.ensures.value
    c.in_ok-widths.widths.items c.deref_mut.result.now c.in_ok-widths.ensures c.deref_mut.ensures.value in
    failed_1 _ _ _ _ (instants_text c.args.last.now c.as_slice-2.result.now c.deref_mut.result.now (times log))
    (flat_map (last_columns_text (widths_behind c.args.last.now c.as_slice-2.result.now c.deref_mut.result.now (times log))) c.tables-tables.result.now) _
    (parts.text_is (widths_behind c.args.last.now c.as_slice-2.result.now c.deref_mut.result.now (times log)) refl)
    c.from_residual-in_err-print_instants.ensures.1 (c.in_err-print_instants.ensures.text (times log) parts.runs)

pub returns-in_err-print_last_columns : goal.returns-in_err-print_last_columns
returns-in_err-print_last_columns g c = λ log rises nets holds.
    let parts = parts_of c.args.first.now c.args.last.now c.args.view.now log rises nets holds c.tables-tables.result.now c.tables-tables.ensures.are c.tables-tables.ensures.good
    c.in_ok-events.events.items c.as_slice.result.now c.as_slice-2.result.now c.in_ok-events.ensures c.as_slice.ensures.value c.as_slice-2.ensures.value
    c.in_ok-places.places.items c.as_slice-3.result.now c.in_ok-places.ensures c.as_slice-3.ensures.value
    c.in_ok-widths.widths.items c.deref_mut.result.now c.in_ok-widths.ensures c.deref_mut.ensures.value in
    let long : c.in_ok-widths.widths.len ≡ length c.print_instants.new.widths = omega arith in
    printed_2 _ _ _ _ (instants_text c.args.last.now c.as_slice-2.result.now c.deref_mut.result.now (times log))
    (flat_map (last_columns_text c.deref.result.now) c.tables-tables.result.now) _
    (parts.text_is c.deref.result.now (c.deref.ensures.value ∙ take_whole c.in_ok-widths.widths.len c.print_instants.new.widths _ long ∙ c.in_ok-print_instants.ensures.widths (times log) parts.runs))
    (c.in_ok-print_instants.ensures.text (times log) parts.runs) (failed _ _ _ _ _ c.from_residual-in_err-print_last_columns.ensures.1 c.in_err-print_last_columns.ensures)

pub returns : goal.returns
returns g c = λ log rises nets holds.
    let parts = parts_of c.args.first.now c.args.last.now c.args.view.now log rises nets holds c.tables-tables.result.now c.tables-tables.ensures.are c.tables-tables.ensures.good
    c.in_ok-events.events.items c.as_slice.result.now c.as_slice-2.result.now c.in_ok-events.ensures c.as_slice.ensures.value c.as_slice-2.ensures.value
    c.in_ok-places.places.items c.as_slice-3.result.now c.in_ok-places.ensures c.as_slice-3.ensures.value
    c.in_ok-widths.widths.items c.deref_mut.result.now c.in_ok-widths.ensures c.deref_mut.ensures.value in
    let long : c.in_ok-widths.widths.len ≡ length c.print_instants.new.widths = omega arith in
    subst (Appends _ _) (sym (parts.text_is c.deref.result.now (c.deref.ensures.value ∙ take_whole c.in_ok-widths.widths.len c.print_instants.new.widths _ long ∙ c.in_ok-print_instants.ensures.widths (times log) parts.runs)))
    (Appends-trans _ _ _ (instants_text c.args.last.now c.as_slice-2.result.now c.deref_mut.result.now (times log)) (flat_map (last_columns_text c.deref.result.now) c.tables-tables.result.now)
    (c.in_ok-print_instants.ensures.text (times log) parts.runs) c.in_ok-print_last_columns.ensures)
