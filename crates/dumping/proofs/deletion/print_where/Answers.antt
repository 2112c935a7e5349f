use Rattle.std.proofs.Common.{Some, ◌∷◌, [], length, length-append, refl}
use Rattle.std.proofs.lemmas.Slice.Zip.{zip_turn, zip_end}
use Rattle.statement.specs.Print.{line}
use Rattle.dump_steps.specs.Dump.{keys_of}
use Rattle.dumping.specs.DumpText.{where_text}
use Rattle.dumping.proofs.DeletionPairs.{pair_taken, pair_stopped, pairs_end}
use Rattle.dumping.proofs.deletion.print_where.Goals as goal

pub returns-in_err-print_pair : goal.returns-in_err-print_pair
returns-in_err-print_pair g c =
    let turn = zip_turn c.args.table.now.key c.args.key.now.parts c.loop-column.yielded c.into_iter-column-iterator.result c.loop-column.column-iterator c.next.new.self (Some (c.in-Some.column, c.in-Some.part)) (cc) (cc) c.loop-column.yielded_by (c.in-Some.column, c.in-Some.part) refl c.in-Some.ensures.steps in
    pair_stopped c.args.table.now c.args.table.now.key c.args.key.now.parts _ _ _ _ _ _ c.loop-column.label.now (length c.loop-column.yielded) c.in-Some.column.now c.in-Some.part.now c.from_residual.ensures.1
    turn.0 turn.1 (turn.2 c.in-Some.column.now) (turn.3 c.in-Some.part.now) c.loop-column.invariant.left c.in_err-print_pair.ensures

pub loop-column-preserved : goal.loop-column-preserved
loop-column-preserved g c =
    let turn = zip_turn c.args.table.now.key c.args.key.now.parts c.loop-column.yielded c.into_iter-column-iterator.result c.loop-column.column-iterator c.next.new.self (Some (c.in-Some.column, c.in-Some.part)) (cc) (cc) c.loop-column.yielded_by (c.in-Some.column, c.in-Some.part) refl c.in-Some.ensures.steps in
    record {
      can_next = (tt, tt);
      finite = tt;
      left = rw (length-append c.loop-column.yielded ((c.in-Some.column, c.in-Some.part) ∷ [])) (pair_taken c.args.table.now c.args.table.now.key c.args.key.now.parts _ _ _
          (line (where_text c.args.table.now (keys_of c.args.table.now c.args.key.now).comparisons)) c.loop-column.label.now (length c.loop-column.yielded) c.in-Some.column.now c.in-Some.part.now
          turn.0 turn.1 (turn.2 c.in-Some.column.now) (turn.3 c.in-Some.part.now) c.loop-column.invariant.left c.in_ok-print_pair.ensures);
    }

pub returns : goal.returns
returns g c =
    pairs_end c.args.table.now c.args.table.now.key c.args.key.now.parts _ _ _ _ _ c.loop-column.label.now (length c.loop-column.yielded)
    (zip_end c.args.table.now.key c.args.key.now.parts c.loop-column.yielded c.into_iter-column-iterator.result c.loop-column.column-iterator c.next.new.self _ (cc) (cc) c.loop-column.yielded_by refl c.in-None.ensures.steps)
    c.loop-column.invariant.left c.write_all.ensures
