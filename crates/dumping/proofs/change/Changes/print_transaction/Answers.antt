use Rattle.std.proofs.Common.{◌++◌, codes, refl}
use Rattle.std.specs.List.{flat_map}
use Rattle.statement.proofs.WriterPrefixes.{prints_then, stopped}
use Rattle.dumping.specs.Change.{deletion_text, insertion_text}
use Rattle.dumping.specs.Transaction.{begin_text}
use Rattle.dumping.proofs.DumpTextPieces.{failed, failed_2, printed_3}
use Rattle.dumping.proofs.change.Changes.print_transaction.Goals as goal

pub returns-in_err-print_begin : goal.returns-in_err-print_begin
returns-in_err-print_begin g c = stopped _ _ _ _ (begin_text c.args.at) _ c.from_residual.ensures.1 c.in_err-print_begin.ensures

pub returns-in_err-print_deletions : goal.returns-in_err-print_deletions
returns-in_err-print_deletions g c =
    failed_2 _ _ _ _ _ (begin_text c.args.at) (flat_map (deletion_text c.args.self.now.tables.now c.args.self.now.events.now) c.args.places.now)
    (flat_map (insertion_text c.args.self.now.tables.now c.args.self.now.events.now) c.args.places.now ++ codes "1: COMMIT\n") _ refl
    c.from_residual-in_err-print_deletions.ensures.1 c.in_ok-print_begin.ensures c.in_err-print_deletions.ensures

pub returns-in_err-print_insertions : goal.returns-in_err-print_insertions
returns-in_err-print_insertions g c =
    printed_3 _ _ _ _ _ (begin_text c.args.at) (flat_map (deletion_text c.args.self.now.tables.now c.args.self.now.events.now) c.args.places.now)
    (flat_map (insertion_text c.args.self.now.tables.now c.args.self.now.events.now) c.args.places.now ++ codes "1: COMMIT\n") _ refl
    c.in_ok-print_begin.ensures c.in_ok-print_deletions.ensures
    (stopped _ _ _ _ (flat_map (insertion_text c.args.self.now.tables.now c.args.self.now.events.now) c.args.places.now) (codes "1: COMMIT\n")
    c.from_residual-in_err-print_insertions.ensures.1 c.in_err-print_insertions.ensures)

pub returns-in_err-write_all : goal.returns-in_err-write_all
returns-in_err-write_all g c =
    printed_3 _ _ _ _ _ (begin_text c.args.at) (flat_map (deletion_text c.args.self.now.tables.now c.args.self.now.events.now) c.args.places.now)
    (flat_map (insertion_text c.args.self.now.tables.now c.args.self.now.events.now) c.args.places.now ++ codes "1: COMMIT\n") _ refl
    c.in_ok-print_begin.ensures c.in_ok-print_deletions.ensures
    (prints_then _ _ _ _ (flat_map (insertion_text c.args.self.now.tables.now c.args.self.now.events.now) c.args.places.now) (codes "1: COMMIT\n")
    c.in_ok-print_insertions.ensures (failed _ _ _ _ (codes "1: COMMIT\n") c.from_residual-in_err-write_all.ensures.1 c.in_err-write_all.ensures))
