use Rattle.std.proofs.Common.{◌++◌, codes, append_assoc}
use Rattle.std.specs.Prelude.{decimal}
use Rattle.dumping.proofs.DumpTextPieces.{failed_1, failed_2, printed_3}
use Rattle.dumping.proofs.column.print_varchar.Goals as goal

pub returns-in_err-write_all : goal.returns-in_err-write_all
returns-in_err-write_all g c = failed_1 _ _ _ _ (codes " VARCHAR(") (decimal c.args.most ++ codes ")\n") _ (simp append_assoc) c.from_residual.ensures.1 c.in_err-write_all.ensures

pub returns-in_err-print_number : goal.returns-in_err-print_number
returns-in_err-print_number g c = failed_2 _ _ _ _ _ (codes " VARCHAR(") (decimal c.args.most) (codes ")\n") _ (simp append_assoc) c.from_residual-in_err-print_number.ensures.1 c.in_ok-write_all.ensures c.in_err-print_number.ensures

pub returns : goal.returns
returns g c = printed_3 _ _ _ _ _ (codes " VARCHAR(") (decimal c.args.most) (codes ")\n") _ (simp append_assoc) c.in_ok-write_all.ensures c.in_ok-print_number.ensures c.write_all-2.ensures
