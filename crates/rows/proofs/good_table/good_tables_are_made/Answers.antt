use Rattle.rows.proofs.SchemaGood.{good_tables, exact_tables, bad_tables}
use Rattle.rows.proofs.SchemaReads as reads
use Rattle.rows.proofs.good_table.good_tables_are_made.Goals as goal

pub returns : goal.returns
returns c = record { tables = record { good = good_tables; exactly = exact_tables; bad = bad_tables }; texts = reads.texts; good_texts = reads.good_texts }
