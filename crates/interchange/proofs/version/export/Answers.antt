use Rattle.csv.specs.Writing.{default_writer, row_text}
use Rattle.std.specs.List.{flat_map}
use Rattle.statement.proofs.WriterPrefixes.{prints_then, front_first}
use Rattle.interchange.specs.Version.{header_of, version_text}
use Rattle.interchange.proofs.version.export.Goals as goal

pub returns-in-Ok : goal.returns-in-Ok
returns-in-Ok g c = prints_then _ _ _ _ (row_text default_writer (header_of c.args.table.now)) (flat_map version_text c.args.shown.now)
    (c.in-Ok.ensures (row_text default_writer (header_of c.args.table.now)) c.header_text.ensures) c.export_versions.ensures

pub returns : goal.returns
returns g c = front_first _ _ (row_text default_writer (header_of c.args.table.now)) (flat_map version_text c.args.shown.now)
    (c.in-Err.ensures (row_text default_writer (header_of c.args.table.now)) c.header_text.ensures)
