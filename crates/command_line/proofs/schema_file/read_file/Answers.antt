use Rattle.command_line.proofs.schema_file.read_file.Goals as goal

pub returns-in-Err-clause-why : goal.returns-in-Err-clause-why
returns-in-Err-clause-why g c = c.file_fault.ensures.why c.args.path.now
