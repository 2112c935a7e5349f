use Rattle.restoring.proofs.OneKeyWrites as writes
use Rattle.restoring.proofs.law.one_key_is_written.Goals as goal

pub returns-clause-deleted : goal.returns-clause-deleted
returns-clause-deleted c = writes.one_key_is_deleted

pub returns-clause-inserted : goal.returns-clause-inserted
returns-clause-inserted c = writes.one_row_is_inserted
