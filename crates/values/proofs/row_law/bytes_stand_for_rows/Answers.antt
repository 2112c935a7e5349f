use Rattle.std.proofs.Common.{refl}
use Rattle.values.proofs.RowReads.{row_back, row_sound, no_row_begins_another}
use Rattle.values.proofs.row_law.bytes_stand_for_rows.Goals as goal

pub returns-clause-back : goal.returns-clause-back
returns-clause-back c = row_back

pub returns-clause-whole : goal.returns-clause-whole
returns-clause-whole c = no_row_begins_another

pub returns-clause-worked : goal.returns-clause-worked
returns-clause-worked c = record { named = refl }

pub returns-clause-only : goal.returns-clause-only
returns-clause-only c = row_sound
