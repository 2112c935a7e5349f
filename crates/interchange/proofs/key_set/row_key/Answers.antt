use Rattle.std.proofs.Common.{◌≤◌, Some, None, All, ap, ◌∙◌, length, subst, sym, if◌then◌else◌}
use Rattle.std.proofs.lemmas.Bool.{le-leb}
use Rattle.values.specs.KeyEncoding.{longest_key}
use Rattle.values.specs.KeyReading.{IsKeyOf}
use Rattle.values.specs.RowEncoding.{IsHeld}
use Rattle.values.specs.Writes.{key_of}
use Rattle.values.proofs.KeyLengths.{key_bytes_length}
use Rattle.interchange.proofs.key_set.row_key.Goals as goal

pub returns-in_err-bytes-clause-own : goal.returns-in_err-bytes-clause-own
returns-in_err-bytes-clause-own c = c.fitting_rows_have_keys.ensures.keys c.args.table.now.number c.args.table.now c.args.row.now c.requires.table c.requires.fits (subst (All IsHeld) c.values.ensures.are c.read_values.ensures)

pub returns-clause-own : goal.returns-clause-own
returns-clause-own c = c.fitting_rows_have_keys.ensures.keys c.args.table.now.number c.args.table.now c.args.row.now c.requires.table c.requires.fits (subst (All IsHeld) c.values.ensures.are c.read_values.ensures)

pub unreachable-requires : goal.unreachable-requires
unreachable-requires c =
    let table = c.args.table.now in
    let key = key_of table c.args.row.now in
    let held : All IsHeld c.args.row.now = subst (All IsHeld) c.values.ensures.are c.read_values.ensures in
    let own : IsKeyOf table key = c.fitting_rows_have_keys.ensures.keys table.number table c.args.row.now c.requires.table c.requires.fits held in
    let short = key_bytes_length key (c.fitting_rows_have_keys.ensures.short table.number table key c.requires.table own) in
    let within : length c.in_ok-bytes.bytes.items ≤ longest_key = subst (λ l. length l ≤ longest_key) (sym c.in_ok-bytes.ensures) short in
    let never = sym c.in-None.is ∙ c.from_buffer.ensures ∙ ap (λ b. if b then Some c.in_ok-bytes.bytes.items else None) (le-leb (length c.in_ok-bytes.bytes.items) longest_key within) in
    cc
