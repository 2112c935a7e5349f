use Rattle.std.proofs.Common.{List, ℕ, IfSome, IfNone, subst, rules}
use Rattle.values.specs.KeyReading.{IsKeyWith, NoKeyWith}
use Rattle.values.proofs.KeyReads.{key_with, no_key_with}
use Rattle.values.proofs.RowReads.{are_bytes}
use Rattle.values.proofs.key_reading.read_key.Goals as goal

pub returns-clause-found : goal.returns-clause-found
returns-clause-found c =
    subst (λ (bytes : List ℕ). IfSome c.in_ok-key_from.field-0 (IsKeyWith c.args.table.now bytes)) c.bytes-bytes.ensures
    (key_with c.args.table.now c.bytes-bytes.result.now c.in_ok-key_from.field-0 (are_bytes c.bytes-bytes.result.now (λ i. search rules)) c.in_ok-key_from.ensures)

pub returns-clause-none : goal.returns-clause-none
returns-clause-none c =
    subst (λ (bytes : List ℕ). IfNone c.in_ok-key_from.field-0 (NoKeyWith c.args.table.now bytes)) c.bytes-bytes.ensures
    (no_key_with c.args.table.now c.bytes-bytes.result.now c.in_ok-key_from.field-0 c.in_ok-key_from.ensures)
