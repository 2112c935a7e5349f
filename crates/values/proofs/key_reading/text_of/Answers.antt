use Rattle.std.proofs.Common.{◌≡◌, refl, rules}
use Rattle.std.specs.Str.{is_utf8}
use Rattle.std.proofs.lemmas.Str.{is_utf8-from_IsUtf8}
use Rattle.values.proofs.RowReads.{not_utf8}
use Rattle.values.proofs.key_reading.text_of.Goals as goal

pub returns-in_ok-from_str-in-Ok-clause-some : goal.returns-in_ok-from_str-in-Ok-clause-some
returns-in_ok-from_str-in-Ok-clause-some c =
    let same : c.new.result ≡ c.args.bytes.now = search rules in
    (same, is_utf8-from_IsUtf8 c.args.bytes.now c.in-Ok.ensures.cases.1)

pub returns-in-Err-clause-none : goal.returns-in-Err-clause-none
returns-in-Err-clause-none c = not_utf8 c.args.bytes.now (is_utf8 c.args.bytes.now) refl c.in-Err.ensures.cases.0
