use Rattle.std.proofs.Common.{◌≡◌, Bool, true, ◌&&◌, refl, ap, ◌∙◌, rules}
use Rattle.std.specs.Str.{is_utf8}
use Rattle.std.proofs.lemmas.Str.{is_utf8-from_IsUtf8}
use Rattle.values.specs.Fit.{fits_text}
use Rattle.values.proofs.RowReads.{not_utf8}
use Rattle.values.proofs.row_encoding.stored_text.Goals as goal

both : (a b : Bool) → a ≡ true → (a && b) ≡ b
both a b e = ap (λ t. t && b) e

pub returns-in-Ok-clause-some : goal.returns-in-Ok-clause-some
returns-in-Ok-clause-some c =
    let fits : fits_text 1000 c.args.bytes.now ≡ true = search rules in
    (c.in-Ok.ensures.cases.0, both _ _ fits ∙ is_utf8-from_IsUtf8 c.args.bytes.now c.in-Ok.ensures.cases.1)

pub returns-in-Err-clause-none : goal.returns-in-Err-clause-none
returns-in-Err-clause-none c =
    let fits : fits_text 1000 c.args.bytes.now ≡ true = search rules in
    both _ _ fits ∙ not_utf8 c.args.bytes.now (is_utf8 c.args.bytes.now) refl c.in-Err.ensures.cases.0
