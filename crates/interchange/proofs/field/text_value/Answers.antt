use Rattle.std.proofs.Common.{◌≡◌, ℕ, List, Bool, true, false, refl, sym, ◌∙◌, ap, if◌then◌else◌}
use Rattle.std.specs.Str.{IsUtf8, is_utf8}
use Rattle.std.proofs.lemmas.Str.{is_utf8-from_IsUtf8, IsUtf8-from_is_utf8}
use Rattle.values.specs.declared.value.Value.TheVariants.{Text}
use Rattle.values.specs.declared.table.ColumnType.TheVariants.{Text as IsText}
use Rattle.interchange.specs.Field.{misfit_of, text_value}
use Rattle.interchange.proofs.field.text_value.Goals as goal

is_text : (field text : List ℕ) → text ≡ field → IsUtf8 field → Text text ≡ text_value field
is_text field text same utf8 = ap Text same ∙ ap (λ t. if t then Text field else misfit_of IsText) (sym (is_utf8-from_IsUtf8 field utf8))

no_text : (field : List ℕ) (t : Bool) → is_utf8 field ≡ t → (IsUtf8 field → ⊥) → misfit_of IsText ≡ (if t then Text field else misfit_of IsText)
no_text field true is none = absurd (none (IsUtf8-from_is_utf8 field is))
no_text field false is none = refl

pub returns-in_ok-copy_of-in-Ok-clause-ok : goal.returns-in_ok-copy_of-in-Ok-clause-ok
returns-in_ok-copy_of-in-Ok-clause-ok c = is_text c.args.field.now c.in_ok-copy_of-in-Ok.field-0 (c.in_ok-copy_of-in-Ok.ensures.ok ∙ c.in-Ok.ensures.cases.0) c.in-Ok.ensures.cases.1

pub returns-in-Err-clause-ok : goal.returns-in-Err-clause-ok
returns-in-Err-clause-ok c = c.misfit_of.ensures ∙ no_text c.args.field.now (is_utf8 c.args.field.now) refl c.in-Err.ensures.cases.0
