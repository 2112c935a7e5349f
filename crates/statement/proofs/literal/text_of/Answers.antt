use Rattle.std.proofs.Common.{◌≡◌, ℕ, List, Bool, true, false, Some, None, ap, sym, subst, refl, if◌then◌else◌}
use Rattle.std.specs.Prelude.{String, Option}
use Rattle.std.specs.String.{string_bytes}
use Rattle.std.proofs.lemmas.Bool.{false≢true}
use Rattle.std.specs.Str.{IsUtf8, is_utf8}
use Rattle.std.proofs.lemmas.Str.{IsUtf8-string_bytes, is_utf8-from_IsUtf8, IsUtf8-from_is_utf8}
use Rattle.values.specs.declared.value.Value.{Value}
use Rattle.values.specs.declared.value.Value.TheVariants.{Text}
use Rattle.statement.specs.Literal.{text_of}
use Rattle.statement.proofs.literal.text_of.Goals as goal

is_text : {Z : Type 0} (s : String Z) (bytes : List ℕ) → string_bytes s ≡ bytes → Some (Text bytes) ≡ text_of bytes
unfolding text_of
is_text s bytes same =
    let utf8 : is_utf8 bytes ≡ true = is_utf8-from_IsUtf8 bytes (subst IsUtf8 same (IsUtf8-string_bytes s)) in
    ap (λ t. if t then Some (Text bytes) else None) (sym utf8)

no_text : (bytes : List ℕ) (t : Bool) → is_utf8 bytes ≡ t → (IsUtf8 bytes → ⊥) → ◌≡◌ {A = Option Value} None (if t then Some (Text bytes) else None)
no_text bytes true is none = absurd (none (IsUtf8-from_is_utf8 bytes is))
no_text bytes false is none = refl

pub returns-in-Ok : goal.returns-in-Ok
returns-in-Ok c =
    let same : string_bytes c.in-Ok.text ≡ c.args.bytes.items = cc c.in-Ok.ensures.ok in
    let read = is_text c.in-Ok.text c.args.bytes.items same in
    cc

pub returns : goal.returns
unfolding text_of
returns c = no_text c.args.bytes.items (is_utf8 c.args.bytes.items) refl (λ utf8. false≢true (c.in-Err.ensures.succeeds utf8))
