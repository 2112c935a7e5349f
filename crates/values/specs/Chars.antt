-- The bytes of a text, wherever they are kept.
use Rattle.std.specs.Prelude.{ℕ, List}
use Rattle.std.specs.String.{string_bytes}
use Rattle.values.specs.declared.chars.Text.{Text}
use Rattle.values.specs.declared.chars.Text.TheVariants.{Short, Long}

-- a short text is in the value, a long one behind it
abbrev pub bytes_of : Text → List ℕ
bytes_of (Short t) = t.bytes
bytes_of (Long t) = string_bytes t
