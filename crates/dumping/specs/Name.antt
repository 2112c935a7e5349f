-- Names in the text of a dump.
use Rattle.std.specs.Prelude.{ℕ, List, ◌++◌}

-- a name between two texts
abbrev pub named : (before name after : List ℕ) → List ℕ
named before name after = before ++ (name ++ after)
