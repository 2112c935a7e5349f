-- Lines that tell what was done with a table or a store.
use Rattle.std.specs.Prelude.{ℕ, List, ◌++◌, codes, decimal}
use Rattle.statement.specs.Print.{numbered}

-- how many rows were loaded, and the commit instant, 0 where there is none
abbrev pub loaded_text : ℕ → ℕ → List ℕ
loaded_text rows instant = codes "loaded " ++ (decimal rows ++ numbered (codes " at ") instant)
