-- The log of every history is read off its changes.
use Rattle.std.specs.Prelude.{◌≡◌, ◌≤◌, [], ◌∷◌, ◌++◌, length}
use Rattle.std.specs.List.{AllByRecursion}
use Rattle.values.specs.Tables.{Schema}
use Rattle.values.specs.Log.{Log, changes, last, state}
use Rattle.values.specs.Writes.{most_written}
use Rattle.histories.specs.History.{History, log}
use Rattle.restoring.specs.Rebuilt.{IsNetOver}
use Rattle.restoring.specs.FromChanges.{log_of, AreNets}

-- each transaction's net changes are in order by key, there are some, and not more than a transaction may write
abbrev pub LogsHaveNets : Type 0
LogsHaveNets =
    (first : Schema) (h : History)
    → AreNets (log first h) × AllByRecursion (λ t. length t.net ≤ most_written) (log first h)

-- so the transactions are known by what the store keeps, which is changes alone
abbrev pub HistoriesAreOfChanges : Type 0
HistoriesAreOfChanges =
    (first : Schema) (h : History) → log_of (changes (log first h)) ≡ log first h

-- what each transaction removed was there when it was committed
abbrev pub AllOver : (done rest : Log) → Type 0
AllOver done [] = Unit {0}
AllOver done (t ∷ rest) =
    IsNetOver (state done (last done)) t.net × AllOver (done ++ t ∷ []) rest

abbrev pub LogsAreOver : Type 0
LogsAreOver = (first : Schema) (h : History) → AllOver [] (log first h)
