-- What taking some bytes of a text does, whatever follows them.
use Rattle.std.specs.Prelude.{◌≡◌, ℕ, List, ◌++◌, Bool, Option}
use Rattle.std.specs.Io.KnownBytes.{Appends}
use Rattle.values.specs.Tables.{Schema}
use Rattle.lines.specs.Partial.{Partial}
use Rattle.scripts.specs.Transcript.{Progress, Reading, Ending, last_reply, written, leaves}

module _ (schema : Schema) (read : Reading) where
  -- these bytes of a text were taken: what was written is what is written for them however the text
  -- ends, and the text leaves what is left from there on
  pub record Feeds
      (old new : Option (List ℕ)) (p : Progress) (line : Partial) (p' : Progress) (line' : Partial)
      (bytes : List ℕ) : Type 0 where
    pub marks : List Bool
    pub out : List ℕ
    pub wrote : Appends old new out
    pub goes_on : (ending : Ending) (more : List Bool) (rest : List ℕ)
        → written schema read ending (marks ++ more) p line (bytes ++ rest)
        ≡ out ++ written schema read ending more p' line' rest
    pub leaves_on : (more : List Bool) (rest : List ℕ)
        → leaves schema read (marks ++ more) p line (bytes ++ rest)
        ≡ leaves schema read more p' line' rest

  -- the writer failed in these bytes: what was written is a prefix, whatever follows
  pub record Breaks
      (old new : Option (List ℕ)) (p : Progress) (line : Partial) (bytes : List ℕ) : Type 0 where
    pub marks : List Bool
    pub out : List ℕ
    pub wrote : Appends old new out
    pub front : (more : List Bool) (rest : List ℕ) → (left : List ℕ)
        × (written schema read (last_reply schema read) (marks ++ more) p line (bytes ++ rest)
        ≡ out ++ left)
