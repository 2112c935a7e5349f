-- What a session keeps of its begin, as contracts see it.
use Rattle.std.specs.Prelude.{ℕ}

-- the begin's number, that of the session's entry before that it names, and the instant of its snapshot
pub record BegunState : Type 0 where
  pub number : ℕ
  pub earlier : ℕ
  pub start : ℕ
