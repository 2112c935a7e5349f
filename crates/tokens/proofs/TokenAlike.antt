-- Readings that end alike.
use Rattle.std.proofs.Common.{◌≡◌, ℕ, List, Err}
use Rattle.tokens.specs.declared.token.Stop.{Stop}
use Rattle.tokens.specs.declared.token.Stop.TheVariants.{At, Memory}
use Rattle.tokens.specs.Token.{Read, Stops}

-- where reading ends at a token, so does the rest
pub stops_alike : {A B : Type 0} (stop : Stop) (read : Read A) (other : Read B) → ((at : List ℕ) → read ≡ Err at → other ≡ Err at) → Stops stop read → Stops stop other
stops_alike (At at) read other alike is = alike at.now is
stops_alike Memory read other alike is = tt
