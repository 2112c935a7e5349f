-- What sessions and rounds hand over: the receipts of one run.
use Rattle.std.specs.Prelude.{◌≡◌, ◌≤◌, ◌+◌, ◌-◌, ◌^◌, ℕ, List, [], ◌∷◌, ◌++◌, ◌==◌, Option, Some, None, Bool, true, false, not, ◌&&◌, ◌||◌, drop, min, nat_le, nat_lt, is_none, is_some, map, length, slice_set, IsPermutation}
use Rattle.std.specs.List.{AllByRecursion, flat_map, list_all, slice_get}
use Rattle.std.specs.Option.{unwrap_or}
use Rattle.values.specs.Tables.{Schema}
use Rattle.steps.specs.Misfit.{max_session}
use Rattle.serving.specs.BookRefusals.{BookRefusalsState, IsKnown}
use Rattle.serving.specs.Progress.{Given}
use Rattle.serving.specs.ServedSession.{Told}
use Rattle.runs.specs.Run.{IsOfService, IsPart, Part, Sent, given_of, is_reading, last_of, told_of}
use Rattle.listening.specs.Client.{HasTaken}
use Rattle.listening.specs.declared.limit.Limit.{Limit}
use Rattle.listening.specs.declared.limit.Limit.TheVariants.{Sessions, Connections}
use Rattle.listening.specs.declared.pile.Origin.{Origin}
use Rattle.listening.specs.declared.pile.Origin.TheVariants.{Session, Service}

-- some lines of the session with the number were served, and took these receipts; of what the book refused them for
-- this is known
pub record IsServedAs (schema : Schema) (number : ℕ) (refused : BookRefusalsState) (given : List Given)
    : Type 0 where
  pub in_range : number ≤ max_session
  pub taken : HasTaken is_reading schema number refused given

abbrev pub IsOf : Schema → Origin → List Given → Type 0
IsOf schema (Session number has_full has_not_open) given =
    IsServedAs schema number (record { full = has_full; not_open = has_not_open }) given
IsOf schema Service given = AllByRecursion (λ g. IsOfService g.entry) given

-- the numbers of receipts rise, from above this one
abbrev pub rises_from : ℕ → List Given → Bool
rises_from last [] = true
rises_from last (g ∷ given) = nat_lt last g.number && rises_from g.number given

-- by session, from 1 on: the number of its last receipt, 0 before the first, where a connection of it has
-- handed over
abbrev pub Lasts : Type 0
Lasts = List (Option ℕ)

abbrev pub handed_by : Lasts → ℕ → Option ℕ
handed_by lasts number = unwrap_or (slice_get lasts (number - 1)) None

abbrev pub last_for : Lasts → ℕ → ℕ
last_for lasts number = unwrap_or (handed_by lasts number) 0

-- as many connections as can be counted
abbrev pub most_counted : ℕ
most_counted = 2 ^ 64 - 1

-- one more connection can be counted; its receipts rise behind those of the session's connections before it, and
-- its transactions were open where they ended
abbrev pub goes_on : Lasts → (connections : ℕ) → Origin → List Given → Bool
goes_on lasts connections (Session number has_full has_not_open) given =
    nat_lt connections most_counted
    && (nat_lt 0 number && (not has_not_open && rises_from (last_for lasts number) given))
goes_on lasts connections Service given = true

-- how many connections have handed over, where one more has, as far as can be counted
abbrev pub one_more : (connections : ℕ) → Origin → ℕ
one_more connections (Session number has_full has_not_open) = min (connections + 1) most_counted
one_more connections Service = connections

abbrev pub with_last : Lasts → Origin → ℕ → Lasts
with_last lasts (Session number has_full has_not_open) last = slice_set lasts (number - 1) (Some last)
with_last lasts Service last = lasts

-- one more connection has handed over
abbrev pub counted : Lasts → Origin → List Given → Lasts
counted lasts (Session number has_full has_not_open) given =
    with_last lasts (Session number has_full has_not_open) (last_of (last_for lasts number) given)
counted lasts Service given = lasts

-- a connection of the session has handed over before
abbrev pub is_again : Lasts → Origin → Bool
is_again lasts (Session number has_full has_not_open) = is_some (handed_by lasts number)
is_again lasts Service = false

-- a line was refused since the journal is full
abbrev pub has_full_of : Origin → Bool
has_full_of (Session number has_full has_not_open) = has_full
has_full_of Service = false

-- lines were refused by the book for a full journal alone, and only if that is noted
abbrev pub AreKnown : Bool → List Told → Type 0
AreKnown has_full told =
    AllByRecursion (λ t. IsKnown (record { full = has_full; not_open = false }) t.refused) told

-- their numbers are this one and those behind it
abbrev pub AreNumbered : ℕ → List Part → Type 0
AreNumbered n [] = Unit {0}
AreNumbered n (p ∷ parts) = (p.number ≡ n) × AreNumbered (n + 1) parts

abbrev pub last_in : List Sent → List Given → Option ℕ
last_in [] given = None
last_in (s ∷ sent) given = Some (last_of 0 given)

-- these receipts are those of parts of a run, one for each session, of whose connections these are the
-- last numbers, and of its service; all parts have so many connections, and none has two, unless one has
-- handed over again
pub record AreOfRun (schema : Schema) (lasts : Lasts) (connections : ℕ) (again has_full : Bool)
    (given : List Given) : Type 0 where
  pub parts : List Part
  pub service : List Given
  pub are_parts : AllByRecursion (IsPart schema) parts
  pub numbered : AreNumbered 1 parts
  pub wide : length parts ≡ max_session
  pub known : AllByRecursion (λ p. AreKnown has_full (told_of p)) parts
  pub lasts_are : map (λ p. last_in p.sent (given_of p)) parts ≡ lasts
  pub connections_are : length (flat_map (λ p. p.sent) parts) ≡ connections
  pub once : again ≡ false → AllByRecursion (λ p. length p.sent ≤ 1) parts
  pub serviced : AllByRecursion (λ g. IsOfService g.entry) service
  pub given_are : IsPermutation given (flat_map given_of parts ++ service)

-- what was handed over: the receipts, the last numbers of the sessions, by how many connections, whether
-- they can be those of one run, whether a session has handed over again, and whether a line was refused
-- since the journal is full
pub record PileState : Type 0 where
  pub given : List Given
  pub lasts : Lasts
  pub connections : ℕ
  pub is_run : Bool
  pub again : Bool
  pub has_full : Bool

abbrev pub IsPile : Schema → PileState → Type 0
IsPile schema p =
    p.is_run ≡ true → AreOfRun schema p.lasts p.connections p.again p.has_full p.given

-- no more connections have handed over than the limit has it
abbrev pub is_within : Limit → PileState → Bool
is_within (Sessions most) p = not p.again && list_all is_none (drop most p.lasts)
is_within (Connections most) p = most == 0 || nat_le p.connections most
