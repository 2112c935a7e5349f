-- Where a reader is in a record, as a state of the machine of csv.
use Rattle.csv.specs.declared.parser.State.{State}
use Rattle.csv.specs.declared.parser.State.TheVariants as state
use Rattle.csv.specs.declared.parser.Action.{Action}
use Rattle.csv.specs.declared.parser.Action.TheVariants as action
use Rattle.interchange.specs.declared.place.Place.{Place}
use Rattle.interchange.specs.declared.place.Place.TheVariants.{RecordStart, FieldStart, InField, InQuotes, AfterQuote, AfterReturn}
use Rattle.interchange.specs.declared.place.Effect.{Effect}
use Rattle.interchange.specs.declared.place.Effect.TheVariants.{Skip, Copy, EndField, EndRecord}

abbrev pub state_of : Place → State
state_of RecordStart = state.StartRecord
state_of FieldStart = state.StartField
state_of InField = state.InField
state_of InQuotes = state.InQuoted
state_of AfterQuote = state.AfterQuote
state_of AfterReturn = state.AfterCr

abbrev pub action_of : Effect → Action
action_of Skip = action.Skip
action_of Copy = action.Copy
action_of EndField = action.EndField
action_of EndRecord = action.EndRecord
