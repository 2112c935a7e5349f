pub mod RoundStarts
pub mod RoundSteps
pub mod RoundBegun
