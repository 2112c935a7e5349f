mod PeriodShown
pub mod SelectionAnswered
pub mod SelectionShown
mod StandingOne
pub mod StandingRows
pub mod SelectionVersions
pub mod WindowListed
pub mod WindowVersions
mod StandingTaken
pub use Rattle.staging.proofs as staging
