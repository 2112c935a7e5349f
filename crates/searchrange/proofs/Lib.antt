pub mod EntityEqualities
pub mod EntityRanges
mod NarrowingCovers
mod NarrowingExact
mod NarrowingInRange
mod NarrowingKeeps
mod PrefixBytes
mod NarrowingSteps
mod PrefixValueBytes
mod NarrowingWithin
mod OnlyKeyNarrows
mod OnlyKeyTaken
mod SearchTaken
pub mod SearchOwn
