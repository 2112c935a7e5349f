pub mod LineBufferAdding
pub mod LinesEnding
mod LineBufferFeed
