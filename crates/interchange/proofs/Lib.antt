mod KeptFieldBytes
mod KeptFieldNumber
mod KeptFieldHeader
mod KeptFieldRows
mod LoadFields
mod VersionChunks
mod KeySetOrder
mod InsertionKeys
mod InsertionCome
mod OpenRecordText
mod ApartSpansTaken
mod OverlapsFound
pub mod LoadingReads
mod StreamReads
pub mod StreamRows
