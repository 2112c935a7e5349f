pub mod CutMembers
pub mod CutOrder
pub mod CutLaws
pub mod CutNext
mod CutRange
pub mod CutParts
pub mod LawHalves
pub mod LawLast
pub mod LawElsewhere
pub mod NodeLast
pub mod NodeInsert
pub mod NodePut
