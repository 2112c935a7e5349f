pub mod RangeOrder
pub mod RectMeeting
pub mod RectInside
pub mod CutHalves
