pub mod NextInstant
