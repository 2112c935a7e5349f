pub mod Digit
pub mod Name
pub mod Place
pub mod Run
pub mod Token
pub mod TypeName
pub mod Word
