pub mod Client
pub mod Connection
pub mod Loading
pub mod Pile
pub mod Request
pub mod Server
