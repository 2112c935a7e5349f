pub mod Listing
pub mod OpenTransactionState
