pub mod ListingShown
