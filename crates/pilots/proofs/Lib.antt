pub mod Listing
pub mod Numbers
pub mod Truth
