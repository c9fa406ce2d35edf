pub mod Held
pub mod Lists
