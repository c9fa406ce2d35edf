mod Element
pub mod Further
mod Lists
