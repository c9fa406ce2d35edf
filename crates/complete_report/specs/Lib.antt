pub mod Lists
pub mod Report
pub mod Order
pub mod Said
pub mod FalseSteps
