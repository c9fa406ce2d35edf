pub mod Search
pub mod Calendar
pub mod Said
