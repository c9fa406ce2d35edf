pub mod Marking
pub mod Each
pub mod Stream
pub mod Counting
pub mod Said
pub mod Agreement
pub mod Examples
