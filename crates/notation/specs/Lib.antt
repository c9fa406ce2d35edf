pub mod Notation
pub mod Reading
pub mod Bodies
pub mod Printing
