pub mod Work
pub mod Cursors
