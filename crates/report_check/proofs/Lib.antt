pub mod FirstOf
pub mod CheckLaw
pub mod Marking
pub mod Entries
pub mod Compares
pub mod Checked
