pub mod Checking
pub mod Marks
pub mod Absent
