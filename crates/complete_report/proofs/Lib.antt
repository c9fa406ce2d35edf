pub mod Orders
pub mod Inserted
pub mod ByTick
pub mod SaidReport
pub mod Compared
