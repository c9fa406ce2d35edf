pub mod Splices
pub mod Mapped
