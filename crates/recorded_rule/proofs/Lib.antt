pub mod Admitted
pub mod Below
