pub mod Storing
pub mod Spellings
pub mod Follows
pub mod Places
pub mod Bodies
