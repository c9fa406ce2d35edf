mod Nodes
mod Ends
mod Fills
mod Bodies
pub mod Told
