pub mod Nodes
pub mod Named
