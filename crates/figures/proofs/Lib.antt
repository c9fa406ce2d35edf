pub mod Numbers
pub mod Distances
mod Parts
mod Arms
pub mod Bodies
