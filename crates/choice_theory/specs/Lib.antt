pub mod Can
pub mod Dominates
pub mod Going
pub mod MapsAt
pub mod Marked
pub mod Numbered
pub mod Placed
