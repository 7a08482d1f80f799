pub mod Coded
pub mod Codings
pub mod HeadBound
pub mod Tasks
pub mod Uses
