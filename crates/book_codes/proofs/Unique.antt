pub mod OneUse
pub mod Question
pub mod Uses
