pub mod ChosenLaws
pub mod Means
pub mod PickMeans
pub mod Picks
pub mod PutLaws
pub mod RowWalk
pub mod RuleStores
pub mod Unique
