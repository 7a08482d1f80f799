pub mod AdmissionLaws
pub mod HeadLaws
pub mod LayoutLaws
pub mod LengthLaws
pub mod Parts
pub mod RowLaws
pub mod Unique
pub mod Yes
