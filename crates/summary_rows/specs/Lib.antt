pub mod FixedPlaces
pub mod RowCodes
pub mod RowPlaces
pub mod RowTask
pub mod RowsAfter
pub mod Tables
