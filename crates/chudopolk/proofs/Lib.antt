mod TableLaws
mod RowLaws
mod HeadLaws
mod ValueLaws
mod Kept
pub mod Promises
mod Back
