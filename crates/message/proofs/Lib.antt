mod HeaderLaws
mod FieldLaws
mod ReadLaws
mod MessageLaws
mod RowLaws
mod SendLaws
mod Given
mod Demand2
mod Demand3
mod SentLaws
mod SentWhen
mod SentCases
pub mod Promises
