-- The laws of the writer.
pub mod ValueLaws
pub mod Flat
pub mod Nesting
pub mod JudgeLaws
pub mod FineLaws
pub mod SizeLaws
pub mod MeasureLaws
pub mod StoreLaws
pub mod OutcomeLaws
pub mod WriteLaws
pub mod WrittenLaws
pub mod RoomLaws
pub mod WriteWhen
