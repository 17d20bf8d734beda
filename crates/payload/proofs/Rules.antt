-- The laws of the type table: its cells, its rules, its check.
pub mod CellLaws
pub mod RowLaws
pub mod Rising
pub mod Spread
pub mod CheckLaws
pub mod TableLaws
