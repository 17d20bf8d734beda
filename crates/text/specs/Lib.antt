pub mod Decimal
pub mod Input
pub mod Number
pub mod Word
