-- Demand 2: what is written is read back the same.
pub mod Lying
pub mod PutLaws
pub mod Judgings
pub mod Built
pub mod OwnTable
pub mod Again
pub mod Outcomes
pub mod Demand2
pub mod Demand2Cases
