-- Demand 3: two tables, any order, by paths of Data IDs.
pub mod PathLaws
pub mod Filling
pub mod SeenBy
pub mod Fitting
pub mod Missing
pub mod Lacking
pub mod ByPath
pub mod KnownTree
pub mod Orders
pub mod Reaching
pub mod Moving
pub mod Written
pub mod Demand3
pub mod Demand3Cases
