pub mod Table
pub mod Rows
pub mod Head
pub mod Calls
pub mod Promises
