pub mod Joined
mod Rules
mod Walking
mod Trees
mod Cases
mod Writing
mod Round
mod Paths
pub mod Promises
