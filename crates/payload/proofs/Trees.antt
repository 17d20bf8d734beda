-- The laws of a reading: its steps, the tree of members, bounds, refusals, inner levels.
pub mod Walk
pub mod Frame
pub mod Follow
pub mod Level
pub mod Seen
pub mod TreeLaws
pub mod TreeCases
pub mod Unique
pub mod Accepted
pub mod Bounds
pub mod Refusals
pub mod Inner
