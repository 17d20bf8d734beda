pub mod Layout
pub mod Record
pub mod Asked
pub mod Trailer
